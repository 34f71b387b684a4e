use Rattle.std.proofs.Common.{ap, ◌∙◌, w64}
use Rattle.std.proofs.lemmas.Int.{to_z-of_z}
use Rattle.card_model.specs.Books.{account_of}
use Rattle.card_model.specs.Cycles.{post_at}
use Rattle.card_model.specs.Effects.{charge_at, disputed_charge, moved_by}
use Rattle.card_model.specs.Entries.{at_least_zero}
use Rattle.card_rates.specs.Laws.{seen_in, segments_on}
use Rattle.card_effects.specs.Seen.{charge_named, charge_seen, post_seen, segment_of}
use Rattle.card_effects.proofs.HeldSegments.{named-is, of-rated, segment-is}
use Rattle.card_effects.proofs.HoldStanding.{resolve-stands}
use Rattle.card_effects.proofs.resolves.resolve.Goals as goal

pub returns-clause-stands : goal.returns-clause-stands
returns-clause-stands c day cents issued shared stands row p b s is =
    let history = c.args.posts.now.history in
    let a = account_of history in
    let seen = seen_in history issued shared c.args.slot.now.day in
    let gs = segments_on history issued shared c.args.slot.now.day in
    let before = c.args.segments.now in
    let g = c.segment_of-segment.result in
    let low = c.segment_of-segment.ensures.low history c.requires.account in
    let known = c.segment_of-segment.ensures.known history c.requires.account in
    let named = c.charge_named-disputed.ensures ∙ (ap charge_named (c.post_seen.ensures.value issued shared stands ∙ ap (post_seen seen) c.get.ensures.value) ∙ named-is (post_at c.args.dispute seen.posts)) in
    let found = c.charge_seen-charge.ensures.value issued shared stands ∙ ap (charge_seen seen) named in
    let q = c.segment_of-segment.ensures.value history issued shared c.requires.account ∙ (ap (segment_of gs) found ∙ segment-is gs (charge_at (disputed_charge (post_at c.args.dispute seen.posts)) seen.posts)) in
    let moves = ap at_least_zero (to_z-of_z w64 c.moved_by-cents.result (record { sfits = c.moved_by-cents.type_inv }) ∙ c.moved_by-cents.ensures.value) ∙ ap (moved_by c.args.dispute) c.deref.ensures.value in
    resolve-stands row a seen p b day c.args.dispute cents c.args.rates.now before c.release.new.self c.args.out.now.items c.release.new.out.items c.args.slot.now c.note_of-note.result g _
    (of-rated history before.segments c.args.rates.now c.requires.account).numbers s is c.note_of-note.ensures q moves
    (record { low = low; known = known; moved = c.in_ok-release.ensures.ok; grown = c.in_ok-release.ensures.entries })
