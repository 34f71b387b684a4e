use Rattle.std.proofs.Common.{ap, ◌∙◌, arith, pos, w64, get_or}
use Rattle.std.specs.Prelude.{◌≤ℤ◌, unsigned_abs}
use Rattle.std.proofs.lemmas.Int.{to_z-of_z}
use Rattle.card_model.specs.Books.{account_of}
use Rattle.card_model.specs.Effects.{charge_at}
use Rattle.card_model.specs.Entries.{at_least_zero}
use Rattle.card_rates.specs.Laws.{seen_in, segments_on}
use Rattle.card_effects.specs.Seen.{cents_of, charge_seen, segment_of}
use Rattle.card_effects.proofs.HeldSegments.{cents-are, of-rated, segment-is}
use Rattle.card_effects.proofs.HoldStanding.{abs-of, dispute-stands, least-is}
use Rattle.card_effects.proofs.disputes.dispute.Goals as goal

pub returns-clause-stands : goal.returns-clause-stands
returns-clause-stands c day issued shared stands row p b s is =
    let history = c.args.posts.now.history in
    let a = account_of history in
    let seen = seen_in history issued shared c.args.slot.now.day in
    let gs = segments_on history issued shared c.args.slot.now.day in
    let target = c.args.charge in
    let before = c.args.segments.now in
    let g = c.segment_of-segment.result in
    let low = c.segment_of-segment.ensures.low history c.requires.account in
    let known = c.segment_of-segment.ensures.known history c.requires.account in
    let found = c.charge_seen-disputed.ensures.value issued shared stands ∙ ap (charge_seen seen) c.get.ensures.value in
    let q = c.segment_of-segment.ensures.value history issued shared c.requires.account ∙ (ap (segment_of gs) found ∙ segment-is gs (charge_at target seen.posts)) in
    let cents = c.cents_of.ensures ∙ (ap cents_of found ∙ cents-are (charge_at target seen.posts)) in
    let bits = to_z-of_z w64 c.balance.result (record { sfits = c.balance.type_inv }) in
    let plus : pos 0 ≤ℤ get_or before.balances g (pos 0) = c.balance.ensures.signs.owing g (omega (arith, low)) in
    let held = ap unsigned_abs (bits ∙ c.balance.ensures.value) ∙ abs-of (get_or before.balances g (pos 0)) plus in
    let least = ap at_least_zero (to_z-of_z w64 c.least-cents.result (record { sfits = c.least-cents.type_inv }) ∙ c.least-cents.ensures.value)
    ∙ least-is a seen b c.args.rates.now before.balances c.args.out.now.items target c.args.claim g c.cents_of.result _ s known q cents held in
    dispute-stands row a seen p b day target c.args.claim c.args.rates.now before c.hold.new.self c.args.out.now.items c.hold.new.out.items c.args.slot.now c.note_of-note.result g _
    (of-rated history before.segments c.args.rates.now c.requires.account).numbers s is c.note_of-note.ensures q least
    (record { low = low; known = known; moved = c.in_ok-hold.ensures.ok; grown = c.in_ok-hold.ensures.entries })
