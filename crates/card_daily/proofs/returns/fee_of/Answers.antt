use Rattle.std.proofs.Common.{◌≡◌, ◌-◌, Some, None, sym, ap, ◌∙◌}
use Rattle.std.specs.Option.{option_map}
use Rattle.std.specs.Prelude.{option_copied}
use Rattle.card_events.specs.History.{anchor_of, corrected, slot_of}
use Rattle.card_model.specs.Effects.{meant_for, payment_at, returned_fee}
use Rattle.card_posts.specs.Posted.{slot_with}
use Rattle.card_daily.specs.Given.{opened_in, row_in, seen_in}
use Rattle.card_daily.proofs.returns.fee_of.Goals as goal

pub returns-in-Some : goal.returns-in-Some
returns-in-Some c b own fees =
    let g = c.args.inputs.now in
    let seen = seen_in g c.args.day in
    let n = c.args.payment in
    let paid = payment_at n seen.posts in
    let all = c.posts.ensures.stands ∙ ap (λ h. corrected (anchor_of h) g.shared.holidays h) c.posts.ensures.history in
    let slot = c.slot-slot.ensures ∙ (ap (slot_with n) all ∙ ap (option_map slot_of) (sym c.requires.seen)) in
    let meant : meant_for b.cycles paid ≡ Some c.in-Some.meant.now = ap (λ cs. meant_for cs paid) own ∙ (sym (c.meant_for.ensures paid slot) ∙ ap option_copied c.in-Some.is) in
    c.fee_for.ensures b own fees ∙ ap (returned_fee (row_in g (c.args.day - opened_in g)) seen b) (sym meant)

pub returns-in-None : goal.returns-in-None
returns-in-None c b own fees =
    let g = c.args.inputs.now in
    let seen = seen_in g c.args.day in
    let n = c.args.payment in
    let paid = payment_at n seen.posts in
    let all = c.posts.ensures.stands ∙ ap (λ h. corrected (anchor_of h) g.shared.holidays h) c.posts.ensures.history in
    let slot = c.slot-slot.ensures ∙ (ap (slot_with n) all ∙ ap (option_map slot_of) (sym c.requires.seen)) in
    let meant : meant_for b.cycles paid ≡ None = ap (λ cs. meant_for cs paid) own ∙ (sym (c.meant_for.ensures paid slot) ∙ ap option_copied c.in-None.is) in
    ap (returned_fee (row_in g (c.args.day - opened_in g)) seen b) (sym meant)
