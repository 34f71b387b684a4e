use Rattle.std.proofs.Common.{List, sym, subst}
use Rattle.card_events.specs.History.{CorrectedPost, anchor_of}
use Rattle.card_events.specs.declared.kept.Slot.{Slot}
use Rattle.card_posts.specs.Posted.{folding_order}
use Rattle.card_rates.specs.Days.{place_of}
use Rattle.card_rates.specs.SlotLaws.{IsCut}
use Rattle.card_rates.proofs.Places.{of_days}
use Rattle.card_daily.proofs.place.place_near.Goals as goal

pub returns-then-is_at_most : goal.returns-then-is_at_most
returns-then-is_at_most c = λ holidays stands.
    let posts = c.args.posts.now in
    let day = c.args.day in
    let n = place_of day posts.corrected in
    let cut = subst (λ (xs : List Slot). IsCut xs day n) (sym c.in_order-slots.ensures.order)
    (subst (λ (ps : List CorrectedPost). IsCut (folding_order ps) day (place_of day ps)) (sym stands) (of_days.cut (anchor_of posts.history) holidays posts.history day)) in
    c.place_from.ensures n cut (c.is_at_most.ensures n cut c.if-is_at_most.true)

pub returns : goal.returns
returns c = c.first_place.ensures.place
