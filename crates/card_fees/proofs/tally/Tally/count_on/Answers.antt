use Rattle.std.proofs.Common.{ap, ◌∙◌, subst, sym, arith}
use Rattle.card_events.specs.History.{anchor_of}
use Rattle.card_posts.specs.Order.{IsAscending}
use Rattle.card_posts.proofs.Ordered.{ascending-in_order}
use Rattle.card_fees.specs.Tallied.{not_before}
use Rattle.card_fees.proofs.Slots.{ascending-drop, take-rest}
use Rattle.card_fees.proofs.TallyBounds.{credited-bound, credited-brought, paid-bound, paid-brought}
use Rattle.card_fees.proofs.tally.Tally.count_on.Goals as goal
use Rattle.card_fees.proofs.tally.Tally.count_on.Goals.{then-brought-eq0, else-brought-eq0}

pub place_of-first-requires : goal.place_of-first-requires
place_of-first-requires c = subst IsAscending (sym c.in_order-slots.ensures.order) (ascending-in_order _)

pub bring-brought-requires-clause-order : goal.bring-brought-requires-clause-order
bring-brought-requires-clause-order c =
    subst IsAscending (sym (take-rest c.place_of-first.result c.in_order-slots.result.now))
    (ascending-drop c.place_of-first.result c.in_order-slots.result.now (subst IsAscending (sym c.in_order-slots.ensures.order) (ascending-in_order _)))

pub returns-clause-right : goal.returns-clause-right
returns-clause-right c holidays last stands by t =
    let posts = c.args.posts.now in
    let old = c.args.self.now in
    let a = anchor_of posts.history in
    let parts = take-rest c.place_of-first.result c.in_order-slots.result.now ∙ c.place_of-first.ensures.rest ∙ ap (not_before old.day old.number) c.in_order-slots.ensures.order in
    let most = paid-bound a holidays posts.history posts.corrected c.in_order-slots.result.now old.from c.args.day c.args.number stands c.in_order-slots.ensures.order c.in_order-slots.ensures.bounded in
    let high = credited-bound a holidays posts.history posts.corrected c.in_order-slots.result.now old.from c.args.day c.args.number stands c.in_order-slots.ensures.order c.in_order-slots.ensures.bounded in
    let credits = credited-brought a holidays posts.history posts.corrected _ old.from old.day old.number c.args.day c.args.number old.credited stands parts c.requires.leads t.credited in
    record {
      paid =
          elim c.if-brought-eq0.branch [
            | then-brought-eq0 w ↦
                (let none = sym c.bring-brought.ensures.returns ∙ w.if-brought-eq0.true in
                let on = paid-brought a holidays posts.history posts.corrected _ old.from old.day old.number c.args.day c.args.number old.paid stands parts c.requires.leads t.paid none in
                omega (arith, on, most, w.self-is, w.saturating_add-self.ensures, c.bring-brought.ensures.paid))
            | else-brought-eq0 w ↦
                (let value = w.counted_in_front-self.ensures holidays stands in
                omega (arith, value, most, w.self-is))
          ];
      credited = omega (arith, credits, high, c.saturating_add-self-2.ensures, c.bring-brought.ensures.credited);
      stands = by;
      due = t.due;
      before = t.before;
    }
