use Rattle.std.proofs.Common.{◌≡◌, ◌-◌, length, true, arith, ap, sym, ◌∙◌}
use Rattle.std.specs.Prelude.{slice_index_or}
use Rattle.std.proofs.lemmas.List.{get_or_default}
use Rattle.card_posts.specs.Order.{before}
use Rattle.card_events.specs.declared.kept.Slot.{Slot}
use Rattle.card_posts.proofs.Ordered.{ascending-parted}
use Rattle.card_posts.proofs.order.place_of.Goals as goal

pub returns-then-is_before : goal.returns-then-is_before
returns-then-is_before c =
    let some = c.if-count-gt0.true in
    let is : c.is_before.result ≡ true = c.if-is_before.true in
    let last : (d : Slot) → before (slice_index_or c.args.order.now (length c.args.order.now - 1) d) c.args.slot.now ≡ true =
    λ d. ap (λ u. before u c.args.slot.now) (get_or_default c.args.order.now (length c.args.order.now - 1) d c.index-order-count.result (omega (arith, some)) ∙ sym c.index-order-count.is) ∙ (sym c.is_before.ensures ∙ is) in
    record {
      front = λ k d l m. ascending-parted c.args.slot.now c.args.order.now c.requires k (length c.args.order.now - 1) d (omega (arith, l)) (omega (arith, some)) (last d);
      back = λ k d l m. absurd (omega (arith, l, m));
      within = omega arith;
    }
