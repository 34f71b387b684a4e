use Rattle.std.proofs.Common.{rules, arith}
use Rattle.std.proofs.lemmas.List.Sorted.{IsPartitionPoint-from_clause}
use Rattle.card_posts.specs.Order.{before}
use Rattle.card_events.specs.declared.kept.Slot.{Slot}
use Rattle.card_posts.proofs.Ordered.{ascending-parted}
use Rattle.card_posts.proofs.order.place_among.Goals as goal

pub returns : goal.returns
returns c =
    let point = IsPartitionPoint-from_clause (λ (y : Slot). before y c.args.slot.now) _ _ c.partition_point.ensures.partitioned (ascending-parted c.args.slot.now c.args.order.now c.requires) (λ a r q k. search rules) in
    record {
      front = λ k d l m. point.0 k d (omega arith) l;
      back = λ k d l m. point.1 k d l m;
      within = c.partition_point.ensures.bound;
    }
