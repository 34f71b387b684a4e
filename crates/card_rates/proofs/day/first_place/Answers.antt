use Rattle.std.proofs.Common.{subst, sym, ap, ◌∙◌}
use Rattle.card_posts.specs.Order.{IsAscending}
use Rattle.card_posts.proofs.Ordered.{ascending-in_order}
use Rattle.card_rates.specs.Days.{slots_before}
use Rattle.card_rates.proofs.Posts.{before-is}
use Rattle.card_rates.proofs.day.first_place.Goals as goal

pub count_before-requires : goal.count_before-requires
count_before-requires c = subst IsAscending (sym c.in_order.ensures.order) (ascending-in_order _)

pub returns : goal.returns
returns c = record {
  place = λ holidays stands. c.count_before.ensures ∙ (ap (slots_before c.args.day) c.in_order.ensures.order ∙ before-is c.args.day c.args.posts.now.corrected);
}
