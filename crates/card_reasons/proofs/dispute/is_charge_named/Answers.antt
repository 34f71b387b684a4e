use Rattle.std.proofs.Common.{ap, ◌∙◌}
use Rattle.card_events.specs.declared.kept.Kept.{Kept}
use Rattle.card_events.specs.declared.post.Post.TheVariants as post
use Rattle.card_model.specs.Refusals.{fits_target, holds_of}
use Rattle.card_reasons.proofs.dispute.is_charge_named.Goals as goal

pub returns-in-Some : goal.returns-in-Some
returns-in-Some c day cents = c.is_charge.ensures day c.args.number cents ∙ ap (holds_of (λ (k : Kept). fits_target (post.Dispute day c.args.number cents) k.post)) c.in-Some.ensures
