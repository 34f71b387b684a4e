use Rattle.std.proofs.Common.{ap, ◌∙◌}
use Rattle.card_events.specs.declared.kept.Kept.{Kept}
use Rattle.card_events.specs.declared.post.Post.TheVariants as post
use Rattle.card_model.specs.Refusals.{fits_target, holds_of}
use Rattle.card_reasons.proofs.dispute.is_dispute_named.Goals as goal

pub returns-in-Some-clause-acks : goal.returns-in-Some-clause-acks
returns-in-Some-clause-acks c day = c.is_dispute.ensures.acks day c.args.number ∙ ap (holds_of (λ (k : Kept). fits_target (post.Ack day c.args.number) k.post)) c.in-Some.ensures

pub returns-in-Some-clause-resolves : goal.returns-in-Some-clause-resolves
returns-in-Some-clause-resolves c day cents = c.is_dispute.ensures.resolves day c.args.number cents ∙ ap (holds_of (λ (k : Kept). fits_target (post.Resolve day c.args.number cents) k.post)) c.in-Some.ensures
