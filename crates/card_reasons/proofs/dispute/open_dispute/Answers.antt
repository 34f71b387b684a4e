use Rattle.std.proofs.Common.{List, Option, ap, sym, ◌∙◌}
use Rattle.std.specs.Prelude.{not}
use Rattle.std.specs.Option.{option_or}
use Rattle.card_events.specs.History.{at_number}
use Rattle.card_events.specs.declared.kept.Kept.{Kept}
use Rattle.card_events.specs.declared.post.Post.TheVariants as post
use Rattle.card_events.specs.declared.reply.Refusal.{Refusal}
use Rattle.card_events.specs.declared.reply.Refusal.TheVariants as refusal
use Rattle.card_model.specs.Refusals.{fits_target, holds_of, where_true}
use Rattle.card_reasons.proofs.DisputeLemmas.{acknowledged, resolved_by}
use Rattle.card_reasons.proofs.dispute.open_dispute.Goals as goal

pub returns-clause-acks : goal.returns-clause-acks
returns-clause-acks c now day same =
    c.first_of.ensures
    ∙ ap (λ (o : Option Refusal). option_or o c.resolved_reason.result) c.wrong_target-wrong.ensures ∙ ap (λ (o : Option Refusal). option_or (where_true (not c.is_dispute_named.result) (refusal.WrongEntry c.args.dispute)) o) c.resolved_reason.ensures
    ∙ acknowledged now day c.args.dispute c.is_dispute_named.result c.is_resolved.result
    (c.is_dispute_named.ensures.acks day ∙ ap (λ (h : List Kept). holds_of (λ k. fits_target (post.Ack day c.args.dispute) k.post) (at_number c.args.dispute h)) (sym same)) (c.is_resolved.ensures now same)

pub returns-clause-resolves : goal.returns-clause-resolves
returns-clause-resolves c now day cents same =
    c.first_of.ensures
    ∙ ap (λ (o : Option Refusal). option_or o c.resolved_reason.result) c.wrong_target-wrong.ensures ∙ ap (λ (o : Option Refusal). option_or (where_true (not c.is_dispute_named.result) (refusal.WrongEntry c.args.dispute)) o) c.resolved_reason.ensures
    ∙ resolved_by now day c.args.dispute cents c.is_dispute_named.result c.is_resolved.result
    (c.is_dispute_named.ensures.resolves day cents ∙ ap (λ (h : List Kept). holds_of (λ k. fits_target (post.Resolve day c.args.dispute cents) k.post) (at_number c.args.dispute h)) (sym same)) (c.is_resolved.ensures now same)
