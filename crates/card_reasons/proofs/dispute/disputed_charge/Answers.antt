use Rattle.std.proofs.Common.{List, Option, ap, sym, ◌∙◌}
use Rattle.std.specs.Prelude.{not}
use Rattle.std.specs.Option.{option_or}
use Rattle.card_events.specs.History.{at_number}
use Rattle.card_events.specs.declared.kept.Kept.{Kept}
use Rattle.card_events.specs.declared.post.Post.TheVariants as post
use Rattle.card_events.specs.declared.reply.Refusal.{Refusal}
use Rattle.card_events.specs.declared.reply.Refusal.TheVariants as refusal
use Rattle.card_model.specs.Refusals.{fits_target, holds_of, where_true}
use Rattle.card_reasons.proofs.DisputeLemmas.{claimed}
use Rattle.card_reasons.proofs.dispute.disputed_charge.Goals as goal

pub returns : goal.returns
returns c now cents same stands =
    c.first_of-2.ensures
    ∙ ap (λ (o : Option Refusal). option_or o c.first_of.result) c.wrong_target-wrong.ensures ∙ ap (λ (o : Option Refusal). option_or (where_true (not c.is_charge_named.result) (refusal.WrongEntry c.args.charge)) o) c.first_of.ensures
    ∙ claimed now c.args.day c.args.charge cents c.is_charge_named.result c.late_reason-late.result c.known_reason-known.result
    (c.is_charge_named.ensures c.args.day cents ∙ ap (λ (h : List Kept). holds_of (λ k. fits_target (post.Dispute c.args.day c.args.charge cents) k.post) (at_number c.args.charge h)) (sym same))
    (c.late_reason-late.ensures now cents same stands) (c.known_reason-known.ensures now c.args.day cents same)
