use Rattle.std.proofs.Common.{List, Some, length, ap, sym, ◌∙◌, w64}
use Rattle.std.proofs.lemmas.Int.{to_z-of_z}
use Rattle.card_events.specs.declared.kept.Kept.{Kept}
use Rattle.card_events.specs.declared.reply.Refusal.TheVariants as refusal
use Rattle.card_model.specs.Entries.{credit_balance}
use Rattle.card_model.specs.Refusals.{book_today}
use Rattle.card_reasons.specs.Reasons.{full_reason}
use Rattle.card_reasons.proofs.ReasonLemmas.{refund_above, refund_covered}
use Rattle.card_reasons.proofs.book.refund_reason.Goals as goal

pub returns-then-is_above : goal.returns-then-is_above
returns-then-is_above c now same credit =
    let kept = to_z-of_z w64 c.args.credit c.ranges.credit ∙ credit in
    ap (λ x. Some (refusal.RefundTooLarge x)) kept
    ∙ refund_above now c.args.cents c.requires.amount (sym (c.is_above.ensures (credit_balance (book_today now).entries) kept) ∙ c.if-is_above.true)

pub returns-else-is_above : goal.returns-else-is_above
returns-else-is_above c now same credit =
    let kept = to_z-of_z w64 c.args.credit c.ranges.credit ∙ credit in
    c.full_reason.ensures ∙ ap (λ (h : List Kept). full_reason (length h)) (sym same)
    ∙ refund_covered now c.args.cents c.requires.amount (sym (c.is_above.ensures (credit_balance (book_today now).entries) kept) ∙ c.if-is_above.false)
