-- The late fee of a due date, by the whole lists.
use Rattle.std.proofs.Common.{◌≡◌, ℕ, ◌+◌, Bool, true, false, cond, nat_le, List, [], ◌∷◌, ◌++◌, Option, Some, None, refl, sym, ap, ◌∙◌, arith}
use Rattle.std.specs.List.{filter}
use Rattle.card_events.specs.Billing.{cycle_of}
use Rattle.card_events.specs.declared.anchor.Anchor.{Anchor}
use Rattle.card_events.specs.History.{CorrectedPost}
use Rattle.card_events.specs.SharedRows.{FeeRow}
use Rattle.card_fees.specs.Due.{seen_of}
use Rattle.card_fees.specs.DueFee.{due_fee_by, late_by}
use Rattle.card_fees.specs.DueLaws.{issued_fees}
use Rattle.card_fees.proofs.Charges.{missed-asks-last}
use Rattle.card_fees.proofs.PastPosts.{past-posts}
use Rattle.card_model.specs.Books.{Book, present_cycle}
use Rattle.card_model.specs.Cycles.{Cycle, IssuedRow, Seen}
use Rattle.card_model.specs.Fees.{charged_by, charged_fee, fee_by, fee_for, fees_for, last_due, late_fee, row_in_force}
use Rattle.card_model.specs.Payments.{asked, due_cycle_of, is_met, met}
use Rattle.card_model.specs.declared.fee.Cause.{Cause}
use Rattle.card_model.specs.declared.fee.Fee.{Fee}
use Rattle.card_model.specs.declared.fee.FeeKind.TheVariants as kind

-- by the fees of an issued row as by the row
pub caps-fold : (issued : Option IssuedRow) (fee : Option Fee) → charged_fee issued fee ≡ charged_by fees_for (issued_fees issued) fee
caps-fold None None = refl
caps-fold None (Some f) = refl
caps-fold (Some r) None = refl
caps-fold (Some r) (Some f) = refl

pub late-fold : (a : Anchor) (posts : List CorrectedPost) (rows : List FeeRow) (seen : Seen) (b : Book) (before : List Cycle) (c : Cycle) (issued : Option IssuedRow)
    → seen.posts ≡ seen_of seen.day posts → seen.fees ≡ filter (λ r. nat_le r.day seen.day) rows → b.cycles ≡ before ++ c ∷ [] → present_cycle b ≡ cycle_of a seen.day → seen.day ≡ c.due + 1
    → late_fee issued seen b c ≡ due_fee_by rows (issued_fees issued) b.fees a posts (due_cycle_of seen.issued c)
late-fold a posts rows seen b before c issued sees table cycles present on = at (met seen c) refl
  where
    cause : ℕ → ℕ → Cause
    cause cycle day = record { kind = kind.Late; due_cycle = c.number; cycle = cycle; day = day }

    met-is : met seen c ≡ is_met posts (due_cycle_of seen.issued c)
    met-is = ap (λ ps. is_met ps (due_cycle_of seen.issued c)) sees ∙ past-posts.met seen.day posts (due_cycle_of seen.issued c) (omega (arith, on))

    fee-is : met seen c ≡ false → fee_for seen b.cycles b.fees (present_cycle b) kind.Late c ≡ late_by rows b.fees a (due_cycle_of seen.issued c)
    fee-is e =
        ap (λ cs. fee_by (row_in_force seen.fees) b.fees (cause (present_cycle b) seen.day) c.minimum (asked seen.issued (last_due seen.day cs))) cycles
        ∙ ap (fee_by (row_in_force seen.fees) b.fees (cause (present_cycle b) seen.day) c.minimum) (missed-asks-last seen before c on e)
        ∙ ap (λ rs. fee_by (row_in_force rs) b.fees (cause (present_cycle b) seen.day) c.minimum c.minimum) table
        ∙ ap (λ m. fee_by (row_in_force (filter (λ r. nat_le r.day seen.day) rows)) b.fees (cause m seen.day) c.minimum c.minimum) present
        ∙ ap (λ d. fee_by (row_in_force (filter (λ r. nat_le r.day d) rows)) b.fees (cause (cycle_of a d) d) c.minimum c.minimum) on

    at : (m : Bool) → met seen c ≡ m → cond m None (charged_fee issued (fee_for seen b.cycles b.fees (present_cycle b) kind.Late c))
        ≡ cond (is_met posts (due_cycle_of seen.issued c)) None (charged_by fees_for (issued_fees issued) (late_by rows b.fees a (due_cycle_of seen.issued c)))
    at true e = ap (λ z. cond z None (charged_by fees_for (issued_fees issued) (late_by rows b.fees a (due_cycle_of seen.issued c)))) (sym e ∙ met-is)
    at false e =
        ap (charged_fee issued) (fee-is e) ∙ caps-fold issued (late_by rows b.fees a (due_cycle_of seen.issued c))
        ∙ ap (λ z. cond z None (charged_by fees_for (issued_fees issued) (late_by rows b.fees a (due_cycle_of seen.issued c)))) (sym e ∙ met-is)
