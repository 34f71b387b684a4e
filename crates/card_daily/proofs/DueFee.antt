-- The late fee of the day after a due date.
use Rattle.std.proofs.Common.{◌≡◌, ℕ, ◌+◌, ◌-◌, ◌≤◌, List, refl, sym, ap, ◌∙◌, arith, Option}
use Rattle.card_events.specs.Billing.{due}
use Rattle.card_events.specs.declared.anchor.Anchor.{Anchor}
use Rattle.card_fees.proofs.LateFees.{late-fold}
use Rattle.card_fees.specs.DueFee.{due_fee_by}
use Rattle.card_fees.specs.DueLaws.{issued_fees}
use Rattle.card_model.specs.declared.due_cycle.DueCycle.{DueCycle}
use Rattle.card_events.specs.History.{CorrectedPost, anchor_of, corrected}
use Rattle.card_events.specs.SharedRows.{FeeRow}
use Rattle.card_fees.proofs.Days.{closing-from, due-later}
use Rattle.card_model.specs.Caps.{row_for}
use Rattle.card_model.specs.Cycles.{Cycle}
use Rattle.card_model.specs.Fees.{late_fee}
use Rattle.card_model.specs.Payments.{due_cycle_of}
use Rattle.card_model.specs.declared.fee.Fee.{Fee}
use Rattle.card_daily.proofs.Lasts.{IsLast}
use Rattle.card_daily.specs.Given.{Given, opened_in, row_in, seen_in}
use Rattle.card_daily.specs.Stands.{before}

alike : (t u : List FeeRow) (i j : Option (List Fee)) (fs gs : List Fee) (a b : Anchor) (ps qs : List CorrectedPost) (x y : DueCycle) → t ≡ u → i ≡ j → fs ≡ gs → a ≡ b → ps ≡ qs → x ≡ y
    → due_fee_by t i fs a ps x ≡ due_fee_by u j gs b qs y
alike t u i j fs gs a b ps qs x y e f g h k l = rw (e, f, g, h, k, l) refl

pub late-is : (g : Given) (day : ℕ) (c : Cycle) (t : List FeeRow) (i : Option (List Fee)) (fs : List Fee) (a : Anchor) (ps : List CorrectedPost) (x : DueCycle)
    → IsLast g day c → day ≡ c.due + 1 → t ≡ g.shared.fees → i ≡ issued_fees (row_for (c.number + 1) g.issued) → fs ≡ (before g day).fees → a ≡ anchor_of g.history
    → ps ≡ corrected (anchor_of g.history) g.shared.holidays g.history → x ≡ due_cycle_of (seen_in g day).issued c
    → due_fee_by t i fs a ps x ≡ late_fee (row_in g (day - opened_in g)) (seen_in g day) (before g day) c
late-is g day c t i fs a ps x is due table issued fees anchor posts cycle =
    let row = ap (λ n. issued_fees (row_for n g.issued)) (sym is.present) in
    alike t g.shared.fees i _ fs (before g day).fees a (anchor_of g.history) ps (corrected (anchor_of g.history) g.shared.holidays g.history) x (due_cycle_of (seen_in g day).issued c) table (issued ∙ row) fees anchor posts cycle
    ∙ sym (late-fold (anchor_of g.history) (corrected (anchor_of g.history) g.shared.holidays g.history) g.shared.fees (seen_in g day) (before g day) is.ends.front c (row_in g (day - opened_in g)) refl refl is.ends.is is.now due)

-- its number isn't above the day
pub few : (g : Given) (day : ℕ) (c : Cycle) → IsLast g day c → day ≡ c.due + 1 → c.number ≤ day
few g day c is e =
    let from = closing-from (anchor_of g.history) c.number in
    let later = due-later (anchor_of g.history) c.number in
    let same = is.days.due in
    omega arith
