-- The late fee (12 CFR 1026.52(b)). Amounts are cents.
use Rattle.std.specs.Prelude.{◌+◌, if◌then◌else◌, List, Option, None}
use Rattle.card_events.specs.Billing.{cycle_of}
use Rattle.card_events.specs.declared.anchor.Anchor.{Anchor}
use Rattle.card_events.specs.History.{CorrectedPost}
use Rattle.card_events.specs.SharedRows.{FeeRow}
use Rattle.card_model.specs.Fees.{charged_by, fee_by, fees_for, row_on}
use Rattle.card_model.specs.Payments.{is_met}
use Rattle.card_model.specs.declared.due_cycle.DueCycle.{DueCycle}
use Rattle.card_model.specs.declared.fee.Cause.{Cause}
use Rattle.card_model.specs.declared.fee.Fee.{Fee}
use Rattle.card_model.specs.declared.fee.FeeKind.TheVariants as kind

-- what it is for: it is charged on the day after the due date
abbrev pub late_cause : Anchor → DueCycle → Cause
late_cause a c = record { kind = kind.Late; due_cycle = c.cycle; cycle = cycle_of a (c.due + 1); day = c.due + 1 }

-- by the fee rows and the fees so far: the last due date before its day is the one that was missed
abbrev pub late_by : List FeeRow → List Fee → Anchor → DueCycle → Option Fee
late_by rows fees a c = fee_by (row_on rows (c.due + 1)) fees (late_cause a c) c.minimum c.minimum

-- where the due date wasn't met, at most what was issued for it
abbrev pub due_fee_by : List FeeRow → Option (List Fee) → List Fee → Anchor → List CorrectedPost → DueCycle → Option Fee
due_fee_by rows issued fees a posts c = let charged = charged_by fees_for issued (late_by rows fees a c) in if is_met posts c then None else charged
