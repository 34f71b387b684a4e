-- The numbers of the refusals.
use Rattle.std.specs.Prelude.{ℕ}
use Rattle.card_events.specs.declared.reply.Refusal.{Refusal}
use Rattle.card_events.specs.declared.reply.Refusal.TheVariants as refusal

-- the number of a refusal
abbrev pub refusal_number : Refusal → ℕ
refusal_number refusal.UnknownAccount = 1
refusal_number refusal.AccountExists = 2
refusal_number (refusal.KeyReused number) = 3
refusal_number (refusal.BadTerms field) = 4
refusal_number refusal.AmountRange = 5
refusal_number refusal.DayAhead = 6
refusal_number refusal.DayBeforeOpen = 7
refusal_number refusal.UnknownPlan = 8
refusal_number refusal.OutsidePlan = 9
refusal_number (refusal.PlanEndNotClosing day) = 10
refusal_number refusal.PlanTooShort = 11
refusal_number refusal.SegmentsFull = 12
refusal_number (refusal.WrongEntry number) = 13
refusal_number (refusal.AlreadyReturned number) = 14
refusal_number (refusal.NoticeTooShort day) = 15
refusal_number (refusal.FirstYear day) = 16
refusal_number (refusal.NoticePending day) = 17
refusal_number refusal.NotDelinquent = 18
refusal_number (refusal.DisputeLate day) = 19
refusal_number (refusal.DisputeKnown number) = 20
refusal_number refusal.NoOpenDispute = 21
refusal_number (refusal.NotClosed day) = 22
refusal_number (refusal.RefundTooLarge cents) = 23
refusal_number refusal.NothingToReview = 24
refusal_number refusal.AccountFull = 25
refusal_number refusal.LedgerFull = 26
refusal_number (refusal.RollBack day) = 27
refusal_number refusal.RollTooFar = 28
refusal_number (refusal.PastRow day) = 29
refusal_number refusal.NoIndex = 30
