-- A past that grew, and its front.
use Rattle.std.proofs.Common.{◌≡◌, ℕ, ◌≤◌, List, length, take, ap, ◌∙◌, arith}
use Rattle.card_past.proofs.Grown.{no-longer}
use Rattle.card_past.specs.Pasts.{AreEnds, AreFirst, AreSame, AreWithin, IsEmpty, IsFront, PastBegins}
use Rattle.card_past.specs.declared.past.Ends.{Ends}
use Rattle.card_past.specs.declared.past.Past.{Past}

-- ---- lists
ends-in : {A : Type 0} (n : ℕ) (old new : List A) → n ≡ length old → take (length old) new ≡ old → n ≤ length new
ends-in n old new e h = let l = no-longer old new h in omega (arith, e, l)

front-is : {A : Type 0} (n : ℕ) (old new : List A) → n ≡ length old → take (length old) new ≡ old → take n new ≡ old
front-is n old new e h = ap (λ k. take k new) e ∙ h

-- ---- a past that grew
pub begins-within : (e : Ends) (p q : Past) → AreEnds e p → PastBegins p q → AreWithin e q
begins-within e p q h b = record {
  entries = ends-in e.entries p.track.entries.items q.track.entries.items h.entries b.track.entries;
  cycles = ends-in e.cycles p.track.cycles.items q.track.cycles.items h.cycles b.track.cycles;
  fees = ends-in e.fees p.track.fees.items q.track.fees.items h.fees b.track.fees;
  since = ends-in e.cycles p.since.items q.since.items h.since b.since;
  accrued = ends-in e.accrued p.accrued.items q.accrued.items h.accrued b.accrued;
}

-- cut again it is as it was
pub begins-same : (e : Ends) (p q r : Past) → AreEnds e p → PastBegins p q → IsFront e q r → AreSame p r
begins-same e p q r h b is = record {
  entries = is.entries ∙ front-is e.entries p.track.entries.items q.track.entries.items h.entries b.track.entries;
  cycles = is.cycles ∙ front-is e.cycles p.track.cycles.items q.track.cycles.items h.cycles b.track.cycles;
  fees = is.fees ∙ front-is e.fees p.track.fees.items q.track.fees.items h.fees b.track.fees;
  since = is.since ∙ front-is e.cycles p.since.items q.since.items h.since b.since;
  accrued = is.accrued ∙ front-is e.accrued p.accrued.items q.accrued.items h.accrued b.accrued;
}

-- before the first of each list there is nothing
pub first-front : (e : Ends) (p front : Past) → AreFirst e → IsFront e p front → IsEmpty front
first-front e p front none h = record {
  entries = h.entries ∙ ap (λ n. take n p.track.entries.items) none.entries;
  cycles = h.cycles ∙ ap (λ n. take n p.track.cycles.items) none.cycles;
  fees = h.fees ∙ ap (λ n. take n p.track.fees.items) none.fees;
  since = h.since ∙ ap (λ n. take n p.since.items) none.cycles;
  accrued = h.accrued ∙ ap (λ n. take n p.accrued.items) none.accrued;
}

-- the front of what stayed the same
pub same-front : (e : Ends) (p q front : Past) → AreSame p q → IsFront e q front → IsFront e p front
same-front e p q front s h = record {
  entries = h.entries ∙ ap (take e.entries) s.entries;
  cycles = h.cycles ∙ ap (take e.cycles) s.cycles;
  fees = h.fees ∙ ap (take e.fees) s.fees;
  since = h.since ∙ ap (take e.cycles) s.since;
  accrued = h.accrued ∙ ap (take e.accrued) s.accrued;
}
