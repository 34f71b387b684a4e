-- The last closed cycle before a day.
use Rattle.std.proofs.Common.{◌≡◌, ℕ, suc, ◌+◌, ◌-◌, ◌≤◌, List, [], ◌∷◌, ◌++◌, length, refl, sym, ap, ◌∙◌, subst, arith, Some}
use Rattle.std.specs.Prelude.{slice_get}
use Rattle.std.proofs.lemmas.List.{length-append}
use Rattle.card_events.specs.Billing.{cycle_of}
use Rattle.card_events.specs.Range.{last_request_day}
use Rattle.card_events.specs.History.{anchor_of}
use Rattle.card_model.proofs.Calendar.{cycles_are_of_the_calendar}
use Rattle.card_model.specs.Books.{Book, present_cycle}
use Rattle.card_model.specs.CycleDays.{HasItsDays}
use Rattle.card_model.specs.Cycles.{Cycle, last_cycle}
use Rattle.card_model.specs.Folds.{cycle_at}
use Rattle.card_daily.proofs.Books.{before-is}
use Rattle.card_daily.specs.Given.{Given, IsSound}
use Rattle.card_daily.specs.Stands.{before}

pub record Ends (cs : List Cycle) (c : Cycle) : Type 0 where
  pub front : List Cycle
  pub is : cs ≡ front ++ c ∷ []

pub ends : (cs : List Cycle) (c : Cycle) → last_cycle cs ≡ Some c → Ends cs c
ends [] c e = cc
ends (x ∷ []) c e = let same : x ≡ c = cc in record { front = []; is = ap (λ y. y ∷ []) same }
ends (x ∷ y ∷ ys) c e = let rest = ends (y ∷ ys) c e in record { front = x ∷ rest.front; is = ap (λ l. x ∷ l) rest.is }

at-end : (front : List Cycle) (c : Cycle) → slice_get (front ++ c ∷ []) (length front) ≡ Some c
at-end [] c = refl
at-end (x ∷ front) c = at-end front c

last-at : (cs : List Cycle) (c : Cycle) → Ends cs c → cycle_at (length cs) cs ≡ Some c
last-at cs c e =
    let long : length (e.front ++ c ∷ []) ≡ suc (length e.front) = length-append e.front (c ∷ []) ∙ (let n : length e.front + 1 ≡ suc (length e.front) = omega arith in n) in
    ap (λ l. cycle_at (length l) l) e.is ∙ (ap (λ n. cycle_at n (e.front ++ c ∷ [])) long ∙ at-end e.front c)

-- what is known of it
pub record IsLast (g : Given) (day : ℕ) (c : Cycle) : Type 0 where
  pub ends : Ends (before g day).cycles c
  pub days : HasItsDays (anchor_of g.history) c.number c
  pub first : 1 ≤ c.number
  pub present : present_cycle (before g day) ≡ c.number + 1
  pub now : present_cycle (before g day) ≡ cycle_of (anchor_of g.history) day

pub last-is : (g : Given) (day : ℕ) (c : Cycle) → IsSound g → 1 ≤ day → day ≤ last_request_day → last_cycle (before g day).cycles ≡ Some c → IsLast g day c
last-is g day c s f l e =
    let e' = ends (before g day).cycles c e in
    let at = last-at (before g day).cycles c e' in
    let same = before-is g day f in
    let cycles = (before g day).cycles in
    let days : HasItsDays (anchor_of g.history) (length cycles) c =
    cycles_are_of_the_calendar.days g.history g.issued g.shared (day - 1) (length cycles) c s.opening (omega arith) (ap (λ (b : Book). cycle_at (length cycles) b.cycles) (sym same) ∙ at) in
    let count = cycles_are_of_the_calendar.count g.history g.issued g.shared (day - 1) in
    let long : length cycles ≡ suc (length e'.front) = ap (λ (l : List Cycle). length l) e'.is ∙ (length-append e'.front (c ∷ []) ∙ (let n : length e'.front + 1 ≡ suc (length e'.front) = omega arith in n)) in
    let next : day - 1 + 1 ≡ day = omega arith in
    record {
      ends = e';
      days = subst (λ k. HasItsDays (anchor_of g.history) k c) (sym days.number) days;
      first = let n = days.number in omega (arith, long, n);
      present = ap (λ n. n + 1) (sym days.number);
      now = ap (λ (b : Book). length b.cycles + 1) same ∙ (count ∙ ap (cycle_of (anchor_of g.history)) next);
    }

pub last-get : (cs : List Cycle) → slice_get cs (length cs - 1) ≡ last_cycle cs
last-get [] = refl
last-get (x ∷ []) = refl
last-get (x ∷ y ∷ ys) = let e : length (x ∷ y ∷ ys) - 1 ≡ suc (length (y ∷ ys) - 1) = omega arith in ap (slice_get (x ∷ y ∷ ys)) e ∙ last-get (y ∷ ys)
