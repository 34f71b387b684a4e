-- Due payments, by the one issued row of a cycle.
use Rattle.std.proofs.Common.{◌≡◌, ℕ, ◌+◌, Bool, true, false, cond, ◌&&◌, ◌||◌, ◌==◌, nat_le, nat_lt, List, [], ◌∷◌, Option, Some, None, is_some, refl, ap, ◌∙◌, subst}
use Rattle.std.specs.List.{All, filter, list_any}
use Rattle.std.specs.Option.{option_map}
use Rattle.std.proofs.lemmas.Bool.{eqb-true}
use Rattle.std.proofs.lemmas.List.Elements.{All-head, All-tail, All-weaker}
use Rattle.card_fees.proofs.Fold.{each}
use Rattle.card_fees.proofs.Slots.{any-filter, any-same}
use Rattle.card_model.specs.Accepted.{AreSingle}
use Rattle.card_model.specs.Caps.{row_for}
use Rattle.card_model.specs.Cycles.{Cycle, IssuedRow}
use Rattle.card_model.specs.Payments.{has_due_payment, is_timely}
use Rattle.card_fees.specs.Asked.{is_due_by}
use Rattle.card_fees.specs.DueLaws.{issue_day}

absorbed : (t s : Bool) → (t || (s && t)) ≡ t
absorbed true s = refl
absorbed false true = refl
absorbed false false = refl

-- where a test says the same of all rows of a cycle
any-single : (n : ℕ) (T : IssuedRow → Bool) (t : Bool) (rs : List IssuedRow) → All (λ r. (r.cycle == n) ≡ true → T r ≡ t) rs → list_any (λ r. (r.cycle == n) && T r) rs ≡ (is_some (row_for n rs) && t)
unfolding row_for
any-single n T t [] h = refl
any-single n T t (r ∷ rs) h = at (r.cycle == n) refl (any-single n T t rs (All-tail (λ r. (r.cycle == n) ≡ true → T r ≡ t) r rs h))
  where
    at : (b : Bool) → (r.cycle == n) ≡ b → list_any (λ r. (r.cycle == n) && T r) rs ≡ (is_some (row_for n rs) && t)
        → ((b && T r) || list_any (λ r. (r.cycle == n) && T r) rs) ≡ (is_some (cond b (Some r) (row_for n rs)) && t)
    at true e q =
        let same : T r ≡ t = All-head (λ r. (r.cycle == n) ≡ true → T r ≡ t) r rs h e in
        ap (λ x. x || list_any (λ r. (r.cycle == n) && T r) rs) same ∙ ap (λ x. t || x) q ∙ absorbed t (is_some (row_for n rs))
    at false e q = q

-- the row of a cycle is the one that is found for it
its-row : (n : ℕ) (issued : List IssuedRow) (r : IssuedRow) → row_for r.cycle issued ≡ Some r → (r.cycle == n) ≡ true → row_for n issued ≡ Some r
its-row n issued r h e = subst (λ m. row_for m issued ≡ Some r) (eqb-true r.cycle n e) h

abbrev in-time : ℕ → ℕ → IssuedRow → Bool
in-time day limit r = nat_lt r.day day && nat_le (r.day + 21) limit

-- the row of a cycle, where it was issued in time
abbrev timely-if : ℕ → ℕ → Option IssuedRow → Bool
timely-if day due None = false
timely-if day due (Some r) = in-time day due r

any-timely : (n day limit : ℕ) (issued : List IssuedRow) (o : Option IssuedRow) → AreSingle issued → row_for n issued ≡ o
    → list_any (λ r. (r.cycle == n) && in-time day limit r) issued ≡ timely-if day limit o
any-timely n day limit issued None single found =
    any-single n (in-time day limit) false issued
    (All-weaker (λ r. row_for r.cycle issued ≡ Some r) (λ r. (r.cycle == n) ≡ true → in-time day limit r ≡ false) (λ r h e. let is = its-row n issued r h e in absurd (cc)) issued single)
    ∙ ap (λ o. is_some o && false) found
any-timely n day limit issued (Some x) single found =
    any-single n (in-time day limit) (in-time day limit x) issued
    (All-weaker (λ r. row_for r.cycle issued ≡ Some r) (λ r. (r.cycle == n) ≡ true → in-time day limit r ≡ in-time day limit x) (λ r h e. let is = its-row n issued r h e in let same : r ≡ x = cc in ap (in-time day limit) same) issued single)
    ∙ ap (λ o. is_some o && in-time day limit x) found

swapped : (x y z : Bool) → (x && (y && z)) ≡ (y && (x && z))
swapped true true z = refl
swapped true false z = refl
swapped false true z = refl
swapped false false z = refl

timely-is : (due day : ℕ) (o : Option IssuedRow) → timely-if day due o ≡ is_due_by due day (option_map (λ r. r.day) o)
timely-is due day None = refl
timely-is due day (Some r) = refl

pub due-single : (issued : List IssuedRow) (day : ℕ) (c : Cycle) → AreSingle issued → has_due_payment (filter (λ r. nat_lt r.day day) issued) c ≡ is_due_by c.due day (issue_day c.number issued)
due-single issued day c single =
    any-filter (is_timely c) (λ r. nat_lt r.day day) issued
    ∙ any-same (λ r. nat_lt r.day day && is_timely c r) (λ r. (r.cycle == c.number) && in-time day c.due r) issued
    (each (λ r. (nat_lt r.day day && is_timely c r) ≡ ((r.cycle == c.number) && in-time day c.due r)) (λ r. swapped (nat_lt r.day day) (r.cycle == c.number) (nat_le (r.day + 21) c.due)) issued)
    ∙ any-timely c.number day c.due issued (row_for c.number issued) single refl
    ∙ timely-is c.due day (row_for c.number issued)
