-- Going back from a day to a due date, and the day as of which mail is credited.
use Rattle.std.proofs.Common.{◌≡◌, ℕ, zero, suc, ◌+◌, ◌-◌, ◌<◌, ◌≤◌, Bool, true, false, cond, not, ◌&&◌, eqb, nat_lt, nat_eq, List, Option, Some, None, SomeIff, IfSome, refl, sym, ◌∙◌, subst, arith, inl, inr, ◌⊎◌}
use Rattle.std.proofs.lemmas.Bool.{cases_lt, false≢true, and_parts}
use Rattle.std.proofs.lemmas.Bool.Decides.{nat_tests}
use Rattle.card_events.specs.Range.{last_request_day}
use Rattle.card_events.specs.declared.anchor.Anchor.{Anchor}
use Rattle.card_events.specs.Business.{is_business, next_business, is_due, due_before, mail_day}
use Rattle.card_events.specs.Months.{IsLastDue}
use Rattle.card_events.specs.Kept.{AreHolidays}
use Rattle.card_events.specs.Civil.{day_of_month}
use Rattle.card_events.specs.Billing.{closing, due_day_of_month}
use Rattle.card_events.proofs.Cycles.{closing_grows}
use Rattle.card_events.proofs.Business.{first_day-at_most, next_business-later, next_business-is}

-- a later business day is at least the next one
pub next_business-at_most : (xs : List ℕ) (day x : ℕ) → day < x → is_business xs x ≡ true → next_business xs day ≤ x
unfolding next_business
next_business-at_most xs day x l e = first_day-at_most (is_business xs) _ (day + 1) x (omega arith) e

none_test : (b : Bool) (rest : Option ℕ) → rest ≡ None → cond b None rest ≡ None
none_test true rest e = refl
none_test false rest e = e

pub due_before-none : (a : Anchor) (xs : List ℕ) (more day : ℕ) → ((x : ℕ) → x ≤ day → is_due a x ≡ false) → due_before a xs more day ≡ None
unfolding due_before
due_before-none a xs zero day h = refl
due_before-none a xs (suc more) day h =
    rw (h day (omega arith)) (none_test (is_business xs day) (due_before a xs more (day - 1)) (due_before-none a xs more (day - 1) (λ x l. h x (omega arith))))

-- whether no day from the due date to this one is a business day
pub is_quiet : List ℕ → ℕ → ℕ → Bool
is_quiet xs due day = not (is_business xs due) && nat_lt day (next_business xs due)

at_due : (b t : Bool) (day : ℕ) → t ≡ true → cond b None (Some day) ≡ cond (not b && t) (Some day) None
at_due true t day e = refl
at_due false t day e = rw e refl

past_due : (b c : Bool) (early late : Bool) (due : ℕ) → (b ≡ true → late ≡ false) → (b ≡ false → early ≡ late) → cond b None (cond (c && early) (Some due) None) ≡ cond (c && late) (Some due) None
past_due true true early late due p q = rw (p refl) refl
past_due true false early late due p q = refl
past_due false c early late due p q = rw (q refl) refl

pub due_before-some : (a : Anchor) (xs : List ℕ) (more day due : ℕ) → AreHolidays 0 xs → due ≤ last_request_day → due ≤ day → day - due < more → is_due a due ≡ true → ((x : ℕ) → due < x → x ≤ day → is_due a x ≡ false) → due_before a xs more day ≡ cond (is_quiet xs due day) (Some due) None
unfolding due_before is_quiet
due_before-some a xs zero day due h small low room is others = absurd (omega arith)
due_before-some a xs (suc more) day due h small low room is others = by (cases_lt due day) (λ l r. due_before-some a xs more (day - 1) due h small l r is (λ x after before. others x after (omega arith)))
  where
    next : is_business xs (next_business xs due) ≡ true
    next = next_business-is xs due h (omega arith)

    by : (due < day) ⊎ (day ≤ due) → (due ≤ day - 1 → day - 1 - due < more → due_before a xs more (day - 1) ≡ cond (not (is_business xs due) && nat_lt (day - 1) (next_business xs due)) (Some due) None) → cond (is_business xs day) None (cond (is_due a day) (Some day) (due_before a xs more (day - 1))) ≡ cond (not (is_business xs due) && nat_lt day (next_business xs due)) (Some due) None
    by (inr over) rest =
        let same : day ≡ due = omega arith in
        let later = next_business-later xs due in
        let open_still : nat_lt due (next_business xs due) ≡ true = grind (arith, nat_tests) in
        rw (same, is) (at_due (is_business xs due) (nat_lt due (next_business xs due)) due open_still)
    by (inl after) rest =
        let stop : is_business xs day ≡ true → nat_lt day (next_business xs due) ≡ false = λ e. (let most = next_business-at_most xs due day after e in grind (arith, nat_tests)) in
        let same : is_business xs day ≡ false → nat_lt (day - 1) (next_business xs due) ≡ nat_lt day (next_business xs due) = λ e. (let other : ¬ (next_business xs due ≡ day) = λ q. false≢true (sym e ∙ (rw q at next)) in grind (arith, nat_tests)) in
        rw (others day after (omega arith), rest (omega arith) (omega arith)) (past_due (is_business xs day) (not (is_business xs due)) (nat_lt (day - 1) (next_business xs due)) (nat_lt day (next_business xs due)) due stop same)

credited : Option ℕ → ℕ → ℕ
credited met receipt = elim met [ Some day ↦ day | None ↦ receipt ]

quiet_credited : (q : Bool) (due receipt : ℕ) → (elim (cond q (Some due) None) as (λ _. ℕ) [ Some day ↦ day | None ↦ receipt ]) ≡ cond q due receipt
quiet_credited true due receipt = refl
quiet_credited false due receipt = refl

outer : (b c : Bool) (late same : Bool) (due receipt : ℕ) → (b ≡ true → late ≡ same) → cond b (cond (c && late) due receipt) receipt ≡ cond (b && (c && same)) due receipt
outer true c late same due receipt h = rw (h refl) refl
outer false c late same due receipt h = refl

pub mail_day-some : (a : Anchor) (xs : List ℕ) (receipt due : ℕ) → AreHolidays 0 xs → receipt ≤ last_request_day → a.opened ≤ due → IsLastDue a receipt (Some due) → mail_day a xs receipt ≡ cond (is_business xs receipt && (not (is_business xs due) && nat_eq (next_business xs due) receipt)) due receipt
unfolding mail_day is_quiet
mail_day-some a xs receipt due h small low last =
    let before = due_before-some a xs (receipt - a.opened) (receipt - 1) due h (omega (arith, last.0)) (omega (arith, last.0)) (omega (arith, last.0)) last.1 (λ x after up. last.2 x after (omega (arith, last.0))) in
    let timely : is_business xs receipt ≡ true → nat_lt (receipt - 1) (next_business xs due) ≡ nat_eq (next_business xs due) receipt = λ e. (let most = next_business-at_most xs due receipt last.0 e in let l = last.0 in grind (arith, nat_tests)) in
    rw (before, quiet_credited (not (is_business xs due) && nat_lt (receipt - 1) (next_business xs due)) due receipt) (outer (is_business xs receipt) (not (is_business xs due)) (nat_lt (receipt - 1) (next_business xs due)) (nat_eq (next_business xs due) receipt) due receipt timely)

stays : (b : Bool) (receipt : ℕ) → cond b receipt receipt ≡ receipt
stays true receipt = refl
stays false receipt = refl

pub mail_day-none : (a : Anchor) (xs : List ℕ) (receipt : ℕ) → 1 ≤ receipt → IsLastDue a receipt None → mail_day a xs receipt ≡ receipt
unfolding mail_day
mail_day-none a xs receipt low last =
    rw (due_before-none a xs (receipt - a.opened) (receipt - 1) (λ x l. last x (omega arith))) (stays (is_business xs receipt) receipt)

-- the answer of a look-up that is known to succeed
pub last_due-answer : (r : Option ℕ) (P : Type 0) (a : Anchor) (day v : ℕ) → SomeIff r P v → P → IsLastDue a day (Some v) → IsLastDue a day r
last_due-answer None P a day v h p last = absurd (h p)
last_due-answer (Some d) P a day v h p last = subst (λ u. IsLastDue a day (Some u)) (sym h.1) last

-- a due date doesn't lie before the opening day
pub opened_closing : (a : Anchor) → 1 ≤ a.opened → a.opened ≤ closing a 1
opened_closing a low =
    let before : a.opened ≤ closing a 0 + 1 = unfold closing in omega arith in
    omega (arith, closing_grows a 0)

-- the parts of being a due date
pub due_parts : (a : Anchor) (d : ℕ) → is_due a d ≡ true → (eqb (day_of_month d) (due_day_of_month a.close_day) ≡ true) × (nat_lt (closing a 1) d ≡ true)
unfolding is_due
due_parts a d is = and_parts (eqb (day_of_month d) (due_day_of_month a.close_day)) (nat_lt (closing a 1) d) is

pub due-opened : (a : Anchor) (d : ℕ) → 1 ≤ a.opened → is_due a d ≡ true → a.opened ≤ d
due-opened a d low is =
    let after : nat_lt (closing a 1) d ≡ true = (due_parts a d is).1 in
    let later : closing a 1 < d = grind (arith, nat_tests) in
    omega (arith, opened_closing a low)

pub answer-opened : (r : Option ℕ) (a : Anchor) (day : ℕ) → 1 ≤ a.opened → IsLastDue a day r → IfSome r (λ d. a.opened ≤ d)
answer-opened None a day low last = tt
answer-opened (Some d) a day low last = due-opened a d low last.1
