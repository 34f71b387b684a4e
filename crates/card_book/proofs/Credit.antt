-- Since when there is a credit balance, day by day.
use Rattle.std.proofs.Common.{◌≡◌, ℕ, zero, suc, ◌-◌, ◌<◌, ◌≤◌, Bool, true, false, cond, List, [], ◌∷◌, ◌++◌, append-nil, refl, ap, ◌∙◌, arith, eqb, leb, Some, None}
use Rattle.std.specs.Prelude.{unwrap_or, nat_le}
use Rattle.std.specs.List.{All, filter}
use Rattle.std.proofs.lemmas.Bool.Decides.{nat_tests}
use Rattle.std.proofs.lemmas.List.Elements.{All-head, All-tail, filter-append}
use Rattle.card_model.specs.Deadlines.{credit_on, credit_run, credit_since}
use Rattle.card_model.specs.Entries.{credit_balance}
use Rattle.card_model.specs.declared.entry.Entry.{Entry}
use Rattle.card_book.specs.Stands.{since_after}

-- ---- entries of a day
none-kept : (x y : ℕ) (es : List Entry) → y < x → All (λ e. e.day ≡ x) es → filter (λ e. nat_le e.day y) es ≡ []
none-kept x y [] l h = refl
none-kept x y (e ∷ es) l h =
    let late : leb e.day y ≡ false = let w = All-head (λ e. e.day ≡ x) e es h in grind (arith, nat_tests) in
    rw late (none-kept x y es l (All-tail (λ e. e.day ≡ x) e es h))

all-kept : (x : ℕ) (es : List Entry) → All (λ e. e.day ≤ x) es → filter (λ e. nat_le e.day x) es ≡ es
all-kept x [] h = refl
all-kept x (e ∷ es) h =
    let early : leb e.day x ≡ true = let w = All-head (λ e. e.day ≤ x) e es h in grind (arith, nat_tests) in
    rw early (ap (λ l. e ∷ l) (all-kept x es (All-tail (λ e. e.day ≤ x) e es h)))

-- the credit balance of an earlier day
on-earlier : (old new : List Entry) (x y : ℕ) → y < x → All (λ e. e.day ≡ x) new → credit_on (old ++ new) y ≡ credit_on old y
unfolding credit_on
on-earlier old new x y l h =
    ap credit_balance (filter-append (λ e. nat_le e.day y) old new ∙ (ap (λ l. filter (λ e. nat_le e.day y) old ++ l) (none-kept x y new l h) ∙ append-nil (filter (λ e. nat_le e.day y) old)))

-- and of the day itself
pub on-last : (es : List Entry) (x : ℕ) → All (λ e. e.day ≤ x) es → credit_on es x ≡ credit_balance es
unfolding credit_on
on-last es x h = ap credit_balance (all-kept x es h)

-- ---- runs
same-run : (es fs : List Entry) (n day : ℕ) → ((y : ℕ) → y ≤ day - 1 → credit_on es y ≡ credit_on fs y) → credit_run es n day ≡ credit_run fs n day
unfolding credit_run
same-run es fs zero day h = refl
same-run es fs (suc n) day h =
    let here = h (day - 1) (omega arith) in
    let rest = same-run es fs n (day - 1) (λ y l. h y (omega arith)) in
    rw (here, rest) refl

pick : (t : Bool) (x m : ℕ) → cond t x m ≡ unwrap_or (cond t None (Some m)) x
pick true x m = refl
pick false x m = refl

-- on a later day than the opening
pub since-next : (old new : List Entry) (o x : ℕ) → o < x → All (λ e. e.day ≤ x) (old ++ new) → All (λ e. e.day ≤ x - 1) old → All (λ e. e.day ≡ x) new
    → credit_since (old ++ new) o x ≡ since_after (credit_balance (old ++ new)) x (credit_since old o (x - 1))
unfolding credit_since credit_run
since-next old new o x l all before here =
    let m = x - 1 - o in
    let long : x - o ≡ suc m = omega arith in
    let earlier = on-earlier old new x (x - 1) (omega arith) here in
    let run = same-run (old ++ new) old m (x - 1) (λ y below. on-earlier old new x y (omega arith) here) in
    let whole : credit_run (old ++ new) (x - o) x ≡ unwrap_or (credit_since old o (x - 1)) x =
    ap (λ n. credit_run (old ++ new) n x) long
    ∙ (ap (λ c. cond (eqb c 0) x (credit_run (old ++ new) m (x - 1))) earlier
    ∙ (ap (cond (eqb (credit_on old (x - 1)) 0) x) run ∙ pick (eqb (credit_on old (x - 1)) 0) x (credit_run old m (x - 1)))) in
    ap (λ c. cond (eqb c 0) None (Some (credit_run (old ++ new) (x - o) x))) (on-last (old ++ new) x all)
    ∙ ap (λ r. cond (eqb (credit_balance (old ++ new)) 0) None (Some r)) whole

-- and on the opening day
pub since-first : (es : List Entry) (o : ℕ) → All (λ e. e.day ≤ o) es → credit_since es o o ≡ since_after (credit_balance es) o None
unfolding credit_since credit_run
since-first es o all =
    let none : o - o ≡ 0 = omega arith in
    ap (λ c. cond (eqb c 0) None (Some (credit_run es (o - o) o))) (on-last es o all)
    ∙ ap (λ n. cond (eqb (credit_balance es) 0) None (Some (credit_run es n o))) none
