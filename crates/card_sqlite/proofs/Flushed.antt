-- Rows that are kept by a flush, and those that wait for one.
use Rattle.std.specs.Prelude.{◌≡◌, ℕ, ◌+◌, ◌==◌, ◌&&◌, Bool, true, false, List, [], ◌∷◌, ◌++◌, Option, None, Some, is_some, option_map}
use Rattle.std.proofs.Common.{refl, sym, ap, subst, ◌∙◌, append-nil, append_assoc, inl}
use Rattle.std.proofs.lemmas.Bool.{eqb-true}
use Rattle.card_ports.specs.declared.row.Row.{Row}
use Rattle.card_sqlite.specs.declared.flush.Lost.{Lost}
use Rattle.card_sqlite.specs.Waiting.{Held, IsBroken}
use Rattle.card_ports.specs.Rows.{AddsRows, GoOn, KeepsRows, are_from, next_after, next_seq}

-- where there are none, they are kept as they stand
pub adds_none : (told : Option (List Row)) → AddsRows told told []
adds_none None = tt
adds_none (Some rows) = sym (append-nil rows)

-- what stays is kept
pub keeps_same : (told : Option (List Row)) → KeepsRows told told
keeps_same None = tt
keeps_same (Some rows) = refl

-- none that waits goes on from any
pub none_goes_on : (told : Option (List Row)) (rows : List Row) → rows ≡ [] → GoOn told rows
unfolding are_from
none_goes_on None rows e = tt
none_goes_on (Some all) rows e = ap (are_from (next_seq all)) e

-- ---- numbers that go on
both : (s t : Bool) → (s && t) ≡ true → (s ≡ true) × (t ≡ true)
both true t e = (refl, e)
both false t e = cc

joined : (s t : Bool) → s ≡ true → t ≡ true → (s && t) ≡ true
joined true t a b = b
joined false t a b = a

next-append : (n : ℕ) (xs ys : List Row) → next_after n (xs ++ ys) ≡ next_after (next_after n xs) ys
unfolding next_after
next-append n [] ys = refl
next-append n (r ∷ rs) ys = next-append (r.seq + 1) rs ys

from-append : (n : ℕ) (xs ys : List Row) → are_from n xs ≡ true → are_from (next_after n xs) ys ≡ true → are_from n (xs ++ ys) ≡ true
unfolding are_from next_after
from-append n [] ys a b = b
from-append n (r ∷ rs) ys a b =
    let here = both (r.seq == n) (are_from (n + 1) rs) a in
    let same = eqb-true r.seq n here.0 in
    joined (r.seq == n) (are_from (n + 1) (rs ++ ys)) here.0 (from-append (n + 1) rs ys here.1 (subst (λ k. are_from (next_after (k + 1) rs) ys ≡ true) same b))

-- more rows go on from those that wait, and these from those that are kept
pub goes_behind : (told : Option (List Row)) (waiting more : List Row) → GoOn told waiting → GoOn (option_map (λ rows. rows ++ waiting) told) more → GoOn told (waiting ++ more)
goes_behind None waiting more a b = tt
goes_behind (Some rows) waiting more a b =
    from-append (next_seq rows) waiting more a (subst (λ k. are_from k more ≡ true) (next-append 1 rows waiting) b)

-- ---- rows behind rows
pub adds_behind : (told : Option (List Row)) (waiting more : List Row) → AddsRows (option_map (λ rows. rows ++ waiting) told) (option_map (λ rows. rows ++ (waiting ++ more)) told) more
adds_behind None waiting more = tt
adds_behind (Some rows) waiting more = sym (append_assoc rows waiting more)

-- what stays and then grows has grown
pub adds_from : (old now new : Option (List Row)) (more : List Row) → KeepsRows old now → AddsRows now new more → AddsRows old new more
adds_from None now new more a b = tt
adds_from (Some xs) None new more a b = absurd a
adds_from (Some xs) (Some ys) None more a b = absurd b
adds_from (Some xs) (Some ys) (Some zs) more a b = b ∙ ap (λ l. l ++ more) a

-- rows that go on from some go on from the same
pub goes_from : (old now : Option (List Row)) (more : List Row) → is_some now ≡ is_some old → KeepsRows old now → GoOn old more → GoOn now more
goes_from None None more told a b = tt
goes_from None (Some ys) more told a b = absurd (cc)
goes_from (Some xs) None more told a b = absurd a
goes_from (Some xs) (Some ys) more told a b = subst (λ l. are_from (next_seq l) more ≡ true) (sym a) b

-- whether they are told doesn't depend on those that wait
pub told_behind : (old now : Option (List Row)) (xs ys : List Row) → is_some now ≡ is_some old → is_some (option_map (λ rows. rows ++ ys) now) ≡ is_some (option_map (λ rows. rows ++ xs) old)
told_behind None None xs ys told = refl
told_behind None (Some b) xs ys told = absurd (cc)
told_behind (Some a) None xs ys told = absurd (cc)
told_behind (Some a) (Some b) xs ys told = refl

-- what was lost before leaves all as it was
pub stays_broken : (h : Held) (l : Lost) → h.lost ≡ Some l → IsBroken h h
stays_broken h l e = (l, e, inl refl)
