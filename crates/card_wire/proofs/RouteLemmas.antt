-- The route that a router of the six routes finds is that of the path.
use Rattle.std.proofs.Common.{◌≡◌, ◌≢◌, ◌⊎◌, inl, inr, ℕ, zero, suc, ◌<◌, Bool, true, false, cond, ltb, ◌==◌, ◌&&◌, List, [], ◌∷◌, ◌++◌, length, Option, None, Some, option_and_then, codes, refl, ap, sym, ◌∙◌, subst, arith}
use Rattle.std.proofs.lemmas.Bool.Decides.{nat_tests}
use mathlib.Core.Bool.{true≢false}
use Rattle.std.specs.List.{onto_first}
use Rattle.std.specs.Str.{bytes_eq}
use Rattle.std.specs.Cmp.Lexicographic.{bytes_decides}
use Rattle.card_lines.specs.Forms.{number_of, is_decimal}
use Rattle.card_wire.specs.Routes.{account_of, below_account, numbered, behind_slash, of_account, alone, rooted, parts, route_of}
use Rattle.matchit.specs.Level.{IsText}
use Rattle.matchit.specs.Rows.{Rows, prepend, ends}
use Rattle.matchit.specs.Seek.{first, has_slash, or_else, seek}
use Rattle.matchit.proofs.SeekLemmas.{first-prefix}
use Rattle.card_wire.proofs.RowLemmas.{six, differ, rows_below, rows_behind, behind_part, slash_no, root_first, account_first, word_slash, word_none, word_whole, word_beyond, last_param, last_stop, param_nothing, account_last, account_none, account_more, has_slash_cut}

-- ---- the first part of a path

-- it has a slash, behind its first part
pub record Cut (path : List ℕ) : Type 0 where
  pub part : List ℕ
  pub rest : List ℕ
  pub is : path ≡ part ++ 47 ∷ rest
  pub none : has_slash part ≡ false

-- one more byte in front
cut_more : (b : ℕ) (bs : List ℕ) → (b == 47) ≡ false → (has_slash bs ≡ false) ⊎ Cut bs → (has_slash (b ∷ bs) ≡ false) ⊎ Cut (b ∷ bs)
cut_more b bs differs (inl none) = inl (rw differs none)
cut_more b bs differs (inr c) = inr (record { part = b ∷ c.part; rest = c.rest; is = ap (λ l. b ∷ l) c.is; none = rw differs c.none })

-- a path of one part, or its first part and what is behind the slash
pub cut : (path : List ℕ) → (has_slash path ≡ false) ⊎ Cut path
cut [] = inl refl
cut (b ∷ bs) = by (b == 47) refl (cut bs)
  where
    by : (v : Bool) → (b == 47) ≡ v → (has_slash bs ≡ false) ⊎ Cut bs → (has_slash (b ∷ bs) ≡ false) ⊎ Cut (b ∷ bs)
    by true e more =
        let same : b ≡ 47 = grind (arith, nat_tests) in
        inr (record { part = []; rest = bs; is = ap (λ (x : ℕ). x ∷ bs) same; none = refl })
    by false e more = cut_more b bs e more

-- its parts
pub parts_last : (path : List ℕ) → has_slash path ≡ false → parts path ≡ path ∷ []
parts_last [] none = refl
parts_last (b ∷ bs) none = rw (differ b 47 (slash_no b bs none).0) (ap (onto_first b) (parts_last bs (slash_no b bs none).1))

pub parts_cut : (part rest : List ℕ) → has_slash part ≡ false → parts (part ++ 47 ∷ rest) ≡ part ∷ parts rest
parts_cut [] rest none = refl
parts_cut (b ∷ bs) rest none = rw (differ b 47 (slash_no b bs none).0) (ap (onto_first b) (parts_cut bs rest (slash_no b bs none).1))

-- there is one at least
parts_some : (path : List ℕ) → (one : List ℕ) × (others : List (List ℕ)) × (parts path ≡ one ∷ others)
parts_some path = elim (cut path) [
  | inl none ↦ (path, [], parts_last path none)
  | inr c ↦ (c.part, parts c.rest, ap parts c.is ∙ parts_cut c.part c.rest c.none)
]

-- ---- bytes

same_bytes : (a b : List ℕ) → bytes_eq a b ≡ true → a ≡ b
same_bytes a b e = (bytes_decides a b).0 e

text_rest : (a b : List ℕ) → IsText (a ++ b) → IsText b
text_rest [] b text = text
text_rest (x ∷ a) b text = text_rest a b text.1

no_param : (b : ℕ) → b < 256 → b ≢ 256
no_param b low e = omega arith

-- ---- the last part

-- a part of a path that isn't empty
pub record IsPart (text : List ℕ) : Type 0 where
  pub none : has_slash text ≡ false
  pub some : 0 < length text

-- the route that ends here is found, or there is none
abbrev EndsIn : Option ℕ → ℕ → List ℕ → Type 0
EndsIn (Some n) k path = (n ≡ k) × IsPart path
EndsIn None k path = (what account : List ℕ) → below_account (what ∷ parts path) account ≡ None

pub ends_in : (k : ℕ) (path : List ℕ) → IsText path → EndsIn (first (prepend (256 ∷ []) (ends (Some k))) path) k path
unfolding below_account number_of is_decimal
ends_in k [] text = subst (λ (o : Option ℕ). EndsIn o k []) (sym (param_nothing (ends (Some k)))) (λ what account. refl)
ends_in k (b ∷ bs) text = elim (cut (b ∷ bs)) [
  | inl none ↦ subst (λ (o : Option ℕ). EndsIn o k (b ∷ bs)) (sym (last_param k b bs (no_param b text.0) none)) (refl, record { none = none; some = omega arith })
  | inr c ↦
      let some : has_slash (b ∷ bs) ≡ true = ap has_slash c.is ∙ has_slash_cut c.part c.rest in
      let there = parts_some c.rest in
      let all : parts (b ∷ bs) ≡ c.part ∷ there.0 ∷ there.1 = ap parts c.is ∙ parts_cut c.part c.rest c.none ∙ ap (λ l. c.part ∷ l) there.2 in
      subst (λ (o : Option ℕ). EndsIn o k (b ∷ bs)) (sym (last_stop k b bs (no_param b text.0) some)) (λ what account. ap (λ (ps : List (List ℕ)). below_account (what ∷ ps) account) all)
]

-- ---- literals

unfoldable pub all_low : List ℕ → Bool
all_low [] = true
all_low (b ∷ bs) = ltb b 256 && all_low bs

low_split : (u v : Bool) → (u && v) ≡ true → (u ≡ true) × (v ≡ true)
low_split true v e = (refl, e)
low_split false v e = absurd (cc e)

pub literal : (w : List ℕ) → all_low w ≡ true → IsText w
unfolding all_low
literal [] e = tt
literal (b ∷ bs) e =
    let both = low_split (ltb b 256) (all_low bs) e in
    let low : ltb b 256 ≡ true = both.0 in
    (grind (arith, nat_tests, low), literal bs both.1)

-- ---- below an account

-- what is found there is there, or there is no route
abbrev IsBelow : Option ℕ → List ℕ → Type 0
IsBelow None more = (account : List ℕ) → below_account (parts more) account ≡ None
IsBelow (Some zero) more = ⊥
IsBelow (Some (suc zero)) more = ⊥
IsBelow (Some (suc (suc zero))) more = (c : List ℕ) × IsPart c × (more ≡ codes "statements/" ++ c)
IsBelow (Some (suc (suc (suc zero)))) more = (c : List ℕ) × IsPart c × (more ≡ codes "cycles/" ++ c)
IsBelow (Some (suc (suc (suc (suc zero))))) more = more ≡ codes "entries"
IsBelow (Some (suc (suc (suc (suc (suc n)))))) more = ⊥

abbrev param_row : ℕ → Rows
param_row k = prepend (256 ∷ []) (ends (Some k))

below_last : (more : List ℕ) → has_slash more ≡ false → IsBelow (first rows_below more) more
unfolding below_account all_low
below_last more none = subst (λ (o : Option ℕ). IsBelow o more) (sym found) (by (bytes_eq more (codes "entries")) refl)
  where
    found : first rows_below more ≡ or_else None (or_else (cond (bytes_eq more (codes "entries")) (Some 4) None) None)
    found = account_first more ∙ rw (word_none (codes "cycles") (param_row 3) more (literal (codes "cycles/") refl) none, word_whole (codes "entries") 4 more (literal (codes "entries") refl), word_none (codes "statements") (param_row 2) more (literal (codes "statements/") refl) none) refl

    by : (v : Bool) → bytes_eq more (codes "entries") ≡ v → IsBelow (or_else None (or_else (cond v (Some 4) None) None)) more
    by true e = same_bytes more (codes "entries") e
    by false e = λ account. ap (λ (ps : List (List ℕ)). below_account ps account) (parts_last more none) ∙ rw e refl

below_first : (what rest : List ℕ) → has_slash what ≡ false
    → first rows_below (what ++ 47 ∷ rest) ≡ or_else (cond (bytes_eq what (codes "cycles")) (first (param_row 3) rest) None) (or_else None (cond (bytes_eq what (codes "statements")) (first (param_row 2) rest) None))
unfolding all_low
below_first what rest none =
    account_first (what ++ 47 ∷ rest) ∙ rw (word_slash (codes "cycles") (param_row 3) what rest (literal (codes "cycles/") refl) refl none, word_beyond (codes "entries") 4 what rest (literal (codes "entries") refl) refl, word_slash (codes "statements") (param_row 2) what rest (literal (codes "statements/") refl) refl none) refl

-- a cycle, and a statement
below_cycle : (rest : List ℕ) → (o : Option ℕ) → EndsIn o 3 rest → IsBelow (or_else o None) (codes "cycles/" ++ rest)
below_cycle rest (Some n) e = subst (λ (k : ℕ). IsBelow (Some k) (codes "cycles/" ++ rest)) (sym e.0) (rest, e.1, refl)
below_cycle rest None e = λ account. e (codes "cycles") account

below_statement : (rest : List ℕ) → (o : Option ℕ) → EndsIn o 2 rest → IsBelow o (codes "statements/" ++ rest)
below_statement rest (Some n) e = subst (λ (k : ℕ). IsBelow (Some k) (codes "statements/" ++ rest)) (sym e.0) (rest, e.1, refl)
below_statement rest None e = λ account. e (codes "statements") account

-- neither
numbered_none : (what account : List ℕ) (n : Option ℕ) → bytes_eq what (codes "statements") ≡ false → bytes_eq what (codes "cycles") ≡ false → option_and_then (numbered what account) n ≡ None
unfolding numbered
numbered_none what account None s c = refl
numbered_none what account (Some n) s c = rw (s, c) refl

below_none : (what account one : List ℕ) (others : List (List ℕ)) → bytes_eq what (codes "statements") ≡ false → bytes_eq what (codes "cycles") ≡ false → below_account (what ∷ one ∷ others) account ≡ None
unfolding below_account
below_none what account one [] s c = numbered_none what account (number_of one) s c
below_none what account one (other ∷ others) s c = refl

below_cut : (what rest : List ℕ) → IsText rest → has_slash what ≡ false → IsBelow (first rows_below (what ++ 47 ∷ rest)) (what ++ 47 ∷ rest)
below_cut what rest text none = subst (λ (o : Option ℕ). IsBelow o (what ++ 47 ∷ rest)) (sym (below_first what rest none)) (by (bytes_eq what (codes "cycles")) refl (bytes_eq what (codes "statements")) refl)
  where
    by : (u : Bool) → bytes_eq what (codes "cycles") ≡ u → (v : Bool) → bytes_eq what (codes "statements") ≡ v
        → IsBelow (or_else (cond u (first (param_row 3) rest) None) (or_else None (cond v (first (param_row 2) rest) None))) (what ++ 47 ∷ rest)
    by true e true f =
        let both : bytes_eq (codes "cycles") (codes "statements") ≡ true = subst (λ (w : List ℕ). bytes_eq w (codes "statements") ≡ true) (same_bytes what (codes "cycles") e) f in
        absurd (true≢false (sym both))
    by true e false f = subst (λ (w : List ℕ). IsBelow (or_else (first (param_row 3) rest) None) (w ++ 47 ∷ rest)) (sym (same_bytes what (codes "cycles") e)) (below_cycle rest (first (param_row 3) rest) (ends_in 3 rest text))
    by false e true f = subst (λ (w : List ℕ). IsBelow (first (param_row 2) rest) (w ++ 47 ∷ rest)) (sym (same_bytes what (codes "statements") f)) (below_statement rest (first (param_row 2) rest) (ends_in 2 rest text))
    by false e false f = λ account.
        let there = parts_some rest in
        ap (λ (ps : List (List ℕ)). below_account ps account) (parts_cut what rest none ∙ ap (λ l. what ∷ l) there.2) ∙ below_none what account there.0 there.1 f e

below_is : (more : List ℕ) → IsText more → IsBelow (first rows_below more) more
below_is more text = elim (cut more) [
  | inl none ↦ below_last more none
  | inr c ↦ subst (λ (l : List ℕ). IsBelow (first rows_below l) l) (sym c.is) (below_cut c.part c.rest (text_rest (47 ∷ []) c.rest (text_rest c.part (47 ∷ c.rest) (subst IsText c.is text))) c.none)
]

-- ---- behind `/accounts/`

abbrev IsBehind : Option ℕ → List ℕ → Type 0
IsBehind None path = of_account (parts path) ≡ None
IsBehind (Some zero) path = ⊥
IsBehind (Some (suc zero)) path = IsPart path
IsBehind (Some (suc (suc zero))) path = (a : List ℕ) × (c : List ℕ) × IsPart a × IsPart c × (path ≡ a ++ 47 ∷ (codes "statements/" ++ c))
IsBehind (Some (suc (suc (suc zero)))) path = (a : List ℕ) × (c : List ℕ) × IsPart a × IsPart c × (path ≡ a ++ 47 ∷ (codes "cycles/" ++ c))
IsBehind (Some (suc (suc (suc (suc zero))))) path = (a : List ℕ) × IsPart a × (path ≡ a ++ 47 ∷ codes "entries")
IsBehind (Some (suc (suc (suc (suc (suc n)))))) path = ⊥

-- an account, and what is below it
none_below : (ps : List (List ℕ)) (o : Option (List ℕ)) → ((account : List ℕ) → below_account ps account ≡ None) → option_and_then (below_account ps) o ≡ None
none_below ps None none = refl
none_below ps (Some account) none = none account

behind_below : (a rest : List ℕ) → IsPart a → (o : Option ℕ) → IsBelow o rest → IsBehind o (a ++ 47 ∷ rest)
unfolding of_account
behind_below a rest part None below = ap of_account (parts_cut a rest part.none) ∙ none_below (parts rest) (account_of a) below
behind_below a rest part (Some zero) below = below
behind_below a rest part (Some (suc zero)) below = absurd below
behind_below a rest part (Some (suc (suc zero))) below = (a, below.0, part, below.1, ap (λ (l : List ℕ). a ++ 47 ∷ l) below.2)
behind_below a rest part (Some (suc (suc (suc zero)))) below = (a, below.0, part, below.1, ap (λ (l : List ℕ). a ++ 47 ∷ l) below.2)
behind_below a rest part (Some (suc (suc (suc (suc zero))))) below = (a, part, ap (λ (l : List ℕ). a ++ 47 ∷ l) below)
behind_below a rest part (Some (suc (suc (suc (suc (suc n)))))) below = below

behind_cut : (a rest : List ℕ) → IsText (a ++ 47 ∷ rest) → has_slash a ≡ false → IsBehind (first (behind_part rows_below 1) (a ++ 47 ∷ rest)) (a ++ 47 ∷ rest)
unfolding of_account
behind_cut [] rest text none = subst (λ (o : Option ℕ). IsBehind o (47 ∷ rest)) (sym (account_none rows_below 1 rest (omega arith))) refl
behind_cut (b ∷ bs) rest text none =
    let found : first (behind_part rows_below 1) (b ∷ bs ++ 47 ∷ rest) ≡ first rows_below rest = account_more rows_below 1 b bs rest (omega arith) (no_param b text.0) none ∙ first-prefix (47 ∷ []) rows_below (47 ∷ rest) (omega arith, tt) in
    let below = below_is rest (text_rest (47 ∷ []) rest (text_rest (b ∷ bs) (47 ∷ rest) text)) in
    subst (λ (o : Option ℕ). IsBehind o (b ∷ bs ++ 47 ∷ rest)) (sym found) (behind_below (b ∷ bs) rest (record { none = none; some = omega arith }) (first rows_below rest) below)

behind_is : (path : List ℕ) → IsText path → IsBehind (first (behind_part rows_below 1) path) path
unfolding of_account
behind_is [] text = subst (λ (o : Option ℕ). IsBehind o []) (sym (param_nothing (prepend (47 ∷ []) rows_below ++ ends (Some 1)))) refl
behind_is (b ∷ bs) text = elim (cut (b ∷ bs)) [
  | inl none ↦ subst (λ (o : Option ℕ). IsBehind o (b ∷ bs)) (sym (account_last rows_below 1 b bs (omega arith) (no_param b text.0) none)) (record { none = none; some = omega arith })
  | inr c ↦ subst (λ (l : List ℕ). IsBehind (first (behind_part rows_below 1) l) l) (sym c.is) (behind_cut c.part c.rest (subst IsText c.is text) c.none)
]

-- ---- whole paths

-- what is found is the path's, or the path has no route
abbrev pub IsAt : Option ℕ → List ℕ → Type 0
IsAt None path = route_of path ≡ None
IsAt (Some zero) path = path ≡ codes "/posts"
IsAt (Some (suc zero)) path = (a : List ℕ) × IsPart a × (path ≡ codes "/accounts/" ++ a)
IsAt (Some (suc (suc zero))) path = (a : List ℕ) × (c : List ℕ) × IsPart a × IsPart c × (path ≡ codes "/accounts/" ++ a ++ 47 ∷ (codes "statements/" ++ c))
IsAt (Some (suc (suc (suc zero)))) path = (a : List ℕ) × (c : List ℕ) × IsPart a × IsPart c × (path ≡ codes "/accounts/" ++ a ++ 47 ∷ (codes "cycles/" ++ c))
IsAt (Some (suc (suc (suc (suc zero))))) path = (a : List ℕ) × IsPart a × (path ≡ codes "/accounts/" ++ a ++ 47 ∷ codes "entries")
IsAt (Some (suc (suc (suc (suc (suc zero)))))) path = path ≡ codes "/work"
IsAt (Some (suc (suc (suc (suc (suc (suc n))))))) path = ⊥

accounts_is : (one : List ℕ) (others : List (List ℕ)) → of_account (one ∷ others) ≡ None → behind_slash (codes "accounts" ∷ one ∷ others) ≡ None
unfolding behind_slash
accounts_is one others none = none

at_behind : (rest : List ℕ) (o : Option ℕ) → IsBehind o rest → IsAt o (codes "/accounts/" ++ rest)
unfolding rooted
at_behind rest None none =
    let there = parts_some rest in
    ap (λ (ps : List (List ℕ)). behind_slash (codes "accounts" ∷ ps)) there.2 ∙ accounts_is there.0 there.1 (sym (ap of_account there.2) ∙ none)
at_behind rest (Some zero) b = absurd b
at_behind rest (Some (suc zero)) b = (rest, b, refl)
at_behind rest (Some (suc (suc zero))) b = (b.0, b.1, b.2, b.3, ap (λ (l : List ℕ). codes "/accounts/" ++ l) b.4)
at_behind rest (Some (suc (suc (suc zero)))) b = (b.0, b.1, b.2, b.3, ap (λ (l : List ℕ). codes "/accounts/" ++ l) b.4)
at_behind rest (Some (suc (suc (suc (suc zero))))) b = (b.0, b.1, ap (λ (l : List ℕ). codes "/accounts/" ++ l) b.2)
at_behind rest (Some (suc (suc (suc (suc (suc n)))))) b = absurd b

root_last : (p : List ℕ) → has_slash p ≡ false → IsAt (first six (47 ∷ p)) (47 ∷ p)
unfolding rooted behind_slash alone all_low
root_last p none = subst (λ (o : Option ℕ). IsAt o (47 ∷ p)) (sym found) (by (bytes_eq p (codes "posts")) refl (bytes_eq p (codes "work")) refl)
  where
    found : first six (47 ∷ p) ≡ or_else None (or_else (cond (bytes_eq p (codes "posts")) (Some 0) None) (cond (bytes_eq p (codes "work")) (Some 5) None))
    found = root_first p ∙ rw (word_none (codes "accounts") (behind_part rows_below 1) p (literal (codes "accounts/") refl) none, word_whole (codes "posts") 0 p (literal (codes "posts") refl), word_whole (codes "work") 5 p (literal (codes "work") refl)) refl

    by : (u : Bool) → bytes_eq p (codes "posts") ≡ u → (v : Bool) → bytes_eq p (codes "work") ≡ v → IsAt (or_else None (or_else (cond u (Some 0) None) (cond v (Some 5) None))) (47 ∷ p)
    by true e v f = ap (λ (l : List ℕ). 47 ∷ l) (same_bytes p (codes "posts") e)
    by false e true f = ap (λ (l : List ℕ). 47 ∷ l) (same_bytes p (codes "work") f)
    by false e false f = ap (λ (ps : List (List ℕ)). rooted ([] ∷ ps)) (parts_last p none) ∙ rw (e, f) refl

root_cut : (what rest : List ℕ) → IsText rest → has_slash what ≡ false → IsAt (first six (47 ∷ what ++ 47 ∷ rest)) (47 ∷ what ++ 47 ∷ rest)
unfolding rooted behind_slash all_low
root_cut what rest text none = subst (λ (o : Option ℕ). IsAt o (47 ∷ what ++ 47 ∷ rest)) (sym found) (by (bytes_eq what (codes "accounts")) refl)
  where
    found : first six (47 ∷ what ++ 47 ∷ rest) ≡ or_else (cond (bytes_eq what (codes "accounts")) (first (behind_part rows_below 1) rest) None) (or_else None None)
    found = root_first (what ++ 47 ∷ rest) ∙ rw (word_slash (codes "accounts") (behind_part rows_below 1) what rest (literal (codes "accounts/") refl) refl none, word_beyond (codes "posts") 0 what rest (literal (codes "posts") refl) refl, word_beyond (codes "work") 5 what rest (literal (codes "work") refl) refl) refl

    or_none : (o : Option ℕ) → o ≡ or_else o None
    or_none None = refl
    or_none (Some k) = refl

    by : (u : Bool) → bytes_eq what (codes "accounts") ≡ u → IsAt (or_else (cond u (first (behind_part rows_below 1) rest) None) None) (47 ∷ what ++ 47 ∷ rest)
    by true e =
        subst (λ (w : List ℕ). IsAt (or_else (first (behind_part rows_below 1) rest) None) (47 ∷ w ++ 47 ∷ rest)) (sym (same_bytes what (codes "accounts") e))
        (subst (λ (o : Option ℕ). IsAt o (codes "/accounts/" ++ rest)) (or_none (first (behind_part rows_below 1) rest)) (at_behind rest (first (behind_part rows_below 1) rest) (behind_is rest text)))
    by false e =
        let there = parts_some rest in
        ap (λ (ps : List (List ℕ)). rooted ([] ∷ ps)) (parts_cut what rest none ∙ ap (λ l. what ∷ l) there.2) ∙ rw e refl

not_rooted : (b : ℕ) (one : List ℕ) (others : List (List ℕ)) → rooted ((b ∷ one) ∷ others) ≡ None
unfolding rooted
not_rooted b one others =
    let some : (length (b ∷ one) == 0) ≡ false = grind (arith, nat_tests) in
    rw some refl

pub at_is : (path : List ℕ) → IsText path → IsAt (first six path) path
unfolding rooted behind_slash seek
at_is [] text = refl
at_is (b ∷ bs) text = by (47 == b) refl (cut bs)
  where
    by : (v : Bool) → (47 == b) ≡ v → (has_slash bs ≡ false) ⊎ Cut bs → IsAt (first six (b ∷ bs)) (b ∷ bs)
    by true e (inl none) =
        let same : 47 ≡ b = grind (arith, nat_tests) in
        subst (λ (x : ℕ). IsAt (first six (x ∷ bs)) (x ∷ bs)) same (root_last bs none)
    by true e (inr c) =
        let same : 47 ≡ b = grind (arith, nat_tests) in
        subst (λ (x : ℕ). IsAt (first six (x ∷ bs)) (x ∷ bs)) same (subst (λ (l : List ℕ). IsAt (first six (47 ∷ l)) (47 ∷ l)) (sym c.is) (root_cut c.part c.rest (text_rest (47 ∷ []) c.rest (text_rest c.part (47 ∷ c.rest) (subst IsText c.is text.1))) c.none))
    by false e more =
        let there = parts_some bs in
        let differs : (b == 47) ≡ false = grind (arith, nat_tests, e) in
        let none : first six (b ∷ bs) ≡ None = first-prefix (47 ∷ []) rows_behind (b ∷ bs) (omega arith, tt) ∙ rw e refl in
        subst (λ (o : Option ℕ). IsAt o (b ∷ bs)) (sym none) (rw differs (ap (λ (ps : List (List ℕ)). rooted (onto_first b ps)) there.2 ∙ not_rooted b there.0 there.1))
