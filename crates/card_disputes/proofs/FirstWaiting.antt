-- The first post that does something to another one, among all posts and among those that wait.
use Rattle.std.proofs.Common.{◌≡◌, ℕ, zero, suc, ◌+◌, ◌<◌, Bool, true, false, cond, ◌==◌, List, [], ◌∷◌, take, drop, get_or, length, refl, sym, ap, subst, ◌∙◌, Option, Some, None, arith}
use Rattle.std.specs.Prelude.{is_some, slice_get, ◌||◌}
use Rattle.std.specs.List.{find, list_any}
use Rattle.std.specs.Option.{option_or}
use Rattle.std.proofs.lemmas.Bool.Decides.{nat_tests}
use Rattle.std.proofs.lemmas.List.{drop_more, take-append-drop, take_more}
use Rattle.std.proofs.lemmas.List.Folds.{find-append}
use Rattle.card_disputes.specs.Waits.{does}
use Rattle.card_disputes.specs.declared.waiting.Wait.{Wait}
use Rattle.card_disputes.specs.declared.waiting.Wait.TheVariants as wait
use Rattle.card_events.specs.History.{at_number}
use Rattle.card_events.specs.declared.kept.Kept.{Kept}
use Rattle.card_events.specs.declared.post.Post.{Post}
use Rattle.card_events.specs.declared.post.Post.TheVariants as post
use Rattle.card_model.specs.Refusals.{holds_of, number_from}
use Rattle.card_waits.specs.Waits.{awaited, first_by, first_from, if_any, waiting, waiting_from, waits}

same-number : (a b : ℕ) → (a == b) ≡ true → a ≡ b
same-number a b e = grind (arith, nat_tests)

other-number : (a b : ℕ) → (a == b) ≡ false → a ≡ b → ⊥
other-number a b e f = grind (arith, nat_tests)

-- a post that does so waits, for that one
pub waits-so : (w : Wait) (n : ℕ) (p : Post) → does w n p ≡ true → (waits p ≡ true) × (awaited p ≡ n)
waits-so wait.Return n (post.Open d t) e = absurd (cc)
waits-so wait.Return n (post.OpenVariable d t) e = absurd (cc)
waits-so wait.Return n (post.Charge d p c) e = absurd (cc)
waits-so wait.Return n (post.Credit d p c) e = absurd (cc)
waits-so wait.Return n (post.Payment d m by c) e = absurd (cc)
waits-so wait.Return n (post.Return d t) e = (refl, same-number t n e)
waits-so wait.Return n (post.Bill c) e = absurd (cc)
waits-so wait.Return n (post.Amend t d c) e = absurd (cc)
waits-so wait.Return n (post.Plan d v r w f) e = absurd (cc)
waits-so wait.Return n (post.Notice d y r w) e = absurd (cc)
waits-so wait.Return n (post.Lower d y r) e = absurd (cc)
waits-so wait.Return n post.Penalty e = absurd (cc)
waits-so wait.Return n (post.Review d f) e = absurd (cc)
waits-so wait.Return n (post.Dispute d t c) e = absurd (cc)
waits-so wait.Return n (post.Ack d t) e = absurd (cc)
waits-so wait.Return n (post.Resolve d t c) e = absurd (cc)
waits-so wait.Return n (post.AskRefund d) e = absurd (cc)
waits-so wait.Return n (post.Refund c) e = absurd (cc)
waits-so wait.Dispute n (post.Open d t) e = absurd (cc)
waits-so wait.Dispute n (post.OpenVariable d t) e = absurd (cc)
waits-so wait.Dispute n (post.Charge d p c) e = absurd (cc)
waits-so wait.Dispute n (post.Credit d p c) e = absurd (cc)
waits-so wait.Dispute n (post.Payment d m by c) e = absurd (cc)
waits-so wait.Dispute n (post.Return d t) e = absurd (cc)
waits-so wait.Dispute n (post.Bill c) e = absurd (cc)
waits-so wait.Dispute n (post.Amend t d c) e = absurd (cc)
waits-so wait.Dispute n (post.Plan d v r w f) e = absurd (cc)
waits-so wait.Dispute n (post.Notice d y r w) e = absurd (cc)
waits-so wait.Dispute n (post.Lower d y r) e = absurd (cc)
waits-so wait.Dispute n post.Penalty e = absurd (cc)
waits-so wait.Dispute n (post.Review d f) e = absurd (cc)
waits-so wait.Dispute n (post.Dispute d t c) e = (refl, same-number t n e)
waits-so wait.Dispute n (post.Ack d t) e = absurd (cc)
waits-so wait.Dispute n (post.Resolve d t c) e = absurd (cc)
waits-so wait.Dispute n (post.AskRefund d) e = absurd (cc)
waits-so wait.Dispute n (post.Refund c) e = absurd (cc)
waits-so wait.Resolve n (post.Open d t) e = absurd (cc)
waits-so wait.Resolve n (post.OpenVariable d t) e = absurd (cc)
waits-so wait.Resolve n (post.Charge d p c) e = absurd (cc)
waits-so wait.Resolve n (post.Credit d p c) e = absurd (cc)
waits-so wait.Resolve n (post.Payment d m by c) e = absurd (cc)
waits-so wait.Resolve n (post.Return d t) e = absurd (cc)
waits-so wait.Resolve n (post.Bill c) e = absurd (cc)
waits-so wait.Resolve n (post.Amend t d c) e = absurd (cc)
waits-so wait.Resolve n (post.Plan d v r w f) e = absurd (cc)
waits-so wait.Resolve n (post.Notice d y r w) e = absurd (cc)
waits-so wait.Resolve n (post.Lower d y r) e = absurd (cc)
waits-so wait.Resolve n post.Penalty e = absurd (cc)
waits-so wait.Resolve n (post.Review d f) e = absurd (cc)
waits-so wait.Resolve n (post.Dispute d t c) e = absurd (cc)
waits-so wait.Resolve n (post.Ack d t) e = absurd (cc)
waits-so wait.Resolve n (post.Resolve d t c) e = (refl, same-number t n e)
waits-so wait.Resolve n (post.AskRefund d) e = absurd (cc)
waits-so wait.Resolve n (post.Refund c) e = absurd (cc)

-- posts of a kind wait for the one with a number
abbrev pub WaitFor : ℕ → (Post → Bool) → Type 0
WaitFor n p = (x : Post) → p x ≡ true → (waits x ≡ true) × (awaited x ≡ n)

-- the post with a number passes
abbrev pub passes_at : (Post → Bool) → List Kept → ℕ → Bool
passes_at p history m = holds_of (λ k. p k.post) (at_number m history)

-- ---- among those that wait
found-among : (p : Post → Bool) (n : ℕ) → WaitFor n p → (history : List Kept) (i : ℕ) (ks : List Kept) → ((j : ℕ) → slice_get history (i + j) ≡ slice_get ks j)
    → find (passes_at p history) (waiting_from (suc i) ks) ≡ number_from p (suc i) ks
unfolding waiting_from number_from
found-among p n w history i [] h = refl
found-among p n w history i (k ∷ ks) h = by (waits k.post) (p k.post) refl refl (found-among p n w history (suc i) ks next)
  where
    here : slice_get history i ≡ Some k
    here = let z : i ≡ i + 0 = omega arith in ap (slice_get history) z ∙ h 0

    next : (j : ℕ) → slice_get history (suc i + j) ≡ slice_get ks j
    next j = let s : suc i + j ≡ i + suc j = omega arith in ap (slice_get history) s ∙ h (suc j)

    test : (b : Bool) → p k.post ≡ b → holds_of (λ (x : Kept). p x.post) (slice_get history i) ≡ b
    test b f = ap (holds_of (λ (x : Kept). p x.post)) here ∙ f

    both : waits k.post ≡ false → p k.post ≡ true → ⊥
    both e f = let other = (w k.post f).0 in cc

    by : (a b : Bool) → waits k.post ≡ a → p k.post ≡ b → find (passes_at p history) (waiting_from (suc (suc i)) ks) ≡ number_from p (suc (suc i)) ks
        → find (passes_at p history) (cond a (suc i ∷ waiting_from (suc (suc i)) ks) (waiting_from (suc (suc i)) ks)) ≡ cond b (Some (suc i)) (number_from p (suc (suc i)) ks)
    by true true e f r = let t = test true f in rw t refl
    by true false e f r = let t = test false f in rw t r
    by false true e f r = absurd (both e f)
    by false false e f r = r

pub among : (p : Post → Bool) (n : ℕ) → WaitFor n p → (history : List Kept) → find (passes_at p history) (waiting history) ≡ number_from p 1 history
among p n w history = found-among p n w history 0 history (λ j. let z : 0 + j ≡ j = omega arith in ap (slice_get history) z)

-- ---- by the first that waits for it
none-from : (p : Post → Bool) (n : ℕ) → WaitFor n p → (m : ℕ) (ks : List Kept) → first_from n (suc m) ks ≡ 0 → number_from p (suc m) ks ≡ None
unfolding first_from number_from
none-from p n w m [] e = refl
none-from p n w m (k ∷ ks) e = by (awaited k.post == n) (p k.post) refl refl e (none-from p n w (suc m) ks)
  where
    by : (a b : Bool) → (awaited k.post == n) ≡ a → p k.post ≡ b → cond a (suc m) (first_from n (suc (suc m)) ks) ≡ 0
        → (first_from n (suc (suc m)) ks ≡ 0 → number_from p (suc (suc m)) ks ≡ None) → cond b (Some (suc m)) (number_from p (suc (suc m)) ks) ≡ None
    by true b e f g r = absurd (omega (arith, g))
    by false true e f g r = absurd (other-number (awaited k.post) n e (w k.post f).1)
    by false false e f g r = r g

first-is : (p : Post → Bool) (n : ℕ) → WaitFor n p → (history : List Kept) (r m : ℕ) (ks : List Kept) → ((j : ℕ) → slice_get history (m + j) ≡ slice_get ks j) → first_from n (suc m) ks ≡ suc r
    → holds_of (λ k. p k.post) (slice_get history r) ≡ true → number_from p (suc m) ks ≡ Some (suc r)
unfolding first_from number_from
first-is p n w history r m [] h e t = absurd (omega (arith, e))
first-is p n w history r m (k ∷ ks) h e t = by (awaited k.post == n) (p k.post) refl refl e (first-is p n w history r (suc m) ks next)
  where
    here : slice_get history m ≡ Some k
    here = let z : m ≡ m + 0 = omega arith in ap (slice_get history) z ∙ h 0

    next : (j : ℕ) → slice_get history (suc m + j) ≡ slice_get ks j
    next j = let s : suc m + j ≡ m + suc j = omega arith in ap (slice_get history) s ∙ h (suc j)

    this : r ≡ m → p k.post ≡ false → ⊥
    this s f =
        let there : holds_of (λ (x : Kept). p x.post) (slice_get history r) ≡ false = ap (λ i. holds_of (λ (x : Kept). p x.post) (slice_get history i)) s ∙ (ap (holds_of (λ (x : Kept). p x.post)) here ∙ f) in
        cc

    by : (a b : Bool) → (awaited k.post == n) ≡ a → p k.post ≡ b → cond a (suc m) (first_from n (suc (suc m)) ks) ≡ suc r
        → (first_from n (suc (suc m)) ks ≡ suc r → holds_of (λ (x : Kept). p x.post) (slice_get history r) ≡ true → number_from p (suc (suc m)) ks ≡ Some (suc r))
        → cond b (Some (suc m)) (number_from p (suc (suc m)) ks) ≡ Some (suc r)
    by true true e f g rest = let same : m ≡ r = omega (arith, g) in ap (λ i. Some (suc i)) same
    by true false e f g rest = let same : r ≡ m = omega (arith, g) in absurd (this same f)
    by false true e f g rest = absurd (other-number (awaited k.post) n e (w k.post f).1)
    by false false e f g rest = rest g t

no-number : (x : ℕ) → if_any x ≡ None → x ≡ 0
no-number x e = by (x == 0) refl e
  where
    by : (b : Bool) → (x == 0) ≡ b → cond b None (Some x) ≡ None → x ≡ 0
    by true f g = same-number x 0 f
    by false f g = absurd (cc)

a-number : (x r : ℕ) → if_any x ≡ Some r → x ≡ r
a-number x r e = by (x == 0) e
  where
    by : (b : Bool) → cond b None (Some x) ≡ Some r → x ≡ r
    by true g = absurd (cc)
    by false g = cc

pub none-waits : (p : Post → Bool) (n : ℕ) → WaitFor n p → (history : List Kept) → if_any (first_by n history) ≡ None → number_from p 1 history ≡ None
none-waits p n w history e = none-from p n w 0 history (no-number (first_by n history) e)

pub first-waits : (p : Post → Bool) (n : ℕ) → WaitFor n p → (history : List Kept) (r : ℕ) → if_any (first_by n history) ≡ Some r → passes_at p history r ≡ true → number_from p 1 history ≡ Some r
first-waits p n w history zero e t = absurd (cc)
first-waits p n w history (suc r) e t = first-is p n w history r 0 history (λ j. let z : 0 + j ≡ j = omega arith in ap (slice_get history) z) (a-number (first_by n history) (suc r) e) t

-- ---- the first of a list of numbers that passes
pub found-here : (p : ℕ → Bool) (xs : List ℕ) (i : ℕ) → i < length xs → find p (take i xs) ≡ None → p (get_or xs i 0) ≡ true → find p xs ≡ Some (get_or xs i 0)
found-here p xs i l h t =
    ap (find p) (sym (take-append-drop i xs))
    ∙ (find-append p (take i xs) (drop i xs)
    ∙ (ap (λ (o : Option ℕ). option_or o (find p (drop i xs))) h
    ∙ (ap (find p) (drop_more xs i 0 l)
    ∙ subst (λ b. cond b (Some (get_or xs i 0)) (find p (drop (i + 1) xs)) ≡ Some (get_or xs i 0)) (sym t) refl)))

pub passed-here : (p : ℕ → Bool) (xs : List ℕ) (i : ℕ) → i < length xs → find p (take i xs) ≡ None → p (get_or xs i 0) ≡ false → find p (take (i + 1) xs) ≡ None
passed-here p xs i l h t =
    ap (find p) (take_more xs i 0 l)
    ∙ (find-append p (take i xs) (get_or xs i 0 ∷ [])
    ∙ (ap (λ (o : Option ℕ). option_or o (find p (get_or xs i 0 ∷ []))) h
    ∙ subst (λ b. cond b (Some (get_or xs i 0)) None ≡ None) (sym t) refl))

-- ---- whether there is one
any-by : (p : Post → Bool) (n : ℕ) (k : Kept) (ks : List Kept) (b : Bool) → p k.post ≡ b → is_some (number_from p (suc n) ks) ≡ list_any (λ k. p k.post) ks → is_some (number_from p n (k ∷ ks)) ≡ (p k.post || list_any (λ k. p k.post) ks)
unfolding number_from
any-by p n k ks true is rest = rw is refl
any-by p n k ks false is rest = rw is rest

any-from : (p : Post → Bool) (n : ℕ) (ks : List Kept) → is_some (number_from p n ks) ≡ list_any (λ k. p k.post) ks
unfolding number_from
any-from p n [] = refl
any-from p n (k ∷ ks) = any-by p n k ks (p k.post) refl (any-from p (suc n) ks)

pub found_any : (p : Post → Bool) (n : ℕ) (ks : List Kept) → number_from p 1 ks ≡ Some n → true ≡ list_any (λ k. p k.post) ks
found_any p n ks is = sym (ap is_some is) ∙ any-from p 1 ks

pub found_none : (p : Post → Bool) (ks : List Kept) → number_from p 1 ks ≡ None → false ≡ list_any (λ k. p k.post) ks
found_none p ks is = sym (ap is_some is) ∙ any-from p 1 ks
