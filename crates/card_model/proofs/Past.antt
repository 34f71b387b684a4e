-- The book of a day depends on what was seen up to that day.
use Rattle.std.proofs.Common.{◌≡◌, ℕ, zero, suc, ◌+◌, ◌-◌, ◌<◌, ◌≤◌, Bool, true, false, cond, nat_le, List, [], ◌∷◌, refl, sym, ap, ◌∙◌, arith}
use Rattle.std.specs.List.{filter}
use Rattle.std.proofs.lemmas.Bool.Decides.{nat_tests}
use Rattle.card_events.specs.declared.anchor.Anchor.{Anchor}
use Rattle.card_events.specs.History.{CorrectedPost, anchor_of, folded, is_variable}
use Rattle.card_events.specs.SharedRows.{FeeRow, IndexRow, SharedRows}
use Rattle.card_events.specs.declared.kept.Kept.{Kept}
use Rattle.card_model.specs.Books.{Account, account_of}
use Rattle.card_model.specs.Cycles.{IssuedRow, Seen, seen_on}
use Rattle.card_model.specs.Folds.{book, book_after}
use Rattle.card_model.specs.Laws.{HistoriesAgree, PastIsEnough}
use Rattle.card_model.proofs.Unindexed.{fold-blind, without_index}

-- one element of filter_implied
implied_step : {X : Type 0} (p : X → Bool) (x : X) (b c : Bool) (us vs : List X) → p x ≡ c → (c ≡ true → b ≡ true) → filter p us ≡ vs → filter p (cond b (x ∷ us) us) ≡ cond c (x ∷ vs) vs
implied_step p x true true us vs e i r = rw (e, r) refl
implied_step p x true false us vs e i r = rw e r
implied_step p x false true us vs e i r = let h : false ≡ true = i refl in cc
implied_step p x false false us vs e i r = r

-- a filter of a weaker filter
pub filter_implied : {X : Type 0} (p q : X → Bool) → ((x : X) → p x ≡ true → q x ≡ true) → (xs : List X) → filter p (filter q xs) ≡ filter p xs
filter_implied p q i [] = refl
filter_implied p q i (x ∷ xs) = implied_step p x (q x) (p x) (filter q xs) (filter p xs) refl (i x) (filter_implied p q i xs)

within_later : (n x d : ℕ) → x ≤ d → nat_le n x ≡ true → nat_le n d ≡ true
within_later n x d h e = grind (arith, nat_tests)

-- books over views that agree on the days folded
pub same_after : (rows : List IssuedRow) (a : Account) (s t : ℕ → Seen) (n : ℕ) → ((k : ℕ) → k < n → s (a.anchor.opened + k) ≡ t (a.anchor.opened + k)) → book_after rows a s n ≡ book_after rows a t n
unfolding book_after
same_after rows a s t zero h = refl
same_after rows a s t (suc n) h =
    let earlier = same_after rows a s t n (λ k l. h k (omega arith)) in
    let now = h n (omega arith) in
    rw (earlier, now) refl

same_posts : (day : ℕ) (shared other : SharedRows) (history later : List Kept) (issued : List IssuedRow) → HistoriesAgree day shared other history later → (x : ℕ) → x ≤ day
    → filter (λ s. nat_le s.day x) (folded (anchor_of later) other.holidays later) ≡ filter (λ s. nat_le s.day x) (folded (anchor_of history) shared.holidays history)
same_posts day shared other history later issued h x l =
    sym (filter_implied (λ (s : CorrectedPost). nat_le s.day x) (λ s. nat_le s.day day) (λ s. within_later s.day x day l) _)
    ∙ (ap (filter (λ (s : CorrectedPost). nat_le s.day x)) h.posts
    ∙ filter_implied (λ (s : CorrectedPost). nat_le s.day x) (λ s. nat_le s.day day) (λ s. within_later s.day x day l) _)

same_fees : (day : ℕ) (shared other : SharedRows) (history later : List Kept) (issued : List IssuedRow) → HistoriesAgree day shared other history later → (x : ℕ) → x ≤ day
    → filter (λ r. nat_le r.day x) other.fees ≡ filter (λ r. nat_le r.day x) shared.fees
same_fees day shared other history later issued h x l =
    sym (filter_implied (λ (r : FeeRow). nat_le r.day x) (λ r. nat_le r.day day) (λ r. within_later r.day x day l) _)
    ∙ (ap (filter (λ (r : FeeRow). nat_le r.day x)) h.fees
    ∙ filter_implied (λ (r : FeeRow). nat_le r.day x) (λ r. nat_le r.day day) (λ r. within_later r.day x day l) _)

-- without index rows the views are the same whichever account it is
same_but_index : (day : ℕ) (shared other : SharedRows) (history later : List Kept) (issued : List IssuedRow) → HistoriesAgree day shared other history later → (x : ℕ) → x ≤ day
    → without_index (seen_on (anchor_of later) other later issued x) ≡ without_index (seen_on (anchor_of history) shared history issued x)
same_but_index day shared other history later issued h x l =
    let posts = same_posts day shared other history later issued h x l in
    let fees = same_fees day shared other history later issued h x l in
    cc

same_views : (day : ℕ) (shared other : SharedRows) (history later : List Kept) (issued : List IssuedRow) → HistoriesAgree day shared other history later → is_variable history ≡ true → (x : ℕ) → x ≤ day
    → seen_on (anchor_of later) other later issued x ≡ seen_on (anchor_of history) shared history issued x
same_views day shared other history later issued h follows x l =
    let posts = same_posts day shared other history later issued h x l in
    let fees = same_fees day shared other history later issued h x l in
    let index : filter (λ r. nat_le r.day x) other.index ≡ filter (λ r. nat_le r.day x) shared.index =
    sym (filter_implied (λ (r : IndexRow). nat_le r.day x) (λ r. nat_le r.day day) (λ r. within_later r.day x day l) _)
    ∙ (ap (filter (λ (r : IndexRow). nat_le r.day x)) (h.index follows)
    ∙ filter_implied (λ (r : IndexRow). nat_le r.day x) (λ r. nat_le r.day day) (λ r. within_later r.day x day l) _) in
    cc

pub same_books : (rows : List IssuedRow) (a b : Account) (s t : ℕ → Seen) (m n : ℕ) → a ≡ b → m ≡ n → ((k : ℕ) → k < n → s (b.anchor.opened + k) ≡ t (b.anchor.opened + k)) → book_after rows a s m ≡ book_after rows b t n
same_books rows a b s t m n e f h = rw (e, f) (same_after rows b s t n h)

-- books of an account with fixed rates, over views that agree but for the index
same_fixed_books : (rows : List IssuedRow) (a b : Account) (s t : ℕ → Seen) (m n : ℕ) → a ≡ b → m ≡ n → b.variable ≡ false → ((k : ℕ) → k < n → without_index (s (b.anchor.opened + k)) ≡ without_index (t (b.anchor.opened + k)))
    → book_after rows a s m ≡ book_after rows b t n
same_fixed_books rows a b s t m n e f fixed h =
    same_books rows a b s s m n e f (λ k l. refl)
    ∙ (fold-blind b fixed rows s n
    ∙ (same_after rows b (λ d. without_index (s d)) (λ d. without_index (t d)) n h
    ∙ sym (fold-blind b fixed rows t n)))

pub past_is_enough : PastIsEnough
unfolding book
past_is_enough day shared other history later issued h x l = by (is_variable history) refl
  where
    account : account_of later ≡ account_of history
    account = let a = h.anchor in let t = h.terms in let v = h.variable in cc

    days : x + 1 - (anchor_of later).opened ≡ x + 1 - (anchor_of history).opened
    days = ap (λ (a : Anchor). x + 1 - a.opened) h.anchor

    by : (v : Bool) → is_variable history ≡ v → book later issued other x ≡ book history issued shared x
    by true follows =
        same_books issued (account_of later) (account_of history) (seen_on (anchor_of later) other later issued) (seen_on (anchor_of history) shared history issued) _ _ account days
        (λ k below. same_views day shared other history later issued h follows ((anchor_of history).opened + k) (omega arith))
    by false fixed =
        same_fixed_books issued (account_of later) (account_of history) (seen_on (anchor_of later) other later issued) (seen_on (anchor_of history) shared history issued) _ _ account days fixed
        (λ k below. same_but_index day shared other history later issued h ((anchor_of history).opened + k) (omega arith))
