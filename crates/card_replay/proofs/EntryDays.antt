-- The entries of a day's book are the first of every later one's, and its last are those of the day.
use Rattle.std.proofs.Common.{◌≡◌, ℕ, zero, suc, ◌+◌, ◌-◌, ◌≤◌, List, ◌++◌, ap, refl, sym, ◌∙◌, arith}
use Rattle.card_model.specs.Books.{Account, present_cycle}
use Rattle.card_model.specs.Caps.{row_for}
use Rattle.card_model.specs.Cycles.{IssuedRow, Seen}
use Rattle.card_model.specs.Folds.{book, book_after, day_after}
use Rattle.card_model.specs.declared.entry.Entry.{Entry}
use Rattle.card_daily.specs.Given.{Given, account_in, book_in, book_on, opened_in, seen_in}
use Rattle.card_bounds.proofs.Dated.{Added, IsInterest, IsPlain, added-none, added-then, added-weaker, day-added, posted-added, posted_on}

-- of a day
abbrev pub Of : ℕ → Entry → Type 0
Of d e = e.day ≡ d

-- of a day or a later one
abbrev pub From : ℕ → Entry → Type 0
From d e = d ≤ e.day

-- a day adds entries of its own
pub day-of : (rows : List IssuedRow) (a : Account) (s : ℕ → Seen) (n : ℕ) → ((d : ℕ) → (s d).day ≡ d) → Added (Of (a.anchor.opened + n)) (book_after rows a s n).entries (book_after rows a s (suc n)).entries
unfolding book_after
day-of rows a s n day =
    let b = book_after rows a s n in
    let row = row_for (present_cycle b) rows in
    let seen = s (a.anchor.opened + n) in
    added-then (Of (a.anchor.opened + n)) b.entries (posted_on row a seen b).entries (day_after row a seen b).entries
    (added-weaker (IsPlain seen.day) (Of (a.anchor.opened + n)) b.entries (posted_on row a seen b).entries (λ e q. q.0 ∙ day (a.anchor.opened + n)) (posted-added row a seen b))
    (added-weaker (IsInterest seen.day) (Of (a.anchor.opened + n)) (posted_on row a seen b).entries (day_after row a seen b).entries (λ e q. q.0 ∙ day (a.anchor.opened + n)) (day-added row a seen b))

-- and so do more days
pub days-from : (rows : List IssuedRow) (a : Account) (s : ℕ → Seen) (n m : ℕ) → ((d : ℕ) → (s d).day ≡ d) → Added (From (a.anchor.opened + n)) (book_after rows a s n).entries (book_after rows a s (n + m)).entries
days-from rows a s n zero day =
    let same : n + 0 ≡ n = omega arith in
    rw same (added-none (From (a.anchor.opened + n)) (book_after rows a s n).entries)
days-from rows a s n (suc m) day =
    let same : n + suc m ≡ suc (n + m) = omega arith in
    rw same (added-then (From (a.anchor.opened + n)) (book_after rows a s n).entries (book_after rows a s (n + m)).entries (book_after rows a s (suc (n + m))).entries
    (days-from rows a s n m day)
    (added-weaker (Of (a.anchor.opened + (n + m))) (From (a.anchor.opened + n)) (book_after rows a s (n + m)).entries (book_after rows a s (suc (n + m))).entries (λ e q. omega arith) (day-of rows a s (n + m) day)))

-- so a later day's book has the entries of an earlier one's first
pub entries-grow : (g : Given) (x y : ℕ) → x ≤ y → (rest : List Entry) × ((book_on g y).entries ≡ (book_on g x).entries ++ rest)
unfolding book
entries-grow g x y l =
    let o = opened_in g in
    let n = x + 1 - o in
    let m = y + 1 - o - n in
    let same : n + m ≡ y + 1 - o = omega (arith, l) in
    let a = days-from g.issued (account_in g) (seen_in g) n m (λ d. refl) in
    (a.rest, ap (λ k. (book_in g k).entries) (sym same) ∙ a.is)
