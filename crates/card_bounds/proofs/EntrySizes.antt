-- How large the entries of a book are.
use Rattle.std.proofs.Common.{◌≡◌, ℕ, zero, suc, ◌+◌, ◌-◌, ◌≤◌, Bool, true, false, cond, List, [], ◌∷◌, refl, arith, pos, Option, eqb}
use Rattle.std.specs.Prelude.{min, nat_abs}
use Rattle.std.specs.List.{All}
use Rattle.std.proofs.lemmas.List.Elements.{All-append, All-cons, All-head, All-nil, All-tail}
use Rattle.std.proofs.lemmas.List.Sums.{sum_by-cons}
use Rattle.card_bounds.specs.Bounds.{EntriesSmall, IsLimited, IsLittleInterest, IsSmallEntry, most_moved, moved, moves}
use Rattle.card_events.specs.Civil.{day_of_month}
use Rattle.card_events.specs.History.{anchor_of}
use Rattle.card_events.specs.SharedRows.{SharedRows}
use Rattle.card_events.specs.declared.kept.Kept.{Kept}
use Rattle.card_model.specs.Books.{Account, Book, account_of, present_cycle}
use Rattle.card_model.specs.Caps.{row_for}
use Rattle.card_model.specs.Closing.{Posting, close, closing_interest, post_interest, post_one, posted_for}
use Rattle.card_model.specs.Cycles.{IssuedRow, Seen, seen_on}
use Rattle.card_model.specs.Entries.{credit_balance, debit, entry_of, is_kind}
use Rattle.card_model.specs.Folds.{book, book_after, day_after}
use Rattle.card_model.specs.Segments.{SegmentTerms}
use Rattle.card_model.specs.declared.entry.Entry.{Entry}
use Rattle.card_model.specs.declared.entry.EntryKind.TheVariants as kind
use Rattle.card_bounds.proofs.CycleAmounts.{amounts_small, posted-little}
use Rattle.card_bounds.proofs.Dated.{Added, IsPlain, added-list, added-none, added-then, added-weaker, front-all, posted-added, posted_on}

-- ---- interest
-- an entry that has so much
raised-little : (day s x : ℕ) → x ≤ 10_000_000_000_000 → All IsLittleInterest (entry_of (record { day = day; kind = kind.Interest; post = 0 }) s (pos x))
raised-little day s zero l = All-nil IsLittleInterest
raised-little day s (suc x) l = All-cons IsLittleInterest _ [] (λ is. l) (All-nil IsLittleInterest)

debit-little : (day s x credit : ℕ) → x ≤ 10_000_000_000_000 → All IsLittleInterest (debit (record { day = day; kind = kind.Interest; post = 0 }) s x credit)
unfolding debit
debit-little day s x credit l =
    All-append IsLittleInterest _ _ (raised-little day 0 (min x credit) (omega (arith, l))) (raised-little day s (x - credit) (omega (arith, l)))

interest-little : (issued : Option IssuedRow) (seen : Seen) (amount : Book → SegmentTerms → ℕ) (gs : List SegmentTerms) (p : Posting) → Added IsLittleInterest p.book.entries (post_interest issued seen amount gs p).book.entries
unfolding post_interest
interest-little issued seen amount [] p = added-none IsLittleInterest p.book.entries
interest-little issued seen amount (g ∷ gs) p =
    let x = posted_for issued amount g p in
    let next = post_one seen g x p in
    added-then IsLittleInterest p.book.entries next.book.entries _
    (added-list IsLittleInterest p.book.entries _ (debit-little seen.day g.id x (credit_balance p.book.entries) (posted-little issued amount g p))) (interest-little issued seen amount gs next)

close-little : (issued : Option IssuedRow) (a : Account) (seen : Seen) (b : Book) → Added IsLittleInterest b.entries (close issued a seen b).entries
unfolding close closing_interest
close-little issued a seen b =
    added-then IsLittleInterest b.entries _ _ (interest-little issued seen _ _ (record { amounts = []; book = b })) (interest-little issued seen _ _ _)

-- ---- from day to day
plain-little : (day : ℕ) (e : Entry) → IsPlain day e → IsLittleInterest e
plain-little day e plain = λ is. absurd (never (is_kind kind.Interest e.kind) plain.1 is)
  where
    never : (t : Bool) → t ≡ false → t ≡ true → ⊥
    never t e f = cc

day-little : (issued : Option IssuedRow) (a : Account) (seen : Seen) (b : Book) → All IsLittleInterest b.entries → All IsLittleInterest (day_after issued a seen b).entries
unfolding day_after
day-little issued a seen b h =
    let posted = posted_on issued a seen b in
    let all = front-all IsLittleInterest b.entries posted.entries h (added-weaker (IsPlain seen.day) IsLittleInterest b.entries posted.entries (plain-little seen.day) (posted-added issued a seen b)) in
    by (eqb (day_of_month seen.day) a.anchor.close_day) posted all
  where
    by : (t : Bool) (posted : Book) → All IsLittleInterest posted.entries → All IsLittleInterest (cond t (close issued a seen posted) posted).entries
    by true posted all = front-all IsLittleInterest posted.entries (close issued a seen posted).entries all (close-little issued a seen posted)
    by false posted all = all

book-little : (rows : List IssuedRow) (a : Account) (s : ℕ → Seen) (n : ℕ) → All IsLittleInterest (book_after rows a s n).entries
unfolding book_after
book-little rows a s zero = All-nil IsLittleInterest
book-little rows a s (suc n) =
    let b = book_after rows a s n in
    day-little (row_for (present_cycle b) rows) a (s (a.anchor.opened + n)) b (book-little rows a s n)

-- ---- any entry
-- what an entry moves is at most what all move
one-small : (m : ℕ) (e : Entry) → m ≤ 1_000_000_000_000_000 → moves e ≤ m → IsLittleInterest e → IsSmallEntry e
one-small m e most few little = by (is_kind kind.Interest e.kind) few little
  where
    by : (t : Bool) → cond t 0 (nat_abs e.cents) ≤ m → (t ≡ true → nat_abs e.cents ≤ 10_000_000_000_000) → nat_abs e.cents ≤ 1_000_000_000_000_000
    by true few little = let l = little refl in omega (arith, l)
    by false few little = omega (arith, few, most)

all-small : (m : ℕ) (es : List Entry) → m ≤ 1_000_000_000_000_000 → moved es ≤ m → All IsLittleInterest es → All IsSmallEntry es
unfolding moved
all-small m [] most few little = All-nil IsSmallEntry
all-small m (e ∷ es) most few little =
    let split = sum_by-cons moves e es in
    All-cons IsSmallEntry e es (one-small m e most (omega (arith, few, split)) (All-head IsLittleInterest e es little))
    (all-small m es most (omega (arith, few, split)) (All-tail IsLittleInterest e es little))

-- ---- the law
little : (history : List Kept) (issued : List IssuedRow) (shared : SharedRows) (day : ℕ) → All IsLittleInterest (book history issued shared day).entries
unfolding book
little history issued shared day = book-little issued (account_of history) (seen_on (anchor_of history) shared history issued) (day + 1 - (anchor_of history).opened)

most-small : (posts : ℕ) → posts ≤ 200000 → most_moved posts ≤ 1_000_000_000_000_000
most-small posts l = omega (arith, l)

small : (posts : ℕ) (history : List Kept) (issued : List IssuedRow) (shared : SharedRows) (day : ℕ) → IsLimited posts history shared day → posts ≤ 200000 → All IsSmallEntry (book history issued shared day).entries
small posts history issued shared day limited few =
    all-small (most_moved posts) (book history issued shared day).entries (most-small posts few) (amounts_small.moves posts history issued shared day limited) (little history issued shared day)

pub entries_small : EntriesSmall
entries_small = record { interest = little; days = small }
