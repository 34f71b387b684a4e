-- No entry is of a later day than its book, and cycles begin in turn.
use Rattle.std.proofs.Common.{◌≡◌, ℕ, zero, suc, ◌+◌, ◌-◌, ◌≤◌, List, [], ◌∷◌, length, refl, sym, ap, ◌∙◌, subst, arith, Option, Some, None}
use Rattle.std.specs.List.{All, last_or}
use Rattle.std.proofs.lemmas.List.Elements.{All-nil, All-weaker}
use Rattle.card_bounds.specs.Places.{CyclesBeginInTurn, EntriesHaveDays, book_before}
use Rattle.card_events.specs.Billing.{closing, closings_among, cycle_of}
use Rattle.card_events.specs.Range.{last_calendar_day}
use Rattle.card_events.specs.History.{CorrectedPost, anchor_of}
use Rattle.card_events.specs.SharedRows.{SharedRows}
use Rattle.card_events.specs.declared.kept.Kept.{Kept}
use Rattle.card_model.specs.Books.{Account, Book, account_of, present_cycle}
use Rattle.card_model.specs.Caps.{row_for}
use Rattle.card_model.specs.Closing.{first_day_of, first_of}
use Rattle.card_model.specs.CycleDays.{IsOpening}
use Rattle.card_model.specs.Cycles.{Cycle, IssuedRow, Seen, last_cycle, seen_on}
use Rattle.card_model.specs.DueDates.{on_due}
use Rattle.card_model.specs.Effects.{after_posts}
use Rattle.card_model.specs.Folds.{book, book_after}
use Rattle.card_model.specs.declared.entry.Entry.{Entry}
use Rattle.card_model.proofs.Calendar.{HaveTheirDays, cycles_are_of_the_calendar, fold-days}
use Rattle.card_model.proofs.Caps.{posts-cycles, due-cycles}
use Rattle.card_bounds.proofs.Dated.{Before, IsPlain, added-then, added-weaker, book-dates, due-added, front-all, posts-added}

-- ---- days of entries
abbrev UpTo : ℕ → Entry → Type 0
UpTo d e = e.day ≤ d

book-up_to : (rows : List IssuedRow) (a : Account) (s : ℕ → Seen) (n day : ℕ) → ((d : ℕ) → (s d).day ≡ d) → (1 ≤ n → a.anchor.opened + n ≤ day + 1) → All (UpTo day) (book_after rows a s n).entries
unfolding book_after
book-up_to rows a s zero day dated l = All-nil (UpTo day)
book-up_to rows a s (suc n) day dated l =
    let most = l (omega arith) in
    All-weaker (Before (a.anchor.opened + suc n)) (UpTo day) (λ e less. omega arith) (book_after rows a s (suc n)).entries (book-dates rows a s (suc n) dated)

amid-up_to : (issued : Option IssuedRow) (a : Account) (seen : Seen) (b : Book) (done : List CorrectedPost) (day : ℕ) → seen.day ≡ day → All (Before day) b.entries → All (UpTo day) (after_posts issued a seen done (on_due issued a seen b (last_cycle b.cycles))).entries
amid-up_to issued a seen b done day same h =
    let due = on_due issued a seen b (last_cycle b.cycles) in
    let all = added-then (IsPlain seen.day) b.entries due.entries (after_posts issued a seen done due).entries (due-added issued a seen b (last_cycle b.cycles)) (posts-added issued a seen done due) in
    front-all (UpTo day) b.entries (after_posts issued a seen done due).entries (All-weaker (Before day) (UpTo day) (λ e less. omega arith) b.entries h)
    (added-weaker (IsPlain seen.day) (UpTo day) b.entries (after_posts issued a seen done due).entries (λ e q. let w = q.0 in omega arith) all)

days_dated : (history : List Kept) (issued : List IssuedRow) (shared : SharedRows) (day : ℕ) → All (UpTo day) (book history issued shared day).entries
unfolding book
days_dated history issued shared day =
    book-up_to issued (account_of history) (seen_on (anchor_of history) shared history issued) (day + 1 - (anchor_of history).opened) day (λ d. refl) (λ l. omega arith)

pub entries_have_days : EntriesHaveDays
entries_have_days = record {
  days = days_dated;
  before = λ history issued shared n. book-dates issued (account_of history) (seen_on (anchor_of history) shared history issued) n (λ d. refl);
  posts = λ history issued shared n done.
      let acc = account_of history in
      let s = seen_on (anchor_of history) shared history issued in
      let b = book_after issued acc s n in
      amid-up_to (row_for (present_cycle b) issued) acc (s ((anchor_of history).opened + n)) b done ((anchor_of history).opened + n) refl (book-dates issued acc s n (λ d. refl));
}

-- ---- cycles
last-first : (acc : Account) (k : ℕ) (o : Option Cycle) (cs : List Cycle) → first_of acc o ≡ closing acc.anchor k + 1 → HaveTheirDays acc.anchor k cs → first_of acc (last_or o cs) ≡ closing acc.anchor (length cs + k) + 1
last-first acc k o [] e h = let n : k ≡ 0 + k = omega arith in subst (λ m. first_of acc o ≡ closing acc.anchor m + 1) n e
last-first acc k o (c ∷ cs) e h =
    let n : length cs + suc k ≡ suc (length cs) + k = omega arith in
    subst (λ m. first_of acc (last_or (Some c) cs) ≡ closing acc.anchor m + 1) n (last-first acc (suc k) (Some c) cs (ap (λ d. d + 1) h.0.closing) h.1)

opening-first : (acc : Account) → 1 ≤ acc.anchor.opened → first_of acc None ≡ closing acc.anchor 0 + 1
unfolding closing
opening-first acc l = omega arith

book-first : (rows : List IssuedRow) (acc : Account) (s : ℕ → Seen) (n k : ℕ) → ((d : ℕ) → (s d).day ≡ d) → IsOpening acc.anchor → acc.anchor.opened + n ≤ 48577 → length (book_after rows acc s n).cycles + 1 ≡ k
    → first_day_of acc (book_after rows acc s n) ≡ closing acc.anchor (k - 1) + 1
book-first rows acc s n k dated open' l e =
    let cs = (book_after rows acc s n).cycles in
    let first = last-first acc 0 None cs (opening-first acc (omega (arith, open'.first))) (fold-days rows acc s n dated open' l) in
    let same : length cs + 0 ≡ k - 1 = omega arith in
    subst (λ m. first_of acc (last_cycle cs) ≡ closing acc.anchor m + 1) same first

days_begin : (history : List Kept) (issued : List IssuedRow) (shared : SharedRows) (day : ℕ) → IsOpening (anchor_of history) → day ≤ last_calendar_day
    → first_day_of (account_of history) (book history issued shared day) ≡ closing (anchor_of history) (cycle_of (anchor_of history) (day + 1) - 1) + 1
unfolding book
days_begin history issued shared day open' l =
    let few : (anchor_of history).opened + (day + 1 - (anchor_of history).opened) ≤ 48577 = omega (arith, open'.last) in
    book-first issued (account_of history) (seen_on (anchor_of history) shared history issued) (day + 1 - (anchor_of history).opened) (cycle_of (anchor_of history) (day + 1)) (λ d. refl) open' few
    (cycles_are_of_the_calendar.count history issued shared day)

before-next : (history : List Kept) (issued : List IssuedRow) (shared : SharedRows) (n : ℕ) → book history issued shared ((anchor_of history).opened + n) ≡ book_before history issued shared (suc n)
unfolding book
before-next history issued shared n =
    let days : (anchor_of history).opened + n + 1 - (anchor_of history).opened ≡ suc n = omega arith in
    ap (book_before history issued shared) days

count-before : (history : List Kept) (issued : List IssuedRow) (shared : SharedRows) (n : ℕ) → length (book_before history issued shared n).cycles + 1 ≡ cycle_of (anchor_of history) ((anchor_of history).opened + n)
unfolding book_after cycle_of closings_among
count-before history issued shared zero =
    let none : (anchor_of history).opened + 0 - (anchor_of history).opened ≡ 0 = omega arith in
    rw none refl
count-before history issued shared (suc n) =
    let next : (anchor_of history).opened + n + 1 ≡ (anchor_of history).opened + suc n = omega arith in
    let counted = cycles_are_of_the_calendar.count history issued shared ((anchor_of history).opened + n) in
    ap (λ (b : Book). length b.cycles + 1) (sym (before-next history issued shared n)) ∙ (counted ∙ ap (cycle_of (anchor_of history)) next)

pub cycles_begin_in_turn : CyclesBeginInTurn
cycles_begin_in_turn = record {
  days = days_begin;
  before = λ history issued shared n open' l.
      book-first issued (account_of history) (seen_on (anchor_of history) shared history issued) n (cycle_of (anchor_of history) ((anchor_of history).opened + n)) (λ d. refl) open' l (count-before history issued shared n);
  posts = λ history issued shared n done.
      let acc = account_of history in
      let seen = seen_on (anchor_of history) shared history issued ((anchor_of history).opened + n) in
      let b = book_before history issued shared n in
      let row = row_for (present_cycle b) issued in
      posts-cycles row acc seen done (on_due row acc seen b (last_cycle b.cycles)) ∙ due-cycles row acc seen b (last_cycle b.cycles);
}
