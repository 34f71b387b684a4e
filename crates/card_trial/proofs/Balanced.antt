-- Debits less credits are what is owed, day by day, and holds come to nothing.
use Rattle.std.proofs.Common.{◌≡◌, ◌⊎◌, inl, inr, ℕ, zero, suc, ◌+◌, ◌-◌, ◌<◌, ◌≤◌, Bool, true, false, ◌&&◌, leb, List, [], ◌++◌, refl, sym, ap, ◌∙◌, subst, arith, ℤ, pos, ◌+ℤ◌, get_or}
use Rattle.std.specs.List.{All, sum_by}
use Rattle.std.proofs.lemmas.Bool.Decides.{nat_tests}
use Rattle.std.proofs.lemmas.Int.{ints}
use Rattle.std.proofs.lemmas.List.Elements.{All-weaker}
use Rattle.card_events.specs.History.{anchor_of}
use Rattle.card_events.specs.Range.{first_calendar_day}
use Rattle.card_events.specs.SharedRows.{SharedRows}
use Rattle.card_events.specs.declared.kept.Kept.{Kept}
use Rattle.card_model.specs.Books.{account_of}
use Rattle.card_model.specs.Cycles.{IssuedRow, seen_on}
use Rattle.card_model.specs.Entries.{is_kind, owed, sum_of}
use Rattle.card_model.specs.Folds.{book, book_after}
use Rattle.card_model.specs.declared.entry.Entry.{Entry}
use Rattle.card_model.specs.declared.entry.EntryKind.{EntryKind}
use Rattle.card_model.specs.declared.entry.EntryKind.TheVariants as kind
use Rattle.card_model.proofs.Balance.{balance_identity}
use Rattle.card_model.proofs.Posted.{sum_of-append}
use Rattle.card_bounds.proofs.Dated.{Added, Before, book-dates}
use Rattle.card_trial.specs.Sums.{is_between, sum_between}
use Rattle.card_trial.specs.declared.side.Side.TheVariants as side
use Rattle.card_replay.proofs.EntryDays.{From, Of, day-of, days-from}
use Rattle.card_trial.proofs.Sides.{by_day, kinds-together, part, signed, sum-all, sum-alike, sum-none, sum_up_to}

-- ---- the days of an account
module _ (history : List Kept) (issued : List IssuedRow) (shared : SharedRows) where
  abbrev after : ℕ → List Entry
  after n = (book_after issued (account_of history) (seen_on (anchor_of history) shared history issued) n).entries

  abbrev opened : ℕ
  opened = (anchor_of history).opened

  seen_day : (d : ℕ) → (seen_on (anchor_of history) shared history issued d).day ≡ d
  seen_day d = refl

  book-is : (day n : ℕ) → day + 1 - opened ≡ n → (book history issued shared day).entries ≡ after n
  unfolding book
  book-is day n e = ap after e

  -- the first n days, and all that comes later
  front : (n m : ℕ) → Added (From (opened + n)) (after n) (after (n + m))
  front n m = days-from issued (account_of history) (seen_on (anchor_of history) shared history issued) n m seen_day

  dates : (n : ℕ) → All (Before (opened + n)) (after n)
  dates n = book-dates issued (account_of history) (seen_on (anchor_of history) shared history issued) n seen_day

  own : (n : ℕ) → Added (Of (opened + n)) (after n) (after (suc n))
  own n = day-of issued (account_of history) (seen_on (anchor_of history) shared history issued) n seen_day

  -- all come from the opening day on
  nothing : after 0 ≡ []
  unfolding book_after
  nothing = refl

  since : (n : ℕ) → All (From opened) (after n)
  since n =
      let same : 0 + n ≡ n = omega arith in
      let a : Added (From (opened + 0)) (after 0) (after (0 + n)) = front 0 n in
      let is : after n ≡ a.rest = ap after (sym same) ∙ (a.is ∙ (ap (λ es. es ++ a.rest) nothing)) in
      subst (All (From opened)) (sym is) (All-weaker (From (opened + 0)) (From opened) (λ e h. omega arith) a.rest a.all)

  -- ---- what is owed
  early-passes : (day : ℕ) (e : Entry) → first_calendar_day ≤ opened → From opened e → e.day ≤ day → by_day day e ≡ true
  early-passes day e low f h =
      let from : leb first_calendar_day e.day ≡ true = grind (arith, nat_tests) in
      let to : leb e.day day ≡ true = grind (arith, nat_tests) in
      rw (from, to) refl

  late-fails : (day : ℕ) (e : Entry) → day < e.day → by_day day e ≡ false
  late-fails day e h = by (leb first_calendar_day e.day)
    where
      by : (b : Bool) → (b && leb e.day day) ≡ false
      by true = grind (arith, nat_tests)
      by false = refl

  front-owed : (day n m : ℕ) → first_calendar_day ≤ opened → ((e : Entry) → Before (opened + n) e → e.day ≤ day) → ((e : Entry) → From (opened + n) e → day < e.day)
      → sum_of (by_day day) (after (n + m)) ≡ owed (after n)
  front-owed day n m low early late =
      let a : Added (From (opened + n)) (after n) (after (n + m)) = front n m in
      let own_days : All (λ e. by_day day e ≡ true) (after n) = both (after n) (dates n) (since n) in
      let rest : All (λ e. by_day day e ≡ false) a.rest = All-weaker (From (opened + n)) (λ e. by_day day e ≡ false) (λ e h. late-fails day e (late e h)) a.rest a.all in
      let all : sum_of (by_day day) (after n) ≡ owed (after n) = sum-all (by_day day) (after n) own_days in
      let none : sum_of (by_day day) a.rest ≡ pos 0 = sum-none (by_day day) a.rest rest in
      ap (sum_of (by_day day)) a.is ∙ (sum_of-append (by_day day) (after n) a.rest ∙ (rw (all, none) (omega (arith, ints))))
    where
      both : (es : List Entry) → All (Before (opened + n)) es → All (From opened) es → All (λ e. by_day day e ≡ true) es
      both es b f = λ k d l. early-passes day (get_or es k d) low (f k d l) (early (get_or es k d) (b k d l))

  -- ---- holds
  kind-turned : (k : EntryKind) → is_kind k kind.Hold ≡ is_kind kind.Hold k
  kind-turned kind.Charge = refl
  kind-turned kind.Credit = refl
  kind-turned kind.Payment = refl
  kind-turned kind.Return = refl
  kind-turned kind.Refund = refl
  kind-turned kind.Fee = refl
  kind-turned kind.Interest = refl
  kind-turned kind.Hold = refl

  -- the holds of a day
  abbrev on_day : ℕ → Entry → Bool
  on_day day e = is_between day day kind.Hold e

  early-apart : (day : ℕ) (e : Entry) → e.day < day → on_day day e ≡ false
  early-apart day e h = let low : leb day e.day ≡ false = grind (arith, nat_tests) in rw low refl

  late-apart : (day : ℕ) (e : Entry) → day < e.day → on_day day e ≡ false
  late-apart day e h =
      let high : leb e.day day ≡ false = grind (arith, nat_tests) in
      rw high (by (leb day e.day))
    where
      by : (b : Bool) → (b && false && is_kind e.kind kind.Hold) ≡ false
      by true = refl
      by false = refl

  here-alike : (day : ℕ) (e : Entry) → e.day ≡ day → on_day day e ≡ is_kind kind.Hold e.kind
  here-alike day e h =
      let low : leb day e.day ≡ true = grind (arith, nat_tests) in
      let high : leb e.day day ≡ true = grind (arith, nat_tests) in
      rw (low, high) (kind-turned e.kind)

  -- those of a day come to nothing
  holds-of : (n m : ℕ) → sum_of (λ e. is_kind kind.Hold e.kind) (after n) ≡ pos 0 → sum_of (λ e. is_kind kind.Hold e.kind) (after (suc n)) ≡ pos 0
      → sum_of (on_day (opened + n)) (after (suc n + m)) ≡ pos 0
  holds-of n m before then =
      let day = opened + n in
      let a : Added (From (opened + suc n)) (after (suc n)) (after (suc n + m)) = front (suc n) m in
      let o : Added (Of (opened + n)) (after n) (after (suc n)) = own n in
      let late : All (λ e. on_day day e ≡ false) a.rest = All-weaker (From (opened + suc n)) (λ e. on_day day e ≡ false) (λ e h. late-apart day e (omega arith)) a.rest a.all in
      let early : All (λ e. on_day day e ≡ false) (after n) = All-weaker (Before (opened + n)) (λ e. on_day day e ≡ false) (λ e h. early-apart day e h) (after n) (dates n) in
      let alike : All (λ e. on_day day e ≡ is_kind kind.Hold e.kind) o.rest = All-weaker (Of (opened + n)) (λ e. on_day day e ≡ is_kind kind.Hold e.kind) (λ e h. here-alike day e h) o.rest o.all in
      let parts : sum_of (on_day day) (after (suc n + m)) ≡ sum_of (on_day day) (after (suc n)) +ℤ sum_of (on_day day) a.rest = ap (sum_of (on_day day)) a.is ∙ sum_of-append (on_day day) (after (suc n)) a.rest in
      let own_parts : sum_of (on_day day) (after (suc n)) ≡ sum_of (on_day day) (after n) +ℤ sum_of (on_day day) o.rest = ap (sum_of (on_day day)) o.is ∙ sum_of-append (on_day day) (after n) o.rest in
      let hold_parts : sum_of (λ e. is_kind kind.Hold e.kind) (after (suc n)) ≡ sum_of (λ e. is_kind kind.Hold e.kind) (after n) +ℤ sum_of (λ e. is_kind kind.Hold e.kind) o.rest = ap (sum_of (λ e. is_kind kind.Hold e.kind)) o.is ∙ sum_of-append (λ e. is_kind kind.Hold e.kind) (after n) o.rest in
      by (sum_of (on_day day) (after (suc n + m))) (sum_of (on_day day) (after (suc n))) (sum_of (on_day day) a.rest) (sum_of (on_day day) (after n)) (sum_of (on_day day) o.rest)
      (sum_of (λ e. is_kind kind.Hold e.kind) (after (suc n))) (sum_of (λ e. is_kind kind.Hold e.kind) (after n)) (sum_of (λ e. is_kind kind.Hold e.kind) o.rest)
      parts own_parts hold_parts (sum-none (on_day day) a.rest late) (sum-none (on_day day) (after n) early) (sum-alike (on_day day) (λ e. is_kind kind.Hold e.kind) o.rest alike) before then
    where
      by : (all this rest old new held was moved : ℤ) → all ≡ this +ℤ rest → this ≡ old +ℤ new → held ≡ was +ℤ moved → rest ≡ pos 0 → old ≡ pos 0 → new ≡ moved → was ≡ pos 0 → held ≡ pos 0 → all ≡ pos 0
      by all this rest old new held was moved e f g h i j k l = omega (arith, ints)

  holds-none : (n : ℕ) → sum_of (λ e. is_kind kind.Hold e.kind) (after n) ≡ pos 0
  holds-none n =
      by n
    where
      by : (k : ℕ) → sum_of (λ e. is_kind kind.Hold e.kind) (after k) ≡ pos 0
      by zero = ap (sum_of (λ e. is_kind kind.Hold e.kind)) nothing
      by (suc k) =
          let same : opened + k + 1 - opened ≡ suc k = omega arith in
          ap (sum_of (λ e. is_kind kind.Hold e.kind)) (sym (book-is (opened + k) (suc k) same)) ∙ (balance_identity history issued shared (opened + k)).holds

-- ---- one account
-- a list whose entries up to a day sum to what was owed
owes : (day : ℕ) (es : List Entry) (z : ℤ) → sum_of (by_day day) es ≡ z → pos (sum_up_to side.Debits day es) ≡ z +ℤ pos (sum_up_to side.Credits day es)
owes day es z e =
    let debits : sum_up_to side.Debits day es ≡ sum_by (part side.Debits (by_day day)) es = kinds-together side.Debits day es in
    let credits : sum_up_to side.Credits day es ≡ sum_by (part side.Credits (by_day day)) es = kinds-together side.Credits day es in
    let sums : pos (sum_by (part side.Debits (by_day day)) es) ≡ sum_of (by_day day) es +ℤ pos (sum_by (part side.Credits (by_day day)) es) = signed (by_day day) es in
    rw (debits, credits, ← e) sums

less-is : (d c : ℕ) → pos d ≡ pos 0 +ℤ pos c → d ≡ c
less-is d c h = omega (arith, ints)

-- and one whose holds of a day sum to nothing
even : (day : ℕ) (es : List Entry) → sum_of (λ e. is_between day day kind.Hold e) es ≡ pos 0 → sum_between side.Debits day day kind.Hold es ≡ sum_between side.Credits day day kind.Hold es
unfolding sum_between
even day es f =
    let credits = sum_by (part side.Credits (λ e. is_between day day kind.Hold e)) es in
    let holds : pos (sum_by (part side.Debits (λ e. is_between day day kind.Hold e)) es) ≡ sum_of (λ e. is_between day day kind.Hold e) es +ℤ pos credits = signed (λ e. is_between day day kind.Hold e) es in
    less-is (sum_by (part side.Debits (λ e. is_between day day kind.Hold e)) es) credits (holds ∙ ap (λ y. y +ℤ pos credits) f)

before-or-since : (d o : ℕ) → (d < o) ⊎ (o ≤ d)
before-or-since d o = grind arith

-- in the book of a day, debits less credits of all days up to an earlier one are what is owed at its end
pub owed-then : (history : List Kept) (issued : List IssuedRow) (shared : SharedRows) (day today : ℕ) → first_calendar_day ≤ (anchor_of history).opened → day ≤ today
    → pos (sum_up_to side.Debits day (book history issued shared today).entries) ≡ owed (book history issued shared day).entries +ℤ pos (sum_up_to side.Credits day (book history issued shared today).entries)
owed-then history issued shared day today low h = by (before-or-since day (anchor_of history).opened)
  where
    by : (day < (anchor_of history).opened) ⊎ ((anchor_of history).opened ≤ day)
        → pos (sum_up_to side.Debits day (book history issued shared today).entries) ≡ owed (book history issued shared day).entries +ℤ pos (sum_up_to side.Credits day (book history issued shared today).entries)
    by (inl early) =
        let o = (anchor_of history).opened in
        let t = today + 1 - o in
        let es = (book history issued shared today).entries in
        let is : es ≡ after history issued shared t = book-is history issued shared today t refl in
        let all : All (From o) es = subst (All (From o)) (sym is) (since history issued shared t) in
        let before : day + 1 - o ≡ 0 = omega arith in
        let none : owed (book history issued shared day).entries ≡ pos 0 = ap owed (book-is history issued shared day 0 before ∙ nothing history issued shared) in
        owes day es (owed (book history issued shared day).entries)
        (sum-none (by_day day) es (All-weaker (From o) (λ e. by_day day e ≡ false) (λ e g. late-fails history issued shared day e (omega arith)) es all) ∙ sym none)
    by (inr later) =
        let o = (anchor_of history).opened in
        let n = day - o in
        let m = today - day in
        let es = (book history issued shared today).entries in
        let whole : today + 1 - o ≡ suc n + m = omega arith in
        let is : es ≡ after history issued shared (suc n + m) = book-is history issued shared today (suc n + m) whole in
        let here : day + 1 - o ≡ suc n = omega arith in
        let then : (book history issued shared day).entries ≡ after history issued shared (suc n) = book-is history issued shared day (suc n) here in
        owes day es (owed (book history issued shared day).entries)
        (ap (sum_of (by_day day)) is ∙ (front-owed history issued shared day (suc n) m low (λ e g. omega arith) (λ e g. omega arith) ∙ ap owed (sym then)))

-- and on each day the debits of hold are as much as its credits
pub held-even : (history : List Kept) (issued : List IssuedRow) (shared : SharedRows) (day today : ℕ)
    → sum_between side.Debits day day kind.Hold (book history issued shared today).entries ≡ sum_between side.Credits day day kind.Hold (book history issued shared today).entries
held-even history issued shared day today = even day (book history issued shared today).entries (by (before-or-since day (anchor_of history).opened) (before-or-since today day))
  where
    by : (day < (anchor_of history).opened) ⊎ ((anchor_of history).opened ≤ day) → (today < day) ⊎ (day ≤ today) → sum_of (λ e. is_between day day kind.Hold e) (book history issued shared today).entries ≡ pos 0
    by (inl early) past =
        let o = (anchor_of history).opened in
        let t = today + 1 - o in
        let es = (book history issued shared today).entries in
        let all : All (From o) es = subst (All (From o)) (sym (book-is history issued shared today t refl)) (since history issued shared t) in
        sum-none (λ e. is_between day day kind.Hold e) es (All-weaker (From o) (λ e. is_between day day kind.Hold e ≡ false) (λ e g. late-apart history issued shared day e (omega arith)) es all)
    by (inr later) (inl ahead) =
        let o = (anchor_of history).opened in
        let t = today + 1 - o in
        let es = (book history issued shared today).entries in
        let all : All (Before (o + t)) es = subst (All (Before (o + t))) (sym (book-is history issued shared today t refl)) (dates history issued shared t) in
        sum-none (λ e. is_between day day kind.Hold e) es (All-weaker (Before (o + t)) (λ e. is_between day day kind.Hold e ≡ false) (λ e g. early-apart history issued shared day e (omega arith)) es all)
    by (inr later) (inr h) =
        let o = (anchor_of history).opened in
        let n = day - o in
        let m = today - day in
        let whole : today + 1 - o ≡ suc n + m = omega arith in
        let same : o + n ≡ day = omega arith in
        let held : sum_of (λ e. is_between (o + n) (o + n) kind.Hold e) (after history issued shared (suc n + m)) ≡ pos 0 = holds-of history issued shared n m (holds-none history issued shared n) (holds-none history issued shared (suc n)) in
        ap (sum_of (λ e. is_between day day kind.Hold e)) (book-is history issued shared today (suc n + m) whole)
        ∙ subst (λ d. sum_of (λ e. is_between d d kind.Hold e) (after history issued shared (suc n + m)) ≡ pos 0) same held
