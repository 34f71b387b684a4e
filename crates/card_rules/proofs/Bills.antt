-- Every accepted Bill issues its cycle's statement.
use Rattle.std.proofs.Common.{◌≡◌, ℕ, zero, suc, ◌+◌, ◌-◌, ◌≤◌, ◌<◌, ◌⊎◌, inl, inr, Bool, true, false, cond, ◌||◌, List, [], ◌∷◌, ◌++◌, length, eqb, leb, ltb, nat_lt, refl, sym, ap, ap₂, ◌∙◌, subst, arith, Option, Some, None}
use Rattle.std.specs.Prelude.{is_some, slice_get}
use Rattle.std.proofs.lemmas.Bool.{cases_lt, eq-eqb}
use Rattle.std.proofs.lemmas.Bool.Decides.{nat_tests}
use Rattle.std.proofs.lemmas.List.{length-append}
use Rattle.std.proofs.lemmas.List.Elements.{All-weaker}
use Rattle.std.proofs.lemmas.List.Folds.{list_any-append}
use Rattle.card_model.proofs.Accepting.{all-none, where-false}
use Rattle.card_events.specs.SharedRows.{SharedRows}
use Rattle.card_events.specs.Billing.{IsCloseDay, closing, closings_among, cycle_of, next_on}
use Rattle.card_events.specs.Civil.{date_of, day_at, day_of_month}
use Rattle.card_events.specs.History.{anchor_of, is_open}
use Rattle.card_events.specs.Range.{last_calendar_day, last_request_day}
use Rattle.card_events.specs.declared.anchor.Anchor.{Anchor}
use Rattle.card_events.specs.declared.kept.Kept.{Kept}
use Rattle.card_events.specs.declared.post.Post.{Post}
use Rattle.card_events.specs.declared.post.Post.TheVariants as post
use Rattle.card_events.specs.declared.reply.Refusal.TheVariants as refusal
use Rattle.card_events.proofs.Cycles.{closing_grows}
use Rattle.card_events.proofs.DateFacts.{after_first, day_2103, day_at-date_of}
use Rattle.card_events.proofs.Dates.{date_of-has}
use Rattle.card_events.proofs.Months.{IsCivil, dated, length_bounds, next_civil, next_on-here, next_on-over}
use Rattle.card_model.specs.Cycles.{Cycle, Sheet}
use Rattle.card_model.specs.Folds.{cycle_at, row_of_cycle}
use Rattle.card_model.specs.Machine.{NamedAccount, accepted, issues, kept_as, next_number, run}
use Rattle.card_model.specs.Refusals.{Lists, Present, anchor_now, bills, book_today, is_out_of_range, not_closed, reason_against, reason_to_open, reasons}
use Rattle.card_model.specs.Sheets.{issued_sheet_of}
use Rattle.card_model.proofs.Calendar.{cycles_are_of_the_calendar}
use Rattle.card_rules.proofs.EveryRun.{of_every_run}
use Rattle.card_rules.proofs.Reasons.{none-first}
use Rattle.card_rules.specs.Bills.{BillsIssue, is_billed, is_issued}

-- ---- a closing lies on its day of the month
next-by : (y m d c : ℕ) (b : Bool) → nat_lt c d ≡ b → IsCivil y m d → y ≤ 2298 → 1 ≤ c → c ≤ 28 → day_of_month (next_on c (day_at y m d)) ≡ c
next-by y m d c true e h far low high =
    let less : c < d = grind (arith, nat_tests) in
    ap day_of_month (next_on-over y m d c h far low less high) ∙ dated _ _ c (next_civil y m c h.year_low far h.month_high low high)
next-by y m d c false e h far low high =
    let less : d ≤ c = grind (arith, nat_tests) in
    ap day_of_month (next_on-here y m d c h less high) ∙ dated y m c (record {
      year_low = h.year_low;
      year_high = h.year_high;
      month_low = h.month_low;
      month_high = h.month_high;
      day_low = low;
      day_high = omega (arith, length_bounds y m);
    })

few-years : (n : ℕ) → n ≤ last_calendar_day → (date_of n).year ≤ 2102
few-years n l = by (cases_lt 2102 (date_of n).year)
  where
    by : (2102 < (date_of n).year) ⊎ ((date_of n).year ≤ 2102) → (date_of n).year ≤ 2102
    by (inl late) =
        let h = date_of-has n (omega arith) in
        let far = after_first (date_of n).year (date_of n).month (date_of n).day 2103 (omega arith) (omega arith) h.day_low in
        absurd (omega (arith, far, h.number, day_2103, l))
    by (inr few) = few

next-dated : (n c : ℕ) → n ≤ last_calendar_day → 1 ≤ c → c ≤ 28 → day_of_month (next_on c n) ≡ c
next-dated n c l low high =
    let h = date_of-has n (omega arith) in
    let few = few-years n l in
    ap (λ x. day_of_month (next_on c x)) (sym (day_at-date_of n (omega arith)))
    ∙ next-by (date_of n).year (date_of n).month (date_of n).day c (nat_lt c (date_of n).day) refl (record {
      year_low = h.year_low;
      year_high = omega arith;
      month_low = h.month_low;
      month_high = h.month_high;
      day_low = h.day_low;
      day_high = h.day_high;
    }) (omega arith) low high

-- ---- as many days of that kind as closings
closings-more : (c first n m : ℕ) → n ≤ m → closings_among c first n ≤ closings_among c first m
unfolding closings_among
closings-more c first n zero l = let none : n ≡ 0 = omega arith in rw none (omega arith)
closings-more c first n (suc m) l = by (cases_lt n (suc m)) (closings-more c first n m)
  where
    by : (n < suc m) ⊎ (suc m ≤ n) → (n ≤ m → closings_among c first n ≤ closings_among c first m) → closings_among c first n ≤ closings_among c first (suc m)
    by (inl less) rest = let before = rest (omega arith) in omega arith
    by (inr same) rest = let is : n ≡ suc m = omega arith in subst (λ x. closings_among c first n ≤ closings_among c first x) is (omega arith)

one-more : (c first d : ℕ) → first ≤ d → day_of_month d ≡ c → closings_among c first (d + 1 - first) ≡ closings_among c first (d - first) + 1
unfolding closings_among
one-more c first d l on =
    let next : d + 1 - first ≡ suc (d - first) = omega arith in
    let back : first + (d - first) ≡ d = omega arith in
    ap (closings_among c first) next
    ∙ (ap (λ x. closings_among c first (d - first) + cond (eqb (day_of_month x) c) 1 0) back
    ∙ ap (λ t. closings_among c first (d - first) + cond t 1 0) (eq-eqb _ _ on))

record IsCounted (a : Anchor) (k : ℕ) : Type 0 where
  pub many : k ≤ closings_among a.close_day a.opened (closing a k + 1 - a.opened)
  pub opened : a.opened ≤ closing a k + 1

counted-through : (a : Anchor) (k : ℕ) → IsCloseDay a.close_day → closing a k ≤ last_request_day → IsCounted a k
unfolding closing
counted-through a zero on l = record { many = omega arith; opened = omega arith }
counted-through a (suc k) on l =
    let up = closing_grows a k in
    let before = counted-through a k on (omega (arith, up, l)) in
    let opened = before.opened in
    let many = before.many in
    let more = closings-more a.close_day a.opened (closing a k + 1 - a.opened) (closing a (suc k) - a.opened) (omega (arith, up)) in
    let last = one-more a.close_day a.opened (closing a (suc k)) (omega (arith, up, opened)) (next-dated (closing a k + 1) a.close_day (omega (arith, up, l)) on.0 on.1) in
    record { many = omega (arith, many, more, last); opened = omega (arith, up, opened) }

-- ---- a cycle whose closing lies before today is in the book of today
closed-by : (now : Present) (c : ℕ) → IsCloseDay (anchor_now now).close_day → closing (anchor_now now) c ≤ last_request_day → closing (anchor_now now) c < now.today → c ≤ length (book_today now).cycles
unfolding book_today cycle_of
closed-by now c on small l =
    let a = anchor_now now in
    let count = cycles_are_of_the_calendar.count now.lists.posts now.lists.issued now.shared now.today in
    let many = (counted-through a c on small).many in
    let more = closings-more a.close_day a.opened (closing a c + 1 - a.opened) (now.today + 1 - a.opened) (omega (arith, l)) in
    omega (arith, count, many, more)

some-there : (cs : List Cycle) (n : ℕ) → n < length cs → is_some (slice_get cs n) ≡ true
some-there [] n l = absurd (omega arith)
some-there (x ∷ xs) zero l = refl
some-there (x ∷ xs) (suc n) l = some-there xs n (omega arith)

cycle-there : (c : ℕ) (cs : List Cycle) → 1 ≤ c → c ≤ length cs → is_some (cycle_at c cs) ≡ true
cycle-there zero cs l m = absurd (omega arith)
cycle-there (suc n) cs l m = some-there cs n (omega arith)

-- ---- a Bill that nothing is against
pub record NoReason (now : Present) (p : Post) : Type 0 where
  pub range : is_out_of_range now p ≡ false
  pub closed : not_closed now p ≡ None

pub no-reason : (now : Present) (p : Post) → reason_against now p ≡ None → NoReason now p
unfolding reason_against
no-reason now p h =
    let none = all-none (reasons now p) h in
    record { range = where-false _ _ none.0; closed = none.1.1.1.1.1.1.1.1.1.1.1.1.1.1.1.1.1.0 }

within : (c d top : ℕ) → (eqb c 0 || ltb top d) ≡ false → (1 ≤ c) × (d ≤ top)
within zero d top h = cc
within (suc n) d top h = (omega arith, grind (arith, nat_tests))

above : (n m : ℕ) → leb n m ≡ false → m < n
above n m h = grind (arith, nat_tests)

pub bill-closed : (now : Present) (c : ℕ) → IsCloseDay (anchor_now now).close_day → NoReason now (post.Bill c) → is_some (cycle_at c (book_today now).cycles) ≡ true
unfolding is_out_of_range not_closed
bill-closed now c on h =
    let a = anchor_now now in
    let range = within c (closing a c) last_request_day h.range in
    let later = where-false (leb now.today (closing a c)) (refusal.NotClosed (closing a c)) h.closed in
    cycle-there c (book_today now).cycles range.0 (closed-by now c on range.1 (above now.today (closing a c) later))

-- ---- what a post issues
row-issued : (k c bill today : ℕ) (sheet : Cycle → Sheet) (o : Option Cycle) → is_some o ≡ true → is_issued k (row_of_cycle c bill today sheet o) ≡ (eqb c k || false)
row-issued k c bill today sheet (Some x) e = refl
row-issued k c bill today sheet None e = cc

issues-billed : (now : Present) (p : Post) (k : ℕ) → IsCloseDay (anchor_now now).close_day → NoReason now p → is_issued k (issues now p) ≡ (bills k p || false)
issues-billed now (post.Bill c) k on h = row-issued k c (next_number now) now.today (issued_sheet_of now) (cycle_at c (book_today now).cycles) (bill-closed now c on h)
issues-billed now (post.Open d t) k on h = refl
issues-billed now (post.OpenVariable d t) k on h = refl
issues-billed now (post.Charge d p c) k on h = refl
issues-billed now (post.Credit d p c) k on h = refl
issues-billed now (post.Payment d m y c) k on h = refl
issues-billed now (post.Return d t) k on h = refl
issues-billed now (post.Plan d g r f a) k on h = refl
issues-billed now (post.Notice d c r f) k on h = refl
issues-billed now (post.Lower d c r) k on h = refl
issues-billed now post.Penalty k on h = refl
issues-billed now (post.Review d f) k on h = refl
issues-billed now (post.Dispute d t c) k on h = refl
issues-billed now (post.Ack d t) k on h = refl
issues-billed now (post.Resolve d t c) k on h = refl
issues-billed now (post.AskRefund d) k on h = refl
issues-billed now (post.Refund c) k on h = refl
issues-billed now (post.Amend t d c) k on h = refl

-- ---- every run
pub record HasIssued (l : Lists) : Type 0 where
  pub begun : 1 ≤ length l.posts
  pub close_day : IsCloseDay (anchor_of l.posts).close_day
  pub issued : (cycle : ℕ) → is_issued cycle l.issued ≡ is_billed cycle l.posts

same-anchor : (posts : List Kept) (k : Kept) → 1 ≤ length posts → anchor_of (posts ++ k ∷ []) ≡ anchor_of posts
same-anchor [] k l = absurd (omega arith)
same-anchor (x ∷ posts) k l = refl

pub accepts-bills : (now : Present) (key : List ℕ) (p : Post) → is_open p ≡ false → reason_against now p ≡ None → HasIssued now.lists → HasIssued (accepted now key p)
unfolding accepted
accepts-bills now key p o e h =
    let k = kept_as (next_number now) key now.today p in
    let none = no-reason now p e in
    record {
      begun = rw (length-append now.lists.posts (k ∷ [])) (omega arith);
      close_day = subst (λ (a : Anchor). IsCloseDay a.close_day) (sym (same-anchor now.lists.posts k h.begun)) h.close_day;
      issued = λ cycle.
          list_any-append _ now.lists.issued (issues now p)
          ∙ (ap₂ (λ x y. x || y) (h.issued cycle) (issues-billed now p cycle h.close_day none)
          ∙ sym (list_any-append (λ (j : Kept). bills cycle j.post) now.lists.posts (k ∷ [])));
    }

pub opens-bills : (key : List ℕ) (today accounts : ℕ) (shared : SharedRows) (p : Post) → is_open p ≡ true → reason_to_open today accounts shared p ≡ None → HasIssued (record { posts = kept_as 1 key today p ∷ []; issued = [] })
unfolding reason_to_open
opens-bills key today accounts shared (post.Open d t) o e =
    let close = where-false ((eqb t.close 0) || ltb 28 t.close) (refusal.BadTerms 1) (none-first _ _ (none-first _ _ e)) in
    record { begun = omega arith; close_day = within t.close t.close 28 close; issued = λ cycle. refl }
opens-bills key today accounts shared (post.OpenVariable d t) o e =
    let close = where-false ((eqb t.close 0) || ltb 28 t.close) (refusal.BadTerms 1) (none-first _ _ (none-first _ _ e)) in
    record { begun = omega arith; close_day = within t.close t.close 28 close; issued = λ cycle. refl }
opens-bills key today accounts shared (post.Charge d p c) o e = absurd (cc)
opens-bills key today accounts shared (post.Credit d p c) o e = absurd (cc)
opens-bills key today accounts shared (post.Payment d m y c) o e = absurd (cc)
opens-bills key today accounts shared (post.Return d t) o e = absurd (cc)
opens-bills key today accounts shared (post.Plan d g r f a) o e = absurd (cc)
opens-bills key today accounts shared (post.Notice d c r f) o e = absurd (cc)
opens-bills key today accounts shared (post.Lower d c r) o e = absurd (cc)
opens-bills key today accounts shared post.Penalty o e = absurd (cc)
opens-bills key today accounts shared (post.Review d f) o e = absurd (cc)
opens-bills key today accounts shared (post.Dispute d t c) o e = absurd (cc)
opens-bills key today accounts shared (post.Ack d t) o e = absurd (cc)
opens-bills key today accounts shared (post.Resolve d t c) o e = absurd (cc)
opens-bills key today accounts shared (post.AskRefund d) o e = absurd (cc)
opens-bills key today accounts shared (post.Refund c) o e = absurd (cc)
opens-bills key today accounts shared (post.Amend t d c) o e = absurd (cc)
opens-bills key today accounts shared (post.Bill c) o e = absurd (cc)

pub bills_issue : BillsIssue
bills_issue requests =
    All-weaker (λ (x : NamedAccount). HasIssued x.lists) (λ (x : NamedAccount). (cycle : ℕ) → is_issued cycle x.lists.issued ≡ is_billed cycle x.lists.posts)
    (λ x h. h.issued) (run requests).accounts (of_every_run HasIssued (record { opens = opens-bills; accepts = accepts-bills }) requests)
