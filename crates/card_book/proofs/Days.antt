-- The book of a day and that of the day before.
use Rattle.std.proofs.Common.{◌≡◌, ℕ, suc, ◌+◌, ◌-◌, ◌≤◌, ◌++◌, refl, sym, ap, ◌∙◌, subst, arith, Option, Some, None}
use Rattle.std.specs.List.{All}
use Rattle.card_bounds.proofs.Dated.{Added, IsInterest, IsPlain, added-then, added-weaker, day-added, posted-added, posted_on}
use Rattle.card_bounds.proofs.OnDays.{entries_have_days}
use Rattle.card_model.specs.Books.{Book}
use Rattle.card_model.specs.Deadlines.{credit_since}
use Rattle.card_model.specs.Entries.{AreBalances, credit_balance}
use Rattle.card_model.specs.Folds.{book, book_after, day_after}
use Rattle.card_model.specs.declared.entry.Entry.{Entry}
use Rattle.card_rates.specs.RateBooks.{Rates}
use Rattle.card_daily.proofs.Books.{day-is}
use Rattle.card_dayend.proofs.Opened.{before-opening}
use Rattle.card_daily.specs.Given.{Given, account_in, book_in, book_on, opened_in, row_in, seen_in}
use Rattle.card_daily.specs.Stands.{before}
use Rattle.card_book.specs.Stands.{BookIsTheFold, book_through, day_to_fold, since_after, since_through}
use Rattle.card_book.proofs.Credit.{since-first, since-next}

-- ---- books
pub after-is : (g : Given) (day : ℕ) → before g (day + 1) ≡ book_on g day
unfolding book
after-is g day = refl

pub through-is : (g : Given) (day : Option ℕ) → before g (day_to_fold g day) ≡ book_through g day
through-is g None = before-opening g
through-is g (Some day) = after-is g day

-- ---- what a day adds
abbrev OnDay : ℕ → Entry → Type 0
OnDay day e = e.day ≡ day

grows : (g : Given) (day : ℕ) → opened_in g ≤ day → Added (OnDay day) (before g day).entries (before g (day + 1)).entries
unfolding book_after
grows g day l =
    let n = day - opened_in g in
    let b = before g day in
    let a = account_in g in
    let row = row_in g n in
    let seen = seen_in g (opened_in g + n) in
    let now = day-is (opened_in g) day l in
    let next : day + 1 - opened_in g ≡ suc n = omega arith in
    let posts = added-weaker (IsPlain seen.day) (OnDay day) b.entries (posted_on row a seen b).entries (λ e q. q.0 ∙ now) (posted-added row a seen b) in
    let closing = added-weaker (IsInterest seen.day) (OnDay day) (posted_on row a seen b).entries (day_after row a seen b).entries (λ e q. q.0 ∙ now) (day-added row a seen b) in
    subst (λ m. Added (OnDay day) b.entries (book_in g m).entries) (sym next)
    (added-then (OnDay day) b.entries (posted_on row a seen b).entries (day_after row a seen b).entries posts closing)

-- ---- credit balances
first-since : (g : Given) → since_through g (Some (opened_in g)) ≡ since_after (credit_balance (book_on g (opened_in g)).entries) (opened_in g) None
first-since g = since-first (book_on g (opened_in g)).entries (opened_in g) (entries_have_days.days g.history g.issued g.shared (opened_in g))

later-since : (g : Given) (day : ℕ) → opened_in g ≤ day → since_through g (Some (day + 1)) ≡ since_after (credit_balance (book_on g (day + 1)).entries) (day + 1) (since_through g (Some day))
later-since g day l =
    let more = grows g (day + 1) (omega arith) in
    let old = (book_on g day).entries in
    let is : (book_on g (day + 1)).entries ≡ old ++ more.rest = ap (λ (b : Book). b.entries) (sym (after-is g (day + 1))) ∙ (more.is ∙ ap (λ (b : Book). b.entries ++ more.rest) (after-is g day)) in
    let all = subst (All (λ e. e.day ≤ day + 1)) is (entries_have_days.days g.history g.issued g.shared (day + 1)) in
    let same : day + 1 - 1 ≡ day = omega arith in
    let early = subst (λ d. All (λ (e : Entry). e.day ≤ d) old) (sym same) (entries_have_days.days g.history g.issued g.shared day) in
    subst (λ es. credit_since es (opened_in g) (day + 1) ≡ since_after (credit_balance es) (day + 1) (credit_since old (opened_in g) day)) (sym is)
    (subst (λ d. credit_since (old ++ more.rest) (opened_in g) (day + 1) ≡ since_after (credit_balance (old ++ more.rest)) (day + 1) (credit_since old (opened_in g) d)) same
    (since-next old more.rest (opened_in g) (day + 1) (omega arith) all early more.all))

pub next-since : (g : Given) (day : Option ℕ) → ((d : ℕ) → day ≡ Some d → opened_in g ≤ d)
    → since_through g (Some (day_to_fold g day)) ≡ since_after (credit_balance (book_on g (day_to_fold g day)).entries) (day_to_fold g day) (since_through g day)
next-since g None h = first-since g
next-since g (Some day) h = later-since g day (h day refl)

-- ---- the fold
pub book_is_the_fold : BookIsTheFold
book_is_the_fold g b t h =
    let same = through-is g b.day in
    record {
      entries = h.folded.stand.entries ∙ ap (λ (x : Book). x.entries) same;
      cycles = h.folded.stand.cycles ∙ ap (λ (x : Book). x.cycles) same;
      fees = h.folded.stand.fees ∙ ap (λ (x : Book). x.fees) same;
      penalties = ap (λ (r : Rates). r.penalties) h.folded.stand.rates ∙ ap (λ (x : Book). x.penalties) same;
      segments = h.folded.stand.segments;
      balances = subst (λ (x : Book). AreBalances x.entries b.state.segments.balances) same h.folded.stand.sums;
    }
