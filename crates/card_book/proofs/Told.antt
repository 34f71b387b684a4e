-- What a Book that stands for an account's book tells.
use Rattle.std.proofs.Common.{◌+◌, ◌≡◌, ℕ, zero, suc, ◌-◌, ◌≤◌, Bool, List, length, map, refl, sym, ap, ◌∙◌, subst, arith, Some, None, ℤ, pos, negsuc, get_or}
use Rattle.std.proofs.lemmas.Int.{ints}
use Rattle.std.proofs.lemmas.Option.{slice_get-get_or}
use Rattle.std.specs.Prelude.{◌≤ℤ◌, neg_ℤ}
use Rattle.card_bounds.proofs.Whole.{balances_small}
use Rattle.card_bounds.specs.Bounds.{IsLimited}
use Rattle.card_events.specs.Range.{last_request_day}
use Rattle.card_events.specs.Limits.{post_limit}
use Rattle.card_closing.specs.Accruals.{Accrued}
use Rattle.card_fees.specs.declared.tally.Tally.{Tally}
use Rattle.card_model.specs.Books.{Book}
use Rattle.card_model.specs.Cycles.{Cycle}
use Rattle.card_model.specs.Entries.{AreBalances, at_least_zero}
use Rattle.card_model.specs.Folds.{cycle_at}
use Rattle.card_model.specs.Limits.{balance_limit}
use Rattle.card_model.specs.declared.entry.Entry.{Entry}
use Rattle.card_model.specs.declared.fee.Fee.{Fee}
use Rattle.card_model.specs.declared.segment.Interval.{Interval}
use Rattle.card_rates.specs.RateBooks.{Rates, rates_of}
use Rattle.card_segments.specs.Balances.{AreWithin, Balances}
use Rattle.card_daily.proofs.Standing.{within}
use Rattle.card_daily.specs.Given.{Given, IsSound, book_on, opened_in}
use Rattle.card_daily.specs.Stands.{AreBefore, HaveAccrued, before, first_in, rows_through}
use Rattle.card_daily.specs.declared.state.State.{State}
use Rattle.card_daily.specs.declared.track.Track.{Track}
use Rattle.card_book.specs.Stands.{IsBlankFrom, StandsFor, Summary, book_through, day_to_fold, recorded}
use Rattle.card_book.proofs.Days.{book_is_the_fold, through-is}

-- ---- a Book that begins, and a copy
pub start-stands : (g : Given) (s : State) (tally : Tally) (t : Track) → AreBefore g (opened_in g) s t → IsBlankFrom (opened_in g) tally
    → StandsFor g (record { day = None; state = s; tally = tally; credit_since = None; whole = Bool.true }) t
start-stands g s tally t h blank = record { opened = λ d e. absurd (no d e); folded = h; since = refl; tally = blank }
  where
    no : (d : ℕ) → None ≡ Some d → ⊥
    no d e = cc

-- one state has the lists of another
pub record IsCopy (s from : State) : Type 0 where
  pub segments : s.segments ≡ from.segments
  pub rates : s.rates ≡ from.rates
  pub rows : s.rows.items ≡ from.rows.items
  pub accruals : s.accruals.items ≡ from.accruals.items

copy-before : (g : Given) (day : ℕ) (s from : State) (t : Track) → IsCopy s from → AreBefore g day from t → AreBefore g day s t
copy-before g day s from t c h =
    let old = h.stand in
    record {
      stand = record {
        entries = old.entries;
        cycles = old.cycles;
        fees = old.fees;
        rates = c.rates ∙ old.rates;
        segments = ap (λ (b : Balances). b.segments) c.segments ∙ old.segments;
        sums = subst (λ (b : Balances). AreBalances (before g day).entries b.balances) (sym c.segments) old.sums;
        rows = c.rows ∙ (old.rows ∙ ap (λ (r : Rates). map (rows_through g (first_in g day) (day - 1) (before g day)) r.segments) (sym c.rates));
        accruals = ap (λ (l : List Accrued). length l) c.accruals ∙ (old.accruals ∙ ap (λ (r : Rates). length r.segments) (sym c.rates));
      };
      accrued = subst (λ (r : Rates). HaveAccrued g (day - 1) (before g day) r.segments s.accruals.items) (sym c.rates) (subst (HaveAccrued g (day - 1) (before g day) from.rates.segments) (sym c.accruals) h.accrued);
    }

pub copy-stands : (g : Given) (b : Summary) (s : State) (t : Track) → IsCopy s b.state → StandsFor g b t
    → StandsFor g (record { day = b.day; state = s; tally = b.tally; credit_since = b.credit_since; whole = b.whole }) t
copy-stands g b s t c h = record { opened = h.opened; folded = copy-before g (day_to_fold g b.day) s b.state t c h.folded; since = h.since; tally = h.tally }

-- ---- cycles
pub cycle-place : (n : ℕ) (cs : List Cycle) (d : Cycle) → 1 ≤ n → n ≤ length cs → cycle_at n cs ≡ Some (get_or cs (n - 1) d)
cycle-place zero cs d l h = absurd (no l)
  where
    no : 1 ≤ 0 → ⊥
    no l = omega arith
cycle-place (suc n) cs d l h =
    let same : suc n - 1 ≡ n = omega arith in
    slice_get-get_or cs n d (omega arith) ∙ ap (λ m. Some (get_or cs m d)) (sym same)

pub statement-is : (g : Given) (b : Summary) (t : Track) (n : ℕ) (c : Cycle) → StandsFor g b t → cycle_at n t.cycles.items ≡ Some c → cycle_at n (book_through g b.day).cycles ≡ Some c
statement-is g b t n c h e = ap (cycle_at n) (sym (book_is_the_fold g b t h).cycles) ∙ e

-- ---- signs
pub credit-is : (z : ℤ) → z ≤ℤ pos 0 → neg_ℤ z ≡ pos (at_least_zero (neg_ℤ z))
credit-is (pos zero) h = refl
credit-is (pos (suc n)) h = absurd (no n h)
  where
    no : (n : ℕ) → pos (suc n) ≤ℤ pos 0 → ⊥
    no n h = omega (arith, ints)
credit-is (negsuc n) h = refl

pub owing-is : (z : ℤ) → pos 0 ≤ℤ z → z ≡ pos (at_least_zero z)
owing-is (pos n) h = refl
owing-is (negsuc n) h = absurd (no n h)
  where
    no : (n : ℕ) → pos 0 ≤ℤ negsuc n → ⊥
    no n h = omega (arith, ints)

-- ---- the whole book
pub small-on : (g : Given) (day : ℕ) (bs : List ℤ) → IsSound g → day ≤ last_request_day → AreBalances (book_on g day).entries bs → AreWithin balance_limit bs
small-on g day bs s l sums =
    let o = s.opening.first in
    let limits : IsLimited post_limit g.history g.shared day = record { count = s.accepted.count; cents = s.accepted.cents; fees = s.fees; days = omega arith } in
    within (book_on g day).entries bs sums (balances_small post_limit g.history g.issued g.shared day limits (omega arith))

book-of : (b : Book) (es : List Entry) (cs : List Cycle) (fs : List Fee) (ps : List Interval) → es ≡ b.entries → cs ≡ b.cycles → fs ≡ b.fees → ps ≡ b.penalties → record { entries = es; cycles = cs; fees = fs; penalties = ps } ≡ b
book-of b es cs fs ps e f g h = rw (e, f, g, h) refl

pub whole-is : (g : Given) (b : Summary) (t : Track) (day : ℕ) → b.day ≡ Some day → StandsFor g b t
    → recorded t b.state.rates.penalties ≡ book_on g day
whole-is g b t day e h =
    let f = book_is_the_fold g b t h in
    book-of (book_through g b.day) t.entries.items t.cycles.items t.fees.items b.state.rates.penalties f.entries f.cycles f.fees f.penalties ∙ ap (book_through g) e

pub sums-on : (g : Given) (b : Summary) (t : Track) (day : ℕ) → b.day ≡ Some day → StandsFor g b t → AreBalances (book_on g day).entries b.state.segments.balances
sums-on g b t day e h = subst (λ d. AreBalances (book_through g d).entries b.state.segments.balances) e (book_is_the_fold g b t h).balances

-- ---- rates and accruals
pub rates-on : (g : Given) (b : Summary) (t : Track) (day : ℕ) → b.day ≡ Some day → StandsFor g b t → b.state.rates ≡ rates_of g.shared.holidays g.history (book_on g day).penalties
rates-on g b t day e h =
    let same : before g (day_to_fold g b.day) ≡ book_on g day = through-is g b.day ∙ ap (book_through g) e in
    h.folded.stand.rates ∙ ap (λ (x : Book). rates_of g.shared.holidays g.history x.penalties) same

pub accruals-on : (g : Given) (b : Summary) (t : Track) (day : ℕ) → b.day ≡ Some day → StandsFor g b t → HaveAccrued g day (book_on g day) b.state.rates.segments b.state.accruals.items
accruals-on g b t day e h =
    let next : day_to_fold g b.day ≡ day + 1 = ap (day_to_fold g) e in
    let back : day_to_fold g b.day - 1 ≡ day = omega (arith, next) in
    let same : before g (day_to_fold g b.day) ≡ book_on g day = through-is g b.day ∙ ap (book_through g) e in
    subst (λ d. HaveAccrued g d (book_on g day) b.state.rates.segments b.state.accruals.items) back
    (subst (λ (x : Book). HaveAccrued g (day_to_fold g b.day - 1) x b.state.rates.segments b.state.accruals.items) same h.folded.accrued)
