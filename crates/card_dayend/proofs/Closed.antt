-- State and track after a day, with its closing or without one.
use Rattle.std.proofs.Common.{◌≡◌, ℕ, suc, ◌+◌, ◌-◌, ◌<◌, ◌≤◌, List, [], ◌∷◌, ◌++◌, map, length, take, drop, set, get_or, refl, sym, ap, ◌∙◌, subst, arith, zero, Option}
use Rattle.std.specs.List.{All, Contains}
use Rattle.std.proofs.lemmas.List.{append-nil, drop_all, take_all}
use Rattle.card_closing.specs.Closes.{IsGivenFor, IsOfBook}
use Rattle.card_closing.specs.Interest.{statement_of}
use Rattle.card_closing.specs.Interest.{StandFor as StandForClosing}
use Rattle.card_closing.specs.declared.closing.Closing.{Closing}
use Rattle.card_events.specs.Civil.{day_of_month}
use Rattle.card_events.specs.Range.{last_request_day}
use Rattle.card_effects.specs.Standing.{is_added}
use Rattle.card_events.specs.History.{anchor_of}
use Rattle.card_closing.specs.Accruals.{Accrued, nothing_accrued}
use Rattle.card_closing.specs.Rows.{Rows, no_rows}
use Rattle.card_model.specs.Books.{Book, present_cycle}
use Rattle.card_model.specs.Caps.{row_for}
use Rattle.card_model.specs.Cycles.{Cycle}
use Rattle.card_model.specs.Entries.{AreBalances}
use Rattle.card_model.specs.Fees.{fees_in}
use Rattle.card_model.specs.Interest.{accrual}
use Rattle.card_model.specs.Segments.{SegmentTerms}
use Rattle.card_model.specs.declared.fee.Fee.{Fee}
use Rattle.card_rates.specs.RateBooks.{Rates, rates_of}
use Rattle.card_daily.specs.Given.{Given, IsSound, account_in, opened_in, row_in, seen_in}
use Rattle.card_daily.specs.Stands.{AreBefore, ArePosted, HaveAccrued, StandFor, before, first_in, posted, posts_of, rows_through}
use Rattle.card_daily.specs.declared.state.State.{State}
use Rattle.card_daily.specs.declared.track.Track.{Track}
use Rattle.card_dayend.proofs.AtClosing.{stand-for}
use Rattle.card_daily.proofs.Cycles.{cycles-amid}
use Rattle.card_dayend.proofs.NextDay.{closed, closed-accrual, closed-fees, closed-penalties, first-stays, next-closed, next-open, rows-next}

-- ---- rows that begin anew
anew : {A : Type 0} (y : A) (old : List A) (i : ℕ) → i < length old → set (map (λ (r : A). y) (take i old) ++ drop i old) i y ≡ map (λ (r : A). y) (take (suc i) old) ++ drop (suc i) old
anew y [] i l = absurd (omega arith)
anew y (x ∷ xs) zero l = refl
anew y (x ∷ xs) (suc i) l = ap (λ u. y ∷ u) (anew y xs i (omega arith))

pub anew-next : {A : Type 0} (y z : A) (old now : List A) (i : ℕ) → i < length old → now ≡ map (λ (r : A). y) (take i old) ++ drop i old → z ≡ y
    → set now i z ≡ map (λ (r : A). y) (take (i + 1) old) ++ drop (i + 1) old
anew-next y z old now i l e f =
    let next : suc i ≡ i + 1 = omega arith in
    ap (λ xs. set xs i z) e ∙ (ap (set (map (λ r. y) (take i old) ++ drop i old) i) f
    ∙ subst (λ n. set (map (λ r. y) (take i old) ++ drop i old) i y ≡ map (λ r. y) (take n old) ++ drop n old) next (anew y old i l))

pub anew-done : {A : Type 0} (y : A) (old now : List A) (i : ℕ) → length old ≤ i → now ≡ map (λ (r : A). y) (take i old) ++ drop i old → now ≡ map (λ (r : A). y) old
anew-done y old now i l e =
    e ∙ (ap (λ xs. map (λ r. y) xs ++ drop i old) (take_all i old l) ∙ (ap (λ xs. map (λ r. y) old ++ xs) (drop_all i old l) ∙ append-nil (map (λ r. y) old)))

all-begin : (none : Rows) (h k : SegmentTerms → Rows) → ((t : SegmentTerms) → none ≡ k t) → (ts : List SegmentTerms) → map (λ (r : Rows). none) (map h ts) ≡ map k ts
all-begin none h k e [] = refl
all-begin none h k e (t ∷ ts) = ap (λ r. r ∷ map (λ (r : Rows). none) (map h ts)) (e t) ∙ ap (λ rs. k t ∷ rs) (all-begin none h k e ts)

-- ---- what a closing is given
pub given-for : (g : Given) (day : ℕ) (s : State) (t : Track) (c : Closing) (issued : Option Cycle) (rows : List Rows) (accruals : List Accrued) (fees : List Fee)
    → IsSound g → opened_in g ≤ day → day ≤ last_request_day → day_of_month day ≡ (anchor_of g.history).close_day → ArePosted g day s t → IsOfBook c (account_in g) (seen_in g day) (posted g day)
    → issued ≡ statement_of (row_for c.number g.issued) → rows ≡ s.rows.items → accruals ≡ s.accruals.items → fees ≡ t.fees.items
    → IsGivenFor c issued s.segments rows accruals fees t.entries.items (row_in g (day - opened_in g)) s.rates.segments (is_added day) (account_in g) (seen_in g day) (posted g day)
given-for g day s t c issued rows accruals fees sound o l e h of row er ea ef =
    let b = posted g day in
    let number : c.number ≡ present_cycle (before g day) = of.cycle ∙ ap (λ (cs : List Cycle). length cs + 1) (cycles-amid g day (posts_of g day)) in
    let kept = drop 2 s.segments.segments in
    record {
      of_book = of;
      statement = row ∙ ap (λ n. statement_of (row_for n g.issued)) number;
      same_entries = h.stand.entries;
      same_fees = ap (fees_in (present_cycle b)) (ef ∙ h.stand.fees);
      stand = subst (λ rs. StandForClosing s.rates.segments (is_added day) (account_in g) (seen_in g day) b kept rs accruals) (sym er)
          (subst (StandForClosing s.rates.segments (is_added day) (account_in g) (seen_in g day) b kept s.rows.items) (sym ea) (stand-for g day s t sound o l e h));
    }

-- ---- with the closing
pub record IsClosed (g : Given) (day : ℕ) (s new : State) (t after : Track) : Type 0 where
  pub entries : after.entries.items ≡ (closed g day).entries
  pub cycles : after.cycles.items ≡ (closed g day).cycles
  pub fees : after.fees ≡ t.fees
  pub rates : new.rates ≡ s.rates
  pub segments : new.segments.segments ≡ s.segments.segments
  pub sums : AreBalances after.entries.items new.segments.balances
  pub rows : new.rows.items ≡ map (λ (r : Rows). no_rows (day + 1)) s.rows.items
  pub accruals : new.accruals ≡ s.accruals

pub closed-of : (g : Given) (day : ℕ) (s new : State) (t after : Track) → opened_in g ≤ day → day_of_month day ≡ (anchor_of g.history).close_day → ArePosted g day s t → IsClosed g day s new t after → AreBefore g (day + 1) new after
closed-of g day s new t after o e h n =
    let b = before g (day + 1) in
    let row = row_in g (day - opened_in g) in
    let is : b ≡ closed g day = next-closed g day o e in
    let back : day + 1 - 1 ≡ day = omega arith in
    let by = rows_through g (first_in g (day + 1)) day b in
    let entries : after.entries.items ≡ b.entries = n.entries ∙ ap (λ (b : Book). b.entries) (sym is) in
    let penalties : b.penalties ≡ (posted g day).penalties = ap (λ (b : Book). b.penalties) is ∙ closed-penalties row (account_in g) (seen_in g day) (posted g day) in
    let stand : StandFor g by b new after = record {
      entries = entries;
      cycles = n.cycles ∙ ap (λ (b : Book). b.cycles) (sym is);
      fees = ap (λ v. v.items) n.fees ∙ (h.stand.fees ∙ sym (ap (λ (b : Book). b.fees) is ∙ closed-fees row (account_in g) (seen_in g day) (posted g day)));
      rates = n.rates ∙ (h.stand.rates ∙ ap (rates_of g.shared.holidays g.history) (sym penalties));
      segments = n.segments ∙ h.stand.segments;
      sums = subst (λ es. AreBalances es new.segments.balances) entries n.sums;
      rows = n.rows ∙ (ap (map (λ (r : Rows). no_rows (day + 1))) h.stand.rows
          ∙ (all-begin (no_rows (day + 1)) (rows_through g (first_in g day) day (posted g day)) by (λ t. rows-next g day t o e) s.rates.segments
          ∙ ap (λ (r : Rates). map by r.segments) (sym n.rates)));
      accruals = ap (λ v. length v.items) n.accruals ∙ (h.stand.accruals ∙ ap (λ (r : Rates). length r.segments) (sym n.rates));
    } in
    let accrued : HaveAccrued g day b new.rates.segments new.accruals.items = record {
      sums = λ t there sorted over.
          ap (λ v. (get_or v.items (t.id - 2) nothing_accrued).sum) n.accruals
          ∙ (h.accrued.sums t (subst (λ (r : Rates). Contains r.segments t) n.rates there) sorted over
          ∙ sym (ap (λ (b : Book). accrual (seen_in g day) b t) is ∙ closed-accrual row (account_in g) (seen_in g day) (posted g day) t));
      days = subst (λ v. All (λ a. a.days ≤ day + 1 - opened_in g) v.items) (sym n.accruals) h.accrued.days;
    } in
    record {
      stand = subst (λ d. StandFor g (rows_through g (first_in g (day + 1)) d b) b new after) (sym back) stand;
      accrued = subst (λ d. HaveAccrued g d b new.rates.segments new.accruals.items) (sym back) accrued;
    }

-- ---- without one
pub open-of : (g : Given) (day : ℕ) (s : State) (t : Track) → opened_in g ≤ day → (day_of_month day ≡ (anchor_of g.history).close_day → ⊥) → ArePosted g day s t → AreBefore g (day + 1) s t
open-of g day s t o e h =
    let b = before g (day + 1) in
    let is : posted g day ≡ b = sym (next-open g day o e) in
    let back : day ≡ day + 1 - 1 = omega arith in
    let first = sym (first-stays g day o e) in
    let stand : StandFor g (rows_through g (first_in g day) day b) b s t = subst (λ (b : Book). StandFor g (rows_through g (first_in g day) day b) b s t) is h.stand in
    let next : StandFor g (rows_through g (first_in g (day + 1)) day b) b s t = subst (λ f. StandFor g (rows_through g f day b) b s t) first stand in
    let accrued : HaveAccrued g day b s.rates.segments s.accruals.items = subst (λ (b : Book). HaveAccrued g day b s.rates.segments s.accruals.items) is h.accrued in
    record {
      stand = subst (λ d. StandFor g (rows_through g (first_in g (day + 1)) d b) b s t) back next;
      accrued = subst (λ d. HaveAccrued g d b s.rates.segments s.accruals.items) back accrued;
    }
