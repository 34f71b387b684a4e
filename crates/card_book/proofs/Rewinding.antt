-- A Book taken back to a closing, by what was kept of it.
use Rattle.std.proofs.Common.{◌≡◌, ℕ, zero, suc, ◌+◌, ◌≤◌, Bool, List, [], ◌∷◌, ◌++◌, length, map, take, drop, refl, sym, ap, ◌∙◌, subst, arith, Option, Some, None, ℤ, pos, ◌+ℤ◌, eqb}
use Rattle.std.specs.Prelude.{◌≤ℤ◌, neg_ℤ}
use Rattle.std.proofs.lemmas.Int.{ints}
use Rattle.std.proofs.lemmas.List.{length-map, take-append-drop}
use Rattle.card_bounds.proofs.HeldDays.{held_is_never_below}
use Rattle.card_bounds.proofs.Whole.{balances_small}
use Rattle.card_bounds.specs.Bounds.{IsLimited, IsOrderly}
use Rattle.card_events.specs.Range.{last_request_day}
use Rattle.card_events.specs.Limits.{post_limit}
use Rattle.card_fees.specs.declared.tally.Tally.{Tally}
use Rattle.card_closing.specs.Accruals.{Accrued}
use Rattle.card_closing.specs.Rows.{no_rows}
use Rattle.card_model.specs.Books.{Book}
use Rattle.card_model.specs.Cuts.{penalties_at}
use Rattle.card_model.specs.Cycles.{Cycle}
use Rattle.card_model.specs.Entries.{AreBalances, balance}
use Rattle.card_model.specs.Folds.{cycle_at}
use Rattle.card_model.specs.Limits.{balance_limit}
use Rattle.card_model.specs.Segments.{SegmentTerms, kept_segment}
use Rattle.card_model.specs.declared.segment.Segment.{Segment}
use Rattle.card_model.specs.declared.entry.Entry.{Entry}
use Rattle.card_model.proofs.Cuts.{closings_are_cuts}
use Rattle.card_model.proofs.Posted.{sum_of-append}
use Rattle.card_model.proofs.Sound.{signs}
use Rattle.card_rates.specs.RateBooks.{AreByNumber, Rates, with_penalties}
use Rattle.card_segments.specs.Balances.{AreWithin, IsWithin, largest_balance}
use Rattle.card_segments.specs.Unposted as unposted
use Rattle.card_segments.proofs.Unposted.{balances_before}
use Rattle.card_daily.specs.Given.{Given, IsSound, book_on}
use Rattle.card_daily.specs.Stands.{HaveAccrued, before}
use Rattle.card_daily.specs.declared.state.State.{State}
use Rattle.card_daily.specs.declared.track.Track.{Track}
use Rattle.card_dayend.proofs.Opened.{before-opening}
use Rattle.card_book.proofs.Balances.{each-any}
use Rattle.card_book.proofs.Closings.{closed-by, closing-count, none-closed}
use Rattle.card_book.proofs.Days.{through-is}
use Rattle.card_book.proofs.NewSegments.{rated-numbered}
use Rattle.card_book.proofs.Rewound.{rewound_books_stand}
use Rattle.card_book.proofs.Told.{small-on, sums-on}
use Rattle.card_book.specs.Marks.{IsMark, accrued_by, rated_in}
use Rattle.card_book.specs.Rewound.{AreFolded, GoesBack, IsCutTrack, IsRewound}
use Rattle.card_book.specs.Stands.{IsBlankFrom, StandsFor, Summary, book_through, day_to_fold}
use Rattle.card_book.specs.declared.marks.Accruing.{Accruing}

-- ---- what a Book and its track tell by themselves
-- before the opening nothing is owed
none-owed : (bs : List ℤ) → AreBalances [] bs → AreWithin balance_limit bs
none-owed bs h = λ s. rw (each-any [] bs s h) (omega (arith, ints), omega (arith, ints))

small-through : (g : Given) (b : Summary) (t : Track) (o : Option ℕ) → b.day ≡ o → IsSound g → ((day : ℕ) → b.day ≡ Some day → day ≤ last_request_day) → StandsFor g b t → AreWithin balance_limit b.state.segments.balances
small-through g b t None e sound last h =
    let empty : (before g (day_to_fold g b.day)).entries ≡ [] = ap (λ o. (before g (day_to_fold g o)).entries) e ∙ ap (λ (x : Book). x.entries) (before-opening g) in
    none-owed b.state.segments.balances (subst (λ es. AreBalances es b.state.segments.balances) empty h.folded.stand.sums)
small-through g b t (Some day) e sound last h = small-on g day b.state.segments.balances sound (last day e) (sums-on g b t day e h)

pub folded-sums : (b : Summary) (t : Track) → AreFolded b t → AreBalances t.entries.items b.state.segments.balances × AreWithin balance_limit b.state.segments.balances
folded-sums b t h = (
  subst (λ es. AreBalances es b.state.segments.balances) (sym h.stands.folded.stand.entries) h.stands.folded.stand.sums,
  small-through h.given b t b.day refl h.sound h.last h.stands,
)

-- ---- the Book at a closing
-- what the state at the closing of cycle k is made of
pub record IsStateAt (k : ℕ) (c : Cycle) (kept : List Accruing) (b : Summary) (t : Track) (s : State) : Type 0 where
  pub segments : unposted.AreBefore (drop c.entries t.entries.items) b.state.segments s.segments
  pub rates : s.rates ≡ with_penalties (penalties_at c.closing b.state.rates.penalties) b.state.rates
  pub rows : s.rows.items ≡ map (λ x. no_rows (c.closing + 1)) b.state.rates.segments
  pub accruals : s.accruals.items ≡ accrued_by k kept b.state.rates.segments

segments-rated : (g : Given) (b : Summary) (t : Track) → StandsFor g b t → b.state.rates.segments ≡ rated_in g
segments-rated g b t h = ap (λ (r : Rates). r.segments) h.folded.stand.rates

rewound-is : (g : Given) (k : ℕ) (c : Cycle) (since : Option ℕ) (kept : List Accruing) (b : Summary) (t cut : Track) (s : State) (tally : Tally) → StandsFor g b t → IsStateAt k c kept b t s
    → IsBlankFrom c.closing tally → IsMark g k c since kept → IsCutTrack k c t cut → IsRewound g k c b t (record { day = Some c.closing; state = s; tally = tally; credit_since = since; whole = Bool.true }) cut
rewound-is g k c since kept b t cut s tally h at blank mark is =
    let same : s.rates.segments ≡ b.state.rates.segments = ap (λ (r : Rates). r.segments) at.rates in
    let rated = segments-rated g b t h in
    let all : AreBalances t.entries.items b.state.segments.balances = subst (λ es. AreBalances es b.state.segments.balances) (sym h.folded.stand.entries) h.folded.stand.sums in
    let parts : take c.entries t.entries.items ++ drop c.entries t.entries.items ≡ t.entries.items = take-append-drop c.entries t.entries.items in
    record {
      day = refl;
      entries = is.entries;
      cycles = is.cycles;
      fees = is.fees;
      rates = at.rates;
      segments = at.segments.segments;
      sums = subst (λ es. AreBalances es s.segments.balances) (sym is.entries)
          (balances_before (take c.entries t.entries.items) (drop c.entries t.entries.items) b.state.segments s.segments (subst (λ es. AreBalances es b.state.segments.balances) (sym parts) all) at.segments);
      rows = at.rows ∙ ap (λ (ts : List SegmentTerms). map (λ x. no_rows (c.closing + 1)) ts) (sym same);
      accruals = ap (λ (l : List Accrued). length l) at.accruals ∙ (length-map b.state.rates.segments _ ∙ ap (λ (ts : List SegmentTerms). length ts) (sym same));
      accrued = subst (λ (ts : List SegmentTerms). HaveAccrued g c.closing (book_on g c.closing) ts s.accruals.items) (sym (same ∙ rated))
          (subst (HaveAccrued g c.closing (book_on g c.closing) (rated_in g)) (sym (at.accruals ∙ ap (accrued_by k kept) rated)) mark.accrued);
      since = mark.since;
      tally = blank;
    }

back-by : (g : Given) (k : ℕ) (c : Cycle) (since : Option ℕ) (kept : List Accruing) (b : Summary) (t cut : Track) (s : State) (tally : Tally) (o : Option ℕ) → b.day ≡ o → IsSound g
    → ((day : ℕ) → b.day ≡ Some day → day ≤ last_request_day) → StandsFor g b t → cycle_at k t.cycles.items ≡ Some c → IsStateAt k c kept b t s → IsBlankFrom c.closing tally → IsMark g k c since kept → IsCutTrack k c t cut
    → StandsFor g (record { day = Some c.closing; state = s; tally = tally; credit_since = since; whole = Bool.true }) cut
back-by g k c since kept b t cut s tally None e sound last h there at blank mark is =
    let empty : t.cycles.items ≡ [] = h.folded.stand.cycles ∙ (ap (λ o. (before g (day_to_fold g o)).cycles) e ∙ ap (λ (x : Book). x.cycles) (before-opening g)) in
    absurd (none-closed k t.cycles.items c empty there)
back-by g k c since kept b t cut s tally (Some day) e sound last h there at blank mark is =
    rewound_books_stand g b t day k c _ cut sound.opening (let l = last day e in omega (arith, l)) e h there (rewound-is g k c since kept b t cut s tally h at blank mark is)

pub goes-back : (k : ℕ) (c : Cycle) (since : Option ℕ) (kept : List Accruing) (b : Summary) (t : Track) (s : State) (tally : Tally) → ((day : ℕ) → b.day ≡ Some day → day ≤ last_request_day)
    → cycle_at k t.cycles.items ≡ Some c → IsStateAt k c kept b t s → IsBlankFrom c.closing tally → GoesBack k b t since kept (record { day = Some c.closing; state = s; tally = tally; credit_since = since; whole = Bool.true })
goes-back k c since kept b t s tally last there at blank = λ g d cut sound h e mark is.
    let same : c ≡ d = some-is (sym there ∙ e) in
    back-by g k c since kept b t cut s tally b.day refl sound last h there at blank (subst (λ x. IsMark g k x since kept) (sym same) mark) (subst (λ x. IsCutTrack k x t cut) (sym same) is)
  where
    some-is : {x y : Cycle} → Some x ≡ Some y → x ≡ y
    some-is e = cc

-- by the parts that were made, with the day and the entries as the code has them
pub rewound-goes : (k : ℕ) (c : Cycle) (d : ℕ) (es : List Entry) (since : Option ℕ) (kept : List Accruing) (b : Summary) (t : Track) (s : State) (tally : Tally) → d ≡ c.closing → es ≡ drop c.entries t.entries.items
    → ((day : ℕ) → b.day ≡ Some day → day ≤ last_request_day) → cycle_at k t.cycles.items ≡ Some c → unposted.AreBefore es b.state.segments s.segments
    → s.rates ≡ with_penalties (penalties_at d b.state.rates.penalties) b.state.rates → s.rows.items ≡ map (λ x. no_rows (d + 1)) b.state.rates.segments
    → s.accruals.items ≡ accrued_by k kept b.state.rates.segments → IsBlankFrom d tally → GoesBack k b t since kept (record { day = Some d; state = s; tally = tally; credit_since = since; whole = Bool.true })
rewound-goes k c d es since kept b t s tally e f last there segments rates rows accruals blank =
    subst (λ (n : ℕ). GoesBack k b t since kept (record { day = Some n; state = s; tally = tally; credit_since = since; whole = Bool.true })) (sym e)
    (goes-back k c since kept b t s tally last there
    (record {
      segments = subst (λ (l : List Entry). unposted.AreBefore l b.state.segments s.segments) f segments;
      rates = rates ∙ ap (λ (n : ℕ). with_penalties (penalties_at n b.state.rates.penalties) b.state.rates) e;
      rows = rows ∙ ap (λ (n : ℕ). map (λ x. no_rows (n + 1)) b.state.rates.segments) e;
      accruals = accruals;
    })
    (subst (λ (n : ℕ). IsBlankFrom n tally) e blank))

-- ---- the entries behind a closing
-- those in front of it are the entries of the book of that day
front-entries : (g : Given) (b : Summary) (t : Track) (day k : ℕ) (c : Cycle) → b.day ≡ Some day → StandsFor g b t → cycle_at k t.cycles.items ≡ Some c → take c.entries t.entries.items ≡ (book_on g c.closing).entries
front-entries g b t day k c dated h e =
    let here : before g (day_to_fold g b.day) ≡ book_on g day = through-is g b.day ∙ ap (book_through g) dated in
    let at : cycle_at k (book_on g day).cycles ≡ Some c = ap (cycle_at k) (sym (h.folded.stand.cycles ∙ ap (λ (x : Book). x.cycles) here)) ∙ e in
    ap (take c.entries) (h.folded.stand.entries ∙ ap (λ (x : Book). x.entries) here) ∙ (closings_are_cuts g.history g.issued g.shared day k c at).entries

-- before the entries behind it each balance is that of this book
before-is-front : (g : Given) (b : Summary) (t : Track) (day k : ℕ) (c : Cycle) (s : ℕ) → b.day ≡ Some day → StandsFor g b t → cycle_at k t.cycles.items ≡ Some c
    → unposted.balance_before s (drop c.entries t.entries.items) b.state.segments.balances ≡ balance s (book_on g c.closing).entries
before-is-front g b t day k c s dated h e =
    let front = take c.entries t.entries.items in
    let back = drop c.entries t.entries.items in
    let all : AreBalances t.entries.items b.state.segments.balances = subst (λ es. AreBalances es b.state.segments.balances) (sym h.folded.stand.entries) h.folded.stand.sums in
    let sum : balance s t.entries.items ≡ balance s front +ℤ balance s back = ap (balance s) (sym (take-append-drop c.entries t.entries.items)) ∙ sum_of-append (λ x. eqb x.segment s) front back in
    ap (λ z. z +ℤ neg_ℤ (balance s back)) (each-any t.entries.items b.state.segments.balances s all ∙ sum) ∙ (less (balance s front) (balance s back) ∙ ap (balance s) (front-entries g b t day k c dated h e))
  where
    less : (x y : ℤ) → x +ℤ y +ℤ neg_ℤ y ≡ x
    less x y = omega (arith, ints)

book-small : (g : Given) (day : ℕ) → IsSound g → day ≤ last_request_day → (s : ℕ) → IsWithin balance_limit (balance s (book_on g day).entries)
book-small g day sound l s =
    let o = sound.opening.first in
    let limits : IsLimited post_limit g.history g.shared day = record { count = sound.accepted.count; cents = sound.accepted.cents; fees = sound.fees; days = omega arith } in
    let small = balances_small post_limit g.history g.issued g.shared day limits (omega arith) s in
    (omega (arith, ints, small.0), omega (arith, ints, small.1))

wider : (z : ℤ) → IsWithin balance_limit z → IsWithin largest_balance z
wider z h = (omega (arith, ints, h.0), omega (arith, ints, h.1))

at-closing : (g : Given) (b : Summary) (t : Track) (day k : ℕ) (c : Cycle) → IsSound g → b.day ≡ Some day → day ≤ last_request_day → c.closing ≤ day → StandsFor g b t → cycle_at k t.cycles.items ≡ Some c
    → unposted.MayGoBack (drop c.entries t.entries.items) b.state.segments.balances
at-closing g b t day k c sound dated last early h e =
    let is : (s : ℕ) → unposted.balance_before s (drop c.entries t.entries.items) b.state.segments.balances ≡ balance s (book_on g c.closing).entries = λ s. before-is-front g b t day k c s dated h e in
    let orderly : IsOrderly g.history g.shared = record { cents = sound.accepted.cents; fees = sound.fees; resolved = sound.accepted.resolved } in
    let sign = signs g.history g.issued g.shared c.closing in
    let small = book-small g c.closing sound (omega (arith, last, early)) in
    record {
      small = λ s. subst (λ z. IsWithin largest_balance z) (sym (is s)) (wider (balance s (book_on g c.closing).entries) (small s));
      credit = subst (λ z. z ≤ℤ pos 0) (sym (is 0)) sign.credit;
      owing = λ s l. subst (λ z. pos 0 ≤ℤ z) (sym (is s)) (owes s l sign.owing (held_is_never_below.days g.history g.issued g.shared c.closing orderly));
    }
  where
    owes : (s : ℕ) → 1 ≤ s → ((x : ℕ) → 2 ≤ x → pos 0 ≤ℤ balance x (book_on g c.closing).entries) → pos 0 ≤ℤ balance 1 (book_on g c.closing).entries → pos 0 ≤ℤ balance s (book_on g c.closing).entries
    owes zero l more held = absurd (omega (arith, l))
    owes (suc zero) l more held = held
    owes (suc (suc n)) l more held = more (suc (suc n)) (omega arith)

-- what `state_at` asks for, of a closed cycle of a folded Book
pub record IsBehind (b : Summary) (t : Track) (c : Cycle) : Type 0 where
  pub back : unposted.MayGoBack (drop c.entries t.entries.items) b.state.segments.balances
  pub last : c.closing ≤ last_request_day
  pub within : c.entries ≤ length t.entries.items

behind-by : (g : Given) (b : Summary) (t : Track) (k : ℕ) (c : Cycle) (o : Option ℕ) → b.day ≡ o → IsSound g → ((day : ℕ) → b.day ≡ Some day → day ≤ last_request_day) → StandsFor g b t → cycle_at k t.cycles.items ≡ Some c
    → IsBehind b t c
behind-by g b t k c None e sound last h at =
    let empty : t.cycles.items ≡ [] = h.folded.stand.cycles ∙ (ap (λ o. (before g (day_to_fold g o)).cycles) e ∙ ap (λ (x : Book). x.cycles) (before-opening g)) in
    absurd (none-closed k t.cycles.items c empty at)
behind-by g b t k c (Some day) e sound last h at =
    let here : before g (day_to_fold g b.day) ≡ book_on g day = through-is g b.day ∙ ap (book_through g) e in
    let there : cycle_at k (book_on g day).cycles ≡ Some c = ap (cycle_at k) (sym (h.folded.stand.cycles ∙ ap (λ (x : Book). x.cycles) here)) ∙ at in
    let late = last day e in
    let early = closed-by g day k c (h.opened day e) there in
    let front = ap (λ (es : List Entry). length es) (front-entries g b t day k c e h at) in
    record {
      back = at-closing g b t day k c sound e late early h at;
      last = omega (arith, early, late);
      within = counted c.entries t.entries.items (front ∙ closing-count g day k c there);
    }
  where
    counted : (n : ℕ) (es : List Entry) → length (take n es) ≡ n → n ≤ length es
    counted zero es e = omega arith
    counted (suc n) [] e = absurd (omega (arith, e))
    counted (suc n) (x ∷ es) e = let l = counted n es (omega (arith, e)) in omega (arith, l)

pub behind : (b : Summary) (t : Track) (k : ℕ) (c : Cycle) → AreFolded b t → cycle_at k t.cycles.items ≡ Some c → IsBehind b t c
behind b t k c h at = behind-by h.given b t k c b.day refl h.sound h.last h.stands at

-- ---- counts
-- there is a rate for each segment but Credit and Held
pub rated-count : (g : Given) (b : Summary) (t : Track) → StandsFor g b t → length b.state.rates.segments + 2 ≡ length b.state.segments.segments
rated-count g b t h =
    let rates = ap (λ (r : Rates). length r.segments) h.folded.stand.rates in
    let segments = ap (λ (l : List Segment). length l) h.folded.stand.segments in
    let kept = length-map (rated_in g) kept_segment in
    omega (arith, rates, segments, kept)

-- and they stand by number
pub numbered-in : (g : Given) (b : Summary) (t : Track) → StandsFor g b t → AreByNumber 2 b.state.rates.segments
numbered-in g b t h = subst (AreByNumber 2) (sym (segments-rated g b t h)) (rated-numbered g)
