-- A book of a day stands behind the segments and the rates that the code keeps of it.
use Rattle.std.proofs.Common.{◌≡◌, ℕ, ◌-◌, ◌≤◌, ◌<◌, List, [], ◌∷◌, refl, sym, ap, ◌∙◌, subst, arith, get_or, ℤ, pos}
use Rattle.std.proofs.Common.{append-nil, take, ◌++◌, length, ◌⊎◌, inl, inr}
use Rattle.std.proofs.lemmas.Bool.{cases_lt}
use Rattle.std.proofs.lemmas.List.{get_or_past}
use Rattle.std.proofs.lemmas.Int.{ints}
use Rattle.std.specs.Prelude.{◌≤ℤ◌, neg_ℤ}
use Rattle.std.specs.List.{Contains}
use Rattle.card_bounds.proofs.OnSegments.{entries_have_segments}
use Rattle.card_bounds.specs.Bounds.{AreSmall}
use Rattle.card_bounds.specs.Places.{LieOn, segments_by}
use Rattle.card_effects.proofs.DayLaws.{books_of_a_day}
use Rattle.card_effects.specs.Laws.{HaveNone}
use Rattle.card_effects.specs.Standing.{AreRated, StandsAt, is_added}
use Rattle.card_events.specs.History.{CorrectedPost}
use Rattle.card_model.specs.Books.{Book}
use Rattle.card_closing.specs.Rows.{Rows}
use Rattle.card_model.specs.Entries.{AreBalances, balance}
use Rattle.card_model.specs.Limits.{balance_limit}
use Rattle.card_model.specs.declared.entry.Entry.{Entry}
use Rattle.card_segments.specs.Balances.{AreWithin, IsWithin}
use Rattle.card_model.specs.Segments.{SegmentTerms}
use Rattle.card_rates.proofs.ByNumber.{at-place, number-above}
use Rattle.card_rates.proofs.DayLaws.{segments_of_a_day}
use Rattle.card_rates.specs.RateBooks.{rates_of}
use Rattle.card_daily.proofs.Books.{day-is}
use Rattle.card_daily.specs.Given.{Given, account_in, opened_in, seen_in}
use Rattle.card_daily.specs.Stands.{KeepsRoom, StandFor, amid, before}
use Rattle.card_daily.specs.declared.state.State.{State}
use Rattle.card_daily.specs.declared.track.Track.{Track}

-- two segments with one number are the same
pub one-each : (g : Given) (s t : SegmentTerms) → Contains (rates_of g.shared.holidays g.history []).segments s → Contains (rates_of g.shared.holidays g.history []).segments t → s.id ≡ t.id → s ≡ t
one-each g s t here there e =
    let all = (rates_of g.shared.holidays g.history []).segments in
    let numbers = segments_of_a_day.numbers g.shared.holidays g.history in
    sym (at-place 2 all s s numbers here) ∙ (ap (λ n. get_or all (n - 2) s) e ∙ at-place 2 all t s numbers there)

pub none-yet : (g : Given) (day : ℕ) (b : Book) → opened_in g ≤ day → LieOn (segments_by g.history g.issued g.shared day) b.entries → HaveNone g.history g.shared day b
none-yet g day b o lies t there e =
    let all = (rates_of g.shared.holidays g.history []).segments in
    let numbers = segments_of_a_day.numbers g.shared.holidays g.history in
    let above = number-above 2 all t numbers there in
    let those = subst (λ (gs : List SegmentTerms). LieOn gs b.entries) (books_of_a_day.those g.history g.issued g.shared day o) lies in
    entries_have_segments.none b.entries t.id
    (entries_have_segments.unseen all (is_added day) t b.entries those above e (λ h in' same. one-each g h t in' there same))

pub stands : (g : Given) (day : ℕ) (b : Book) (balances : List ℤ) → opened_in g ≤ day → LieOn (segments_by g.history g.issued g.shared day) b.entries → AreBalances b.entries balances
    → StandsAt (account_in g) (seen_in g day) b (rates_of g.shared.holidays g.history b.penalties) balances b.entries
stands g day b balances o lies sums = books_of_a_day.stand g.history g.issued g.shared day b balances o sums (none-yet g day b o lies)

pub before-lies : (g : Given) (day : ℕ) → opened_in g ≤ day → LieOn (segments_by g.history g.issued g.shared day) (before g day).entries
before-lies g day o = entries_have_segments.before g.history g.issued g.shared (day - opened_in g) day (let e = day-is (opened_in g) day o in omega arith)

pub amid-lies : (g : Given) (day : ℕ) (done : List CorrectedPost) → opened_in g ≤ day → LieOn (segments_by g.history g.issued g.shared day) (amid g day done).entries
amid-lies g day done o = entries_have_segments.posts g.history g.issued g.shared (day - opened_in g) day done (let e = day-is (opened_in g) day o in omega arith)

-- segments and rates of a state are of one account
pub rated : (g : Given) (rows_by : SegmentTerms → Rows) (b : Book) (s : State) (t : Track) → StandFor g rows_by b s t → AreRated s.segments.segments s.rates
rated g rows_by b s t h =
    subst (λ r. AreRated s.segments.segments r) (sym h.rates)
    (subst (λ segments. AreRated segments (rates_of g.shared.holidays g.history b.penalties)) (sym h.segments) (books_of_a_day.rated g.shared.holidays g.history b.penalties))

-- balances of small sums are small
pub within : (es : List Entry) (bs : List ℤ) → AreBalances es bs → AreSmall es → AreWithin balance_limit bs
within es bs sums small s = by (cases_lt s (length bs))
  where
    wide : (z : ℤ) → neg_ℤ (pos 999999999999999) ≤ℤ z → z ≤ℤ pos 999999999999999 → IsWithin balance_limit z
    wide z l h = (omega (arith, ints), omega (arith, ints))

    by : (s < length bs) ⊎ (length bs ≤ s) → IsWithin balance_limit (get_or bs s (pos 0))
    by (inl l) = subst (IsWithin balance_limit) (sym (sums.each s l)) (wide (balance s es) (small s).0 (small s).1)
    by (inr l) = subst (IsWithin balance_limit) (sym (get_or_past bs s (pos 0) l)) (omega (arith, ints), omega (arith, ints))

-- a list begins with what it grew from
pub begins-with : {A : Type 0} (old new rest : List A) → new ≡ old ++ rest → take (length old) new ≡ old
begins-with old new rest e = ap (take (length old)) e ∙ front old rest
  where
    front : {A : Type 0} (xs ys : List A) → take (length xs) (xs ++ ys) ≡ xs
    front [] ys = refl
    front (x ∷ xs) ys = ap (λ l. x ∷ l) (front xs ys)

pub begins-same : {A : Type 0} (old new : List A) → new ≡ old → take (length old) new ≡ old
begins-same old new e = begins-with old new [] (e ∙ sym (append-nil old))

-- ---- the room of a track
pub room-same : (t : Track) → KeepsRoom t t
room-same t = record { entries = omega arith; cycles = omega arith; fees = omega arith }

pub room-then : (t u v : Track) → KeepsRoom t u → KeepsRoom u v → KeepsRoom t v
room-then t u v h k = record { entries = omega (arith, h.entries, k.entries); cycles = omega (arith, h.cycles, k.cycles); fees = omega (arith, h.fees, k.fees) }
