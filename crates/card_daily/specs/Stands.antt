-- What is kept of an account stands for its book, at the points of a day. Days are day numbers.
use Rattle.std.specs.Prelude.{ℕ, ◌+◌, ◌-◌, ◌≡◌, ◌≤◌, ◌||◌, Bool, false, true, map, take, List, [], length, slice_index_or, vec_capacity}
use Rattle.std.specs.List.{All, Contains, filter, list_any}
use Rattle.card_bounds.specs.Bounds.{book_amid}
use Rattle.card_events.specs.History.{CorrectedPost, is_folded}
use Rattle.card_closing.specs.Accruals.{Accrued, nothing_accrued}
use Rattle.card_model.specs.Interest.{accrual}
use Rattle.card_closing.specs.BookRows.{brought, rows_of}
use Rattle.card_closing.specs.Growth.{with_repaid}
use Rattle.card_closing.specs.Rows.{Rows}
use Rattle.card_model.specs.Books.{Book}
use Rattle.card_model.specs.Closing.{first_day_of}
use Rattle.card_model.specs.Cycles.{Cycle}
use Rattle.card_model.specs.Entries.{AreBalances}
use Rattle.card_model.specs.Payments.{is_returned, returns}
use Rattle.card_model.specs.Segments.{SegmentTerms, is_over, is_sort}
use Rattle.card_model.specs.declared.segment.Sort.TheVariants as sort
use Rattle.card_rates.specs.RateBooks.{rates_of}
use Rattle.card_rates.specs.SlotLaws.{day_posts}
use Rattle.card_rates.specs.Segments.{account_segments}
use Rattle.card_daily.specs.Given.{Given, IsDayOf, account_in, book_in, opened_in, seen_in}
use Rattle.card_daily.specs.declared.state.State.{State}
use Rattle.card_daily.specs.declared.track.Track.{Track}

-- ---- the books of a day
-- the book of the days before a day
abbrev pub before : Given → ℕ → Book
before g day = book_in g (day - opened_in g)

-- the cycles that closed before a day that may be folded
pub record AreClosedBefore (g : Given) (day : ℕ) (closed : List Cycle) : Type 0 where
  pub dated : IsDayOf g day
  pub cycles : closed ≡ (before g day).cycles

-- the book of a day after what a due date brought and these of its posts
abbrev pub amid : Given → ℕ → List CorrectedPost → Book
amid g day done = book_amid g.history g.issued g.shared (day - opened_in g) done

-- all posts of a day, by number
abbrev pub posts_of : Given → ℕ → List CorrectedPost
posts_of g day = day_posts g.history g.shared day

-- those of them that are folded
abbrev pub only_folded : List CorrectedPost → List CorrectedPost
only_folded posts = filter (λ p. is_folded p.post) posts

-- the book of a day after all its posts
abbrev pub posted : Given → ℕ → Book
posted g day = amid g day (posts_of g day)

-- the first day of the cycle that a day lies in
abbrev pub first_in : Given → ℕ → ℕ
first_in g day = first_day_of (account_in g) (before g day)

-- ---- rows and accruals
-- the rows of a segment through a day, in a book
abbrev pub rows_through : Given → ℕ → ℕ → Book → SegmentTerms → Rows
rows_through g first day b t = rows_of (account_in g) (seen_in g day) b first t

-- a payment that a Return of an earlier day names, or one of these posts
abbrev pub returned_by : Given → ℕ → List CorrectedPost → ℕ → Bool
returned_by g day done n = is_returned (seen_in g (day - 1)).posts (day - 1) n || list_any (λ p. returns n p.post) done

-- amid a day: the rows of the days before it, with all that was repaid and not returned so far
abbrev pub rows_amid : Given → ℕ → List CorrectedPost → Book → SegmentTerms → Rows
rows_amid g day done b t =
    with_repaid (brought (returned_by g day done) t.id (first_in g day) b.entries) (rows_through g (first_in g day) (day - 1) (before g day) t)

-- through a day: a Deferred whose period isn't over on it has accrued what a book gives it, and no accrual counts more days than
-- there were
pub record HaveAccrued (g : Given) (day : ℕ) (b : Book) (segments : List SegmentTerms) (kept : List Accrued) : Type 0 where
  pub sums :
      (t : SegmentTerms) → Contains segments t → is_sort sort.Deferred t.sort ≡ true → is_over t.ends day ≡ false
      → (slice_index_or kept (t.id - 2) nothing_accrued).sum ≡ accrual (seen_in g day) b t
  pub days : All (λ a. a.days ≤ day + 1 - opened_in g) kept

-- ---- state and track
-- they stand for a book, with these rows of each segment
pub record StandFor (g : Given) (rows_by : SegmentTerms → Rows) (b : Book) (s : State) (t : Track) : Type 0 where
  pub entries : t.entries.items ≡ b.entries
  pub cycles : t.cycles.items ≡ b.cycles
  pub fees : t.fees.items ≡ b.fees
  pub rates : s.rates ≡ rates_of g.shared.holidays g.history b.penalties
  pub segments : s.segments.segments ≡ account_segments g.shared.holidays g.history
  pub sums : AreBalances b.entries s.segments.balances
  pub rows : s.rows.items ≡ map rows_by s.rates.segments
  pub accruals : length s.accruals.items ≡ length s.rates.segments

-- the days before a day are folded
pub record AreBefore (g : Given) (day : ℕ) (s : State) (t : Track) : Type 0 where
  pub stand : StandFor g (rows_through g (first_in g day) (day - 1) (before g day)) (before g day) s t
  pub accrued : HaveAccrued g (day - 1) (before g day) s.rates.segments s.accruals.items

-- and of the day the due date and these of its posts
pub record AreAmid (g : Given) (day : ℕ) (done : List CorrectedPost) (s : State) (t : Track) : Type 0 where
  pub stand : StandFor g (rows_amid g day done (amid g day done)) (amid g day done) s t
  pub accrued : HaveAccrued g (day - 1) (before g day) s.rates.segments s.accruals.items

-- and all its posts, with its row
pub record ArePosted (g : Given) (day : ℕ) (s : State) (t : Track) : Type 0 where
  pub stand : StandFor g (rows_through g (first_in g day) day (posted g day)) (posted g day) s t
  pub accrued : HaveAccrued g day (posted g day) s.rates.segments s.accruals.items

-- a track that begins with another
pub record Begins (old new : Track) : Type 0 where
  pub entries : take (length old.entries.items) new.entries.items ≡ old.entries.items
  pub cycles : take (length old.cycles.items) new.cycles.items ≡ old.cycles.items
  pub fees : take (length old.fees.items) new.fees.items ≡ old.fees.items

-- a track without entries, closed cycles and fees
pub record IsBlank (t : Track) : Type 0 where
  pub entries : t.entries.items ≡ []
  pub cycles : t.cycles.items ≡ []
  pub fees : t.fees.items ≡ []

-- no list of a track has less room than in another
pub record KeepsRoom (old new : Track) : Type 0 where
  pub entries : vec_capacity old.entries ≤ vec_capacity new.entries
  pub cycles : vec_capacity old.cycles ≤ vec_capacity new.cycles
  pub fees : vec_capacity old.fees ≤ vec_capacity new.fees
