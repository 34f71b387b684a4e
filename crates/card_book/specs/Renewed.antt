-- A Book at a closing, over posts to which one was added that adds a segment or sets a rate. Days are day numbers.
use Rattle.std.specs.Prelude.{ℕ, ◌+◌, ◌-◌, ◌≡◌, ◌≤◌, List, ◌++◌, length, map, pos, replicate, Some}
use Rattle.card_events.specs.Civil.{day_of_month}
use Rattle.card_events.specs.Range.{last_request_day}
use Rattle.card_events.specs.History.{anchor_of}
use Rattle.card_events.specs.declared.kept.Kept.{Kept}
use Rattle.card_closing.specs.Accruals.{nothing_accrued}
use Rattle.card_closing.specs.Rows.{no_rows}
use Rattle.card_rates.specs.RateBooks.{rates_of}
use Rattle.card_rates.specs.Segments.{account_segments}
use Rattle.card_daily.specs.Given.{Given, IsSound}
use Rattle.card_daily.specs.declared.track.Track.{Track}
use Rattle.card_book.specs.GoingOn.{Continues}
use Rattle.card_book.specs.Stands.{StandsFor, Summary}

-- The Book and the track stand for the book of an account at the end of a closing; posts were added since, and nothing has
-- changed up to that day
pub record HasNewPosts (old g : Given) (closed : ℕ) (b : Summary) (t : Track) : Type 0 where
  pub sound : IsSound old
  pub stands : StandsFor old b t
  pub day : b.day ≡ Some closed
  pub last : closed ≤ last_request_day
  pub closing : day_of_month closed ≡ (anchor_of old.history).close_day
  pub continues : Continues old g (Some closed)
  pub new : List Kept
  pub history : g.history ≡ old.history ++ new

-- of some account and day
pub record AwaitsPosts (g : Given) (b : Summary) : Type 0 where
  pub old : Given
  pub day : ℕ
  pub track : Track
  pub posts : HasNewPosts old g day b track

-- The same Book with the rates and segments of all posts: nothing is owed and nothing has accrued on the new segments, and the
-- cycle that begins has no rows
pub record IsRenewed (g : Given) (closed : ℕ) (b renewed : Summary) : Type 0 where
  pub day : renewed.day ≡ b.day
  pub rates : renewed.state.rates ≡ rates_of g.shared.holidays g.history b.state.rates.penalties
  pub segments : renewed.state.segments.segments ≡ account_segments g.shared.holidays g.history
  pub balances :
      renewed.state.segments.balances
      ≡ b.state.segments.balances ++ replicate (length renewed.state.segments.segments - length b.state.segments.balances) (pos 0)
  pub rows : renewed.state.rows.items ≡ map (λ x. no_rows (closed + 1)) renewed.state.rates.segments
  pub accruals :
      renewed.state.accruals.items
      ≡ b.state.accruals.items ++ replicate (length renewed.state.rates.segments - length b.state.accruals.items) nothing_accrued
  pub since : renewed.credit_since ≡ b.credit_since
  pub tally : renewed.tally ≡ b.tally

-- then it stands for the new book
abbrev pub RenewedBooksStand : Type 0
RenewedBooksStand = (old g : Given) (day : ℕ) (b renewed : Summary) (t : Track) → HasNewPosts old g day b t → IsRenewed g day b renewed → StandsFor g renewed t
