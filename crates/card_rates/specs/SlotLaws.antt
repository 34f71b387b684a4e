-- Laws on the posts of a day, for all lists of posts.
use Rattle.std.specs.Prelude.{◌≡◌, ℕ, ◌+◌, ◌<◌, ◌≤◌, true, false, List, [], length, take, slice_index_or, Option}
use Rattle.std.specs.List.{All, filter}
use Rattle.card_events.specs.declared.anchor.Anchor.{Anchor}
use Rattle.card_events.specs.Dated.{is_dated}
use Rattle.card_events.specs.History.{CorrectedPost, anchor_of, corrected, is_folded}
use Rattle.card_events.specs.SharedRows.{SharedRows}
use Rattle.card_events.specs.declared.kept.Kept.{Kept}
use Rattle.card_events.specs.declared.kept.Slot.{Slot}
use Rattle.card_events.specs.declared.request.Request.{Request}
use Rattle.card_model.specs.Books.{Account, Book}
use Rattle.card_model.specs.Cycles.{IssuedRow, Seen, posts_on, seen_on}
use Rattle.card_model.specs.Effects.{after_posts, effect}
use Rattle.card_model.specs.Machine.{NamedAccount, run}
use Rattle.card_posts.specs.Change.{on}
use Rattle.card_posts.specs.Posted.{folding_order}
use Rattle.card_rates.specs.Days.{place_of}
use Rattle.card_rates.specs.Segments.{ArePostsDated}

-- ---- the posts of a day
-- all posts that are effective on a day, by number
abbrev pub day_posts : List Kept → SharedRows → ℕ → List CorrectedPost
day_posts history shared day = on day (corrected (anchor_of history) shared.holidays history)

pub record PostsOfADay : Type 0 where
  -- what the fold of a day reads
  pub listed :
      (history : List Kept) (issued : List IssuedRow) (shared : SharedRows) (day : ℕ)
      → posts_on (seen_on (anchor_of history) shared history issued day) ≡ filter (λ p. is_folded p.post) (day_posts history shared day)
  -- a post of a kind that isn't folded does nothing
  pub idle :
      (issued : Option IssuedRow) (a : Account) (seen : Seen) (p : CorrectedPost) (b : Book)
      → is_folded p.post ≡ false → effect issued a seen p p.post b ≡ b
  -- so the posts of a day do the same with such posts among them
  pub same :
      (row : Option IssuedRow) (a : Account) (seen : Seen) (b : Book) (history : List Kept) (issued : List IssuedRow) (shared : SharedRows) (day : ℕ)
      → after_posts row a seen (posts_on (seen_on (anchor_of history) shared history issued day)) b ≡ after_posts row a seen (day_posts history shared day) b

-- ---- one post more
pub record PostsInTurn : Type 0 where
  pub next :
      (issued : Option IssuedRow) (a : Account) (seen : Seen) (ps : List CorrectedPost) (i : ℕ) (d : CorrectedPost) (b : Book) → i < length ps
      → after_posts issued a seen (take (i + 1) ps) b ≡ effect issued a seen (slice_index_or ps i d) (slice_index_or ps i d).post (after_posts issued a seen (take i ps) b)
  pub all : (issued : Option IssuedRow) (a : Account) (seen : Seen) (ps : List CorrectedPost) (b : Book) → after_posts issued a seen (take (length ps) ps) b ≡ after_posts issued a seen ps b

-- ---- places
-- every slot before the place is of an earlier day, and none from it on is
pub record IsCut (slots : List Slot) (day place : ℕ) : Type 0 where
  pub front : (k : ℕ) (d : Slot) → k < place → k < length slots → (slice_index_or slots k d).day < day
  pub back : (k : ℕ) (d : Slot) → place ≤ k → k < length slots → day ≤ (slice_index_or slots k d).day
  pub within : place ≤ length slots

pub record PlacesOfDays : Type 0 where
  pub cut : (a : Anchor) (holidays : List ℕ) (history : List Kept) (day : ℕ) → IsCut (folding_order (corrected a holidays history)) day (place_of day (corrected a holidays history))
  pub next : (posts : List CorrectedPost) (day : ℕ) → place_of (day + 1) posts ≡ place_of day posts + length (on day posts)
  pub quiet : (posts : List CorrectedPost) (day later x : ℕ) → place_of day posts ≡ place_of later posts → day ≤ x → x < later → on x posts ≡ []

-- ---- runs
-- after requests with days up to 2099-12-31, each account has posts with such days
abbrev pub RunsKeepDates : Type 0
RunsKeepDates =
    (requests : List Request) → All (λ (r : Request). is_dated r ≡ true) requests → All (λ (x : NamedAccount). ArePostsDated x.lists.posts) (run requests).accounts
