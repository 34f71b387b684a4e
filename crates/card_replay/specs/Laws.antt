-- Laws of accounts with a folded book.
use Rattle.std.specs.Prelude.{ℕ, ◌+◌, ◌≡◌, ◌≤◌, Some, None, IfSome}
use Rattle.card_events.specs.History.{is_variable}
use Rattle.card_events.specs.SharedRows.{SharedRows}
use Rattle.card_model.specs.Cycles.{Cycle}
use Rattle.card_model.specs.Folds.{cycle_at}
use Rattle.card_posts.specs.Posted.{last_accepted}
use Rattle.card_daily.specs.Given.{Given, IsSound, book_on, opened_in}
use Rattle.card_daily.specs.Stands.{IsBlank}
use Rattle.card_daily.specs.declared.track.Track.{Track}
use Rattle.card_book.specs.Rewound.{IsRewound}
use Rattle.card_book.specs.Stands.{Summary, IsTheFold}
use Rattle.card_replay.specs.Replays.{AreLaterRows, Folding, IsReplay, Replay, given_of}

-- no day is reached yet, and nothing is recorded
pub record IsNotFolded (g : Given) (f : Folding) : Type 0 where
  pub before : f.reached + 1 ≡ opened_in g
  pub blank : IsBlank f.past.track

-- What is recorded is the book at the end of the day last reached. Where there is a Book it is the fold with its track, and where there
-- is none no day is reached
pub record IsTheBook (g : Given) (f : Folding) : Type 0 where
  pub entries : f.past.track.entries.items ≡ (book_on g f.reached).entries
  pub cycles : f.past.track.cycles.items ≡ (book_on g f.reached).cycles
  pub fees : f.past.track.fees.items ≡ (book_on g f.reached).fees
  pub some : IfSome f.book (λ b. IsTheFold g b f.past.track)
  pub none : f.book ≡ None → IsNotFolded g f

-- So it always is: the Book at the day last reached and its track are the fold of the account from its opening day on
abbrev pub KeptBookIsTheFold : Type 0
KeptBookIsTheFold = (shared : SharedRows) (r : Replay) → IsReplay shared r → IsTheBook (given_of r.lists shared) r.folding

-- there is a Book, and where it is taken back to the closing of a cycle, with the track cut behind that cycle, it is the fold
pub record HasClosing (g : Given) (k : ℕ) (c : Cycle) (f : Folding) : Type 0 where
  pub book : Summary
  pub there : f.book ≡ Some book
  pub back : (b : Summary) (cut : Track) → IsRewound g k c book f.past.track b cut → IsTheFold g b cut

-- And so is, for each closing up to then, the Book that is taken back to it
abbrev pub KeptClosingsAreTheFold : Type 0
KeptClosingsAreTheFold =
    (shared : SharedRows) (r : Replay) (k : ℕ) (c : Cycle) → IsReplay shared r → cycle_at k r.folding.past.track.cycles.items ≡ Some c
    → HasClosing (given_of r.lists shared) k c r.folding

-- Holidays, fee rows and index rows of days after one that comes neither before the day last reached nor before a post was accepted
-- leave it standing; where its opening rates don't follow the index, index rows of all days do
abbrev pub LaterRowsLeaveIt : Type 0
LaterRowsLeaveIt =
    (old new : SharedRows) (r : Replay) (day : ℕ) → IsReplay old r → r.folding.reached ≤ day → last_accepted r.lists.posts ≤ day → AreLaterRows (is_variable r.lists.posts) day old new → IsSound (given_of r.lists new) → IsReplay new r
