-- The day that an account has reached, before a call on it and after it. Days are day numbers.
use Rattle.std.specs.Prelude.{◌≡◌, ◌≤◌, ℕ, false, ◌⊎◌}
use Rattle.card_events.specs.SharedRows.{SharedRows}
use Rattle.card_events.specs.declared.post.Post.{Post}
use Rattle.card_model.specs.Refusals.{Lists}
use Rattle.card_posts.specs.Draft.{IsFirstWith}
use Rattle.card_replay.specs.Changes.{StaysUnfolded}
use Rattle.card_replay.specs.Needs.{folds_to_load}
use Rattle.card_replay.specs.Replays.{Replay, posted_of}
use Rattle.card_replay.specs.Steps.{IsNear}
use Rattle.card_account.specs.Accounts.{OpenAccount}

-- It is today or the day before the call, and comes not before that day
pub record StaysOrIsToday (today before after : ℕ) : Type 0 where
  pub either : (after ≡ today) ⊎ (after ≡ before)
  pub forward : before ≤ after

-- After one post more it comes not before the last closing before the first day that differs, or else not before the day before the
-- call; and it isn't after today
pub record StaysNear (today : ℕ) (shared : SharedRows) (old new : Lists) (before after : ℕ) : Type 0 where
  pub near : IsNear shared old new before after
  pub last : after ≤ today

-- Nothing is folded, and no step is taken
pub record IsIdle (old new : OpenAccount) (before after : ℕ) : Type 0 where
  pub account : new ≡ old
  pub steps : after ≡ before

-- While it is loaded, nothing is folded for a post unless a load folds for it by the first day that it changes
pub record IsIdleToLoad (shared : SharedRows) (today : ℕ) (p : Post) (old new : Replay) (before after : ℕ) : Type 0 where
  pub from : ℕ
  pub first : IsFirstWith shared.holidays today p (posted_of old) from
  pub idle : folds_to_load p from old.late.owed ≡ false → StaysUnfolded old new before after
