-- How many steps the calls on an account take. A step is a span: at most one day with its posts, and the days before it. Days are
-- day numbers.
use Rattle.std.specs.Prelude.{ℕ, ◌+◌, ◌-◌, ◌≤◌, List, min}
use Rattle.card_events.specs.Billing.{closing, cycle_of}
use Rattle.card_events.specs.declared.anchor.Anchor.{Anchor}
use Rattle.card_events.specs.History.{anchor_of, corrected}
use Rattle.card_events.specs.SharedRows.{SharedRows}
use Rattle.card_events.specs.declared.post.Post.{Post}
use Rattle.card_model.specs.Machine.{accepted}
use Rattle.card_model.specs.Refusals.{Lists}
use Rattle.card_posts.specs.Change.{IsFirstChange}
use Rattle.card_book.specs.Stands.{steps_over}
use Rattle.card_book.specs.StepCounts.{breaks_with}
use Rattle.card_replay.specs.Replays.{Replay, given_of, present_of}

-- from the day after the one last reached to today
abbrev pub steps_to : ℕ → SharedRows → Replay → ℕ
steps_to today shared r = steps_over (given_of r.lists shared) today (r.folding.reached + 1)

-- the first day of the cycle that a day lies in
abbrev pub first_in_cycle : Anchor → ℕ → ℕ
first_in_cycle a day = closing a (cycle_of a day - 1) + 1

-- The first day on which the corrected list of more posts differs: there is one, since each post counts on some day, and it is the
-- only one
abbrev pub IsFirstBetween : SharedRows → Lists → Lists → ℕ → Type 0
IsFirstBetween shared old new from =
    IsFirstChange from (corrected (anchor_of old.posts) shared.holidays old.posts) (corrected (anchor_of new.posts) shared.holidays new.posts)

-- the days from the earlier of two up to today that are break days before or after a change: from the first day of the cycle that
-- holds the first day that differs, and from the day last reached
abbrev pub breaks_changed : ℕ → SharedRows → Lists → Lists → ℕ → ℕ → ℕ
breaks_changed today shared old new reached from =
    breaks_with (given_of old shared) (given_of new shared) (min (first_in_cycle (anchor_of old.posts) from) reached) today

-- a day isn't before another one, or else not before the last closing before the first day that differs
abbrev pub IsNear : SharedRows → Lists → Lists → ℕ → ℕ → Type 0
IsNear shared old new before after =
    (from : ℕ) → IsFirstBetween shared old new from → min (first_in_cycle (anchor_of old.posts) from) (before + 1) ≤ after + 1

-- at most one step for each of the break days from the first day of that cycle on, and one more
abbrev pub AreFewAgain : ℕ → SharedRows → Lists → Lists → ℕ → ℕ → Type 0
AreFewAgain today shared old new before after =
    (from : ℕ) → IsFirstBetween shared old new from
    → after ≤ before + (breaks_with (given_of old shared) (given_of new shared) (first_in_cycle (anchor_of old.posts) from) today + 1)

-- the same behind the steps to reach today
abbrev pub AreFewSteps : ℕ → SharedRows → Lists → Lists → ℕ → ℕ → ℕ → Type 0
AreFewSteps today shared old new reached before after =
    AreFewAgain today shared old new (before + steps_over (given_of old shared) today (reached + 1)) after

-- to prepare a post that is accepted today under a key, from the day last reached on
abbrev pub AreFewToPrepare : ℕ → SharedRows → Lists → ℕ → List ℕ → Post → ℕ → ℕ → Type 0
AreFewToPrepare today shared lists reached key p before after = AreFewSteps today shared lists (accepted (present_of today shared lists) key p) reached before after
