-- How many entries an account has, and how large they are.
use Rattle.std.proofs.Common.{ℕ, ◌+◌, ◌-◌, ◌*◌, ◌<◌, ◌≤◌, ◌^◌, length, arith}
use Rattle.card_account.specs.Entries.{AreSmallEntries}
use Rattle.card_bounds.proofs.CountDays.{entries_are_few}
use Rattle.card_bounds.proofs.EntrySizes.{entries_small}
use Rattle.card_bounds.specs.Bounds.{IsLimited}
use Rattle.card_daily.specs.Given.{Given, IsSound, ReachesToday, book_on, given_today, opened_in}
use Rattle.card_events.specs.Limits.{post_limit}
use Rattle.card_events.specs.Range.{last_request_day}
use Rattle.card_model.specs.Refusals.{Present, book_today}

-- 64 for each of at most 200,000 posts and for each day up to 2099-12-31
few : (n posts today opened : ℕ) → n ≤ 64 * (posts + (today + 1 - opened)) → posts ≤ 200_000 → today ≤ 47_481 → n < 2 ^ 32
few n posts today opened bound count dated = omega arith

pub entries_few : (now : Present) → IsSound (given_today now) → ReachesToday now → length (book_today now).entries < 2 ^ 32
unfolding book_today
entries_few now sound reached =
    few _ (length now.lists.posts) now.today (opened_in (given_today now)) (entries_are_few.lists now.lists.posts now.lists.issued now.shared now.today sound.segments) sound.accepted.count reached.dated

-- ---- sizes
limits : (g : Given) (day : ℕ) → IsSound g → day ≤ last_request_day → IsLimited post_limit g.history g.shared day
limits g day sound dated =
    let first = sound.opening.first in
    record { count = sound.accepted.count; cents = sound.accepted.cents; fees = sound.fees; days = omega (arith, first, dated) }

pub all_small : (g : Given) (day : ℕ) → IsSound g → day ≤ last_request_day → AreSmallEntries (book_on g day).entries
all_small g day sound dated = entries_small.days post_limit g.history g.issued g.shared day (limits g day sound dated) (omega arith)

pub today_small : (now : Present) → IsSound (given_today now) → ReachesToday now → AreSmallEntries (book_today now).entries
unfolding book_today
today_small now sound reached = all_small (given_today now) now.today sound reached.dated
