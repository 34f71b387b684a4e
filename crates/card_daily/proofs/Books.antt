-- The books of a day: their days, penalties, cycles and sizes.
use Rattle.std.proofs.Common.{◌≡◌, ℕ, ◌+◌, ◌-◌, ◌≤◌, List, ◌++◌, sym, ap, ◌∙◌, subst, arith}
use Rattle.card_bounds.specs.Bounds.{AreSmall, IsLimited}
use Rattle.card_bounds.proofs.Points.{small_at_each_step}
use Rattle.card_bounds.proofs.Whole.{balances_small}
use Rattle.card_events.specs.Range.{last_request_day}
use Rattle.card_events.specs.History.{CorrectedPost}
use Rattle.card_events.specs.Limits.{post_limit}
use Rattle.card_model.specs.Books.{Book}
use Rattle.card_model.specs.Cycles.{posts_on}
use Rattle.card_model.specs.Folds.{book}
use Rattle.card_daily.specs.Given.{Given, IsSound, book_in, book_on, opened_in, seen_in}
use Rattle.card_daily.specs.Stands.{amid, before}

-- ---- days
pub day-is : (o d : ℕ) → o ≤ d → o + (d - o) ≡ d
day-is o d l = omega arith

pub before-is : (g : Given) (day : ℕ) → 1 ≤ day → before g day ≡ book_on g (day - 1)
unfolding book
before-is g day l = let e : day - opened_in g ≡ day - 1 + 1 - opened_in g = omega arith in ap (book_in g) e

-- ---- sizes
limits : (g : Given) (day : ℕ) → IsSound g → day ≤ last_request_day → IsLimited post_limit g.history g.shared day
limits g day s l = record { count = s.accepted.count; cents = s.accepted.cents; fees = s.fees; days = let o = s.opening.first in omega arith }

pub before-small : (g : Given) (day : ℕ) → IsSound g → 1 ≤ day → day ≤ last_request_day → AreSmall (before g day).entries
before-small g day s f l =
    subst (λ (b : Book). AreSmall b.entries) (sym (before-is g day f)) (balances_small post_limit g.history g.issued g.shared (day - 1) (limits g (day - 1) s (omega arith)) (omega arith))

pub amid-small : (g : Given) (day : ℕ) (done rest : List CorrectedPost) → IsSound g → opened_in g ≤ day → day ≤ last_request_day → posts_on (seen_in g day) ≡ done ++ rest → AreSmall (amid g day done).entries
amid-small g day done rest s o l parts =
    let e = day-is (opened_in g) day o in
    let room = small_at_each_step.posts post_limit g.history g.issued g.shared day (day - opened_in g) (limits g day s l) (omega arith) done rest (ap (λ d. posts_on (seen_in g d)) e ∙ parts) in
    small_at_each_step.small post_limit 0 (amid g day done).entries (omega arith) room
