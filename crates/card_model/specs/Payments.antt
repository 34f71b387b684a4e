-- Sums over payments: what a statement's due date asks for, whether it was met and paid, what is past due
-- (12 CFR 1026.5(b)(2)(ii), .10, .54(a), .55(b)(4)). Days are effective days, amounts cents. A rule is said once, of a list of posts and
-- of a cycle as its due date sees it; the fold of a day says it of the posts and the issued statements that it sees.
use Rattle.std.specs.Prelude.{ℕ, ◌+◌, ◌-◌, Bool, true, false, ◌&&◌, ◌||◌, not, ◌==◌, nat_le, nat_lt, if◌then◌else◌, List, Option, Some, None}
use Rattle.std.specs.List.{filter, sum_by, list_any}
use Rattle.card_events.specs.History.{CorrectedPost}
use Rattle.card_events.specs.declared.post.Post.{Post}
use Rattle.card_events.specs.declared.post.Post.TheVariants as post
use Rattle.card_model.specs.Cycles.{Cycle, IssuedRow, Seen}
use Rattle.card_model.specs.declared.due_cycle.DueCycle.{DueCycle}

-- a payment
abbrev pub is_payment : Post → Bool
is_payment (post.Payment _ _ _ _) = true
is_payment _ = false

-- a merchant's credit
abbrev pub is_credit : Post → Bool
is_credit (post.Credit _ _ _) = true
is_credit _ = false

-- a Return of payment n
abbrev pub returns : ℕ → Post → Bool
returns n (post.Return _ target) = target == n
returns n _ = false

-- a Return that is effective by a day names payment n
abbrev pub is_returned : List CorrectedPost → ℕ → ℕ → Bool
is_returned posts to n = list_any (λ p. returns n p.post && nat_le p.day to) posts

-- an effective day from one day to another
abbrev pub is_between : ℕ → ℕ → CorrectedPost → Bool
is_between from to p = nat_le from p.day && nat_le p.day to

-- the payments with effective days from one day to another, less those returned by its end
unfoldable pub counted : List CorrectedPost → ℕ → ℕ → ℕ
counted posts from to =
    sum_by (λ p. if is_payment p.post && is_between from to p && not (is_returned posts to p.number) then p.cents else 0) posts

-- the merchants' credits in that time
unfoldable pub credited : List CorrectedPost → ℕ → ℕ → ℕ
credited posts from to = sum_by (λ p. if is_credit p.post && is_between from to p then p.cents else 0) posts

-- ---- due payments
-- the statement of a cycle, issued at least 21 days before the due date (12 CFR 1026.5(b)(2)(ii))
abbrev pub is_timely : Cycle → IssuedRow → Bool
is_timely c row = (row.cycle == c.number) && nat_le (row.day + 21) c.due

-- a cycle has a due payment where its statement was issued in time
abbrev pub has_due_payment : List IssuedRow → Cycle → Bool
has_due_payment issued c = list_any (is_timely c) issued

-- a closed cycle as its due date sees it, by these issued statements
abbrev pub due_cycle_of : List IssuedRow → Cycle → DueCycle
due_cycle_of issued c =
    record { cycle = c.number; closing = c.closing; due = c.due; minimum = c.minimum; grace_amount = c.grace_amount; has_due_payment = has_due_payment issued c }

-- what it asks for
abbrev pub asks : DueCycle → ℕ
asks c = if c.has_due_payment then c.minimum else 0

-- what a statement asks for at its due date, 0 without one
abbrev pub asked : List IssuedRow → Option Cycle → ℕ
asked issued None = 0
asked issued (Some c) = asks (due_cycle_of issued c)

-- the payments up to the due date reach what it asks for
unfoldable pub is_met : List CorrectedPost → DueCycle → Bool
is_met posts c = nat_le (asks c) (counted posts (c.closing + 1) c.due)

-- the same in the fold of a day
abbrev pub met : Seen → Cycle → Bool
met seen c = is_met seen.posts (due_cycle_of seen.issued c)

-- payments and credits up to the due date reach the grace amount (12 CFR 1026.54(a)(1))
unfoldable pub is_paid : List CorrectedPost → DueCycle → Bool
is_paid posts c =
    not c.has_due_payment || nat_le c.grace_amount (counted posts (c.closing + 1) c.due + credited posts (c.closing + 1) c.due)

-- a statement before the first counts as paid
abbrev pub is_paid_if_any : List CorrectedPost → Option DueCycle → Bool
is_paid_if_any posts None = true
is_paid_if_any posts (Some c) = is_paid posts c

-- the same in the fold of a day
abbrev pub paid : Seen → Cycle → Bool
paid seen c = is_paid seen.posts (due_cycle_of seen.issued c)

-- at a later day: what the payments up to it left of what was asked for, not below 0
abbrev pub left_by : List CorrectedPost → ℕ → DueCycle → ℕ
left_by posts day c = asks c - counted posts (c.closing + 1) day

-- at a closing: what is left of the minimum payment of the cycle before
abbrev pub past_due : Seen → ℕ → Option Cycle → ℕ
past_due seen closing None = 0
past_due seen closing (Some c) = left_by seen.posts closing (due_cycle_of seen.issued c)

-- ---- sixty days late (12 CFR 1026.55(b)(4))
-- on a day: the due date lies more than 60 days back, and the payments since the closing are below what it asks for
abbrev pub is_owed_sixty_days : List CorrectedPost → ℕ → DueCycle → Bool
is_owed_sixty_days posts day c = nat_lt (c.due + 60) day && nat_lt (counted posts (c.closing + 1) day) (asks c)

-- the same in the fold of a day
abbrev pub owes_sixty_days : Seen → Cycle → Bool
owes_sixty_days seen c = is_owed_sixty_days seen.posts seen.day (due_cycle_of seen.issued c)

-- some statement is sixty days late today
unfoldable pub sixty_days_late : Seen → List Cycle → Bool
sixty_days_late seen cycles = list_any (owes_sixty_days seen) cycles

-- ---- the minimum part of a payment
-- to be folded before the post with a day and a number: on an earlier day, or on that day with a smaller number
abbrev pub is_before : ℕ → ℕ → ℕ → ℕ → Bool
is_before day number d n = nat_lt d day || ((d == day) && nat_lt n number)

-- the posts that are folded before it
abbrev pub folded_before : ℕ → ℕ → List CorrectedPost → List CorrectedPost
folded_before day number posts = filter (λ q. is_before day number q.day q.number) posts

-- what the payments folded before it left of what was asked for, not below 0
abbrev pub left_before : List CorrectedPost → ℕ → ℕ → DueCycle → ℕ
left_before posts day number c = left_by (folded_before day number posts) day c

-- what those folded before a post of today left of the last statement's minimum payment
abbrev pub minimum_left : Seen → CorrectedPost → Option Cycle → ℕ
minimum_left seen p None = 0
minimum_left seen p (Some c) = left_before seen.posts seen.day p.number (due_cycle_of seen.issued c)
