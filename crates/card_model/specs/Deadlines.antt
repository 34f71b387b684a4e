-- Deadlines and open tasks: disputes (12 CFR 1026.13(b)(1), (c)), credit balances (12 CFR 1026.11(a)), reviews of rate
-- increases (12 CFR 1026.59). `posts` is the corrected list, with posts of all kinds.
use Rattle.std.specs.Prelude.{ℕ, zero, suc, ◌+◌, ◌-◌, Bool, true, false, ◌&&◌, ◌||◌, ◌==◌, nat_le, nat_lt, if◌then◌else◌, min, max, List, [], ◌∷◌, ◌++◌, Option, Some, None}
use Rattle.std.specs.List.{filter, filter_map, find, fold, list_any, reduce}
use Rattle.std.specs.Option.{option_map, option_to_list}
use Rattle.card_events.specs.Billing.{closing, cycle_of}
use Rattle.card_events.specs.Business.{next_business}
use Rattle.card_events.specs.Later.{six_months_after}
use Rattle.card_events.specs.declared.anchor.Anchor.{Anchor}
use Rattle.card_events.specs.History.{CorrectedPost}
use Rattle.card_events.specs.declared.post.Finding.TheVariants as finding
use Rattle.card_events.specs.declared.post.Post.{Post}
use Rattle.card_events.specs.declared.post.Post.TheVariants as post
use Rattle.card_model.specs.Effects.{charge_at}
use Rattle.card_model.specs.Entries.{credit_balance}
use Rattle.card_model.specs.declared.entry.Entry.{Entry}
use Rattle.card_model.specs.declared.task.Task.{Task}
use Rattle.card_model.specs.declared.task.TaskKind.{TaskKind}
use Rattle.card_model.specs.declared.task.TaskKind.TheVariants as task

-- ---- disputes
-- a Bill of this cycle or a later one
abbrev pub bills_from : ℕ → Post → Bool
bills_from cycle (post.Bill c) = nat_le cycle c
bills_from cycle _ = false

-- a later-numbered Bill, of a charge's cycle or a later one
abbrev pub reflects : ℕ → ℕ → CorrectedPost → Bool
reflects charge cycle p = nat_lt charge p.number && bills_from cycle p.post

-- 60 days after a Bill
abbrev pub notice_end : CorrectedPost → ℕ
notice_end bill = bill.accepted + 60

-- that of the first Bill that reflects a charge
abbrev pub notice_end_of : Anchor → List CorrectedPost → Option CorrectedPost → Option ℕ
notice_end_of a posts None = None
notice_end_of a posts (Some p) = option_map notice_end (find (reflects p.number (cycle_of a p.day)) posts)

-- The last day for a Dispute of a charge: 60 days after the first statement that reflects it was issued, none where none
-- was (12 CFR 1026.13(b)(1))
unfoldable pub last_notice_day : Anchor → List CorrectedPost → ℕ → Option ℕ
last_notice_day a posts charge = notice_end_of a posts (charge_at charge posts)

-- a Dispute of a day is acknowledged within 30 days (12 CFR 1026.13(c)(1))
abbrev pub ack_by : ℕ → ℕ
ack_by day = day + 30

-- and resolved within two complete cycles, and 90 days (12 CFR 1026.13(c)(2))
unfoldable pub resolve_by : Anchor → ℕ → ℕ
resolve_by a day = min (closing a (cycle_of a day + 2)) (day + 90)

-- ---- credit balances
-- the n-th business day after a day
unfoldable pub business_day_after : List ℕ → ℕ → ℕ → ℕ
business_day_after holidays zero day = day
business_day_after holidays (suc n) day = business_day_after holidays n (next_business holidays day)

-- a refund that was asked for is due by the seventh business day (12 CFR 1026.11(a)(2))
abbrev pub refund_by : List ℕ → ℕ → ℕ
refund_by holidays day = business_day_after holidays 7 day

-- the credit balance at the end of a day
unfoldable pub credit_on : List Entry → ℕ → ℕ
credit_on entries day = credit_balance (filter (λ e. nat_le e.day day) entries)

-- going back so many days, the first day of the run of days that end with a credit balance
unfoldable pub credit_run : List Entry → ℕ → ℕ → ℕ
credit_run entries zero day = day
credit_run entries (suc n) day =
    let earlier = credit_run entries n (day - 1) in
    if credit_on entries (day - 1) == 0 then day else earlier

-- the first day of the present run, none where today ends without a credit balance
unfoldable pub credit_since : List Entry → ℕ → ℕ → Option ℕ
credit_since entries opened today =
    let since = credit_run entries (today - opened) today in
    if credit_on entries today == 0 then None else Some since

-- ---- reviews
-- the day on which a rate increase takes effect, by the posts
abbrev pub increase_of : ℕ → Post → Option ℕ
increase_of accepted (post.Notice _ _ _ effective) = Some effective
increase_of accepted post.Penalty = Some (accepted + 45)
increase_of accepted _ = None

-- the days of the increases that have taken effect by a day
unfoldable pub increases : List CorrectedPost → ℕ → List ℕ
increases posts day = filter (λ d. nat_le d day) (filter_map (λ p. increase_of p.accepted p.post) posts)

-- the day of a Review
abbrev pub review_of : Post → Option ℕ
review_of (post.Review day _) = Some day
review_of _ = None

-- the later of a day and the last Review
abbrev pub reviewed : List CorrectedPost → ℕ → ℕ
reviewed posts day = fold max day (filter_map (λ p. review_of p.post) posts)

-- A review is due six months after the later of the first increase and the last Review, once an increase has taken
-- effect (12 CFR 1026.59(a), (c))
unfoldable pub review_by : List CorrectedPost → ℕ → Option ℕ
review_by posts today = option_map (λ first. six_months_after (reviewed posts first)) (reduce min (increases posts today))

-- a rate is lowered within 45 days after the review that found so (12 CFR 1026.59(a)(2)(i))
abbrev pub lower_by : ℕ → ℕ
lower_by day = day + 45

-- ---- open tasks
-- an Ack of Dispute n
abbrev pub acknowledges : ℕ → Post → Bool
acknowledges n (post.Ack _ target) = target == n
acknowledges n _ = false

-- a Resolve of Dispute n
abbrev pub resolves : ℕ → Post → Bool
resolves n (post.Resolve _ target _) = target == n
resolves n _ = false

-- a Refund
abbrev pub is_refund : Post → Bool
is_refund (post.Refund _) = true
is_refund _ = false

-- a Lower
abbrev pub is_lower : Post → Bool
is_lower (post.Lower _ _ _) = true
is_lower _ = false

-- some post is of this kind
abbrev pub has : (Post → Bool) → List CorrectedPost → Bool
has p posts = list_any (λ q. p q.post) posts

-- some post after post n is of this kind
abbrev pub has_later : (Post → Bool) → ℕ → List CorrectedPost → Bool
has_later p n posts = list_any (λ q. nat_lt n q.number && p q.post) posts

-- a task of an account
abbrev pub task_of : List ℕ → TaskKind → ℕ → ℕ → Task
task_of account k n by = record { by = by; account = account; kind = k; post = n }

-- the last day of what is still to be done
abbrev pub is_done : Bool → ℕ → Option ℕ
is_done done by = if done then None else Some by

-- to acknowledge a Dispute that no Ack and no Resolve names
abbrev pub ack_due : List CorrectedPost → ℕ → Post → Option ℕ
ack_due posts n (post.Dispute day _ _) = is_done (has (acknowledges n) posts || has (resolves n) posts) (ack_by day)
ack_due posts n _ = None

-- to resolve a Dispute that no Resolve names
abbrev pub resolve_due : Anchor → List CorrectedPost → ℕ → Post → Option ℕ
resolve_due a posts n (post.Dispute day _ _) = is_done (has (resolves n) posts) (resolve_by a day)
resolve_due a posts n _ = None

-- to refund a credit balance that was asked for, where there is one and no later Refund
abbrev pub refund_due : List ℕ → ℕ → List CorrectedPost → ℕ → Post → Option ℕ
refund_due holidays credit posts n (post.AskRefund day) = is_done ((credit == 0) || has_later is_refund n posts) (refund_by holidays day)
refund_due holidays credit posts n _ = None

-- to lower a rate, where a Review found so and no later Lower stands
abbrev pub lower_due : List CorrectedPost → ℕ → Post → Option ℕ
lower_due posts n (post.Review day finding.Reduce) = is_done (has_later is_lower n posts) (lower_by day)
lower_due posts n _ = None

-- to refund a credit balance above 100 cents that has stood for six months (12 CFR 1026.11(a)(3))
abbrev pub credit_due : ℕ → Option ℕ → Option ℕ
credit_due credit since = if nat_lt 100 credit then option_map six_months_after since else None

-- the tasks of one kind, by post
abbrev pub tasks_of : List ℕ → TaskKind → (ℕ → Post → Option ℕ) → List CorrectedPost → List Task
tasks_of account k due posts = filter_map (λ p. option_map (task_of account k p.number) (due p.number p.post)) posts

-- a task that is no post's, where there is one
abbrev pub task_without_post : List ℕ → TaskKind → Option ℕ → List Task
task_without_post account k by = option_to_list (option_map (task_of account k 0) by)

-- before those of the same day and of later ones
unfoldable pub with_task : Task → List Task → List Task
with_task t [] = t ∷ []
with_task t (u ∷ us) = let later = u ∷ with_task t us in if nat_lt u.by t.by then later else t ∷ u ∷ us

-- by day, those of one day as they stand
unfoldable pub by_day : List Task → List Task
by_day [] = []
by_day (t ∷ ts) = with_task t (by_day ts)

-- The open tasks of an account that holds a credit balance since a day: by day, kind and post
unfoldable pub open_tasks : List ℕ → Anchor → List ℕ → List CorrectedPost → ℕ → Option ℕ → ℕ → List Task
open_tasks account a holidays posts credit since today =
    by_day (
    tasks_of account task.Ack (ack_due posts) posts
    ++ tasks_of account task.Resolve (resolve_due a posts) posts
    ++ tasks_of account task.Refund (refund_due holidays credit posts) posts
    ++ task_without_post account task.Credit (credit_due credit since)
    ++ task_without_post account task.Review (review_by posts today)
    ++ tasks_of account task.Lower (lower_due posts) posts)
