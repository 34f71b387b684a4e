-- Calendars with the same holidays give the same tasks.
use Rattle.std.proofs.Common.{◌≡◌, ℕ, zero, suc, ◌+◌, ◌-◌, ◌==◌, Bool, List, refl, ap, ◌∙◌, Option}
use Rattle.std.specs.Prelude.{◌&&◌, ◌||◌, not, ◌++◌}
use Rattle.card_events.specs.declared.anchor.Anchor.{Anchor}
use Rattle.card_events.specs.Range.{last_calendar_day}
use Rattle.card_events.specs.Business.{is_business, is_holiday, is_weekday, next_business}
use Rattle.card_events.specs.Civil.{first_day}
use Rattle.card_events.specs.History.{CorrectedPost}
use Rattle.card_events.specs.declared.post.Post.{Post}
use Rattle.card_events.specs.declared.post.Post.TheVariants as post
use Rattle.card_model.specs.Deadlines.{ack_due, business_day_after, by_day, credit_due, has_later, is_done, is_refund, lower_due, open_tasks, refund_due, resolve_due, review_by, task_without_post, tasks_of}
use Rattle.card_model.specs.declared.task.TaskKind.TheVariants as task

-- the same days are holidays
abbrev pub AreSame : List ℕ → List ℕ → Type 0
AreSame these those = (x : ℕ) → is_holiday these x ≡ is_holiday those x

business-same : (these those : List ℕ) → AreSame these those → is_business these ≡ is_business those
unfolding is_business
business-same these those h i day = is_weekday day && not (h day i)

next-same : (these those : List ℕ) → AreSame these those → (day : ℕ) → next_business these day ≡ next_business those day
unfolding next_business
next-same these those h day = ap (λ (f : ℕ → Bool). first_day f (last_calendar_day - day) (day + 1)) (business-same these those h)

after-same : (these those : List ℕ) → AreSame these those → (n day : ℕ) → business_day_after these n day ≡ business_day_after those n day
unfolding business_day_after
after-same these those h zero day = refl
after-same these those h (suc n) day = ap (business_day_after these n) (next-same these those h day) ∙ after-same these those h n (next_business those day)

due-same : (these those : List ℕ) → AreSame these those → (credit : ℕ) (posts : List CorrectedPost) (n : ℕ) (p : Post) → refund_due these credit posts n p ≡ refund_due those credit posts n p
due-same these those h credit posts n (post.AskRefund day) = ap (is_done ((credit == 0) || has_later is_refund n posts)) (after-same these those h 7 day)
due-same these those h credit posts n (post.Charge d p c) = refl
due-same these those h credit posts n (post.Credit d p c) = refl
due-same these those h credit posts n (post.Payment d m by c) = refl
due-same these those h credit posts n (post.Bill c) = refl
due-same these those h credit posts n (post.Amend t d c) = refl
due-same these those h credit posts n (post.Plan d v r w f) = refl
due-same these those h credit posts n (post.Notice d y r w) = refl
due-same these those h credit posts n (post.Lower d y r) = refl
due-same these those h credit posts n post.Penalty = refl
due-same these those h credit posts n (post.Review d f) = refl
due-same these those h credit posts n (post.Dispute d t c) = refl
due-same these those h credit posts n (post.Ack d t) = refl
due-same these those h credit posts n (post.Resolve d t c) = refl
due-same these those h credit posts n (post.Refund c) = refl
due-same these those h credit posts n (post.Open d t) = refl
due-same these those h credit posts n (post.OpenVariable d t) = refl
due-same these those h credit posts n (post.Return d t) = refl

all-due-same : (these those : List ℕ) → AreSame these those → (credit : ℕ) (posts : List CorrectedPost) → refund_due these credit posts ≡ refund_due those credit posts
all-due-same these those h credit posts i n p = due-same these those h credit posts n p i

pub tasks-same : (these those : List ℕ) → AreSame these those → (account : List ℕ) (a : Anchor) (posts : List CorrectedPost) (credit : ℕ) (since : Option ℕ) (today : ℕ)
    → open_tasks account a these posts credit since today ≡ open_tasks account a those posts credit since today
unfolding open_tasks
tasks-same these those h account a posts credit since today =
    ap (λ (due : ℕ → Post → Option ℕ).
    by_day (
    tasks_of account task.Ack (ack_due posts) posts
    ++ tasks_of account task.Resolve (resolve_due a posts) posts
    ++ tasks_of account task.Refund due posts
    ++ task_without_post account task.Credit (credit_due credit since)
    ++ task_without_post account task.Review (review_by posts today)
    ++ tasks_of account task.Lower (lower_due posts) posts)) (all-due-same these those h credit posts)
