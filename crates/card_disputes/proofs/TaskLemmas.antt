-- The tasks of posts one after the other.
use Rattle.std.proofs.Common.{◌≡◌, ℕ, zero, suc, ◌+◌, ◌<◌, take, length, List, [], ◌∷◌, ◌++◌, refl, sym, ap, ◌∙◌, Option, Some, None, arith}
use Rattle.std.specs.Prelude.{slice_get}
use Rattle.std.specs.List.{cons_option}
use Rattle.std.specs.Option.{option_map, option_to_list}
use Rattle.card_events.specs.declared.anchor.Anchor.{Anchor}
use Rattle.card_disputes.proofs.Scans.{at_place, place-there}
use Rattle.card_disputes.specs.Dues.{due_at, due_by}
use Rattle.card_events.specs.History.{CorrectedPost, at_number, corrected, corrected_from, corrected_post, next_segment}
use Rattle.card_events.specs.declared.kept.Kept.{Kept}
use Rattle.card_events.specs.declared.post.Post.{Post}
use Rattle.card_model.specs.Deadlines.{by_day, credit_due, open_tasks, review_by, task_of, tasks_of}
use Rattle.card_model.specs.declared.task.TaskKind.TheVariants as task
use Rattle.card_model.specs.declared.task.Task.{Task}
use Rattle.card_model.specs.declared.task.TaskKind.{TaskKind}

-- those of these posts, the first of which is post n
unfoldable pub tasks_from : List ℕ → TaskKind → (ℕ → Post → Option ℕ) → ℕ → List Kept → List Task
tasks_from account kind due n [] = []
tasks_from account kind due n (k ∷ ks) = cons_option (option_map (task_of account kind n) (due n k.post)) (tasks_from account kind due (suc n) ks)

from-corrected : (account : List ℕ) (kind : TaskKind) (due : ℕ → Post → Option ℕ) (a : Anchor) (holidays : List ℕ) (history : List Kept) (n segment : ℕ) (ks : List Kept)
    → tasks_from account kind due n ks ≡ tasks_of account kind due (corrected_from a holidays history n segment ks)
unfolding tasks_from corrected_from corrected_post
from-corrected account kind due a holidays history n segment [] = refl
from-corrected account kind due a holidays history n segment (k ∷ ks) =
    ap (cons_option (option_map (task_of account kind n) (due n k.post))) (from-corrected account kind due a holidays history (suc n) (next_segment segment k.post) ks)

pub tasks-are : (account : List ℕ) (kind : TaskKind) (due : ℕ → Post → Option ℕ) (a : Anchor) (holidays : List ℕ) (history : List Kept)
    → tasks_from account kind due 1 history ≡ tasks_of account kind due (corrected a holidays history)
tasks-are account kind due a holidays history = from-corrected account kind due a holidays history 1 5 history

pub none-from : (account : List ℕ) (kind : TaskKind) (due : ℕ → Post → Option ℕ) → tasks_from account kind due 1 [] ≡ []
unfolding tasks_from
none-from account kind due = refl

one-task : (o : Option Task) → cons_option o [] ≡ option_to_list o
one-task None = refl
one-task (Some t) = refl

from-step : (account : List ℕ) (kind : TaskKind) (due : ℕ → Post → Option ℕ) (n i : ℕ) (ks : List Kept) (k : Kept) → slice_get ks i ≡ Some k
    → tasks_from account kind due n (take (suc i) ks) ≡ tasks_from account kind due n (take i ks) ++ option_to_list (option_map (task_of account kind (n + i)) (due (n + i) k.post))
unfolding tasks_from
from-step account kind due n i [] k e = cc
from-step account kind due n zero (q ∷ ks) k e =
    let same : q ≡ k = cc in
    let here : n ≡ n + 0 = omega arith in
    one-task (option_map (task_of account kind n) (due n q.post))
    ∙ ap (λ (x : Kept). option_to_list (option_map (task_of account kind n) (due n x.post))) same
    ∙ ap (λ m. option_to_list (option_map (task_of account kind m) (due m k.post))) here
from-step account kind due n (suc i) (q ∷ ks) k e =
    let next : suc n + i ≡ n + suc i = omega arith in
    ap (cons_option (option_map (task_of account kind n) (due n q.post))) (from-step account kind due (suc n) i ks k e ∙ ap (λ m. tasks_from account kind due (suc n) (take i ks) ++ option_to_list (option_map (task_of account kind m) (due m k.post))) next)
    ∙ front (option_map (task_of account kind n) (due n q.post)) (tasks_from account kind due (suc n) (take i ks)) (option_to_list (option_map (task_of account kind (n + suc i)) (due (n + suc i) k.post)))
  where
    front : (o : Option Task) (xs ys : List Task) → cons_option o (xs ++ ys) ≡ cons_option o xs ++ ys
    front None xs ys = refl
    front (Some t) xs ys = refl

pub task-step : (account : List ℕ) (kind : TaskKind) (a : Anchor) (holidays : List ℕ) (credit : ℕ) (posts : List CorrectedPost) (i : ℕ) (ks : List Kept) → i < length ks
    → tasks_from account kind (due_by a holidays credit posts kind) 1 (take i ks) ++ option_to_list (option_map (task_of account kind (i + 1)) (due_at a holidays credit posts kind (i + 1) (at_number (i + 1) ks)))
    ≡ tasks_from account kind (due_by a holidays credit posts kind) 1 (take (i + 1) ks)
task-step account kind a holidays credit posts i ks l =
    let there = place-there i ks l in
    let one : suc i ≡ i + 1 = omega arith in
    let next : i + 1 ≡ 1 + i = omega arith in
    let before : List Task = tasks_from account kind (due_by a holidays credit posts kind) 1 (take i ks) in
    ap (λ o. before ++ option_to_list (option_map (task_of account kind (i + 1)) (due_at a holidays credit posts kind (i + 1) o))) (at_place i ks ∙ there.1)
    ∙ ap (λ m. before ++ option_to_list (option_map (task_of account kind m) (due_by a holidays credit posts kind m there.0.post))) next
    ∙ sym (from-step account kind (due_by a holidays credit posts kind) 1 i ks there.0 there.1)
    ∙ ap (λ m. tasks_from account kind (due_by a holidays credit posts kind) 1 (take m ks)) one

-- ---- all kinds
then-more : (l m x rest : List Task) → m ≡ l ++ x → l ≡ rest → m ≡ rest ++ x
then-more l m x rest e f = e ∙ ap (λ z. z ++ x) f

pub all-kinds : (l₀ l₁ l₂ l₃ l₄ l₅ l₆ a r f u v w : List Task) → l₀ ≡ [] → l₁ ≡ l₀ ++ a → l₂ ≡ l₁ ++ r → l₃ ≡ l₂ ++ f → l₄ ≡ l₃ ++ u → l₅ ≡ l₄ ++ v → l₆ ≡ l₅ ++ w
    → l₆ ≡ a ++ r ++ f ++ u ++ v ++ w
all-kinds l₀ l₁ l₂ l₃ l₄ l₅ l₆ a r f u v w e₀ e₁ e₂ e₃ e₄ e₅ e₆ =
    let f₁ : l₁ ≡ a = then-more l₀ l₁ a [] e₁ e₀ in
    let f₂ : l₂ ≡ a ++ r = then-more l₁ l₂ r a e₂ f₁ in
    let f₃ : l₃ ≡ a ++ r ++ f = then-more l₂ l₃ f (a ++ r) e₃ f₂ in
    let f₄ : l₄ ≡ a ++ r ++ f ++ u = then-more l₃ l₄ u (a ++ r ++ f) e₄ f₃ in
    let f₅ : l₅ ≡ a ++ r ++ f ++ u ++ v = then-more l₄ l₅ v (a ++ r ++ f ++ u) e₅ f₄ in
    then-more l₅ l₆ w (a ++ r ++ f ++ u ++ v) e₆ f₅

pub open-is : (account : List ℕ) (a : Anchor) (holidays : List ℕ) (posts : List CorrectedPost) (credit : ℕ) (since : Option ℕ) (today : ℕ)
    → by_day (tasks_of account task.Ack (due_by a holidays credit posts task.Ack) posts
    ++ tasks_of account task.Resolve (due_by a holidays credit posts task.Resolve) posts
    ++ tasks_of account task.Refund (due_by a holidays credit posts task.Refund) posts
    ++ option_to_list (option_map (task_of account task.Credit 0) (credit_due credit since))
    ++ option_to_list (option_map (task_of account task.Review 0) (review_by posts today))
    ++ tasks_of account task.Lower (due_by a holidays credit posts task.Lower) posts)
    ≡ open_tasks account a holidays posts credit since today
unfolding open_tasks
open-is account a holidays posts credit since today = refl
