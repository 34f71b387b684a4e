-- To lower a rate after a review is a task with its day.
use Rattle.std.proofs.Common.{◌≡◌, ℕ, zero, suc, ◌+◌, ◌<◌, Bool, true, false, ◌&&◌, ◌||◌, ltb, List, [], ◌∷◌, ◌++◌, refl, ap, ◌∙◌, arith, Some}
use Rattle.std.proofs.lemmas.Bool.Decides.{nat_tests}
use Rattle.std.proofs.lemmas.List.Elements.{Contains-append_right}
use Rattle.std.specs.Option.{option_map}
use Rattle.card_events.specs.History.{CorrectedPost}
use Rattle.card_events.specs.declared.post.Category.{Category}
use Rattle.card_events.specs.declared.post.Post.{Post}
use Rattle.card_events.specs.declared.post.Post.TheVariants as post
use Rattle.card_model.specs.Deadlines.{ack_due, credit_due, has_later, is_lower, lower_due, open_tasks, refund_due, resolve_due, review_by, task_of, task_without_post, tasks_of}
use Rattle.card_model.specs.declared.task.TaskKind.TheVariants as task
use Rattle.card_rules.proofs.RefundTasks.{in-mapped, in-order}
use Rattle.card_rules.specs.LowerTasks.{NoneIsLowered, ReductionsAreTasks}

is-no-lower : (p : Post) → ((day rate : ℕ) (c : Category) → p ≡ post.Lower day c rate → ⊥) → is_lower p ≡ false
is-no-lower (post.Lower d c r) h = absurd (h d r c refl)
is-no-lower (post.Open d t) h = refl
is-no-lower (post.OpenVariable d t) h = refl
is-no-lower (post.Charge d a z) h = refl
is-no-lower (post.Credit d a z) h = refl
is-no-lower (post.Payment d m y z) h = refl
is-no-lower (post.Return d t) h = refl
is-no-lower (post.Plan d k r f a) h = refl
is-no-lower (post.Notice d c r f) h = refl
is-no-lower post.Penalty h = refl
is-no-lower (post.Review d f) h = refl
is-no-lower (post.Dispute d t z) h = refl
is-no-lower (post.Ack d t) h = refl
is-no-lower (post.Resolve d t z) h = refl
is-no-lower (post.AskRefund d) h = refl
is-no-lower (post.Refund z) h = refl
is-no-lower (post.Amend t d z) h = refl
is-no-lower (post.Bill z) h = refl

none-later : (posts : List CorrectedPost) (n : ℕ) → NoneIsLowered posts n → has_later is_lower n posts ≡ false
none-later [] n h = refl
none-later (q ∷ qs) n h = by (ltb n q.number) refl (none-later qs n (λ p day rate c at. h p day rate c (suc at.0, omega (arith, at.1), at.2)))
  where
    by : (t : Bool) → ltb n q.number ≡ t → has_later is_lower n qs ≡ false → ((t && is_lower q.post) || has_later is_lower n qs) ≡ false
    by false e rest = rest
    by true e rest =
        let later : n < q.number = grind (arith, nat_tests) in
        let out = is-no-lower q.post (λ day rate c. h q day rate c (zero, omega arith, refl) later) in
        rw out rest

pub reductions_are_tasks : ReductionsAreTasks
unfolding open_tasks
reductions_are_tasks account a holidays posts credit since today p day c e kept =
    let x = task_of account task.Lower p.number (day + 45) in
    let first = tasks_of account task.Ack (ack_due posts) posts in
    let second = tasks_of account task.Resolve (resolve_due a posts) posts in
    let third = tasks_of account task.Refund (refund_due holidays credit posts) posts in
    let fourth = task_without_post account task.Credit (credit_due credit since) in
    let fifth = task_without_post account task.Review (review_by posts today) in
    let sixth = tasks_of account task.Lower (lower_due posts) posts in
    let none : has_later is_lower p.number posts ≡ false = none-later posts p.number kept in
    let due : lower_due posts p.number p.post ≡ Some (day + 45) = ap (lower_due posts p.number) e ∙ rw none refl in
    let made = in-mapped (λ q. option_map (task_of account task.Lower q.number) (lower_due posts q.number q.post)) posts p x c (ap (option_map (task_of account task.Lower p.number)) due) in
    in-order x (first ++ second ++ third ++ fourth ++ fifth ++ sixth) (Contains-append_right (first ++ second ++ third ++ fourth ++ fifth) sixth x made)
