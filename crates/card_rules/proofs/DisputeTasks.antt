-- To acknowledge and to resolve a dispute are tasks with their days.
use Rattle.std.proofs.Common.{◌≡◌, ℕ, zero, suc, ◌+◌, ◌≤◌, Bool, true, false, List, [], ◌∷◌, ◌++◌, eqb, min, refl, ap, ◌∙◌, arith, Option, Some}
use Rattle.std.proofs.lemmas.Bool.{eqb-true}
use Rattle.std.proofs.lemmas.List.Elements.{Contains-append_left, Contains-append_right}
use Rattle.std.specs.List.{Contains}
use Rattle.std.specs.Option.{option_map}
use Rattle.card_events.specs.Billing.{closing}
use Rattle.card_events.specs.History.{CorrectedPost}
use Rattle.card_events.specs.Range.{last_calendar_day}
use Rattle.card_events.specs.declared.anchor.Anchor.{Anchor}
use Rattle.card_events.specs.declared.post.Post.{Post}
use Rattle.card_events.specs.declared.post.Post.TheVariants as post
use Rattle.card_model.specs.CycleDays.{IsOpening}
use Rattle.card_model.specs.Deadlines.{ack_due, acknowledges, credit_due, has, lower_due, open_tasks, refund_due, resolve_by, resolve_due, resolves, review_by, task_of, task_without_post, tasks_of}
use Rattle.card_model.specs.declared.task.TaskKind.TheVariants as task
use Rattle.card_rules.proofs.CycleDays.{cycle-is}
use Rattle.card_rules.proofs.RefundTasks.{in-mapped, in-order}
use Rattle.card_rules.specs.DisputeTasks.{DisputesAreTasks, IsInCycle, IsUnanswered, IsUnresolved}

-- ---- no post of a kind is there
none-of : (test : Post → Bool) (posts : List CorrectedPost) → ((p : CorrectedPost) → Contains posts p → test p.post ≡ false) → has test posts ≡ false
none-of test [] h = refl
none-of test (p ∷ ps) h =
    let here = h p (zero, omega arith, refl) in
    let rest = none-of test ps (λ q c. h q (suc c.0, omega (arith, c.1), c.2)) in
    rw (here, rest) refl

acknowledges-not : (n : ℕ) (p : Post) → ((day : ℕ) → p ≡ post.Ack day n → ⊥) → acknowledges n p ≡ false
acknowledges-not n (post.Ack d t) h = by (eqb t n) refl
  where
    by : (b : Bool) → eqb t n ≡ b → b ≡ false
    by true e = absurd (h d (ap (post.Ack d) (eqb-true t n e)))
    by false e = refl
acknowledges-not n (post.Open d t) h = refl
acknowledges-not n (post.OpenVariable d t) h = refl
acknowledges-not n (post.Charge d a z) h = refl
acknowledges-not n (post.Credit d a z) h = refl
acknowledges-not n (post.Payment d m y z) h = refl
acknowledges-not n (post.Return d t) h = refl
acknowledges-not n (post.Plan d k r f a) h = refl
acknowledges-not n (post.Notice d c r f) h = refl
acknowledges-not n (post.Lower d y r) h = refl
acknowledges-not n post.Penalty h = refl
acknowledges-not n (post.Review d f) h = refl
acknowledges-not n (post.Dispute d t z) h = refl
acknowledges-not n (post.Resolve d t z) h = refl
acknowledges-not n (post.AskRefund d) h = refl
acknowledges-not n (post.Refund z) h = refl
acknowledges-not n (post.Amend t d z) h = refl
acknowledges-not n (post.Bill z) h = refl

resolves-not : (n : ℕ) (p : Post) → ((day cents : ℕ) → p ≡ post.Resolve day n cents → ⊥) → resolves n p ≡ false
resolves-not n (post.Resolve d t z) h = by (eqb t n) refl
  where
    by : (b : Bool) → eqb t n ≡ b → b ≡ false
    by true e = absurd (h d z (ap (λ x. post.Resolve d x z) (eqb-true t n e)))
    by false e = refl
resolves-not n (post.Open d t) h = refl
resolves-not n (post.OpenVariable d t) h = refl
resolves-not n (post.Charge d a z) h = refl
resolves-not n (post.Credit d a z) h = refl
resolves-not n (post.Payment d m y z) h = refl
resolves-not n (post.Return d t) h = refl
resolves-not n (post.Plan d k r f a) h = refl
resolves-not n (post.Notice d c r f) h = refl
resolves-not n (post.Lower d y r) h = refl
resolves-not n post.Penalty h = refl
resolves-not n (post.Review d f) h = refl
resolves-not n (post.Dispute d t z) h = refl
resolves-not n (post.Ack d t) h = refl
resolves-not n (post.AskRefund d) h = refl
resolves-not n (post.Refund z) h = refl
resolves-not n (post.Amend t d z) h = refl
resolves-not n (post.Bill z) h = refl

none-resolves : (posts : List CorrectedPost) (n : ℕ) → IsUnresolved posts n → has (resolves n) posts ≡ false
none-resolves posts n h = none-of (resolves n) posts (λ p c. resolves-not n p.post (λ day cents e. h p day cents c e))

none-acknowledges : (posts : List CorrectedPost) (n : ℕ) → IsUnanswered posts n → has (acknowledges n) posts ≡ false
none-acknowledges posts n h = none-of (acknowledges n) posts (λ p c. acknowledges-not n p.post (λ day e. h.unacknowledged p day c e))

-- ---- the tasks
acknowledge : (account : List ℕ) (a : Anchor) (holidays : List ℕ) (posts : List CorrectedPost) (credit : ℕ) (since : Option ℕ) (today : ℕ) (p : CorrectedPost) (day target claim : ℕ)
    → Contains posts p → p.post ≡ post.Dispute day target claim → IsUnanswered posts p.number
    → Contains (open_tasks account a holidays posts credit since today) (task_of account task.Ack p.number (day + 30))
unfolding open_tasks
acknowledge account a holidays posts credit since today p day target claim c e none =
    let x = task_of account task.Ack p.number (day + 30) in
    let first = tasks_of account task.Ack (ack_due posts) posts in
    let second = tasks_of account task.Resolve (resolve_due a posts) posts in
    let third = tasks_of account task.Refund (refund_due holidays credit posts) posts in
    let fourth = task_without_post account task.Credit (credit_due credit since) in
    let fifth = task_without_post account task.Review (review_by posts today) in
    let sixth = tasks_of account task.Lower (lower_due posts) posts in
    let unresolved : has (resolves p.number) posts ≡ false = none-resolves posts p.number none.unresolved in
    let waits : has (acknowledges p.number) posts ≡ false = none-acknowledges posts p.number none in
    let due : ack_due posts p.number p.post ≡ Some (day + 30) = ap (ack_due posts p.number) e ∙ rw (waits, unresolved) refl in
    let made = in-mapped (λ q. option_map (task_of account task.Ack q.number) (ack_due posts q.number q.post)) posts p x c (ap (option_map (task_of account task.Ack p.number)) due) in
    in-order x (first ++ second ++ third ++ fourth ++ fifth ++ sixth)
    (Contains-append_left (first ++ second ++ third ++ fourth ++ fifth) sixth x
    (Contains-append_left (first ++ second ++ third ++ fourth) fifth x
    (Contains-append_left (first ++ second ++ third) fourth x
    (Contains-append_left (first ++ second) third x (Contains-append_left first second x made)))))

resolve-day : (a : Anchor) (day k : ℕ) → IsOpening a → day ≤ last_calendar_day → IsInCycle a k day → resolve_by a day ≡ min (closing a (k + 2)) (day + 90)
unfolding resolve_by
resolve-day a day k h high i = ap (λ n. min (closing a (n + 2)) (day + 90)) (cycle-is a day k h i.opened high i.numbered i.after i.by)

resolve : (account : List ℕ) (a : Anchor) (holidays : List ℕ) (posts : List CorrectedPost) (credit : ℕ) (since : Option ℕ) (today : ℕ) (p : CorrectedPost) (day target claim k : ℕ)
    → IsOpening a → day ≤ last_calendar_day → IsInCycle a k day
    → Contains posts p → p.post ≡ post.Dispute day target claim → IsUnresolved posts p.number
    → Contains (open_tasks account a holidays posts credit since today) (task_of account task.Resolve p.number (min (closing a (k + 2)) (day + 90)))
unfolding open_tasks
resolve account a holidays posts credit since today p day target claim k h high i c e none =
    let x = task_of account task.Resolve p.number (min (closing a (k + 2)) (day + 90)) in
    let first = tasks_of account task.Ack (ack_due posts) posts in
    let second = tasks_of account task.Resolve (resolve_due a posts) posts in
    let third = tasks_of account task.Refund (refund_due holidays credit posts) posts in
    let fourth = task_without_post account task.Credit (credit_due credit since) in
    let fifth = task_without_post account task.Review (review_by posts today) in
    let sixth = tasks_of account task.Lower (lower_due posts) posts in
    let unresolved : has (resolves p.number) posts ≡ false = none-resolves posts p.number none in
    let due : resolve_due a posts p.number p.post ≡ Some (min (closing a (k + 2)) (day + 90)) =
    ap (resolve_due a posts p.number) e ∙ rw unresolved (ap (λ (by : ℕ). Some by) (resolve-day a day k h high i)) in
    let made = in-mapped (λ q. option_map (task_of account task.Resolve q.number) (resolve_due a posts q.number q.post)) posts p x c (ap (option_map (task_of account task.Resolve p.number)) due) in
    in-order x (first ++ second ++ third ++ fourth ++ fifth ++ sixth)
    (Contains-append_left (first ++ second ++ third ++ fourth ++ fifth) sixth x
    (Contains-append_left (first ++ second ++ third ++ fourth) fifth x
    (Contains-append_left (first ++ second ++ third) fourth x
    (Contains-append_left (first ++ second) third x (Contains-append_right first second x made)))))

pub disputes_are_tasks : DisputesAreTasks
disputes_are_tasks = record { acknowledge = acknowledge; resolve = resolve }
