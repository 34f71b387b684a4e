-- On due dates up to a day, the posts that the fold of that day sees are enough.
use Rattle.std.proofs.Common.{◌≡◌, ℕ, ◌+◌, ◌-◌, ◌≤◌, ◌&&◌, ◌||◌, not, nat_le, nat_lt, cond, List, Option, Some, None, refl, ap, ◌∙◌, arith}
use Rattle.std.specs.Prelude.{IfSome}
use Rattle.card_events.specs.History.{CorrectedPost}
use Rattle.card_fees.specs.Due.{seen_of}
use Rattle.card_fees.specs.DueLaws.{PastPostsAreEnough}
use Rattle.card_fees.proofs.Before.{before-past, credited-past}
use Rattle.card_fees.proofs.Fold.{counted-past}
use Rattle.card_model.specs.Payments.{asks, counted, credited, is_met, is_paid}
use Rattle.card_model.specs.Interest.{case_after}
use Rattle.card_model.specs.declared.due_cycle.DueCycle.{DueCycle}
use Rattle.card_model.specs.declared.grace.GraceCase.TheVariants as case

met-past : (day : ℕ) (posts : List CorrectedPost) (c : DueCycle) → c.due ≤ day → is_met (seen_of day posts) c ≡ is_met posts c
unfolding is_met
met-past day posts c l = ap (nat_le (asks c)) (counted-past day posts (c.closing + 1) c.due l)

paid-past : (day : ℕ) (posts : List CorrectedPost) (c : DueCycle) → c.due ≤ day → is_paid (seen_of day posts) c ≡ is_paid posts c
unfolding is_paid
paid-past day posts c l =
    ap (λ n. not c.has_due_payment || nat_le c.grace_amount (n + credited (seen_of day posts) (c.closing + 1) c.due)) (counted-past day posts (c.closing + 1) c.due l)
    ∙ ap (λ n. not c.has_due_payment || nat_le c.grace_amount (counted posts (c.closing + 1) c.due + n)) (credited-past day posts (c.closing + 1) c.due l)

case-past : (day : ℕ) (posts : List CorrectedPost) (before last : Option DueCycle) → IfSome before (λ c. c.due ≤ day) → IfSome last (λ c. c.due ≤ day)
    → case_after (seen_of day posts) before last ≡ case_after posts before last
case-past day posts before None b l = refl
case-past day posts None (Some c) b l = ap (λ t. cond t case.None (case.Lowered c.due)) (paid-past day posts c l)
case-past day posts (Some x) (Some c) b l =
    ap (λ t. cond t (cond (is_paid (seen_of day posts) c) case.None (case.Lowered c.due)) case.Plain) (paid-past day posts x b)
    ∙ ap (λ t. cond (is_paid posts x) (cond t case.None (case.Lowered c.due)) case.Plain) (paid-past day posts c l)

pub past-posts : PastPostsAreEnough
past-posts =
    record {
      met = met-past;
      paid = paid-past;
      left = λ day posts c. ap (λ n. asks c - n) (counted-past day posts (c.closing + 1) day (omega arith));
      owed = λ day posts c. ap (λ n. nat_lt (c.due + 60) day && nat_lt n (asks c)) (counted-past day posts (c.closing + 1) day (omega arith));
      case = case-past;
      before = λ day number posts c. ap (λ n. asks c - n) (before-past day number posts (c.closing + 1));
    }
