use Rattle.std.proofs.Common.{List, ℕ, sym, ap, ◌∙◌}
use Rattle.card_events.specs.declared.kept.Kept.{Kept}
use Rattle.card_model.specs.Refusals.{reason_against}
use Rattle.card_reasons.specs.Reasons.{judged_of}
use Rattle.card_account.proofs.judge.reason_by_posts.Goals as goal

pub returns-in-Bill : goal.returns-in-Bill
returns-in-Bill c issued =
    let now = c.args.now.now in
    c.bill_today.ensures issued ∙ ap (reason_against (judged_of now.today now.shared issued now.lists.posts)) (sym c.in-Bill.is)

pub returns-in_default : goal.returns-in_default
returns-in_default c issued =
    let now = c.args.now.now in
    let p = c.args.post.now in
    c.post_reason.ensures now.shared issued c.posts.ensures.stands
    ∙ ap (λ (h : List Kept). reason_against (judged_of c.today.result now.shared issued h) p) c.posts.ensures.history
    ∙ ap (λ (n : ℕ). reason_against (judged_of n now.shared issued now.lists.posts) p) c.today.ensures.value
