use Rattle.std.proofs.Common.{◌≤◌, sym, ap, ◌∙◌, subst, Option}
use Rattle.std.specs.Prelude.{IfSome}
use Rattle.card_posts.specs.Posted.{slot_with}
use Rattle.card_rates.specs.declared.day.DayPost.{DayPost}
use Rattle.card_effects.specs.Seen.{post_by}
use Rattle.card_effects.proofs.Numbered.{seen-by, seen-is}
use Rattle.card_effects.proofs.seen.post_seen.Goals as goal

pub returns-clause-value : goal.returns-clause-value
returns-clause-value c issued shared stands =
    let h = c.args.posts.now.history in
    c.post_by.ensures ∙ (ap (post_by c.args.day h) (c.slot.ensures ∙ ap (slot_with c.args.number) stands)
    ∙ seen-is h issued shared c.args.day c.args.number)

pub returns-clause-by : goal.returns-clause-by
returns-clause-by c = subst (λ (o : Option DayPost). IfSome o (λ p. p.slot.day ≤ c.args.day)) (sym c.post_by.ensures) (seen-by c.args.day c.args.posts.now.history _)
