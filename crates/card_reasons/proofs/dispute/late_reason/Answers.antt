use Rattle.std.proofs.Common.{sym, ◌∙◌}
use Rattle.card_reasons.proofs.DisputeLemmas.{last_same, late_by, never_late}
use Rattle.card_reasons.proofs.dispute.late_reason.Goals as goal

pub returns-in-Some : goal.returns-in-Some
returns-in-Some c now cents same stands =
    let last = last_same now c.args.posts.now c.args.anchor.now c.args.charge c.last_notice_day.result same c.requires.posts.anchor stands (c.last_notice_day.ensures now.shared.holidays stands) in
    c.reason_after.ensures ∙ late_by now c.args.day c.args.charge cents c.in-Some.last (sym last ∙ c.in-Some.is)

pub returns-in-None : goal.returns-in-None
returns-in-None c now cents same stands =
    let last = last_same now c.args.posts.now c.args.anchor.now c.args.charge c.last_notice_day.result same c.requires.posts.anchor stands (c.last_notice_day.ensures now.shared.holidays stands) in
    never_late now c.args.day c.args.charge cents (sym last ∙ c.in-None.is)
