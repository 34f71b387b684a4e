use Rattle.std.proofs.Common.{◌≤◌, length, List, ap, sym, subst, ◌∙◌, arith}
use Rattle.std.specs.Prelude.{IfSome}
use Rattle.card_events.specs.Range.{last_request_day}
use Rattle.card_events.specs.declared.anchor.Anchor.{Anchor}
use Rattle.card_disputes.specs.Notices.{notice_end_at}
use Rattle.card_disputes.proofs.NoticeLemmas.{no-notice, notice-of, opening-dated}
use Rattle.card_events.specs.History.{CorrectedPost, anchor_of}
use Rattle.card_model.specs.Deadlines.{last_notice_day}
use Rattle.card_disputes.proofs.notice.last_notice_day.Goals as goal

pub overflow_cast-get : goal.overflow_cast-get
overflow_cast-get c =
    let there = subst (λ o. IfSome o (λ d. c.args.charge ≤ length c.args.posts.now.history)) c.in-Some.is c.charge_day.ensures.within in
    omega (arith, there, c.get.ensures.value, c.len-count.ensures.value, c.len-count.ensures.bound)

pub cycle_on-requires-clause-opened : goal.cycle_on-requires-clause-opened
cycle_on-requires-clause-opened c =
    let opened = subst (λ (a : Anchor). a.opened ≤ last_request_day) (sym c.requires.posts.anchor) (opening-dated c.args.posts.now.history c.requires.posts.dated) in
    omega (arith, opened)

pub cycle_on-requires-clause-dated : goal.cycle_on-requires-clause-dated
cycle_on-requires-clause-dated c =
    let dated = subst (λ o. IfSome o (λ d. d ≤ last_request_day)) c.in-Some.is c.charge_day.ensures.dated in
    omega (arith, dated)

pub returns-in-Some : goal.returns-in-Some
returns-in-Some c holidays stands =
    let history = c.args.posts.now.history in
    c.notice_end.ensures
    ∙ ap (λ n. notice_end_at n c.cycle_on.result history) c.get.ensures.value
    ∙ ap (λ k. notice_end_at c.args.charge k history) c.cycle_on.ensures.value
    ∙ sym (notice-of c.args.anchor.now (anchor_of history) holidays history c.args.charge c.in-Some.day (sym (c.charge_day.ensures.value holidays stands) ∙ c.in-Some.is))
    ∙ ap (λ (l : List CorrectedPost). last_notice_day c.args.anchor.now l c.args.charge) (sym stands)

pub returns-in-None : goal.returns-in-None
returns-in-None c holidays stands =
    let history = c.args.posts.now.history in
    sym (no-notice c.args.anchor.now (anchor_of history) holidays history c.args.charge (sym (c.charge_day.ensures.value holidays stands) ∙ c.in-None.is))
    ∙ ap (λ (l : List CorrectedPost). last_notice_day c.args.anchor.now l c.args.charge) (sym stands)
