use Rattle.std.proofs.Common.{◌≡◌, ◌+◌, max, unwrap_or, sym, ap, ◌∙◌}
use Rattle.card_events.specs.History.{last_amend}
use Rattle.card_posts.specs.Effect.{day_alone}
use Rattle.card_posts.specs.declared.correction.Correction.{Correction}
use Rattle.card_posts.proofs.DayLemmas.{day-by-later}
use Rattle.card_posts.proofs.effect.day_now.Goals as goal

pub returns : goal.returns
returns c =
    let amend : c.args.correction.now.amend ≡ last_amend (c.args.i + 1) c.args.history.now = ap (λ (o : Correction). o.amend) c.requires.correction in
    let alone = c.day_alone-alone.ensures ∙ ap (λ o. day_alone c.args.anchor.now c.args.calendar.now o c.args.kept.now.accepted c.args.kept.now.post) amend in
    let waits = c.awaited_day.ensures c.args.anchor.now c.args.calendar.now c.requires.front in
    c.later.ensures ∙ (ap (λ x. max x (unwrap_or c.awaited_day.result 0)) alone
    ∙ (ap (λ x. max (day_alone c.args.anchor.now c.args.calendar.now (last_amend (c.args.i + 1) c.args.history.now) c.args.kept.now.accepted c.args.kept.now.post) x) waits
    ∙ sym (day-by-later c.args.anchor.now c.args.calendar.now c.args.history.now (c.args.i + 1) c.args.kept.now.accepted c.args.kept.now.post)))
