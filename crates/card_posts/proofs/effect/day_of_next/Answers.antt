use Rattle.std.proofs.Common.{◌≡◌, ◌+◌, max, unwrap_or, length, take, sym, ap, ◌∙◌, None, arith}
use Rattle.card_events.specs.History.{last_amend}
use Rattle.card_posts.specs.Effect.{day_alone}
use Rattle.card_posts.specs.declared.correction.Correction.{Correction}
use Rattle.card_posts.proofs.DayLemmas.{day-by-later}
use Rattle.card_posts.proofs.Noted.{unnamed}
use Rattle.card_posts.proofs.OneMore.{effects-length}
use Rattle.card_posts.proofs.effect.day_of_next.Goals as goal

pub returns : goal.returns
returns c =
    let amend : last_amend (1 + length c.args.history.now) c.args.history.now ≡ None = unnamed (1 + length c.args.history.now) 1 c.args.history.now c.requires.kept.names (omega arith) in
    let none : c.nothing.result.amend ≡ last_amend (1 + length c.args.history.now) c.args.history.now = ap (λ (o : Correction). o.amend) c.nothing.ensures ∙ sym amend in
    let alone = c.day_alone-alone.ensures ∙ ap (λ o. day_alone c.args.anchor.now c.args.calendar.now o c.args.accepted c.args.post.now) none in
    let waits = c.awaited_day.ensures c.args.anchor.now c.args.calendar.now (ap (take (length c.args.history.now)) c.requires.effects) in
    c.later.ensures ∙ (ap (λ x. max x (unwrap_or c.awaited_day.result 0)) alone
    ∙ (ap (λ x. max (day_alone c.args.anchor.now c.args.calendar.now (last_amend (1 + length c.args.history.now) c.args.history.now) c.args.accepted c.args.post.now) x) waits
    ∙ sym (day-by-later c.args.anchor.now c.args.calendar.now c.args.history.now (1 + length c.args.history.now) c.args.accepted c.args.post.now)))

pub awaited_day-requires-clause-length : goal.awaited_day-requires-clause-length
awaited_day-requires-clause-length c =
    let long = ap length c.requires.effects ∙ effects-length c.args.anchor.now c.args.calendar.now c.args.history.now 1 c.args.history.now in
    omega (arith, long)
