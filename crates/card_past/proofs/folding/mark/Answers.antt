use Rattle.std.proofs.Common.{◌≡◌, ◌+◌, [], ◌∷◌, ◌++◌, refl, ap, ◌∙◌, arith}
use Rattle.card_daily.proofs.Standing.{begins-with}
use Rattle.card_book.specs.Stands.{day_to_fold}
use Rattle.card_past.proofs.Grown.{grown-since, track-begins}
use Rattle.card_past.proofs.Marked.{marks-more}
use Rattle.card_past.proofs.NextClosing.{few-closed}
use Rattle.card_past.specs.declared.past.Past.{Past}
use Rattle.card_past.proofs.folding.mark.Goals as goal

pub overflow_cast-cycle : goal.overflow_cast-cycle
overflow_cast-cycle c =
    let g = c.args.inputs.now in
    let here : day_to_fold g c.args.book.now.day ≡ c.requires.closed.last.closing + 1 = ap (day_to_fold g) c.requires.closed.day in
    let dated = c.requires.closed.dated in
    let few = few-closed g c.args.book.now c.args.past.now.track c.anchor-opened.ensures.sound c.requires.stands (omega (arith, here, dated)) in
    let ok = c.args.past.now.track.cycles.ok.0 in
    omega (arith, few, c.len-cycle.ensures, ok)

pub returns-clause-marked : goal.returns-clause-marked
returns-clause-marked c =
    let p = c.args.past.now in
    let ok = p.track.cycles.ok.0 in
    let new : Past = record { track = p.track; since = c.push_day.new.list; accrued = c.mark.new.list } in
    marks-more c.args.inputs.now c.args.book.now p new c.requires.closed c.len-cycle.result c.requires.stands (omega (arith, c.len-cycle.ensures, ok)) refl
    (c.push_day.ensures ∙ (ap (λ l. l ++ c.credit_since.result ∷ []) c.reserve.ensures.items ∙ ap (λ d. p.since.items ++ d ∷ []) c.credit_since.ensures))
    (c.in_ok-mark.ensures.items c.requires.closed.last.closing c.requires.closed.day)

pub returns-clause-begins : goal.returns-clause-begins
returns-clause-begins c =
    let p = c.args.past.now in
    record {
      track = track-begins p.track;
      since = begins-with p.since.items c.push_day.new.list.items (c.credit_since.result ∷ []) (c.push_day.ensures ∙ ap (λ l. l ++ c.credit_since.result ∷ []) c.reserve.ensures.items);
      accrued = c.mark.ensures.begins;
    }

pub returns-in_err-reserve-clause-begins : goal.returns-in_err-reserve-clause-begins
returns-in_err-reserve-clause-begins c = grown-since c.args.past.now c.reserve.new.self c.reserve.ensures.items

pub returns-in_err-mark-clause-begins : goal.returns-in_err-mark-clause-begins
returns-in_err-mark-clause-begins c =
    let p = c.args.past.now in
    let first = grown-since p c.reserve.new.self c.reserve.ensures.items in
    record { track = first.track; since = first.since; accrued = c.mark.ensures.begins }
