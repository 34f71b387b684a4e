use Rattle.std.proofs.Common.{◌≡◌, ℕ, ◌+◌, ◌≤◌, sym, ap, ◌∙◌, subst, arith}
use Rattle.card_events.specs.Range.{last_request_day}
use Rattle.card_rates.specs.Next.{IsNext}
use Rattle.card_daily.specs.Given.{Given, IsSound}
use Rattle.card_daily.specs.declared.track.Track.{Track}
use Rattle.card_dayend.specs.Spans.{breaks_by}
use Rattle.card_book.specs.Stands.{StandsFor, Summary, day_to_fold, steps_over}
use Rattle.card_book.proofs.More.{from-opening}
use Rattle.card_book.proofs.Steps.{begins-then, span-step}
use Rattle.card_daily.proofs.Standing.{room-then}
use Rattle.card_book.proofs.kept_book.Book.advance.Goals as goal

-- a span more is a step more
more : (g : Given) (b : Summary) (t : Track) (first to end : ℕ) → IsSound g → StandsFor g b t → first ≡ day_to_fold g b.day → to ≤ last_request_day → IsNext (breaks_by g b.state.rates.penalties) first to end
    → steps_over g to first ≡ 1 + steps_over g to (end + 1)
more g b t first to end sound h now last next =
    let from = from-opening g b.day h.opened in
    span-step g b t first to end sound.opening h now (omega (arith, from, now)) last next

pub returns-in_err-fold_span-clause-most_spans : goal.returns-in_err-fold_span-clause-most_spans
returns-in_err-fold_span-clause-most_spans g c =
    let given = c.args.inputs.now in
    let l = c.loop-alloc in
    let end = c.span_end-end.result in
    let next = subst (λ (b : Summary). IsNext (breaks_by given b.state.rates.penalties) l.first c.args.to end) c.self-in-loop-alloc.view_is c.span_end-end.ensures.next in
    let step = more given l.self l.track l.first c.args.to end c.opening_day-opening.ensures.sound l.invariant.stands l.invariant.first c.requires.last next in
    omega (arith, c.tick.ensures, l.invariant.steps, step)

pub loop-alloc-preserved : goal.loop-alloc-preserved
loop-alloc-preserved g c =
    let given = c.args.inputs.now in
    let l = c.loop-alloc in
    let end = c.span_end-end.result in
    let low = c.span_end-end.ensures.next.low in
    let high = c.span_end-end.ensures.next.high in
    let behind = c.next-first.ensures in
    let next = subst (λ (b : Summary). IsNext (breaks_by given b.state.rates.penalties) l.first c.args.to end) c.self-in-loop-alloc.view_is c.span_end-end.ensures.next in
    let step = more given l.self l.track l.first c.args.to end c.opening_day-opening.ensures.sound l.invariant.stands l.invariant.first c.requires.last next in
    let rest = ap (steps_over given c.args.to) behind in
    record {
      stands = c.in_ok-fold_span.ensures.stands;
      first = behind ∙ sym (ap (day_to_fold given) c.in_ok-fold_span.ensures.day);
      begun = omega (arith, behind, low, l.invariant.begun);
      within = omega (arith, behind, high);
      broken_off = c.fold_span.ensures.whole ∙ l.invariant.broken_off;
      steps = omega (arith, c.tick.ensures, l.invariant.steps, step, rest);
      most = omega (arith, c.tick.ensures, l.invariant.most, behind, low, l.invariant.begun);
      begins = begins-then c.args.track.now l.track c.fold_span.new.track l.invariant.begins c.fold_span.ensures.begins;
      room = room-then c.args.track.now l.track c.fold_span.new.track l.invariant.room c.fold_span.ensures.room;
      cursor = c.span_end-end.ensures.cursor;
    }

pub returns-in_err-fold_span-clause-room : goal.returns-in_err-fold_span-clause-room
returns-in_err-fold_span-clause-room g c = room-then c.args.track.now c.loop-alloc.track c.fold_span.new.track c.loop-alloc.invariant.room c.fold_span.ensures.room
