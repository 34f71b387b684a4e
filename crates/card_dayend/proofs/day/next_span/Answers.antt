use Rattle.std.proofs.Common.{◌≡◌, ℕ, ◌+◌, ◌-◌, ◌≤◌, sym, subst, arith}
use Rattle.card_rates.specs.Laws.{AreQuiet}
use Rattle.card_daily.specs.Given.{Given, IsDayOf, IsSound, opened_in}
use Rattle.card_daily.specs.Stands.{AreBefore}
use Rattle.card_daily.specs.declared.state.State.{State}
use Rattle.card_daily.specs.declared.track.Track.{Track}
use Rattle.card_dayend.specs.Spans.{IsQuietFrom}
use Rattle.card_dayend.proofs.day.next_span.Goals as goal

quiet : (g : Given) (first end days : ℕ) (s : State) (t : Track) → IsSound g → opened_in g ≤ first → first ≤ end → IsDayOf g end → AreBefore g first s t
    → AreQuiet g.history g.issued g.shared s.rates.penalties first (end - first) → days ≡ end - first → IsQuietFrom g first days s t
quiet g first end days s t sound opened order dated before q whole = record {
  sound = sound;
  opened = opened;
  last = (let high = dated.last in omega (arith, order, high, whole));
  before = before;
  quiet = subst (AreQuiet g.history g.issued g.shared s.rates.penalties first) (sym whole) q;
}

pub pass_quiet-requires : goal.pass_quiet-requires
pass_quiet-requires c = record {
  awaits = record {
    given = c.args.inputs.now;
    track = c.args.track.now;
    quiet = quiet c.args.inputs.now c.args.first c.args.end c.days_to.result c.args.state.now c.args.track.now c.opening_day-opening.ensures.sound c.requires.opened c.requires.order c.requires.dated c.requires.before c.requires.quiet c.days_to.ensures;
  };
}

pub next_day-requires-clause-before : goal.next_day-requires-clause-before
next_day-requires-clause-before c =
    let l = c.requires.order in
    let whole = c.days_to.ensures in
    let place : c.args.first + c.days_to.result ≡ c.args.end = omega (arith, l, whole) in
    subst (λ d. AreBefore c.args.inputs.now d c.pass_quiet.new.state c.args.track.now) place
    (c.in_ok-pass_quiet.ensures.passed c.args.inputs.now c.args.track.now (sym c.index.ensures)
    (quiet c.args.inputs.now c.args.first c.args.end c.days_to.result c.args.state.now c.args.track.now c.opening_day-opening.ensures.sound c.requires.opened c.requires.order c.requires.dated c.requires.before c.requires.quiet whole))
