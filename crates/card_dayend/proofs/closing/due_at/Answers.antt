use Rattle.std.proofs.Common.{◌≡◌, ◌≤◌, Some, sym, ap, ◌∙◌, subst, arith}
use Rattle.std.specs.Option.{option_map}
use Rattle.std.specs.Prelude.{option_copied}
use Rattle.card_model.specs.Payments.{due_cycle_of}
use Rattle.card_events.specs.History.{anchor_of}
use Rattle.card_model.specs.CycleDays.{HasItsDays}
use Rattle.card_model.specs.Folds.{cycle_at}
use Rattle.card_daily.proofs.ClosingDay.{at-count}
use Rattle.card_daily.specs.Given.{seen_in}
use Rattle.card_dayend.proofs.closing.due_at.Goals as goal

pub due_cycle-requires-clause-days : goal.due_cycle-requires-clause-days
due_cycle-requires-clause-days c =
    let cycle = c.in-Some.cycle.now in
    let at : cycle_at c.args.number c.args.cycles.now ≡ Some cycle = sym c.closed_at.ensures ∙ ap option_copied c.in-Some.is in
    let days = c.requires.days c.args.number cycle at in
    subst (λ n. HasItsDays (anchor_of c.args.inputs.now.history) n cycle) (sym days.number) days

pub due_cycle-requires-clause-number : goal.due_cycle-requires-clause-number
due_cycle-requires-clause-number c =
    let cycle = c.in-Some.cycle.now in
    let at : cycle_at c.args.number c.args.cycles.now ≡ Some cycle = sym c.closed_at.ensures ∙ ap option_copied c.in-Some.is in
    let days = c.requires.days c.args.number cycle at in
    subst (λ n. 1 ≤ n) (sym days.number) (at-count c.args.number c.args.cycles.now cycle at).0

pub due_cycle-requires-clause-last : goal.due_cycle-requires-clause-last
due_cycle-requires-clause-last c =
    let cycle = c.in-Some.cycle.now in
    let at : cycle_at c.args.number c.args.cycles.now ≡ Some cycle = sym c.closed_at.ensures ∙ ap option_copied c.in-Some.is in
    let by = c.requires.due c.args.number cycle at in
    let last = c.requires.last in
    omega arith

pub returns-in-Some : goal.returns-in-Some
returns-in-Some c =
    let cycle = c.in-Some.cycle.now in
    let at : cycle_at c.args.number c.args.cycles.now ≡ Some cycle = sym c.closed_at.ensures ∙ ap option_copied c.in-Some.is in
    let seen = seen_in c.args.inputs.now c.args.day in
    ap Some c.due_cycle.ensures ∙ ap (option_map (due_cycle_of seen.issued)) (sym at)

pub returns-in-None : goal.returns-in-None
returns-in-None c =
    let seen = seen_in c.args.inputs.now c.args.day in
    ap (option_map (due_cycle_of seen.issued)) (sym (ap option_copied c.in-None.is) ∙ c.closed_at.ensures)
