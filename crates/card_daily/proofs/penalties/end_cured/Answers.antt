use Rattle.std.proofs.Common.{◌+◌, None, List, length, get_or, ap, ◌∙◌, refl, arith}
use Rattle.card_model.specs.declared.segment.Interval.{Interval}
use Rattle.card_model.specs.DueDates.{cured_by}
use Rattle.card_rates.specs.RateBooks.{Rates, with_penalties}
use Rattle.card_daily.proofs.Penalized.{done-all, done-length, done-set, done-to}
use Rattle.card_daily.specs.Given.{seen_in}
use Rattle.card_daily.proofs.penalties.end_cured.Goals as goal

-- what a read beyond the end gives
abbrev no_interval : Interval
no_interval = record { begins = 0; last = None }

pub end_if_cured-requires-clause-which : goal.end_if_cured-requires-clause-which
end_if_cured-requires-clause-which c =
    let f : Interval → Interval = cured_by (seen_in c.args.inputs.now c.args.day) c.args.cycles.now c.args.due in
    let old = c.args.rates.now.penalties in
    let kept = ap (λ (r : Rates). length r.penalties) c.loop-which.invariant ∙ done-length f c.loop-which.which old in
    let all = ap (λ (ps : List Interval). length ps) c.penalties-which-end.ensures in
    omega (arith, kept, all, c.loop-which-test.true)

pub loop-which-preserved : goal.loop-which-preserved
loop-which-preserved c =
    let f : Interval → Interval = cured_by (seen_in c.args.inputs.now c.args.day) c.args.cycles.now c.args.due in
    let first = c.args.rates.now in
    let old = first.penalties in
    let i = c.loop-which.which in
    let now = c.loop-which.rates.penalties in
    let kept = ap (λ (r : Rates). r.penalties) c.loop-which.invariant in
    let all = ap (λ (ps : List Interval). length ps) c.penalties-which-end.ensures in
    let next = done-set f (f (get_or now i no_interval)) i old now no_interval (omega (arith, all, c.loop-which-test.true)) kept refl in
    c.end_if_cured.ensures no_interval
    ∙ (ap (λ (ps : List Interval). with_penalties ps c.loop-which.rates) next
    ∙ ap (λ (r : Rates). with_penalties (done-to f (i + 1) old) r) c.loop-which.invariant)

pub returns : goal.returns
returns c =
    let f : Interval → Interval = cured_by (seen_in c.args.inputs.now c.args.day) c.args.cycles.now c.args.due in
    let old = c.args.rates.now.penalties in
    let all = ap (λ (ps : List Interval). length ps) c.penalties-which-end.ensures in
    c.loop-which.invariant
    ∙ ap (λ (ps : List Interval). with_penalties ps c.args.rates.now) (done-all f c.loop-which.which old (omega (arith, all, c.loop-which-test.false)))
