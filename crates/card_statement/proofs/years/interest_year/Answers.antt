use Rattle.std.proofs.Common.{◌≡◌, ℕ, ◌∙◌, ◌+◌, ◌<◌, ◌^◌, ap, arith, get_or, length, rules, sym, take}
use Rattle.card_model.specs.Cycles.{Cycle, amounts_sum}
use Rattle.card_model.specs.Sheets.{year_sum}
use Rattle.card_statement.proofs.YearSteps.{bounded, grows, more, none, part}
use Rattle.card_statement.proofs.years.interest_year.Goals as goal

abbrev amount : Cycle → ℕ
amount d = amounts_sum d.interest

pub loop-i-init : goal.loop-i-init
loop-i-init c = (none amount c.args.closing, omega arith)

pub loop-i-preserved : goal.loop-i-preserved
loop-i-preserved c =
    let cs = c.args.cycles.now in
    let i = c.loop-i.i in
    let x = c.index-cycles-i.result in
    let below : i < length cs = search rules in
    let value : c.interest_in-sum.result ≡ part amount c.args.closing (get_or cs i x) = c.interest_in-sum.ensures ∙ ap (part amount c.args.closing) c.index-cycles-i.is in
    let small = bounded amount c.args.closing (10 ^ 17) (get_or cs i x) (c.requires.small i x below) in
    let sum = ap (λ n. n + c.interest_in-sum.result) c.loop-i.invariant.0 ∙ (ap (λ n. year_sum amount c.args.closing (take i cs) + n) value ∙ sym (more amount c.args.closing cs i x below)) in
    (sum, grows c.loop-i.sum c.interest_in-sum.result (part amount c.args.closing (get_or cs i x)) i c.loop-i.invariant.1 value small)
