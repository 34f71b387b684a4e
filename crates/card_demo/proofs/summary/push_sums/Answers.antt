use Rattle.std.proofs.Common.{FitsSigned, rules}
use Rattle.std.proofs.lemmas.Int.{to_z-of_z}
use Rattle.card_demo.specs.Summary.{sum_lines}
use Rattle.card_demo.proofs.summary.push_sums.Goals as goal
use mathlib.Core.List.{append_assoc}
use mir.Syntax.{w128}

pub returns : goal.returns
unfolding sum_lines
returns c =
    let t = c.args.totals.now in
    let a : FitsSigned w128 t.owed = search rules in
    let b : FitsSigned w128 t.interest = search rules in
    let d : FitsSigned w128 t.fees = search rules in
    let owed = simp to_z-of_z at c.in_ok-push_amount.ensures in
    let interest = simp to_z-of_z at c.in_ok-push_amount-2.ensures in
    let fees = simp to_z-of_z at c.push_amount-3.ensures in
    search (rules, append_assoc, owed, interest, fees)
