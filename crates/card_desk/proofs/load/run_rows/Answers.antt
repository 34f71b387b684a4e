use Rattle.std.proofs.Common.{◌≡◌, ◌<◌, ℕ, ◌+◌, List, [], length, get_or, refl, arith, subst, sym, ap, ◌∙◌}
use Rattle.std.proofs.lemmas.List.{get_or_default}
use Rattle.card_ports.specs.declared.row.Row.{Row}
use Rattle.card_ports.specs.Flat.{row_at}
use Rattle.card_model.specs.Machine.{State}
use Rattle.card_desk.specs.Kept.{IsRunOf, AreDamaged}
use Rattle.card_desk.proofs.RowLemmas.{told_number, at_place}
use Rattle.card_desk.proofs.SoundLemmas.{run_none, run_next, damaged}
use Rattle.card_desk.proofs.load.run_rows.Goals as goal

row_is : (rows : List Row) (i seq : ℕ) (body : List ℕ) → i < length rows → seq ≡ (row_at rows i).seq → body ≡ (row_at rows i).body → row_at rows i ≡ record { seq = seq; body = body }
row_is rows i seq body low s b = ap (λ (n : ℕ). the_row n (row_at rows i).body) (sym s) ∙ ap (λ (l : List ℕ). the_row seq l) (sym b)
  where
    the_row : ℕ → List ℕ → Row
    the_row n l = record { seq = n; body = l }

itself : (rows : List Row) (i : ℕ) (row : Row) → i < length rows → row_at rows i ≡ row → row ≡ get_or rows i row
itself rows i row low is = sym is ∙ get_or_default rows i (record { seq = 0; body = [] }) row low

pub loop-i-init : goal.loop-i-init
loop-i-init g c = subst (λ (s : State). IsRunOf [] s) (sym c.new-desk.ensures.state) run_none

pub returns-then-not-branch-clause-damaged : goal.returns-then-not-branch-clause-damaged
returns-then-not-branch-clause-damaged g c = λ n is.
    let rows = c.args.rows.now in
    let i = c.loop-i.i in
    let low : i < length rows = omega (arith, c.loop-i-test.true, c.len-i-end.ensures) in
    let row : Row = record { seq = c.seq.result; body = c.body.result.now } in
    let there = at_place rows i row low (itself rows i row low (row_is rows i c.seq.result c.body.result.now low c.seq.ensures c.body.ensures)) in
    subst (λ (m : ℕ). AreDamaged rows m) (told_number _ (i + 1) n refl is) (damaged rows c.loop-i.desk.state i (i + 1) row low refl c.loop-i.invariant there (c.in_ok-run_row.ensures.bad c.if-not-branch.true))

pub loop-i-preserved : goal.loop-i-preserved
loop-i-preserved g c =
    let rows = c.args.rows.now in
    let i = c.loop-i.i in
    let low : i < length rows = omega (arith, c.loop-i-test.true, c.len-i-end.ensures) in
    let row : Row = record { seq = c.seq.result; body = c.body.result.now } in
    let is = itself rows i row low (row_is rows i c.seq.result c.body.result.now low c.seq.ensures c.body.ensures) in
    run_next rows i (i + 1) c.loop-i.desk.state c.run_row.new.desk.state row low is refl c.loop-i.invariant (c.in_ok-run_row.ensures.new c.if-not-branch.false)
