use Rattle.std.proofs.Common.{◌∙◌}
use Rattle.card_commands.proofs.DamagedLemmas.{damaged_word, damaged_digits, damaged_part, damaged_whole}
use Rattle.card_commands.proofs.load.write_damaged.Goals as goal

pub returns-in_err-write_all-clause-err : goal.returns-in_err-write_all-clause-err
returns-in_err-write_all-clause-err g c = damaged_word c.from_residual.result _ _ c.args.number _ c.from_residual.ensures.1 c.in_err-write_all.ensures.err

pub returns-in_err-write_all-2-clause-err : goal.returns-in_err-write_all-2-clause-err
returns-in_err-write_all-2-clause-err g c =
    let digits = c.as_bytes.ensures.value ∙ c.format-digits.ensures.text in
    damaged_digits c.from_residual-in_err-write_all-2.result _ _ _ c.args.number _ _ c.from_residual-in_err-write_all-2.ensures.1 digits c.in_ok-write_all.ensures.ok c.in_err-write_all-2.ensures.err

pub returns-clause-ok : goal.returns-clause-ok
returns-clause-ok g c =
    let digits = c.as_bytes.ensures.value ∙ c.format-digits.ensures.text in
    damaged_whole c.write_all-3.result _ _ _ _ c.args.number _ digits c.in_ok-write_all.ensures.ok c.in_ok-write_all-2.ensures.ok c.write_all-3.ensures.ok

pub returns-clause-err : goal.returns-clause-err
returns-clause-err g c =
    let digits = c.as_bytes.ensures.value ∙ c.format-digits.ensures.text in
    damaged_part c.write_all-3.result _ _ _ _ c.args.number _ digits c.in_ok-write_all.ensures.ok c.in_ok-write_all-2.ensures.ok c.write_all-3.ensures.err
