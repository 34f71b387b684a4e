use Rattle.std.proofs.Common.{◌-◌, ◌++◌, length, pos, replicate, ap, sym, ◌∙◌}
use Rattle.card_book.proofs.StateParts.{balances-over}
use Rattle.card_book.proofs.earlier.segments_with.Goals as goal

-- `segments_of` says which segments there are, under any holidays; `take_balances` keeps them
pub returns-clause-balances : goal.returns-clause-balances
returns-clause-balances c =
    let first = c.args.balances.now.balances in
    let made = c.in_ok-segments.ensures in
    balances-over (length c.in_ok-segments.segments.segments) first _ _ made.unused c.take_balances.ensures.balances
    ∙ ap (λ n. first ++ replicate (n - length first) (pos 0)) (ap length (sym c.take_balances.ensures.segments))
