use Rattle.std.proofs.Common.{refl, ◌≡◌, ◌-◌, length, drop, cond, ltb, sym, ap, ◌∙◌, arith, get_or}
use Rattle.std.specs.Prelude.{option_copied}
use Rattle.std.proofs.lemmas.List.{take_all}
use Rattle.card_model.specs.Entries.{owing}
use Rattle.card_closing.specs.Interest.{accrual_charge, accruals_turn, amounts_of, note_on}
use Rattle.card_closing.specs.Turns.{Turn, asked_where_owed, charged, in_turn}
use Rattle.card_closing.proofs.Loops.{amount-at, no_segment, turn-all, turn-next}
use Rattle.card_closing.proofs.Steps.{begins-trans}
use Rattle.card_closing.proofs.interest.charge_accruals.Goals as goal

pub loop-id-init : goal.loop-id-init
unfolding in_turn
loop-id-init c = record { turn = refl; step = c.requires.step; segments = refl; balances = refl; begins = take_all (length c.args.out.now.items) c.args.out.now.items (omega arith); capacity = omega arith }

pub loop-id-preserved : goal.loop-id-preserved
loop-id-preserved c =
    let segments = c.args.segments.now.segments in
    let accruals = c.args.accruals.now in
    let id = c.loop-id.id in
    let charge = accrual_charge c.args.closing.now.closing in
    let r = c.index-accruals-id.result in
    let x = c.accrued_where_owed-asked.result in
    let u : Turn = record { amounts = c.loop-id.done; entries = c.loop-id.out.items } in
    let all = c.len-id-end.ensures in
    let here = c.loop-id-test.true in
    let from = c.loop-id.auto.id in
    let owed = ltb 0 (owing id u.entries) in
    let same : asked_where_owed (amounts_of charge (drop 2 segments) accruals) u.entries id ≡ x =
    ap (λ n. cond owed n 0) (amount-at charge segments accruals id no_segment r from (omega (arith, here, all.segments)) (omega (arith, c.requires.accruals, all.segments, all.balances)))
    ∙ (ap (λ gs. cond owed (charge (get_or gs id no_segment) (get_or accruals (id - 2) r)) 0) (sym c.loop-id.invariant.segments)
    ∙ (ap (λ k. cond owed (charge (get_or c.loop-id.segments.segments id no_segment) k) 0) (sym c.index-accruals-id.is)
    ∙ sym (c.accrued_where_owed-asked.ensures u.entries c.loop-id.invariant.step no_segment))) in
    record {
      turn =
          turn-next (option_copied c.args.issued) (note_on c.args.closing.now.closing) (asked_where_owed (amounts_of charge (drop 2 segments) accruals)) id x _ u _ from c.loop-id.invariant.turn same
          (c.in_ok-charge.ensures.turn ∙ ap (λ n. charged (option_copied c.args.issued) n id x u) c.note_on-note.ensures);
      step = c.in_ok-charge.ensures.kept.step;
      segments = c.in_ok-charge.ensures.kept.segments ∙ c.loop-id.invariant.segments;
      balances = c.in_ok-charge.ensures.kept.balances ∙ c.loop-id.invariant.balances;
      begins = begins-trans c.args.out.now.items c.loop-id.out.items c.charge.new.out.items c.loop-id.invariant.begins c.in_ok-charge.ensures.begins;
      capacity = omega (arith, c.loop-id.invariant.capacity, c.charge.ensures.capacity);
    }

pub returns-clause-turn : goal.returns-clause-turn
unfolding accruals_turn
returns-clause-turn c =
    let all = c.len-id-end.ensures in
    let end = c.loop-id-test.false in
    let within = c.loop-id.auto.id-end in
    turn-all (option_copied c.args.issued) (note_on c.args.closing.now.closing) _ c.args.segments.now.segments c.loop-id.id _ (record { amounts = c.loop-id.done; entries = c.loop-id.out.items })
    (omega (arith, end, all.segments)) (omega (arith, within, all.five, all.segments)) c.loop-id.invariant.turn
