use Rattle.std.proofs.Common.{refl, ◌≡◌, ◌-◌, length, drop, sym, ap, ◌∙◌, arith, get_or}
use Rattle.std.specs.Prelude.{option_copied}
use Rattle.std.proofs.lemmas.List.{take_all}
use Rattle.card_closing.specs.Interest.{amounts_of, cycle_charge, interest_turn, note_on}
use Rattle.card_closing.specs.Turns.{Turn, asked_of, charged, in_turn}
use Rattle.card_closing.proofs.Loops.{amount-at, turn-all, turn-next}
use Rattle.card_closing.proofs.Steps.{begins-trans}
use Rattle.card_closing.proofs.interest.charge_interest.Goals as goal

pub loop-id-init : goal.loop-id-init
unfolding in_turn
loop-id-init c = record { turn = refl; step = c.requires.step; segments = refl; balances = refl; begins = take_all (length c.args.out.now.items) c.args.out.now.items (omega arith); capacity = omega arith }

pub loop-id-preserved : goal.loop-id-preserved
loop-id-preserved c =
    let segments = c.args.segments.now.segments in
    let rows = c.args.rows.now in
    let id = c.loop-id.id in
    let charge = cycle_charge c.args.closing.now.purchase c.args.closing.now.closing in
    let g = c.get.result.now in
    let r = c.index-rows-id.result in
    let x = c.interest_of-asked.result in
    let u : Turn = record { amounts = c.loop-id.done; entries = c.loop-id.out.items } in
    let all = c.len-id-end.ensures in
    let here = c.loop-id-test.true in
    let from = c.loop-id.auto.id in
    let known : g ≡ get_or segments id g = c.get.ensures g ∙ ap (λ gs. get_or gs id g) c.loop-id.invariant.segments in
    let same : asked_of (amounts_of charge (drop 2 segments) rows) u.entries id ≡ x =
    amount-at charge segments rows id g r from (omega (arith, here, all.segments)) (omega (arith, c.requires.rows, all.segments, all.balances))
    ∙ (ap (λ k. charge k (get_or rows (id - 2) r)) (sym known) ∙ (ap (λ k. charge g k) (sym c.index-rows-id.is) ∙ sym c.interest_of-asked.ensures)) in
    record {
      turn =
          turn-next (option_copied c.args.issued) (note_on c.args.closing.now.closing) (asked_of (amounts_of charge (drop 2 segments) rows)) id x _ u _ from c.loop-id.invariant.turn same
          (c.in_ok-charge.ensures.turn ∙ ap (λ n. charged (option_copied c.args.issued) n id x u) c.note_on-note.ensures);
      step = c.in_ok-charge.ensures.kept.step;
      segments = c.in_ok-charge.ensures.kept.segments ∙ c.loop-id.invariant.segments;
      balances = c.in_ok-charge.ensures.kept.balances ∙ c.loop-id.invariant.balances;
      begins = begins-trans c.args.out.now.items c.loop-id.out.items c.charge.new.out.items c.loop-id.invariant.begins c.in_ok-charge.ensures.begins;
      capacity = omega (arith, c.loop-id.invariant.capacity, c.charge.ensures.capacity);
    }

pub returns-clause-turn : goal.returns-clause-turn
unfolding interest_turn
returns-clause-turn c =
    let all = c.len-id-end.ensures in
    let end = c.loop-id-test.false in
    let within = c.loop-id.auto.id-end in
    turn-all (option_copied c.args.issued) (note_on c.args.closing.now.closing) _ c.args.segments.now.segments c.loop-id.id _ (record { amounts = c.loop-id.done; entries = c.loop-id.out.items })
    (omega (arith, end, all.segments)) (omega (arith, within, all.five, all.segments)) c.loop-id.invariant.turn
