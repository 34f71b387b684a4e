use Rattle.std.proofs.Common.{◌≡◌, ◌+◌, ◌-◌, ◌<◌, List, ◌++◌, length, map, take, get_or, ap, ◌∙◌, subst, arith}
use Rattle.std.specs.Prelude.{is_some}
use Rattle.std.specs.List.{filter}
use Rattle.std.proofs.lemmas.List.{take_all}
use Rattle.std.proofs.lemmas.List.Elements.{Contains-get_or}
use Rattle.card_model.specs.Rates.{accrual_rate}
use Rattle.card_model.specs.Segments.{SegmentTerms}
use Rattle.card_daily.proofs.Standing.{begins-with}
use Rattle.card_dayend.proofs.Each.{no_segment, number-at}
use Rattle.card_book.specs.Marks.{accruing_of, accruing_on}
use Rattle.card_book.proofs.Marking.{begins-still, kept-next}
use Rattle.card_book.proofs.marks.push_accruing.Goals as goal

pub loop-id-preserved : goal.loop-id-preserved
loop-id-preserved c =
    let state = c.args.state.now in
    let ts = state.rates.segments in
    let accruals = state.accruals.items in
    let i = c.loop-id.id - 2 in
    let all = c.len-id-end.ensures in
    let here = c.loop-id-test.true in
    let from = c.loop-id.auto.id in
    let within : i < length ts = omega (arith, here, from, all.segments, all.balances, c.requires.rated) in
    let number : (get_or ts i no_segment).id ≡ c.loop-id.id = omega (arith, number-at 2 ts i no_segment c.requires.numbered within, from) in
    let next : i + 1 ≡ c.loop-id.id + 1 - 2 = omega (arith, from) in
    let room = c.loop-id.invariant.capacity in
    let more = c.in_ok-push_if_any.ensures.capacity in
    record {
      items = subst (λ n. c.push_if_any.new.list.items ≡ c.args.list.now.items ++ map (accruing_of c.args.cycle accruals) (filter (λ t. is_some (accrual_rate c.args.day t)) (take n ts))) next
          (kept-next c.args.cycle c.args.day accruals ts i no_segment c.args.list.now.items c.loop-id.list.items c.push_if_any.new.list.items c.deferred_at.result within c.loop-id.invariant.items
          (c.deferred_at.ensures (get_or ts i no_segment) (Contains-get_or ts i no_segment within) number) c.in_ok-push_if_any.ensures.items);
      capacity = omega (arith, room, more);
    }

pub returns-in_err-push_if_any-clause-begins : goal.returns-in_err-push_if_any-clause-begins
returns-in_err-push_if_any-clause-begins c =
    begins-still c.args.list.now.items _ c.loop-id.list.items c.push_if_any.new.list.items c.loop-id.invariant.items c.push_if_any.ensures.begins

pub returns-clause-items : goal.returns-clause-items
unfolding accruing_on
returns-clause-items c =
    let state = c.args.state.now in
    let ts = state.rates.segments in
    let all = c.len-id-end.ensures in
    let end = c.loop-id-test.false in
    c.loop-id.invariant.items
    ∙ ap (λ (l : List SegmentTerms). c.args.list.now.items ++ map (accruing_of c.args.cycle state.accruals.items) (filter (λ t. is_some (accrual_rate c.args.day t)) l))
    (take_all (c.loop-id.id - 2) ts (omega (arith, end, all.segments, all.balances, c.requires.rated)))

pub returns-clause-begins : goal.returns-clause-begins
returns-clause-begins c = begins-with c.args.list.now.items c.loop-id.list.items _ c.loop-id.invariant.items
