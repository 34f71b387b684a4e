use Rattle.std.proofs.Common.{◌≡◌, ◌+◌, ◌-◌, ◌<◌, ◌++◌, take, drop, length, get_or, set, sym, ap, ◌∙◌, subst, arith, pos}
use Rattle.std.proofs.lemmas.List.Elements.{Contains-get_or}
use Rattle.card_closing.specs.Rows.{Rows}
use Rattle.card_model.specs.Entries.{at_least_zero}
use Rattle.card_model.specs.Segments.{SegmentTerms}
use Rattle.card_dayend.specs.Rows.{owed_on, with_row, with_rows}
use Rattle.card_dayend.proofs.Each.{each-done, each-step, no_segment, number-at, segment-count}
use Rattle.card_dayend.proofs.rows.add_rows.Goals as goal

pub loop-id-preserved : goal.loop-id-preserved
loop-id-preserved c =
    let i = c.loop-id.id - 2 in
    let rates = c.args.rates.now in
    let balances = c.args.segments.now.balances in
    let ts = rates.segments in
    let t = get_or ts i no_segment in
    let old = c.args.rows.now.items in
    let change : SegmentTerms → Rows → Rows = λ t r. with_row c.args.index.now c.args.days rates c.args.day t (owed_on balances t) r in
    let count = segment-count c.args.segments.now.segments rates c.requires.rated (omega (arith, c.len-id-end.ensures.five, c.len-id-end.ensures.segments)) in
    let within : i < length ts = omega (arith, count, c.loop-id-test.true, c.len-id-end.ensures.segments, c.loop-id.invariant.begun) in
    let here : i < length old = omega (arith, within, c.requires.equal) in
    let number : t.id ≡ c.loop-id.id = omega (arith, number-at 2 ts i no_segment c.requires.rated.numbers within, c.loop-id.invariant.begun) in
    let added = c.in_ok-add_row.ensures t (Contains-get_or ts i no_segment within) number in
    let owed : c.owed_on-owed.result ≡ owed_on balances t = c.owed_on-owed.ensures.value ∙ ap (λ n. at_least_zero (get_or balances n (pos 0))) (sym number) in
    let made : c.add_row.new.rows ≡ change t c.index_mut.result.now = added ∙ ap (λ n. with_row c.args.index.now c.args.days rates c.args.day t n c.index_mut.result.now) owed in
    let next : i + 1 ≡ c.loop-id.id + 1 - 2 = omega (arith, c.loop-id.invariant.begun) in
    record {
      begun = omega (arith, c.loop-id.invariant.begun);
      rows = subst (λ n. set c.loop-id.rows.items i c.add_row.new.rows ≡ take n (with_rows c.args.index.now c.args.days rates balances c.args.day old) ++ drop n old) next
          (each-step change ts old c.loop-id.rows.items i no_segment c.index_mut.result.now c.add_row.new.rows here c.requires.equal c.loop-id.invariant.rows c.index_mut.ensures.value made);
    }

pub returns : goal.returns
returns c =
    let rates = c.args.rates.now in
    let balances = c.args.segments.now.balances in
    let change : SegmentTerms → Rows → Rows = λ t r. with_row c.args.index.now c.args.days rates c.args.day t (owed_on balances t) r in
    let count = segment-count c.args.segments.now.segments rates c.requires.rated (omega (arith, c.len-id-end.ensures.five, c.len-id-end.ensures.segments)) in
    each-done change rates.segments c.args.rows.now.items c.loop-id.rows.items (c.loop-id.id - 2)
    (omega (arith, count, c.loop-id-test.false, c.len-id-end.ensures.segments, c.requires.equal)) c.loop-id.invariant.rows
