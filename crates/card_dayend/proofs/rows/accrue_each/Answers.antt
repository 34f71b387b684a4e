use Rattle.std.proofs.Common.{◌≡◌, ◌+◌, ◌-◌, ◌<◌, ◌≤◌, ◌++◌, take, drop, length, get_or, set, sym, ap, ◌∙◌, subst, arith, pos}
use Rattle.std.proofs.lemmas.List.Elements.{Contains-get_or}
use Rattle.card_closing.specs.Accruals.{Accrued}
use Rattle.card_model.specs.Entries.{at_least_zero}
use Rattle.card_model.specs.Rates.{accrual_rate}
use Rattle.card_model.specs.Segments.{SegmentTerms}
use Rattle.card_dayend.specs.Rows.{owed_on, with_accrual_at, with_accruals}
use Rattle.card_dayend.proofs.Each.{each-done, each-step, each-there, no_segment, number-at, segment-count}
use Rattle.card_dayend.proofs.rows.accrue_each.Goals as goal

pub accrue-requires-clause-few : goal.accrue-requires-clause-few
accrue-requires-clause-few c =
    let i = c.loop-id.id - 2 in
    let rates = c.args.rates.now in
    let ts = rates.segments in
    let old = c.args.accruals.now.items in
    let change : SegmentTerms → Accrued → Accrued = λ t x. with_accrual_at c.args.days (accrual_rate c.args.day t) (owed_on c.args.segments.now.balances t) x in
    let count = segment-count c.args.segments.now.segments rates c.requires.rated (omega (arith, c.len-id-end.ensures.five, c.len-id-end.ensures.segments)) in
    let within : i < length ts = omega (arith, count, c.loop-id-test.true, c.len-id-end.ensures.segments, c.loop-id.invariant.begun) in
    let here : i < length old = omega (arith, within, c.requires.equal) in
    let x = c.index_mut.result.now in
    let there : x ≡ get_or old i x = c.index_mut.ensures.value ∙ each-there change ts old c.loop-id.accruals.items i x here c.loop-id.invariant.accruals in
    subst (λ (a : Accrued). a.days + c.args.days ≤ 40000) (sym there) (c.requires.few i x here)

pub loop-id-preserved : goal.loop-id-preserved
loop-id-preserved c =
    let i = c.loop-id.id - 2 in
    let rates = c.args.rates.now in
    let balances = c.args.segments.now.balances in
    let day = c.args.day in
    let ts = rates.segments in
    let t = get_or ts i no_segment in
    let old = c.args.accruals.now.items in
    let change : SegmentTerms → Accrued → Accrued = λ t x. with_accrual_at c.args.days (accrual_rate day t) (owed_on balances t) x in
    let count = segment-count c.args.segments.now.segments rates c.requires.rated (omega (arith, c.len-id-end.ensures.five, c.len-id-end.ensures.segments)) in
    let within : i < length ts = omega (arith, count, c.loop-id-test.true, c.len-id-end.ensures.segments, c.loop-id.invariant.begun) in
    let here : i < length old = omega (arith, within, c.requires.equal) in
    let number : t.id ≡ c.loop-id.id = omega (arith, number-at 2 ts i no_segment c.requires.rated.numbers within, c.loop-id.invariant.begun) in
    let x = c.index_mut.result.now in
    let rate = c.accrual_on-rate.ensures.rate t (Contains-get_or ts i no_segment within) number in
    let owed : c.owed_on-owed.result ≡ owed_on balances t = c.owed_on-owed.ensures.value ∙ ap (λ n. at_least_zero (get_or balances n (pos 0))) (sym number) in
    let made : c.accrue.new.accrual ≡ change t x = c.accrue.ensures ∙ (ap (λ r. with_accrual_at c.args.days r c.owed_on-owed.result x) rate ∙ ap (λ n. with_accrual_at c.args.days (accrual_rate day t) n x) owed) in
    let next : i + 1 ≡ c.loop-id.id + 1 - 2 = omega (arith, c.loop-id.invariant.begun) in
    record {
      begun = omega (arith, c.loop-id.invariant.begun);
      accruals = subst (λ n. set c.loop-id.accruals.items i c.accrue.new.accrual ≡ take n (with_accruals c.args.days rates balances day old) ++ drop n old) next
          (each-step change ts old c.loop-id.accruals.items i no_segment x c.accrue.new.accrual here c.requires.equal c.loop-id.invariant.accruals c.index_mut.ensures.value made);
    }

pub returns-clause-accruals : goal.returns-clause-accruals
returns-clause-accruals c =
    let rates = c.args.rates.now in
    let balances = c.args.segments.now.balances in
    let day = c.args.day in
    let change : SegmentTerms → Accrued → Accrued = λ t x. with_accrual_at c.args.days (accrual_rate day t) (owed_on balances t) x in
    let count = segment-count c.args.segments.now.segments rates c.requires.rated (omega (arith, c.len-id-end.ensures.five, c.len-id-end.ensures.segments)) in
    each-done change rates.segments c.args.accruals.now.items c.loop-id.accruals.items (c.loop-id.id - 2)
    (omega (arith, count, c.loop-id-test.false, c.len-id-end.ensures.segments, c.requires.equal)) c.loop-id.invariant.accruals

pub returns-clause-balances : goal.returns-clause-balances
returns-clause-balances c =
    let count = segment-count c.args.segments.now.segments c.args.rates.now c.requires.rated (omega (arith, c.len-id-end.ensures.five, c.len-id-end.ensures.segments)) in
    omega (arith, count, c.len-id-end.ensures.segments, c.len-id-end.ensures.balances)
