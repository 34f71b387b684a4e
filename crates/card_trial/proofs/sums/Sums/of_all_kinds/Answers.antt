use Rattle.std.proofs.Common.{◌≡◌, ◌+◌, ℕ, take, get_or, ap, ◌∙◌, arith}
use Rattle.std.specs.List.{sum_by}
use Rattle.std.proofs.lemmas.List.{take_all}
use Rattle.std.proofs.lemmas.List.Sums.{sum_by_more}
use Rattle.card_model.specs.declared.entry.EntryKind.{EntryKind}
use Rattle.card_model.specs.declared.entry.EntryKind.TheVariants as kind
use Rattle.card_trial.specs.Sums.{all_between, of_all_kinds}
use Rattle.card_trial.proofs.sums.Sums.of_all_kinds.Goals as goal

pub overflow_add-sum : goal.overflow_add-sum
overflow_add-sum c = omega (arith, c.loop-i.invariant.most, c.range-sum.ensures.most, c.requires, c.loop-i-test.true, c.kinds-kinds.ensures.count)

pub loop-i-preserved : goal.loop-i-preserved
loop-i-preserved c =
    let ks = c.kinds-kinds.result.now in
    let i = c.loop-i.i in
    record {
      sums = λ side lists a.
          let f : EntryKind → ℕ = λ j. all_between side c.args.from c.args.to j lists in
          let more : sum_by f (take (i + 1) ks) ≡ sum_by f (take i ks) + f (get_or ks i kind.Charge) = sum_by_more f ks i kind.Charge c.loop-i-test.true in
          let value : c.range-sum.result ≡ f (get_or ks i kind.Charge) = c.range-sum.ensures.value side lists a in
          let kept : c.loop-i.sum ≡ sum_by f (take i ks) = c.loop-i.invariant.sums side lists a in
          omega arith;
      most = omega (arith, c.loop-i.invariant.most, c.range-sum.ensures.most, c.requires);
    }

pub returns-clause-value : goal.returns-clause-value
unfolding of_all_kinds
returns-clause-value c side lists a =
    let ks = c.kinds-kinds.result.now in
    c.loop-i.invariant.sums side lists a ∙ ap (sum_by (λ (j : EntryKind). all_between side c.args.from c.args.to j lists)) (take_all c.loop-i.i ks c.loop-i-test.false ∙ c.kinds-kinds.ensures.value)
