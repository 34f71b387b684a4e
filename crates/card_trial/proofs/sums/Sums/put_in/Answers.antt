use Rattle.std.proofs.Common.{◌≡◌, ◌+◌, ◌*◌, ◌^◌, ◌≤◌, cond, drop, take, get_or, ap, sym, subst, ◌∙◌, arith}
use Rattle.std.proofs.lemmas.List.{drop_all, take_all, take_more}
use Rattle.std.proofs.lemmas.List.Elements.{All-push}
use Rattle.std.specs.List.{All}
use Rattle.card_model.specs.declared.entry.Entry.{Entry}
use Rattle.card_trial.specs.Sums.{amount_of, cell, is_at, size, sum_on, whole}
use Rattle.card_trial.proofs.Entered.{on, size-drop, size-none, sum_on-drop, sum_on-none}
use Rattle.card_trial.specs.declared.side.Side.{Side}
use Rattle.card_trial.proofs.sums.Sums.put_in.Goals as goal

abbrev IsSmall : Side → Entry → Type 0
IsSmall s e = amount_of s e ≤ 2 ^ 63

pub add-requires : goal.add-requires
add-requires c =
    let es = c.args.entries.now in
    let i = c.loop-i.i in
    let e = c.index-entries-i.result in
    let rest : whole c.loop-i.self + size c.args.side (drop i es) ≡ whole c.args.self.now + size c.args.side es = c.loop-i.invariant.rest in
    let here : size c.args.side (drop i es) ≡ amount_of c.args.side e + size c.args.side (drop (i + 1) es) = size-drop c.args.side es i e c.loop-i-test.true c.index-entries-i.is in
    let value : c.amount_of.result ≡ amount_of c.args.side e = c.amount_of.ensures.value in
    let small : size c.args.side es ≤ size c.args.side (drop i es) + i * 2 ^ 63 = c.loop-i.invariant.most in
    let bound : c.amount_of.result ≤ 2 ^ 63 = c.amount_of.ensures.bound in
    let room = c.requires.room in
    record { room = omega arith }

pub loop-i-preserved : goal.loop-i-preserved
loop-i-preserved c =
    let es = c.args.entries.now in
    let i = c.loop-i.i in
    let e = c.index-entries-i.result in
    let rest : whole c.loop-i.self + size c.args.side (drop i es) ≡ whole c.args.self.now + size c.args.side es = c.loop-i.invariant.rest in
    let here : size c.args.side (drop i es) ≡ amount_of c.args.side e + size c.args.side (drop (i + 1) es) = size-drop c.args.side es i e c.loop-i-test.true c.index-entries-i.is in
    let value : c.amount_of.result ≡ amount_of c.args.side e = c.amount_of.ensures.value in
    let small : size c.args.side es ≤ size c.args.side (drop i es) + i * 2 ^ 63 = c.loop-i.invariant.most in
    let bound : c.amount_of.result ≤ 2 ^ 63 = c.amount_of.ensures.bound in
    let sum : whole c.add.new.self ≡ whole c.loop-i.self + c.amount_of.result = c.add.ensures.sum in
    record {
      cells = λ x k low high.
          let kept : cell x k c.loop-i.self + sum_on c.args.side x k (drop i es) ≡ cell x k c.args.self.now + sum_on c.args.side x k es = c.loop-i.invariant.cells x k low high in
          let there : sum_on c.args.side x k (drop i es) ≡ on c.args.side x k e + sum_on c.args.side x k (drop (i + 1) es) = sum_on-drop c.args.side x k es i e c.loop-i-test.true c.index-entries-i.is in
          let more : cell x k c.add.new.self ≡ cell x k c.loop-i.self + cond (is_at e.day e.kind x k) c.amount_of.result 0 = c.add.ensures.cells x k low high in
          let same : cond (is_at e.day e.kind x k) c.amount_of.result 0 ≡ on c.args.side x k e = ap (λ n. cond (is_at e.day e.kind x k) n 0) value in
          omega arith;
      rest = omega arith;
      most = omega arith;
      small = subst (All (IsSmall c.args.side)) (sym (take_more es i e c.loop-i-test.true))
          (All-push (IsSmall c.args.side) (take i es) (get_or es i e) c.loop-i.invariant.small (subst (IsSmall c.args.side) c.index-entries-i.is (omega arith)));
    }

pub returns-clause-cells : goal.returns-clause-cells
returns-clause-cells c = λ x k low high.
    let end : sum_on c.args.side x k (drop c.loop-i.i c.args.entries.now) ≡ 0 = ap (sum_on c.args.side x k) (drop_all c.loop-i.i c.args.entries.now c.loop-i-test.false) ∙ sum_on-none c.args.side x k in
    let kept : cell x k c.loop-i.self + sum_on c.args.side x k (drop c.loop-i.i c.args.entries.now) ≡ cell x k c.args.self.now + sum_on c.args.side x k c.args.entries.now = c.loop-i.invariant.cells x k low high in
    omega arith

pub returns-clause-sum : goal.returns-clause-sum
returns-clause-sum c =
    let end : size c.args.side (drop c.loop-i.i c.args.entries.now) ≡ 0 = ap (size c.args.side) (drop_all c.loop-i.i c.args.entries.now c.loop-i-test.false) ∙ size-none c.args.side in
    let rest : whole c.loop-i.self + size c.args.side (drop c.loop-i.i c.args.entries.now) ≡ whole c.args.self.now + size c.args.side c.args.entries.now = c.loop-i.invariant.rest in
    omega arith

pub returns-clause-small : goal.returns-clause-small
returns-clause-small c = subst (All (IsSmall c.args.side)) (take_all c.loop-i.i c.args.entries.now c.loop-i-test.false) c.loop-i.invariant.small
