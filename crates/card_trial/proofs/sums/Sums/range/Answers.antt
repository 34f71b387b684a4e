use Rattle.std.proofs.Common.{◌≡◌, ◌+◌, ◌-◌, ◌<◌, ◌≤◌, take, drop, length, ap, sym, ◌∙◌, arith, subst}
use Rattle.std.proofs.lemmas.Bool.Decides.{nat_tests}
use Rattle.card_trial.specs.Sums.{AreSums, all_between, place, whole}
use Rattle.card_trial.proofs.Cells.{whole-parts}
use Rattle.card_trial.proofs.Ranges.{between-is, none-between, sums-between}
use Rattle.card_trial.proofs.sums.Sums.range.Goals as goal

pub sum_of-requires : goal.sum_of-requires
sum_of-requires c =
    let xs = c.deref.result.now in
    let low = c.place-low.result in
    let n = c.place-high.result + 1 - low in
    let front : whole (take n (drop low xs)) + whole (drop n (drop low xs)) ≡ whole (drop low xs) = whole-parts (drop low xs) n in
    let back : whole (take low xs) + whole (drop low xs) ≡ whole xs = whole-parts xs low in
    let same : whole xs ≡ whole c.self.inside.cells.items = ap whole c.deref.ensures.value in
    let small = c.self.invariant.1 in
    omega arith

pub returns-clause-value : goal.returns-clause-value
returns-clause-value c side lists a =
    let xs = c.deref.result.now in
    let from = c.args.from in
    let to = c.args.to in
    let n = to + 1 - from in
    let view : xs ≡ c.args.self.now = c.deref.ensures.value ∙ c.self.view_is in
    let sums : AreSums side lists xs = subst (AreSums side lists) (sym view) a in
    let later = c.if-lt.false in
    let means = c.lt.ensures in
    let ordered : from ≤ to = grind (arith, nat_tests, later, means) in
    let range : whole (take n (drop (place from c.args.kind) xs)) ≡ all_between side from to c.args.kind lists =
    sums-between side from n c.args.kind lists xs sums (ap length c.deref.ensures.value ∙ c.self.invariant.0) c.place-low.ensures.first (omega (arith, c.place-high.ensures.last)) ∙ between-is side from to c.args.kind lists ordered in
    let days : c.place-high.result + 1 - c.place-low.result ≡ n = omega (arith, c.place-low.ensures.first) in
    c.sum_of.ensures.value ∙ (ap (λ k. whole (take k (drop c.place-low.result xs))) days ∙ (ap (λ k. whole (take n (drop k xs))) c.place-low.ensures.value ∙ range))

pub returns-clause-most : goal.returns-clause-most
returns-clause-most c =
    let xs = c.deref.result.now in
    let low = c.place-low.result in
    let n = c.place-high.result + 1 - low in
    let front : whole (take n (drop low xs)) + whole (drop n (drop low xs)) ≡ whole (drop low xs) = whole-parts (drop low xs) n in
    let back : whole (take low xs) + whole (drop low xs) ≡ whole xs = whole-parts xs low in
    let same : whole xs ≡ whole c.args.self.now = ap whole (c.deref.ensures.value ∙ c.self.view_is) in
    let value = c.sum_of.ensures.value in
    omega arith

pub returns-then-lt-clause-value : goal.returns-then-lt-clause-value
returns-then-lt-clause-value c side lists a =
    let less = c.if-lt.true in
    let means = c.lt.ensures in
    let before : c.args.to < c.args.from = grind (arith, nat_tests, less, means) in
    sym (none-between side c.args.from c.args.to c.args.kind lists before)
