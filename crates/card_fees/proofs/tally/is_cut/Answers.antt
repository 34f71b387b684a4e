use Rattle.std.proofs.Common.{sym, ◌∙◌, ◌-◌, arith}
use Rattle.card_fees.proofs.Tallied.{back-at, cut-drop, front-at, not-true}
use Rattle.card_fees.proofs.tally.is_cut.Goals as goal

pub returns-then-place-slots-clause-rest : goal.returns-then-place-slots-clause-rest
returns-then-place-slots-clause-rest c day number e u =
    let slots = c.args.slots.now in
    cut-drop day number slots c.args.place c.requires
    (λ k d l m. front-at c.args.until.now day number slots (c.args.place - 1) c.index-slots-place.result c.requires u (omega (arith, l, c.if-slots-place.false)) c.index-slots-place.is (sym c.reaches.ensures ∙ c.if-not-reaches.false) k d (omega (arith, l)))
    (λ k d l m. let all = c.if-place-slots.true in absurd (omega (arith, l, m, all)))

pub returns-else-place-slots-clause-rest : goal.returns-else-place-slots-clause-rest
returns-else-place-slots-clause-rest c day number e u =
    let slots = c.args.slots.now in
    cut-drop day number slots c.args.place c.requires
    (λ k d l m. front-at c.args.until.now day number slots (c.args.place - 1) c.index-slots-place.result c.requires u (omega (arith, l, c.if-slots-place.false)) c.index-slots-place.is (sym c.reaches.ensures ∙ c.if-not-reaches.false) k d (omega (arith, l)))
    (λ k d l m. back-at c.args.until.now day number slots c.args.place c.index-slots-place-else-place-slots.result c.requires u c.index-slots-place-else-place-slots.is (sym c.reaches-else-place-slots.ensures ∙ not-true c.reaches-else-place-slots.result e) k d l m)
