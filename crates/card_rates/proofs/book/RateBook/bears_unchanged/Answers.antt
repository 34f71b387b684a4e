use Rattle.std.proofs.Common.{◌≡◌, false, [], vec_len, sym, ap, ◌∙◌, subst, arith}
use Rattle.std.proofs.lemmas.Bool.{eqb-true}
use Rattle.std.proofs.lemmas.List.{nil_from_length}
use Rattle.card_rates.specs.RateBooks.{AreByNumber, Rates}
use Rattle.card_rates.proofs.Unchanged.{rate-is}
use Rattle.card_rates.proofs.book.RateBook.bears_unchanged.Goals as goal

pub returns : goal.returns
returns c rows is its =
    let rates = c.args.self.now in
    let inside = c.self.inside in
    let there = subst (λ (r : Rates). AreByNumber 2 r.segments) c.self.view_is c.self.invariant.numbers in
    let caps = inside.caps.ok.0 in
    let no_cap = eqb-true (vec_len inside.caps) 0 (sym c.is_empty.ensures ∙ c.if-not-is_empty.false) in
    let lowers : rates.lowerings ≡ [] = ap (λ (r : Rates). r.lowerings) (sym c.self.view_is) ∙ nil_from_length inside.caps.items (omega (arith, caps, no_cap)) in
    let penalties = inside.penalties.ok.0 in
    let no_penalty = eqb-true (vec_len inside.penalties) 0 (sym c.is_empty-else-not-is_empty.ensures ∙ c.if-not-is_empty-2.false) in
    let unraised : rates.penalties ≡ [] = ap (λ (r : Rates). r.penalties) (sym c.self.view_is) ∙ nil_from_length inside.penalties.items (omega (arith, penalties, no_penalty)) in
    let fixed : rates.variable ≡ false = ap (λ (r : Rates). r.variable) (sym c.self.view_is) ∙ c.if-self.false in
    rate-is rows rates c.args.day c.args.g.now there fixed lowers unraised its (sym c.bears_its_own.ensures ∙ is)
