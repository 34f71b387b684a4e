use Rattle.std.proofs.Common.{◌∙◌, length, ap, sym, subst, arith}
use Rattle.card_rates.specs.RateBooks.{AreByNumber}
use Rattle.card_book.specs.Stands.{Summary}
use Rattle.card_book.proofs.Rewinding.{numbered-in, rated-count}
use Rattle.card_book.proofs.kept_book.Book.mark.Goals as goal

pub push_accruing-requires-clause-rated : goal.push_accruing-requires-clause-rated
push_accruing-requires-clause-rated c =
    let rated = rated-count c.args._inputs.now c.args.self.now c.args._track.now c.requires.stands in
    let all = c.len-count.ensures in
    let same = ap (λ (b : Summary). length b.state.rates.segments) c.self.view_is in
    let those = ap (λ (b : Summary). length b.state.segments.segments) c.self.view_is in
    omega (arith, rated, all.segments, all.balances, same, those)

pub push_accruing-requires-clause-equal : goal.push_accruing-requires-clause-equal
push_accruing-requires-clause-equal c =
    ap (λ (b : Summary). length b.state.accruals.items) c.self.view_is
    ∙ (c.requires.stands.folded.stand.accruals ∙ sym (ap (λ (b : Summary). length b.state.rates.segments) c.self.view_is))

pub push_accruing-requires-clause-numbered : goal.push_accruing-requires-clause-numbered
push_accruing-requires-clause-numbered c =
    subst (λ (b : Summary). AreByNumber 2 b.state.rates.segments) (sym c.self.view_is) (numbered-in c.args._inputs.now c.args.self.now c.args._track.now c.requires.stands)
