use Rattle.std.proofs.Common.{sym, ◌∙◌}
use Rattle.card_posts.proofs.Sparse.{blank, not-there, said-found, said-missing, there}
use Rattle.card_posts.proofs.correction_table.find.Goals as goal

pub bounds-said-at : goal.bounds-said-at
bounds-said-at c = (there _ _ _ _ (sym (c.is_there.ensures blank) ∙ c.if-is_there.true)).0

pub bounds-said-at-then-is_there : goal.bounds-said-at-then-is_there
bounds-said-at-then-is_there c = (there _ _ _ _ (sym (c.is_there.ensures blank) ∙ c.if-is_there.true)).0

pub returns-then-is_there : goal.returns-then-is_there
returns-then-is_there c =
    let here = there _ _ _ _ (sym (c.is_there.ensures c.index-said-at.result) ∙ c.if-is_there.true) in
    sym (said-found c.args.number c.args.said.now c.place_of-at.result c.index-said-at.result c.place_of-at.ensures here.0 here.1)

pub returns-else-is_there : goal.returns-else-is_there
returns-else-is_there c =
    c.nothing.ensures
    ∙ sym (said-missing c.args.number 1 c.args.said.now c.place_of-at.result c.requires c.place_of-at.ensures (λ d l e. not-there _ _ _ _ (sym (c.is_there.ensures d) ∙ c.if-is_there.false) l e))
