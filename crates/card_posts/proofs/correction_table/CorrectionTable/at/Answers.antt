use Rattle.std.proofs.Common.{◌≡◌, ◌+◌, length, get_or, sym, ap, ◌∙◌, arith}
use Rattle.card_posts.specs.Later.{Later, said_of}
use Rattle.card_posts.proofs.Sparse.{each-at, each-length}
use Rattle.card_posts.proofs.correction_table.CorrectionTable.at.Goals as goal

pub returns : goal.returns
returns c d =
    let number : c.args.i + 1 ≡ 1 + c.args.i = omega arith in
    let long = ap (λ (t : Later). length t.each) c.self.view_is in
    let count = each-length 1 c.self.inside.count c.self.inside.said.items in
    c.find.ensures ∙ (ap (λ ss. said_of (c.args.i + 1) ss) c.deref.ensures.value ∙ (ap (λ m. said_of m c.self.inside.said.items) number
    ∙ (sym (each-at 1 c.self.inside.count c.args.i c.self.inside.said.items d (omega (arith, c.requires, long, count))) ∙ ap (λ (t : Later). get_or t.each c.args.i d) c.self.view_is)))

pub overflow_cast-i : goal.overflow_cast-i
overflow_cast-i c =
    let long = ap (λ (t : Later). length t.each) c.self.view_is in
    let count = each-length 1 c.self.inside.count c.self.inside.said.items in
    omega (arith, c.requires, long, count, c.self.invariant.few)

pub overflow_add-i : goal.overflow_add-i
overflow_add-i c =
    let long = ap (λ (t : Later). length t.each) c.self.view_is in
    let count = each-length 1 c.self.inside.count c.self.inside.said.items in
    omega (arith, c.requires, long, count, c.self.invariant.few)
