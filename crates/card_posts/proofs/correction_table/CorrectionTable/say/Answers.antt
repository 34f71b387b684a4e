use Rattle.std.proofs.Common.{◌≡◌, ◌+◌, ◌-◌, ◌==◌, cond, length, get_or, set, ap, ◌∙◌, arith}
use Rattle.card_posts.specs.Corrections.{with_post}
use Rattle.card_posts.specs.Later.{Later, each_from, said_of}
use Rattle.card_posts.proofs.Sparse.{each-length, each-set}
use Rattle.card_posts.proofs.correction_table.CorrectionTable.say.Goals as goal

pub overflow_cast-number : goal.overflow_cast-number
overflow_cast-number c =
    let long = ap (λ (t : Later). length t.each) c.self.view_is in
    let count = each-length 1 c.self.inside.count c.self.inside.said.items in
    omega (arith, c.requires.known, long, count, c.self.invariant.few)

pub invariant_of-self : goal.invariant_of-self
invariant_of-self c =
    let long = ap (λ (t : Later). length t.each) c.self.view_is in
    let count = each-length 1 c.self.inside.count c.self.inside.said.items in
    record {
      few = c.self.invariant.few;
      ascending = c.put.ensures.ascending;
      within = c.put.ensures.within c.self.inside.count (omega (arith, c.requires.known, long, count)) c.self.invariant.within;
    }

pub returns : goal.returns
returns c d =
    let place : c.args.number ≡ 1 + (c.args.number - 1) = omega (arith, c.requires.some) in
    each-set 1 (c.args.number - 1) c.self.inside.count c.with_post-now.result c.self.inside.said.items c.put.new.said.items (λ m. c.put.ensures.says m ∙ ap (λ x. cond (m == x) c.with_post-now.result (said_of m c.self.inside.said.items)) place)
    ∙ (ap (set (each_from 1 c.self.inside.count c.self.inside.said.items) (c.args.number - 1)) (c.with_post-now.ensures ∙ ap (with_post c.args.post.now) (c.at-before.ensures d))
    ∙ ap (λ (t : Later). set t.each (c.args.number - 1) (with_post c.args.post.now (get_or c.args.self.now.each (c.args.number - 1) d))) c.self.view_is)
