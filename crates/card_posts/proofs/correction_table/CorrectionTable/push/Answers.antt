use Rattle.std.proofs.Common.{◌++◌, [], ◌∷◌, length, ap, ◌∙◌, arith}
use Rattle.card_posts.specs.Later.{Later, nothing}
use Rattle.card_posts.proofs.Sparse.{each-length, each-push, within-more}
use Rattle.card_posts.proofs.correction_table.CorrectionTable.push.Goals as goal

pub invariant_of-self : goal.invariant_of-self
invariant_of-self c =
    let long = ap (λ (t : Later). length t.each) c.self.view_is in
    let count = each-length 1 c.self.inside.count c.self.inside.said.items in
    record {
      few = omega (arith, c.requires, long, count);
      ascending = c.self.invariant.ascending;
      within = within-more c.self.inside.count c.self.inside.said.items c.self.invariant.within;
    }

pub returns-clause-each : goal.returns-clause-each
returns-clause-each c = each-push c.self.inside.count c.self.inside.said.items c.self.invariant.within ∙ ap (λ (t : Later). t.each ++ nothing ∷ []) c.self.view_is
