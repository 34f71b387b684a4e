use Rattle.std.proofs.Common.{ap, ◌∙◌, arith, w64}
use Rattle.std.proofs.lemmas.Int.{to_z_pos}
use Rattle.card_events.specs.declared.post.Terms.{Terms}
use Rattle.std.specs.Prelude.{pos}
use Rattle.card_book.proofs.sheet.stated_of.Goals as goal

pub returns-clause-floor : goal.returns-clause-floor
returns-clause-floor c =
    let few = c.get.ensures.bound in
    to_z_pos w64 c.get.result (omega (arith, few)) ∙ ap pos (c.get.ensures.value ∙ ap (λ (t : Terms). t.floor) c.terms-terms.ensures.value)

pub returns-clause-pct : goal.returns-clause-pct
returns-clause-pct c = c.get-2.ensures.value ∙ ap (λ (t : Terms). t.pct) c.terms-terms.ensures.value
