use Rattle.std.proofs.lemmas.Grind.{common_steps}
use Rattle.std.proofs.Common.{◌≡◌, ◌+◌, ◌≤◌, ◌++◌, [], ◌∷◌, length, sym, ap, ◌∙◌, subst, arith}
use Rattle.card_events.specs.declared.post.Post.{Post}
use Rattle.card_waits.specs.Waits.{AreWaits, IsReplaced, Waits, awaited, own_number, waits}
use Rattle.card_waits.proofs.WaitLemmas.{entered}
use Rattle.card_waits.proofs.wait_table.WaitTable.enter.Goals as goal

pub returns : goal.returns
returns c history k same w =
    let long : c.len.result ≡ length c.self.inside.by.items = grind (arith, common_steps) in
    let pushed : c.push_reserved.new.self.items ≡ c.self.inside.by.items ++ 0 ∷ [] = grind (arith, common_steps) in
    let low : awaited k.post ≤ length c.self.inside.by.items = subst (λ (p : Post). awaited p ≤ length c.self.inside.by.items) (sym same) (subst (λ (t : Waits). awaited c.args.post.now ≤ length t.by) (sym c.self.view_is) c.requires.earlier) in
    let marks : IsReplaced (awaited k.post) 0 (c.len.result + 1) c.push_reserved.new.self.items c.replace.new.by.items =
    subst (λ t. IsReplaced t 0 (c.len.result + 1) c.push_reserved.new.self.items c.replace.new.by.items) (c.awaited.ensures ∙ ap (λ (p : Post). awaited p) (sym same)) c.replace.ensures.items in
    entered history k _ _ (c.len.result + 1) c.push_reserved.new.self.items (subst (AreWaits history) (sym c.self.view_is) w) low (omega (arith, long))
    (c.enter_waiting.ensures.items ∙ ap (λ (p : Post). c.self.inside.waiting.items ++ own_number (c.len.result + 1) p) (sym same))
    (λ e. c.enter_waiting.ensures.spare (ap (λ (p : Post). waits p) (sym same) ∙ e)) pushed marks
