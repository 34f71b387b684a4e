use Rattle.std.proofs.Common.{◌≡◌, refl, rules}
use Rattle.std.proofs.lemmas.Fn.{filter_same}
use Rattle.card_closing.specs.Rows.{others}
use Rattle.card_closing.proofs.rows.CycleRows.unpaid.Goals as goal

pub returns : goal.returns
returns c =
    let kept : c.retain.new.self.items ≡ others c.args.post c.self.inside.repaid.items = filter_same _ _ _ (λ x b f' k. search rules) _ _ c.retain.ensures.filtered in
    rw (kept, ← c.self.view_is) refl
