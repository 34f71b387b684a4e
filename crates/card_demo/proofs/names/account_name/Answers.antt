use Rattle.std.proofs.Common.{◌≡◌, ℕ, List, true, refl, sym, ◌∙◌, subst}
use Rattle.card_events.specs.Names.{is_name}
use Rattle.card_demo.proofs.NameLemmas.{lettered}
use Rattle.card_demo.proofs.names.account_name.Goals as goal

pub name-requires : goal.name-requires
name-requires c = subst (λ (l : List ℕ). is_name l ≡ true) (sym (c.deref.ensures ∙ c.in_ok-text.ensures.ok)) (lettered 100 c.args.i refl c.ranges.i.fits)
