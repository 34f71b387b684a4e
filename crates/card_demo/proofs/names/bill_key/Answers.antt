use Rattle.std.proofs.Common.{◌≡◌, ℕ, List, true, refl, sym, ◌∙◌, subst}
use Rattle.card_events.specs.Names.{is_name}
use Rattle.card_demo.proofs.NameLemmas.{lettered}
use Rattle.card_demo.proofs.names.bill_key.Goals as goal

pub name-requires : goal.name-requires
name-requires c = subst (λ (l : List ℕ). is_name l ≡ true) (sym (c.deref.ensures ∙ c.in_ok-text.ensures.ok)) (lettered 98 c.args.t refl c.ranges.t.fits)
