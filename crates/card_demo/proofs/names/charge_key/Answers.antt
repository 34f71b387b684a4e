use Rattle.std.proofs.Common.{◌≡◌, ℕ, ◌∷◌, List, [], true, refl, sym, ap, ◌∙◌, subst}
use Rattle.std.specs.Fmt.{decimal}
use Rattle.std.specs.String.{string_bytes}
use Rattle.card_events.specs.Names.{is_name}
use Rattle.card_demo.specs.Requests.{charge_key}
use Rattle.card_demo.proofs.NameLemmas.{dashed}
use Rattle.card_demo.proofs.names.charge_key.Goals as goal
use mathlib.Core.List.{append_assoc}

pub name-requires : goal.name-requires
name-requires c =
    let t = c.args.t in
    let j = c.args.j in
    let is : string_bytes c.in_ok-text.text ≡ charge_key t j = c.in_ok-text.ensures.ok ∙ ap (λ (l : List ℕ). 99 ∷ l) (sym (append_assoc (decimal t) (45 ∷ []) (decimal j))) in
    subst (λ (l : List ℕ). is_name l ≡ true) (sym (c.deref.ensures ∙ is)) (dashed 99 t j refl c.ranges.t.fits c.ranges.j.fits)

pub returns : goal.returns
returns c =
    let t = c.args.t in
    let j = c.args.j in
    let is : string_bytes c.in_ok-text.text ≡ charge_key t j = c.in_ok-text.ensures.ok ∙ ap (λ (l : List ℕ). 99 ∷ l) (sym (append_assoc (decimal t) (45 ∷ []) (decimal j))) in
    c.name.ensures ∙ c.deref.ensures ∙ is
