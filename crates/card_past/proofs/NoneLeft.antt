-- Where no row is left to make.
use Rattle.std.proofs.Common.{◌≡◌, List, [], ◌∷◌, ◌++◌, append-nil, refl, sym, ap, ◌∙◌, subst}
use Rattle.std.specs.Prelude.{map}
use Rattle.card_model.specs.Cycles.{IssuedRow}
use Rattle.card_past.specs.Foldings.{IsFolding}
use Rattle.card_past.specs.Making.{NoneIsLeft, folded_at}
use Rattle.card_past.specs.Waiting.{given_by}

none-left : (rest : List IssuedRow) → [] ≡ map (λ r. r.bill) rest → rest ≡ []
none-left [] e = refl
none-left (r ∷ rest) e = let no : [] ≡ r.bill ∷ map (λ (x : IssuedRow). x.bill) rest = e in absurd (cc)

pub none_is_left : NoneIsLeft
none_is_left shared lists made today f h =
    let none = none-left h.rest h.numbers in
    let all : made ≡ lists.issued = sym (h.left.rows ∙ (ap (λ rest. made ++ rest) none ∙ append-nil made)) in
    record { reached = h.reached; rows = all; folding = subst (λ rows. IsFolding (given_by lists.posts rows shared) (folded_at h.reached f.book f.past)) all h.left.folding }
