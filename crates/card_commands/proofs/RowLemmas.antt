-- Rows that a keeper took, one list after the other.
use Rattle.std.proofs.Common.{List, [], ◌++◌, refl, ap, sym, ◌∙◌, append_assoc, append-nil, Option, None, Some}
use Rattle.card_ports.specs.Rows.{AddsRows, KeepsRows}
use Rattle.card_ports.specs.declared.row.Row.{Row}

pub AddsRows-trans : (a b c : Option (List Row)) (xs ys : List Row) → AddsRows a b xs → AddsRows b c ys → AddsRows a c (xs ++ ys)
AddsRows-trans None b c xs ys p q = tt
AddsRows-trans (Some a) None c xs ys p q = absurd p
AddsRows-trans (Some a) (Some b) None xs ys p q = absurd q
AddsRows-trans (Some a) (Some b) (Some c) xs ys p q = q ∙ ap (λ l. l ++ ys) p ∙ append_assoc a xs ys

pub AddsRows-nil : (a : Option (List Row)) → AddsRows a a []
AddsRows-nil None = tt
AddsRows-nil (Some a) = sym (append-nil a)

-- rows that stayed before, and then grew
pub kept_then : (a b c : Option (List Row)) (xs : List Row) → KeepsRows a b → AddsRows b c xs → AddsRows a c xs
kept_then None b c xs k p = tt
kept_then (Some a) None c xs k p = absurd k
kept_then (Some a) (Some b) None xs k p = absurd p
kept_then (Some a) (Some b) (Some c) xs k p = p ∙ ap (λ l. l ++ xs) k

-- rows that nobody touched
pub keeps_same : (a : Option (List Row)) → KeepsRows a a
keeps_same None = tt
keeps_same (Some a) = refl
