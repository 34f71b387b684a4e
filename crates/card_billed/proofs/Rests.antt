-- All rows that aren't made, over what is given now, and with one row more.
use Rattle.std.proofs.Common.{[], ◌∷◌, ◌++◌, append-nil, append_assoc, sym, subst}
use Rattle.std.proofs.lemmas.List.Elements.{All-head, All-tail}
use Rattle.card_billed.proofs.Late.{later_posts_leave_it}
use Rattle.card_billed.specs.Laws.{IsLeft, RowsGrowUnmade, RowsStayUnmade}
use Rattle.card_billed.specs.Unmade.{AreUnmade, IsUnmade}

pub rows_stay_unmade : RowsStayUnmade
unfolding AreUnmade
rows_stay_unmade history later made [] shared other left h = tt
rows_stay_unmade history later made (r ∷ rest) shared other left h =
    let one = All-head (IsLeft history later shared other) r rest left in
    (later_posts_leave_it history later made shared other r one.agree one.fees one.there h.0, rows_stay_unmade history later (made ++ r ∷ []) rest shared other (All-tail (IsLeft history later shared other) r rest left) h.1)

pub rows_grow_unmade : RowsGrowUnmade
unfolding AreUnmade
rows_grow_unmade history made [] shared r h one = (subst (λ rows. IsUnmade history rows shared r) (append-nil made) one, tt)
rows_grow_unmade history made (x ∷ rest) shared r h one =
    (h.0, rows_grow_unmade history (made ++ x ∷ []) rest shared r h.1 (subst (λ rows. IsUnmade history rows shared r) (sym (append_assoc made (x ∷ []) rest)) one))
