-- Where no deferred plan is in its period, nothing accrues.
use Rattle.std.proofs.Common.{◌≡◌, ℕ, Bool, true, false, ◌||◌, List, [], ◌∷◌, ℤ, refl, ap, ◌∙◌}
use Rattle.std.specs.List.{list_any}
use Rattle.card_closing.specs.Accruals.{Accrued}
use Rattle.card_model.proofs.Accepting.{or-false}
use Rattle.card_model.specs.Rates.{accrual_rate}
use Rattle.card_model.specs.Segments.{SegmentTerms, is_deferred_on, is_sort}
use Rattle.card_model.specs.declared.segment.Sort.TheVariants.{Deferred}
use Rattle.card_rates.specs.Settled.{has_deferred}
use Rattle.card_dayend.specs.Rows.{each_with, owed_on, with_accrual_at}

-- without deferred plans none is in its period
pub none-accrues-on : (day : ℕ) (ts : List SegmentTerms) → has_deferred ts ≡ false → list_any (is_deferred_on day) ts ≡ false
none-accrues-on day [] h = refl
none-accrues-on day (t ∷ ts) h =
    let parts = or-false (is_sort Deferred t.sort) (has_deferred ts) h in
    let here : is_deferred_on day t ≡ false = rw parts.0 refl in
    rw here (none-accrues-on day ts parts.1)

pub none-accrues : (days day : ℕ) (balances : List ℤ) (ts : List SegmentTerms) (xs : List Accrued) → list_any (is_deferred_on day) ts ≡ false
    → each_with (λ t x. with_accrual_at days (accrual_rate day t) (owed_on balances t) x) ts xs ≡ xs
unfolding each_with
none-accrues days day balances [] xs h = refl
none-accrues days day balances (t ∷ ts) [] h = refl
none-accrues days day balances (t ∷ ts) (x ∷ xs) h =
    let parts = or-false (is_deferred_on day t) (list_any (is_deferred_on day) ts) h in
    let here : with_accrual_at days (accrual_rate day t) (owed_on balances t) x ≡ x = rw parts.0 refl in
    let rest = none-accrues days day balances ts xs parts.1 in
    ap (λ y. y ∷ each_with (λ t x. with_accrual_at days (accrual_rate day t) (owed_on balances t) x) ts xs) here ∙ ap (λ ys. x ∷ ys) rest
