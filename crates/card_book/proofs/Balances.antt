-- Balances that are sums of entries, on every segment.
use Rattle.std.proofs.Common.{◌≡◌, ℕ, ◌<◌, ◌≤◌, false, List, sym, ◌∙◌, arith, get_or, eqb, length, ℤ, pos, ◌⊎◌, inl, inr}
use Rattle.std.proofs.lemmas.Bool.{cases_lt, ne_eqb}
use Rattle.std.proofs.lemmas.List.{get_or_past}
use Rattle.std.proofs.lemmas.List.Elements.{All-weaker}
use Rattle.card_bounds.proofs.OnSegments.{entries_have_segments}
use Rattle.card_model.specs.Entries.{AreBalances, balance}
use Rattle.card_model.specs.declared.entry.Entry.{Entry}

-- the balance of a segment, also where no entry is on it
pub each-any : (es : List Entry) (bs : List ℤ) (s : ℕ) → AreBalances es bs → get_or bs s (pos 0) ≡ balance s es
each-any es bs s h = by (cases_lt s (length bs))
  where
    by : (s < length bs) ⊎ (length bs ≤ s) → get_or bs s (pos 0) ≡ balance s es
    by (inl l) = h.each s l
    by (inr l) =
        let others = All-weaker (λ e. e.segment < length bs) (λ e. eqb e.segment s ≡ false) (λ e less. ne_eqb e.segment s (λ same. omega arith)) es h.known in
        get_or_past bs s (pos 0) l ∙ sym (entries_have_segments.none es s others)
