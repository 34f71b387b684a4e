-- What is put back on balances is what the ledger's definition puts back on entries.
use Rattle.std.proofs.Common.{◌≡◌, ℕ, ◌<◌, Bool, true, false, cond, List, [], ◌∷◌, ◌++◌, length, refl, sym, ap, ◌∙◌, arith, append-nil, eqb, ℤ}
use Rattle.std.specs.Prelude.{neg_ℤ}
use Rattle.std.proofs.lemmas.List.Elements.{All-head, All-tail}
use Rattle.card_model.specs.Effects.{put_back, size}
use Rattle.card_model.specs.Entries.{AreBalances, at_least_zero, credit_balance, credit_in, debit, posted}
use Rattle.card_model.specs.declared.entry.Entry.{Entry}
use Rattle.card_model.specs.declared.entry.Note.{Note}
use Rattle.card_model.proofs.Posted.{are_balances-posted, debit-known, length-posted}
use Rattle.card_segments.specs.Balances.{AreOn}
use Rattle.card_segments.specs.Parts.{back_entries, parts_in, segment_back}

abbrev On : ℕ → Entry → Type 0
On n e = e.segment < n

assoc : (us vs ws : List Entry) → (us ++ vs) ++ ws ≡ us ++ (vs ++ ws)
assoc [] vs ws = refl
assoc (u ∷ us) vs ws = ap (λ ys. u ∷ ys) (assoc us vs ws)

pub returned-is : (note : Note) (newest : ℕ) (es entries : List Entry) (bs : List ℤ) → AreBalances entries bs → newest < length bs → AreOn (length bs) es
    → put_back note newest es entries ≡ entries ++ back_entries note newest (parts_in es) bs
unfolding back_entries
returned-is note newest [] entries bs a l h = sym (append-nil entries)
returned-is note newest (e ∷ es) entries bs a l h =
    let g = segment_back newest e.segment in
    let same : credit_balance entries ≡ credit_in bs = ap (λ z. at_least_zero (neg_ℤ z)) (sym (a.each 0 (omega arith))) in
    let ds = debit note g (size e.cents) (credit_in bs) in
    let known = debit-known note g (size e.cents) (credit_in bs) (length bs) (omega arith) (by (eqb e.segment 0) (All-head (On (length bs)) e es h)) in
    let long = length-posted ds bs in
    let rest = returned-is note newest es (entries ++ ds) (posted ds bs) (are_balances-posted entries ds bs known a) (rw long l) (rw long (All-tail (On (length bs)) e es h)) in
    rw same (rest ∙ assoc entries ds (back_entries note newest (parts_in es) (posted ds bs)))
  where
    by : (t : Bool) → e.segment < length bs → cond t newest e.segment < length bs
    by true m = l
    by false m = m
