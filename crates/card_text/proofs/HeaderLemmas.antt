-- Only the header itself is no item.
use Rattle.std.proofs.Common.{◌≡◌, ◌⊎◌, ◌↔◌, ℕ, zero, suc, ◌+◌, ◌-◌, ◌==◌, Bool, true, false, cond, List, [], ◌∷◌, drop, bytes_eq, ok_or, Option, Some, None, Result, Ok, Err, IfOk, inl, inr, refl, ap, arith}
use Rattle.std.proofs.lemmas.Bool.Decides.{nat_tests}
use Rattle.std.proofs.lemmas.Slice.Eq.{bytes_eq-Decides}
use Rattle.csv.specs.Records.{field_at}
use Rattle.card_lines.specs.Fields.{◌>>=◌}
use Rattle.card_text.specs.declared.item.Item.{Item}
use Rattle.card_text.specs.Columns.{column, exactly, no_column}
use Rattle.card_text.specs.Import.{exactly_all, header, header_item, header_of, item_of_record, numbered, request_of}

-- a field and the fields behind it, or the end
abbrev Stands : ℕ → List (List ℕ) → Type 0
Stands i fs = ((field_at fs i ≡ None) × (drop i fs ≡ [])) ⊎ ((f : List ℕ) × (field_at fs i ≡ Some f) × (drop i fs ≡ f ∷ drop (suc i) fs))

stands : (i : ℕ) (fs : List (List ℕ)) → Stands i fs
unfolding field_at
stands zero [] = inl (refl, refl)
stands (suc i) [] = inl (refl, refl)
stands zero (f ∷ fs) = inr (f, refl, refl)
stands (suc i) (f ∷ fs) = stands i fs

-- the column behind i others
behind : (i : ℕ) → i + 1 - 1 ≡ i
behind i = omega arith

one_more : (i : ℕ) → i + 1 ≡ suc i
one_more i = omega arith

abbrev passed : Bool → Option (Unit {0})
passed b = cond b (Some tt) None

one_text : (f text : List ℕ) (n : ℕ) (rest : Result (Unit {0}) ℕ) (b : Bool) → bytes_eq f text ≡ b → (ok_or (passed b) n >>= (λ _. rest)) ≡ Ok tt → (f ≡ text) × (rest ≡ Ok tt)
one_text f text n rest true same is = ((bytes_eq-Decides f text).0 same, is)
one_text f text n rest false same is = cc is

end_only : (i : ℕ) (fs : List (List ℕ)) → Stands i fs → no_column (i + 1) fs ≡ Ok tt → drop i fs ≡ []
end_only i fs (inl at) is = at.1
end_only i fs (inr at) is = cc (rw (behind i, at.1) at is)

text_only : (text : List ℕ) (i : ℕ) (fs : List (List ℕ)) (rest : Result (Unit {0}) ℕ) → Stands i fs → (column (exactly text) (i + 1) fs >>= (λ _. rest)) ≡ Ok tt → (drop i fs ≡ text ∷ drop (i + 1) fs) × (rest ≡ Ok tt)
unfolding exactly
text_only text i fs rest (inl at) is = cc (rw (behind i, at.0) at is)
text_only text i fs rest (inr at) is =
    let one = one_text at.0 text (i + 1) rest (bytes_eq at.0 text) refl (rw (behind i, at.1) at is) in
    (rw (one_more i, at.2, one.0) refl, one.1)

-- all texts stand there, and nothing else
only : (texts : List (List ℕ)) (i : ℕ) (fs : List (List ℕ)) → exactly_all texts (i + 1) fs ≡ Ok tt → drop i fs ≡ texts
unfolding exactly_all
only [] i fs is = end_only i fs (stands i fs) is
only (text ∷ texts) i fs is =
    let one = text_only text i fs (exactly_all texts (i + 1 + 1) fs) (stands i fs) is in
    rw (one.0, only texts (i + 1) fs one.1) refl

header_only : (r : Result (Unit {0}) ℕ) → header_item r ≡ None → r ≡ Ok tt
header_only (Ok _) is = refl
header_only (Err n) is = cc is

header_passes : header_of header ≡ Ok tt
unfolding header_of exactly_all exactly field_at
header_passes = refl

either_none : (row : ℕ) (fs : List (List ℕ)) (b : Bool) → (row == 1) ≡ b
    → (cond b (header_item (header_of fs)) (Some (numbered row (request_of fs))) ≡ None) ↔ ((row ≡ 1) × (fs ≡ header))
unfolding header_of
either_none row fs true is = (
  (λ none. (grind (arith, nat_tests), only header 0 fs (header_only (header_of fs) none))),
  (λ both. rw both.1 (ap header_item header_passes)),
)
either_none row fs false is = ((λ none. cc none), (λ both. absurd (grind (arith, nat_tests))))

pub none_is_header : (row : ℕ) (fs : List (List ℕ)) → (item_of_record row fs ≡ None) ↔ ((row ≡ 1) × (fs ≡ header))
unfolding item_of_record
none_is_header row fs = either_none row fs (row == 1) refl

-- and so of what is read
pub read_none : (row : ℕ) (fs : List (List ℕ)) (item : Option Item) → item ≡ item_of_record row fs → (item ≡ None) ↔ ((row ≡ 1) × (fs ≡ header))
read_none row fs item is = rw is (none_is_header row fs)
