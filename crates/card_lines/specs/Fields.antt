-- The fields of a line, and reading them from left to right.
use Rattle.std.specs.Prelude.{◌≡◌, ℕ, ◌==◌, List, [], ◌∷◌, Option, Some, None, Result, Ok, Err}
use Rattle.std.specs.List.{slice_split}
use Rattle.card_lines.specs.declared.line.BadField.{BadField}

-- the fields of a line, which single spaces separate
abbrev pub fields_of : List ℕ → List (List ℕ)
fields_of bs = slice_split (λ b. b == 32) bs

-- the fields of the rest of a line, which is empty or begins with the space before the next field
abbrev pub fields_left : List ℕ → List (List ℕ)
fields_left [] = []
fields_left (space ∷ bs) = fields_of bs

-- A reading gives a value, or the number of the first field that is bad; the second reads where the first left off.
infixl 10 ◌>>=◌
abbrev pub ◌>>=◌ : {A B : Type 0} → Result A ℕ → (A → Result B ℕ) → Result B ℕ
(Ok x) >>= f = f x
(Err n) >>= f = Err n

-- the value of a field and the fields after it, or the field's number
abbrev pub formed : {A : Type 0} → ℕ → List (List ℕ) → Option A → Result (A × List (List ℕ)) ℕ
formed n fs None = Err n
formed n fs (Some x) = Ok (x, fs)

-- the next field, which has this number, in this form
abbrev pub field : {A : Type 0} → (List ℕ → Option A) → ℕ → List (List ℕ) → Result (A × List (List ℕ)) ℕ
field form n [] = Err n
field form n (f ∷ fs) = formed n fs (form f)

-- no field is left; the next would have this number
abbrev pub end_at : ℕ → List (List ℕ) → Result (Unit {0}) ℕ
end_at n [] = Ok tt
end_at n (f ∷ fs) = Err n

-- the code's value, and the fields behind the bytes that it left, are what reading gives
abbrev pub Reads : {X : Type 0} → Result X BadField → List (List ℕ) → Result (X × List (List ℕ)) ℕ → Type 0
Reads (Ok x) rest read = read ≡ Ok (x, rest)
Reads (Err bad) rest read = read ≡ Err bad.0

-- the code's value is what reading all fields gives
abbrev pub ReadsAll : {X : Type 0} → Result X BadField → Result X ℕ → Type 0
ReadsAll (Ok x) read = read ≡ Ok x
ReadsAll (Err bad) read = read ≡ Err bad.0
