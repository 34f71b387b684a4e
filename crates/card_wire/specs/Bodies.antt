-- What a JSON body says: what the line with the same fields says.
use Rattle.std.specs.Prelude.{◌≡◌, ℕ, ◌-◌, Bool, not, ◌&&◌, ◌||◌, ◌==◌, nat_le, if◌then◌else◌, List, [], ◌∷◌, length, Option, Some, None, codes, decimal, slice_get, IsUtf8, option_and_then, option_map, Result, Ok, Err, string_bytes, ⊤}
use Rattle.std.specs.List.{list_any}
use Rattle.std.specs.Option.{unwrap_or}
use Rattle.std.specs.Str.{bytes_eq}
use Rattle.card_events.specs.declared.request.Request.{Request}
use Rattle.card_lines.specs.Lines.{line_of_fields}
use Rattle.card_lines.specs.Words.{word_of}
use Rattle.card_lines.specs.declared.line.Line.{Line}
use Rattle.card_lines.specs.declared.line.Line.TheVariants as line
use Rattle.card_lines.specs.declared.word.Word.{Word}
use Rattle.card_lines.specs.declared.word.Word.TheVariants as word
use Rattle.serde_json.specs.Data.{Data, Members, no_members, member}
use Rattle.serde_json.specs.Find.{get, as_number, as_u64, as_str, as_object}
use Rattle.serde_json.specs.Read.{read}
use Rattle.card_wire.specs.Fields.{field_name, is_number, fields_of}
use Rattle.card_wire.specs.declared.json_body.BodyFault.{BodyFault}
use Rattle.card_wire.specs.declared.json_body.BodyFault.TheVariants as body_fault
use Rattle.card_wire.specs.declared.field.Field.{Field}

-- one word of a line, of at most 32 bytes: no form of a field has a space, and none is longer
unfoldable pub is_one_word : List ℕ → Bool
is_one_word text = nat_le (length text) 32 && not (list_any (λ b. b == 32) text)

abbrev pub one_word : Option (List ℕ) → Option (List ℕ)
one_word None = None
one_word (Some text) = if is_one_word text then Some text else None

-- a number as a line has it: digits alone, as JSON has it
abbrev pub number_told : Data → Option (List ℕ)
number_told d = option_map decimal (option_and_then as_u64 (as_number d))

-- a value as a line has it, where it is of the field's kind
unfoldable pub told : Field → Data → Option (List ℕ)
told f d = one_word (if is_number f then number_told d else as_str d)

-- the word of a body, if it has one
unfoldable pub kind_told : Data → Option (List ℕ)
kind_told d = one_word (option_and_then as_str (get (codes "kind") d))

-- a field before others, up to the first that isn't there
abbrev pub told_before : Option (List ℕ) → List (List ℕ) → List (List ℕ)
told_before None rest = []
told_before (Some text) rest = text ∷ rest

-- the fields of a line, up to the first that is missing or of another kind
unfoldable pub fields_told : Data → List Field → List (List ℕ)
fields_told d [] = []
fields_told d (f ∷ fs) = told_before (option_and_then (told f) (get (field_name f) d)) (fields_told d fs)

-- whether a member is the kind or a field
unfoldable pub is_expected : List Field → List ℕ → Bool
is_expected fs name = bytes_eq name (codes "kind") || list_any (λ f. bytes_eq name (field_name f)) fs

-- the first member, by bytes, that is neither
unfoldable pub first_other : List Field → Members → Option (List ℕ)
first_other fs no_members = None
first_other fs (member name d ms) = if is_expected fs name then first_other fs ms else Some name

-- what a body says: a request, or the member that makes it none
pub data Said : Type 0 where
  request : Request → Said
  bad : List ℕ → Said

-- a body that has no known kind
abbrev pub no_kind : Said
no_kind = bad (codes "kind")

-- no other member may be there
abbrev pub without_others : Request → Option (List ℕ) → Said
without_others r None = request r
without_others r (Some name) = bad name

-- the field with this number of a line, in which the word is 1
abbrev pub field_numbered : List Field → ℕ → List ℕ
field_numbered fs n = unwrap_or (option_map field_name (slice_get fs (n - 2))) (codes "kind")

-- what a line with these fields says
unfoldable pub said_by_line : List Field → Option Members → Line → Said
said_by_line fs None l = no_kind
said_by_line fs (Some ms) (line.Request r) = without_others r (first_other fs ms)
said_by_line fs (Some ms) (line.Show account) = no_kind
said_by_line fs (Some ms) (line.Bad n) = bad (field_numbered fs n)

-- a known kind, which `show` isn't
unfoldable pub said_by_word : Data → List ℕ → Option Word → Said
said_by_word d kind None = no_kind
said_by_word d kind (Some word.Show) = no_kind
said_by_word d kind (Some w) = said_by_line (fields_of w) (as_object d) (line_of_fields (kind ∷ fields_told d (fields_of w)))

abbrev pub said_by_kind : Data → Option (List ℕ) → Said
said_by_kind d None = no_kind
said_by_kind d (Some kind) = said_by_word d kind (word_of kind)

-- what a body says
abbrev pub said : Data → Said
said d = said_by_kind d (kind_told d)

-- these bytes are JSON, and say this
pub record Says (body : List ℕ) (s : Said) : Type 0 where
  pub value : Data
  pub text : IsUtf8 body
  pub reads : read body ≡ Some value
  pub means : said value ≡ s

-- these bytes are no JSON
abbrev pub IsNoJson : List ℕ → Type 0
IsNoJson body = IsUtf8 body → read body ≡ None

-- why a body gives no request
abbrev pub FailsBody : List ℕ → BodyFault → Type 0
FailsBody body body_fault.NotJson = IsNoJson body
FailsBody body (body_fault.Member name) = Says body (bad (string_bytes name))
FailsBody body body_fault.Memory = ⊤

-- what the code answers for a value is what it says, unless memory ran out
abbrev pub IsSaid : Result Request BodyFault → Said → Type 0
IsSaid (Ok r) s = s ≡ request r
IsSaid (Err (body_fault.Member name)) s = s ≡ bad (string_bytes name)
IsSaid (Err body_fault.NotJson) s = ⊥
IsSaid (Err body_fault.Memory) s = ⊤
