-- What is read of an input whose bytes are told.
use Rattle.std.proofs.Common.{◌≡◌, ℕ, ◌+◌, Bool, ◌⊎◌, inl, inr, List, [], ◌++◌, length, map, sym, ap, ◌∙◌, subst, append_assoc, append-nil, Option, None, Some}
use Rattle.std.specs.Io.KnownBytes.{Consumes, IsAtEnd}
use Rattle.card_model.specs.Machine.{State}
use Rattle.card_commands.specs.Input.{ended_line, ended_lines, ended_items, all_items, lines}
use Rattle.card_commands.specs.Items.{numbered}
use Rattle.card_commands.specs.Outside.{Outside, AreFirst, ReadFirst, ReadAll, Wrote}
use Rattle.card_commands.specs.Run.{any_refused}
use Rattle.card_text.specs.declared.item.Item.{Item}
use Rattle.card_commands.proofs.ApplyLemmas.{items-append, all_are, rest_of}
use Rattle.card_commands.proofs.LineLemmas.{cut, left_over}

-- at the end all was read
all_read : (input : List ℕ) (new : Option (List ℕ)) (bytes : List ℕ) → Consumes (Some input) new bytes → IsAtEnd new → bytes ≡ input
all_read input None bytes read ends = absurd read
all_read input (Some rest) bytes read ends = sym (read ∙ ap (λ l. bytes ++ l) ends ∙ append-nil bytes)

-- the first items of what was read are the first of all
first_of_all : (items : List Item) (bytes rest : List ℕ) → AreFirst items (ended_items bytes) → AreFirst items (all_items (bytes ++ rest))
first_of_all items bytes rest first =
    let more = numbered (1 + length (ended_lines bytes)) (map ended_line (cut (left_over [] bytes) rest)) in
    let last = rest_of (bytes ++ rest) in (
      (first.0 ++ more) ++ last,
      all_are (bytes ++ rest) ∙ ap (λ l. l ++ last) (items-append bytes rest ∙ ap (λ l. l ++ more) first.1 ∙ append_assoc items first.0 more) ∙ append_assoc items (first.0 ++ more) last,
    )

first_read : (items : List Item) (input : List ℕ) (new : Option (List ℕ)) (bytes : List ℕ) → Consumes (Some input) new bytes → AreFirst items (ended_items bytes) ⊎ (IsAtEnd new × AreFirst items (all_items bytes))
    → AreFirst items (all_items input)
first_read items input None bytes read first = absurd read
first_read items input (Some rest) bytes read (inl first) = subst (λ (l : List ℕ). AreFirst items (all_items l)) (sym read) (first_of_all items bytes rest first)
first_read items input (Some rest) bytes read (inr first) = subst (λ (l : List ℕ). AreFirst items (all_items l)) (all_read input (Some rest) bytes read first.0) first.1

told : {I K : Type 0} (old new : Outside I K) (input bytes : List ℕ) → old.left ≡ Some input → Consumes old.left new.left bytes → Consumes (Some input) new.left bytes
told old new input bytes is read = subst (λ (x : Option (List ℕ)). Consumes x new.left bytes) is read

pub read_all : {I K : Type 0} (old new : Outside I K) (s : State) (refused : Bool) (input : List ℕ) → old.left ≡ Some input → ReadAll old new lines s refused → Wrote old new s (all_items input) × (any_refused s (all_items input) ≡ refused)
read_all old new s refused input is ran =
    let whole = all_read input new.left ran.bytes (told old new input ran.bytes is ran.read) ran.stands.0 in
    subst (λ (l : List ℕ). Wrote old new s (all_items l) × (any_refused s (all_items l) ≡ refused)) whole (ran.stands.1, ran.stands.2)

pub read_first : {I K : Type 0} (old new : Outside I K) (P : List Item → Type 0) (input : List ℕ) → old.left ≡ Some input → ReadFirst old new lines P → (items : List Item) × AreFirst items (all_items input) × P items
read_first old new P input is ran =
    let items = ran.stands.0 in
    (items, first_read items input new.left ran.bytes (told old new input ran.bytes is ran.read) ran.stands.1, ran.stands.2)
