-- The kinds of post that a record may give.
use Rattle.std.specs.Prelude.{ℕ, List, Option, Some, None}
use Rattle.card_lines.specs.Words.{word_of}
use Rattle.card_lines.specs.declared.word.PostKind.{PostKind}
use Rattle.card_lines.specs.declared.word.PostKind.TheVariants as post_kind
use Rattle.card_lines.specs.declared.word.Word.{Word}
use Rattle.card_lines.specs.declared.word.Word.TheVariants as word
use Rattle.card_text.specs.declared.kind.RecordKind.{RecordKind}
use Rattle.card_text.specs.declared.kind.RecordKind.TheVariants as kind

-- charges, merchants' credits and payments are imported
abbrev pub imported : PostKind → Option RecordKind
imported post_kind.Charge = Some kind.Charge
imported post_kind.Credit = Some kind.Credit
imported post_kind.Payment = Some kind.Payment
imported _ = None

abbrev pub imported_word : Option Word → Option RecordKind
imported_word (Some (word.Post k)) = imported k
imported_word _ = None

-- the kind that a word names
unfoldable pub kind_of : List ℕ → Option RecordKind
kind_of bs = imported_word (word_of bs)
