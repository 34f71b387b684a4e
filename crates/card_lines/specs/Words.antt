-- The words that lines begin with.
use Rattle.std.specs.Prelude.{ℕ, if◌then◌else◌, List, Option, Some, None, codes}
use Rattle.std.specs.Str.{bytes_eq}
use Rattle.card_lines.specs.declared.word.PostKind.{PostKind}
use Rattle.card_lines.specs.declared.word.PostKind.TheVariants as kind
use Rattle.card_lines.specs.declared.word.Word.{Word}
use Rattle.card_lines.specs.declared.word.Word.TheVariants as word

-- the kind of post that a word names, of those that follow up on others
unfoldable pub follow_up_of : List ℕ → Option PostKind
follow_up_of bs =
    if bytes_eq bs (codes "penalty") then Some kind.Penalty
    else if bytes_eq bs (codes "review") then Some kind.Review
    else if bytes_eq bs (codes "dispute") then Some kind.Dispute
    else if bytes_eq bs (codes "ack") then Some kind.Ack
    else if bytes_eq bs (codes "resolve") then Some kind.Resolve
    else if bytes_eq bs (codes "askrefund") then Some kind.AskRefund
    else if bytes_eq bs (codes "refund") then Some kind.Refund
    else if bytes_eq bs (codes "amend") then Some kind.Amend
    else if bytes_eq bs (codes "bill") then Some kind.Bill
    else None

-- the kind of post that a word names
unfoldable pub post_kind_of : List ℕ → Option PostKind
post_kind_of bs =
    if bytes_eq bs (codes "open") then Some kind.Open
    else if bytes_eq bs (codes "openvar") then Some kind.OpenVariable
    else if bytes_eq bs (codes "charge") then Some kind.Charge
    else if bytes_eq bs (codes "credit") then Some kind.Credit
    else if bytes_eq bs (codes "payment") then Some kind.Payment
    else if bytes_eq bs (codes "return") then Some kind.Return
    else if bytes_eq bs (codes "plan") then Some kind.Plan
    else if bytes_eq bs (codes "notice") then Some kind.Notice
    else if bytes_eq bs (codes "lower") then Some kind.Lower
    else follow_up_of bs

-- the word that a posted request begins with
abbrev pub posted_word : Option PostKind → Option Word
posted_word None = None
posted_word (Some k) = Some (word.Post k)

-- the word that a line begins with
unfoldable pub word_of : List ℕ → Option Word
word_of bs =
    if bytes_eq bs (codes "roll") then Some word.Roll
    else if bytes_eq bs (codes "holiday") then Some word.Holiday
    else if bytes_eq bs (codes "feerow") then Some word.FeeRow
    else if bytes_eq bs (codes "index") then Some word.Index
    else if bytes_eq bs (codes "show") then Some word.Show
    else posted_word (post_kind_of bs)
