-- What a line says.
use Rattle.std.specs.Prelude.{◌≡◌, ℕ, true, nat_lt, if◌then◌else◌, List, [], ◌∷◌, length, Option, Some, None, Result, Ok, Err}
use Rattle.card_events.specs.Dated.{is_dated}
use Rattle.card_events.specs.declared.request.Request.{Request}
use Rattle.card_events.specs.declared.request.Request.TheVariants as request
use Rattle.card_events.specs.declared.request.Shared.TheVariants as shared
use Rattle.card_lines.specs.declared.line.Line.{Line}
use Rattle.card_lines.specs.declared.line.Line.TheVariants as line
use Rattle.card_lines.specs.declared.word.PostKind.{PostKind}
use Rattle.card_lines.specs.declared.word.Word.{Word}
use Rattle.card_lines.specs.declared.word.Word.TheVariants as word
use Rattle.card_lines.specs.Fields.{fields_of, ◌>>=◌, field, end_at}
use Rattle.card_lines.specs.Forms.{name_of, number_of, day_of}
use Rattle.card_lines.specs.Posts.{post_of}
use Rattle.card_lines.specs.Words.{word_of}

-- day
unfoldable pub roll_of : List (List ℕ) → Result Request ℕ
roll_of fs = do
  day ← field day_of 2 fs
  _ ← end_at 3 day.1
  Ok (request.Shared (shared.Roll day.0))

-- day
unfoldable pub holiday_of : List (List ℕ) → Result Request ℕ
holiday_of fs = do
  day ← field day_of 2 fs
  _ ← end_at 3 day.1
  Ok (request.Shared (shared.Holiday day.0))

-- day, first fee, repeated fee
unfoldable pub fee_row_of : List (List ℕ) → Result Request ℕ
fee_row_of fs = do
  day ← field day_of 2 fs
  first ← field number_of 3 day.1
  repeat ← field number_of 4 first.1
  _ ← end_at 5 repeat.1
  Ok (request.Shared (shared.FeeRow day.0 first.0 repeat.0))

-- day, rate
unfoldable pub index_of : List (List ℕ) → Result Request ℕ
index_of fs = do
  day ← field day_of 2 fs
  rate ← field number_of 3 day.1
  _ ← end_at 4 rate.1
  Ok (request.Shared (shared.Index day.0 rate.0))

-- account, key, and the fields of the post
unfoldable pub posted_of : PostKind → List (List ℕ) → Result Request ℕ
posted_of kind fs = do
  account ← field name_of 2 fs
  key ← field name_of 3 account.1
  post ← post_of kind key.1
  Ok (request.Post account.0 key.0 post)

-- account
unfoldable pub show_of : List (List ℕ) → Result (List ℕ) ℕ
show_of fs = do
  account ← field name_of 2 fs
  _ ← end_at 3 account.1
  Ok account.0

-- a request, or the number of the bad field
abbrev pub request_line : Result Request ℕ → Line
request_line (Ok r) = line.Request r
request_line (Err n) = line.Bad n

-- an account to show, or the number of the bad field
abbrev pub show_line : Result (List ℕ) ℕ → Line
show_line (Ok account) = line.Show account
show_line (Err n) = line.Bad n

-- what the fields behind a word say
unfoldable pub line_of_word : Word → List (List ℕ) → Line
line_of_word word.Roll fs = request_line (roll_of fs)
line_of_word word.Holiday fs = request_line (holiday_of fs)
line_of_word word.FeeRow fs = request_line (fee_row_of fs)
line_of_word word.Index fs = request_line (index_of fs)
line_of_word word.Show fs = show_line (show_of fs)
line_of_word (word.Post kind) fs = request_line (posted_of kind fs)

-- a word that isn't known is a bad first field
abbrev pub line_of_known : Option Word → List (List ℕ) → Line
line_of_known None fs = line.Bad 1
line_of_known (Some w) fs = line_of_word w fs

-- what fields say, the first of which is a word
unfoldable pub line_of_fields : List (List ℕ) → Line
line_of_fields [] = line.Bad 1
line_of_fields (w ∷ fs) = line_of_known (word_of w) fs

-- what a line says, without its line feed and a carriage return before that: at most 512 bytes, else it is bad at 0
unfoldable pub line_of : List ℕ → Line
line_of bs = if nat_lt 512 (length bs) then line.Bad 0 else line_of_fields (fields_of bs)

-- every day of the line's request is a day of requests
abbrev pub IsDatedLine : Line → Type 0
IsDatedLine (line.Request r) = is_dated r ≡ true
IsDatedLine (line.Show account) = Unit {0}
IsDatedLine (line.Bad n) = Unit {0}
