-- The bytes of answers.
use Rattle.std.specs.Prelude.{ℕ, Bool, true, false, List, [], ◌∷◌, ◌++◌, length, codes, decimal}
use Rattle.std.specs.Option.{unwrap_or}
use Rattle.http.specs.StatusCode.{reason_phrase}
use Rattle.card_events.specs.declared.reply.Reply.{Reply}
use Rattle.card_events.specs.declared.reply.Reply.TheVariants as reply
use Rattle.card_text.specs.Absent.{none_line}
use Rattle.card_wire.specs.Answers.{ok_text, refused_text}
use Rattle.card_wire.specs.declared.wanted.Early.{Early}
use Rattle.card_wire.specs.declared.wanted.Early.TheVariants as early
use Rattle.card_http.specs.declared.status.Status.{Status}
use Rattle.card_http.specs.declared.status.Status.TheVariants as status

-- the number of a status
unfoldable pub status_code : Status → ℕ
status_code status.Done = 200
status_code status.BadRequest = 400
status_code status.NotFound = 404
status_code status.BadMethod = 405
status_code status.Conflict = 409
status_code status.TooLarge = 413
status_code status.NoRequest = 422
status_code status.LongHead = 431
status_code status.Unavailable = 503
status_code status.NoStorage = 507

-- its phrase, by the registry of statuses
unfoldable pub phrase : Status → List ℕ
phrase s = unwrap_or (reason_phrase (status_code s)) []

-- the type of a body
unfoldable pub content_type : Bool → List ℕ
content_type true = codes "application/json"
content_type false = codes "text/plain; charset=utf-8"

-- the first line: version, status and phrase
unfoldable pub status_line : Status → List ℕ
status_line s = codes "HTTP/1.1 " ++ decimal (status_code s) ++ 32 ∷ [] ++ phrase s ++ codes "\r\n"

-- the type of the body
unfoldable pub type_line : Bool → List ℕ
type_line json = codes "Content-Type: " ++ content_type json ++ codes "\r\n"

-- its length
unfoldable pub length_line : ℕ → List ℕ
length_line n = codes "Content-Length: " ++ decimal n ++ codes "\r\n"

-- the connection is closed; and the empty line
unfoldable pub closing_lines : List ℕ
closing_lines = codes "Connection: close\r\n\r\n"

-- the bytes of an answer
unfoldable pub answer_text : Status → Bool → List ℕ → List ℕ
answer_text s json body = status_line s ++ type_line json ++ length_line (length body) ++ closing_lines ++ body

-- the status of an answer that is given without the body
abbrev pub early_status : Early → Status
early_status early.BadRequest = status.BadRequest
early_status early.NotFound = status.NotFound
early_status early.BadMethod = status.BadMethod
early_status early.TooLarge = status.TooLarge

-- and its text
abbrev pub early_text : Early → List ℕ
early_text early.BadRequest = codes "bad request\n"
early_text early.NotFound = none_line
early_text early.BadMethod = codes "bad method\n"
early_text early.TooLarge = codes "body too large\n"

-- the status of a reply
abbrev pub reply_status : Reply → Status
reply_status reply.Done = status.Done
reply_status (reply.Accepted n) = status.Done
reply_status (reply.Refused r) = status.Conflict

-- and its text
abbrev pub reply_json : Reply → List ℕ
reply_json reply.Done = ok_text 0
reply_json (reply.Accepted n) = ok_text n
reply_json (reply.Refused r) = refused_text r
