-- The days of a record's request are days of requests.
use Rattle.std.proofs.Common.{◌≡◌, ℕ, ◌-◌, ◌==◌, Bool, true, false, cond, List, [], ◌∷◌, Option, Some, None, ok_or, Result, Ok, Err, IfOk, IfSome, refl, sym, subst}
use Rattle.card_events.specs.Dated.{is_request_day, is_dated_post, is_dated}
use Rattle.card_events.specs.declared.post.Post.{Post}
use Rattle.card_events.specs.declared.request.Request.{Request}
use Rattle.card_lines.specs.Fields.{◌>>=◌, formed}
use Rattle.card_lines.specs.Forms.{name_of, number_of, day_of, place_of, channel_of}
use Rattle.card_lines.proofs.DatedLemmas.{bound, on_day, skip}
use Rattle.csv.specs.Records.{field_at}
use Rattle.card_text.specs.declared.item.Item.{Item}
use Rattle.card_text.specs.declared.kind.RecordKind.{RecordKind}
use Rattle.card_text.specs.declared.kind.RecordKind.TheVariants as kind
use Rattle.card_text.specs.declared.post.Movement.{Movement}
use Rattle.card_text.specs.Columns.{in_form, column, exactly, no_column}
use Rattle.card_text.specs.Import.{header_of, movement_of, payment_of, post_of, request_of, numbered, header_item, item_of_record}
use Rattle.card_text.specs.Items.{IsDatedItem}
use Rattle.card_text.specs.Kinds.{kind_of}

abbrev IsDated : ℕ → Type 0
IsDated d = is_request_day d ≡ true

same_read : {B : Type 0} (o : Option ℕ) (n : ℕ) (k : ℕ → Result B ℕ) → (formed n [] o >>= (λ x. k x.0)) ≡ (ok_or o n >>= k)
same_read None n k = refl
same_read (Some d) n k = refl

form_dated : {B : Type 0} (P : B → Type 0) (n : ℕ) (o : Option (List ℕ)) (k : ℕ → Result B ℕ) → ((d : ℕ) → IsDated d → IfOk (k d) P) → IfOk (in_form day_of n o >>= k) P
form_dated P n None k h = tt
form_dated P n (Some f) k h = subst (λ r. IfOk r P) (same_read (day_of f) n k) (on_day P n (f ∷ []) (λ x. k x.0) (λ x is. h x.0 is))

-- the column of a day, and then the rest
on_day_column : {B : Type 0} (P : B → Type 0) (n : ℕ) (fs : List (List ℕ)) (k : ℕ → Result B ℕ) → ((d : ℕ) → IsDated d → IfOk (k d) P) → IfOk (column day_of n fs >>= k) P
on_day_column P n fs k h = form_dated P n (field_at fs (n - 1)) k h

abbrev IsDatedMovement : Movement → Type 0
IsDatedMovement m = IsDated m.day

abbrev IsDatedPost : Post → Type 0
IsDatedPost p = is_dated_post p ≡ true

abbrev IsDatedRequest : Request → Type 0
IsDatedRequest r = is_dated r ≡ true

movement_dated : (fs : List (List ℕ)) → IfOk (movement_of fs) IsDatedMovement
unfolding movement_of
movement_dated fs =
    on_day_column IsDatedMovement 4 fs _ (λ day is. skip IsDatedMovement (column place_of 5 fs) _ (λ place. skip IsDatedMovement (column number_of 6 fs) _ (λ cents.
    skip IsDatedMovement (column (exactly []) 7 fs) _ (λ _. skip IsDatedMovement (column (exactly []) 8 fs) _ (λ _. is)))))

payment_dated : (fs : List (List ℕ)) → IfOk (payment_of fs) IsDatedPost
unfolding payment_of is_dated_post
payment_dated fs =
    on_day_column IsDatedPost 4 fs _ (λ day is. skip IsDatedPost (column (exactly []) 5 fs) _ (λ _. skip IsDatedPost (column number_of 6 fs) _ (λ cents.
    skip IsDatedPost (column number_of 7 fs) _ (λ minute. skip IsDatedPost (column channel_of 8 fs) _ (λ channel. is)))))

post_dated : (k : RecordKind) (fs : List (List ℕ)) → IfOk (post_of k fs) IsDatedPost
unfolding post_of is_dated_post
post_dated kind.Charge fs = bound IsDatedMovement IsDatedPost (movement_of fs) _ (movement_dated fs) (λ moved is. is)
post_dated kind.Credit fs = bound IsDatedMovement IsDatedPost (movement_of fs) _ (movement_dated fs) (λ moved is. is)
post_dated kind.Payment fs = payment_dated fs

request_dated : (fs : List (List ℕ)) → IfOk (request_of fs) IsDatedRequest
unfolding request_of is_dated
request_dated fs =
    skip IsDatedRequest (column name_of 1 fs) _ (λ account. skip IsDatedRequest (column name_of 2 fs) _ (λ key. skip IsDatedRequest (column kind_of 3 fs) _ (λ kind.
    bound IsDatedPost IsDatedRequest (post_of kind fs) _ (post_dated kind fs) (λ post is. skip IsDatedRequest (no_column 9 fs) _ (λ _. is)))))

numbered_dated : (row : ℕ) (r : Result Request ℕ) → IfOk r IsDatedRequest → IsDatedItem (numbered row r)
numbered_dated row (Ok r) is = is
numbered_dated row (Err n) is = tt

header_dated : (r : Result (Unit {0}) ℕ) → IfSome (header_item r) IsDatedItem
header_dated (Ok _) = tt
header_dated (Err n) = tt

either_dated : (b : Bool) (o p : Option Item) → IfSome o IsDatedItem → IfSome p IsDatedItem → IfSome (cond b o p) IsDatedItem
either_dated true o p one other = one
either_dated false o p one other = other

item_dated : (row : ℕ) (fs : List (List ℕ)) → IfSome (item_of_record row fs) IsDatedItem
unfolding item_of_record
item_dated row fs = either_dated (row == 1) (header_item (header_of fs)) (Some (numbered row (request_of fs))) (header_dated (header_of fs)) (numbered_dated row (request_of fs) (request_dated fs))

-- every day of what is read from a record is a day of requests
pub read_is_dated : (row : ℕ) (fs : List (List ℕ)) (item : Option Item) → item ≡ item_of_record row fs → IfSome item IsDatedItem
read_is_dated row fs item is = subst (λ (o : Option Item). IfSome o IsDatedItem) (sym is) (item_dated row fs)
