-- The days of a line's request are days of requests.
use Rattle.std.proofs.Common.{◌≡◌, ℕ, Bool, true, false, ◌&&◌, cond, List, [], ◌∷◌, Option, Some, None, Result, Ok, Err, IfOk, IfSome, refl, sym, subst}
use Rattle.card_events.specs.Dated.{is_request_day, is_dated_post, is_dated_shared, is_dated}
use Rattle.card_events.specs.declared.post.Post.{Post}
use Rattle.card_events.specs.declared.request.Request.{Request}
use Rattle.card_events.specs.declared.post.Terms.{Terms}
use Rattle.card_events.specs.Civil.{is_date, day_at}
use Rattle.card_lines.specs.declared.line.Line.{Line}
use Rattle.card_lines.specs.declared.line.Line.TheVariants as line
use Rattle.card_lines.specs.declared.word.PostKind.{PostKind}
use Rattle.card_lines.specs.declared.word.PostKind.TheVariants as post_kind
use Rattle.card_lines.specs.declared.word.Word.{Word}
use Rattle.card_lines.specs.declared.word.Word.TheVariants as word
use Rattle.card_lines.specs.Fields.{◌>>=◌, fields_of, field, formed, end_at}
use Rattle.card_lines.specs.Forms.{name_of, number_of, day_of, place_of, category_of, channel_of, plan_kind_of, finding_of, is_day_text, request_day_at}
use Rattle.card_lines.specs.Lines.{roll_of, holiday_of, fee_row_of, index_of, posted_of, show_of, request_line, show_line, line_of_word, line_of_known, line_of_fields, line_of, IsDatedLine}
use Rattle.card_lines.specs.Posts.{terms_of, opening_of, open_of, open_variable_of, charge_of, credit_of, payment_of, return_of, plan_of, notice_of, lower_of, penalty_of, review_of, dispute_of, ack_of, resolve_of, ask_refund_of, refund_of, amend_of, bill_of, post_of}
use Rattle.card_lines.specs.Words.{word_of}

abbrev IsDated : ℕ → Type 0
IsDated d = is_request_day d ≡ true

and_dated : (a b : Bool) (d : ℕ) → is_request_day d ≡ b → IfSome (cond (a && b) (Some d) None) IsDated
and_dated true true d is = is
and_dated true false d is = tt
and_dated false b d is = tt

at_dated : (y m d : ℕ) → IfSome (request_day_at y m d) IsDated
unfolding request_day_at
at_dated y m d = and_dated (is_date y m d) (is_request_day (day_at y m d)) (day_at y m d) refl

if_dated : (b : Bool) (o : Option ℕ) → IfSome o IsDated → IfSome (cond b o None) IsDated
if_dated true o is = is
if_dated false o is = tt

of_dated : (bs : List ℕ) → IfSome (day_of bs) IsDated
unfolding day_of
of_dated bs = if_dated (is_day_text bs) _ (at_dated _ _ _)

formed_dated : (n : ℕ) (fs : List (List ℕ)) (o : Option ℕ) → IfSome o IsDated → IfOk (formed n fs o) (λ x. IsDated x.0)
formed_dated n fs None is = tt
formed_dated n fs (Some d) is = is

field_dated : (n : ℕ) (fs : List (List ℕ)) → IfOk (field day_of n fs) (λ x. IsDated x.0)
field_dated n [] = tt
field_dated n (f ∷ fs) = formed_dated n fs (day_of f) (of_dated f)

pub bound : {A B : Type 0} (Q : A → Type 0) (P : B → Type 0) (r : Result A ℕ) (k : A → Result B ℕ) → IfOk r Q → ((x : A) → Q x → IfOk (k x) P) → IfOk (r >>= k) P
bound Q P (Ok x) k q h = h x q
bound Q P (Err n) k q h = tt

-- a day, and then the rest
pub on_day : {B : Type 0} (P : B → Type 0) (n : ℕ) (fs : List (List ℕ)) (k : ℕ × List (List ℕ) → Result B ℕ) → ((x : ℕ × List (List ℕ)) → IsDated x.0 → IfOk (k x) P) → IfOk (field day_of n fs >>= k) P
on_day P n fs k h = bound (λ x. IsDated x.0) P (field day_of n fs) k (field_dated n fs) h

-- something that is no day, and then the rest
pub skip : {A B : Type 0} (P : B → Type 0) (r : Result A ℕ) (k : A → Result B ℕ) → ((x : A) → IfOk (k x) P) → IfOk (r >>= k) P
skip P (Ok x) k h = h x
skip P (Err n) k h = tt

abbrev IsDatedPost : Post → Type 0
IsDatedPost p = is_dated_post p ≡ true

abbrev IsDatedRequest : Request → Type 0
IsDatedRequest r = is_dated r ≡ true

both : (a b : Bool) → a ≡ true → b ≡ true → (a && b) ≡ true
both a b one other = rw (one, other) refl

charge_dated : (fs : List (List ℕ)) → IfOk (charge_of fs) IsDatedPost
unfolding charge_of is_dated_post
charge_dated fs = on_day IsDatedPost 4 fs _ (λ day is_day. skip IsDatedPost (field place_of 5 day.1) _ (λ place. skip IsDatedPost (field number_of 6 place.1) _ (λ cents. skip IsDatedPost (end_at 7 cents.1) _ (λ _. is_day))))

credit_dated : (fs : List (List ℕ)) → IfOk (credit_of fs) IsDatedPost
unfolding credit_of is_dated_post
credit_dated fs = on_day IsDatedPost 4 fs _ (λ day is_day. skip IsDatedPost (field place_of 5 day.1) _ (λ place. skip IsDatedPost (field number_of 6 place.1) _ (λ cents. skip IsDatedPost (end_at 7 cents.1) _ (λ _. is_day))))

payment_dated : (fs : List (List ℕ)) → IfOk (payment_of fs) IsDatedPost
unfolding payment_of is_dated_post
payment_dated fs = on_day IsDatedPost 4 fs _ (λ day is_day. skip IsDatedPost (field number_of 5 day.1) _ (λ minute. skip IsDatedPost (field channel_of 6 minute.1) _ (λ channel. skip IsDatedPost (field number_of 7 channel.1) _ (λ cents. skip IsDatedPost (end_at 8 cents.1) _ (λ _. is_day)))))

return_dated : (fs : List (List ℕ)) → IfOk (return_of fs) IsDatedPost
unfolding return_of is_dated_post
return_dated fs = on_day IsDatedPost 4 fs _ (λ day is_day. skip IsDatedPost (field number_of 5 day.1) _ (λ target. skip IsDatedPost (end_at 6 target.1) _ (λ _. is_day)))

plan_dated : (fs : List (List ℕ)) → IfOk (plan_of fs) IsDatedPost
unfolding plan_of is_dated_post
plan_dated fs = on_day IsDatedPost 4 fs _ (λ day is_day. skip IsDatedPost (field plan_kind_of 5 day.1) _ (λ kind. skip IsDatedPost (field number_of 6 kind.1) _ (λ rate. on_day IsDatedPost 7 rate.1 _ (λ end is_end. skip IsDatedPost (field number_of 8 end.1) _ (λ after. skip IsDatedPost (end_at 9 after.1) _ (λ _. both _ _ is_day is_end))))))

notice_dated : (fs : List (List ℕ)) → IfOk (notice_of fs) IsDatedPost
unfolding notice_of is_dated_post
notice_dated fs = on_day IsDatedPost 4 fs _ (λ day is_day. skip IsDatedPost (field category_of 5 day.1) _ (λ category. skip IsDatedPost (field number_of 6 category.1) _ (λ rate. on_day IsDatedPost 7 rate.1 _ (λ effective is_effective. skip IsDatedPost (end_at 8 effective.1) _ (λ _. both _ _ is_day is_effective)))))

lower_dated : (fs : List (List ℕ)) → IfOk (lower_of fs) IsDatedPost
unfolding lower_of is_dated_post
lower_dated fs = on_day IsDatedPost 4 fs _ (λ day is_day. skip IsDatedPost (field category_of 5 day.1) _ (λ category. skip IsDatedPost (field number_of 6 category.1) _ (λ rate. skip IsDatedPost (end_at 7 rate.1) _ (λ _. is_day))))

penalty_dated : (fs : List (List ℕ)) → IfOk (penalty_of fs) IsDatedPost
unfolding penalty_of is_dated_post
penalty_dated fs = skip IsDatedPost (end_at 4 fs) _ (λ _. refl)

review_dated : (fs : List (List ℕ)) → IfOk (review_of fs) IsDatedPost
unfolding review_of is_dated_post
review_dated fs = on_day IsDatedPost 4 fs _ (λ day is_day. skip IsDatedPost (field finding_of 5 day.1) _ (λ finding. skip IsDatedPost (end_at 6 finding.1) _ (λ _. is_day)))

dispute_dated : (fs : List (List ℕ)) → IfOk (dispute_of fs) IsDatedPost
unfolding dispute_of is_dated_post
dispute_dated fs = on_day IsDatedPost 4 fs _ (λ day is_day. skip IsDatedPost (field number_of 5 day.1) _ (λ target. skip IsDatedPost (field number_of 6 target.1) _ (λ cents. skip IsDatedPost (end_at 7 cents.1) _ (λ _. is_day))))

ack_dated : (fs : List (List ℕ)) → IfOk (ack_of fs) IsDatedPost
unfolding ack_of is_dated_post
ack_dated fs = on_day IsDatedPost 4 fs _ (λ day is_day. skip IsDatedPost (field number_of 5 day.1) _ (λ target. skip IsDatedPost (end_at 6 target.1) _ (λ _. is_day)))

resolve_dated : (fs : List (List ℕ)) → IfOk (resolve_of fs) IsDatedPost
unfolding resolve_of is_dated_post
resolve_dated fs = on_day IsDatedPost 4 fs _ (λ day is_day. skip IsDatedPost (field number_of 5 day.1) _ (λ target. skip IsDatedPost (field number_of 6 target.1) _ (λ cents. skip IsDatedPost (end_at 7 cents.1) _ (λ _. is_day))))

ask_refund_dated : (fs : List (List ℕ)) → IfOk (ask_refund_of fs) IsDatedPost
unfolding ask_refund_of is_dated_post
ask_refund_dated fs = on_day IsDatedPost 4 fs _ (λ day is_day. skip IsDatedPost (end_at 5 day.1) _ (λ _. is_day))

refund_dated : (fs : List (List ℕ)) → IfOk (refund_of fs) IsDatedPost
unfolding refund_of is_dated_post
refund_dated fs = skip IsDatedPost (field number_of 4 fs) _ (λ cents. skip IsDatedPost (end_at 5 cents.1) _ (λ _. refl))

amend_dated : (fs : List (List ℕ)) → IfOk (amend_of fs) IsDatedPost
unfolding amend_of is_dated_post
amend_dated fs = skip IsDatedPost (field number_of 4 fs) _ (λ target. on_day IsDatedPost 5 target.1 _ (λ day is_day. skip IsDatedPost (field number_of 6 day.1) _ (λ cents. skip IsDatedPost (end_at 7 cents.1) _ (λ _. is_day))))

bill_dated : (fs : List (List ℕ)) → IfOk (bill_of fs) IsDatedPost
unfolding bill_of is_dated_post
bill_dated fs = skip IsDatedPost (field number_of 4 fs) _ (λ cycle. skip IsDatedPost (end_at 5 cycle.1) _ (λ _. refl))

abbrev IsDatedOpening : ℕ × Terms → Type 0
IsDatedOpening x = is_request_day x.0 ≡ true

opening_dated : (fs : List (List ℕ)) → IfOk (opening_of fs) IsDatedOpening
unfolding opening_of
opening_dated fs = on_day IsDatedOpening 4 fs _ (λ day is_day. skip IsDatedOpening (terms_of day.1) _ (λ terms. skip IsDatedOpening (end_at 12 terms.1) _ (λ _. is_day)))

open_dated : (fs : List (List ℕ)) → IfOk (open_of fs) IsDatedPost
unfolding open_of is_dated_post
open_dated fs = bound IsDatedOpening IsDatedPost (opening_of fs) _ (opening_dated fs) (λ opening is. is)

open_variable_dated : (fs : List (List ℕ)) → IfOk (open_variable_of fs) IsDatedPost
unfolding open_variable_of is_dated_post
open_variable_dated fs = bound IsDatedOpening IsDatedPost (opening_of fs) _ (opening_dated fs) (λ opening is. is)

post_dated : (kind : PostKind) (fs : List (List ℕ)) → IfOk (post_of kind fs) IsDatedPost
unfolding post_of
post_dated post_kind.Open fs = open_dated fs
post_dated post_kind.OpenVariable fs = open_variable_dated fs
post_dated post_kind.Charge fs = charge_dated fs
post_dated post_kind.Credit fs = credit_dated fs
post_dated post_kind.Payment fs = payment_dated fs
post_dated post_kind.Return fs = return_dated fs
post_dated post_kind.Plan fs = plan_dated fs
post_dated post_kind.Notice fs = notice_dated fs
post_dated post_kind.Lower fs = lower_dated fs
post_dated post_kind.Penalty fs = penalty_dated fs
post_dated post_kind.Review fs = review_dated fs
post_dated post_kind.Dispute fs = dispute_dated fs
post_dated post_kind.Ack fs = ack_dated fs
post_dated post_kind.Resolve fs = resolve_dated fs
post_dated post_kind.AskRefund fs = ask_refund_dated fs
post_dated post_kind.Refund fs = refund_dated fs
post_dated post_kind.Amend fs = amend_dated fs
post_dated post_kind.Bill fs = bill_dated fs

roll_dated : (fs : List (List ℕ)) → IfOk (roll_of fs) IsDatedRequest
unfolding roll_of is_dated is_dated_shared
roll_dated fs = on_day IsDatedRequest 2 fs _ (λ day is_day. skip IsDatedRequest (end_at 3 day.1) _ (λ _. is_day))

holiday_dated : (fs : List (List ℕ)) → IfOk (holiday_of fs) IsDatedRequest
unfolding holiday_of is_dated is_dated_shared
holiday_dated fs = on_day IsDatedRequest 2 fs _ (λ day is_day. skip IsDatedRequest (end_at 3 day.1) _ (λ _. is_day))

fee_row_dated : (fs : List (List ℕ)) → IfOk (fee_row_of fs) IsDatedRequest
unfolding fee_row_of is_dated is_dated_shared
fee_row_dated fs = on_day IsDatedRequest 2 fs _ (λ day is_day. skip IsDatedRequest (field number_of 3 day.1) _ (λ first. skip IsDatedRequest (field number_of 4 first.1) _ (λ repeat. skip IsDatedRequest (end_at 5 repeat.1) _ (λ _. is_day))))

index_dated : (fs : List (List ℕ)) → IfOk (index_of fs) IsDatedRequest
unfolding index_of is_dated is_dated_shared
index_dated fs = on_day IsDatedRequest 2 fs _ (λ day is_day. skip IsDatedRequest (field number_of 3 day.1) _ (λ rate. skip IsDatedRequest (end_at 4 rate.1) _ (λ _. is_day)))

posted_dated : (kind : PostKind) (fs : List (List ℕ)) → IfOk (posted_of kind fs) IsDatedRequest
unfolding posted_of is_dated
posted_dated kind fs =
    skip IsDatedRequest (field name_of 2 fs) _ (λ account. skip IsDatedRequest (field name_of 3 account.1) _ (λ key.
    bound IsDatedPost IsDatedRequest (post_of kind key.1) _ (post_dated kind key.1) (λ post is_post. is_post)))

request_dated : (r : Result Request ℕ) → IfOk r IsDatedRequest → IsDatedLine (request_line r)
request_dated (Ok r) is = is
request_dated (Err n) is = tt

show_dated : (r : Result (List ℕ) ℕ) → IsDatedLine (show_line r)
show_dated (Ok account) = tt
show_dated (Err n) = tt

word_dated : (w : Word) (fs : List (List ℕ)) → IsDatedLine (line_of_word w fs)
unfolding line_of_word
word_dated word.Roll fs = request_dated _ (roll_dated fs)
word_dated word.Holiday fs = request_dated _ (holiday_dated fs)
word_dated word.FeeRow fs = request_dated _ (fee_row_dated fs)
word_dated word.Index fs = request_dated _ (index_dated fs)
word_dated word.Show fs = show_dated (show_of fs)
word_dated (word.Post kind) fs = request_dated _ (posted_dated kind fs)

known_dated : (w : Option Word) (fs : List (List ℕ)) → IsDatedLine (line_of_known w fs)
known_dated None fs = tt
known_dated (Some w) fs = word_dated w fs

fields_dated : (fs : List (List ℕ)) → IsDatedLine (line_of_fields fs)
unfolding line_of_fields
fields_dated [] = tt
fields_dated (w ∷ fs) = known_dated (word_of w) fs

if_bad_dated : (b : Bool) (n : ℕ) (l : Line) → IsDatedLine l → IsDatedLine (cond b (line.Bad n) l)
if_bad_dated true n l is = tt
if_bad_dated false n l is = is

-- every day of a line's request is a day of requests
pub line_of_is_dated : (bs : List ℕ) → IsDatedLine (line_of bs)
unfolding line_of
line_of_is_dated bs = if_bad_dated _ 0 _ (fields_dated (fields_of bs))

-- and so of what is read from it
pub read_is_dated : (bs : List ℕ) (l : Line) → l ≡ line_of bs → IsDatedLine l
read_is_dated bs l is = subst IsDatedLine (sym is) (line_of_is_dated bs)
