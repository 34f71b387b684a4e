-- The fields of each kind of post, behind the account and the key. Their numbers count the word as 1.
use Rattle.std.specs.Prelude.{ℕ, List, Result, Ok}
use Rattle.card_events.specs.declared.post.Post.{Post}
use Rattle.card_events.specs.declared.post.Post.TheVariants as post
use Rattle.card_events.specs.declared.post.Terms.{Terms}
use Rattle.card_lines.specs.declared.word.PostKind.{PostKind}
use Rattle.card_lines.specs.declared.word.PostKind.TheVariants as post_kind
use Rattle.card_lines.specs.Fields.{◌>>=◌, field, end_at}
use Rattle.card_lines.specs.Forms.{number_of, day_of, place_of, category_of, channel_of, plan_kind_of, finding_of}

-- the penalty rate, floor and percentage
unfoldable pub last_terms_of : List (List ℕ) → Result ((ℕ × ℕ × ℕ) × List (List ℕ)) ℕ
last_terms_of fs = do
  penalty ← field number_of 9 fs
  floor ← field number_of 10 penalty.1
  pct ← field number_of 11 floor.1
  Ok ((penalty.0, floor.0, pct.0), pct.1)

-- closing day, the four rates, floor and percentage
unfoldable pub terms_of : List (List ℕ) → Result (Terms × List (List ℕ)) ℕ
terms_of fs = do
  close ← field number_of 5 fs
  purchase ← field number_of 6 close.1
  cash ← field number_of 7 purchase.1
  transfer ← field number_of 8 cash.1
  last ← last_terms_of transfer.1
  Ok (record { close = close.0; purchase = purchase.0; cash = cash.0; transfer = transfer.0; penalty = last.0.0; floor = last.0.1; pct = last.0.2 }, last.1)

-- day, terms
unfoldable pub opening_of : List (List ℕ) → Result (ℕ × Terms) ℕ
opening_of fs = do
  day ← field day_of 4 fs
  terms ← terms_of day.1
  _ ← end_at 12 terms.1
  Ok (day.0, terms.0)

-- an opening with fixed rates
unfoldable pub open_of : List (List ℕ) → Result Post ℕ
open_of fs = do
  opening ← opening_of fs
  Ok (post.Open opening.0 opening.1)

-- an opening whose rates follow the index
unfoldable pub open_variable_of : List (List ℕ) → Result Post ℕ
open_variable_of fs = do
  opening ← opening_of fs
  Ok (post.OpenVariable opening.0 opening.1)

-- day, place, cents
unfoldable pub charge_of : List (List ℕ) → Result Post ℕ
charge_of fs = do
  day ← field day_of 4 fs
  place ← field place_of 5 day.1
  cents ← field number_of 6 place.1
  _ ← end_at 7 cents.1
  Ok (post.Charge day.0 place.0 cents.0)

-- day, place, cents
unfoldable pub credit_of : List (List ℕ) → Result Post ℕ
credit_of fs = do
  day ← field day_of 4 fs
  place ← field place_of 5 day.1
  cents ← field number_of 6 place.1
  _ ← end_at 7 cents.1
  Ok (post.Credit day.0 place.0 cents.0)

-- day, minute, channel, cents
unfoldable pub payment_of : List (List ℕ) → Result Post ℕ
payment_of fs = do
  day ← field day_of 4 fs
  minute ← field number_of 5 day.1
  channel ← field channel_of 6 minute.1
  cents ← field number_of 7 channel.1
  _ ← end_at 8 cents.1
  Ok (post.Payment day.0 minute.0 channel.0 cents.0)

-- day, target
unfoldable pub return_of : List (List ℕ) → Result Post ℕ
return_of fs = do
  day ← field day_of 4 fs
  target ← field number_of 5 day.1
  _ ← end_at 6 target.1
  Ok (post.Return day.0 target.0)

-- day, kind of plan, rate, end, rate after
unfoldable pub plan_of : List (List ℕ) → Result Post ℕ
plan_of fs = do
  day ← field day_of 4 fs
  kind ← field plan_kind_of 5 day.1
  rate ← field number_of 6 kind.1
  end ← field day_of 7 rate.1
  after ← field number_of 8 end.1
  _ ← end_at 9 after.1
  Ok (post.Plan day.0 kind.0 rate.0 end.0 after.0)

-- day, category, rate, effective day
unfoldable pub notice_of : List (List ℕ) → Result Post ℕ
notice_of fs = do
  day ← field day_of 4 fs
  category ← field category_of 5 day.1
  rate ← field number_of 6 category.1
  effective ← field day_of 7 rate.1
  _ ← end_at 8 effective.1
  Ok (post.Notice day.0 category.0 rate.0 effective.0)

-- day, category, rate
unfoldable pub lower_of : List (List ℕ) → Result Post ℕ
lower_of fs = do
  day ← field day_of 4 fs
  category ← field category_of 5 day.1
  rate ← field number_of 6 category.1
  _ ← end_at 7 rate.1
  Ok (post.Lower day.0 category.0 rate.0)

-- no field
unfoldable pub penalty_of : List (List ℕ) → Result Post ℕ
penalty_of fs = do
  _ ← end_at 4 fs
  Ok post.Penalty

-- day, finding
unfoldable pub review_of : List (List ℕ) → Result Post ℕ
review_of fs = do
  day ← field day_of 4 fs
  finding ← field finding_of 5 day.1
  _ ← end_at 6 finding.1
  Ok (post.Review day.0 finding.0)

-- day, target, cents
unfoldable pub dispute_of : List (List ℕ) → Result Post ℕ
dispute_of fs = do
  day ← field day_of 4 fs
  target ← field number_of 5 day.1
  cents ← field number_of 6 target.1
  _ ← end_at 7 cents.1
  Ok (post.Dispute day.0 target.0 cents.0)

-- day, target
unfoldable pub ack_of : List (List ℕ) → Result Post ℕ
ack_of fs = do
  day ← field day_of 4 fs
  target ← field number_of 5 day.1
  _ ← end_at 6 target.1
  Ok (post.Ack day.0 target.0)

-- day, target, cents
unfoldable pub resolve_of : List (List ℕ) → Result Post ℕ
resolve_of fs = do
  day ← field day_of 4 fs
  target ← field number_of 5 day.1
  cents ← field number_of 6 target.1
  _ ← end_at 7 cents.1
  Ok (post.Resolve day.0 target.0 cents.0)

-- day
unfoldable pub ask_refund_of : List (List ℕ) → Result Post ℕ
ask_refund_of fs = do
  day ← field day_of 4 fs
  _ ← end_at 5 day.1
  Ok (post.AskRefund day.0)

-- cents
unfoldable pub refund_of : List (List ℕ) → Result Post ℕ
refund_of fs = do
  cents ← field number_of 4 fs
  _ ← end_at 5 cents.1
  Ok (post.Refund cents.0)

-- target, day, cents
unfoldable pub amend_of : List (List ℕ) → Result Post ℕ
amend_of fs = do
  target ← field number_of 4 fs
  day ← field day_of 5 target.1
  cents ← field number_of 6 day.1
  _ ← end_at 7 cents.1
  Ok (post.Amend target.0 day.0 cents.0)

-- cycle
unfoldable pub bill_of : List (List ℕ) → Result Post ℕ
bill_of fs = do
  cycle ← field number_of 4 fs
  _ ← end_at 5 cycle.1
  Ok (post.Bill cycle.0)

-- the post of this kind that the fields behind account and key give
unfoldable pub post_of : PostKind → List (List ℕ) → Result Post ℕ
post_of post_kind.Open fs = open_of fs
post_of post_kind.OpenVariable fs = open_variable_of fs
post_of post_kind.Charge fs = charge_of fs
post_of post_kind.Credit fs = credit_of fs
post_of post_kind.Payment fs = payment_of fs
post_of post_kind.Return fs = return_of fs
post_of post_kind.Plan fs = plan_of fs
post_of post_kind.Notice fs = notice_of fs
post_of post_kind.Lower fs = lower_of fs
post_of post_kind.Penalty fs = penalty_of fs
post_of post_kind.Review fs = review_of fs
post_of post_kind.Dispute fs = dispute_of fs
post_of post_kind.Ack fs = ack_of fs
post_of post_kind.Resolve fs = resolve_of fs
post_of post_kind.AskRefund fs = ask_refund_of fs
post_of post_kind.Refund fs = refund_of fs
post_of post_kind.Amend fs = amend_of fs
post_of post_kind.Bill fs = bill_of fs
