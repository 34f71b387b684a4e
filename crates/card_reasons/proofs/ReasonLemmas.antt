-- The first reason, by its parts.
use Rattle.std.proofs.Common.{◌≡◌, ℕ, zero, suc, ◌≤◌, Bool, true, false, List, [], ◌∷◌, ◌++◌, length, drop, Option, Some, None, refl, ap, sym, ◌∙◌, subst, arith}
use Rattle.std.specs.Prelude.{nat_lt, nat_le, ◌||◌, ◌==◌, pos}
use Rattle.std.specs.Option.{option_or}
use Rattle.std.proofs.lemmas.Bool.{and_parts, le-ltb, leb-true, ltb-false, ne_eqb}
use Rattle.card_events.specs.Range.{last_request_day}
use Rattle.card_reasons.specs.Reasons.{bill_reason, closed_reason, early_reason, end_reason, full_reason, is_no_cycle, claim_reason, notice_reason, open_dispute_reason, place_reason, returned_reason, target_reason}
use Rattle.card_events.specs.Billing.{closing}
use Rattle.card_events.specs.declared.anchor.Anchor.{Anchor}
use Rattle.card_events.specs.declared.anchor.Channel.{Channel}
use Rattle.card_events.specs.Dated.{is_dated_post}
use Rattle.card_events.specs.declared.kept.Kept.{Kept}
use Rattle.card_events.specs.declared.post.Category.{Category}
use Rattle.card_events.specs.declared.post.Finding.{Finding}
use Rattle.card_events.specs.declared.post.Place.{Place}
use Rattle.card_events.specs.declared.post.PlanKind.{PlanKind}
use Rattle.card_events.specs.declared.post.Post.{Post}
use Rattle.card_events.specs.declared.post.Post.TheVariants as post
use Rattle.card_events.specs.declared.reply.Refusal.{Refusal}
use Rattle.card_events.specs.declared.reply.Refusal.TheVariants as refusal
use Rattle.card_events.specs.Money.{rate_limit}
use Rattle.card_events.specs.Business.{last_minute}
use Rattle.card_model.specs.Entries.{credit_balance}
use Rattle.card_model.specs.Payments.{sixty_days_late}
use Rattle.card_model.specs.Refusals
use Rattle.card_model.specs.Refusals.{Present, account_full, amount_range, anchor_now, book_today, day_ahead, day_before_open, first_reason, holds_of, is_above_claim, is_no_amount, is_out_of_range, named, not_closed, reason_against, seen_today, segments_full, where_true, wrong_entry}

-- ---- an opening
-- what comes first, and then the reasons behind it
pub first_is : (o : Option Refusal) (r : Refusal) (rest : List (Option Refusal)) → o ≡ Some r → Some r ≡ first_reason (o ∷ rest)
first_is o r rest is = subst (λ (p : Option Refusal). Some r ≡ option_or p (first_reason rest)) (sym is) refl

pub first_after : (o : Option Refusal) (rest : List (Option Refusal)) → o ≡ None → first_reason rest ≡ first_reason (o ∷ rest)
first_after o rest is = subst (λ (p : Option Refusal). first_reason rest ≡ option_or p (first_reason rest)) (sym is) refl

-- ---- where there is none
pub none_from : (n : ℕ) (rs : List (Option Refusal)) → first_reason rs ≡ None → first_reason (drop n rs) ≡ None
none_from zero rs none = none
none_from (suc n) [] none = none
none_from (suc n) (None ∷ rs) none = none_from n rs none
none_from (suc n) (Some r ∷ rs) none = absurd (cc)

pub none_head : (r : Option Refusal) (rs : List (Option Refusal)) → first_reason (r ∷ rs) ≡ None → r ≡ None
none_head None rs none = refl
none_head (Some r) rs none = absurd (cc)

pub none_tail : (r : Option Refusal) (rs : List (Option Refusal)) → first_reason (r ∷ rs) ≡ None → first_reason rs ≡ None
none_tail None rs none = none
none_tail (Some r) rs none = absurd (cc)

pub where_none : (b : Bool) (r : Refusal) → where_true b r ≡ None → b ≡ false
where_none true r none = absurd (cc)
where_none false r none = refl

-- ---- the reasons that may hold
-- reasons in parts are those in one list
last : (ms : List (Option Refusal)) (f : Option Refusal) → option_or (first_reason ms) f ≡ first_reason (ms ++ f ∷ [])
last [] None = refl
last [] (Some r) = refl
last (None ∷ ms) f = last ms f
last (Some r ∷ ms) f = refl

joined : (a b c : Option Refusal) (ms : List (Option Refusal)) (f : Option Refusal) → option_or (first_reason (a ∷ b ∷ c ∷ [])) (option_or (first_reason ms) f) ≡ first_reason (a ∷ b ∷ c ∷ ms ++ f ∷ [])
joined (Some x) b c ms f = refl
joined None (Some x) c ms f = refl
joined None None (Some x) ms f = refl
joined None None None ms f = last ms f

-- two and three of them, one after the other
pub two : (a b : Option Refusal) → option_or a b ≡ first_reason (a ∷ b ∷ [])
two (Some x) b = refl
two None (Some x) = refl
two None None = refl

pub three : (a b c : Option Refusal) → option_or a (option_or b c) ≡ first_reason (a ∷ b ∷ c ∷ [])
three (Some x) b c = refl
three None b c = two b c

-- and one
alone : (a : Option Refusal) → a ≡ first_reason (a ∷ [])
alone (Some x) = refl
alone None = refl

-- those of a post of a day, with what its kind adds
abbrev pub WithAdded : Present → Post → ℕ → Bool → Option Refusal → Type 0
WithAdded now p day out added = option_or (early_reason out now.today (anchor_now now).opened day) (option_or added (full_reason (length now.lists.posts))) ≡ reason_against now p

pub charge_reasons : (now : Present) (day cents : ℕ) (p : Place) → WithAdded now (post.Charge day p cents) day (is_no_amount cents) (place_reason now (post.Charge day p cents))
unfolding early_reason place_reason end_reason target_reason returned_reason notice_reason claim_reason open_dispute_reason reason_against Refusals.is_out_of_range Refusals.unknown_plan Refusals.outside_plan Refusals.plan_end_not_closing Refusals.plan_too_short Refusals.wrong_entry Refusals.already_returned Refusals.first_year Refusals.notice_pending Refusals.not_delinquent Refusals.dispute_late Refusals.dispute_known Refusals.no_open_dispute Refusals.not_closed Refusals.refund_too_large Refusals.nothing_to_review
charge_reasons now day cents p =
    let q = post.Charge day p cents in
    joined (amount_range now q) (day_ahead now.today q) (day_before_open now q) (Refusals.unknown_plan now q ∷ Refusals.outside_plan now q ∷ []) (account_full now)

pub credit_reasons : (now : Present) (day cents : ℕ) (p : Place) → WithAdded now (post.Credit day p cents) day (is_no_amount cents) (place_reason now (post.Credit day p cents))
unfolding early_reason place_reason end_reason target_reason returned_reason notice_reason claim_reason open_dispute_reason reason_against Refusals.is_out_of_range Refusals.unknown_plan Refusals.outside_plan Refusals.plan_end_not_closing Refusals.plan_too_short Refusals.wrong_entry Refusals.already_returned Refusals.first_year Refusals.notice_pending Refusals.not_delinquent Refusals.dispute_late Refusals.dispute_known Refusals.no_open_dispute Refusals.not_closed Refusals.refund_too_large Refusals.nothing_to_review
credit_reasons now day cents p =
    let q = post.Credit day p cents in
    joined (amount_range now q) (day_ahead now.today q) (day_before_open now q) (Refusals.unknown_plan now q ∷ None ∷ []) (account_full now)

pub payment_reasons : (now : Present) (day minute cents : ℕ) (by : Channel) → WithAdded now (post.Payment day minute by cents) day (is_no_amount cents || nat_lt last_minute minute) (None)
unfolding early_reason place_reason end_reason target_reason returned_reason notice_reason claim_reason open_dispute_reason reason_against Refusals.is_out_of_range Refusals.unknown_plan Refusals.outside_plan Refusals.plan_end_not_closing Refusals.plan_too_short Refusals.wrong_entry Refusals.already_returned Refusals.first_year Refusals.notice_pending Refusals.not_delinquent Refusals.dispute_late Refusals.dispute_known Refusals.no_open_dispute Refusals.not_closed Refusals.refund_too_large Refusals.nothing_to_review
payment_reasons now day minute cents by =
    let q = post.Payment day minute by cents in
    joined (amount_range now q) (day_ahead now.today q) (day_before_open now q) ([]) (account_full now)

pub amend_reasons : (now : Present) (target day cents : ℕ) → WithAdded now (post.Amend target day cents) day (nat_lt 1000000000 cents) (target_reason now (post.Amend target day cents))
unfolding early_reason place_reason end_reason target_reason returned_reason notice_reason claim_reason open_dispute_reason reason_against Refusals.is_out_of_range Refusals.unknown_plan Refusals.outside_plan Refusals.plan_end_not_closing Refusals.plan_too_short Refusals.wrong_entry Refusals.already_returned Refusals.first_year Refusals.notice_pending Refusals.not_delinquent Refusals.dispute_late Refusals.dispute_known Refusals.no_open_dispute Refusals.not_closed Refusals.refund_too_large Refusals.nothing_to_review
amend_reasons now target day cents =
    let q = post.Amend target day cents in
    joined (amount_range now q) (day_ahead now.today q) (day_before_open now q) (Refusals.outside_plan now q ∷ Refusals.wrong_entry now q ∷ []) (account_full now)

pub return_reasons : (now : Present) (day target : ℕ) → WithAdded now (post.Return day target) day (false) (returned_reason now (post.Return day target))
unfolding early_reason place_reason end_reason target_reason returned_reason notice_reason claim_reason open_dispute_reason reason_against Refusals.is_out_of_range Refusals.unknown_plan Refusals.outside_plan Refusals.plan_end_not_closing Refusals.plan_too_short Refusals.wrong_entry Refusals.already_returned Refusals.first_year Refusals.notice_pending Refusals.not_delinquent Refusals.dispute_late Refusals.dispute_known Refusals.no_open_dispute Refusals.not_closed Refusals.refund_too_large Refusals.nothing_to_review
return_reasons now day target =
    let q = post.Return day target in
    joined (amount_range now q) (day_ahead now.today q) (day_before_open now q) (Refusals.wrong_entry now q ∷ Refusals.already_returned now q ∷ []) (account_full now)

pub plan_reasons : (now : Present) (day rate end after : ℕ) (kind : PlanKind) → WithAdded now (post.Plan day kind rate end after) day (nat_lt rate_limit rate || nat_lt rate_limit after) (end_reason now (post.Plan day kind rate end after))
unfolding early_reason place_reason end_reason target_reason returned_reason notice_reason claim_reason open_dispute_reason reason_against Refusals.is_out_of_range Refusals.unknown_plan Refusals.outside_plan Refusals.plan_end_not_closing Refusals.plan_too_short Refusals.wrong_entry Refusals.already_returned Refusals.first_year Refusals.notice_pending Refusals.not_delinquent Refusals.dispute_late Refusals.dispute_known Refusals.no_open_dispute Refusals.not_closed Refusals.refund_too_large Refusals.nothing_to_review
plan_reasons now day rate end after kind =
    let q = post.Plan day kind rate end after in
    joined (amount_range now q) (day_ahead now.today q) (day_before_open now q) (Refusals.plan_end_not_closing now q ∷ Refusals.plan_too_short q ∷ segments_full now q ∷ []) (account_full now)

pub notice_reasons : (now : Present) (day rate effective : ℕ) (category : Category) → WithAdded now (post.Notice day category rate effective) day (nat_lt rate_limit rate) (notice_reason now (post.Notice day category rate effective))
unfolding early_reason place_reason end_reason target_reason returned_reason notice_reason claim_reason open_dispute_reason reason_against Refusals.is_out_of_range Refusals.unknown_plan Refusals.outside_plan Refusals.plan_end_not_closing Refusals.plan_too_short Refusals.wrong_entry Refusals.already_returned Refusals.first_year Refusals.notice_pending Refusals.not_delinquent Refusals.dispute_late Refusals.dispute_known Refusals.no_open_dispute Refusals.not_closed Refusals.refund_too_large Refusals.nothing_to_review
notice_reasons now day rate effective category =
    let q = post.Notice day category rate effective in
    joined (amount_range now q) (day_ahead now.today q) (day_before_open now q) (segments_full now q ∷ Refusals.notice_too_short q ∷ Refusals.first_year now q ∷ Refusals.notice_pending now q ∷ []) (account_full now)

pub lower_reasons : (now : Present) (day rate : ℕ) (category : Category) → WithAdded now (post.Lower day category rate) day (nat_lt rate_limit rate) (None)
unfolding early_reason place_reason end_reason target_reason returned_reason notice_reason claim_reason open_dispute_reason reason_against Refusals.is_out_of_range Refusals.unknown_plan Refusals.outside_plan Refusals.plan_end_not_closing Refusals.plan_too_short Refusals.wrong_entry Refusals.already_returned Refusals.first_year Refusals.notice_pending Refusals.not_delinquent Refusals.dispute_late Refusals.dispute_known Refusals.no_open_dispute Refusals.not_closed Refusals.refund_too_large Refusals.nothing_to_review
lower_reasons now day rate category =
    let q = post.Lower day category rate in
    joined (amount_range now q) (day_ahead now.today q) (day_before_open now q) ([]) (account_full now)

pub review_reasons : (now : Present) (day : ℕ) (found : Finding) → WithAdded now (post.Review day found) day (false) (Refusals.nothing_to_review now (post.Review day found))
unfolding early_reason place_reason end_reason target_reason returned_reason notice_reason claim_reason open_dispute_reason reason_against Refusals.is_out_of_range Refusals.unknown_plan Refusals.outside_plan Refusals.plan_end_not_closing Refusals.plan_too_short Refusals.wrong_entry Refusals.already_returned Refusals.first_year Refusals.notice_pending Refusals.not_delinquent Refusals.dispute_late Refusals.dispute_known Refusals.no_open_dispute Refusals.not_closed Refusals.refund_too_large Refusals.nothing_to_review
review_reasons now day found =
    let q = post.Review day found in
    let one = alone (Refusals.nothing_to_review now q) in
    ap (λ (o : Option Refusal). option_or (early_reason false now.today (anchor_now now).opened day) (option_or o (full_reason (length now.lists.posts)))) one
    ∙ joined (amount_range now q) (day_ahead now.today q) (day_before_open now q) (Refusals.nothing_to_review now q ∷ []) (account_full now)

pub dispute_reasons : (now : Present) (day charge cents : ℕ) → WithAdded now (post.Dispute day charge cents) day (is_no_amount cents) (claim_reason now (post.Dispute day charge cents))
unfolding early_reason place_reason end_reason target_reason returned_reason notice_reason claim_reason open_dispute_reason reason_against Refusals.is_out_of_range Refusals.unknown_plan Refusals.outside_plan Refusals.plan_end_not_closing Refusals.plan_too_short Refusals.wrong_entry Refusals.already_returned Refusals.first_year Refusals.notice_pending Refusals.not_delinquent Refusals.dispute_late Refusals.dispute_known Refusals.no_open_dispute Refusals.not_closed Refusals.refund_too_large Refusals.nothing_to_review
dispute_reasons now day charge cents =
    let q = post.Dispute day charge cents in
    joined (amount_range now q) (day_ahead now.today q) (day_before_open now q) (Refusals.wrong_entry now q ∷ Refusals.dispute_late now q ∷ Refusals.dispute_known now q ∷ []) (account_full now)

pub ack_reasons : (now : Present) (day dispute : ℕ) → WithAdded now (post.Ack day dispute) day (false) (open_dispute_reason now (post.Ack day dispute))
unfolding early_reason place_reason end_reason target_reason returned_reason notice_reason claim_reason open_dispute_reason reason_against Refusals.is_out_of_range Refusals.unknown_plan Refusals.outside_plan Refusals.plan_end_not_closing Refusals.plan_too_short Refusals.wrong_entry Refusals.already_returned Refusals.first_year Refusals.notice_pending Refusals.not_delinquent Refusals.dispute_late Refusals.dispute_known Refusals.no_open_dispute Refusals.not_closed Refusals.refund_too_large Refusals.nothing_to_review
ack_reasons now day dispute =
    let q = post.Ack day dispute in
    joined (amount_range now q) (day_ahead now.today q) (day_before_open now q) (Refusals.wrong_entry now q ∷ Refusals.no_open_dispute now q ∷ []) (account_full now)

pub resolve_reasons : (now : Present) (day dispute cents : ℕ) → WithAdded now (post.Resolve day dispute cents) day (nat_lt 1000000000 cents || holds_of (is_above_claim cents) (named now dispute)) (open_dispute_reason now (post.Resolve day dispute cents))
unfolding early_reason place_reason end_reason target_reason returned_reason notice_reason claim_reason open_dispute_reason reason_against Refusals.is_out_of_range Refusals.unknown_plan Refusals.outside_plan Refusals.plan_end_not_closing Refusals.plan_too_short Refusals.wrong_entry Refusals.already_returned Refusals.first_year Refusals.notice_pending Refusals.not_delinquent Refusals.dispute_late Refusals.dispute_known Refusals.no_open_dispute Refusals.not_closed Refusals.refund_too_large Refusals.nothing_to_review
resolve_reasons now day dispute cents =
    let q = post.Resolve day dispute cents in
    joined (amount_range now q) (day_ahead now.today q) (day_before_open now q) (Refusals.wrong_entry now q ∷ Refusals.no_open_dispute now q ∷ []) (account_full now)

pub ask_reasons : (now : Present) (day : ℕ) → WithAdded now (post.AskRefund day) day (false) (None)
unfolding early_reason place_reason end_reason target_reason returned_reason notice_reason claim_reason open_dispute_reason reason_against Refusals.is_out_of_range Refusals.unknown_plan Refusals.outside_plan Refusals.plan_end_not_closing Refusals.plan_too_short Refusals.wrong_entry Refusals.already_returned Refusals.first_year Refusals.notice_pending Refusals.not_delinquent Refusals.dispute_late Refusals.dispute_known Refusals.no_open_dispute Refusals.not_closed Refusals.refund_too_large Refusals.nothing_to_review
ask_reasons now day =
    let q = post.AskRefund day in
    joined (amount_range now q) (day_ahead now.today q) (day_before_open now q) ([]) (account_full now)

-- a Penalty and a Refund, by the book
pub penalty_late : (now : Present) → sixty_days_late (seen_today now) (book_today now).cycles ≡ true → full_reason (length now.lists.posts) ≡ reason_against now post.Penalty
unfolding early_reason place_reason end_reason target_reason returned_reason notice_reason claim_reason open_dispute_reason reason_against Refusals.is_out_of_range Refusals.unknown_plan Refusals.outside_plan Refusals.plan_end_not_closing Refusals.plan_too_short Refusals.wrong_entry Refusals.already_returned Refusals.first_year Refusals.notice_pending Refusals.not_delinquent Refusals.dispute_late Refusals.dispute_known Refusals.no_open_dispute Refusals.not_closed Refusals.refund_too_large Refusals.nothing_to_review
penalty_late now is = rw is (alone (account_full now))

pub penalty_not : (now : Present) → sixty_days_late (seen_today now) (book_today now).cycles ≡ false → Some refusal.NotDelinquent ≡ reason_against now post.Penalty
unfolding early_reason place_reason end_reason target_reason returned_reason notice_reason claim_reason open_dispute_reason reason_against Refusals.is_out_of_range Refusals.unknown_plan Refusals.outside_plan Refusals.plan_end_not_closing Refusals.plan_too_short Refusals.wrong_entry Refusals.already_returned Refusals.first_year Refusals.notice_pending Refusals.not_delinquent Refusals.dispute_late Refusals.dispute_known Refusals.no_open_dispute Refusals.not_closed Refusals.refund_too_large Refusals.nothing_to_review
penalty_not now is = rw is refl

pub refund_covered : (now : Present) (cents : ℕ) → is_no_amount cents ≡ false → nat_lt (credit_balance (book_today now).entries) cents ≡ false → full_reason (length now.lists.posts) ≡ reason_against now (post.Refund cents)
unfolding early_reason place_reason end_reason target_reason returned_reason notice_reason claim_reason open_dispute_reason reason_against Refusals.is_out_of_range Refusals.unknown_plan Refusals.outside_plan Refusals.plan_end_not_closing Refusals.plan_too_short Refusals.wrong_entry Refusals.already_returned Refusals.first_year Refusals.notice_pending Refusals.not_delinquent Refusals.dispute_late Refusals.dispute_known Refusals.no_open_dispute Refusals.not_closed Refusals.refund_too_large Refusals.nothing_to_review
refund_covered now cents range is = rw (range, is) (alone (account_full now))

pub refund_above : (now : Present) (cents : ℕ) → is_no_amount cents ≡ false → nat_lt (credit_balance (book_today now).entries) cents ≡ true → Some (refusal.RefundTooLarge (pos (credit_balance (book_today now).entries))) ≡ reason_against now (post.Refund cents)
unfolding early_reason place_reason end_reason target_reason returned_reason notice_reason claim_reason open_dispute_reason reason_against Refusals.is_out_of_range Refusals.unknown_plan Refusals.outside_plan Refusals.plan_end_not_closing Refusals.plan_too_short Refusals.wrong_entry Refusals.already_returned Refusals.first_year Refusals.notice_pending Refusals.not_delinquent Refusals.dispute_late Refusals.dispute_known Refusals.no_open_dispute Refusals.not_closed Refusals.refund_too_large Refusals.nothing_to_review
refund_above now cents range is = rw (range, is) refl

-- a Bill
bill_reasons : (now : Present) (cycle : ℕ) → bill_reason now.today (anchor_now now) now.lists.posts cycle ≡ reason_against now (post.Bill cycle)
unfolding bill_reason reason_against Refusals.is_out_of_range Refusals.unknown_plan Refusals.outside_plan Refusals.plan_end_not_closing Refusals.plan_too_short Refusals.wrong_entry Refusals.already_returned Refusals.first_year Refusals.notice_pending Refusals.not_delinquent Refusals.dispute_late Refusals.dispute_known Refusals.no_open_dispute Refusals.not_closed Refusals.refund_too_large Refusals.nothing_to_review
bill_reasons now cycle = refl

-- ---- of each kind
-- where its parts are found
pub by_parts : (now : Present) (p : Post) (day : ℕ) (out o : Bool) (added x : Option Refusal) (opened : ℕ) (found : Option Refusal) → WithAdded now p day out added → o ≡ out → opened ≡ (anchor_now now).opened → x ≡ added
    → found ≡ option_or (early_reason o now.today opened day) (option_or x (full_reason (length now.lists.posts))) → found ≡ reason_against now p
by_parts now p day out o added x opened found whole out_is opened_is added_is is =
    is ∙ ap (λ (b : Bool). option_or (early_reason b now.today opened day) (option_or x (full_reason (length now.lists.posts)))) out_is
    ∙ ap (λ (n : ℕ). option_or (early_reason out now.today n day) (option_or x (full_reason (length now.lists.posts)))) opened_is
    ∙ ap (λ (y : Option Refusal). option_or (early_reason out now.today (anchor_now now).opened day) (option_or y (full_reason (length now.lists.posts)))) added_is ∙ whole

-- the days of a Plan
pub plan_dated : (p : Post) (day rate end after : ℕ) (kind : PlanKind) → p ≡ post.Plan day kind rate end after → is_dated_post p ≡ true → (day ≤ last_request_day) × (end ≤ last_request_day)
unfolding is_dated_post
plan_dated p day rate end after kind is dated =
    let both = and_parts (nat_le day last_request_day) (nat_le end last_request_day) (subst (λ (q : Post). is_dated_post q ≡ true) is dated) in
    (leb-true day last_request_day both.0, leb-true end last_request_day both.1)

pub notice_dated : (p : Post) (day rate effective : ℕ) (category : Category) → p ≡ post.Notice day category rate effective → is_dated_post p ≡ true → day ≤ last_request_day
unfolding is_dated_post
notice_dated p day rate effective category is dated =
    let both = and_parts (nat_le day last_request_day) (nat_le effective last_request_day) (subst (λ (q : Post). is_dated_post q ≡ true) is dated) in
    leb-true day last_request_day both.0

pub of_bill : (now : Present) (p : Post) (cycle : ℕ) (a : Anchor) (r : Option Refusal) → p ≡ post.Bill cycle → a ≡ anchor_now now → r ≡ bill_reason now.today a now.lists.posts cycle → r ≡ reason_against now p
of_bill now p cycle a r is same found =
    found ∙ ap (λ (x : Anchor). bill_reason now.today x now.lists.posts cycle) same ∙ bill_reasons now cycle ∙ ap (reason_against now) (sym is)

-- ---- a Bill, by where its cycle closes
closing_by : (today : ℕ) (a : Anchor) (posts : List Kept) (cycle : ℕ) (b : Bool) → is_no_cycle a cycle ≡ b → option_or (where_true b refusal.AmountRange) (closed_reason today (closing a cycle) posts cycle) ≡ bill_reason today a posts cycle
unfolding bill_reason
closing_by today a posts cycle b is = ap (λ (t : Bool). option_or (where_true t refusal.AmountRange) (closed_reason today (closing a cycle) posts cycle)) (sym is)

no_cycle : (a : Anchor) (cycle : ℕ) → (1 ≤ cycle → closing a cycle ≤ last_request_day → ⊥) → is_no_cycle a cycle ≡ true
no_cycle a zero none = refl
no_cycle a (suc k) none = by (nat_lt last_request_day (closing a (suc k))) refl
  where
    by : (b : Bool) → nat_lt last_request_day (closing a (suc k)) ≡ b → ((suc k == 0) || b) ≡ true
    by true is = let e : (suc k == 0) ≡ false = ne_eqb (suc k) 0 (λ e. omega (arith, e)) in rw e refl
    by false is = absurd (none (omega arith) (ltb-false last_request_day (closing a (suc k)) is))

some_cycle : (a : Anchor) (cycle : ℕ) → 1 ≤ cycle → closing a cycle ≤ last_request_day → is_no_cycle a cycle ≡ false
some_cycle a cycle low by =
    let e : (cycle == 0) ≡ false = ne_eqb cycle 0 (λ e. omega (arith, e, low)) in
    let l : nat_lt last_request_day (closing a cycle) ≡ false = le-ltb last_request_day (closing a cycle) by in
    rw (e, l) refl

pub no_closing : (today : ℕ) (a : Anchor) (posts : List Kept) (cycle : ℕ) → (1 ≤ cycle → closing a cycle ≤ last_request_day → ⊥) → Some refusal.AmountRange ≡ bill_reason today a posts cycle
no_closing today a posts cycle none = closing_by today a posts cycle true (no_cycle a cycle none)

pub some_closing : (today : ℕ) (a : Anchor) (posts : List Kept) (cycle : ℕ) → 1 ≤ cycle → closing a cycle ≤ last_request_day → closed_reason today (closing a cycle) posts cycle ≡ bill_reason today a posts cycle
some_closing today a posts cycle low by = closing_by today a posts cycle false (some_cycle a cycle low by)
