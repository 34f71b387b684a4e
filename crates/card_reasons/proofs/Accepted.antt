-- What an accepted post keeps.
use Rattle.std.proofs.Common.{◌≡◌, ℕ, zero, suc, ◌<◌, ◌≤◌, Bool, true, false, List, [], ◌∷◌, length, drop, None, refl, sym, ◌∙◌, arith}
use Rattle.std.specs.Prelude.{nat_le, nat_lt, ◌||◌, ◌==◌, not, slice_get}
use Rattle.std.proofs.lemmas.Bool.{leb-false, ltb-false, or_parts}
use Rattle.card_events.specs.Range.{last_request_day, last_calendar_day}
use Rattle.card_events.specs.Limits.{post_limit}
use Rattle.card_reasons.proofs.ClosingLemmas.{grown}
use Rattle.card_reasons.proofs.ReasonLemmas.{none_from, none_head, where_none}
use Rattle.card_events.specs.Billing.{closing}
use Rattle.card_events.specs.declared.anchor.Channel.{Channel}
use Rattle.card_events.specs.History.{at_number}
use Rattle.card_events.specs.declared.kept.Kept.{Kept}
use Rattle.card_events.specs.declared.post.Post.{Post}
use Rattle.card_events.specs.declared.post.Post.TheVariants as post
use Rattle.card_events.specs.declared.reply.Refusal.TheVariants as refusal
use Rattle.card_events.specs.Business.{last_minute}
use Rattle.card_model.specs.Refusals.{Present, account_full, amount_range, anchor_now, day_ahead, day_before_open, first_reason, fits_target, holds_of, is_no_amount, is_out_of_range, not_closed, reason_against, reasons, wrong_entry, wrong_target}
use Rattle.card_posts.specs.Posted.{IsReceived, target_of}

-- nothing is against a post: its reasons from a place on
against : (now : Present) (p : Post) (n : ℕ) → reason_against now p ≡ None → first_reason (drop n (reasons now p)) ≡ None
unfolding reason_against
against now p n none = none_from n (reasons now p) none

-- the account isn't full
pub few : (now : Present) (p : Post) → reason_against now p ≡ None → length now.lists.posts < post_limit
few now p none = leb-false _ _ (where_none _ _ (none_head (account_full now) [] (against now p 20 none)))

-- nor is anything else at its place in the order
range_none : (now : Present) (p : Post) → reason_against now p ≡ None → is_out_of_range now p ≡ false
range_none now p none = where_none (is_out_of_range now p) refusal.AmountRange (none_head (amount_range now p) (drop 1 (reasons now p)) (against now p 0 none))

ahead_none : (now : Present) (p : Post) → reason_against now p ≡ None → day_ahead now.today p ≡ None
ahead_none now p none = none_head (day_ahead now.today p) (drop 2 (reasons now p)) (against now p 1 none)

before_none : (now : Present) (p : Post) → reason_against now p ≡ None → day_before_open now p ≡ None
before_none now p none = none_head (day_before_open now p) (drop 3 (reasons now p)) (against now p 2 none)

-- a payment has come in by today, from the opening day on
paid : (now : Present) (day minute cents : ℕ) (by : Channel) → reason_against now (post.Payment day minute by cents) ≡ None → IsReceived (anchor_now now).opened now.today (post.Payment day minute by cents)
unfolding is_out_of_range
paid now day minute cents by none =
    let p = post.Payment day minute by cents in
    let range : (is_no_amount cents || nat_lt last_minute minute) ≡ false = range_none now p none in
    let ahead : nat_lt now.today day ≡ false = where_none (nat_lt now.today day) refusal.DayAhead (ahead_none now p none) in
    let before : nat_lt day (anchor_now now).opened ≡ false = where_none (nat_lt day (anchor_now now).opened) refusal.DayBeforeOpen (before_none now p none) in
    ((ltb-false day (anchor_now now).opened before, ltb-false now.today day ahead), ltb-false last_minute minute (or_parts (is_no_amount cents) (nat_lt last_minute minute) range).1)

-- an Amend gives such a day
amended : (now : Present) (target day cents : ℕ) → reason_against now (post.Amend target day cents) ≡ None → IsReceived (anchor_now now).opened now.today (post.Amend target day cents)
amended now target day cents none =
    let p = post.Amend target day cents in
    let ahead : nat_lt now.today day ≡ false = where_none (nat_lt now.today day) refusal.DayAhead (ahead_none now p none) in
    let before : nat_lt day (anchor_now now).opened ≡ false = where_none (nat_lt day (anchor_now now).opened) refusal.DayBeforeOpen (before_none now p none) in
    (ltb-false day (anchor_now now).opened before, ltb-false now.today day ahead)

pub received : (now : Present) (p : Post) → reason_against now p ≡ None → IsReceived (anchor_now now).opened now.today p
received now (post.Open d t) none = tt
received now (post.OpenVariable d t) none = tt
received now (post.Charge d p c) none = tt
received now (post.Credit d p c) none = tt
received now (post.Payment d m by c) none = paid now d m c by none
received now (post.Bill c) none = tt
received now (post.Amend t d c) none = amended now t d c none
received now (post.Return d t) none = tt
received now (post.Plan d v r w f) none = tt
received now (post.Notice d y r w) none = tt
received now (post.Lower d y r) none = tt
received now post.Penalty none = tt
received now (post.Review d f) none = tt
received now (post.Dispute d t c) none = tt
received now (post.Ack d t) none = tt
received now (post.Resolve d t c) none = tt
received now (post.AskRefund d) none = tt
received now (post.Refund c) none = tt

-- a Bill's cycle has no great number
pub small : (now : Present) (cycle : ℕ) → reason_against now (post.Bill cycle) ≡ None → cycle ≤ last_calendar_day
unfolding is_out_of_range
small now cycle none =
    let range : ((cycle == 0) || nat_lt last_request_day (closing (anchor_now now) cycle)) ≡ false = range_none now (post.Bill cycle) none in
    let by : closing (anchor_now now) cycle ≤ last_request_day = ltb-false last_request_day (closing (anchor_now now) cycle) (or_parts (cycle == 0) (nat_lt last_request_day (closing (anchor_now now) cycle)) range).1 in
    omega (arith, by, grown (anchor_now now) cycle)

-- a Bill's cycle is one, and closed before today
pub some_cycle : (now : Present) (cycle : ℕ) → reason_against now (post.Bill cycle) ≡ None → (cycle == 0) ≡ false
unfolding is_out_of_range
some_cycle now cycle none =
    let range : ((cycle == 0) || nat_lt last_request_day (closing (anchor_now now) cycle)) ≡ false = range_none now (post.Bill cycle) none in
    (or_parts (cycle == 0) (nat_lt last_request_day (closing (anchor_now now) cycle)) range).0

pub shut : (now : Present) (cycle : ℕ) → reason_against now (post.Bill cycle) ≡ None → closing (anchor_now now) cycle < now.today
unfolding not_closed
shut now cycle none =
    let at = closing (anchor_now now) cycle in
    leb-false now.today at (where_none (nat_le now.today at) (refusal.NotClosed at) (none_head (not_closed now (post.Bill cycle)) (drop 18 (reasons now (post.Bill cycle))) (against now (post.Bill cycle) 17 none)))

-- a number under which some post passes is that of a post
within-slice : (f : Kept → Bool) (i : ℕ) (ks : List Kept) → holds_of f (slice_get ks i) ≡ true → i < length ks
within-slice f i [] is = absurd (cc)
within-slice f zero (k ∷ ks) is = omega arith
within-slice f (suc i) (k ∷ ks) is = let rest = within-slice f i ks is in omega (arith, rest)

within : (f : Kept → Bool) (n : ℕ) (ks : List Kept) → holds_of f (at_number n ks) ≡ true → n ≤ length ks
within f zero ks is = omega arith
within f (suc n) ks is = within-slice f n ks is

not-false : (b : Bool) → not b ≡ false → b ≡ true
not-false true is = refl
not-false false is = absurd (cc)

-- one of a kind with a target names a post that fits it
fitting : (now : Present) (p : Post) (target : ℕ) → wrong_entry now p ≡ wrong_target now p target → reason_against now p ≡ None → holds_of (λ k. fits_target p k.post) (at_number target now.lists.posts) ≡ true
fitting now p target is none =
    let fits : Kept → Bool = λ k. fits_target p k.post in
    let there : wrong_target now p target ≡ None = sym is ∙ none_head (wrong_entry now p) (drop 9 (reasons now p)) (against now p 8 none) in
    not-false (holds_of fits (at_number target now.lists.posts)) (where_none (not (holds_of fits (at_number target now.lists.posts))) (refusal.WrongEntry target) there)

amends : (now : Present) (target day cents : ℕ) → reason_against now (post.Amend target day cents) ≡ None → target ≤ length now.lists.posts
unfolding wrong_entry
amends now target day cents none =
    let p = post.Amend target day cents in
    within (λ k. fits_target p k.post) target now.lists.posts (fitting now p target refl none)

pub returns-fitting : (now : Present) (day target : ℕ) → reason_against now (post.Return day target) ≡ None → holds_of (λ k. fits_target (post.Return day target) k.post) (at_number target now.lists.posts) ≡ true
unfolding wrong_entry
returns-fitting now day target none = fitting now (post.Return day target) target refl none

pub returns-there : (now : Present) (day target : ℕ) → reason_against now (post.Return day target) ≡ None → target ≤ length now.lists.posts
returns-there now day target none = within (λ k. fits_target (post.Return day target) k.post) target now.lists.posts (returns-fitting now day target none)

-- a Dispute names a charge, and a Resolve a Dispute
pub disputes-fitting : (now : Present) (day target cents : ℕ) → reason_against now (post.Dispute day target cents) ≡ None → holds_of (λ k. fits_target (post.Dispute day target cents) k.post) (at_number target now.lists.posts) ≡ true
unfolding wrong_entry
disputes-fitting now day target cents none = fitting now (post.Dispute day target cents) target refl none

pub disputes-there : (now : Present) (day target cents : ℕ) → reason_against now (post.Dispute day target cents) ≡ None → target ≤ length now.lists.posts
disputes-there now day target cents none = within (λ k. fits_target (post.Dispute day target cents) k.post) target now.lists.posts (disputes-fitting now day target cents none)

pub resolves-fitting : (now : Present) (day target cents : ℕ) → reason_against now (post.Resolve day target cents) ≡ None → holds_of (λ k. fits_target (post.Resolve day target cents) k.post) (at_number target now.lists.posts) ≡ true
unfolding wrong_entry
resolves-fitting now day target cents none = fitting now (post.Resolve day target cents) target refl none

pub resolves-there : (now : Present) (day target cents : ℕ) → reason_against now (post.Resolve day target cents) ≡ None → target ≤ length now.lists.posts
resolves-there now day target cents none = within (λ k. fits_target (post.Resolve day target cents) k.post) target now.lists.posts (resolves-fitting now day target cents none)

-- they name no later post
pub target_there : (now : Present) (p : Post) → reason_against now p ≡ None → target_of p ≤ length now.lists.posts
target_there now (post.Open d t) none = omega arith
target_there now (post.OpenVariable d t) none = omega arith
target_there now (post.Charge d p c) none = omega arith
target_there now (post.Credit d p c) none = omega arith
target_there now (post.Payment d m by c) none = omega arith
target_there now (post.Bill c) none = omega arith
target_there now (post.Amend t d c) none = amends now t d c none
target_there now (post.Return d t) none = returns-there now d t none
target_there now (post.Plan d v r w f) none = omega arith
target_there now (post.Notice d y r w) none = omega arith
target_there now (post.Lower d y r) none = omega arith
target_there now post.Penalty none = omega arith
target_there now (post.Review d f) none = omega arith
target_there now (post.Dispute d t c) none = disputes-there now d t c none
target_there now (post.Ack d t) none = omega arith
target_there now (post.Resolve d t c) none = resolves-there now d t c none
target_there now (post.AskRefund d) none = omega arith
target_there now (post.Refund c) none = omega arith
