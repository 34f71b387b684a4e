-- What a request does to the count of accepted requests.
use Rattle.std.proofs.Common.{◌≡◌, ℕ, ◌+◌, Bool, true, false, cond, List, [], ◌∷◌, length, Option, Some, None, refl, ap, sym, ◌∙◌, arith, length-append, not, is_some}
use Rattle.std.specs.Prelude.{if◌then◌else◌, nat_lt}
use Rattle.std.specs.Str.{bytes_eq}
use Rattle.std.proofs.lemmas.Bool.{lt-ltb, le-ltb}
use Rattle.card_events.specs.History.{at_number, is_open}
use Rattle.card_events.specs.Keys.{with_key}
use Rattle.card_events.specs.declared.post.Post.{Post}
use Rattle.card_events.specs.declared.reply.Refusal.{Refusal}
use Rattle.card_events.specs.declared.reply.Refusal.TheVariants as refusal
use Rattle.card_events.specs.declared.request.Request.{Request}
use Rattle.card_events.specs.declared.request.Request.TheVariants as request
use Rattle.card_events.specs.declared.request.Shared.{Shared}
use Rattle.card_model.specs.Machine.{State, NamedAccount, Outcome, Refuses, Repeats, Accepts, lists_of, with_lists, outcome, outcome_in, with_outcome, with_shared, step, is_new, accepts, at_key, judged, accepted, kept_as, is_repeat_of, opened, shared_reason, has_accounts}
use Rattle.card_model.specs.Refusals.{Lists, Present, reason_against, reason_to_open}
use Rattle.card_events.specs.SharedRows.{shared_rows}
use Rattle.card_desk.specs.Kept.{accepted_count, posts_in}

-- how many posts an account has, where it is there
abbrev pub posts_of : Option Lists → ℕ
posts_of None = 0
posts_of (Some l) = length l.posts

with_at : (name : List ℕ) (l : Lists) (a : NamedAccount) (others : List NamedAccount) (b : Bool) → posts_in (with_lists name l others) + posts_of (lists_of name others) ≡ posts_in others + length l.posts
    → posts_in (cond b (record { name = a.name; lists = l } ∷ others) (a ∷ with_lists name l others)) + posts_of (cond b (Some a.lists) (lists_of name others)) ≡ length a.lists.posts + posts_in others + length l.posts
unfolding posts_in
with_at name l a others true rest = omega arith
with_at name l a others false rest = omega (arith, rest)

-- other lists for an account, which is there or is new
pub with_count : (name : List ℕ) (l : Lists) (accounts : List NamedAccount) → posts_in (with_lists name l accounts) + posts_of (lists_of name accounts) ≡ posts_in accounts + length l.posts
unfolding posts_in lists_of with_lists
with_count name l [] = omega arith
with_count name l (a ∷ others) = with_at name l a others (bytes_eq a.name name) (with_count name l others)

opened_count : (key : List ℕ) (today : ℕ) (p : Post) (b : Bool) (r : Option Refusal) (l : Lists) → (if b then opened key today p r else Refuses refusal.UnknownAccount) ≡ Accepts l → length l.posts ≡ 1
opened_count key today p false r l is = absurd (cc)
opened_count key today p true (Some r) l is = absurd (cc)
opened_count key today p true None l is = let e : record { posts = kept_as 1 key today p ∷ []; issued = [] } ≡ l = cc in ap (λ (x : Lists). length x.posts) (sym e)

repeat_count : (n : ℕ) (b : Bool) (l : Lists) (m : ℕ) → (if b then Repeats n else Refuses (refusal.KeyReused n)) ≡ Accepts l → length l.posts ≡ m
repeat_count n true l m is = absurd (cc)
repeat_count n false l m is = absurd (cc)

judged_count : (now : Present) (key : List ℕ) (p : Post) (b : Bool) (r : Option Refusal) (l : Lists) → (if b then Refuses refusal.AccountExists else judged now key p r) ≡ Accepts l → length l.posts ≡ length now.lists.posts + 1
unfolding accepted
judged_count now key p true r l is = absurd (cc)
judged_count now key p false (Some r) l is = absurd (cc)
judged_count now key p false None l is = let e : accepted now key p ≡ l = cc in ap (λ (x : Lists). length x.posts) (sym e) ∙ length-append now.lists.posts (kept_as (length now.lists.posts + 1) key now.today p ∷ [])

key_count : (now : Present) (key : List ℕ) (p : Post) (n : Option ℕ) (l : Lists) → at_key now key p n ≡ Accepts l → length l.posts ≡ length now.lists.posts + 1
key_count now key p (Some n) l is = repeat_count n (is_repeat_of p (at_number n now.lists.posts)) l (length now.lists.posts + 1) is
key_count now key p None l is = judged_count now key p (is_open p) (reason_against now p) l is

-- an accepted post is one more
pub outcome_count : (today : ℕ) (rows : List Shared) (n : ℕ) (key : List ℕ) (p : Post) (lists : Option Lists) (l : Lists) → outcome today rows n key p lists ≡ Accepts l → length l.posts ≡ posts_of lists + 1
unfolding outcome
outcome_count today rows n key p None l is = opened_count key today p (is_open p) (reason_to_open today n (shared_rows rows) p) l is
outcome_count today rows n key p (Some lists) l is = key_count (record { today = today; shared = shared_rows rows; lists = lists }) key p (with_key key lists.posts) l is

-- ---- steps
post_more : (s : State) (name : List ℕ) (o : Outcome) → ((l : Lists) → o ≡ Accepts l → length l.posts ≡ posts_of (lists_of name s.accounts) + 1) → accepts o ≡ true → accepted_count (with_outcome s name o).0 ≡ accepted_count s + 1
post_more s name (Refuses r) more is = absurd (cc)
post_more s name (Repeats n) more is = absurd (cc)
post_more s name (Accepts l) more is = omega (arith, more l refl, with_count name l s.accounts)

shared_more : (s : State) (r : Shared) (o : Option Refusal) → not (is_some o) ≡ true → accepted_count (with_shared s r o).0 ≡ accepted_count s + 1
shared_more s r (Some e) is = absurd (cc)
shared_more s r None is = omega (arith, length-append s.shared (r ∷ []))

-- a newly accepted request is one more
pub new_count : (s : State) (r : Request) → is_new s r ≡ true → accepted_count (step s r).0 ≡ accepted_count s + 1
unfolding step is_new
new_count s (request.Shared r) is = shared_more s r (shared_reason s.today (has_accounts s) r) is
new_count s (request.Post name key p) is = post_more s name (outcome_in s name key p) (λ l. outcome_count s.today s.shared (length s.accounts) key p (lists_of name s.accounts) l) is

post_stays : (s : State) (name : List ℕ) (o : Outcome) → accepts o ≡ false → (with_outcome s name o).0 ≡ s
post_stays s name (Refuses r) is = refl
post_stays s name (Repeats n) is = refl
post_stays s name (Accepts l) is = absurd (cc)

shared_stays : (s : State) (r : Shared) (o : Option Refusal) → not (is_some o) ≡ false → (with_shared s r o).0 ≡ s
shared_stays s r (Some e) is = refl
shared_stays s r None is = absurd (cc)

-- any other leaves the state as it is
pub old_stays : (s : State) (r : Request) → is_new s r ≡ false → (step s r).0 ≡ s
unfolding step is_new
old_stays s (request.Shared r) is = shared_stays s r (shared_reason s.today (has_accounts s) r) is
old_stays s (request.Post name key p) is = post_stays s name (outcome_in s name key p) is

rises_by : (s : State) (r : Request) (t : Bool) → is_new s r ≡ t → nat_lt (accepted_count s) (accepted_count (step s r).0) ≡ t
rises_by s r true is = lt-ltb _ _ (omega (arith, new_count s r is))
rises_by s r false is = le-ltb _ _ (omega (arith, ap accepted_count (old_stays s r is)))

-- the count rises exactly where the request is newly accepted
pub rises : (s : State) (r : Request) → nat_lt (accepted_count s) (accepted_count (step s r).0) ≡ is_new s r
rises s r = rises_by s r (is_new s r) refl
