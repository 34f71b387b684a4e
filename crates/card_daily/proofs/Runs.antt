-- Every run of the machine leaves accounts whose plans end with closings.
use Rattle.std.proofs.Common.{◌≡◌, ℕ, suc, ◌+◌, ◌≤◌, Bool, true, false, cond, eqb, not, List, [], ◌∷◌, ◌++◌, length, refl, sym, ap, subst, arith, Option, Some, None}
use Rattle.std.proofs.Math.Nat.{le-max_left, le-max_right}
use Rattle.std.proofs.lemmas.Bool.{eqb-true}
use Rattle.std.proofs.lemmas.List.{length-append}
use Rattle.std.proofs.lemmas.List.Elements.{All-cons, All-head, All-nil, All-push, All-tail, All-weaker}
use Rattle.std.specs.List.{All}
use Rattle.std.specs.Prelude.{max}
use Rattle.std.specs.Str.{bytes_eq}
use Rattle.card_events.specs.Billing.{next_on}
use Rattle.card_events.specs.Civil.{day_of_month, first_day}
use Rattle.card_events.specs.declared.anchor.Anchor.{Anchor}
use Rattle.card_events.proofs.Months.{first_day-from}
use Rattle.card_events.specs.History.{anchor_of, at_number, is_open}
use Rattle.card_events.specs.Keys.{with_key}
use Rattle.card_events.specs.SharedRows.{shared_rows}
use Rattle.card_events.specs.declared.kept.Kept.{Kept}
use Rattle.card_events.specs.declared.post.Post.{Post}
use Rattle.card_events.specs.declared.post.Post.TheVariants as post
use Rattle.card_events.specs.declared.reply.Refusal.{Refusal}
use Rattle.card_events.specs.declared.reply.Refusal.TheVariants as refusal
use Rattle.card_events.specs.declared.request.Request.{Request}
use Rattle.card_events.specs.declared.request.Request.TheVariants as request
use Rattle.card_events.specs.declared.request.Shared.{Shared}
use Rattle.card_model.proofs.Accepting.{AllNone, all-none, first-none}
use Rattle.card_model.specs.Machine.{Accepts, NamedAccount, Outcome, Refuses, Repeats, State, accepted, accounts_after, at_key, has_accounts, is_repeat_of, judged, kept_as, lists_of, next_number, opened, outcome, outcome_in, run_from, shared_reason, start, step, with_lists, with_shared}
use Rattle.card_model.specs.Refusals.{Lists, Present, closing_on, first_reason, plan_days, plan_end_not_closing, reason_against, reason_to_open, reasons, where_true}
use Rattle.card_daily.specs.Given.{ArePlanned, EndsWithAClosing}
use Rattle.card_daily.specs.Laws.{RunsKeepPlans}

where-not : (b : Bool) (r : Refusal) → where_true (not b) r ≡ None → b ≡ true
where-not true r h = refl
where-not false r h = cc

ends-right : (now : Present) (p : Post) → reason_against now p ≡ None → plan_end_not_closing now p ≡ None
unfolding reason_against
ends-right now p h = let none = all-none (reasons now p) h in none.1.1.1.1.1.0

-- ---- a day on which the search for a closing ends at once
passes-by : (b : Bool) (d later : ℕ) → d + 1 ≤ later → cond b d later ≡ d → b ≡ true
passes-by true d later l e = refl
passes-by false d later l e = absurd (omega (arith, l, e))

first-passes : (p : ℕ → Bool) (more d : ℕ) → first_day p (suc more) d ≡ d → p d ≡ true
unfolding first_day
first-passes p more d e = passes-by (p d) d (first_day p more (d + 1)) (first_day-from p more (d + 1)) e

next-at : (c opened e : ℕ) → next_on c (max e opened) ≡ e → (opened ≤ e) × (day_of_month e ≡ c)
next-at c opened e h =
    let p : ℕ → Bool = λ d. eqb (day_of_month d) c in
    let from = first_day-from p 31 (max e opened) in
    let left = le-max_left e opened in
    let right = le-max_right e opened in
    let same : max e opened ≡ e = omega (arith, from, left, h) in
    let on : next_on c e ≡ e = subst (λ x. next_on c x ≡ e) same h in
    (omega (arith, right, same), eqb-true (day_of_month e) c (first-passes p 30 e on))

-- ---- the lists of an account
abbrev Planned : Lists → Type 0
Planned l = (1 ≤ length l.posts) × ArePlanned l.posts

some-same : {A : Type 0} (x y : A) → Some x ≡ Some y → x ≡ y
some-same x y e = cc

pair-end : (x y : ℕ × ℕ) → Some x ≡ Some y → x.1 ≡ y.1
pair-end x y e = ap (λ (p : ℕ × ℕ). p.1) (some-same x y e)

plan-ends : (now : Present) (n today : ℕ) (key : List ℕ) (p : Post) → plan_end_not_closing now p ≡ None → EndsWithAClosing (anchor_of now.lists.posts) (kept_as n key today p)
unfolding plan_end_not_closing
plan-ends now n today key (post.Plan d k r e f) h first end is =
    let a = anchor_of now.lists.posts in
    let on = eqb-true (closing_on now e) e (where-not (eqb (closing_on now e) e) (refusal.PlanEndNotClosing (closing_on now e)) h) in
    subst (λ x. (a.opened ≤ x) × (day_of_month x ≡ a.close_day)) (pair-end (d, e) (first, end) is) (next-at a.close_day a.opened e on)
plan-ends now n today key (post.Open d t) h first end is = cc
plan-ends now n today key (post.OpenVariable d t) h first end is = cc
plan-ends now n today key (post.Charge d p c) h first end is = cc
plan-ends now n today key (post.Credit d p c) h first end is = cc
plan-ends now n today key (post.Payment d m y c) h first end is = cc
plan-ends now n today key (post.Return d t) h first end is = cc
plan-ends now n today key (post.Notice d c r f) h first end is = cc
plan-ends now n today key (post.Lower d c r) h first end is = cc
plan-ends now n today key post.Penalty h first end is = cc
plan-ends now n today key (post.Review d f) h first end is = cc
plan-ends now n today key (post.Dispute d t c) h first end is = cc
plan-ends now n today key (post.Ack d t) h first end is = cc
plan-ends now n today key (post.Resolve d t c) h first end is = cc
plan-ends now n today key (post.AskRefund d) h first end is = cc
plan-ends now n today key (post.Refund c) h first end is = cc
plan-ends now n today key (post.Amend t d c) h first end is = cc
plan-ends now n today key (post.Bill c) h first end is = cc

pub anchor-stays : (ks : List Kept) (k : Kept) → 1 ≤ length ks → anchor_of (ks ++ k ∷ []) ≡ anchor_of ks
anchor-stays [] k l = absurd (omega (arith, l))
anchor-stays (x ∷ xs) k l = refl

pub more-posts : (ks : List Kept) (k : Kept) → 1 ≤ length (ks ++ k ∷ [])
more-posts ks k = let long = length-append ks (k ∷ []) in omega (arith, long)

accepted-planned : (now : Present) (key : List ℕ) (p : Post) → reason_against now p ≡ None → Planned now.lists → Planned (accepted now key p)
unfolding accepted
accepted-planned now key p e h =
    let ks = now.lists.posts in
    let k = kept_as (next_number now) key now.today p in (
      more-posts ks k,
      subst (λ (a : Anchor). All (EndsWithAClosing a) (ks ++ k ∷ [])) (sym (anchor-stays ks k h.0))
          (All-push (EndsWithAClosing (anchor_of ks)) ks k h.1 (plan-ends now (next_number now) now.today key p (ends-right now p e))),
    )

opens-none : (p : Post) (first end : ℕ) → is_open p ≡ true → plan_days p ≡ Some (first, end) → ⊥
opens-none (post.Open d t) first end e h = cc
opens-none (post.OpenVariable d t) first end e h = cc
opens-none (post.Charge d p c) first end e h = cc
opens-none (post.Credit d p c) first end e h = cc
opens-none (post.Payment d m y c) first end e h = cc
opens-none (post.Return d t) first end e h = cc
opens-none (post.Plan d g r f a) first end e h = cc
opens-none (post.Notice d c r f) first end e h = cc
opens-none (post.Lower d c r) first end e h = cc
opens-none post.Penalty first end e h = cc
opens-none (post.Review d f) first end e h = cc
opens-none (post.Dispute d t c) first end e h = cc
opens-none (post.Ack d t) first end e h = cc
opens-none (post.Resolve d t c) first end e h = cc
opens-none (post.AskRefund d) first end e h = cc
opens-none (post.Refund c) first end e h = cc
opens-none (post.Amend t d c) first end e h = cc
opens-none (post.Bill c) first end e h = cc

first-planned : (key : List ℕ) (today : ℕ) (p : Post) → is_open p ≡ true → Planned (record { posts = kept_as 1 key today p ∷ []; issued = [] })
first-planned key today p e =
    let k = kept_as 1 key today p in
    let a = anchor_of (k ∷ []) in
    (omega arith, All-cons (EndsWithAClosing a) k [] (λ first end is. absurd (opens-none p first end e is)) (All-nil (EndsWithAClosing a)))

-- ---- a step
PlannedIf : Outcome → Type 0
PlannedIf (Accepts new) = Planned new
PlannedIf (Refuses r) = Unit {0}
PlannedIf (Repeats n) = Unit {0}

judged-planned : (now : Present) (key : List ℕ) (p : Post) (r : Option Refusal) → reason_against now p ≡ r → Planned now.lists → PlannedIf (judged now key p r)
unfolding PlannedIf
judged-planned now key p (Some r) e l = tt
judged-planned now key p None e l = accepted-planned now key p e l

either-planned : (t : Bool) (a b : Outcome) → PlannedIf a → PlannedIf b → PlannedIf (cond t a b)
either-planned true a b h g = h
either-planned false a b h g = g

at_key-planned : (now : Present) (key : List ℕ) (p : Post) (o : Option ℕ) → Planned now.lists → PlannedIf (at_key now key p o)
unfolding PlannedIf
at_key-planned now key p (Some n) l = either-planned (is_repeat_of p (at_number n now.lists.posts)) _ _ tt tt
at_key-planned now key p None l = either-planned (is_open p) _ _ tt (judged-planned now key p (reason_against now p) refl l)

opened-planned : (key : List ℕ) (today : ℕ) (p : Post) (r : Option Refusal) → is_open p ≡ true → PlannedIf (opened key today p r)
unfolding PlannedIf
opened-planned key today p (Some r) e = tt
opened-planned key today p None e = first-planned key today p e

-- the lists of an account, where it is there
PlannedThere : Option Lists → Type 0
PlannedThere None = Unit {0}
PlannedThere (Some l) = Planned l

outcome-planned : (today : ℕ) (rows : List Shared) (accounts : ℕ) (key : List ℕ) (p : Post) (o : Option Lists) → PlannedThere o → PlannedIf (outcome today rows accounts key p o)
unfolding outcome PlannedThere PlannedIf
outcome-planned today rows accounts key p None h = by (is_open p) refl
  where
    by : (t : Bool) → is_open p ≡ t → PlannedIf (cond t (opened key today p (reason_to_open today accounts (shared_rows rows) p)) (Refuses refusal.UnknownAccount))
    by true e = opened-planned key today p (reason_to_open today accounts (shared_rows rows) p) e
    by false e = tt
outcome-planned today rows accounts key p (Some l) h = at_key-planned (record { today = today; shared = shared_rows rows; lists = l }) key p (with_key key l.posts) h

abbrev ArePlannedLists : NamedAccount → Type 0
ArePlannedLists x = Planned x.lists

lists-planned : (name : List ℕ) (accounts : List NamedAccount) → All ArePlannedLists accounts → PlannedThere (lists_of name accounts)
unfolding lists_of PlannedThere
lists-planned name [] h = tt
lists-planned name (x ∷ xs) h = by (bytes_eq x.name name) (All-head ArePlannedLists x xs h) (lists-planned name xs (All-tail ArePlannedLists x xs h))
  where
    by : (t : Bool) → Planned x.lists → PlannedThere (lists_of name xs) → PlannedThere (cond t (Some x.lists) (lists_of name xs))
    by true h i = h
    by false h i = i

set-planned : (name : List ℕ) (l : Lists) (accounts : List NamedAccount) → Planned l → All ArePlannedLists accounts → All ArePlannedLists (with_lists name l accounts)
unfolding with_lists
set-planned name l [] g h = All-cons ArePlannedLists _ [] g (All-nil ArePlannedLists)
set-planned name l (x ∷ xs) g h =
    by (bytes_eq x.name name) (All-head ArePlannedLists x xs h) (All-tail ArePlannedLists x xs h) (set-planned name l xs g (All-tail ArePlannedLists x xs h))
  where
    by : (t : Bool) → Planned x.lists → All ArePlannedLists xs → All ArePlannedLists (with_lists name l xs) → All ArePlannedLists (cond t (record { name = x.name; lists = l } ∷ xs) (x ∷ with_lists name l xs))
    by true h i j = All-cons ArePlannedLists _ xs g i
    by false h i j = All-cons ArePlannedLists x (with_lists name l xs) h j

after-planned : (name : List ℕ) (o : Outcome) (accounts : List NamedAccount) → PlannedIf o → All ArePlannedLists accounts → All ArePlannedLists (accounts_after name o accounts)
unfolding PlannedIf
after-planned name (Accepts new) accounts g h = set-planned name new accounts g h
after-planned name (Refuses r) accounts g h = h
after-planned name (Repeats n) accounts g h = h

shared-planned : (s : State) (r : Shared) (o : Option Refusal) → All ArePlannedLists s.accounts → All ArePlannedLists (with_shared s r o).0.accounts
shared-planned s r (Some e) g = g
shared-planned s r None g = g

step-planned : (s : State) (r : Request) → All ArePlannedLists s.accounts → All ArePlannedLists (step s r).0.accounts
unfolding step
step-planned s (request.Shared r) g = shared-planned s r (shared_reason s.today (has_accounts s) r) g
step-planned s (request.Post name key p) g =
    after-planned name (outcome_in s name key p) s.accounts (outcome-planned s.today s.shared (length s.accounts) key p (lists_of name s.accounts) (lists-planned name s.accounts g)) g

run-planned : (s : State) (rs : List Request) → All ArePlannedLists s.accounts → All ArePlannedLists (run_from s rs).accounts
unfolding run_from
run-planned s [] g = g
run-planned s (r ∷ rs) g = run-planned (step s r).0 rs (step-planned s r g)

pub runs_keep_plans : RunsKeepPlans
runs_keep_plans requests =
    All-weaker ArePlannedLists (λ (x : NamedAccount). ArePlanned x.lists.posts) (λ x h. h.1) (run_from start requests).accounts (run-planned start requests (All-nil ArePlannedLists))
