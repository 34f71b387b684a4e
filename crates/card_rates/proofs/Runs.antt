-- Every run of the machine leaves an account with at most 64 segments.
use Rattle.std.proofs.Common.{◌≡◌, ℕ, ◌+◌, ◌≤◌, Bool, true, false, cond, ◌&&◌, List, [], ◌∷◌, ◌++◌, length, refl, ap, ◌∙◌, arith, leb, Option, Some, None}
use Rattle.std.proofs.lemmas.Bool.Decides.{nat_tests}
use Rattle.std.proofs.lemmas.List.Elements.{All-nil, All-cons, All-head, All-tail}
use Rattle.std.proofs.lemmas.List.Sums.{sum_by-append, sum_by-cons}
use Rattle.std.specs.List.{All, count_by}
use Rattle.std.specs.Str.{bytes_eq}
use Rattle.card_events.specs.History.{adds_segment, at_number, is_open}
use Rattle.card_events.specs.Keys.{with_key}
use Rattle.card_events.specs.SharedRows.{shared_rows}
use Rattle.card_events.specs.declared.kept.Kept.{Kept}
use Rattle.card_events.specs.declared.post.Post.{Post}
use Rattle.card_events.specs.declared.post.Post.TheVariants as post
use Rattle.card_events.specs.declared.reply.Refusal.{Refusal}
use Rattle.card_events.specs.declared.reply.Refusal.TheVariants as refusal
use Rattle.card_events.specs.declared.request.Request.{Request}
use Rattle.card_events.specs.declared.request.Request.TheVariants as request
use Rattle.card_events.specs.declared.request.Shared.{Shared}
use Rattle.card_model.proofs.Accepting.{AllNone, all-none, first-none, where-false}
use Rattle.card_model.specs.Machine.{Accepts, NamedAccount, Outcome, Refuses, Repeats, State, accepted, accounts_after, at_key, has_accounts, is_repeat_of, judged, kept_as, lists_of, next_number, opened, outcome, outcome_in, run_from, shared_reason, start, step, with_lists, with_shared}
use Rattle.card_model.specs.Refusals.{Lists, Present, first_reason, reason_against, reason_to_open, reasons, where_true}
use Rattle.card_rates.specs.Laws.{RunsHaveFewSegments}
use Rattle.card_model.specs.Accepted.{HasFewSegments}

not-full : (now : Present) (p : Post) → reason_against now p ≡ None → (adds_segment p && leb 64 (5 + count_by (λ k. adds_segment k.post) now.lists.posts)) ≡ false
unfolding reason_against
not-full now p h = let none = all-none (reasons now p) h in where-false _ _ none.1.1.1.1.1.1.1.0

-- ---- the lists of an account
abbrev Few : Lists → Type 0
Few l = HasFewSegments l.posts

count-push : (ks : List Kept) (k : Kept) → count_by (λ x. adds_segment x.post) (ks ++ k ∷ []) ≡ count_by (λ x. adds_segment x.post) ks + cond (adds_segment k.post) 1 0
count-push ks k =
    sum_by-append (λ (x : Kept). cond (adds_segment x.post) 1 0) ks (k ∷ [])
    ∙ ap (λ m. count_by (λ (x : Kept). adds_segment x.post) ks + m) (sum_by-cons (λ (x : Kept). cond (adds_segment x.post) 1 0) k [] ∙ omega arith)

accepted-few : (now : Present) (key : List ℕ) (p : Post) → reason_against now p ≡ None → Few now.lists → Few (accepted now key p)
unfolding accepted
accepted-few now key p h l = by (adds_segment p) refl (not-full now p h)
  where
    below : (n : ℕ) → leb 64 (5 + n) ≡ false → 5 + (n + 1) ≤ 64
    below n e = grind (arith, nat_tests)

    by : (t : Bool) → adds_segment p ≡ t → (t && leb 64 (5 + count_by (λ k. adds_segment k.post) now.lists.posts)) ≡ false → 5 + count_by (λ k. adds_segment k.post) (now.lists.posts ++ kept_as (next_number now) key now.today p ∷ []) ≤ 64
    by true e q =
        let sum = count-push now.lists.posts (kept_as (next_number now) key now.today p) in
        let one : cond {A = ℕ} (adds_segment p) 1 0 ≡ 1 = rw e refl in
        let few = below (count_by (λ (x : Kept). adds_segment x.post) now.lists.posts) q in
        omega (arith, sum, one, few)
    by false e q =
        let sum = count-push now.lists.posts (kept_as (next_number now) key now.today p) in
        let none : cond {A = ℕ} (adds_segment p) 1 0 ≡ 0 = rw e refl in
        omega (arith, sum, none, l)

opens-none : (p : Post) → is_open p ≡ true → adds_segment p ≡ false
opens-none (post.Open d t) e = refl
opens-none (post.OpenVariable d t) e = refl
opens-none (post.Charge d p c) e = cc
opens-none (post.Credit d p c) e = cc
opens-none (post.Payment d m y c) e = cc
opens-none (post.Return d t) e = cc
opens-none (post.Plan d g r f a) e = cc
opens-none (post.Notice d c r f) e = cc
opens-none (post.Lower d c r) e = cc
opens-none post.Penalty e = cc
opens-none (post.Review d f) e = cc
opens-none (post.Dispute d t c) e = cc
opens-none (post.Ack d t) e = cc
opens-none (post.Resolve d t c) e = cc
opens-none (post.AskRefund d) e = cc
opens-none (post.Refund c) e = cc
opens-none (post.Amend t d c) e = cc
opens-none (post.Bill c) e = cc

first-few : (key : List ℕ) (today : ℕ) (p : Post) → is_open p ≡ true → Few (record { posts = kept_as 1 key today p ∷ []; issued = [] })
first-few key today p e =
    let k = kept_as 1 key today p in
    let sum = count-push [] k in
    let none : cond {A = ℕ} (adds_segment p) 1 0 ≡ 0 = rw (opens-none p e) refl in
    omega (arith, sum, none)

-- ---- a step
FewIf : Outcome → Type 0
FewIf (Accepts new) = Few new
FewIf (Refuses r) = Unit {0}
FewIf (Repeats n) = Unit {0}

judged-few : (now : Present) (key : List ℕ) (p : Post) (r : Option Refusal) → reason_against now p ≡ r → Few now.lists → FewIf (judged now key p r)
unfolding FewIf
judged-few now key p (Some r) e l = tt
judged-few now key p None e l = accepted-few now key p e l

either-few : (t : Bool) (a b : Outcome) → FewIf a → FewIf b → FewIf (cond t a b)
either-few true a b h g = h
either-few false a b h g = g

at_key-few : (now : Present) (key : List ℕ) (p : Post) (o : Option ℕ) → Few now.lists → FewIf (at_key now key p o)
unfolding FewIf
at_key-few now key p (Some n) l = either-few (is_repeat_of p (at_number n now.lists.posts)) _ _ tt tt
at_key-few now key p None l = either-few (is_open p) _ _ tt (judged-few now key p (reason_against now p) refl l)

opened-few : (key : List ℕ) (today : ℕ) (p : Post) (r : Option Refusal) → is_open p ≡ true → FewIf (opened key today p r)
unfolding FewIf
opened-few key today p (Some r) e = tt
opened-few key today p None e = first-few key today p e

-- the lists of an account, where it is there
FewThere : Option Lists → Type 0
FewThere None = Unit {0}
FewThere (Some l) = Few l

outcome-few : (today : ℕ) (rows : List Shared) (accounts : ℕ) (key : List ℕ) (p : Post) (o : Option Lists) → FewThere o → FewIf (outcome today rows accounts key p o)
unfolding outcome FewThere FewIf
outcome-few today rows accounts key p None h = by (is_open p) refl
  where
    by : (t : Bool) → is_open p ≡ t → FewIf (cond t (opened key today p (reason_to_open today accounts (shared_rows rows) p)) (Refuses refusal.UnknownAccount))
    by true e = opened-few key today p (reason_to_open today accounts (shared_rows rows) p) e
    by false e = tt
outcome-few today rows accounts key p (Some l) h = at_key-few (record { today = today; shared = shared_rows rows; lists = l }) key p (with_key key l.posts) h

abbrev AllFew : List NamedAccount → Type 0
AllFew accounts = All (λ (x : NamedAccount). Few x.lists) accounts

lists-few : (name : List ℕ) (accounts : List NamedAccount) → AllFew accounts → FewThere (lists_of name accounts)
unfolding lists_of FewThere
lists-few name [] h = tt
lists-few name (x ∷ xs) h = by (bytes_eq x.name name) (All-head (λ (x : NamedAccount). Few x.lists) x xs h) (lists-few name xs (All-tail (λ (x : NamedAccount). Few x.lists) x xs h))
  where
    by : (t : Bool) → Few x.lists → FewThere (lists_of name xs) → FewThere (cond t (Some x.lists) (lists_of name xs))
    by true h i = h
    by false h i = i

set-few : (name : List ℕ) (l : Lists) (accounts : List NamedAccount) → Few l → AllFew accounts → AllFew (with_lists name l accounts)
unfolding with_lists
set-few name l [] g h = All-cons (λ (x : NamedAccount). Few x.lists) _ [] g (All-nil (λ (x : NamedAccount). Few x.lists))
set-few name l (x ∷ xs) g h =
    by (bytes_eq x.name name) (All-head (λ (x : NamedAccount). Few x.lists) x xs h) (All-tail (λ (x : NamedAccount). Few x.lists) x xs h) (set-few name l xs g (All-tail (λ (x : NamedAccount). Few x.lists) x xs h))
  where
    by : (t : Bool) → Few x.lists → AllFew xs → AllFew (with_lists name l xs) → AllFew (cond t (record { name = x.name; lists = l } ∷ xs) (x ∷ with_lists name l xs))
    by true h i j = All-cons (λ (x : NamedAccount). Few x.lists) _ xs g i
    by false h i j = All-cons (λ (x : NamedAccount). Few x.lists) x (with_lists name l xs) h j

after-few : (name : List ℕ) (o : Outcome) (accounts : List NamedAccount) → FewIf o → AllFew accounts → AllFew (accounts_after name o accounts)
unfolding FewIf
after-few name (Accepts new) accounts g h = set-few name new accounts g h
after-few name (Refuses r) accounts g h = h
after-few name (Repeats n) accounts g h = h

shared-few : (s : State) (r : Shared) (o : Option Refusal) → AllFew s.accounts → AllFew (with_shared s r o).0.accounts
shared-few s r (Some e) g = g
shared-few s r None g = g

step-few : (s : State) (r : Request) → AllFew s.accounts → AllFew (step s r).0.accounts
unfolding step
step-few s (request.Shared r) g = shared-few s r (shared_reason s.today (has_accounts s) r) g
step-few s (request.Post name key p) g =
    after-few name (outcome_in s name key p) s.accounts (outcome-few s.today s.shared (length s.accounts) key p (lists_of name s.accounts) (lists-few name s.accounts g)) g

run-few : (s : State) (rs : List Request) → AllFew s.accounts → AllFew (run_from s rs).accounts
unfolding run_from
run-few s [] g = g
run-few s (r ∷ rs) g = run-few (step s r).0 rs (step-few s r g)

pub runs_have_few_segments : RunsHaveFewSegments
runs_have_few_segments requests = run-few start requests (All-nil (λ (x : NamedAccount). Few x.lists))
