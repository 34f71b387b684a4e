-- Every run over dated requests leaves accounts with dated posts.
use Rattle.std.proofs.Common.{◌≡◌, ℕ, Bool, true, false, cond, List, [], ◌∷◌, length, Option, Some, None}
use Rattle.std.proofs.lemmas.List.Elements.{All-cons, All-head, All-nil, All-push, All-tail}
use Rattle.std.specs.List.{All}
use Rattle.std.specs.Str.{bytes_eq}
use Rattle.card_events.specs.Dated.{is_dated, is_dated_post}
use Rattle.card_events.specs.History.{at_number, is_open}
use Rattle.card_events.specs.Keys.{with_key}
use Rattle.card_events.specs.SharedRows.{shared_rows}
use Rattle.card_events.specs.declared.kept.Kept.{Kept}
use Rattle.card_events.specs.declared.post.Post.{Post}
use Rattle.card_events.specs.declared.reply.Refusal.{Refusal}
use Rattle.card_events.specs.declared.request.Request.{Request}
use Rattle.card_events.specs.declared.request.Request.TheVariants as request
use Rattle.card_events.specs.declared.request.Shared.{Shared}
use Rattle.card_model.specs.Machine.{Accepts, NamedAccount, Outcome, Refuses, Repeats, State, accepted, accounts_after, at_key, has_accounts, is_repeat_of, judged, kept_as, lists_of, next_number, opened, outcome, outcome_in, run_from, shared_reason, start, step, with_lists, with_shared}
use Rattle.card_model.specs.Refusals.{Lists, Present, reason_against, reason_to_open}
use Rattle.card_rates.specs.SlotLaws.{RunsKeepDates}
use Rattle.card_rates.specs.Segments.{ArePostsDated}

abbrev IsDated : Kept → Type 0
IsDated k = is_dated_post k.post ≡ true

-- the lists of an account
abbrev Dated : Lists → Type 0
Dated l = ArePostsDated l.posts

accepted-dated : (now : Present) (key : List ℕ) (p : Post) → is_dated_post p ≡ true → Dated now.lists → Dated (accepted now key p)
unfolding accepted
accepted-dated now key p e h = All-push IsDated now.lists.posts (kept_as (next_number now) key now.today p) h e

first-dated : (key : List ℕ) (today : ℕ) (p : Post) → is_dated_post p ≡ true → Dated (record { posts = kept_as 1 key today p ∷ []; issued = [] })
first-dated key today p e = All-cons IsDated (kept_as 1 key today p) [] e (All-nil IsDated)

-- ---- a step
DatedIf : Outcome → Type 0
DatedIf (Accepts new) = Dated new
DatedIf (Refuses r) = Unit {0}
DatedIf (Repeats n) = Unit {0}

judged-dated : (now : Present) (key : List ℕ) (p : Post) (r : Option Refusal) → is_dated_post p ≡ true → Dated now.lists → DatedIf (judged now key p r)
unfolding DatedIf
judged-dated now key p (Some r) e h = tt
judged-dated now key p None e h = accepted-dated now key p e h

either-dated : (t : Bool) (a b : Outcome) → DatedIf a → DatedIf b → DatedIf (cond t a b)
either-dated true a b h g = h
either-dated false a b h g = g

at_key-dated : (now : Present) (key : List ℕ) (p : Post) (o : Option ℕ) → is_dated_post p ≡ true → Dated now.lists → DatedIf (at_key now key p o)
unfolding DatedIf
at_key-dated now key p (Some n) e h = either-dated (is_repeat_of p (at_number n now.lists.posts)) _ _ tt tt
at_key-dated now key p None e h = either-dated (is_open p) _ _ tt (judged-dated now key p (reason_against now p) e h)

opened-dated : (key : List ℕ) (today : ℕ) (p : Post) (r : Option Refusal) → is_dated_post p ≡ true → DatedIf (opened key today p r)
unfolding DatedIf
opened-dated key today p (Some r) e = tt
opened-dated key today p None e = first-dated key today p e

-- the lists of an account, where it is there
DatedThere : Option Lists → Type 0
DatedThere None = Unit {0}
DatedThere (Some l) = Dated l

outcome-dated : (today : ℕ) (rows : List Shared) (accounts : ℕ) (key : List ℕ) (p : Post) (o : Option Lists) → is_dated_post p ≡ true → DatedThere o → DatedIf (outcome today rows accounts key p o)
unfolding outcome DatedThere DatedIf
outcome-dated today rows accounts key p None e h = either-dated (is_open p) _ _ (opened-dated key today p (reason_to_open today accounts (shared_rows rows) p) e) tt
outcome-dated today rows accounts key p (Some l) e h = at_key-dated (record { today = today; shared = shared_rows rows; lists = l }) key p (with_key key l.posts) e h

abbrev AllDated : List NamedAccount → Type 0
AllDated accounts = All (λ (x : NamedAccount). Dated x.lists) accounts

lists-dated : (name : List ℕ) (accounts : List NamedAccount) → AllDated accounts → DatedThere (lists_of name accounts)
unfolding lists_of DatedThere
lists-dated name [] h = tt
lists-dated name (x ∷ xs) h = by (bytes_eq x.name name) (All-head (λ (x : NamedAccount). Dated x.lists) x xs h) (lists-dated name xs (All-tail (λ (x : NamedAccount). Dated x.lists) x xs h))
  where
    by : (t : Bool) → Dated x.lists → DatedThere (lists_of name xs) → DatedThere (cond t (Some x.lists) (lists_of name xs))
    by true h i = h
    by false h i = i

set-dated : (name : List ℕ) (l : Lists) (accounts : List NamedAccount) → Dated l → AllDated accounts → AllDated (with_lists name l accounts)
unfolding with_lists
set-dated name l [] g h = All-cons (λ (x : NamedAccount). Dated x.lists) _ [] g (All-nil (λ (x : NamedAccount). Dated x.lists))
set-dated name l (x ∷ xs) g h =
    by (bytes_eq x.name name) (All-head (λ (x : NamedAccount). Dated x.lists) x xs h) (All-tail (λ (x : NamedAccount). Dated x.lists) x xs h) (set-dated name l xs g (All-tail (λ (x : NamedAccount). Dated x.lists) x xs h))
  where
    by : (t : Bool) → Dated x.lists → AllDated xs → AllDated (with_lists name l xs) → AllDated (cond t (record { name = x.name; lists = l } ∷ xs) (x ∷ with_lists name l xs))
    by true h i j = All-cons (λ (x : NamedAccount). Dated x.lists) _ xs g i
    by false h i j = All-cons (λ (x : NamedAccount). Dated x.lists) x (with_lists name l xs) h j

after-dated : (name : List ℕ) (o : Outcome) (accounts : List NamedAccount) → DatedIf o → AllDated accounts → AllDated (accounts_after name o accounts)
unfolding DatedIf
after-dated name (Accepts new) accounts g h = set-dated name new accounts g h
after-dated name (Refuses r) accounts g h = h
after-dated name (Repeats n) accounts g h = h

shared-dated : (s : State) (r : Shared) (o : Option Refusal) → AllDated s.accounts → AllDated (with_shared s r o).0.accounts
shared-dated s r (Some e) g = g
shared-dated s r None g = g

step-dated : (s : State) (r : Request) → is_dated r ≡ true → AllDated s.accounts → AllDated (step s r).0.accounts
unfolding is_dated step
step-dated s (request.Shared r) e g = shared-dated s r (shared_reason s.today (has_accounts s) r) g
step-dated s (request.Post name key p) e g =
    after-dated name (outcome_in s name key p) s.accounts (outcome-dated s.today s.shared (length s.accounts) key p (lists_of name s.accounts) e (lists-dated name s.accounts g)) g

run-dated : (s : State) (rs : List Request) → All (λ (r : Request). is_dated r ≡ true) rs → AllDated s.accounts → AllDated (run_from s rs).accounts
unfolding run_from
run-dated s [] h g = g
run-dated s (r ∷ rs) h g = run-dated (step s r).0 rs (All-tail (λ (r : Request). is_dated r ≡ true) r rs h) (step-dated s r (All-head (λ (r : Request). is_dated r ≡ true) r rs h) g)

pub runs_keep_dates : RunsKeepDates
runs_keep_dates requests h = run-dated start requests h (All-nil (λ (x : NamedAccount). Dated x.lists))
