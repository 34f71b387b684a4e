-- Every account whose opening rates follow the index has one on its opening day (12 CFR 1026.55(b)(2)).
use Rattle.std.proofs.Common.{◌≡◌, ℕ, ◌≤◌, Bool, true, false, cond, List, [], ◌∷◌, ◌++◌, length, Option, Some, None, refl, sym, subst, arith, leb}
use Rattle.std.specs.Prelude.{is_some, not}
use Rattle.std.specs.List.{All}
use Rattle.std.specs.Str.{bytes_eq}
use Rattle.std.proofs.lemmas.List.Elements.{All-nil, All-cons, All-head, All-tail, All-weaker}
use Rattle.card_events.specs.History.{anchor_of, at_number, is_open, opens_variable}
use Rattle.card_events.specs.Keys.{with_key}
use Rattle.card_events.specs.SharedRows.{AreByDay, IndexRow, index_row_of, shared_rows}
use Rattle.card_events.specs.declared.kept.Kept.{Kept}
use Rattle.card_events.specs.declared.post.Post.{Post}
use Rattle.card_events.specs.declared.post.Post.TheVariants as post
use Rattle.card_events.specs.declared.reply.Refusal.{Refusal}
use Rattle.card_events.specs.declared.reply.Refusal.TheVariants as refusal
use Rattle.card_events.specs.declared.request.Request.{Request}
use Rattle.card_events.specs.declared.request.Request.TheVariants as request
use Rattle.card_events.specs.declared.request.Shared.{Shared}
use Rattle.card_events.proofs.IndexRows.{index-is-by-day, index-more, with_more}
use Rattle.card_model.specs.Accepted.{HasAnIndex}
use Rattle.card_model.specs.Cycles.{IssuedRow}
use Rattle.card_model.specs.Machine.{Accepts, NamedAccount, Outcome, Refuses, Repeats, State, accepted, accounts_after, at_key, has_accounts, is_repeat_of, judged, kept_as, lists_of, opened, outcome, outcome_in, run, run_from, shared_reason, start, step, with_lists, with_shared}
use Rattle.card_model.specs.Rates.{index_on}
use Rattle.card_model.specs.Refusals.{Lists, Present, bad_terms, day_ahead, first_reason, no_index, reason_against, reason_to_open, where_true}
use Rattle.card_model.proofs.IndexDays.{index-stays}

-- an account that has begun, with its index
record IsIndexed (rows : List IndexRow) (l : Lists) : Type 0 where
  pub begun : 1 ≤ length l.posts
  pub index : HasAnIndex rows l

-- ---- a post
-- a later post changes neither the opening nor whether it follows the index
still-indexed : (rows : List IndexRow) (posts : List Kept) (k : Kept) (issued more : List IssuedRow) → IsIndexed rows (record { posts = posts; issued = issued }) → IsIndexed rows (record { posts = posts ++ k ∷ []; issued = more })
still-indexed rows [] k issued more h = absurd (let b = h.begun in omega (arith, b))
still-indexed rows (x ∷ posts) k issued more h = record { begun = omega arith; index = h.index }

-- the reasons against an opening, of which none stands
no-index : (bad ahead index : Option Refusal) (full : Bool) → first_reason (bad ∷ ahead ∷ index ∷ where_true full refusal.LedgerFull ∷ []) ≡ None → index ≡ None
no-index None None None full h = refl
no-index None None (Some r) full h = cc
no-index None (Some r) index full h = cc
no-index (Some r) ahead index full h = cc

there-is-one : (b : Bool) → where_true (not b) refusal.NoIndex ≡ None → b ≡ true
there-is-one true h = refl
there-is-one false h = cc

opening-indexed : (rows : List IndexRow) (key : List ℕ) (today : ℕ) (p : Post) → no_index rows p ≡ None → opens_variable p ≡ true → is_some (index_on rows (anchor_of (kept_as 1 key today p ∷ [])).opened) ≡ true
unfolding no_index
opening-indexed rows key today (post.OpenVariable d t) h e = there-is-one (is_some (index_on rows d)) h
opening-indexed rows key today (post.Open d t) h e = cc
opening-indexed rows key today (post.Charge d p c) h e = cc
opening-indexed rows key today (post.Credit d p c) h e = cc
opening-indexed rows key today (post.Payment d m y c) h e = cc
opening-indexed rows key today (post.Return d t) h e = cc
opening-indexed rows key today (post.Plan d g r f a) h e = cc
opening-indexed rows key today (post.Notice d c r f) h e = cc
opening-indexed rows key today (post.Lower d c r) h e = cc
opening-indexed rows key today post.Penalty h e = cc
opening-indexed rows key today (post.Review d f) h e = cc
opening-indexed rows key today (post.Dispute d t c) h e = cc
opening-indexed rows key today (post.Ack d t) h e = cc
opening-indexed rows key today (post.Resolve d t c) h e = cc
opening-indexed rows key today (post.AskRefund d) h e = cc
opening-indexed rows key today (post.Refund c) h e = cc
opening-indexed rows key today (post.Amend t d c) h e = cc
opening-indexed rows key today (post.Bill c) h e = cc

-- what was accepted is indexed
IndexedIf : List IndexRow → Outcome → Type 0
IndexedIf rows (Accepts new) = IsIndexed rows new
IndexedIf rows (Refuses r) = Unit {0}
IndexedIf rows (Repeats n) = Unit {0}

IndexedThere : List IndexRow → Option Lists → Type 0
IndexedThere rows None = Unit {0}
IndexedThere rows (Some l) = IsIndexed rows l

judged-indexed : (rows : List IndexRow) (now : Present) (key : List ℕ) (p : Post) (r : Option Refusal) → IsIndexed rows now.lists → IndexedIf rows (judged now key p r)
unfolding IndexedIf accepted
judged-indexed rows now key p (Some r) h = tt
judged-indexed rows now key p None h = still-indexed rows now.lists.posts _ now.lists.issued _ h

either-indexed : (rows : List IndexRow) (t : Bool) (a b : Outcome) → IndexedIf rows a → IndexedIf rows b → IndexedIf rows (cond t a b)
either-indexed rows true a b h g = h
either-indexed rows false a b h g = g

at_key-indexed : (rows : List IndexRow) (now : Present) (key : List ℕ) (p : Post) (o : Option ℕ) → IsIndexed rows now.lists → IndexedIf rows (at_key now key p o)
unfolding IndexedIf
at_key-indexed rows now key p (Some n) h = either-indexed rows (is_repeat_of p (at_number n now.lists.posts)) _ _ tt tt
at_key-indexed rows now key p None h = either-indexed rows (is_open p) _ _ tt (judged-indexed rows now key p (reason_against now p) h)

opened-indexed : (rows : List IndexRow) (key : List ℕ) (today : ℕ) (p : Post) (r : Option Refusal) → (r ≡ None → no_index rows p ≡ None) → IndexedIf rows (opened key today p r)
unfolding IndexedIf
opened-indexed rows key today p (Some r) h = tt
opened-indexed rows key today p None h = record { begun = omega arith; index = λ e. opening-indexed rows key today p (h refl) e }

outcome-indexed : (today : ℕ) (rows : List Shared) (accounts : ℕ) (key : List ℕ) (p : Post) (o : Option Lists) → IndexedThere (shared_rows rows).index o → IndexedIf (shared_rows rows).index (outcome today rows accounts key p o)
unfolding outcome IndexedThere IndexedIf reason_to_open
outcome-indexed today rows accounts key p None h =
    either-indexed (shared_rows rows).index (is_open p) _ _
    (opened-indexed (shared_rows rows).index key today p _ (λ e. no-index (bad_terms p) (day_ahead today p) (no_index (shared_rows rows).index p) (leb 1000000 accounts) e)) tt
outcome-indexed today rows accounts key p (Some l) h =
    at_key-indexed (shared_rows rows).index (record { today = today; shared = shared_rows rows; lists = l }) key p (with_key key l.posts) h

-- ---- accounts
abbrev Indexed : List IndexRow → NamedAccount → Type 0
Indexed rows x = IsIndexed rows x.lists

lists-indexed : (rows : List IndexRow) (name : List ℕ) (accounts : List NamedAccount) → All (Indexed rows) accounts → IndexedThere rows (lists_of name accounts)
unfolding lists_of IndexedThere
lists-indexed rows name [] h = tt
lists-indexed rows name (x ∷ xs) h = by (bytes_eq x.name name) (All-head (Indexed rows) x xs h) (lists-indexed rows name xs (All-tail (Indexed rows) x xs h))
  where
    by : (t : Bool) → IsIndexed rows x.lists → IndexedThere rows (lists_of name xs) → IndexedThere rows (cond t (Some x.lists) (lists_of name xs))
    by true h i = h
    by false h i = i

set-indexed : (rows : List IndexRow) (name : List ℕ) (l : Lists) (accounts : List NamedAccount) → IsIndexed rows l → All (Indexed rows) accounts → All (Indexed rows) (with_lists name l accounts)
unfolding with_lists
set-indexed rows name l [] g h = All-cons (Indexed rows) _ [] g (All-nil (Indexed rows))
set-indexed rows name l (x ∷ xs) g h =
    by (bytes_eq x.name name) (All-head (Indexed rows) x xs h) (All-tail (Indexed rows) x xs h) (set-indexed rows name l xs g (All-tail (Indexed rows) x xs h))
  where
    by : (t : Bool) → IsIndexed rows x.lists → All (Indexed rows) xs → All (Indexed rows) (with_lists name l xs) → All (Indexed rows) (cond t (record { name = x.name; lists = l } ∷ xs) (x ∷ with_lists name l xs))
    by true h i j = All-cons (Indexed rows) _ xs g i
    by false h i j = All-cons (Indexed rows) x (with_lists name l xs) h j

after-indexed : (rows : List IndexRow) (name : List ℕ) (o : Outcome) (accounts : List NamedAccount) → IndexedIf rows o → All (Indexed rows) accounts → All (Indexed rows) (accounts_after name o accounts)
unfolding IndexedIf
after-indexed rows name (Accepts new) accounts g h = set-indexed rows name new accounts g h
after-indexed rows name (Refuses r) accounts g h = h
after-indexed rows name (Repeats n) accounts g h = h

-- ---- shared requests
more-indexed : (rows : List IndexRow) (o : Option IndexRow) (x : NamedAccount) → AreByDay 0 rows → IsIndexed rows x.lists → IsIndexed (with_more o rows) x.lists
more-indexed rows None x b h = h
more-indexed rows (Some row) x b h = record { begun = h.begun; index = λ e. index-stays (anchor_of x.lists.posts).opened rows row b (h.index e) }

abbrev AllIndexed : State → Type 0
AllIndexed s = All (Indexed (shared_rows s.shared).index) s.accounts

shared-indexed : (s : State) (r : Shared) (o : Option Refusal) → AllIndexed s → AllIndexed (with_shared s r o).0
shared-indexed s r (Some e) h = h
shared-indexed s r None h =
    let rows = (shared_rows s.shared).index in
    subst (λ (u : List IndexRow). All (Indexed u) s.accounts) (sym (index-more s.shared r))
    (All-weaker (Indexed rows) (Indexed (with_more (index_row_of r) rows)) (λ x i. more-indexed rows (index_row_of r) x (index-is-by-day s.shared) i) s.accounts h)

step-indexed : (s : State) (r : Request) → AllIndexed s → AllIndexed (step s r).0
unfolding step
step-indexed s (request.Shared r) h = shared-indexed s r (shared_reason s.today (has_accounts s) r) h
step-indexed s (request.Post name key p) h =
    let rows = (shared_rows s.shared).index in
    after-indexed rows name (outcome_in s name key p) s.accounts
    (outcome-indexed s.today s.shared (length s.accounts) key p (lists_of name s.accounts) (lists-indexed rows name s.accounts h)) h

run-indexed : (s : State) (rs : List Request) → AllIndexed s → AllIndexed (run_from s rs)
unfolding run_from
run-indexed s [] h = h
run-indexed s (r ∷ rs) h = run-indexed (step s r).0 rs (step-indexed s r h)

pub runs-are-indexed : (requests : List Request) → All (λ (x : NamedAccount). HasAnIndex (shared_rows (run requests).shared).index x.lists) (run requests).accounts
runs-are-indexed requests =
    let rows = (shared_rows (run requests).shared).index in
    All-weaker (Indexed rows) (λ (x : NamedAccount). HasAnIndex rows x.lists) (λ x i. i.index) (run requests).accounts
    (run-indexed start requests (All-nil (Indexed [])))
