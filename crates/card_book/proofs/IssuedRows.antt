-- Issued rows stay as they were issued, and only a Bill adds one.
use Rattle.std.proofs.Common.{◌≡◌, ℕ, Bool, true, false, cond, ◌&&◌, List, [], ◌∷◌, ◌++◌, length, Option, Some, None, refl, sym, ap, ◌∙◌, subst}
use Rattle.std.specs.Option.{option_map}
use Rattle.std.specs.Str.{bytes_eq}
use Rattle.std.proofs.lemmas.List.{append-nil, append_assoc}
use Rattle.std.proofs.lemmas.Slice.Eq.{bytes_eq-Decides}
use Rattle.card_events.specs.History.{at_number, is_open}
use Rattle.card_events.specs.Keys.{with_key}
use Rattle.card_events.specs.SharedRows.{shared_rows}
use Rattle.card_events.specs.declared.post.Post.{Post}
use Rattle.card_events.specs.declared.post.Post.TheVariants as post
use Rattle.card_events.specs.declared.reply.Refusal.{Refusal}
use Rattle.card_events.specs.declared.reply.Refusal.TheVariants as refusal
use Rattle.card_events.specs.declared.request.Request.{Request}
use Rattle.card_events.specs.declared.request.Request.TheVariants as request
use Rattle.card_events.specs.declared.request.Shared.{Shared}
use Rattle.card_model.specs.Cycles.{IssuedRow}
use Rattle.card_model.specs.Machine.{Accepts, NamedAccount, Outcome, Refuses, Repeats, State, accepted, accounts_after, at_key, has_accounts, is_repeat_of, issues, judged, lists_of, outcome, outcome_in, run_from, shared_reason, step, with_lists, with_shared}
use Rattle.card_model.specs.Refusals.{Lists, Present, reason_against}
use Rattle.card_book.specs.Laws.{IssuedRowsStay, OnlyBillsIssue, bills_on, is_bill}

-- ---- names
names-same : (name : List ℕ) → bytes_eq name name ≡ true
names-same name = (bytes_eq-Decides name name).1 refl

names-equal : (a b : List ℕ) → bytes_eq a b ≡ true → a ≡ b
names-equal a b e = (bytes_eq-Decides a b).0 e

-- ---- the lists of an account after a change
changed-same : (name : List ℕ) (l : Lists) (xs : List NamedAccount) → lists_of name (with_lists name l xs) ≡ Some l
unfolding lists_of with_lists
changed-same name l [] = rw (names-same name) refl
changed-same name l (x ∷ xs) = by (bytes_eq x.name name) refl (changed-same name l xs)
  where
    by : (t : Bool) → bytes_eq x.name name ≡ t → lists_of name (with_lists name l xs) ≡ Some l → lists_of name (cond t (record { name = x.name; lists = l } ∷ xs) (x ∷ with_lists name l xs)) ≡ Some l
    by true e h = rw e refl
    by false e h = rw e h

changed-other : (name other : List ℕ) (l : Lists) (xs : List NamedAccount) → bytes_eq other name ≡ false → lists_of name (with_lists other l xs) ≡ lists_of name xs
unfolding lists_of with_lists
changed-other name other l [] n = rw n refl
changed-other name other l (x ∷ xs) n = by (bytes_eq x.name other) refl (changed-other name other l xs n)
  where
    by : (t : Bool) → bytes_eq x.name other ≡ t → lists_of name (with_lists other l xs) ≡ lists_of name xs
        → lists_of name (cond t (record { name = x.name; lists = l } ∷ xs) (x ∷ with_lists other l xs)) ≡ cond (bytes_eq x.name name) (Some x.lists) (lists_of name xs)
    by true e h = let same : bytes_eq x.name name ≡ false = rw (names-equal x.name other e) n in rw same refl
    by false e h = rw h refl

-- ---- what a post comes to
-- of the issued rows of what is accepted
IssuedIf : (List IssuedRow → Type 0) → Outcome → Type 0
IssuedIf P (Accepts new) = P new.issued
IssuedIf P (Refuses r) = Unit {0}
IssuedIf P (Repeats n) = Unit {0}

-- what holds of an account's rows with those that a post issues
abbrev WithIssued : (List IssuedRow → Type 0) → Lists → Post → Type 0
WithIssued P l p = (now : Present) → P (l.issued ++ issues now p)

judged-issued : (P : List IssuedRow → Type 0) (now : Present) (key : List ℕ) (p : Post) (r : Option Refusal) → WithIssued P now.lists p → IssuedIf P (judged now key p r)
unfolding IssuedIf accepted
judged-issued P now key p (Some r) w = tt
judged-issued P now key p None w = w now

either-issued : (P : List IssuedRow → Type 0) (t : Bool) (a b : Outcome) → IssuedIf P a → IssuedIf P b → IssuedIf P (cond t a b)
either-issued P true a b h g = h
either-issued P false a b h g = g

at_key-issued : (P : List IssuedRow → Type 0) (now : Present) (key : List ℕ) (p : Post) (o : Option ℕ) → WithIssued P now.lists p → IssuedIf P (at_key now key p o)
unfolding IssuedIf
at_key-issued P now key p (Some n) w = either-issued P (is_repeat_of p (at_number n now.lists.posts)) (Repeats n) (Refuses (refusal.KeyReused n)) tt tt
at_key-issued P now key p None w =
    either-issued P (is_open p) (Refuses refusal.AccountExists) (judged now key p (reason_against now p)) tt (judged-issued P now key p (reason_against now p) w)

outcome-issued : (P : List IssuedRow → Type 0) (today : ℕ) (rows : List Shared) (accounts : ℕ) (key : List ℕ) (p : Post) (l : Lists) → WithIssued P l p
    → IssuedIf P (outcome today rows accounts key p (Some l))
unfolding outcome
outcome-issued P today rows accounts key p l w = at_key-issued P (record { today = today; shared = shared_rows rows; lists = l }) key p (with_key key l.posts) w

-- ---- one request
-- the account is there, and this holds of its rows
record HasRows (P : List IssuedRow → Type 0) (name : List ℕ) (accounts : List NamedAccount) : Type 0 where
  lists : Lists
  there : lists_of name accounts ≡ Some lists
  rows : P lists.issued

after-same : (P : List IssuedRow → Type 0) (name : List ℕ) (o : Outcome) (accounts : List NamedAccount) → HasRows P name accounts → IssuedIf P o → HasRows P name (accounts_after name o accounts)
unfolding IssuedIf
after-same P name (Accepts new) accounts h g = record { lists = new; there = changed-same name new accounts; rows = g }
after-same P name (Refuses r) accounts h g = h
after-same P name (Repeats n) accounts h g = h

after-other : (P : List IssuedRow → Type 0) (name other : List ℕ) (o : Outcome) (accounts : List NamedAccount) → bytes_eq other name ≡ false → HasRows P name accounts
    → HasRows P name (accounts_after other o accounts)
after-other P name other (Accepts new) accounts e h = record { lists = h.lists; there = changed-other name other new accounts e ∙ h.there; rows = h.rows }
after-other P name other (Refuses r) accounts e h = h
after-other P name other (Repeats n) accounts e h = h

-- what the request, where it is a post on the account, issues
WithRequest : (List IssuedRow → Type 0) → List ℕ → Lists → Request → Type 0
WithRequest P name l (request.Shared r) = Unit {0}
WithRequest P name l (request.Post other key p) = bytes_eq other name ≡ true → WithIssued P l p

shared-rows : (P : List IssuedRow → Type 0) (name : List ℕ) (s : State) (r : Shared) (why : Option Refusal) → HasRows P name s.accounts → HasRows P name (with_shared s r why).0.accounts
shared-rows P name s r None h = h
shared-rows P name s r (Some e) h = h

step-rows : (P : List IssuedRow → Type 0) (name : List ℕ) (s : State) (r : Request) (h : HasRows P name s.accounts) → WithRequest P name h.lists r → HasRows P name (step s r).0.accounts
unfolding step WithRequest
step-rows P name s (request.Shared r) h w = shared-rows P name s r (shared_reason s.today (has_accounts s) r) h
step-rows P name s (request.Post other key p) h w = by (bytes_eq other name) refl
  where
    mine : (m : List ℕ) → m ≡ name → WithIssued P h.lists p → HasRows P name (accounts_after m (outcome_in s m key p) s.accounts)
    mine m e w =
        let there : lists_of m s.accounts ≡ Some h.lists = ap (λ (n : List ℕ). lists_of n s.accounts) e ∙ h.there in
        let come : IssuedIf P (outcome_in s m key p) = rw there (outcome-issued P s.today s.shared (length s.accounts) key p h.lists w) in
        subst (λ (n : List ℕ). HasRows P name (accounts_after n (outcome_in s m key p) s.accounts)) (sym e) (after-same P name (outcome_in s m key p) s.accounts h come)

    by : (t : Bool) → bytes_eq other name ≡ t → HasRows P name (accounts_after other (outcome_in s other key p) s.accounts)
    by true e = mine other (names-equal other name e) (w e)
    by false e = after-other P name other (outcome_in s other key p) s.accounts e h

-- ---- issued rows of an account as lists
rows-there : (P : List IssuedRow → Type 0) (name : List ℕ) (accounts : List NamedAccount) (o : Option Lists) (rows : List IssuedRow) → lists_of name accounts ≡ o → option_map (λ (l : Lists). l.issued) o ≡ Some rows → P rows
    → HasRows P name accounts
rows-there P name accounts None rows e h g = absurd (cc)
rows-there P name accounts (Some l) rows e h g = let same : rows ≡ l.issued = cc in record { lists = l; there = e; rows = subst P same g }

-- ---- requests in turn
-- rows that begin with these
record Begins (rows all : List IssuedRow) : Type 0 where
  more : List IssuedRow
  same : all ≡ rows ++ more

begins-all : (rows : List IssuedRow) → Begins rows rows
begins-all rows = record { more = []; same = sym (append-nil rows) }

begins-more : (rows all next : List IssuedRow) → Begins rows all → Begins rows (all ++ next)
begins-more rows all next b = record { more = b.more ++ next; same = ap (λ (l : List IssuedRow). l ++ next) b.same ∙ append_assoc rows b.more next }

may-add : (name : List ℕ) (rows : List IssuedRow) (l : Lists) (r : Request) → Begins rows l.issued → WithRequest (Begins rows) name l r
unfolding WithRequest
may-add name rows l (request.Shared r) b = tt
may-add name rows l (request.Post other key p) b = λ e now. begins-more rows l.issued (issues now p) b

run-rows : (name : List ℕ) (rows : List IssuedRow) (s : State) (further : List Request) → HasRows (Begins rows) name s.accounts → HasRows (Begins rows) name (run_from s further).accounts
unfolding run_from
run-rows name rows s [] h = h
run-rows name rows s (r ∷ further) h = run-rows name rows (step s r).0 further (step-rows (Begins rows) name s r h (may-add name rows h.lists r h.rows))

pub issued_rows_stay : IssuedRowsStay
issued_rows_stay name s rows further e =
    let h = run-rows name rows s further (rows-there (Begins rows) name s.accounts (lists_of name s.accounts) rows refl e (begins-all rows)) in
    record { more = h.rows.more; issued = ap (option_map (λ (l : Lists). l.issued)) h.there ∙ ap Some h.rows.same }

-- ---- only a Bill
no-rows : (now : Present) (p : Post) → is_bill p ≡ false → issues now p ≡ []
no-rows now (post.Bill c) e = cc
no-rows now (post.Open d t) e = refl
no-rows now (post.OpenVariable d t) e = refl
no-rows now (post.Charge d q c) e = refl
no-rows now (post.Credit d q c) e = refl
no-rows now (post.Payment d m y c) e = refl
no-rows now (post.Return d t) e = refl
no-rows now (post.Plan d k r f a) e = refl
no-rows now (post.Notice d c r f) e = refl
no-rows now (post.Lower d c r) e = refl
no-rows now post.Penalty e = refl
no-rows now (post.Review d f) e = refl
no-rows now (post.Dispute d t c) e = refl
no-rows now (post.Ack d t) e = refl
no-rows now (post.Resolve d t c) e = refl
no-rows now (post.AskRefund d) e = refl
no-rows now (post.Refund c) e = refl
no-rows now (post.Amend t d c) e = refl

abbrev Are : List IssuedRow → List IssuedRow → Type 0
Are rows all = all ≡ rows

adds-none : (name : List ℕ) (rows : List IssuedRow) (l : Lists) (r : Request) → bills_on name r ≡ false → l.issued ≡ rows → WithRequest (Are rows) name l r
unfolding WithRequest
adds-none name rows l (request.Shared r) n h = tt
adds-none name rows l (request.Post other key p) n h = λ e now.
    let none : is_bill p ≡ false = ap (λ (t : Bool). t && is_bill p) (sym e) ∙ n in
    ap (λ (new : List IssuedRow). l.issued ++ new) (no-rows now p none) ∙ (append-nil l.issued ∙ h)

pub only_bills_issue : OnlyBillsIssue
only_bills_issue name s rows r e n =
    let before = rows-there (Are rows) name s.accounts (lists_of name s.accounts) rows refl e refl in
    let after = step-rows (Are rows) name s r before (adds-none name rows before.lists r n before.rows) in
    ap (option_map (λ (l : Lists). l.issued)) after.there ∙ ap Some after.rows
