-- An account's replies and lists are those of its own run.
use Rattle.std.proofs.Common.{◌≡◌, ℕ, Bool, true, false, cond, ◌&&◌, List, [], ◌∷◌, ◌++◌, length, refl, sym, ap, ◌∙◌, eqb, leb, Option, Some, None, eq-eqb}
use Rattle.std.specs.Prelude.{◌≢◌}
use Rattle.std.specs.Str.{bytes_eq}
use Rattle.std.proofs.lemmas.Bool.{eqb-true}
use Rattle.std.specs.List.{filter}
use Rattle.card_events.specs.SharedRows.{shared_rows}
use Rattle.card_events.specs.declared.post.Post.{Post}
use Rattle.card_events.specs.declared.reply.Refusal.{Refusal}
use Rattle.card_events.specs.declared.reply.Reply.{Reply}
use Rattle.card_events.specs.declared.request.Request.{Request}
use Rattle.card_events.specs.declared.request.Shared.{Shared}
use Rattle.card_events.specs.declared.reply.Reply.TheVariants as reply
use Rattle.card_model.specs.Isolated.{Isolation, NeverFull, Own, concerns, is_shared, own_of, replies_where, is_on}
use Rattle.card_model.specs.Machine.{Accepts, NamedAccount, Outcome, Refuses, Repeats, State, has_accounts, lists_of, opened, outcome, outcome_in, reply_to, rolled, run_from, shared_reason, step, with_lists, with_outcome, with_shared}
use Rattle.card_model.specs.Refusals.{Lists, bad_terms, day_ahead, first_reason, no_index, reason_to_open, where_true}
use Rattle.card_events.specs.declared.reply.Refusal.TheVariants as refusal
use Rattle.card_events.specs.declared.request.Request.TheVariants as request
use Rattle.card_events.specs.History.{is_open}

-- ---- names
names-same : (n : List ℕ) → bytes_eq n n ≡ true
names-same [] = refl
names-same (x ∷ xs) = rw (eq-eqb x x refl) (names-same xs)

pub names-equal : (a b : List ℕ) → bytes_eq a b ≡ true → a ≡ b
names-equal [] [] e = refl
names-equal [] (y ∷ ys) e = cc
names-equal (x ∷ xs) [] e = cc
names-equal (x ∷ xs) (y ∷ ys) e = by (eqb x y) refl e (names-equal xs ys)
  where
    by : (t : Bool) → eqb x y ≡ t → t && bytes_eq xs ys ≡ true → (bytes_eq xs ys ≡ true → xs ≡ ys) → x ∷ xs ≡ y ∷ ys
    by true f e h = let head : x ≡ y = eqb-true x y f in let tail : xs ≡ ys = h e in cc
    by false f e h = cc

-- ---- the accounts by name
lists_of-with_same : (name : List ℕ) (l : Lists) (xs : List NamedAccount) → lists_of name (with_lists name l xs) ≡ Some l
unfolding lists_of with_lists
lists_of-with_same name l [] = rw (names-same name) refl
lists_of-with_same name l (x ∷ xs) = by (bytes_eq x.name name) refl (lists_of-with_same name l xs)
  where
    by : (t : Bool) → bytes_eq x.name name ≡ t → lists_of name (with_lists name l xs) ≡ Some l → lists_of name (cond t (record { name = x.name; lists = l } ∷ xs) (x ∷ with_lists name l xs)) ≡ Some l
    by true e h = rw e refl
    by false e h = rw e h

lists_of-with_other : (name other : List ℕ) (l : Lists) (xs : List NamedAccount) → bytes_eq other name ≡ false → lists_of name (with_lists other l xs) ≡ lists_of name xs
unfolding lists_of with_lists
lists_of-with_other name other l [] n = rw n refl
lists_of-with_other name other l (x ∷ xs) n = by (bytes_eq x.name other) refl (lists_of-with_other name other l xs n)
  where
    by : (t : Bool) → bytes_eq x.name other ≡ t → lists_of name (with_lists other l xs) ≡ lists_of name xs
        → lists_of name (cond t (record { name = x.name; lists = l } ∷ xs) (x ∷ with_lists other l xs)) ≡ cond (bytes_eq x.name name) (Some x.lists) (lists_of name xs)
    by true e h = let same : bytes_eq x.name name ≡ false = rw (names-equal x.name other e) n in rw same refl
    by false e h = rw h refl

-- ---- the number of accounts counts only where the ledger is full
abbrev IsNotFull : Reply → Type 0
IsNotFull e = e ≢ reply.Refused refusal.LedgerFull

opening-free : (key : List ℕ) (today : ℕ) (p : Post) (bad ahead index : Option Refusal) (full : Bool) → IsNotFull (reply_to (opened key today p (first_reason (bad ∷ ahead ∷ index ∷ where_true full refusal.LedgerFull ∷ []))))
    → opened key today p (first_reason (bad ∷ ahead ∷ index ∷ where_true full refusal.LedgerFull ∷ [])) ≡ opened key today p (first_reason (bad ∷ ahead ∷ index ∷ None ∷ []))
opening-free key today p (Some r) ahead index full h = refl
opening-free key today p None (Some r) index full h = refl
opening-free key today p None None (Some r) full h = refl
opening-free key today p None None None false h = refl
opening-free key today p None None None true h = absurd (h refl)

choice-free : (t : Bool) (u v w : Outcome) → (IsNotFull (reply_to u) → u ≡ v) → IsNotFull (reply_to (cond t u w)) → cond t u w ≡ cond t v w
choice-free true u v w h f = h f
choice-free false u v w h f = refl

count-free : (today : ℕ) (rows : List Shared) (n : ℕ) (key : List ℕ) (p : Post) (l : Option Lists) → IsNotFull (reply_to (outcome today rows n key p l)) → outcome today rows n key p l ≡ outcome today rows 0 key p l
unfolding outcome reason_to_open
count-free today rows n key p (Some l) h = refl
count-free today rows n key p None h = choice-free (is_open p) _ _ _ (opening-free key today p (bad_terms p) (day_ahead today p) (no_index (shared_rows rows).index p) (leb 1000000 n)) h

-- ---- an account's own run: its requests and the shared ones, with the replies to these
shared_own : Own → Shared → Reply → Own
shared_own o r reply.Done = record { today = rolled o.today r; shared = o.shared ++ r ∷ []; lists = o.lists }
shared_own o r _ = o

own_after : Own → Outcome → Own
own_after o (Accepts l) = record { today = o.today; shared = o.shared; lists = Some l }
own_after o _ = o

abbrev own_outcome : Own → List ℕ → Post → Outcome
own_outcome o key p = outcome o.today o.shared 0 key p o.lists

own_replies : Own → List Request → List Reply → List Reply
own_replies o [] es = []
own_replies o (request.Shared r ∷ qs) [] = []
own_replies o (request.Shared r ∷ qs) (e ∷ es) = own_replies (shared_own o r e) qs es
own_replies o (request.Post n key p ∷ qs) es = reply_to (own_outcome o key p) ∷ own_replies (own_after o (own_outcome o key p)) qs es

own_end : Own → List Request → List Reply → Own
own_end o [] es = o
own_end o (request.Shared r ∷ qs) [] = o
own_end o (request.Shared r ∷ qs) (e ∷ es) = own_end (shared_own o r e) qs es
own_end o (request.Post n key p ∷ qs) es = own_end (own_after o (own_outcome o key p)) qs es

own-shared : (name : List ℕ) (s : State) (r : Shared) (why : Option Refusal) → own_of name (with_shared s r why).0 ≡ shared_own (own_of name s) r (with_shared s r why).1
unfolding shared_own
own-shared name s r None = refl
own-shared name s r (Some e) = refl

own-post : (name : List ℕ) (s : State) (u : Outcome) → own_of name (with_outcome s name u).0 ≡ own_after (own_of name s) u
unfolding own_after
own-post name s (Refuses r) = refl
own-post name s (Repeats n) = refl
own-post name s (Accepts l) = rw (lists_of-with_same name l s.accounts) refl

own-other : (name other : List ℕ) (s : State) (u : Outcome) → bytes_eq other name ≡ false → own_of name (with_outcome s other u).0 ≡ own_of name s
own-other name other s (Refuses r) n = refl
own-other name other s (Repeats k) n = refl
own-other name other s (Accepts l) n = rw (lists_of-with_other name other l s.accounts n) refl

-- replies and end of a run, as the account's own
record IsOwnRun (name : List ℕ) (s : State) (xs : List Request) : Type 0 where
  pub replies : replies_where (is_on name) s xs ≡ own_replies (own_of name s) (filter (concerns name) xs) (replies_where is_shared s xs)
  pub end : own_of name (run_from s xs) ≡ own_end (own_of name s) (filter (concerns name) xs) (replies_where is_shared s xs)

-- what one post on the account does to its own run
mine : (name other : List ℕ) (s : State) (key : List ℕ) (p : Post) → bytes_eq other name ≡ true → IsNotFull (reply_to (outcome_in s other key p))
    → (outcome_in s other key p ≡ own_outcome (own_of name s) key p) × (own_of name (with_outcome s other (outcome_in s other key p)).0 ≡ own_after (own_of name s) (own_outcome (own_of name s) key p))
mine name other s key p e full =
    let same : other ≡ name = names-equal other name e in
    let u = outcome_in s other key p in
    let free : u ≡ own_outcome (own_of name s) key p =
    count-free s.today s.shared (length s.accounts) key p (lists_of other s.accounts) full ∙ ap (λ m. outcome s.today s.shared 0 key p (lists_of m s.accounts)) same in
    (free, ap (λ m. own_of name (with_outcome s m u).0) same ∙ (own-post name s u ∙ ap (own_after (own_of name s)) free))

as-own_run : (name : List ℕ) (s : State) (xs : List Request) → NeverFull name s xs → IsOwnRun name s xs
unfolding replies_where own_replies own_end NeverFull step run_from
as-own_run name s [] h = record { replies = refl; end = refl }
as-own_run name s (request.Shared r ∷ xs) h =
    let why = shared_reason s.today (has_accounts s) r in
    let rest = as-own_run name (with_shared s r why).0 xs h.1 in
    let next = own-shared name s r why in
    record {
      replies = rest.replies ∙ ap (λ o. own_replies o (filter (concerns name) xs) (replies_where is_shared (with_shared s r why).0 xs)) next;
      end = rest.end ∙ ap (λ o. own_end o (filter (concerns name) xs) (replies_where is_shared (with_shared s r why).0 xs)) next;
    }
as-own_run name s (request.Post other key p ∷ xs) h =
    let rest = as-own_run name (with_outcome s other (outcome_in s other key p)).0 xs h.1 in
    record { replies = replies (bytes_eq other name) refl h.0 rest.replies; end = ends (bytes_eq other name) refl h.0 rest.end }
  where
    replies : (t : Bool) → bytes_eq other name ≡ t → (t ≡ true → IsNotFull (reply_to (outcome_in s other key p)))
        → replies_where (is_on name) (with_outcome s other (outcome_in s other key p)).0 xs ≡ own_replies (own_of name (with_outcome s other (outcome_in s other key p)).0) (filter (concerns name) xs) (replies_where is_shared (with_outcome s other (outcome_in s other key p)).0 xs)
        → cond t (reply_to (outcome_in s other key p) ∷ replies_where (is_on name) (with_outcome s other (outcome_in s other key p)).0 xs) (replies_where (is_on name) (with_outcome s other (outcome_in s other key p)).0 xs)
        ≡ own_replies (own_of name s) (cond t (request.Post other key p ∷ filter (concerns name) xs) (filter (concerns name) xs)) (replies_where is_shared (with_outcome s other (outcome_in s other key p)).0 xs)
    replies true e full ih =
        let m = mine name other s key p e (full refl) in
        let rs = replies_where is_shared (with_outcome s other (outcome_in s other key p)).0 xs in
        ap (λ r. r ∷ replies_where (is_on name) (with_outcome s other (outcome_in s other key p)).0 xs) (ap reply_to m.0)
        ∙ ap (λ l. reply_to (own_outcome (own_of name s) key p) ∷ l) (ih ∙ ap (λ o. own_replies o (filter (concerns name) xs) rs) m.1)
    replies false e full ih = ih ∙ ap (λ o. own_replies o (filter (concerns name) xs) (replies_where is_shared (with_outcome s other (outcome_in s other key p)).0 xs)) (own-other name other s (outcome_in s other key p) e)

    ends : (t : Bool) → bytes_eq other name ≡ t → (t ≡ true → IsNotFull (reply_to (outcome_in s other key p)))
        → own_of name (run_from (with_outcome s other (outcome_in s other key p)).0 xs) ≡ own_end (own_of name (with_outcome s other (outcome_in s other key p)).0) (filter (concerns name) xs) (replies_where is_shared (with_outcome s other (outcome_in s other key p)).0 xs)
        → own_of name (run_from (with_outcome s other (outcome_in s other key p)).0 xs)
        ≡ own_end (own_of name s) (cond t (request.Post other key p ∷ filter (concerns name) xs) (filter (concerns name) xs)) (replies_where is_shared (with_outcome s other (outcome_in s other key p)).0 xs)
    ends true e full ih =
        let m = mine name other s key p e (full refl) in
        ih ∙ ap (λ o. own_end o (filter (concerns name) xs) (replies_where is_shared (with_outcome s other (outcome_in s other key p)).0 xs)) m.1
    ends false e full ih = ih ∙ ap (λ o. own_end o (filter (concerns name) xs) (replies_where is_shared (with_outcome s other (outcome_in s other key p)).0 xs)) (own-other name other s (outcome_in s other key p) e)

pub isolation : Isolation
isolation name s xs ys full full' same shared =
    let a = as-own_run name s xs full in
    let b = as-own_run name s ys full' in
    record {
      replies = a.replies ∙ rw (same, shared) (sym b.replies);
      own = a.end ∙ rw (same, shared) (sym b.end);
    }
