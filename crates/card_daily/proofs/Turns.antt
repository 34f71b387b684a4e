-- Every run of the machine leaves accounts whose posts and statements are in the order of their days.
use Rattle.std.proofs.Common.{◌≡◌, ℕ, ◌-◌, ◌<◌, ◌≤◌, Bool, true, false, cond, List, [], ◌∷◌, ◌++◌, length, refl, sym, subst, arith, Option, Some, None}
use Rattle.std.proofs.lemmas.Bool.{eqb-true, leb-false}
use Rattle.std.proofs.lemmas.List.{append-nil}
use Rattle.std.proofs.lemmas.List.Elements.{All-cons, All-get_or, All-head, All-nil, All-push, All-tail, All-weaker}
use Rattle.std.proofs.lemmas.List.Sorted.{IsNonDecreasingBy-push, IsNonDecreasingBy-short}
use Rattle.std.specs.List.{All}
use Rattle.std.specs.List.Sorted.{IsNonDecreasingBy}
use Rattle.std.specs.Prelude.{nat_le, nat_lt, ◌+◌, ◌&&◌}
use Rattle.std.specs.Str.{bytes_eq}
use Rattle.card_model.proofs.Accepting.{all-none, first-none}
use Rattle.card_events.specs.Billing.{closing}
use Rattle.card_events.specs.Range.{first_calendar_day}
use Rattle.card_events.specs.declared.anchor.Anchor.{Anchor}
use Rattle.card_events.specs.History.{anchor_of, at_number, is_open}
use Rattle.card_events.specs.Keys.{with_key}
use Rattle.card_events.specs.SharedRows.{shared_rows}
use Rattle.card_events.specs.declared.kept.Kept.{Kept}
use Rattle.card_events.specs.declared.post.Post.{Post}
use Rattle.card_events.specs.declared.post.Post.TheVariants as post
use Rattle.card_events.specs.declared.reply.Refusal.{Refusal}
use Rattle.card_events.specs.declared.reply.Refusal.TheVariants as refusal
use Rattle.card_events.specs.declared.request.Request.{Request}
use Rattle.card_events.specs.declared.request.Request.TheVariants as request
use Rattle.card_events.specs.declared.request.Shared.{Shared}
use Rattle.card_events.specs.declared.request.Shared.TheVariants as shared
use Rattle.card_model.specs.Cycles.{Cycle, IssuedRow, Sheet}
use Rattle.card_model.specs.Folds.{cycle_at, row_of_cycle}
use Rattle.card_model.specs.Machine.{Accepts, NamedAccount, Outcome, Refuses, Repeats, State, accepted, accounts_after, at_key, has_accounts, is_repeat_of, issues, judged, kept_as, lists_of, next_number, opened, outcome, outcome_in, run_from, shared_reason, start, step, with_lists, with_shared}
use Rattle.card_model.specs.Refusals.{IsBilledLater, Lists, Present, bills, book_today, not_closed, reason_against, reason_to_open, reasons, where_true}
use Rattle.card_model.specs.Sheets.{issued_sheet_of}
use Rattle.card_daily.proofs.Runs.{anchor-stays, more-posts}
use Rattle.card_daily.specs.Given.{AreInTurn}
use Rattle.card_daily.specs.Laws.{RunsKeepTurns}

-- ---- no reason stands
where-false : (b : Bool) (r : Refusal) → where_true b r ≡ None → b ≡ false
where-false false r h = refl
where-false true r h = cc

closed : (now : Present) (p : Post) → reason_against now p ≡ None → not_closed now p ≡ None
unfolding reason_against
closed now p h = let none = all-none (reasons now p) h in none.1.1.1.1.1.1.1.1.1.1.1.1.1.1.1.1.1.0

-- ---- the statements of an account
record RowsBy (a : Anchor) (today : ℕ) (rows : List IssuedRow) : Type 0 where
  pub issued : IsNonDecreasingBy (λ r. r.day) rows
  pub later : All (λ r. closing a r.cycle < r.day) rows
  pub upto : All (λ r. r.day ≤ today) rows

no-more : (a : Anchor) (today : ℕ) (rows : List IssuedRow) → RowsBy a today rows → RowsBy a today (rows ++ [])
no-more a today rows h = subst (RowsBy a today) (sym (append-nil rows)) h

one-more : (a : Anchor) (today : ℕ) (rows : List IssuedRow) (r : IssuedRow) → r.day ≡ today → closing a r.cycle < r.day → RowsBy a today rows → RowsBy a today (rows ++ r ∷ [])
one-more a today rows r e l h = record {
  issued = IsNonDecreasingBy-push (λ (x : IssuedRow). x.day) rows r h.issued
      (λ d n. let low = All-get_or (λ (x : IssuedRow). x.day ≤ today) rows (length rows - 1) d (omega (arith, n)) h.upto in omega (arith, low, e));
  later = All-push (λ (x : IssuedRow). closing a x.cycle < x.day) rows r h.later l;
  upto = All-push (λ (x : IssuedRow). x.day ≤ today) rows r h.upto (omega (arith, e));
}

row-more : (a : Anchor) (today cycle bill : ℕ) (sheet : Cycle → Sheet) (rows : List IssuedRow) (o : Option Cycle) → closing a cycle < today → RowsBy a today rows → RowsBy a today (rows ++ row_of_cycle cycle bill today sheet o)
row-more a today cycle bill sheet rows None l h = no-more a today rows h
row-more a today cycle bill sheet rows (Some c) l h = one-more a today rows (record { cycle = cycle; bill = bill; day = today; statement = c; sheet = sheet c }) refl l h

bill-closed : (now : Present) (cycle : ℕ) → not_closed now (post.Bill cycle) ≡ None → closing (anchor_of now.lists.posts) cycle < now.today
unfolding not_closed
bill-closed now cycle h =
    let day = closing (anchor_of now.lists.posts) cycle in
    leb-false now.today day (where-false (nat_le now.today day) (refusal.NotClosed day) h)

issues-more : (now : Present) (p : Post) → not_closed now p ≡ None → RowsBy (anchor_of now.lists.posts) now.today now.lists.issued → RowsBy (anchor_of now.lists.posts) now.today (now.lists.issued ++ issues now p)
issues-more now (post.Bill cycle) n h =
    row-more (anchor_of now.lists.posts) now.today cycle (next_number now) (issued_sheet_of now) now.lists.issued (cycle_at cycle (book_today now).cycles) (bill-closed now cycle n) h
issues-more now (post.Open d t) n h = no-more (anchor_of now.lists.posts) now.today now.lists.issued h
issues-more now (post.OpenVariable d t) n h = no-more (anchor_of now.lists.posts) now.today now.lists.issued h
issues-more now (post.Charge d p c) n h = no-more (anchor_of now.lists.posts) now.today now.lists.issued h
issues-more now (post.Credit d p c) n h = no-more (anchor_of now.lists.posts) now.today now.lists.issued h
issues-more now (post.Payment d m y c) n h = no-more (anchor_of now.lists.posts) now.today now.lists.issued h
issues-more now (post.Return d t) n h = no-more (anchor_of now.lists.posts) now.today now.lists.issued h
issues-more now (post.Plan d g r f a) n h = no-more (anchor_of now.lists.posts) now.today now.lists.issued h
issues-more now (post.Notice d c r f) n h = no-more (anchor_of now.lists.posts) now.today now.lists.issued h
issues-more now (post.Lower d c r) n h = no-more (anchor_of now.lists.posts) now.today now.lists.issued h
issues-more now post.Penalty n h = no-more (anchor_of now.lists.posts) now.today now.lists.issued h
issues-more now (post.Review d f) n h = no-more (anchor_of now.lists.posts) now.today now.lists.issued h
issues-more now (post.Dispute d t c) n h = no-more (anchor_of now.lists.posts) now.today now.lists.issued h
issues-more now (post.Ack d t) n h = no-more (anchor_of now.lists.posts) now.today now.lists.issued h
issues-more now (post.Resolve d t c) n h = no-more (anchor_of now.lists.posts) now.today now.lists.issued h
issues-more now (post.AskRefund d) n h = no-more (anchor_of now.lists.posts) now.today now.lists.issued h
issues-more now (post.Refund c) n h = no-more (anchor_of now.lists.posts) now.today now.lists.issued h
issues-more now (post.Amend t d c) n h = no-more (anchor_of now.lists.posts) now.today now.lists.issued h

-- ---- its posts
record PostsBy (a : Anchor) (today : ℕ) (posts : List Kept) : Type 0 where
  pub accepted : IsNonDecreasingBy (λ k. k.accepted) posts
  pub billed : All (IsBilledLater a) posts
  pub upto : All (λ k. k.accepted ≤ today) posts

post-more : (a : Anchor) (today : ℕ) (posts : List Kept) (k : Kept) → k.accepted ≡ today → IsBilledLater a k → PostsBy a today posts → PostsBy a today (posts ++ k ∷ [])
post-more a today posts k e l h = record {
  accepted = IsNonDecreasingBy-push (λ (x : Kept). x.accepted) posts k h.accepted
      (λ d n. let low = All-get_or (λ (x : Kept). x.accepted ≤ today) posts (length posts - 1) d (omega (arith, n)) h.upto in omega (arith, low, e));
  billed = All-push (IsBilledLater a) posts k h.billed l;
  upto = All-push (λ (x : Kept). x.accepted ≤ today) posts k h.upto (omega (arith, e));
}

billed : (now : Present) (n : ℕ) (key : List ℕ) (p : Post) → not_closed now p ≡ None → IsBilledLater (anchor_of now.lists.posts) (kept_as n key now.today p)
billed now n key (post.Bill c) h cycle is = subst (λ x. closing (anchor_of now.lists.posts) x < now.today) (eqb-true c cycle is) (bill-closed now c h)
billed now n key (post.Open d t) h cycle is = cc
billed now n key (post.OpenVariable d t) h cycle is = cc
billed now n key (post.Charge d p c) h cycle is = cc
billed now n key (post.Credit d p c) h cycle is = cc
billed now n key (post.Payment d m y c) h cycle is = cc
billed now n key (post.Return d t) h cycle is = cc
billed now n key (post.Plan d g r f a) h cycle is = cc
billed now n key (post.Notice d c r f) h cycle is = cc
billed now n key (post.Lower d c r) h cycle is = cc
billed now n key post.Penalty h cycle is = cc
billed now n key (post.Review d f) h cycle is = cc
billed now n key (post.Dispute d t c) h cycle is = cc
billed now n key (post.Ack d t) h cycle is = cc
billed now n key (post.Resolve d t c) h cycle is = cc
billed now n key (post.AskRefund d) h cycle is = cc
billed now n key (post.Refund c) h cycle is = cc
billed now n key (post.Amend t d c) h cycle is = cc

opens-none : (p : Post) (cycle : ℕ) → is_open p ≡ true → bills cycle p ≡ true → ⊥
opens-none (post.Bill c) cycle e h = cc
opens-none (post.Open d t) cycle e h = cc
opens-none (post.OpenVariable d t) cycle e h = cc
opens-none (post.Charge d p c) cycle e h = cc
opens-none (post.Credit d p c) cycle e h = cc
opens-none (post.Payment d m y c) cycle e h = cc
opens-none (post.Return d t) cycle e h = cc
opens-none (post.Plan d g r f a) cycle e h = cc
opens-none (post.Notice d c r f) cycle e h = cc
opens-none (post.Lower d c r) cycle e h = cc
opens-none post.Penalty cycle e h = cc
opens-none (post.Review d f) cycle e h = cc
opens-none (post.Dispute d t c) cycle e h = cc
opens-none (post.Ack d t) cycle e h = cc
opens-none (post.Resolve d t c) cycle e h = cc
opens-none (post.AskRefund d) cycle e h = cc
opens-none (post.Refund c) cycle e h = cc
opens-none (post.Amend t d c) cycle e h = cc

-- ---- the lists of an account
record TurnBy (today : ℕ) (l : Lists) : Type 0 where
  pub begun : 1 ≤ length l.posts
  pub posts : PostsBy (anchor_of l.posts) today l.posts
  pub rows : RowsBy (anchor_of l.posts) today l.issued

in-turn : (today : ℕ) (l : Lists) → TurnBy today l → AreInTurn l
in-turn today l h = record { accepted = h.posts.accepted; billed = h.posts.billed; issued = h.rows.issued; later = h.rows.later }

accepted-turn : (now : Present) (key : List ℕ) (p : Post) → reason_against now p ≡ None → TurnBy now.today now.lists → TurnBy now.today (accepted now key p)
unfolding accepted
accepted-turn now key p e h =
    let ks = now.lists.posts in
    let k = kept_as (next_number now) key now.today p in
    let none = closed now p e in
    let same = sym (anchor-stays ks k h.begun) in
    record {
      begun = more-posts ks k;
      posts = subst (λ (a : Anchor). PostsBy a now.today (ks ++ k ∷ [])) same (post-more (anchor_of ks) now.today ks k refl (billed now (next_number now) key p none) h.posts);
      rows = subst (λ (a : Anchor). RowsBy a now.today (now.lists.issued ++ issues now p)) same (issues-more now p none h.rows);
    }

first-turn : (key : List ℕ) (today : ℕ) (p : Post) → is_open p ≡ true → TurnBy today (record { posts = kept_as 1 key today p ∷ []; issued = [] })
first-turn key today p e =
    let k = kept_as 1 key today p in
    let a = anchor_of (k ∷ []) in
    record {
      begun = omega arith;
      posts = record {
        accepted = IsNonDecreasingBy-short (λ (x : Kept). x.accepted) (k ∷ []) (omega arith);
        billed = All-cons (IsBilledLater a) k [] (λ cycle is. absurd (opens-none p cycle e is)) (All-nil (IsBilledLater a));
        upto = All-cons (λ (x : Kept). x.accepted ≤ today) k [] (omega arith) (All-nil (λ (x : Kept). x.accepted ≤ today));
      };
      rows = record {
        issued = IsNonDecreasingBy-short (λ (x : IssuedRow). x.day) [] (omega arith);
        later = All-nil (λ (x : IssuedRow). closing a x.cycle < x.day);
        upto = All-nil (λ (x : IssuedRow). x.day ≤ today);
      };
    }

later-turn : (today later : ℕ) (l : Lists) → today ≤ later → TurnBy today l → TurnBy later l
later-turn today later l up h = record {
  begun = h.begun;
  posts = record { accepted = h.posts.accepted; billed = h.posts.billed; upto = All-weaker (λ (x : Kept). x.accepted ≤ today) (λ (x : Kept). x.accepted ≤ later) (λ x m. omega (arith, m, up)) l.posts h.posts.upto };
  rows = record { issued = h.rows.issued; later = h.rows.later; upto = All-weaker (λ (x : IssuedRow). x.day ≤ today) (λ (x : IssuedRow). x.day ≤ later) (λ x m. omega (arith, m, up)) l.issued h.rows.upto };
}

-- ---- a step
TurnIf : ℕ → Outcome → Type 0
TurnIf today (Accepts new) = TurnBy today new
TurnIf today (Refuses r) = Unit {0}
TurnIf today (Repeats n) = Unit {0}

judged-turn : (now : Present) (key : List ℕ) (p : Post) (r : Option Refusal) → reason_against now p ≡ r → TurnBy now.today now.lists → TurnIf now.today (judged now key p r)
unfolding TurnIf
judged-turn now key p (Some r) e l = tt
judged-turn now key p None e l = accepted-turn now key p e l

either-turn : (today : ℕ) (t : Bool) (a b : Outcome) → TurnIf today a → TurnIf today b → TurnIf today (cond t a b)
either-turn today true a b h g = h
either-turn today false a b h g = g

at_key-turn : (now : Present) (key : List ℕ) (p : Post) (o : Option ℕ) → TurnBy now.today now.lists → TurnIf now.today (at_key now key p o)
unfolding TurnIf
at_key-turn now key p (Some n) l = either-turn now.today (is_repeat_of p (at_number n now.lists.posts)) _ _ tt tt
at_key-turn now key p None l = either-turn now.today (is_open p) _ _ tt (judged-turn now key p (reason_against now p) refl l)

opened-turn : (key : List ℕ) (today : ℕ) (p : Post) (r : Option Refusal) → is_open p ≡ true → TurnIf today (opened key today p r)
unfolding TurnIf
opened-turn key today p (Some r) e = tt
opened-turn key today p None e = first-turn key today p e

-- the lists of an account, where it is there
TurnThere : ℕ → Option Lists → Type 0
TurnThere today None = Unit {0}
TurnThere today (Some l) = TurnBy today l

outcome-turn : (today : ℕ) (rows : List Shared) (accounts : ℕ) (key : List ℕ) (p : Post) (o : Option Lists) → TurnThere today o → TurnIf today (outcome today rows accounts key p o)
unfolding outcome TurnThere TurnIf
outcome-turn today rows accounts key p None h = by (is_open p) refl
  where
    by : (t : Bool) → is_open p ≡ t → TurnIf today (cond t (opened key today p (reason_to_open today accounts (shared_rows rows) p)) (Refuses refusal.UnknownAccount))
    by true e = opened-turn key today p (reason_to_open today accounts (shared_rows rows) p) e
    by false e = tt
outcome-turn today rows accounts key p (Some l) h = at_key-turn (record { today = today; shared = shared_rows rows; lists = l }) key p (with_key key l.posts) h

-- ---- all accounts
abbrev IsInTurn : ℕ → NamedAccount → Type 0
IsInTurn today x = TurnBy today x.lists

lists-turn : (today : ℕ) (name : List ℕ) (accounts : List NamedAccount) → All (IsInTurn today) accounts → TurnThere today (lists_of name accounts)
unfolding lists_of TurnThere
lists-turn today name [] h = tt
lists-turn today name (x ∷ xs) h = by (bytes_eq x.name name) (All-head (IsInTurn today) x xs h) (lists-turn today name xs (All-tail (IsInTurn today) x xs h))
  where
    by : (t : Bool) → TurnBy today x.lists → TurnThere today (lists_of name xs) → TurnThere today (cond t (Some x.lists) (lists_of name xs))
    by true h i = h
    by false h i = i

set-turn : (today : ℕ) (name : List ℕ) (l : Lists) (accounts : List NamedAccount) → TurnBy today l → All (IsInTurn today) accounts → All (IsInTurn today) (with_lists name l accounts)
unfolding with_lists
set-turn today name l [] g h = All-cons (IsInTurn today) _ [] g (All-nil (IsInTurn today))
set-turn today name l (x ∷ xs) g h =
    by (bytes_eq x.name name) (All-head (IsInTurn today) x xs h) (All-tail (IsInTurn today) x xs h) (set-turn today name l xs g (All-tail (IsInTurn today) x xs h))
  where
    by : (t : Bool) → TurnBy today x.lists → All (IsInTurn today) xs → All (IsInTurn today) (with_lists name l xs) → All (IsInTurn today) (cond t (record { name = x.name; lists = l } ∷ xs) (x ∷ with_lists name l xs))
    by true h i j = All-cons (IsInTurn today) _ xs g i
    by false h i j = All-cons (IsInTurn today) x (with_lists name l xs) h j

after-turn : (today : ℕ) (name : List ℕ) (o : Outcome) (accounts : List NamedAccount) → TurnIf today o → All (IsInTurn today) accounts → All (IsInTurn today) (accounts_after name o accounts)
unfolding TurnIf
after-turn today name (Accepts new) accounts g h = set-turn today name new accounts g h
after-turn today name (Refuses r) accounts g h = h
after-turn today name (Repeats n) accounts g h = h

-- ---- today never goes back
later-day : (today : ℕ) (any : Bool) (day : ℕ) → shared_reason today any (shared.Roll day) ≡ None → today ≤ day
unfolding shared_reason
later-day today any day h =
    let back = (first-none (where_true (nat_le day today) (refusal.RollBack today)) (where_true (any && nat_lt (today + 366) day) refusal.RollTooFar ∷ []) h).0 in
    let low = leb-false day today (where-false (nat_le day today) (refusal.RollBack today) back) in
    omega (arith, low)

later-all : (today later : ℕ) (accounts : List NamedAccount) → today ≤ later → All (IsInTurn today) accounts → All (IsInTurn later) accounts
later-all today later accounts up h = All-weaker (IsInTurn today) (IsInTurn later) (λ x g. later-turn today later x.lists up g) accounts h

shared-turn : (s : State) (r : Shared) (o : Option Refusal) → shared_reason s.today (has_accounts s) r ≡ o → All (IsInTurn s.today) s.accounts → All (IsInTurn (with_shared s r o).0.today) (with_shared s r o).0.accounts
shared-turn s r (Some e) is g = g
shared-turn s (shared.Roll day) None is g = later-all s.today day s.accounts (later-day s.today (has_accounts s) day is) g
shared-turn s (shared.Holiday day) None is g = g
shared-turn s (shared.FeeRow day first repeat) None is g = g
shared-turn s (shared.Index day rate) None is g = g

step-turn : (s : State) (r : Request) → All (IsInTurn s.today) s.accounts → All (IsInTurn (step s r).0.today) (step s r).0.accounts
unfolding step
step-turn s (request.Shared r) g = shared-turn s r (shared_reason s.today (has_accounts s) r) refl g
step-turn s (request.Post name key p) g =
    after-turn s.today name (outcome_in s name key p) s.accounts (outcome-turn s.today s.shared (length s.accounts) key p (lists_of name s.accounts) (lists-turn s.today name s.accounts g)) g

run-turn : (s : State) (rs : List Request) → All (IsInTurn s.today) s.accounts → All (IsInTurn (run_from s rs).today) (run_from s rs).accounts
unfolding run_from
run-turn s [] g = g
run-turn s (r ∷ rs) g = run-turn (step s r).0 rs (step-turn s r g)

pub runs_keep_turns : RunsKeepTurns
runs_keep_turns requests =
    All-weaker (IsInTurn (run_from start requests).today) (λ (x : NamedAccount). AreInTurn x.lists) (λ x h. in-turn (run_from start requests).today x.lists h) (run_from start requests).accounts
    (run-turn start requests (All-nil (IsInTurn first_calendar_day)))
