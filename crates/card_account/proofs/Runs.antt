-- After every run, each account may be folded to the end of today.
use Rattle.std.proofs.Common.{◌≡◌, ℕ, ◌≤◌, ◌<◌, ◌+◌, Bool, true, false, cond, List, [], ◌∷◌, length, Option, Some, None, refl, arith}
use Rattle.std.proofs.lemmas.Bool.{leb-false, leb-true}
use Rattle.std.proofs.lemmas.List.Elements.{All-cons, All-head, All-nil, All-tail}
use Rattle.std.specs.List.{All}
use Rattle.std.specs.Prelude.{nat_le, nat_lt, ◌&&◌}
use Rattle.std.specs.Str.{bytes_eq}
use Rattle.card_account.specs.Runs.{AreRunning, IsTaken, RunsMayBeFolded}
use Rattle.card_account.proofs.Held.{AreHeld, HeldIf, HeldThere, IsHeld, later-held, outcome-held}
use Rattle.card_events.specs.Range.{last_request_day, first_calendar_day}
use Rattle.card_reasons.proofs.ReasonLemmas.{none_head, where_none}
use Rattle.card_daily.proofs.Runs.{runs_keep_plans}
use Rattle.card_daily.proofs.Turns.{runs_keep_turns}
use Rattle.card_daily.specs.Given.{AreInTurn, ArePlanned}
use Rattle.card_events.specs.Dated.{is_dated}
use Rattle.card_events.specs.History.{anchor_of, is_open, opening_in, terms_in, terms_of}
use Rattle.card_events.specs.declared.kept.Kept.{Kept}
use Rattle.card_events.specs.declared.post.Post.{Post}
use Rattle.card_events.specs.declared.post.Post.TheVariants as post
use Rattle.card_events.specs.declared.reply.Refusal.{Refusal}
use Rattle.card_events.specs.declared.reply.Refusal.TheVariants as refusal
use Rattle.card_events.specs.declared.request.Request.{Request}
use Rattle.card_events.specs.declared.request.Request.TheVariants as request
use Rattle.card_events.specs.declared.request.Shared.{Shared}
use Rattle.card_events.specs.declared.request.Shared.TheVariants as shared
use Rattle.card_model.specs.Accepted.{AreAccepted, HasFewSegments, IsAccepted}
use Rattle.card_model.specs.CycleDays.{IsOpening}
use Rattle.card_model.specs.Machine.{Accepts, NamedAccount, Outcome, Refuses, Repeats, State, accounts_after, has_accounts, lists_of, outcome_in, run, run_from, shared_reason, start, step, with_lists, with_shared}
use Rattle.card_model.specs.Refusals.{Lists, where_true}
use Rattle.card_model.proofs.Accepting.{runs_are_accepted}
use Rattle.card_posts.specs.Posted.{last_accepted}
use Rattle.card_posts.specs.Stored.{AreTimely}
use Rattle.card_rates.proofs.Runs.{runs_have_few_segments}
use Rattle.card_rates.proofs.Dates.{runs_keep_dates}
use Rattle.card_rates.specs.Segments.{ArePostsDated}

-- ---- all accounts
abbrev AllHeld : ℕ → List NamedAccount → Type 0
AllHeld today accounts = All (λ (x : NamedAccount). AreHeld today x.lists) accounts

lists-held : (today : ℕ) (name : List ℕ) (accounts : List NamedAccount) → AllHeld today accounts → HeldThere today (lists_of name accounts)
unfolding lists_of
lists-held today name [] all = tt
lists-held today name (x ∷ xs) all = by (bytes_eq x.name name) (All-head (λ (x : NamedAccount). AreHeld today x.lists) x xs all) (lists-held today name xs (All-tail (λ (x : NamedAccount). AreHeld today x.lists) x xs all))
  where
    by : (t : Bool) → AreHeld today x.lists → HeldThere today (lists_of name xs) → HeldThere today (cond t (Some x.lists) (lists_of name xs))
    by true one rest = one
    by false one rest = rest

set-held : (today : ℕ) (name : List ℕ) (l : Lists) (accounts : List NamedAccount) → AreHeld today l → AllHeld today accounts → AllHeld today (with_lists name l accounts)
unfolding with_lists
set-held today name l [] one all = All-cons (λ (x : NamedAccount). AreHeld today x.lists) (record { name = name; lists = l }) [] one (All-nil (λ (x : NamedAccount). AreHeld today x.lists))
set-held today name l (x ∷ xs) one all =
    by (bytes_eq x.name name) (All-head (λ (x : NamedAccount). AreHeld today x.lists) x xs all) (All-tail (λ (x : NamedAccount). AreHeld today x.lists) x xs all)
    (set-held today name l xs one (All-tail (λ (x : NamedAccount). AreHeld today x.lists) x xs all))
  where
    by : (t : Bool) → AreHeld today x.lists → AllHeld today xs → AllHeld today (with_lists name l xs) → AllHeld today (cond t (record { name = x.name; lists = l } ∷ xs) (x ∷ with_lists name l xs))
    by true here rest more = All-cons (λ (x : NamedAccount). AreHeld today x.lists) (record { name = x.name; lists = l }) xs one rest
    by false here rest more = All-cons (λ (x : NamedAccount). AreHeld today x.lists) x (with_lists name l xs) here more

after-held : (today : ℕ) (name : List ℕ) (o : Outcome) (accounts : List NamedAccount) → HeldIf today o → AllHeld today accounts → AllHeld today (accounts_after name o accounts)
after-held today name (Accepts new) accounts one all = set-held today name new accounts one all
after-held today name (Refuses r) accounts one all = all
after-held today name (Repeats n) accounts one all = all

later-accounts : (today later : ℕ) (accounts : List NamedAccount) → today ≤ later → AllHeld today accounts → AllHeld later accounts
later-accounts today later [] up all = All-nil (λ (x : NamedAccount). AreHeld later x.lists)
later-accounts today later (x ∷ xs) up all =
    All-cons (λ (x : NamedAccount). AreHeld later x.lists) x xs (later-held today later x.lists up (All-head (λ (x : NamedAccount). AreHeld today x.lists) x xs all))
    (later-accounts today later xs up (All-tail (λ (x : NamedAccount). AreHeld today x.lists) x xs all))

-- ---- steps
later-day : (today : ℕ) (any : Bool) (day : ℕ) → shared_reason today any (shared.Roll day) ≡ None → today ≤ day
unfolding shared_reason
later-day today any day none = le-of (leb-false day today (where_none (nat_le day today) (refusal.RollBack today) (none_head (where_true (nat_le day today) (refusal.RollBack today)) (where_true (any && nat_lt (today + 366) day) refusal.RollTooFar ∷ []) none)))
  where
    le-of : today < day → today ≤ day
    le-of low = omega (arith, low)

shared-held : (s : State) (r : Shared) (o : Option Refusal) → shared_reason s.today (has_accounts s) r ≡ o → AllHeld s.today s.accounts → AllHeld (with_shared s r o).0.today (with_shared s r o).0.accounts
shared-held s r (Some e) is all = all
shared-held s (shared.Roll day) None is all = later-accounts s.today day s.accounts (later-day s.today (has_accounts s) day is) all
shared-held s (shared.Holiday day) None is all = all
shared-held s (shared.FeeRow day first repeat) None is all = all
shared-held s (shared.Index day rate) None is all = all

step-held : (s : State) (r : Request) → IsTaken r → AllHeld s.today s.accounts → AllHeld (step s r).0.today (step s r).0.accounts
unfolding step
step-held s (request.Shared r) taken all = shared-held s r (shared_reason s.today (has_accounts s) r) refl all
step-held s (request.Post name key p) taken all =
    after-held s.today name (outcome_in s name key p) s.accounts
    (outcome-held s.today s.shared (length s.accounts) key p (lists_of name s.accounts) taken.1 (lists-held s.today name s.accounts all)) all

run-held : (s : State) (rs : List Request) → All IsTaken rs → AllHeld s.today s.accounts → AllHeld (run_from s rs).today (run_from s rs).accounts
unfolding run_from
run-held s [] taken all = all
run-held s (r ∷ rs) taken all = run-held (step s r).0 rs (All-tail IsTaken r rs taken) (step-held s r (All-head IsTaken r rs taken) all)

all-dated : (rs : List Request) → All IsTaken rs → All (λ (r : Request). is_dated r ≡ true) rs
all-dated [] taken = All-nil (λ (r : Request). is_dated r ≡ true)
all-dated (r ∷ rs) taken = All-cons (λ (r : Request). is_dated r ≡ true) r rs (All-head IsTaken r rs taken).0 (all-dated rs (All-tail IsTaken r rs taken))

-- ---- what it comes to
timely : (today opened : ℕ) (ks : List Kept) → today ≤ last_request_day → All (IsHeld today opened) ks → AreTimely opened ks
unfolding AreTimely
timely today opened [] last all = tt
timely today opened (k ∷ ks) last all =
    let one = All-head (IsHeld today opened) k ks all in
    (record { dated = omega (arith, one.accepted, last); received = one.received }, timely today opened ks last (All-tail (IsHeld today opened) k ks all))

last-held : (today opened : ℕ) (ks : List Kept) → All (IsHeld today opened) ks → last_accepted ks ≤ today
unfolding last_accepted
last-held today opened [] all = omega arith
last-held today opened (k ∷ ks) all = let one = All-head (IsHeld today opened) k ks all in omega (arith, one.accepted, last-held today opened ks (All-tail (IsHeld today opened) k ks all))

-- a post with a closing day opens an account
opens-is : (p : Post) → 1 ≤ (terms_in p).close → is_open p ≡ true
opens-is (post.Open d t) low = refl
opens-is (post.OpenVariable d t) low = refl
opens-is (post.Charge d p c) low = absurd (omega (arith, low))
opens-is (post.Credit d p c) low = absurd (omega (arith, low))
opens-is (post.Payment d m by c) low = absurd (omega (arith, low))
opens-is (post.Bill c) low = absurd (omega (arith, low))
opens-is (post.Amend t d c) low = absurd (omega (arith, low))
opens-is (post.Return d t) low = absurd (omega (arith, low))
opens-is (post.Plan d v r w f) low = absurd (omega (arith, low))
opens-is (post.Notice d y r w) low = absurd (omega (arith, low))
opens-is (post.Lower d y r) low = absurd (omega (arith, low))
opens-is post.Penalty low = absurd (omega (arith, low))
opens-is (post.Review d f) low = absurd (omega (arith, low))
opens-is (post.Dispute d t c) low = absurd (omega (arith, low))
opens-is (post.Ack d t) low = absurd (omega (arith, low))
opens-is (post.Resolve d t c) low = absurd (omega (arith, low))
opens-is (post.AskRefund d) low = absurd (omega (arith, low))
opens-is (post.Refund c) low = absurd (omega (arith, low))

opening-is : (today : ℕ) (ks : List Kept) → today ≤ last_request_day → 1 ≤ (terms_of ks).close → (terms_of ks).close ≤ 28 → All (IsHeld today (anchor_of ks).opened) ks → IsOpening (anchor_of ks) × ((anchor_of ks).opened ≤ today)
opening-is today [] last low high all = absurd (omega (arith, low))
opening-is today (k ∷ ks) last low high all =
    let one = All-head (IsHeld today (opening_in k.post)) k ks all in
    (record { first = one.first (opens-is k.post low); last = omega (arith, one.opening, last); close_day = (low, high) }, one.opening)

-- the lists of one account
running : (s : State) (l : Lists) → s.today ≤ last_request_day → IsAccepted s → AreAccepted l → HasFewSegments l.posts → ArePostsDated l.posts → ArePlanned l.posts → AreInTurn l → AreHeld s.today l → AreRunning s l
running s l last fees accepted segments dated planned turns held =
    let opening = opening-is s.today l.posts last accepted.terms.first_close_day accepted.terms.last_close_day held.posts in
    record {
      sound = record { accepted = accepted; fees = fees.fees; segments = segments; dated = dated; opening = opening.0; plans = planned; returns = held.returns; in_turn = turns };
      timely = timely s.today (anchor_of l.posts).opened l.posts last held.posts;
      last = last-held s.today (anchor_of l.posts).opened l.posts held.posts;
      opened = opening.1;
    }

all-running : (s : State) (accounts : List NamedAccount) → s.today ≤ last_request_day → IsAccepted s → All (λ (x : NamedAccount). AreAccepted x.lists) accounts → All (λ (x : NamedAccount). HasFewSegments x.lists.posts) accounts
    → All (λ (x : NamedAccount). ArePostsDated x.lists.posts) accounts → All (λ (x : NamedAccount). ArePlanned x.lists.posts) accounts → All (λ (x : NamedAccount). AreInTurn x.lists) accounts → AllHeld s.today accounts → All (λ (x : NamedAccount). AreRunning s x.lists) accounts
all-running s [] last fees accepted segments dated planned turns held = All-nil (λ (x : NamedAccount). AreRunning s x.lists)
all-running s (x ∷ xs) last fees accepted segments dated planned turns held =
    All-cons (λ (x : NamedAccount). AreRunning s x.lists) x xs
    (running s x.lists last fees (All-head (λ (x : NamedAccount). AreAccepted x.lists) x xs accepted) (All-head (λ (x : NamedAccount). HasFewSegments x.lists.posts) x xs segments)
    (All-head (λ (x : NamedAccount). ArePostsDated x.lists.posts) x xs dated) (All-head (λ (x : NamedAccount). ArePlanned x.lists.posts) x xs planned) (All-head (λ (x : NamedAccount). AreInTurn x.lists) x xs turns) (All-head (λ (x : NamedAccount). AreHeld s.today x.lists) x xs held))
    (all-running s xs last fees (All-tail (λ (x : NamedAccount). AreAccepted x.lists) x xs accepted) (All-tail (λ (x : NamedAccount). HasFewSegments x.lists.posts) x xs segments)
    (All-tail (λ (x : NamedAccount). ArePostsDated x.lists.posts) x xs dated) (All-tail (λ (x : NamedAccount). ArePlanned x.lists.posts) x xs planned) (All-tail (λ (x : NamedAccount). AreInTurn x.lists) x xs turns) (All-tail (λ (x : NamedAccount). AreHeld s.today x.lists) x xs held))

-- ---- today
rolled-by : (s : State) (r : Shared) (o : Option Refusal) → is_dated (request.Shared r) ≡ true → s.today ≤ last_request_day → (with_shared s r o).0.today ≤ last_request_day
unfolding is_dated Rattle.card_events.specs.Dated.is_dated_shared
rolled-by s r (Some e) dated last = last
rolled-by s (shared.Roll day) None dated last = leb-true day last_request_day dated
rolled-by s (shared.Holiday day) None dated last = last
rolled-by s (shared.FeeRow day first repeat) None dated last = last
rolled-by s (shared.Index day rate) None dated last = last

step-today : (s : State) (r : Request) → IsTaken r → s.today ≤ last_request_day → (step s r).0.today ≤ last_request_day
unfolding step
step-today s (request.Shared r) taken last = rolled-by s r (shared_reason s.today (has_accounts s) r) taken.0 last
step-today s (request.Post name key p) taken last = last

run-today : (s : State) (rs : List Request) → All IsTaken rs → s.today ≤ last_request_day → (run_from s rs).today ≤ last_request_day
unfolding run_from
run-today s [] taken last = last
run-today s (r ∷ rs) taken last = run-today (step s r).0 rs (All-tail IsTaken r rs taken) (step-today s r (All-head IsTaken r rs taken) last)

pub runs_may_be_folded : RunsMayBeFolded
runs_may_be_folded requests taken =
    let s = run requests in
    all-running s s.accounts (run-today start requests taken (omega arith)) (runs_are_accepted requests) (runs_are_accepted requests).accounts (runs_have_few_segments requests)
    (runs_keep_dates requests (all-dated requests taken)) (runs_keep_plans requests) (runs_keep_turns requests) (run-held start requests taken (All-nil (λ (x : NamedAccount). AreHeld first_calendar_day x.lists)))
