-- Each account of a desk may be folded to the end of today, and its book is that of the state.
use Rattle.std.proofs.Common.{◌≡◌, ℕ, ◌<◌, ◌≤◌, Bool, true, false, Option, Some, List, [], ◌∷◌, append-nil, length, get_or, refl, ap, sym, ◌∙◌, subst, arith}
use Rattle.std.proofs.lemmas.Bool.{and_from, and_parts, leb-true}
use Rattle.std.proofs.lemmas.Bool.Decides.{nat_tests}
use Rattle.std.proofs.lemmas.List.{get_or-map, length-map}
use Rattle.std.proofs.lemmas.List.Elements.{All-cons, All-get_or, All-head, All-nil, All-tail, filter-append}
use Rattle.std.specs.List.{All, filter, list_all}
use Rattle.std.specs.Prelude.{nat_le, nat_lt, ◌&&◌, ◌++◌, ◌+◌, ◌-◌, if◌then◌else◌, None}
use Rattle.std.specs.Option.{option_map}
use Rattle.card_account.specs.Accounts.{IsAccount, OpenAccount, is_closed, issue_of, replay_of, restated_as, restated_statement}
use Rattle.card_replay.specs.Replays.{AreLaterRows, given_of, present_of}
use Rattle.card_replay.proofs.LaterReplay.{later_rows_leave_it}
use Rattle.card_account.specs.Entries.{AccountEntries, entries_today}
use Rattle.card_account.specs.Verdicts.{verdict_of}
use Rattle.card_account.specs.declared.verdict.Verdict.{Verdict}
use Rattle.card_account.specs.Runs.{AreRunning, IsTaken}
use Rattle.card_account.proofs.Runs.{runs_may_be_folded}
use Rattle.card_events.specs.Business.{with_holiday}
use Rattle.card_events.proofs.Agree.{with_holiday-agrees}
use Rattle.card_events.specs.Range.{first_calendar_day, last_request_day}
use Rattle.card_desk.proofs.DeskLemmas.{read_at}
use Rattle.card_reasons.proofs.SameReasons.{AreAlike, same_reason}
use Rattle.card_desk.specs.Desks.{AreAccounts, AreSameHolidays, IsDesk, IsRun, named_all, now_at, state_of}
use Rattle.card_events.specs.Dated.{is_dated, is_dated_post, is_dated_shared, is_request_day}
use Rattle.card_events.specs.History.{CorrectedPost, anchor_of, at_number, corrected, is_folded, is_open, is_variable, opening_in, terms_of}
use Rattle.card_events.specs.Keys.{with_key}
use Rattle.card_events.specs.Names.{is_name}
use Rattle.card_events.specs.declared.reply.Refusal.{Refusal}
use Rattle.card_events.specs.declared.reply.Refusal.TheVariants as refusal
use Rattle.card_events.specs.SharedRows.{FeeRow, IndexRow, SharedRows, shared_rows, with_index}
use Rattle.card_events.proofs.IndexRows.{index-later}
use Rattle.card_events.specs.declared.post.Post.{Post}
use Rattle.card_events.specs.declared.post.Post.TheVariants as post
use Rattle.card_events.specs.declared.request.Request.{Request}
use Rattle.card_events.specs.declared.request.Request.TheVariants as request
use Rattle.card_events.specs.declared.request.Shared.{Shared}
use Rattle.card_events.specs.declared.request.Shared.TheVariants as shared
use Rattle.card_model.specs.Accepted.{HasFewFees}
use Rattle.card_model.specs.Books.{Book, account_of}
use Rattle.card_model.specs.Caps.{row_for}
use Rattle.card_daily.specs.Given.{IsSound}
use Rattle.card_daily.specs.declared.track.Statement.{Statement}
use Rattle.card_model.specs.Cycles.{Cycle, Seen, Sheet}
use Rattle.card_model.specs.Folds.{book, book_after, cycle_at, row_of_cycle, rows_issued}
use Rattle.card_model.specs.Machine.{Accepts, NamedAccount, Refuses, Repeats, State, accepted, at_key, is_repeat_of, issues, judged, kept_as, outcome_in}
use Rattle.card_model.specs.Refusals.{Lists, Present, book_today, reason_against}
use Rattle.card_model.specs.Segments.{kept_segments}
use Rattle.card_model.specs.Sheets.{issued_sheet_of, sheet_in, sheet_of}
use Rattle.card_model.specs.Work.{present_in}
use Rattle.card_model.specs.declared.entry.Entry.{Entry}
use Rattle.card_model.specs.declared.segment.Segment.{Segment}
use Rattle.card_posts.specs.Stored.{AreTimely}
use Rattle.card_posts.proofs.Holidays.{same-corrected}
use Rattle.card_rows.specs.Held.{are_terms, is_day, is_number, is_place, is_post, is_request, is_shared}
use Rattle.card_rates.specs.Segments.{account_segments}

-- ---- requests that are taken
day_parts : (day : ℕ) → is_day day ≡ true → (first_calendar_day ≤ day) × (is_request_day day ≡ true)
day_parts day is = let parts = and_parts (nat_le first_calendar_day day) (is_request_day day) is in (leb-true first_calendar_day day parts.0, parts.1)

post_days : (p : Post) → is_post p ≡ true → (is_dated_post p ≡ true) × (is_open p ≡ true → first_calendar_day ≤ opening_in p)
unfolding is_post is_dated_post
post_days (post.Open d t) is = let day = day_parts d (and_parts (is_day d) (are_terms t) is).0 in (day.1, λ _. day.0)
post_days (post.OpenVariable d t) is = let day = day_parts d (and_parts (is_day d) (are_terms t) is).0 in (day.1, λ _. day.0)
post_days (post.Charge d p c) is = ((day_parts d (and_parts (is_day d) (is_place p && is_number c) is).0).1, λ e. absurd (cc))
post_days (post.Credit d p c) is = ((day_parts d (and_parts (is_day d) (is_place p && is_number c) is).0).1, λ e. absurd (cc))
post_days (post.Payment d m by c) is = ((day_parts d (and_parts (is_day d) (is_number m && is_number c) is).0).1, λ e. absurd (cc))
post_days (post.Bill c) is = (refl, λ e. absurd (cc))
post_days (post.Amend t d c) is =
    let rest = (and_parts (is_number t) (is_day d && is_number c) is).1 in
    ((day_parts d (and_parts (is_day d) (is_number c) rest).0).1, λ e. absurd (cc))
post_days (post.Return d t) is = ((day_parts d (and_parts (is_day d) (is_number t) is).0).1, λ e. absurd (cc))
post_days (post.Plan d v r w f) is =
    let first = and_parts (is_day d) (is_number r && (is_day w && is_number f)) is in
    let rest = (and_parts (is_number r) (is_day w && is_number f) first.1).1 in
    (and_from (is_request_day d) (is_request_day w) (day_parts d first.0).1 (day_parts w (and_parts (is_day w) (is_number f) rest).0).1, λ e. absurd (cc))
post_days (post.Notice d y r w) is =
    let first = and_parts (is_day d) (is_number r && is_day w) is in
    (and_from (is_request_day d) (is_request_day w) (day_parts d first.0).1 (day_parts w (and_parts (is_number r) (is_day w) first.1).1).1, λ e. absurd (cc))
post_days (post.Lower d y r) is = ((day_parts d (and_parts (is_day d) (is_number r) is).0).1, λ e. absurd (cc))
post_days post.Penalty is = (refl, λ e. absurd (cc))
post_days (post.Review d f) is = ((day_parts d is).1, λ e. absurd (cc))
post_days (post.Dispute d t c) is = ((day_parts d (and_parts (is_day d) (is_number t && is_number c) is).0).1, λ e. absurd (cc))
post_days (post.Ack d t) is = ((day_parts d (and_parts (is_day d) (is_number t) is).0).1, λ e. absurd (cc))
post_days (post.Resolve d t c) is = ((day_parts d (and_parts (is_day d) (is_number t && is_number c) is).0).1, λ e. absurd (cc))
post_days (post.AskRefund d) is = ((day_parts d is).1, λ e. absurd (cc))
post_days (post.Refund c) is = (refl, λ e. absurd (cc))

pub shared_day : (r : Shared) → is_shared r ≡ true → is_dated_shared r ≡ true
unfolding is_shared is_dated_shared
shared_day (shared.Roll day) is = (day_parts day is).1
shared_day (shared.Holiday day) is = (day_parts day is).1
shared_day (shared.Index day rate) is = (day_parts day (and_parts (is_day day) (is_number rate) is).0).1
shared_day (shared.FeeRow day first repeat) is = (day_parts day (and_parts (is_day day) (is_number first && is_number repeat) is).0).1

taken_is : (r : Request) → is_request r ≡ true → IsTaken r
unfolding is_request is_dated
taken_is (request.Shared r) taken = (shared_day r taken, tt)
taken_is (request.Post name key p) taken =
    post_days p (and_parts (is_name key) (is_post p) (and_parts (is_name name) (is_name key && is_post p) taken).1).1

all_taken : (rs : List Request) → list_all is_request rs ≡ true → All IsTaken rs
all_taken [] taken = All-nil IsTaken
all_taken (r ∷ rs) taken = let parts = and_parts (is_request r) (list_all is_request rs) taken in All-cons IsTaken r rs (taken_is r parts.0) (all_taken rs parts.1)

-- ---- accounts of a run
pub all_running : (s : State) → IsRun s → All (λ (x : NamedAccount). AreRunning s x.lists) s.accounts
all_running s ran =
    subst (λ (t : State). All (λ (x : NamedAccount). AreRunning t x.lists) t.accounts) (sym ran.state_is) (runs_may_be_folded ran.requests (all_taken ran.requests ran.taken))

-- the account at a place
pub running_at : (s : State) (accounts : List OpenAccount) (i : ℕ) (d : OpenAccount) → i < length accounts → All (λ (x : NamedAccount). AreRunning s x.lists) (named_all accounts) → AreRunning s (get_or accounts i d).named.lists
running_at s accounts i d low all =
    let long : length (named_all accounts) ≡ length accounts = length-map accounts (λ (x : OpenAccount). x.named) in
    subst (λ (x : NamedAccount). AreRunning s x.lists) (get_or-map (λ (x : OpenAccount). x.named) accounts i d d.named low)
    (All-get_or (λ (x : NamedAccount). AreRunning s x.lists) (named_all accounts) i d.named (omega (arith, low, long)) all)

-- ---- books under the same holidays
-- one corrected list gives one book
pub one_book : (lists : Lists) (today : ℕ) (these those : SharedRows) → corrected (anchor_of lists.posts) these.holidays lists.posts ≡ corrected (anchor_of lists.posts) those.holidays lists.posts
    → these.fees ≡ those.fees → these.index ≡ those.index → book_today (present_of today these lists) ≡ book_today (present_of today those lists)
unfolding book_today book
one_book lists today these those same fees index =
    ap (λ (posts : List CorrectedPost). on posts these.fees these.index) same
    ∙ (ap (λ (rows : List FeeRow). on (corrected (anchor_of lists.posts) those.holidays lists.posts) rows these.index) fees
    ∙ ap (λ (rows : List IndexRow). on (corrected (anchor_of lists.posts) those.holidays lists.posts) those.fees rows) index)
  where
    on : List CorrectedPost → List FeeRow → List IndexRow → Book
    on posts rows index = book_after lists.issued (account_of lists.posts)
        (λ day. record {
          day = day;
          posts = filter (λ p. nat_le p.day day) (filter (λ p. is_folded p.post) posts);
          fees = filter (λ r. nat_le r.day day) rows;
          index = filter (λ r. nat_le r.day day) index;
          issued = filter (λ r. nat_lt r.day day) lists.issued;
        }) (today + 1 - (anchor_of lists.posts).opened)

pub same_book : (places : List (List ℕ × ℕ)) (common : SharedRows) (count today : ℕ) (rows : List Shared) (accounts : List OpenAccount) (i : ℕ) (d : OpenAccount)
    → IsDesk places common count today rows accounts → i < length accounts
    → book_today (present_of today common (get_or accounts i d).named.lists) ≡ book_today (present_in (state_of today rows accounts) (get_or accounts i d).named.lists)
same_book places common count today rows accounts i d desk low =
    let lists = (get_or accounts i d).named.lists in
    let one = running_at (state_of today rows accounts) accounts i d low (all_running (state_of today rows accounts) desk.ran) in
    one_book lists today common (shared_rows rows) (same-corrected (anchor_of lists.posts) common.holidays (shared_rows rows).holidays lists.posts one.timely (λ x l. desk.holidays x)) desk.table desk.index_rows

-- so the account is judged alike
pub alike_at : (places : List (List ℕ × ℕ)) (common : SharedRows) (count today : ℕ) (rows : List Shared) (accounts : List OpenAccount) (i : ℕ) (d : OpenAccount)
    → IsDesk places common count today rows accounts → i < length accounts → AreAlike today (get_or accounts i d).named.lists common (shared_rows rows)
alike_at places common count today rows accounts i d desk low =
    let lists = (get_or accounts i d).named.lists in
    let one = running_at (state_of today rows accounts) accounts i d low (all_running (state_of today rows accounts) desk.ran) in
    record {
      posts = same-corrected (anchor_of lists.posts) common.holidays (shared_rows rows).holidays lists.posts one.timely (λ x l. desk.holidays x);
      books = same_book places common count today rows accounts i d desk low;
      fees = desk.table;
      index = desk.index_rows;
    }

-- so are any lists whose days are those of requests
pub alike_timely : (today : ℕ) (lists : Lists) (common rows : SharedRows) → AreTimely (anchor_of lists.posts).opened lists.posts → AreSameHolidays common.holidays rows.holidays → common.fees ≡ rows.fees
    → common.index ≡ rows.index → AreAlike today lists common rows
alike_timely today lists common rows timely holidays table index =
    let listed : corrected (anchor_of lists.posts) common.holidays lists.posts ≡ corrected (anchor_of lists.posts) rows.holidays lists.posts =
    same-corrected (anchor_of lists.posts) common.holidays rows.holidays lists.posts timely (λ x l. holidays x) in
    record { posts = listed; books = one_book lists today common rows listed table index; fees = table; index = index }

-- and those that a run leaves
pub alike_run : (s : State) (lists : Lists) (common : SharedRows) → AreRunning s lists → AreSameHolidays common.holidays (shared_rows s.shared).holidays → common.fees ≡ (shared_rows s.shared).fees
    → common.index ≡ (shared_rows s.shared).index → AreAlike s.today lists common (shared_rows s.shared)
alike_run s lists common one holidays table index = alike_timely s.today lists common (shared_rows s.shared) one.timely holidays table index

pub same_reason_at : (places : List (List ℕ × ℕ)) (common : SharedRows) (count today : ℕ) (rows : List Shared) (accounts : List OpenAccount) (i : ℕ) (d : OpenAccount) (p : Post)
    → IsDesk places common count today rows accounts → i < length accounts
    → reason_against (present_of today common (get_or accounts i d).named.lists) p ≡ reason_against (present_in (state_of today rows accounts) (get_or accounts i d).named.lists) p
same_reason_at places common count today rows accounts i d p desk low =
    same_reason today (get_or accounts i d).named.lists common (shared_rows rows) p (alike_at places common count today rows accounts i d desk low)

-- the account that is read at a place
pub account_at : (places : List (List ℕ × ℕ)) (common : SharedRows) (count today : ℕ) (rows : List Shared) (accounts : List OpenAccount) (i : ℕ) (b : OpenAccount)
    → IsDesk places common count today rows accounts → i < length accounts → b ≡ get_or accounts i b → IsAccount today common b
account_at places common count today rows accounts i b desk low is = subst (IsAccount today common) (sym is) (All-get_or (IsAccount today common) accounts i b low desk.accounts)

pub none_at : (places : List (List ℕ × ℕ)) (common : SharedRows) (count today : ℕ) (rows : List Shared) (accounts : List OpenAccount) (i : ℕ) (b : OpenAccount) (s : State) (p : Post)
    → IsDesk places common count today rows accounts → state_of today rows accounts ≡ s → i < length s.accounts → b ≡ get_or accounts i b → ((d : NamedAccount) → reason_against (now_at s i d) p ≡ None)
    → reason_against (present_of today common b.named.lists) p ≡ None
none_at places common count today rows accounts i b s p desk state low is none =
    let here : i < length accounts = omega (arith, low, ap (λ (x : State). length x.accounts) state, length-map accounts (λ (x : OpenAccount). x.named)) in
    let read = read_at accounts s.accounts i b b.named is (ap (λ (x : State). x.accounts) state) low in
    subst (λ (x : OpenAccount). reason_against (present_of today common x.named.lists) p ≡ reason_against (present_in (state_of today rows accounts) x.named.lists) p) (sym is)
    (same_reason_at places common count today rows accounts i b p desk here)
    ∙ ap (λ (x : State). reason_against (present_in x b.named.lists) p) state ∙ ap (λ (x : NamedAccount). reason_against (present_in s x.lists) p) read ∙ none b.named

-- and its verdict is one
verdict_by : (a b : Present) (key : List ℕ) (p : Post) (k : Option ℕ) → a.lists ≡ b.lists → reason_against a p ≡ reason_against b p → verdict_of (at_key a key p k) ≡ verdict_of (at_key b key p k)
verdict_by a b key p (Some n) lists same = ap (λ (l : Lists). verdict_of (if is_repeat_of p (at_number n l.posts) then Repeats n else Refuses (refusal.KeyReused n))) lists
verdict_by a b key p None lists same = new_by (is_open p) (reason_against a p) (reason_against b p) same
  where
    reason_by : (r : Option Refusal) → verdict_of (judged a key p r) ≡ verdict_of (judged b key p r)
    reason_by (Some r) = refl
    reason_by None = refl

    new_by : (o : Bool) (r q : Option Refusal) → r ≡ q → verdict_of (if o then Refuses refusal.AccountExists else judged a key p r) ≡ verdict_of (if o then Refuses refusal.AccountExists else judged b key p q)
    new_by true r q e = refl
    new_by false r q e = reason_by r ∙ ap (λ x. verdict_of (judged b key p x)) e

pub same_verdict : (places : List (List ℕ × ℕ)) (common : SharedRows) (count today : ℕ) (rows : List Shared) (accounts : List OpenAccount) (i : ℕ) (a : OpenAccount) (key : List ℕ) (p : Post) (v : Verdict)
    → IsDesk places common count today rows accounts → i < length accounts → a ≡ get_or accounts i a
    → v ≡ verdict_of (at_key (present_of today common a.named.lists) key p (with_key key a.named.lists.posts))
    → v ≡ verdict_of (at_key (present_in (state_of today rows accounts) a.named.lists) key p (with_key key a.named.lists.posts))
same_verdict places common count today rows accounts i a key p v desk low is found =
    let s = state_of today rows accounts in
    let same = same_reason_at places common count today rows accounts i a p desk low in
    found
    ∙ verdict_by (present_of today common a.named.lists) (present_in s a.named.lists) key p (with_key key a.named.lists.posts) refl
    (subst (λ (x : OpenAccount). reason_against (present_of today common x.named.lists) p ≡ reason_against (present_in s x.named.lists) p) (sym is) same)

-- and so do its sheets
pub same_sheet : (today : ℕ) (lists : Lists) (a b : SharedRows) (issue : ℕ) (c : Cycle) → AreAlike today lists a b → sheet_of lists.posts lists.issued a issue c ≡ sheet_of lists.posts lists.issued b issue c
unfolding sheet_of book
same_sheet today lists a b issue c alike =
    ap (λ (posts : List CorrectedPost). on posts a.fees a.index) alike.posts
    ∙ (ap (λ (rows : List FeeRow). on (corrected (anchor_of lists.posts) b.holidays lists.posts) rows a.index) alike.fees
    ∙ ap (λ (rows : List IndexRow). on (corrected (anchor_of lists.posts) b.holidays lists.posts) b.fees rows) alike.index)
  where
    on : List CorrectedPost → List FeeRow → List IndexRow → Sheet
    on posts rows index =
        let seen : ℕ → Seen = λ day. record {
          day = day;
          posts = filter (λ p. nat_le p.day day) (filter (λ p. is_folded p.post) posts);
          fees = filter (λ r. nat_le r.day day) rows;
          index = filter (λ r. nat_le r.day day) index;
          issued = filter (λ r. nat_lt r.day day) lists.issued;
        } in
        sheet_in (account_of lists.posts) (seen c.closing) rows lists.issued issue c
        (book_after lists.issued (account_of lists.posts) seen (c.closing + 1 - (anchor_of lists.posts).opened))

-- rows with the same sheets
same_rows : (cycle bill today : ℕ) (sheet other : Cycle → Sheet) (o : Option Cycle) → ((c : Cycle) → sheet c ≡ other c) → row_of_cycle cycle bill today sheet o ≡ row_of_cycle cycle bill today other o
same_rows cycle bill today sheet other None h = refl
same_rows cycle bill today sheet other (Some c) h = ap (λ (s : Sheet). record { cycle = cycle; bill = bill; day = today; statement = c; sheet = s } ∷ []) (h c)

-- and so does what a post brings
same_issues : (today : ℕ) (lists : Lists) (a b : SharedRows) (p : Post) → AreAlike today lists a b → issues (present_of today a lists) p ≡ issues (present_of today b lists) p
same_issues today lists a b (post.Bill c) alike =
    let sheet = issued_sheet_of (present_of today a lists) in
    let other = issued_sheet_of (present_of today b lists) in
    ap (λ x. rows_issued c (length lists.posts + 1) today sheet x) alike.books
    ∙ same_rows c (length lists.posts + 1) today sheet other (cycle_at c (book_today (present_of today b lists)).cycles) (λ d. same_sheet today lists a b today d alike)
same_issues today lists a b _ alike = refl

pub same_accepted : (today : ℕ) (lists : Lists) (a b : SharedRows) (key : List ℕ) (p : Post) → AreAlike today lists a b
    → accepted (present_of today a lists) key p ≡ accepted (present_of today b lists) key p
unfolding accepted
same_accepted today lists a b key p alike =
    ap (λ more. record { posts = lists.posts ++ kept_as (length lists.posts + 1) key today p ∷ []; issued = lists.issued ++ more }) (same_issues today lists a b p alike)

-- what the account has after a post is what the machine gives it
pub accepted_in : (places : List (List ℕ × ℕ)) (common : SharedRows) (count today : ℕ) (rows : List Shared) (accounts : List OpenAccount) (i : ℕ) (a b : OpenAccount) (name key : List ℕ) (p : Post)
    → IsDesk places common count today rows accounts → i < length accounts → b ≡ get_or accounts i b
    → a.named.lists ≡ accepted (present_of today common b.named.lists) key p
    → ((e : NamedAccount) → outcome_in (state_of today rows accounts) name key p ≡ Accepts (accepted (present_in (state_of today rows accounts) (get_or (named_all accounts) i e).lists) key p))
    → outcome_in (state_of today rows accounts) name key p ≡ Accepts a.named.lists
accepted_in places common count today rows accounts i a b name key p desk low is lists allowed =
    let s = state_of today rows accounts in
    let here = (get_or accounts i b).named.lists in
    let read : (get_or (named_all accounts) i b.named).lists ≡ here = ap (λ (x : NamedAccount). x.lists) (get_or-map (λ (x : OpenAccount). x.named) accounts i b b.named low) in
    let same = same_accepted today here common (shared_rows rows) key p (alike_at places common count today rows accounts i b desk low) in
    allowed b.named ∙ ap (λ (l : Lists). Accepts (accepted (present_in s l) key p)) read ∙ ap (λ (l : Lists). Accepts l) (sym same)
    ∙ ap (λ (x : OpenAccount). Accepts (accepted (present_of today common x.named.lists) key p)) (sym is) ∙ ap (λ (l : Lists). Accepts l) (sym lists)

-- ---- what is shown
-- the account that is read at a place, and its book
pub book_at : (places : List (List ℕ × ℕ)) (common : SharedRows) (count today : ℕ) (rows : List Shared) (accounts : List OpenAccount) (i : ℕ) (a : OpenAccount)
    → IsDesk places common count today rows accounts → i < length accounts → a ≡ get_or accounts i a
    → book_today (present_of today common a.named.lists) ≡ book_today (present_in (state_of today rows accounts) a.named.lists)
book_at places common count today rows accounts i a desk low is =
    subst (λ (x : OpenAccount). book_today (present_of today common x.named.lists) ≡ book_today (present_in (state_of today rows accounts) x.named.lists)) (sym is)
    (same_book places common count today rows accounts i a desk low)

-- and it is alike under the desk's rows and the state's
pub alike_seen : (places : List (List ℕ × ℕ)) (common : SharedRows) (count today : ℕ) (rows : List Shared) (accounts : List OpenAccount) (i : ℕ) (a : OpenAccount)
    → IsDesk places common count today rows accounts → i < length accounts → a ≡ get_or accounts i a → AreAlike today a.named.lists common (shared_rows rows)
alike_seen places common count today rows accounts i a desk low is =
    subst (λ (x : OpenAccount). AreAlike today x.named.lists common (shared_rows rows)) (sym is) (alike_at places common count today rows accounts i a desk low)

-- and a cycle of it as a statement
pub same_restated : (today : ℕ) (lists : Lists) (a b : SharedRows) (cycle : ℕ) → AreAlike today lists a b
    → restated_statement (present_of today a lists) cycle ≡ restated_statement (present_of today b lists) cycle
unfolding restated_statement
same_restated today lists a b cycle alike =
    ap (λ (x : Book). if is_closed today lists cycle then option_map (restated_as (present_of today a lists) (row_for cycle lists.issued)) (cycle_at cycle x.cycles) else None) alike.books
    ∙ ap (λ (o : Option Statement). if is_closed today lists cycle then o else None) (by (cycle_at cycle (book_today (present_of today b lists)).cycles))
  where
    by : (o : Option Cycle) → option_map (restated_as (present_of today a lists) (row_for cycle lists.issued)) o ≡ option_map (restated_as (present_of today b lists) (row_for cycle lists.issued)) o
    by None = refl
    by (Some c) =
        let issue = issue_of (row_for cycle lists.issued) c in
        ap (λ (s : Sheet). Some (record { cycle = c; issue = issue; sheet = s })) (same_sheet today lists a b issue c alike)

-- and its entries with its segments
abbrev listing : List Entry → List Segment → AccountEntries
listing entries segments = record { entries = entries; segments = segments }

same_entries : (today : ℕ) (lists : Lists) (a b : SharedRows) → AreAlike today lists a b → entries_today (present_of today a lists) ≡ entries_today (present_of today b lists)
same_entries today lists a b alike =
    let posts = lists.posts in
    ap (λ (x : Book). listing x.entries (account_segments a.holidays posts)) alike.books
    ∙ ap (λ (ps : List CorrectedPost). listing (book_today (present_of today b lists)).entries (kept_segments (anchor_of posts) (terms_of posts) ps)) alike.posts

pub entries_at : (places : List (List ℕ × ℕ)) (common : SharedRows) (count today : ℕ) (rows : List Shared) (accounts : List OpenAccount) (i : ℕ) (a : OpenAccount)
    → IsDesk places common count today rows accounts → i < length accounts → a ≡ get_or accounts i a
    → entries_today (present_of today common a.named.lists) ≡ entries_today (present_in (state_of today rows accounts) a.named.lists)
entries_at places common count today rows accounts i a desk low is =
    subst (λ (x : OpenAccount). entries_today (present_of today common x.named.lists) ≡ entries_today (present_in (state_of today rows accounts) x.named.lists)) (sym is)
    (same_entries today (get_or accounts i a).named.lists common (shared_rows rows) (alike_at places common count today rows accounts i a desk low))

-- ---- later rows
-- an account that any run leaves is sound under other shared rows too, where their fees are within their range
pub sound_under : (s : State) (l : Lists) (shared : SharedRows) → AreRunning s l → All HasFewFees shared.fees → IsSound (given_of l shared)
sound_under s l shared one few = record {
  accepted = one.sound.accepted;
  fees = few;
  segments = one.sound.segments;
  dated = one.sound.dated;
  opening = one.sound.opening;
  plans = one.sound.plans;
  returns = one.sound.returns;
  in_turn = one.sound.in_turn;
}

-- holidays, fee rows and index rows of later days leave the accounts
pub accounts_later : (s : State) (old new : SharedRows) (accounts : List OpenAccount) → All (λ (x : NamedAccount). AreRunning s x.lists) (named_all accounts) → All HasFewFees new.fees
    → ((variable : Bool) (reached : ℕ) → reached ≤ s.today → AreLaterRows variable reached old new) → AreAccounts s.today old accounts → AreAccounts s.today new accounts
accounts_later s old new [] all few later stand = All-nil (IsAccount s.today new)
accounts_later s old new (a ∷ rest) all few later stand =
    let one = All-head (λ (x : NamedAccount). AreRunning s x.lists) a.named (named_all rest) all in
    let h = All-head (IsAccount s.today old) a rest stand in
    All-cons (IsAccount s.today new) a rest
    (record { replay = later_rows_leave_it old new (replay_of a) s.today h.replay h.reach.later h.reach.accepted (later (is_variable a.named.lists.posts) s.today (omega arith)) (sound_under s a.named.lists new one few); reach = h.reach })
    (accounts_later s old new rest (All-tail (λ (x : NamedAccount). AreRunning s x.lists) a.named (named_all rest) all) few later (All-tail (IsAccount s.today old) a rest stand))

pub later_holidays : (today day : ℕ) (old : SharedRows) → today < day → (variable : Bool) (reached : ℕ) → reached ≤ today → AreLaterRows variable reached old (record old { holidays = with_holiday day old.holidays })
later_holidays today day old later variable reached l = record { holidays = λ x low. sym (with_holiday-agrees reached day old.holidays (omega (arith, later, l)) x low); fees = refl; index = λ follows. refl }

-- no row of a later day is among those up to a day
none-later : (row : FeeRow) (reached : ℕ) → reached < row.day → filter (λ r. nat_le r.day reached) (row ∷ []) ≡ []
none-later row reached l = let later : nat_le row.day reached ≡ false = grind (arith, nat_tests) in rw later refl

pub later_fees : (today : ℕ) (row : FeeRow) (old : SharedRows) → today < row.day → (variable : Bool) (reached : ℕ) → reached ≤ today → AreLaterRows variable reached old (record old { fees = old.fees ++ row ∷ [] })
later_fees today row old later variable reached l = record {
  holidays = λ x low. refl;
  fees = filter-append (λ r. nat_le r.day reached) old.fees (row ∷ []) ∙ (ap (λ rs. filter (λ r. nat_le r.day reached) old.fees ++ rs) (none-later row reached (omega (arith, later, l))) ∙ append-nil (filter (λ r. nat_le r.day reached) old.fees));
  index = λ follows. refl;
}

pub later_index : (today : ℕ) (row : IndexRow) (old : SharedRows) → today < row.day → (variable : Bool) (reached : ℕ) → reached ≤ today → AreLaterRows variable reached old (record old { index = with_index row old.index })
later_index today row old later variable reached l = record { holidays = λ x low. refl; fees = refl; index = λ follows. index-later reached row old.index (omega (arith, later, l)) }

-- a later day is still not before the one last reached
pub accounts_rolled : (today day : ℕ) (common : SharedRows) (accounts : List OpenAccount) → today ≤ day → day ≤ last_request_day → AreAccounts today common accounts → AreAccounts day common accounts
accounts_rolled today day common [] later last stand = All-nil (IsAccount day common)
accounts_rolled today day common (a ∷ rest) later last stand =
    let h = All-head (IsAccount today common) a rest stand in
    let opened = h.reach.opened in
    let low = h.reach.later in
    let accepted = h.reach.accepted in
    All-cons (IsAccount day common) a rest
    (record { replay = h.replay; reach = record { opened = omega (arith, opened, later); later = omega (arith, low, later); accepted = omega (arith, accepted, later); last = last } })
    (accounts_rolled today day common rest later last (All-tail (IsAccount today common) a rest stand))
