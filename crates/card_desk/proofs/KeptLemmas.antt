-- A desk after a request that is newly accepted.
use Rattle.std.proofs.Common.{◌≡◌, ℕ, ◌+◌, ◌<◌, ◌≤◌, true, List, [], ◌∷◌, ◌++◌, length, get_or, set, Option, None, refl, ap, sym, ◌∙◌, subst, arith, length-append, append-nil, nat_eq, ◌||◌, Bool, false}
use Rattle.std.proofs.lemmas.Bool.{and_from, leb-false, leb-true, ltb-false, or_parts}
use Rattle.std.proofs.lemmas.List.{get_or-map, length-set, map-append, map-set}
use Rattle.std.proofs.Math.Seq.{map-set_same}
use Rattle.std.proofs.lemmas.List.Elements.{All-nil, All-push, All-set, filter_map-append}
use Rattle.std.proofs.lemmas.List.Folds.{list_all-append}
use Rattle.std.specs.List.{filter_map, list_all}
use Rattle.std.specs.Prelude.{nat_le, nat_lt, ◌&&◌}
use Rattle.card_events.specs.Range.{last_request_day, first_calendar_day}
use Rattle.card_events.specs.Limits.{post_limit}
use Rattle.card_reasons.proofs.ReasonLemmas.{none_head, none_tail, where_none}
use Rattle.card_events.specs.declared.reply.Refusal.TheVariants as refusal
use Rattle.card_account.specs.Accounts.{IsAccount, OpenAccount}
use Rattle.card_events.specs.Business.{is_holiday, with_holiday}
use Rattle.card_events.proofs.Holidays.{with_holiday-is}
use Rattle.card_desk.specs.Desks.{AreAccounts, AreSameHolidays, IsDesk, IsRun, named_all, state_of}
use Rattle.card_desk.specs.Kept.{accepted_count, posts_in}
use Rattle.card_desk.specs.IndexPlaces.{place_of}
use Rattle.card_desk.specs.Applied.{are_short}
use Rattle.card_desk.specs.Places.{IsIndex, IsPlace, place_from}
use Rattle.card_desk.proofs.CountLemmas.{short_pushed, short_set}
use Rattle.card_desk.proofs.DeskLemmas.{changed_state, count_added, count_opened, count_shared, opened_state}
use Rattle.card_desk.proofs.IndexLemmas.{index_set}
use Rattle.card_desk.proofs.OutcomeLemmas.{open_accepted, opening_reason}
use Rattle.card_desk.proofs.PlaceLemmas.{no_place}
use Rattle.card_desk.proofs.StepLemmas.{post_step}
use Rattle.card_desk.proofs.FoldLemmas.{shared_day}
use Rattle.card_desk.proofs.RunLemmas.{run_more}
use Rattle.card_events.specs.Dated.{is_dated_shared}
use Rattle.card_events.specs.SharedRows.{FeeRow, IndexRow, SharedRows, fee_row_of, holiday_of, index_row_of, shared_rows, with_index}
use Rattle.card_events.specs.Money.{rate_limit}
use Rattle.card_events.proofs.IndexRows.{index-more, with_more}
use Rattle.card_events.specs.declared.post.Post.{Post}
use Rattle.card_events.specs.declared.reply.Reply.{Reply}
use Rattle.card_events.specs.declared.reply.Reply.TheVariants as reply
use Rattle.card_events.specs.declared.request.Request.{Request}
use Rattle.card_events.specs.declared.request.Request.TheVariants as request
use Rattle.card_events.specs.declared.request.Shared.{Shared}
use Rattle.card_events.specs.declared.request.Shared.TheVariants as shared
use Rattle.card_events.specs.History.{is_open}
use Rattle.card_model.specs.Machine.{Accepts, NamedAccount, State, accepted, has_accounts, kept_as, outcome_in, rolled, run_from, shared_reason, start, step, with_shared}
use Rattle.card_model.specs.Refusals.{Lists, Present, where_true}
use Rattle.card_rows.specs.Held.{is_request, is_shared}

-- one request more
pub run_on : (s t : State) (r : Request) (a : Reply) → IsRun s → is_request r ≡ true → (t, a) ≡ step s r → IsRun t
run_on s t r a ran taken next = record {
  requests = ran.requests ++ r ∷ [];
  taken = list_all-append is_request ran.requests (r ∷ []) ∙ and_from (list_all is_request ran.requests) (is_request r && true) ran.taken (and_from (is_request r) true taken refl);
  state_is = ap (λ (x : State × Reply). x.0) next ∙ ap (λ (x : State). (step x r).0) ran.state_is ∙ sym (run_more start ran.requests r);
}

-- ---- the shared rows with one more
holidays_more : (rows : List Shared) (r : Shared) → (shared_rows (rows ++ r ∷ [])).holidays ≡ (shared_rows rows).holidays ++ filter_map holiday_of (r ∷ [])
holidays_more rows r = filter_map-append holiday_of rows (r ∷ [])

fees_more : (rows : List Shared) (r : Shared) → (shared_rows (rows ++ r ∷ [])).fees ≡ (shared_rows rows).fees ++ filter_map fee_row_of (r ∷ [])
fees_more rows r = filter_map-append fee_row_of rows (r ∷ [])

-- a row that is no holiday, and one that is no fee row
pub same_holidays : (calendar : List ℕ) (rows : List Shared) (r : Shared) → holiday_of r ≡ None → AreSameHolidays calendar (shared_rows rows).holidays → AreSameHolidays calendar (shared_rows (rows ++ r ∷ [])).holidays
same_holidays calendar rows r none same x =
    same x ∙ ap (λ (l : List ℕ). is_holiday l x) (sym (append-nil (shared_rows rows).holidays) ∙ ap (λ (l : List ℕ). (shared_rows rows).holidays ++ l) (by r none) ∙ sym (holidays_more rows r))
  where
    by : (r : Shared) → holiday_of r ≡ None → [] ≡ filter_map holiday_of (r ∷ [])
    by (shared.Roll d) none = refl
    by (shared.Holiday d) none = absurd (cc)
    by (shared.FeeRow d f e) none = refl
    by (shared.Index d e) none = refl

pub same_fees : (fees : List FeeRow) (rows : List Shared) (r : Shared) → fee_row_of r ≡ None → fees ≡ (shared_rows rows).fees → fees ≡ (shared_rows (rows ++ r ∷ [])).fees
same_fees fees rows r none same =
    same ∙ sym (append-nil (shared_rows rows).fees) ∙ ap (λ (l : List FeeRow). (shared_rows rows).fees ++ l) (by r none) ∙ sym (fees_more rows r)
  where
    by : (r : Shared) → fee_row_of r ≡ None → [] ≡ filter_map fee_row_of (r ∷ [])
    by (shared.Roll d) none = refl
    by (shared.Holiday d) none = refl
    by (shared.FeeRow d f e) none = absurd (cc)
    by (shared.Index d e) none = refl

pub same_index : (index : List IndexRow) (rows : List Shared) (r : Shared) → index_row_of r ≡ None → index ≡ (shared_rows rows).index → index ≡ (shared_rows (rows ++ r ∷ [])).index
same_index index rows r none same = same ∙ sym (index-more rows r ∙ ap (λ (o : Option IndexRow). with_more o (shared_rows rows).index) none)

is_holiday-push : (xs : List ℕ) (day x : ℕ) → (nat_eq x day || is_holiday xs x) ≡ is_holiday (xs ++ day ∷ []) x
unfolding is_holiday
is_holiday-push [] day x = refl
is_holiday-push (y ∷ ys) day x = swap (nat_eq x day) (nat_eq x y) (is_holiday ys x) ∙ ap (λ (b : Bool). nat_eq x y || b) (is_holiday-push ys day x)
  where
    swap : (a b c : Bool) → (a || (b || c)) ≡ (b || (a || c))
    swap true true c = refl
    swap true false c = refl
    swap false b c = refl

-- one more holiday
pub more_holidays : (calendar : List ℕ) (rows : List Shared) (day : ℕ) → AreSameHolidays calendar (shared_rows rows).holidays → AreSameHolidays (with_holiday day calendar) (shared_rows (rows ++ shared.Holiday day ∷ [])).holidays
more_holidays calendar rows day same x =
    with_holiday-is calendar day x ∙ ap (λ (b : Bool). nat_eq x day || b) (same x) ∙ is_holiday-push (shared_rows rows).holidays day x ∙ ap (λ (l : List ℕ). is_holiday l x) (sym (holidays_more rows (shared.Holiday day)))

-- one more fee row
pub more_fees : (fees : List FeeRow) (rows : List Shared) (day first repeat : ℕ) → fees ≡ (shared_rows rows).fees
    → fees ++ record { day = day; first = first; repeat = repeat } ∷ [] ≡ (shared_rows (rows ++ shared.FeeRow day first repeat ∷ [])).fees
more_fees fees rows day first repeat same = ap (λ (l : List FeeRow). l ++ record { day = day; first = first; repeat = repeat } ∷ []) same ∙ sym (fees_more rows (shared.FeeRow day first repeat))

-- one more index row
pub more_index : (index : List IndexRow) (rows : List Shared) (day rate : ℕ) → index ≡ (shared_rows rows).index
    → with_index (record { day = day; rate = rate }) index ≡ (shared_rows (rows ++ shared.Index day rate ∷ [])).index
more_index index rows day rate same = ap (with_index (record { day = day; rate = rate })) same ∙ sym (index-more rows (shared.Index day rate))

-- ---- a shared request
pub rolled_by : (today : ℕ) (r : Shared) → is_shared r ≡ true → today ≤ last_request_day → rolled today r ≤ last_request_day
unfolding is_dated_shared
rolled_by today (shared.Roll day) held last = leb-true day last_request_day (shared_day (shared.Roll day) held)
rolled_by today (shared.Holiday day) held last = last
rolled_by today (shared.FeeRow day first repeat) held last = last
rolled_by today (shared.Index day rate) held last = last

shared_step : (s : State) (r : Shared) → shared_reason s.today (has_accounts s) r ≡ None → step s (request.Shared r) ≡ with_shared s r None
unfolding step
shared_step s r none = ap (with_shared s r) none

pub shared_desk : (places : List (List ℕ × ℕ)) (common more : SharedRows) (count today : ℕ) (rows : List Shared) (accounts : List OpenAccount) (r : Shared)
    → IsDesk places common count today rows accounts → is_request (request.Shared r) ≡ true → shared_reason today (has_accounts (state_of today rows accounts)) r ≡ None
    → AreSameHolidays more.holidays (shared_rows (rows ++ r ∷ [])).holidays → more.fees ≡ (shared_rows (rows ++ r ∷ [])).fees
    → more.index ≡ (shared_rows (rows ++ r ∷ [])).index → AreAccounts (rolled today r) more accounts → IsDesk places more (count + 1) (rolled today r) (rows ++ r ∷ []) accounts
unfolding is_request
shared_desk places common more count today rows accounts r desk held none holidays table index_rows stands =
    let s = state_of today rows accounts in
    let t = state_of (rolled today r) (rows ++ r ∷ []) accounts in
    record {
      index = desk.index;
      few = desk.few;
      short = desk.short;
      dated = rolled_by today r held desk.dated;
      holidays = holidays;
      table = table;
      index_rows = index_rows;
      accounts = stands;
      counted = ap (λ (n : ℕ). n + 1) desk.counted ∙ sym (count_shared s t r refl);
      ran = run_on s t (request.Shared r) (with_shared s r None).1 desk.ran held (sym (shared_step s r none));
    }

-- a Holiday or a fee row that is accepted is for a later day, and fees are within their range
pub later_holiday : (today : ℕ) (any : Bool) (day : ℕ) → shared_reason today any (shared.Holiday day) ≡ None → today < day
unfolding shared_reason
later_holiday today any day none = leb-false day today (where_none (nat_le day today) (refusal.PastRow today) none)

-- and a Roll is to a later one
pub rolled_later : (today : ℕ) (any : Bool) (day : ℕ) → shared_reason today any (shared.Roll day) ≡ None → today ≤ day
unfolding shared_reason
rolled_later today any day none =
    let first = where_none (nat_le day today) (refusal.RollBack today) (none_head (where_true (nat_le day today) (refusal.RollBack today)) (where_true (any && nat_lt (today + 366) day) refusal.RollTooFar ∷ []) none) in
    let less = leb-false day today first in
    omega (arith, less)

pub later_row : (today : ℕ) (any : Bool) (day first repeat : ℕ) → shared_reason today any (shared.FeeRow day first repeat) ≡ None → today < day
unfolding shared_reason
later_row today any day first repeat none =
    leb-false day today (where_none (nat_le day today) (refusal.PastRow today)
    (none_head (where_true (nat_le day today) (refusal.PastRow today)) [] (none_tail (where_true (nat_lt 100000 first || nat_lt 100000 repeat || nat_lt repeat first) refusal.AmountRange) (where_true (nat_le day today) (refusal.PastRow today) ∷ []) none)))

pub few_fees : (today : ℕ) (any : Bool) (day first repeat : ℕ) → shared_reason today any (shared.FeeRow day first repeat) ≡ None → (first ≤ 100000) × (repeat ≤ 100000)
unfolding shared_reason
few_fees today any day first repeat none =
    let out = where_none (nat_lt 100000 first || nat_lt 100000 repeat || nat_lt repeat first) refusal.AmountRange
    (none_head (where_true (nat_lt 100000 first || nat_lt 100000 repeat || nat_lt repeat first) refusal.AmountRange) (where_true (nat_le day today) (refusal.PastRow today) ∷ []) none) in
    let parts = or_parts (nat_lt 100000 first || nat_lt 100000 repeat) (nat_lt repeat first) out in
    let both = or_parts (nat_lt 100000 first) (nat_lt 100000 repeat) parts.0 in
    (ltb-false 100000 first both.0, ltb-false 100000 repeat both.1)

pub later_rate : (today : ℕ) (any : Bool) (day rate : ℕ) → shared_reason today any (shared.Index day rate) ≡ None → today < day
unfolding shared_reason
later_rate today any day rate none =
    leb-false day today (where_none (nat_le day today) (refusal.PastRow today)
    (none_head (where_true (nat_le day today) (refusal.PastRow today)) [] (none_tail (where_true (nat_lt rate_limit rate) refusal.AmountRange) (where_true (nat_le day today) (refusal.PastRow today) ∷ []) none)))

pub small_rate : (today : ℕ) (any : Bool) (day rate : ℕ) → shared_reason today any (shared.Index day rate) ≡ None → rate ≤ rate_limit
unfolding shared_reason
small_rate today any day rate none =
    ltb-false rate_limit rate (where_none (nat_lt rate_limit rate) refusal.AmountRange
    (none_head (where_true (nat_lt rate_limit rate) refusal.AmountRange) (where_true (nat_le day today) (refusal.PastRow today) ∷ []) none))

-- ---- an account that is opened
pub opened_is : (s : State) (name key : List ℕ) (p : Post) (made : NamedAccount) → place_from name 0 s.accounts ≡ None → is_open p ≡ true → opening_reason s p ≡ None
    → made ≡ record { name = name; lists = record { posts = kept_as 1 key s.today p ∷ []; issued = [] } } → (record { today = s.today; shared = s.shared; accounts = s.accounts ++ made ∷ [] }, reply.Accepted 1) ≡ step s (request.Post name key p)
opened_is s name key p made absent opens_is none is =
    let l : Lists = record { posts = kept_as 1 key s.today p ∷ []; issued = [] } in
    let t : State = record { today = s.today; shared = s.shared; accounts = s.accounts ++ made ∷ [] } in
    ap (λ (x : State). (x, reply.Accepted 1)) (opened_state s t name l made refl refl refl is absent)
    ∙ sym (post_step s name key p (Accepts l) (open_accepted s name key p (no_place name 0 s.accounts absent).0 opens_is none))

pub opened_desk : (places more : List (List ℕ × ℕ)) (common : SharedRows) (count today : ℕ) (rows : List Shared) (accounts : List OpenAccount) (made : OpenAccount) (name key : List ℕ) (p : Post)
    → IsDesk places common count today rows accounts → is_request (request.Post name key p) ≡ true → place_from name 0 (named_all accounts) ≡ None → is_open p ≡ true
    → opening_reason (state_of today rows accounts) p ≡ None → made.named ≡ record { name = name; lists = record { posts = kept_as 1 key today p ∷ []; issued = [] } }
    → IsIndex more (named_all accounts ++ made.named ∷ []) → length accounts < 1000000 → IsAccount today common made → IsDesk more common (count + 1) today rows (accounts ++ made ∷ [])
opened_desk places more common count today rows accounts made name key p desk taken absent opens_is none is index room stands =
    let s = state_of today rows accounts in
    let t = state_of today rows (accounts ++ made ∷ []) in
    let all : named_all (accounts ++ made ∷ []) ≡ named_all accounts ++ made.named ∷ [] = map-append (λ (x : OpenAccount). x.named) accounts (made ∷ []) in
    let one : length made.named.lists.posts ≡ 1 = ap (λ (a : NamedAccount). length a.lists.posts) is in
    let next : (t, reply.Accepted 1) ≡ step s (request.Post name key p) =
    ap (λ (l : List NamedAccount). (record { today = today; shared = rows; accounts = l }, reply.Accepted 1)) all ∙ opened_is s name key p made.named absent opens_is none is in
    record {
      index = subst (λ (l : List NamedAccount). IsIndex more l) (sym all) index;
      few = omega (arith, room, length-append accounts (made ∷ []));
      short = ap are_short all ∙ short_pushed (named_all accounts) made.named desk.short (omega (arith, one));
      dated = desk.dated;
      holidays = desk.holidays;
      table = desk.table;
      index_rows = desk.index_rows;
      accounts = All-push (IsAccount today common) accounts made desk.accounts stands;
      counted = ap (λ (n : ℕ). n + 1) desk.counted ∙ sym (count_opened s t made.named refl all one);
      ran = run_on s t (request.Post name key p) (reply.Accepted 1) desk.ran taken next;
    }

-- ---- an account with one post more
pub longer : (now : Present) (key : List ℕ) (p : Post) → length (accepted now key p).posts ≡ length now.lists.posts + 1
unfolding accepted
longer now key p = length-append now.lists.posts (kept_as (length now.lists.posts + 1) key now.today p ∷ [])

pub posted_is : (s : State) (name key : List ℕ) (p : Post) (i : ℕ) (a d : NamedAccount) → IsPlace name s.accounts i → a.name ≡ (get_or s.accounts i d).name
    → outcome_in s name key p ≡ Accepts a.lists → (record { today = s.today; shared = s.shared; accounts = set s.accounts i a }, reply.Accepted (length a.lists.posts)) ≡ step s (request.Post name key p)
posted_is s name key p i a d place named accepts =
    let t : State = record { today = s.today; shared = s.shared; accounts = set s.accounts i a } in
    ap (λ (x : State). (x, reply.Accepted (length a.lists.posts))) (changed_state s t name a.lists i a d place refl refl refl named refl)
    ∙ sym (post_step s name key p (Accepts a.lists) accepts)

pub posted_desk : (places : List (List ℕ × ℕ)) (common : SharedRows) (count today : ℕ) (rows : List Shared) (accounts : List OpenAccount) (i : ℕ) (a d : OpenAccount) (name key : List ℕ) (p : Post)
    → IsDesk places common count today rows accounts → is_request (request.Post name key p) ≡ true → IsPlace name (named_all accounts) i → i < length accounts
    → a.named.name ≡ (get_or accounts i d).named.name → outcome_in (state_of today rows accounts) name key p ≡ Accepts a.named.lists
    → length a.named.lists.posts ≡ length (get_or accounts i d).named.lists.posts + 1 → length a.named.lists.posts ≤ post_limit → IsAccount today common a
    → IsDesk places common (count + 1) today rows (set accounts i a)
posted_desk places common count today rows accounts i a d name key p desk taken place low named accepts longer few stands =
    let s = state_of today rows accounts in
    let t = state_of today rows (set accounts i a) in
    let f : OpenAccount → NamedAccount = λ x. x.named in
    let all : named_all (set accounts i a) ≡ set (named_all accounts) i a.named = map-set f accounts i a in
    let read : get_or (named_all accounts) i d.named ≡ (get_or accounts i d).named = get_or-map f accounts i d d.named low in
    let name_is : a.named.name ≡ (get_or (named_all accounts) i d.named).name = named ∙ ap (λ (x : NamedAccount). x.name) (sym read) in
    let more : length a.named.lists.posts ≡ length (get_or (named_all accounts) i d.named).lists.posts + 1 = longer ∙ ap (λ (x : NamedAccount). length x.lists.posts + 1) (sym read) in
    let next : (t, reply.Accepted (length a.named.lists.posts)) ≡ step s (request.Post name key p) =
    ap (λ (l : List NamedAccount). (record { today = today; shared = rows; accounts = l }, reply.Accepted (length a.named.lists.posts))) all ∙ posted_is s name key p i a.named d.named place name_is accepts in
    record {
      index = subst (λ (l : List NamedAccount). IsIndex places l) (sym all) (index_set places (named_all accounts) i a.named d.named desk.index name_is);
      few = omega (arith, length-set accounts i a, desk.few);
      short = ap are_short all ∙ short_set (named_all accounts) i a.named desk.short few;
      dated = desk.dated;
      holidays = desk.holidays;
      table = desk.table;
      index_rows = desk.index_rows;
      accounts = All-set (IsAccount today common) accounts i a stands desk.accounts;
      counted = ap (λ (n : ℕ). n + 1) desk.counted ∙ sym (count_added s t i a.named d.named refl all place.bound more);
      ran = run_on s t (request.Post name key p) (reply.Accepted (length a.named.lists.posts)) desk.ran taken next;
    }

-- an account that was told of, or in which room was made
pub roomy_desk : (places : List (List ℕ × ℕ)) (common : SharedRows) (count today : ℕ) (rows : List Shared) (accounts : List OpenAccount) (i : ℕ) (a b : OpenAccount)
    → IsDesk places common count today rows accounts → i < length accounts → b ≡ get_or accounts i b → a.named ≡ b.named → IsAccount today common a
    → (named_all (set accounts i a) ≡ named_all accounts) × IsDesk places common count today rows (set accounts i a)
roomy_desk places common count today rows accounts i a b desk low is named stands =
    let f : OpenAccount → NamedAccount = λ x. x.named in
    let all : named_all (set accounts i a) ≡ named_all accounts = map-set_same f accounts i a b (named ∙ ap f is) in
    let state : List NamedAccount → State = λ l. record { today = today; shared = rows; accounts = l } in (
      all,
      record {
        index = subst (λ (l : List NamedAccount). IsIndex places l) (sym all) desk.index;
        few = omega (arith, length-set accounts i a, desk.few);
        short = ap are_short all ∙ desk.short;
        dated = desk.dated;
        holidays = desk.holidays;
        table = desk.table;
        index_rows = desk.index_rows;
        accounts = All-set (IsAccount today common) accounts i a stands desk.accounts;
        counted = desk.counted ∙ ap (λ (l : List NamedAccount). accepted_count (state l)) (sym all);
        ran = subst (λ (l : List NamedAccount). IsRun (state l)) (sym all) desk.ran;
      },
    )

-- a new desk
pub first_desk : IsDesk [] (record { holidays = []; fees = []; index = [] }) 0 first_calendar_day [] []
unfolding place_of place_from posts_in run_from
first_desk = record {
  index = λ name. refl;
  few = omega arith;
  short = refl;
  dated = omega arith;
  holidays = λ x. refl;
  table = refl;
  index_rows = refl;
  accounts = All-nil (IsAccount first_calendar_day (record { holidays = []; fees = []; index = [] }));
  counted = refl;
  ran = record { requests = []; taken = refl; state_is = refl };
}

-- other places that say the same
pub index_desk : (places less : List (List ℕ × ℕ)) (common : SharedRows) (count today : ℕ) (rows : List Shared) (accounts : List OpenAccount)
    → IsDesk places common count today rows accounts → IsIndex less (named_all accounts) → IsDesk less common count today rows accounts
index_desk places less common count today rows accounts desk index = record {
  index = index;
  few = desk.few;
  short = desk.short;
  dated = desk.dated;
  holidays = desk.holidays;
  table = desk.table;
  index_rows = desk.index_rows;
  accounts = desk.accounts;
  counted = desk.counted;
  ran = desk.ran;
}
