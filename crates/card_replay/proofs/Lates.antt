-- Rows that aren't made yet, with what is kept of the account's book, and over one post more.
use Rattle.std.proofs.Common.{◌≡◌, ℕ, ◌+◌, ◌<◌, ◌≤◌, List, [], ◌∷◌, ◌++◌, append_assoc, length, nat_le, refl, sym, ap, ◌∙◌, subst, arith, Option, Some, None}
use Rattle.std.specs.Prelude.{map}
use Rattle.std.specs.List.{All, filter}
use Rattle.std.proofs.lemmas.List.Elements.{All-append, All-cons, All-head, All-nil, All-tail, All-weaker}
use Rattle.card_billed.proofs.Late.{bills_may_wait, place-append}
use Rattle.card_billed.proofs.Rests.{rows_grow_unmade, rows_stay_unmade}
use Rattle.card_billed.specs.Laws.{IsLeft}
use Rattle.card_billed.specs.Unmade.{AreUnmade, IsUnmade}
use Rattle.card_book.proofs.Agreement.{later_rows_agree}
use Rattle.card_events.specs.Billing.{closing}
use Rattle.card_events.specs.declared.anchor.Anchor.{Anchor}
use Rattle.card_events.specs.History.{anchor_of}
use Rattle.card_events.specs.SharedRows.{FeeRow, SharedRows}
use Rattle.card_events.specs.Range.{last_request_day}
use Rattle.card_events.specs.declared.kept.Kept.{Kept}
use Rattle.card_model.specs.Cycles.{Cycle, IssuedRow, Sheet}
use Rattle.card_model.specs.Folds.{book, cycle_at, row_of_cycle}
use Rattle.card_model.specs.Laws.{HistoriesAgree, bill_of, fees_up_to}
use Rattle.card_model.specs.Sheets.{sheet_of}
use Rattle.card_model.proofs.Unread.{unfolded_posts_agree}
use Rattle.card_posts.specs.Posted.{last_accepted}
use Rattle.card_replay.proofs.Changed.{same-anchor}
use Rattle.card_replay.proofs.LaterRows.{agree-earlier, one-filter}
use Rattle.card_past.proofs.NextRow.{all-later}
use Rattle.card_past.proofs.Waiting.{unmade_rows_leave_it}
use Rattle.card_replay.specs.Lates.{LateRowsCanBeMade, LateRowsGrow, LateRowsStay, LaterRowsLeaveThem}
use Rattle.card_replay.specs.Making.{folded_at}
use Rattle.card_replay.specs.Owes.{AreLater, owed_by}
use Rattle.card_replay.specs.Replays.{IsFolding}
use Rattle.card_replay.specs.Waiting.{given_by}
use Rattle.card_past.specs.declared.owed.Owed.{Owed}

-- ---- lists
numbers-are : (a : Anchor) (rest : List IssuedRow) → map (λ (o : Owed). o.bill) (map (owed_by a) rest) ≡ map (λ r. r.bill) rest
numbers-are a [] = refl
numbers-are a (r ∷ rest) = ap (λ ns. r.bill ∷ ns) (numbers-are a rest)

closings-are : (P : ℕ → Type 0) (a : Anchor) (rest : List IssuedRow) → All (λ (o : Owed). P o.closing) (map (owed_by a) rest) → All (λ r. P (closing a r.cycle)) rest
closings-are P a [] h = All-nil (λ (r : IssuedRow). P (closing a r.cycle))
closings-are P a (r ∷ rest) h =
    All-cons (λ (x : IssuedRow). P (closing a x.cycle)) r rest (All-head (λ (o : Owed). P o.closing) (owed_by a r) (map (owed_by a) rest) h)
    (closings-are P a rest (All-tail (λ (o : Owed). P o.closing) (owed_by a r) (map (owed_by a) rest) h))

pub earlier-day : (opened before after : ℕ) (rest : List IssuedRow) → after ≤ before → AreLater opened before rest → AreLater opened after rest
unfolding AreLater
earlier-day opened before after [] l h = tt
earlier-day opened before after (r ∷ rest) l h = let low = h.0 in (omega (arith, l, low), h.1, h.2, h.3)

last-more : (n : ℕ) (hs : List Kept) (k : Kept) → n ≤ last_accepted hs → n ≤ last_accepted (hs ++ k ∷ [])
unfolding last_accepted
last-more n [] k l = omega (arith, l)
last-more n (h ∷ hs) k l =
    let rest = last-more (last_accepted hs) hs k (omega arith) in
    omega (arith, l, rest)

-- ---- the laws
pub late_rows_can_be_made : LateRowsCanBeMade
late_rows_can_be_made shared lists late f today open' h folding last = record {
  reached = f.reached;
  rest = h.rest;
  left = record {
    rows = h.rows;
    unmade = h.unmade;
    later = h.later;
    folding = (unmade_rows_leave_it lists.posts late.made h.rest shared (folded_at f.reached f.book f.past) open' h.unmade (all-later (anchor_of lists.posts).opened f.reached h.rest h.later)).without
        (subst (λ rows. IsFolding (given_by lists.posts rows shared) (folded_at f.reached f.book f.past)) h.rows
        (record { day = folding.day; whole = folding.whole; stands = folding.stands; marks = folding.marks; eve = tt }));
  };
  numbers = ap (map (λ (o : Owed). o.bill)) h.bills ∙ numbers-are (anchor_of lists.posts) h.rest;
  within = All-weaker (λ (r : IssuedRow). r.day ≤ last_accepted lists.posts) (λ (r : IssuedRow). r.day ≤ today) (λ r l. omega (arith, l, last)) h.rest h.accepted;
}

pub late_rows_stay : LateRowsStay
late_rows_stay shared lists late k before after some h l agree =
    let a = anchor_of lists.posts in
    let posts = lists.posts ++ k ∷ [] in
    let same = same-anchor lists.posts k some in
    let closings = closings-are (λ day. HistoriesAgree day shared shared lists.posts posts) a h.rest (subst (All (λ (o : Owed). HistoriesAgree o.closing shared shared lists.posts posts)) h.bills agree) in
    let left = All-weaker (λ (r : IssuedRow). HistoriesAgree (closing a r.cycle) shared shared lists.posts posts) (IsLeft lists.posts posts shared shared)
    (λ r one. record { agree = one; fees = refl; there = λ b e. place-append r.bill lists.posts k b e }) h.rest closings in
    record {
      rest = h.rest;
      rows = h.rows;
      bills = h.bills ∙ ap (λ (x : Anchor). map (owed_by x) h.rest) (sym same);
      unmade = rows_stay_unmade lists.posts (lists.posts ++ k ∷ []) late.made h.rest shared shared left h.unmade;
      later = subst (λ (x : Anchor). AreLater x.opened after h.rest) (sym same) (earlier-day a.opened before after h.rest l h.later);
      ahead = All-weaker (λ (r : IssuedRow). before < r.day) (λ (r : IssuedRow). after < r.day) (λ r m. omega (arith, l, m)) h.rest h.ahead;
      accepted = All-weaker (λ (r : IssuedRow). r.day ≤ last_accepted lists.posts) (λ (r : IssuedRow). r.day ≤ last_accepted (lists.posts ++ k ∷ [])) (λ r m. last-more r.day lists.posts k m) h.rest h.accepted;
    }

-- ---- a Bill more
last-end : (hs : List Kept) (k : Kept) → k.accepted ≤ last_accepted (hs ++ k ∷ [])
unfolding last_accepted
last-end [] k = omega arith
last-end (h ∷ hs) k = let rest = last-end hs k in omega (arith, rest)

map-end : (a : Anchor) (rest : List IssuedRow) (r : IssuedRow) → map (owed_by a) (rest ++ r ∷ []) ≡ map (owed_by a) rest ++ owed_by a r ∷ []
map-end a [] r = refl
map-end a (x ∷ rest) r = ap (λ os. owed_by a x ∷ os) (map-end a rest r)

later-end : (opened day : ℕ) (rest : List IssuedRow) (r : IssuedRow) → AreLater opened day rest → All (λ x. x.day ≤ r.day) rest → day ≤ r.day → opened ≤ r.day → r.day ≤ last_request_day → AreLater opened day (rest ++ r ∷ [])
unfolding AreLater
later-end opened day [] r h all l m n = (l, m, n, tt)
later-end opened day (x ∷ rest) r h all l m n =
    (h.0, h.1, h.2, later-end opened x.day rest r h.3 (All-tail (λ (y : IssuedRow). y.day ≤ r.day) x rest all) (All-head (λ (y : IssuedRow). y.day ≤ r.day) x rest all) m n)

same-head : (x y : IssuedRow) → x ∷ [] ≡ y ∷ [] → x ≡ y
same-head x y e = cc

row-day : (cycle bill today : ℕ) (sheet : Cycle → Sheet) (o : Option Cycle) (r : IssuedRow) → row_of_cycle cycle bill today sheet o ≡ r ∷ [] → r.day ≡ today
row-day cycle bill today sheet None r e = let no : [] ≡ r ∷ [] = e in absurd (cc)
row-day cycle bill today sheet (Some c) r e =
    sym (ap (λ (x : IssuedRow). x.day) (same-head (record { cycle = cycle; bill = bill; day = today; statement = c; sheet = sheet c }) r e))

all-end : (P : IssuedRow → Type 0) (rest : List IssuedRow) (r : IssuedRow) → All P rest → P r → All P (rest ++ r ∷ [])
all-end P rest r h p = All-append P rest (r ∷ []) h (All-cons P r [] p (All-nil P))

-- a Bill leaves them all
bill-leaves : (history : List Kept) (n : ℕ) (key : List ℕ) (today cycle : ℕ) (shared : SharedRows) (rest : List IssuedRow) → All (IsLeft history (history ++ bill_of n key today cycle ∷ []) shared shared) rest
bill-leaves history n key today cycle shared [] = All-nil (IsLeft history (history ++ bill_of n key today cycle ∷ []) shared shared)
bill-leaves history n key today cycle shared (r ∷ rest) =
    let k = bill_of n key today cycle in
    All-cons (IsLeft history (history ++ k ∷ []) shared shared) r rest
    (record { agree = unfolded_posts_agree history k shared (closing (anchor_of history) r.cycle) refl; fees = refl; there = λ b e. place-append r.bill history k b e })
    (bill-leaves history n key today cycle shared rest)

pub late_rows_grow : LateRowsGrow
late_rows_grow shared lists late key today cycle reached r some open' h opened low last within closed is =
    let a = anchor_of lists.posts in
    let k = bill_of (length lists.posts + 1) key today cycle in
    let posts = lists.posts ++ k ∷ [] in
    let same = same-anchor lists.posts k some in
    let day : r.day ≡ today = row-day cycle (length lists.posts + 1) today (sheet_of lists.posts lists.issued shared today) (cycle_at cycle (book lists.posts lists.issued shared today).cycles) r is in
    let one = bills_may_wait lists.posts lists.issued shared key today cycle r some open' (omega (arith, within)) closed is in
    let left = bill-leaves lists.posts (length lists.posts + 1) key today cycle shared h.rest in
    let stay = rows_stay_unmade lists.posts posts late.made h.rest shared shared left h.unmade in
    record {
      rest = h.rest ++ r ∷ [];
      rows = ap (λ rows. rows ++ r ∷ []) h.rows ∙ append_assoc late.made h.rest (r ∷ []);
      bills = ap (λ os. os ++ owed_by a r ∷ []) h.bills ∙ (sym (map-end a h.rest r) ∙ ap (λ (x : Anchor). map (owed_by x) (h.rest ++ r ∷ [])) (sym same));
      unmade = rows_grow_unmade posts late.made h.rest shared r stay (subst (λ rows. IsUnmade posts rows shared r) h.rows one);
      later = subst (λ (x : Anchor). AreLater x.opened reached (h.rest ++ r ∷ [])) (sym same)
          (later-end a.opened reached h.rest r h.later (All-weaker (λ (x : IssuedRow). x.day ≤ last_accepted lists.posts) (λ (x : IssuedRow). x.day ≤ r.day) (λ x l. omega (arith, l, last, day)) h.rest h.accepted)
          (omega (arith, low, day)) (omega (arith, opened, day)) (omega (arith, within, day)));
      ahead = all-end (λ (x : IssuedRow). reached < x.day) h.rest r h.ahead (omega (arith, low, day));
      accepted = all-end (λ (x : IssuedRow). x.day ≤ last_accepted posts) h.rest r
          (All-weaker (λ (x : IssuedRow). x.day ≤ last_accepted lists.posts) (λ (x : IssuedRow). x.day ≤ last_accepted posts) (λ x m. last-more x.day lists.posts k m) h.rest h.accepted)
          (let end = last-end lists.posts k in omega (arith, end, day));
    }

-- ---- later shared rows
all-closed : (history : List Kept) (made : List IssuedRow) (shared : SharedRows) (rest : List IssuedRow) → AreUnmade history made shared rest → All (λ r. closing (anchor_of history) r.cycle < r.day) rest
unfolding AreUnmade
all-closed history made shared [] h = All-nil (λ (r : IssuedRow). closing (anchor_of history) r.cycle < r.day)
all-closed history made shared (r ∷ rest) h = All-cons (λ (x : IssuedRow). closing (anchor_of history) x.cycle < x.day) r rest h.0.closed (all-closed history (made ++ r ∷ []) shared rest h.1)

rows-leave : (old new : SharedRows) (history : List Kept) (day : ℕ) → HistoriesAgree day old new history history → fees_up_to day new ≡ fees_up_to day old → (rest : List IssuedRow) → All (λ r. closing (anchor_of history) r.cycle < r.day) rest → All (λ r. r.day ≤ day) rest
    → All (IsLeft history history old new) rest
rows-leave old new history day agree fees [] closed within = All-nil (IsLeft history history old new)
rows-leave old new history day agree fees (r ∷ rest) closed within =
    let early = All-head (λ (x : IssuedRow). closing (anchor_of history) x.cycle < x.day) r rest closed in
    let low = All-head (λ (x : IssuedRow). x.day ≤ day) r rest within in
    All-cons (IsLeft history history old new) r rest
    (record {
      agree = agree-earlier old new history history (closing (anchor_of history) r.cycle) day (omega (arith, early, low)) agree;
      fees = sym (one-filter (λ (x : FeeRow). x.day) r.day day low new.fees) ∙ (ap (filter (λ (x : FeeRow). nat_le x.day r.day)) fees ∙ one-filter (λ (x : FeeRow). x.day) r.day day low old.fees);
      there = λ b e. e;
    })
    (rows-leave old new history day agree fees rest (All-tail (λ (x : IssuedRow). closing (anchor_of history) x.cycle < x.day) r rest closed) (All-tail (λ (x : IssuedRow). x.day ≤ day) r rest within))

pub later_rows_leave_them : LaterRowsLeaveThem
later_rows_leave_them old new lists late reached day timely last rows h =
    let agree = later_rows_agree lists.posts old new day day timely last rows.holidays rows.fees rows.index in
    let within = All-weaker (λ (r : IssuedRow). r.day ≤ last_accepted lists.posts) (λ (r : IssuedRow). r.day ≤ day) (λ r l. omega (arith, l, last)) h.rest h.accepted in
    let left = rows-leave old new lists.posts day agree rows.fees h.rest (all-closed lists.posts late.made old h.rest h.unmade) within in
    record {
      rest = h.rest;
      rows = h.rows;
      bills = h.bills;
      unmade = rows_stay_unmade lists.posts lists.posts late.made h.rest old new left h.unmade;
      later = h.later;
      ahead = h.ahead;
      accepted = h.accepted;
    }
