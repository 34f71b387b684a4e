-- Whether a day is a break day is told by the penalties of the day before it.
use Rattle.std.proofs.Common.{◌≡◌, ℕ, zero, suc, ◌+◌, ◌-◌, ◌<◌, ◌≤◌, Bool, true, false, cond, not, ◌&&◌, ◌||◌, nat_le, nat_lt, List, [], ◌∷◌, length, refl, sym, ap, ◌∙◌, arith, Option, Some, None, eqb, ◌⊎◌, inl, inr}
use Rattle.std.specs.Prelude.{is_some, map}
use Rattle.std.specs.List.{list_all, list_any}
use Rattle.std.proofs.lemmas.Bool.{cases_lt, ne_eqb}
use Rattle.std.proofs.lemmas.List.Elements.{All-weaker}
use Rattle.std.proofs.lemmas.List.Folds.{list_any-append, list_any_none}
use Rattle.card_events.specs.Business.{is_due}
use Rattle.card_events.specs.Civil.{day_of_month}
use Rattle.card_events.specs.Range.{last_calendar_day}
use Rattle.card_events.specs.History.{CorrectedPost, anchor_of, corrected, is_variable}
use Rattle.card_events.specs.SharedRows.{IndexRow, SharedRows}
use Rattle.card_events.specs.declared.kept.Kept.{Kept}
use Rattle.card_model.specs.Books.{Account, Book, account_of, present_cycle}
use Rattle.card_model.specs.Breaks.{breaks_penalty, breaks_segment, is_break}
use Rattle.card_model.specs.Caps.{row_for}
use Rattle.card_model.specs.Cuts.{BreakDaysStay}
use Rattle.card_model.specs.CycleDays.{IsOpening}
use Rattle.card_model.specs.Cycles.{Cycle, IssuedRow, Seen, last_cycle, seen_on}
use Rattle.card_model.specs.DueDates.{cured_by, due_after_day, on_due}
use Rattle.card_model.specs.Folds.{book, book_after, day_after}
use Rattle.card_model.specs.Payments.{met}
use Rattle.card_model.specs.Segments.{segments}
use Rattle.card_model.specs.declared.segment.Interval.{Interval}
use Rattle.card_model.proofs.Calendar.{fold-days}
use Rattle.card_model.proofs.Penalties.{Begun, day-begins, due-by, had_no_end, interval}
use Rattle.card_model.proofs.Quiet.{last-due, no-due, nothing-due}

-- ---- one day
-- a post of that day or a later one begins no penalty on it
one-begun : (day later : ℕ) (i : Interval) → day ≤ later → i ≡ interval (later + 45) None → breaks_penalty day i ≡ false
one-begun day later i l e =
    let other : eqb (later + 45) day ≡ false = ne_eqb (later + 45) day (λ q. omega (arith, q, l)) in
    ap (breaks_penalty day) e ∙ rw other refl

or-none : (b : Bool) → (b || false) ≡ b
or-none true = refl
or-none false = refl

begun-same : (day later : ℕ) (old new : List Interval) → day ≤ later → Begun later old new → list_any (breaks_penalty day) new ≡ list_any (breaks_penalty day) old
begun-same day later old new l h =
    let none = list_any_none (breaks_penalty day) h.rest (All-weaker (λ (i : Interval). i ≡ interval (later + 45) None) (λ (i : Interval). breaks_penalty day i ≡ false) (λ i e. one-begun day later i l e) h.rest h.each) in
    ap (list_any (breaks_penalty day)) h.is
    ∙ (list_any-append (breaks_penalty day) old h.rest ∙ (ap (λ b. list_any (breaks_penalty day) old || b) none ∙ or-none (list_any (breaks_penalty day) old)))

-- an end on that day or a later one doesn't break it
one-cured : (day due : ℕ) (i : Interval) (t : Bool) → day ≤ due → (t ≡ true → i.last ≡ None) → breaks_penalty day (cond t (interval i.begins (Some due)) i) ≡ breaks_penalty day i
one-cured day due i true l h =
    let other : eqb (due + 1) day ≡ false = ne_eqb (due + 1) day (λ q. omega (arith, q, l)) in
    let none = h refl in
    rw (other, none) refl
one-cured day due i false l h = refl

cured-same : (day : ℕ) (seen : Seen) (cycles : List Cycle) (c : Cycle) (ps : List Interval) → day ≤ c.due → list_any (breaks_penalty day) (map (cured_by seen cycles c.due) ps) ≡ list_any (breaks_penalty day) ps
cured-same day seen cycles c [] l = refl
cured-same day seen cycles c (p ∷ ps) l =
    let dues = due_after_day p.begins cycles in
    let six = eqb (length dues) 6 in
    let kept = list_all (met seen) dues in
    ap (λ b. b || list_any (breaks_penalty day) (map (cured_by seen cycles c.due) ps)) (one-cured day c.due p ((not (is_some p.last) && six) && kept) l (had_no_end p.last six kept))
    ∙ ap (λ b. breaks_penalty day p || b) (cured-same day seen cycles c ps l)

day-same : (day : ℕ) (issued : Option IssuedRow) (a : Account) (seen : Seen) (b : Book) → day ≤ seen.day → (seen.day ≡ day → on_due issued a seen b (last_cycle b.cycles) ≡ b)
    → list_any (breaks_penalty day) (day_after issued a seen b).penalties ≡ list_any (breaks_penalty day) b.penalties
day-same day issued a seen b l none =
    begun-same day seen.day (on_due issued a seen b (last_cycle b.cycles)).penalties (day_after issued a seen b).penalties l (day-begins issued a seen b) ∙ by (cases_lt day seen.day)
  where
    by : (day < seen.day) ⊎ (seen.day ≤ day) → list_any (breaks_penalty day) (on_due issued a seen b (last_cycle b.cycles)).penalties ≡ list_any (breaks_penalty day) b.penalties
    by (inl later) =
        due-by (λ ps. list_any (breaks_penalty day) ps ≡ list_any (breaks_penalty day) b.penalties) issued a seen b (last_cycle b.cycles) refl
        (λ c e. cured-same day seen b.cycles c b.penalties (omega (arith, e, later)))
    by (inr now) = ap (λ (x : Book). list_any (breaks_penalty day) x.penalties) (none (omega arith))

-- ---- days
days-same : (history : List Kept) (issued : List IssuedRow) (shared : SharedRows) (day m more : ℕ) → IsOpening (anchor_of history) → is_due (anchor_of history) (day - 1) ≡ false
    → day ≤ (anchor_of history).opened + m → (anchor_of history).opened + (more + m) ≤ 48577
    → list_any (breaks_penalty day) (book_after issued (account_of history) (seen_on (anchor_of history) shared history issued) (more + m)).penalties
    ≡ list_any (breaks_penalty day) (book_after issued (account_of history) (seen_on (anchor_of history) shared history issued) m).penalties
unfolding book_after
days-same history issued shared day m zero open' q l high =
    let z : 0 + m ≡ m = omega arith in
    ap (λ n. list_any (breaks_penalty day) (book_after issued (account_of history) (seen_on (anchor_of history) shared history issued) n).penalties) z
days-same history issued shared day m (suc more) open' q l high =
    let z : suc more + m ≡ suc (more + m) = omega arith in
    let a = account_of history in
    let s = seen_on (anchor_of history) shared history issued in
    let b = book_after issued a s (more + m) in
    let row = row_for (present_cycle b) issued in
    let on = (anchor_of history).opened + (more + m) in
    let days = fold-days issued a s (more + m) (λ d. refl) open' (omega arith) in
    ap (λ n. list_any (breaks_penalty day) (book_after issued a s n).penalties) z
    ∙ (day-same day row a (s on) b (omega arith)
    (λ e. no-due row a (s on) b (last_cycle b.cycles) (day - 1) open' (omega (arith, e, open'.first)) (omega arith) q (last-due a.anchor 0 None b.cycles (nothing-due a.anchor) days))
    ∙ days-same history issued shared day m more open' q l (omega arith))

-- after a due date the day is one anyway
anyway : (p c i s x y r : Bool) → (p || c || true || i || s || x || r) ≡ (p || c || true || i || s || y || r)
anyway true c i s x y r = refl
anyway false true i s x y r = refl
anyway false false i s x y r = refl

pub break_days_stay : BreakDaysStay
unfolding book is_break
break_days_stay history issued shared day later open' l high = by (is_due (anchor_of history) (day - 1)) refl
  where
    posts : List CorrectedPost
    posts = corrected (anchor_of history) shared.holidays history

    first : Bool
    first = list_any (λ (p : CorrectedPost). eqb p.day day) posts

    second : Bool
    second = nat_le (anchor_of history).opened day && eqb (day_of_month day) (anchor_of history).close_day

    fourth : Bool
    fourth = list_any (λ (r : IssuedRow). eqb r.day day) issued

    fifth : Bool
    fifth = list_any (breaks_segment day) (segments (anchor_of history) (account_of history).terms posts)

    seventh : Bool
    seventh = is_variable history && nat_lt (anchor_of history).opened day && list_any (λ (r : IndexRow). eqb r.day day) shared.index

    then : ℕ → Bool
    then on = list_any (breaks_penalty day) (book_after issued (account_of history) (seen_on (anchor_of history) shared history issued) (on + 1 - (anchor_of history).opened)).penalties

    by : (t : Bool) → is_due (anchor_of history) (day - 1) ≡ t → (first || second || t || fourth || fifth || then later || seventh) ≡ (first || second || t || fourth || fifth || then (day - 1) || seventh)
    by true e = anyway first second fourth fifth (then later) (then (day - 1)) seventh
    by false e =
        let o = (anchor_of history).opened in
        let m = day - 1 + 1 - o in
        let more = later + 1 - o - m in
        let sum : more + m ≡ later + 1 - o = omega arith in
        let same = days-same history issued shared day m more open' e (omega arith) (top open'.last) in
        ap (λ b. first || second || false || fourth || fifth || b || seventh)
        (ap (λ n. list_any (breaks_penalty day) (book_after issued (account_of history) (seen_on (anchor_of history) shared history issued) n).penalties) (sym sum) ∙ same)
      where
        top : (anchor_of history).opened ≤ last_calendar_day → (anchor_of history).opened + (later + 1 - (anchor_of history).opened - (day - 1 + 1 - (anchor_of history).opened) + (day - 1 + 1 - (anchor_of history).opened)) ≤ 48577
        top o = omega arith
