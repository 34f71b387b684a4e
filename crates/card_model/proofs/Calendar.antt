-- The cycles of a book, day by day against the calendar.
use Rattle.std.proofs.Common.{◌≡◌, ℕ, zero, suc, ◌+◌, ◌-◌, ◌≤◌, ◌<◌, Bool, true, false, cond, List, [], ◌∷◌, ◌++◌, length, refl, sym, ap, ◌∙◌, subst, arith, Option, Some, None, eqb}
use Rattle.std.specs.Prelude.{slice_get}
use Rattle.std.specs.List.{last_or}
use Rattle.std.proofs.lemmas.List.{length-append}
use Rattle.card_events.specs.Billing.{closing, closings_among, cycle_of, due_after}
use Rattle.card_events.specs.Civil.{day_of_month}
use Rattle.card_events.specs.Range.{last_calendar_day}
use Rattle.card_events.specs.declared.anchor.Anchor.{Anchor}
use Rattle.card_events.specs.History.{anchor_of}
use Rattle.card_events.specs.SharedRows.{SharedRows}
use Rattle.card_events.specs.declared.kept.Kept.{Kept}
use Rattle.card_model.specs.Books.{Account, Book, account_of, present_cycle}
use Rattle.card_model.specs.Caps.{row_for}
use Rattle.card_model.specs.Closing.{close, closed_cycle, closing_interest, first_of}
use Rattle.card_model.specs.CycleDays.{CyclesAreOfTheCalendar, HasItsDays, IsOpening}
use Rattle.card_model.specs.Cycles.{Cycle, IssuedRow, Seen, last_cycle, posts_on, seen_on}
use Rattle.card_model.specs.DueDates.{on_due}
use Rattle.card_model.specs.Effects.{after_posts}
use Rattle.card_model.specs.Folds.{book, book_after, cycle_at, day_after}
use Rattle.card_model.specs.Machine.{opened}
use Rattle.card_events.proofs.Business.{first_day-at_most}
use Rattle.card_events.proofs.Cycles.{IsAnchor, cycle_around}
use Rattle.card_model.proofs.Caps.{posts-cycles, due-cycles}

-- ---- the days of cycles in a list
abbrev pub HaveTheirDays : Anchor → ℕ → List Cycle → Type 0
HaveTheirDays a k [] = Unit {0}
HaveTheirDays a k (c ∷ cs) = HasItsDays a (suc k) c × HaveTheirDays a (suc k) cs

days-push : (a : Anchor) (k m : ℕ) (cs : List Cycle) (c : Cycle) → length cs + k ≡ m → HasItsDays a (suc m) c → HaveTheirDays a k cs → HaveTheirDays a k (cs ++ c ∷ [])
days-push a k m [] c e d h = let same : m ≡ k = omega arith in (subst (λ n. HasItsDays a (suc n) c) same d, tt)
days-push a k m (x ∷ cs) c e d h = (h.0, days-push a (suc k) m cs c (omega arith) d h.1)

days-at : (a : Anchor) (k i : ℕ) (cs : List Cycle) (c : Cycle) → HaveTheirDays a k cs → slice_get cs i ≡ Some c → HasItsDays a (suc (i + k)) c
days-at a k i [] c h e = cc
days-at a k zero (x ∷ cs) c h e = let same : x ≡ c = cc in let n : k ≡ 0 + k = omega arith in subst (λ m. HasItsDays a (suc m) c) n (subst (HasItsDays a (suc k)) same h.0)
days-at a k (suc i) (x ∷ cs) c h e = let n : i + suc k ≡ suc i + k = omega arith in subst (λ m. HasItsDays a (suc m) c) n (days-at a (suc k) i cs c h.1 e)

-- the last closing before a cycle
EndsAt : Anchor → ℕ → Option Cycle → Type 0
EndsAt a k None = k ≡ 0
EndsAt a k (Some c) = c.closing ≡ closing a k

last-ends : (a : Anchor) (k : ℕ) (o : Option Cycle) (cs : List Cycle) → EndsAt a k o → HaveTheirDays a k cs → EndsAt a (length cs + k) (last_or o cs)
unfolding EndsAt
last-ends a k o [] e h = let n : k ≡ 0 + k = omega arith in subst (λ m. EndsAt a m o) n e
last-ends a k o (c ∷ cs) e h = let n : length cs + suc k ≡ suc (length cs) + k = omega arith in subst (λ m. EndsAt a m (last_or (Some c) cs)) n (last-ends a (suc k) (Some c) cs h.0.closing h.1)

first-follows : (acc : Account) (k : ℕ) (o : Option Cycle) → 1 ≤ acc.anchor.opened → EndsAt acc.anchor k o → first_of acc o ≡ closing acc.anchor k + 1
unfolding EndsAt closing
first-follows acc k None l e = rw e (back acc.anchor.opened l)
  where
    back : (n : ℕ) → 1 ≤ n → n ≡ n - 1 + 1
    back n l = omega arith
first-follows acc k (Some c) l e = ap (λ d. d + 1) e

-- ---- a day on which a cycle closes
pub is-anchor : (a : Anchor) → IsOpening a → IsAnchor a
is-anchor a h = record { first = h.first; last = h.last; low = h.close_day.0; high = h.close_day.1 }

between : (x y : ℕ) → x ≤ y → y ≤ x → x ≡ y
between x y l m = omega arith

closes-on : (a : Anchor) (d k : ℕ) → IsOpening a → a.opened ≤ d → d ≤ last_calendar_day → suc k ≡ cycle_of a d → eqb (day_of_month d) a.close_day ≡ true → closing a (suc k) ≡ d
unfolding closing
closes-on a d k h low high e passes =
    let around = cycle_around a (is-anchor a h) d (suc k) low high e in
    let before : suc k - 1 ≡ k = omega arith in
    let early : closing a k < d = subst (λ n. closing a n < d) before around.0 in
    between (closing a (suc k)) d (first_day-at_most (λ x. eqb (day_of_month x) a.close_day) 31 (closing a k + 1) d (omega arith) passes) around.1

close-last : (issued : Option IssuedRow) (a : Account) (seen : Seen) (b : Book) → (close issued a seen b).cycles ≡ b.cycles ++ closed_cycle issued a seen b (closing_interest issued a seen b) ∷ []
unfolding close
close-last issued a seen b = refl

-- ---- as many cycles as closings
day-count : (issued : Option IssuedRow) (acc : Account) (seen : Seen) (b : Book) → length (day_after issued acc seen b).cycles ≡ length b.cycles + cond (eqb (day_of_month seen.day) acc.anchor.close_day) 1 0
unfolding day_after
day-count issued acc seen b =
    let posted = after_posts issued acc seen (posts_on seen) (on_due issued acc seen b (last_cycle b.cycles)) in
    let cycles : posted.cycles ≡ b.cycles = posts-cycles issued acc seen (posts_on seen) _ ∙ due-cycles issued acc seen b (last_cycle b.cycles) in
    by (eqb (day_of_month seen.day) acc.anchor.close_day) posted (ap (λ (cs : List Cycle). length cs) cycles)
  where
    more : (x y z : ℕ) → x ≡ y + z → y ≡ length b.cycles → x ≡ length b.cycles + z
    more x y z e f = omega arith

    by : (t : Bool) (posted : Book) → length posted.cycles ≡ length b.cycles → length (cond t (close issued acc seen posted) posted).cycles ≡ length b.cycles + cond t 1 0
    by true posted e = more _ (length posted.cycles) 1 (ap (λ (cs : List Cycle). length cs) (close-last issued acc seen posted) ∙ length-append posted.cycles _) e
    by false posted e = more (length posted.cycles) (length posted.cycles) 0 (omega arith) e

fold-count : (rows : List IssuedRow) (acc : Account) (seen : ℕ → Seen) (n : ℕ) → ((d : ℕ) → (seen d).day ≡ d) → length (book_after rows acc seen n).cycles ≡ closings_among acc.anchor.close_day acc.anchor.opened n
unfolding book_after closings_among
fold-count rows acc seen zero day = refl
fold-count rows acc seen (suc n) day =
    let b = book_after rows acc seen n in
    let d = acc.anchor.opened + n in
    day-count (row_for (present_cycle b) rows) acc (seen d) b
    ∙ (ap (λ x. length b.cycles + cond (eqb (day_of_month x) acc.anchor.close_day) 1 0) (day d)
    ∙ ap (λ x. x + cond (eqb (day_of_month d) acc.anchor.close_day) 1 0) (fold-count rows acc seen n day))

-- ---- each with its days
day-days : (issued : Option IssuedRow) (acc : Account) (seen : Seen) (b : Book) (d : ℕ) → IsOpening acc.anchor → seen.day ≡ d → acc.anchor.opened ≤ d → d ≤ last_calendar_day → suc (length b.cycles) ≡ cycle_of acc.anchor d
    → HaveTheirDays acc.anchor 0 b.cycles → HaveTheirDays acc.anchor 0 (day_after issued acc seen b).cycles
unfolding day_after EndsAt
day-days issued acc seen b d open' day low high e h =
    let posted = after_posts issued acc seen (posts_on seen) (on_due issued acc seen b (last_cycle b.cycles)) in
    let cycles : posted.cycles ≡ b.cycles = posts-cycles issued acc seen (posts_on seen) _ ∙ due-cycles issued acc seen b (last_cycle b.cycles) in
    by (eqb (day_of_month seen.day) acc.anchor.close_day) refl posted (ap (λ (cs : List Cycle). suc (length cs)) cycles ∙ e) (subst (HaveTheirDays acc.anchor 0) (sym cycles) h)
  where
    closed : (posted : Book) → eqb (day_of_month seen.day) acc.anchor.close_day ≡ true → suc (length posted.cycles) ≡ cycle_of acc.anchor d → HaveTheirDays acc.anchor 0 posted.cycles
        → HasItsDays acc.anchor (suc (length posted.cycles)) (closed_cycle issued acc seen posted (closing_interest issued acc seen posted))
    closed posted q f g =
        let on = closes-on acc.anchor d (length posted.cycles) open' low high f (subst (λ x. eqb (day_of_month x) acc.anchor.close_day ≡ true) day q) in
        let whole : length posted.cycles + 0 ≡ length posted.cycles = omega arith in
        let ends = subst (λ m. EndsAt acc.anchor m (last_cycle posted.cycles)) whole (last-ends acc.anchor 0 None posted.cycles refl g) in
        let back : suc (length posted.cycles) - 1 ≡ length posted.cycles = omega arith in
        record {
          number = omega arith;
          first = first-follows acc (length posted.cycles) (last_cycle posted.cycles) (omega (arith, open'.first)) ends ∙ ap (λ m. closing acc.anchor m + 1) (sym back);
          closing = day ∙ sym on;
          due = ap (due_after acc.anchor.close_day) (day ∙ sym on);
        }

    by : (t : Bool) → eqb (day_of_month seen.day) acc.anchor.close_day ≡ t → (posted : Book) → suc (length posted.cycles) ≡ cycle_of acc.anchor d → HaveTheirDays acc.anchor 0 posted.cycles
        → HaveTheirDays acc.anchor 0 (cond t (close issued acc seen posted) posted).cycles
    by true q posted f g = subst (HaveTheirDays acc.anchor 0) (sym (close-last issued acc seen posted)) (days-push acc.anchor 0 (length posted.cycles) posted.cycles _ (omega arith) (closed posted q f g) g)
    by false q posted f g = g

-- the cycle that a day lies in, by days since the opening
present : (rows : List IssuedRow) (acc : Account) (seen : ℕ → Seen) (n : ℕ) → ((d : ℕ) → (seen d).day ≡ d) → suc (length (book_after rows acc seen n).cycles) ≡ cycle_of acc.anchor (acc.anchor.opened + n)
unfolding cycle_of
present rows acc seen n day =
    let count = fold-count rows acc seen n day in
    let back : acc.anchor.opened + n - acc.anchor.opened ≡ n = omega arith in
    rw back (next _ _ count)
  where
    next : (x y : ℕ) → x ≡ y → suc x ≡ y + 1
    next x y e = omega arith

pub fold-days : (rows : List IssuedRow) (acc : Account) (seen : ℕ → Seen) (n : ℕ) → ((d : ℕ) → (seen d).day ≡ d) → IsOpening acc.anchor → acc.anchor.opened + n ≤ 48577 → HaveTheirDays acc.anchor 0 (book_after rows acc seen n).cycles
unfolding book_after
fold-days rows acc seen zero day open' l = tt
fold-days rows acc seen (suc n) day open' l =
    let b = book_after rows acc seen n in
    let d = acc.anchor.opened + n in
    day-days (row_for (present_cycle b) rows) acc (seen d) b d open' (day d) (omega arith) (omega arith) (present rows acc seen n day) (fold-days rows acc seen n day open' (omega arith))

-- ---- the law
counted : (history : List Kept) (issued : List IssuedRow) (shared : SharedRows) (day : ℕ) → length (book history issued shared day).cycles + 1 ≡ cycle_of (anchor_of history) (day + 1)
unfolding book cycle_of
counted history issued shared day =
    ap (λ n. n + 1) (fold-count issued (account_of history) (seen_on (anchor_of history) shared history issued) (day + 1 - (anchor_of history).opened) (λ d. refl))

few-days : (day opened : ℕ) → opened ≤ last_calendar_day → day ≤ last_calendar_day → opened + (day + 1 - opened) ≤ 48577
few-days day opened l m = omega arith

dated : (history : List Kept) (issued : List IssuedRow) (shared : SharedRows) (day k : ℕ) (c : Cycle) → IsOpening (anchor_of history) → day ≤ last_calendar_day → cycle_at k (book history issued shared day).cycles ≡ Some c → HasItsDays (anchor_of history) k c
unfolding book
dated history issued shared day zero c open' l e = cc
dated history issued shared day (suc i) c open' l e =
    let all = fold-days issued (account_of history) (seen_on (anchor_of history) shared history issued) (day + 1 - (anchor_of history).opened) (λ d. refl) open' (few-days day (anchor_of history).opened open'.last l) in
    let n : suc (i + 0) ≡ suc i = omega arith in
    subst (λ m. HasItsDays (anchor_of history) m c) n (days-at (anchor_of history) 0 i _ c all e)

pub cycles_are_of_the_calendar : CyclesAreOfTheCalendar
cycles_are_of_the_calendar = record { count = counted; days = dated }
