-- A day that is no break leaves the book as it was.
use Rattle.std.proofs.Common.{◌≡◌, ℕ, suc, ◌+◌, ◌-◌, ◌≤◌, ◌<◌, Bool, true, false, cond, ◌&&◌, ◌||◌, List, [], ◌∷◌, refl, sym, ◌∙◌, subst, arith, Option, Some, None, eqb, leb, ltb, ◌⊎◌, inl, inr}
use Rattle.std.specs.List.{filter, last_or, list_any}
use Rattle.std.proofs.lemmas.Bool.{eqb-true, cases_lt}
use Rattle.std.proofs.lemmas.Bool.Decides.{nat_tests}
use Rattle.card_events.specs.Billing.{due}
use Rattle.card_events.specs.Business.{is_due}
use Rattle.card_events.specs.Civil.{day_of_month}
use Rattle.card_events.specs.Range.{last_calendar_day}
use Rattle.card_events.specs.declared.anchor.Anchor.{Anchor}
use Rattle.card_events.specs.History.{CorrectedPost, anchor_of, corrected, folded, is_folded}
use Rattle.card_events.specs.SharedRows.{IndexRow, SharedRows}
use Rattle.card_events.specs.declared.kept.Kept.{Kept}
use Rattle.card_model.proofs.Accepting.{or-false}
use Rattle.card_model.specs.Books.{Account, Book, account_of, present_cycle}
use Rattle.card_model.specs.Breaks.{breaks_penalty, breaks_segment, is_break}
use Rattle.card_model.specs.Caps.{row_for}
use Rattle.card_model.specs.CycleDays.{IsOpening}
use Rattle.card_model.specs.Cycles.{Cycle, IssuedRow, Seen, last_cycle, posts_on, seen_on}
use Rattle.card_model.specs.DueDates.{after_due_date, on_due}
use Rattle.card_model.specs.Effects.{after_posts}
use Rattle.card_model.specs.Folds.{book, book_after, day_after}
use Rattle.card_model.specs.Interest.{row}
use Rattle.card_model.specs.QuietDays.{QuietDaysChangeNothing}
use Rattle.card_model.specs.Segments.{segments}
use Rattle.card_model.specs.declared.segment.Interval.{Interval}
use Rattle.card_events.proofs.DueLaws.{is_due-due}
use Rattle.card_model.proofs.Calendar.{HaveTheirDays, fold-days, is-anchor}

-- ---- posts
none-filtered : {X : Type 0} (q : X → Bool) (xs : List X) → list_any q xs ≡ false → filter q xs ≡ []
none-filtered q [] h = refl
none-filtered q (x ∷ xs) h = let parts = or-false (q x) (list_any q xs) h in rw parts.0 (none-filtered q xs parts.1)

none-among : {X : Type 0} (q r : X → Bool) (xs : List X) → list_any q xs ≡ false → list_any q (filter r xs) ≡ false
none-among q r [] h = refl
none-among q r (x ∷ xs) h = by (r x) (or-false (q x) (list_any q xs) h).0 (none-among q r xs (or-false (q x) (list_any q xs) h).1)
  where
    by : (t : Bool) → q x ≡ false → list_any q (filter r xs) ≡ false → list_any q (cond t (x ∷ filter r xs) (filter r xs)) ≡ false
    by true e i = rw e i
    by false e i = i

no-posts : (a : Anchor) (shared : SharedRows) (history : List Kept) (issued : List IssuedRow) (d : ℕ) → list_any (λ p. eqb p.day d) (corrected a shared.holidays history) ≡ false → posts_on (seen_on a shared history issued d) ≡ []
no-posts a shared history issued d h =
    none-filtered (λ (p : CorrectedPost). eqb p.day d) (seen_on a shared history issued d).posts
    (none-among (λ (p : CorrectedPost). eqb p.day d) (λ p. leb p.day d) (folded a shared.holidays history) (none-among (λ (p : CorrectedPost). eqb p.day d) (λ p. is_folded p.post) (corrected a shared.holidays history) h))

-- ---- due dates
-- the due date of a cycle
pub IsDueOf : Anchor → Option Cycle → Type 0
IsDueOf a None = Unit {0}
IsDueOf a (Some c) = (k : ℕ) × (c.due ≡ due a (suc k))

pub nothing-due : (a : Anchor) → IsDueOf a None
unfolding IsDueOf
nothing-due a = tt

pub last-due : (a : Anchor) (k : ℕ) (o : Option Cycle) (cs : List Cycle) → IsDueOf a o → HaveTheirDays a k cs → IsDueOf a (last_or o cs)
unfolding IsDueOf
last-due a k o [] e h = e
last-due a k o (c ∷ cs) e h = last-due a (suc k) (Some c) cs (k, h.0.due) h.1

pub no-due : (row : Option IssuedRow) (acc : Account) (seen : Seen) (b : Book) (o : Option Cycle) (day : ℕ) → IsOpening acc.anchor → seen.day ≡ day + 1 → day ≤ last_calendar_day → is_due acc.anchor day ≡ false → IsDueOf acc.anchor o → on_due row acc seen b o ≡ b
unfolding on_due IsDueOf
no-due row acc seen b None day open' e l q h = refl
no-due row acc seen b (Some c) day open' e l q h = by (eqb seen.day (c.due + 1)) refl
  where
    is-day : (x y : ℕ) → x ≡ day + 1 → x ≡ y + 1 → y ≡ day
    is-day x y e f = omega arith

    never : eqb seen.day (c.due + 1) ≡ true → ⊥
    never t =
        let same : c.due ≡ day = is-day seen.day c.due e (eqb-true seen.day (c.due + 1) t) in
        let found : due acc.anchor (suc h.0) ≡ day = sym h.1 ∙ same in
        let passes = is_due-due acc.anchor (is-anchor acc.anchor open') h.0 (omega arith) in
        let here = subst (λ x. is_due acc.anchor x ≡ true) found passes in cc

    by : (t : Bool) → eqb seen.day (c.due + 1) ≡ t → cond t (after_due_date row acc seen b c) b ≡ b
    by true t = absurd (never t)
    by false t = refl

-- ---- a day
quiet-day : (row : Option IssuedRow) (acc : Account) (seen : Seen) (b : Book) → on_due row acc seen b (last_cycle b.cycles) ≡ b → posts_on seen ≡ [] → eqb (day_of_month seen.day) acc.anchor.close_day ≡ false → day_after row acc seen b ≡ b
unfolding day_after after_posts
quiet-day row acc seen b due none open' = rw (open', none) due

record Parts (acc : Account) (all : List CorrectedPost) (day : ℕ) : Type 0 where
  pub posts : list_any (λ p. eqb p.day (day + 1)) all ≡ false
  pub closing : (leb acc.anchor.opened (day + 1) && eqb (day_of_month (day + 1)) acc.anchor.close_day) ≡ false
  pub due : is_due acc.anchor (day + 1 - 1) ≡ false

parts : (acc : Account) (posts : List CorrectedPost) (issued : List IssuedRow) (index : List IndexRow) (penalties : List Interval) (day : ℕ) → is_break acc posts issued index penalties (day + 1) ≡ false → Parts acc posts day
unfolding is_break
parts acc posts issued index penalties day h =
    let z = or-false _ (acc.variable && ltb acc.anchor.opened (day + 1) && list_any (λ r. eqb r.day (day + 1)) index) h in
    let a = or-false _ (list_any (breaks_penalty (day + 1)) penalties) z.0 in
    let b = or-false _ (list_any (breaks_segment (day + 1)) (segments acc.anchor acc.terms posts)) a.0 in
    let c = or-false _ (list_any (λ r. eqb r.day (day + 1)) issued) b.0 in
    let d = or-false _ (is_due acc.anchor (day + 1 - 1)) c.0 in
    let e = or-false (list_any (λ p. eqb p.day (day + 1)) posts) (leb acc.anchor.opened (day + 1) && eqb (day_of_month (day + 1)) acc.anchor.close_day) d.0 in
    record { posts = e.0; closing = e.1; due = d.1 }

later-day : (history : List Kept) (issued : List IssuedRow) (shared : SharedRows) (day n : ℕ) → IsOpening (anchor_of history) → day + 1 ≤ last_calendar_day → (anchor_of history).opened + n ≡ day + 1
    → Parts (account_of history) (corrected (anchor_of history) shared.holidays history) day
    → book_after issued (account_of history) (seen_on (anchor_of history) shared history issued) (suc n) ≡ book_after issued (account_of history) (seen_on (anchor_of history) shared history issued) n
unfolding book_after
later-day history issued shared day n open' l e h =
    let acc = account_of history in
    let s = seen_on (anchor_of history) shared history issued in
    let b = book_after issued acc s n in
    let row = row_for (present_cycle b) issued in
    let days = fold-days issued acc s n (λ d. refl) open' (omega arith) in
    let back : day + 1 - 1 ≡ day = omega arith in
    let due = no-due row acc (s (acc.anchor.opened + n)) b (last_cycle b.cycles) day open' e (omega arith) (subst (λ x. is_due acc.anchor x ≡ false) back h.due) (last-due acc.anchor 0 None b.cycles (nothing-due acc.anchor) days) in
    let none = subst (λ d. posts_on (s d) ≡ []) (sym e) (no-posts (anchor_of history) shared history issued (day + 1) h.posts) in
    let after : leb acc.anchor.opened (day + 1) ≡ true = grind (arith, nat_tests) in
    let open-day : eqb (day_of_month (day + 1)) acc.anchor.close_day ≡ false = rw after at h.closing in
    quiet-day row acc (s (acc.anchor.opened + n)) b due none (subst (λ d. eqb (day_of_month d) acc.anchor.close_day ≡ false) (sym e) open-day)

pub quiet_days_change_nothing : QuietDaysChangeNothing
unfolding book
quiet_days_change_nothing history issued shared penalties day open' l h = by (cases_lt (day + 1) (anchor_of history).opened)
  where
    by : (day + 1 < (anchor_of history).opened) ⊎ ((anchor_of history).opened ≤ day + 1)
        → book_after issued (account_of history) (seen_on (anchor_of history) shared history issued) (day + 1 + 1 - (anchor_of history).opened)
        ≡ book_after issued (account_of history) (seen_on (anchor_of history) shared history issued) (day + 1 - (anchor_of history).opened)
    by (inl early) =
        let one : day + 1 + 1 - (anchor_of history).opened ≡ 0 = omega arith in
        let two : day + 1 - (anchor_of history).opened ≡ 0 = omega arith in
        rw (one, two) refl
    by (inr late) =
        let n = day + 1 - (anchor_of history).opened in
        let next : day + 1 + 1 - (anchor_of history).opened ≡ suc n = omega arith in
        rw next (later-day history issued shared day n open' l (omega arith) (parts (account_of history) _ issued shared.index penalties day h))
