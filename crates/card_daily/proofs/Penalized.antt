-- Penalties that begin and end: what stays, and what is known of the closed cycles that they read.
use Rattle.std.proofs.Common.{◌≡◌, ℕ, zero, suc, ◌+◌, ◌-◌, ◌<◌, ◌≤◌, true, false, cond, List, [], ◌∷◌, ◌++◌, map, take, drop, length, get_or, set, refl, sym, ap, ◌∙◌, subst, arith, Option, Some, ◌⊎◌, inl, inr}
use Rattle.std.specs.List.{All}
use Rattle.std.specs.Prelude.{◌==◌}
use Rattle.std.proofs.lemmas.Bool.{cases_lt}
use Rattle.std.proofs.lemmas.List.{append-nil, drop_all, take_all}
use Rattle.std.proofs.lemmas.List.Elements.{All-cons, All-nil}
use Rattle.card_events.specs.Billing.{closing, cycle_of, due}
use Rattle.card_events.specs.Range.{last_request_day}
use Rattle.card_events.specs.declared.anchor.Anchor.{Anchor}
use Rattle.card_events.proofs.Cycles.{cycle_around}
use Rattle.card_model.specs.declared.due_cycle.DueCycle.{DueCycle}
use Rattle.card_events.specs.History.{CorrectedPost, anchor_of, corrected}
use Rattle.card_events.specs.declared.post.Post.{Post}
use Rattle.card_events.specs.declared.post.Post.TheVariants as post
use Rattle.card_fees.proofs.Days.{due-later}
use Rattle.card_closing.specs.Rows.{Rows}
use Rattle.card_model.proofs.Calendar.{cycles_are_of_the_calendar, is-anchor}
use Rattle.card_model.specs.Books.{Account, Book, with_penalties}
use Rattle.card_model.specs.CycleDays.{HasItsDays}
use Rattle.card_model.specs.Cycles.{Cycle, IssuedRow, Seen, last_cycle}
use Rattle.card_model.specs.DueDates.{cured_by, on_due}
use Rattle.card_model.specs.Effects.{effect}
use Rattle.card_model.specs.Entries.{AreBalances}
use Rattle.card_model.specs.Folds.{cycle_at}
use Rattle.card_model.specs.Payments.{due_cycle_of, is_met, is_owed_sixty_days, met, owes_sixty_days, returns}
use Rattle.card_model.specs.Rates.{starts}
use Rattle.card_model.specs.Segments.{SegmentTerms}
use Rattle.card_model.specs.declared.segment.Interval.{Interval}
use Rattle.card_fees.proofs.PastPosts.{past-posts}
use Rattle.card_rates.proofs.Penalties.{penalties_stay}
use Rattle.card_rates.specs.RateBooks as rates
use Rattle.card_rates.specs.RateBooks.{Rates}
use Rattle.card_daily.proofs.Books.{before-is}
use Rattle.card_daily.proofs.ClosingDay.{at-count, due-before, grows-to}
use Rattle.card_daily.proofs.Following.{due-most}
use Rattle.card_daily.proofs.Lasts.{last-is}
use Rattle.card_daily.specs.Given.{Given, IsSound, account_in, book_on, opened_in, row_in, seen_in}
use Rattle.card_daily.specs.Penalties.{IsClosed, begun_on, cured_on}
use Rattle.card_daily.specs.Returns.{IsDueBy}
use Rattle.card_daily.specs.Stands.{HaveAccrued, StandFor, before, posted, posts_of}
use Rattle.card_daily.specs.declared.state.State.{State}
use Rattle.card_daily.specs.declared.track.Track.{Track}

-- ---- days before
-- a penalty that begins or ends on a day changes none that is in force on a day before
pub earlier-starts : (g : Given) (day d : ℕ) → opened_in g ≤ day → d + 1 ≤ day → starts d (posted g day).penalties ≡ starts d (before g day).penalties
earlier-starts g day d o l =
    let n = day - opened_in g in
    let seen = seen_in g (opened_in g + n) in
    let b = before g day in
    penalties_stay.posts (row_in g n) (account_in g) seen (posts_of g day) (on_due (row_in g n) (account_in g) seen b (last_cycle b.cycles)) d (omega (arith, o, l))
    ∙ penalties_stay.due (row_in g n) (account_in g) seen b (last_cycle b.cycles) d (omega (arith, o, l))

-- ---- state and track with other penalties
pub record IsWithPenalties (ps : List Interval) (s new : State) : Type 0 where
  pub segments : new.segments ≡ s.segments
  pub rates : new.rates ≡ rates.with_penalties ps s.rates
  pub rows : new.rows ≡ s.rows
  pub accruals : new.accruals ≡ s.accruals

map-each : {X Y : Type 0} (f h : X → Y) → ((x : X) → f x ≡ h x) → (xs : List X) → map f xs ≡ map h xs
map-each f h e [] = refl
map-each f h e (x ∷ xs) = ap (λ y. y ∷ map f xs) (e x) ∙ ap (λ ys. h x ∷ ys) (map-each f h e xs)

pub stand-with : (g : Given) (rows_by next : SegmentTerms → Rows) (ps : List Interval) (b : Book) (s new : State) (t : Track) → StandFor g rows_by b s t → ((x : SegmentTerms) → rows_by x ≡ next x) → IsWithPenalties ps s new
    → StandFor g next (with_penalties ps b) new t
stand-with g rows_by next ps b s new t h same n =
    record {
      entries = h.entries;
      cycles = h.cycles;
      fees = h.fees;
      rates = n.rates ∙ ap (rates.with_penalties ps) h.rates;
      segments = ap (λ v. v.segments) n.segments ∙ h.segments;
      sums = subst (λ v. AreBalances b.entries v.balances) (sym n.segments) h.sums;
      rows = ap (λ v. v.items) n.rows ∙ (h.rows ∙ (map-each rows_by next same s.rates.segments ∙ ap (λ (r : Rates). map next r.segments) (sym n.rates)));
      accruals = ap (λ v. length v.items) n.accruals ∙ (h.accruals ∙ ap (λ (r : Rates). length r.segments) (sym n.rates));
    }

pub accrued-with : (g : Given) (day : ℕ) (b : Book) (ps : List Interval) (s new : State) → HaveAccrued g day b s.rates.segments s.accruals.items → IsWithPenalties ps s new → HaveAccrued g day b new.rates.segments new.accruals.items
accrued-with g day b ps s new h n =
    subst (λ (r : Rates). HaveAccrued g day b r.segments new.accruals.items) (sym n.rates) (subst (λ v. HaveAccrued g day b s.rates.segments v.items) (sym n.accruals) h)

-- ---- a Penalty
pub penalty-is : (issued : Option IssuedRow) (a : Account) (seen : Seen) (p : CorrectedPost) (q : Post) (b : Book) → q ≡ post.Penalty → effect issued a seen p q b ≡ with_penalties (begun_on seen b.cycles b.penalties) b
unfolding effect
penalty-is issued a seen p q b e = ap (λ r. effect issued a seen p r b) e

pub penalty-none : (n : ℕ) (q : Post) → q ≡ post.Penalty → returns n q ≡ false
penalty-none n q e = ap (returns n) e

-- ---- closed cycles
later : (k : ℕ) (x c : Cycle) (cs : List Cycle) → cycle_at k cs ≡ Some c → cycle_at (k + 1) (x ∷ cs) ≡ Some c
later zero x c cs e = cc
later (suc n) x c cs e = let same : suc n + 1 ≡ suc (suc n) = omega arith in ap (λ k. cycle_at k (x ∷ cs)) same ∙ e

-- all of them, where it is so of each with a number
all-numbered : (P : Cycle → Type 0) (cs : List Cycle) → ((k : ℕ) (c : Cycle) → cycle_at k cs ≡ Some c → P c) → All P cs
all-numbered P [] h = All-nil P
all-numbered P (c ∷ cs) h = All-cons P c cs (h 1 c refl) (all-numbered P cs (λ k x e. h (k + 1) x (later k c x cs e)))

closed-at : (g : Given) (day k : ℕ) (c : Cycle) → IsSound g → opened_in g ≤ day + 1 → day ≤ last_request_day → cycle_at k (book_on g day).cycles ≡ Some c → IsClosed g c
closed-at g day k c s o l e =
    let a = anchor_of g.history in
    let h = is-anchor a s.opening in
    let days = cycles_are_of_the_calendar.days g.history g.issued g.shared day k c s.opening (omega (arith, l)) e in
    let count = cycles_are_of_the_calendar.count g.history g.issued g.shared day in
    let at = at-count k (book_on g day).cycles c e in
    let around = cycle_around a h (day + 1) (cycle_of a (day + 1)) o (omega (arith, l)) refl in
    let grow = grows-to a k (cycle_of a (day + 1) - 1) (omega (arith, count, at.1)) in
    let most = due-most a k in
    record {
      days = subst (λ n. HasItsDays a n c) (sym days.number) days;
      first = let n = days.number in omega (arith, n, at.0);
      due = let own = days.due in omega (arith, own, most, grow, around.0, l);
    }

pub all-closed : (g : Given) (day : ℕ) → IsSound g → opened_in g ≤ day + 1 → day ≤ last_request_day → All (IsClosed g) (book_on g day).cycles
all-closed g day s o l = all-numbered (IsClosed g) (book_on g day).cycles (λ k c e. closed-at g day k c s o l e)

pub closed-before : (g : Given) (day : ℕ) → IsSound g → opened_in g ≤ day → day ≤ last_request_day → All (IsClosed g) (before g day).cycles
closed-before g day s o l =
    let one = s.opening.first in
    subst (λ (b : Book). All (IsClosed g) b.cycles) (sym (before-is g day (omega (arith, one, o)))) (all-closed g (day - 1) s (omega (arith, o)) (omega (arith, l)))

-- on the day after the last due date none is still to come
pub all-due : (g : Given) (day : ℕ) (c : Cycle) → IsSound g → opened_in g ≤ day → day ≤ last_request_day → last_cycle (before g day).cycles ≡ Some c → day ≡ c.due + 1 → All (IsDueBy g day) (before g day).cycles
all-due g day c s o l e on = all-numbered (IsDueBy g day) (before g day).cycles each
  where
    a : Anchor
    a = anchor_of g.history

    one : 1 ≤ day
    one = let first = s.opening.first in omega (arith, first, o)

    each : (k : ℕ) (x : Cycle) → cycle_at k (before g day).cycles ≡ Some x → IsDueBy g day x
    each k x at = by (cases_lt k c.number)
      where
        closed : IsClosed g x
        closed = closed-at g (day - 1) k x s (omega (arith, o)) (omega (arith, l)) (ap (λ (b : Book). cycle_at k b.cycles) (sym (before-is g day one)) ∙ at)

        by : (k < c.number) ⊎ (c.number ≤ k) → IsDueBy g day x
        by (inl less) =
            let is = last-is g day c s one l e in
            let count = at-count k (before g day).cycles x at in
            let days = cycles_are_of_the_calendar.days g.history g.issued g.shared (day - 1) k x s.opening (omega (arith, l)) (ap (λ (b : Book). cycle_at k b.cycles) (sym (before-is g day one)) ∙ at) in
            let grow = due-later a c.number in
            let own = is.days.due in
            let past = due-before a (is-anchor a s.opening) k c.number (closing a c.number) count.0 (omega (arith, less)) refl (omega (arith, grow, own, on, l)) in
            let its = days.due in
            record { days = closed.days; first = closed.first; due = omega (arith, its, past, grow, own, on) }
        by (inr more) =
            let is = last-is g day c s one l e in
            let count = at-count k (before g day).cycles x at in
            let days = cycles_are_of_the_calendar.days g.history g.issued g.shared (day - 1) k x s.opening (omega (arith, l)) (ap (λ (b : Book). cycle_at k b.cycles) (sym (before-is g day one)) ∙ at) in
            let all = is.present in
            let k-is : k ≡ c.number = omega (arith, more, count.1, all) in
            let its = days.due ∙ ap (due a) k-is in
            let own = is.days.due in
            record { days = closed.days; first = closed.first; due = omega (arith, its, own, on) }

-- ---- what the fold of a day sees
pub closed-before-due : (g : Given) (day : ℕ) (c : Cycle) (d : DueCycle) → HasItsDays (anchor_of g.history) c.number c → d ≡ due_cycle_of (seen_in g day).issued c → d.closing < d.due
closed-before-due g day c d h e =
    let l = due-later (anchor_of g.history) c.number in
    subst (λ (x : DueCycle). x.closing < x.due) (sym e) (omega (arith, l, h.closing, h.due))

pub owes-is : (g : Given) (day : ℕ) (c : Cycle) (posts : List CorrectedPost) (d : DueCycle) → posts ≡ corrected (anchor_of g.history) g.shared.holidays g.history
    → d ≡ due_cycle_of (seen_in g day).issued c → is_owed_sixty_days posts day d ≡ owes_sixty_days (seen_in g day) c
owes-is g day c posts d ep ed = rw (ep, ed) (sym (past-posts.owed day (corrected (anchor_of g.history) g.shared.holidays g.history) (due_cycle_of (seen_in g day).issued c)))

pub met-is : (g : Given) (day : ℕ) (c : Cycle) (posts : List CorrectedPost) (d : DueCycle) → c.due ≤ day → posts ≡ corrected (anchor_of g.history) g.shared.holidays g.history
    → d ≡ due_cycle_of (seen_in g day).issued c → is_met posts d ≡ met (seen_in g day) c
met-is g day c posts d l ep ed = rw (ep, ed) (sym (past-posts.met day (corrected (anchor_of g.history) g.shared.holidays g.history) (due_cycle_of (seen_in g day).issued c) l))

-- ---- penalty by penalty
abbrev pub done-to : {X : Type 0} → (X → X) → ℕ → List X → List X
done-to f i xs = map f (take i xs) ++ drop i xs

pub done-there : {X : Type 0} (f : X → X) (i : ℕ) (xs : List X) (d : X) → i < length xs → get_or (done-to f i xs) i d ≡ get_or xs i d
done-there f i [] d l = absurd (omega arith)
done-there f zero (x ∷ xs) d l = refl
done-there f (suc i) (x ∷ xs) d l = done-there f i xs d (omega arith)

pub done-length : {X : Type 0} (f : X → X) (i : ℕ) (xs : List X) → length (done-to f i xs) ≡ length xs
done-length f zero xs = refl
done-length f (suc i) [] = refl
done-length f (suc i) (x ∷ xs) = ap suc (done-length f i xs)

set-next : {X : Type 0} (f : X → X) (y : X) (i : ℕ) (xs : List X) (d : X) → i < length xs → y ≡ f (get_or xs i d) → set (done-to f i xs) i y ≡ done-to f (suc i) xs
set-next f y i [] d l e = absurd (omega arith)
set-next f y zero (x ∷ xs) d l e = ap (λ u. u ∷ xs) e
set-next f y (suc i) (x ∷ xs) d l e = ap (λ u. f x ∷ u) (set-next f y i xs d (omega arith) e)

pub done-set : {X : Type 0} (f : X → X) (y : X) (i : ℕ) (old now : List X) (d : X) → i < length old → now ≡ done-to f i old → y ≡ f (get_or now i d) → set now i y ≡ done-to f (i + 1) old
done-set f y i old now d l e h =
    let next : suc i ≡ i + 1 = omega arith in
    ap (λ xs. set xs i y) e ∙ (set-next f y i old d l (h ∙ ap f (ap (λ xs. get_or xs i d) e ∙ done-there f i old d l)) ∙ ap (λ n. done-to f n old) next)

pub done-all : {X : Type 0} (f : X → X) (i : ℕ) (xs : List X) → length xs ≤ i → done-to f i xs ≡ map f xs
done-all f i xs l = ap (λ ys. map f ys ++ drop i xs) (take_all i xs l) ∙ (ap (λ ys. map f xs ++ ys) (drop_all i xs l) ∙ append-nil (map f xs))

pub set-same : {X : Type 0} (xs : List X) (i : ℕ) (d : X) → i < length xs → xs ≡ set xs i (get_or xs i d)
set-same [] i d l = absurd (omega arith)
set-same (x ∷ xs) zero d l = refl
set-same (x ∷ xs) (suc i) d l = ap (λ ys. x ∷ ys) (set-same xs i d (omega arith))

-- ---- with the due date of a cycle
pub cured-then : (seen : Seen) (cs : List Cycle) (c : Cycle) (due : ℕ) (ps : List Interval) (o : Option Cycle) → o ≡ Some c → due ≡ c.due → (seen.day == c.due + 1) ≡ true → map (cured_by seen cs due) ps ≡ cured_on seen cs o ps
unfolding cured_on
cured-then seen cs c due ps o e d t =
    ap (λ x. map (cured_by seen cs x) ps) d
    ∙ (sym (ap (λ b. cond b (map (cured_by seen cs c.due) ps) ps) t) ∙ sym (ap (λ o. cured_on seen cs o ps) e))

pub cured-else : (seen : Seen) (cs : List Cycle) (c : Cycle) (ps : List Interval) (o : Option Cycle) → o ≡ Some c → (seen.day == c.due + 1) ≡ false → ps ≡ cured_on seen cs o ps
unfolding cured_on
cured-else seen cs c ps o e t = sym (ap (λ b. cond b (map (cured_by seen cs c.due) ps) ps) t) ∙ sym (ap (λ o. cured_on seen cs o ps) e)
