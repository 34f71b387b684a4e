-- What is recorded up to the last closing before the first day that a post changes stays.
use Rattle.std.proofs.Common.{◌≡◌, ℕ, zero, suc, ◌+◌, ◌-◌, ◌<◌, ◌≤◌, ◌⊎◌, inl, inr, min, Bool, true, false, List, ◌++◌, take, length, get_or, refl, sym, ap, ◌∙◌, subst, arith, Some}
use Rattle.std.proofs.Math.Seq.{take-append_seam}
use Rattle.std.proofs.lemmas.List.{length-take}
use Rattle.card_events.specs.Billing.{closing, cycle_of}
use Rattle.card_events.specs.History.{anchor_of}
use Rattle.card_events.specs.SharedRows.{SharedRows}
use Rattle.card_events.specs.declared.anchor.Anchor.{Anchor}
use Rattle.card_events.specs.declared.post.Post.{Post}
use Rattle.card_events.proofs.Cycles.{closing_grows}
use Rattle.card_model.specs.Books.{Book}
use Rattle.card_model.specs.Cycles.{Cycle}
use Rattle.card_model.specs.Folds.{book, book_after, cycle_at}
use Rattle.card_model.specs.Machine.{accepted, kept_as}
use Rattle.card_model.specs.Unread.{is_unread}
use Rattle.card_model.specs.declared.entry.Entry.{Entry}
use Rattle.card_model.proofs.Calendar.{cycles_are_of_the_calendar}
use Rattle.card_model.proofs.Cuts.{closings_are_cuts}
use Rattle.card_posts.specs.Draft.{IsFirstWith}
use Rattle.card_daily.specs.Given.{Given, IsSound, book_in, book_on, opened_in}
use Rattle.card_book.proofs.Closings.{closing-count}
use Rattle.card_book.specs.GoingOn.{Continues}
use Rattle.card_replay.proofs.Changed.{continues-first}
use Rattle.card_replay.proofs.Committing.{with-post, with_post}
use Rattle.card_past.proofs.CycleBefore.{closed-before, closed-then, cycle-read, cycle-there, later-cycle}
use Rattle.card_replay.proofs.Drafting.{first-with}
use Rattle.card_replay.proofs.EntryDays.{entries-grow}
use Rattle.card_replay.proofs.LaterRows.{some-posts}
use Rattle.card_past.proofs.Through.{closed-in, cycles-through, recorded, through}
use Rattle.card_replay.proofs.Unread.{continues-unread}
use Rattle.card_replay.specs.Replays.{IsReplay, MayReach, Replay, day_of, given_of, posted_of}
use Rattle.card_replay.specs.Standing.{AreStanding, IsForetold, IsStandingCount, MayCome, closing_before, lists_after}
use Rattle.card_replay.specs.Steps.{IsFirstBetween, first_in_cycle}

-- ---- closings
closing-up : (a : Anchor) (k d : ℕ) → closing a k ≤ closing a (k + d)
closing-up a k zero = let same : k + 0 ≡ k = omega arith in subst (λ n. closing a k ≤ closing a n) (sym same) (omega arith)
closing-up a k (suc d) =
    let same : k + suc d ≡ suc (k + d) = omega arith in
    let up = closing-up a k d in
    let next = closing_grows a (k + d) in
    subst (λ n. closing a k ≤ closing a n) (sym same) (omega (arith, up, next))

-- the one before a day, and before a later one
closing-later : (a : Anchor) (x y : ℕ) → x ≤ y → closing a (cycle_of a x - 1) ≤ closing a (cycle_of a y - 1)
closing-later a x y l =
    let more = later-cycle a x y l in
    let n = cycle_of a x - 1 in
    let m = cycle_of a y - 1 in
    let same : n + (m - n) ≡ m = omega (arith, more) in
    subst (λ k. closing a n ≤ closing a k) same (closing-up a n (m - n))

-- ---- books with the post
-- up to each day before the first that it changes, they are the same
goes-on : (shared : SharedRows) (today : ℕ) (key : List ℕ) (p : Post) (r : Replay) (from x : ℕ) → IsReplay shared r → IsFirstWith shared.holidays today p (posted_of r) from → x < from → x ≤ today
    → Continues (given_of r.lists shared) (given_of (lists_after today shared key p r) shared) (Some x)
goes-on shared today key p r from x h first l dated = by (is_unread p) refl
  where
    by : (u : Bool) → is_unread p ≡ u → Continues (given_of r.lists shared) (given_of (lists_after today shared key p r) shared) (Some x)
    by true u = continues-unread today shared r.lists key p x u dated
    by false u =
        subst (λ g. Continues (given_of r.lists shared) g (Some x)) (sym (with-post shared today key p r.lists u))
        (continues-first (given_of r.lists shared) (with_post r.lists key today p shared) (kept_as (length r.lists.posts + 1) key today p) from x (some-posts r.lists.posts h.sound.opening) refl refl refl
        (first-with shared today key p r from h first) l)

-- so the entries of a later one begin with those up to that day
front-stays : (old new : Given) (x day count : ℕ) → x ≤ day → Continues old new (Some x) → length (book_on old x).entries ≡ count → take count (book_on new day).entries ≡ (book_on old x).entries
front-stays old new x day count l goes counted =
    let more = entries-grow new x day l in
    let es : List Entry = (book_on old x).entries in
    let same : (book_on new x).entries ≡ es = ap (λ (b : Book). b.entries) (goes.books x x refl (omega arith)) in
    ap (take count) (more.1 ∙ ap (λ (l : List Entry). l ++ more.0) same) ∙ (ap (λ n. take n (es ++ more.0)) (sym counted) ∙ take-append_seam es more.0)

-- it is the first change of the lists too
first-between : (shared : SharedRows) (today : ℕ) (key : List ℕ) (p : Post) (r : Replay) (from : ℕ) → IsReplay shared r → IsFirstWith shared.holidays today p (posted_of r) from → IsFirstBetween shared r.lists (lists_after today shared key p r) from
unfolding accepted
first-between shared today key p r from h first = first-with shared today key p r from h first

-- ---- what stays
pub none-stands : (today : ℕ) (shared : SharedRows) (p : Post) (r : Replay) (count : ℕ) → count ≡ 0 → AreStanding count today shared p r
none-stands today shared p r count none = subst (λ n. AreStanding n today shared p r) (sym none) (record { within = omega arith; received = λ l. absurd (omega (arith, l)); stay = λ key day near. refl })

reaches : (f x reached day : ℕ) → x + 1 ≤ f → x ≤ reached → min f (reached + 1) ≤ day + 1 → x ≤ day
reaches f x reached day l m h = omega (arith, l, m, h)

-- up to a closing that comes before the first change, and isn't after the day reached
cycle-stands : (today : ℕ) (shared : SharedRows) (p : Post) (r : Replay) (from cycle : ℕ) (c : Cycle) → IsReplay shared r → MayReach today r → IsForetold shared today p r from
    → cycle_at cycle r.folding.past.track.cycles.items ≡ Some c → c.closing < from → c.closing + 1 ≤ first_in_cycle (anchor_of r.lists.posts) from → AreStanding c.entries today shared p r
cycle-stands today shared p r from cycle c h may told at before near =
    let g = given_of r.lists shared in
    let reached = r.folding.reached in
    let es = r.folding.past.track.entries.items in
    let entries : es ≡ (book_on g reached).entries = (recorded g r.folding.book r.folding.past.track h.folding.stands).entries ∙ ap (λ (b : Book). b.entries) (through g (day_of r.folding.book) reached h.folding.day) in
    let there : cycle_at cycle (book_on g reached).cycles ≡ Some c = ap (cycle_at cycle) (sym (cycles-through g r.folding.book r.folding.past.track reached h.folding.stands h.folding.day)) ∙ at in
    let front : take c.entries es ≡ (book_on g c.closing).entries = ap (take c.entries) entries ∙ (closings_are_cuts g.history g.issued g.shared reached cycle c there).entries in
    let counted : length (book_on g c.closing).entries ≡ c.entries = closing-count g reached cycle c there in
    let early : c.closing ≤ reached = closed-in g r.folding cycle c h.folding at in
    let later = may.later in
    record {
      within = omega (arith, length-take c.entries es, ap (λ (l : List Entry). length l) front, counted);
      received = λ l. told.may.received;
      stay = λ key day n.
          front-stays g (given_of (lists_after today shared key p r) shared) c.closing day c.entries
          (reaches (first_in_cycle (anchor_of r.lists.posts) from) c.closing reached day near early (n from (first-between shared today key p r from h told.first)))
          (goes-on shared today key p r from c.closing h told.first before (omega (arith, early, later))) counted ∙ sym front;
    }

pub least-closed : (shared : SharedRows) (r : Replay) (from cycle : ℕ) → IsReplay shared r → cycle ≡ cycle_of (anchor_of r.lists.posts) (min from r.folding.reached) - 1 → cycle ≤ length r.folding.past.track.cycles.items
least-closed shared r from cycle h number =
    let reached = r.folding.reached in
    let closed = closed-then (given_of r.lists shared) r.folding.book r.folding.past.track (min from reached) reached h.folding.stands h.folding.day (low from reached) in
    omega (arith, number, closed)
  where
    low : (x y : ℕ) → min x y ≤ y
    low x y = omega arith

pub stands : (today : ℕ) (shared : SharedRows) (p : Post) (r : Replay) (from cycle count : ℕ) → IsReplay shared r → MayReach today r → IsForetold shared today p r from
    → cycle ≡ cycle_of (anchor_of r.lists.posts) (min from r.folding.reached) - 1 → (cycle ≡ 0 → count ≡ 0)
    → ((d : Cycle) → 1 ≤ cycle → count ≡ (get_or r.folding.past.track.cycles.items (cycle - 1) d).entries) → AreStanding count today shared p r
stands today shared p r from cycle count h may told number none some = by (cycle-there cycles cycle (least-closed shared r from cycle h number))
  where
    cycles : List Cycle
    cycles = r.folding.past.track.cycles.items

    least : ℕ
    least = min from r.folding.reached

    low : (f n : ℕ) → min f n ≤ n
    low f n = omega arith

    left : (f n : ℕ) → min f n ≤ f
    left f n = omega arith

    by : (cycle ≡ 0) ⊎ ((c : Cycle) × (cycle_at cycle cycles ≡ Some c)) → AreStanding count today shared p r
    by (inl e) = none-stands today shared p r count (none e)
    by (inr (c, at)) =
        let a = anchor_of r.lists.posts in
        let g = given_of r.lists shared in
        let read = cycle-read cycles cycle c at in
        let same : count ≡ c.entries = some c read.0 ∙ ap (λ (x : Cycle). x.entries) read.1 in
        let there : cycle_at cycle (book_on g r.folding.reached).cycles ≡ Some c = ap (cycle_at cycle) (sym (cycles-through g r.folding.book r.folding.past.track r.folding.reached h.folding.stands h.folding.day)) ∙ at in
        let dated = h.dated in
        let days = cycles_are_of_the_calendar.days g.history g.issued g.shared r.folding.reached cycle c h.sound.opening (omega (arith, dated)) there in
        let on : c.closing ≡ closing a (cycle_of a least - 1) = days.closing ∙ ap (closing a) number in
        let one = read.0 in
        let before = closed-before a least h.sound.opening (let l = low from r.folding.reached in omega (arith, l, dated)) (omega (arith, one, number)) in
        let last = left from r.folding.reached in
        let up = closing-later a least from last in
        subst (λ n. AreStanding n today shared p r) (sym same) (cycle-stands today shared p r from cycle c h may told at (omega (arith, on, before, last)) (omega (arith, on, up)))

-- ---- how many there are
-- none before the opening
no-entries : (g : Given) (day : ℕ) → day + 1 ≡ opened_in g → length (book_on g day).entries ≡ 0
unfolding book book_after
no-entries g day e =
    let none : day + 1 - opened_in g ≡ 0 = omega (arith, e) in
    ap (λ n. length (book_in g n).entries) none

-- in the first cycle there is no closing
first-cycle : (g : Given) (cycle : ℕ) → IsSound g → cycle ≡ 0 → length (book_on g (closing (anchor_of g.history) cycle)).entries ≡ 0
unfolding closing
first-cycle g cycle sound e =
    let first = sound.opening.first in
    let before : closing (anchor_of g.history) cycle ≡ opened_in g - 1 = ap (closing (anchor_of g.history)) e in
    no-entries g (closing (anchor_of g.history) cycle) (omega (arith, before, first))

pub counted : (today : ℕ) (shared : SharedRows) (p : Post) (r : Replay) (from cycle count : ℕ) → IsReplay shared r → IsForetold shared today p r from
    → cycle ≡ cycle_of (anchor_of r.lists.posts) (min from r.folding.reached) - 1 → (cycle ≡ 0 → count ≡ 0)
    → ((d : Cycle) → 1 ≤ cycle → count ≡ (get_or r.folding.past.track.cycles.items (cycle - 1) d).entries) → IsStandingCount count today shared p r.lists r.folding.reached
counted today shared p r from cycle count h told number none some = record {
  some = λ may. record { from = from; first = λ key. first-between shared today key p r from h told.first; entries = by (cycle-there cycles cycle (least-closed shared r from cycle h number)) };
  none = λ never. absurd (never told.may);
}
  where
    cycles : List Cycle
    cycles = r.folding.past.track.cycles.items

    least : ℕ
    least = min from r.folding.reached

    at-number : (n : ℕ) → length (book_on (given_of r.lists shared) (closing (anchor_of r.lists.posts) cycle)).entries ≡ n → n ≡ length (book_on (given_of r.lists shared) (closing_before r.lists.posts least)).entries
    at-number n e = sym e ∙ ap (λ k. length (book_on (given_of r.lists shared) (closing (anchor_of r.lists.posts) k)).entries) number

    by : (cycle ≡ 0) ⊎ ((c : Cycle) × (cycle_at cycle cycles ≡ Some c)) → count ≡ length (book_on (given_of r.lists shared) (closing_before r.lists.posts least)).entries
    by (inl e) = at-number count (first-cycle (given_of r.lists shared) cycle h.sound e ∙ sym (none e))
    by (inr (c, at)) =
        let g = given_of r.lists shared in
        let read = cycle-read cycles cycle c at in
        let same : count ≡ c.entries = some c read.0 ∙ ap (λ (x : Cycle). x.entries) read.1 in
        let there : cycle_at cycle (book_on g r.folding.reached).cycles ≡ Some c = ap (cycle_at cycle) (sym (cycles-through g r.folding.book r.folding.past.track r.folding.reached h.folding.stands h.folding.day)) ∙ at in
        let dated = h.dated in
        let days = cycles_are_of_the_calendar.days g.history g.issued g.shared r.folding.reached cycle c h.sound.opening (omega (arith, dated)) there in
        at-number count (ap (λ day. length (book_on g day).entries) (sym days.closing) ∙ (closing-count g r.folding.reached cycle c there ∙ sym same))

-- where the post may not come
pub none-told : (today : ℕ) (shared : SharedRows) (p : Post) (r : Replay) (count : ℕ) → count ≡ 0 → (MayCome today p r.lists.posts → ⊥) → IsStandingCount count today shared p r.lists r.folding.reached
none-told today shared p r count none never = record { some = λ may. absurd (never may); none = λ e. none }
