-- A closed cycle of an account, and the Book that is taken back to its closing.
use Rattle.std.proofs.Common.{◌≡◌, ℕ, ◌-◌, ◌≤◌, List, length, ap, subst, arith, Option, Some, None}
use Rattle.std.specs.Prelude.{slice_get}
use Rattle.card_book.proofs.Sheets.{closed-through}
use Rattle.card_book.proofs.Told.{statement-is}
use Rattle.card_book.specs.Marks.{IsMark}
use Rattle.card_book.specs.Rewound.{AreFolded, AreFoldedBack, GoesBack, StandsBehind}
use Rattle.card_book.specs.Stands.{IsRequestDay, Summary}
use Rattle.card_book.specs.Statements.{IsClosedCycle}
use Rattle.card_daily.specs.Given.{Given, IsSound}
use Rattle.card_daily.specs.Stands.{IsBlank}
use Rattle.card_model.specs.Cycles.{Cycle}
use Rattle.card_model.specs.Folds.{cycle_at}
use Rattle.card_past.specs.Foldings.{HasClosings, Stands}
use Rattle.card_past.specs.declared.past.Past.{Past}

-- ---- a closed cycle
pub folded-now : (g : Given) (b : Summary) (p : Past) → IsSound g → IsRequestDay b.day → HasClosings g (Some b) p → AreFolded b p.track
folded-now g b p sound last h = record { given = g; sound = sound; last = λ day e. subst IsRequestDay e last; stands = h.stands }

pub closed-now : (g : Given) (b : Summary) (p : Past) (k : ℕ) (c : Cycle) → IsSound g → IsRequestDay b.day → HasClosings g (Some b) p → cycle_at k p.track.cycles.items ≡ Some c → IsClosedCycle g c
closed-now g b p k c sound last h at = closed-through g b.day k c sound last (statement-is g b p.track k c h.stands at)

-- ---- the Book at its closing, by the mark that was kept
pub stands-behind : (g : Given) (b : Summary) (p : Past) (k : ℕ) (c : Cycle) (since : Option ℕ) (back : Summary) → IsSound g → HasClosings g (Some b) p → cycle_at k p.track.cycles.items ≡ Some c
    → slice_get p.since.items (k - 1) ≡ Some since → GoesBack k b p.track since p.accrued.items back → back.day ≡ Some c.closing → StandsBehind g k c back p.track
stands-behind g b p k c since back sound h at kept goes dated =
    let mark : IsMark g k c since p.accrued.items = h.marks.each k c since at kept in
    record { there = at; day = dated; stands = λ cut is. goes g c cut sound h.stands at mark is }

pub folded-back : (g : Given) (b : Summary) (p : Past) (k : ℕ) (c : Cycle) (since : Option ℕ) (back : Summary) → IsSound g → IsRequestDay b.day → HasClosings g (Some b) p → cycle_at k p.track.cycles.items ≡ Some c
    → slice_get p.since.items (k - 1) ≡ Some since → GoesBack k b p.track since p.accrued.items back → back.day ≡ Some c.closing → AreFoldedBack k back p.track
unfolding folded-now
folded-back g b p k c since back sound last h at kept goes dated =
    record { later = b; folded = folded-now g b p sound last h; cycle = c; back = stands-behind g b p k c since back sound h at kept goes dated }

-- where one is closed there is a Book
pub book-there : (g : Given) (b : Option Summary) (p : Past) (k : ℕ) → HasClosings g b p → 1 ≤ k → k ≤ length p.track.cycles.items → b ≡ None → ⊥
book-there g b p k h first closed none =
    let blank : IsBlank p.track = subst (λ o. Stands g o p.track) none h.stands in
    let count : length p.track.cycles.items ≡ 0 = ap (λ (cs : List Cycle). length cs) blank.cycles in
    omega (arith, first, closed, count)

-- what is kept is that Book
pub kept-closings : (g : Given) (o : Option Summary) (b : Summary) (p : Past) → o ≡ Some b → HasClosings g o p → HasClosings g (Some b) p
kept-closings g o b p is h = subst (λ x. HasClosings g x p) is h
