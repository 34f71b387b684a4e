-- From which day on the rates of an account stay as they are.
use Rattle.std.proofs.Common.{◌≡◌, ℕ, suc, ◌+◌, ◌<◌, ◌≤◌, Bool, true, false, ◌&&◌, not, leb, max, List, [], ◌∷◌, length, take, get_or, refl, sym, ap, ◌∙◌, subst, arith, Option, Some, None}
use Rattle.std.specs.Prelude.{IfSome}
use Rattle.std.specs.List.{All, Contains, list_any}
use Rattle.std.proofs.lemmas.Bool.{ne_eqb}
use Rattle.std.proofs.lemmas.Bool.Decides.{nat_tests}
use Rattle.std.proofs.lemmas.List.Elements.{All-contains, All-more, All-weaker}
use Rattle.card_model.specs.Breaks.{breaks_penalty, breaks_segment, is_on}
use Rattle.card_model.specs.Cuts.{penalties_at}
use Rattle.card_model.specs.Rates.{Lowering}
use Rattle.card_model.specs.Segments.{SegmentTerms, is_plan}
use Rattle.card_model.specs.declared.segment.Interval.{Interval}
use Rattle.card_rates.specs.Next.{changes}
use Rattle.card_rates.specs.RateBooks.{AreByNumber, Rates}
use Rattle.card_rates.specs.Settled.{AreKept, AreSettled, HasBegun, has_deferred}
use Rattle.card_rates.proofs.Earlier.{earlier-none}

-- what has begun by a day has begun by each later one
pub begun-later : (from day : ℕ) (g : SegmentTerms) → from ≤ day → HasBegun from g → HasBegun day g
begun-later from day g l h = record { vintage = h.vintage; endless = h.endless; begun = omega (arith, l, h.begun); borne = omega (arith, l, h.borne) }

-- one segment more, from the later of two days on
pub begun-more : (gs : List SegmentTerms) (i from next : ℕ) (g : SegmentTerms) → i < length gs → g ≡ get_or gs i g
    → All (HasBegun from) (take i gs) → HasBegun next g → All (HasBegun (max next from)) (take (i + 1) gs)
begun-more gs i from next g l is h k =
    let day = max next from in
    All-more (HasBegun day) gs i g l
    (All-weaker (HasBegun from) (HasBegun day) (λ x. begun-later from day x (omega arith)) (take i gs) h)
    (subst (HasBegun day) is (begun-later next day g (omega arith) k))

pub settled-later : (from day : ℕ) (gs : List SegmentTerms) (ls : List Lowering) (is : List Interval) → from ≤ day → AreSettled from gs ls is → AreSettled day gs ls is
settled-later from day gs ls is l h =
    record { unlowered = h.unlowered; unraised = h.unraised; begun = All-weaker (HasBegun from) (HasBegun day) (λ x. begun-later from day x l) gs h.begun }

-- ---- behind that day nothing changes
quiet-segment : (from x : ℕ) (g : SegmentTerms) → from < x → HasBegun from g → breaks_segment x g ≡ false
quiet-segment from x g l h =
    let begins = ne_eqb g.begins x (λ e. omega (arith, e, l, h.begun)) in
    let effective = ne_eqb g.effective x (λ e. omega (arith, e, l, h.borne)) in
    let ends : is_on x g.ends ≡ false = ap (is_on x) h.endless in
    rw (ends, begins, effective) refl

quiet-segments : (from x : ℕ) (gs : List SegmentTerms) → from < x → All (HasBegun from) gs → list_any (breaks_segment x) gs ≡ false
quiet-segments from x [] l h = refl
quiet-segments from x (g ∷ gs) l h =
    rw (quiet-segment from x g l (h 0 g (omega arith))) (quiet-segments from x gs l (λ k d m. h (suc k) d (omega (arith, m))))

pub quiet-behind : (from x : ℕ) (r : Rates) → from < x → AreSettled from r.segments r.lowerings r.penalties → changes r x ≡ false
quiet-behind from x r l h =
    let segments = quiet-segments from x r.segments l h.begun in
    let penalties : list_any (breaks_penalty x) r.penalties ≡ false = ap (list_any (breaks_penalty x)) h.unraised in
    rw (segments, penalties) refl

-- ---- a vintage bears its own rate from that day on
pub borne : (day : ℕ) (gs : List SegmentTerms) (ls : List Lowering) (is : List Interval) (g : SegmentTerms) → AreSettled day gs ls is → Contains gs g
    → (not (is_plan g) && leb g.effective day && leb g.begins day) ≡ true
borne day gs ls is g h c =
    let it = All-contains (HasBegun day) gs g h.begun c in
    let begins : leb g.begins day ≡ true = at g.begins it.begun in
    let effective : leb g.effective day ≡ true = at g.effective it.borne in
    rw (it.vintage, effective, begins) refl
  where
    at : (a : ℕ) → a ≤ day → leb a day ≡ true
    at a l = grind (arith, nat_tests)

-- ---- what a book of rates keeps of its lists
told : (P : ℕ → Type 0) (known : Option ℕ) → IfSome known P → (day : ℕ) → known ≡ Some day → P day
told P None h day e = cc
told P (Some x) h day e = let same : x ≡ day = cc in subst P same h

-- of lists read for it
pub kept-first : (known : Option ℕ) (deferred : Bool) (gs read some : List SegmentTerms) (ls lowers : List Lowering) (is raised : List Interval) → AreByNumber 2 gs
    → IfSome known (λ day. AreSettled day read lowers raised) → read ≡ gs → lowers ≡ ls → raised ≡ is → deferred ≡ has_deferred some → some ≡ gs
    → AreKept gs ls is known deferred
kept-first known deferred gs read some ls lowers is raised numbers h e f g d s = record {
  numbers = numbers;
  settled = λ day k. let it = told (λ x. AreSettled x read lowers raised) known h day k in
      record { unlowered = sym f ∙ it.unlowered; unraised = sym g ∙ it.unraised; begun = subst (All (HasBegun day)) e it.begun };
  plans = d ∙ ap has_deferred s;
}

-- of the same lists with the penalties of an earlier day
pub kept-earlier : (day : ℕ) (known : Option ℕ) (deferred : Bool) (gs copied : List SegmentTerms) (ls lowers : List Lowering) (is raised : List Interval) → AreKept gs ls is known deferred
    → copied ≡ gs → lowers ≡ ls → raised ≡ penalties_at day is → AreKept copied lowers raised known deferred
kept-earlier day known deferred gs copied ls lowers is raised h e f g = record {
  numbers = subst (AreByNumber 2) (sym e) h.numbers;
  settled = λ x k. let it = h.settled x k in
      record { unlowered = f ∙ it.unlowered; unraised = g ∙ (ap (penalties_at day) it.unraised ∙ earlier-none day); begun = subst (All (HasBegun x)) (sym e) it.begun };
  plans = h.plans ∙ ap has_deferred (sym e);
}
