-- What always holds of balances holds after the entries of each call.
use Rattle.std.proofs.Common.{◌≡◌, ℕ, zero, suc, ◌-◌, ◌<◌, ◌≤◌, Bool, true, false, cond, List, [], ◌∷◌, ◌++◌, length, length-append, refl, sym, ◌∙◌, subst, arith, ℤ, pos, negsuc, ◌+ℤ◌, eqb, get_or}
use Rattle.std.specs.Prelude.{min, ◌≤ℤ◌, neg_ℤ}
use Rattle.std.specs.List.{All}
use Rattle.std.proofs.lemmas.Int.{ints}
use Rattle.std.proofs.lemmas.Bool.{eqb-true, ne_eqb}
use Rattle.card_model.specs.Entries.{at_least_zero, balance, credit_in, debit, holds, lowers, negated, posted, raises, releases}
use Rattle.card_model.specs.Limits.{balance_limit}
use Rattle.card_model.specs.declared.entry.Entry.{Entry}
use Rattle.card_model.specs.declared.entry.Note.{Note}
use Rattle.card_model.specs.declared.segment.Segment.{Segment}
use Rattle.card_model.proofs.EntryFacts.{balance-append, balance-debit}
use Rattle.card_model.proofs.Posted.{balance-entry_of, debit-known, entry_of-known, get_or-posted, length-posted}
use Rattle.card_segments.proofs.Known.{holds-known, releases-known}
use Rattle.card_segments.specs.Balances.{AreKept, AreWithin, HaveSigns, IsWithin}

-- ---- amounts
abbrev pub most : ℕ
most = balance_limit

-- an amount of a call
pub record IsAmount (cents : ℤ) : Type 0 where
  pub low : pos 0 ≤ℤ cents
  pub high : cents ≤ℤ pos most

few_cents : (cents : ℤ) → IsAmount cents → at_least_zero cents ≤ most
few_cents (pos n) a = omega (arith, ints, a.high)
few_cents (negsuc n) a = omega (arith, ints, a.low)

enough_cents : (cents b : ℤ) → IsAmount cents → cents ≤ℤ b → pos (at_least_zero cents) ≤ℤ b
enough_cents (pos n) b a h = h
enough_cents (negsuc n) b a h = absurd (omega (arith, ints, a.low))

negated-is : (x : ℕ) → negated x ≡ neg_ℤ (pos x)
negated-is zero = refl
negated-is (suc n) = refl

-- ---- one more segment, with nothing owed on it
at-more : (bs : List ℤ) (s : ℕ) → get_or (bs ++ pos 0 ∷ []) s (pos 0) ≡ get_or bs s (pos 0)
at-more [] zero = refl
at-more [] (suc s) = refl
at-more (b ∷ bs) zero = refl
at-more (b ∷ bs) (suc s) = at-more bs s

pub kept-more : (ss : List Segment) (bs : List ℤ) (s : Segment) → length ss < 64 → AreKept ss bs → AreKept (ss ++ s ∷ []) (bs ++ pos 0 ∷ [])
kept-more ss bs s few a =
    let segments = length-append ss (s ∷ []) in
    let balances = length-append bs (pos 0 ∷ []) in
    record {
      equal = omega (arith, segments, balances, a.equal);
      five = omega (arith, balances, a.five);
      few = omega (arith, balances, few, a.equal);
      small = λ k. rw (at-more bs k) (a.small k);
      signs = record {
        credit = rw (at-more bs 0) a.signs.credit;
        owing = λ k l. rw (at-more bs k) (a.signs.owing k l);
      };
    }

-- ---- one balance
-- the balance of a segment moves and keeps its range and sign
record Moves (s : ℕ) (b m : ℤ) : Type 0 where
  pub small : IsWithin 11_000_000_000_000_000 (b +ℤ m)
  pub credit : s ≡ 0 → (b +ℤ m) ≤ℤ pos 0
  pub owing : 1 ≤ s → pos 0 ≤ℤ (b +ℤ m)

-- entries keep what always holds
kept-posted : (es : List Entry) (ss : List Segment) (bs : List ℤ) → All (λ e. e.segment < length bs) es → AreKept ss bs → ((s : ℕ) → Moves s (get_or bs s (pos 0)) (balance s es)) → AreKept ss (posted es bs)
kept-posted es ss bs known a m =
    let long = length-posted es bs in
    record {
      equal = a.equal ∙ sym long;
      five = rw long a.five;
      few = rw long a.few;
      small = λ s. rw (get_or-posted es bs s known) (m s).small;
      signs = record {
        credit = rw (get_or-posted es bs 0 known) ((m 0).credit refl);
        owing = λ s l. rw (get_or-posted es bs s known) ((m s).owing l);
      };
    }

-- a segment that no entry is on
stays : (s : ℕ) (b : ℤ) (bs : List ℤ) → b ≡ get_or bs s (pos 0) → AreWithin 10_000_000_000_000_000 bs → HaveSigns bs → (m : ℤ) → m ≡ pos 0 → Moves s b m
stays s b bs e w h m z =
    record {
      small = rw (e, z) (omega (arith, ints, (w s).0), omega (arith, ints, (w s).1));
      credit = λ q. rw (e, z, q) (omega (arith, ints, h.credit));
      owing = λ l. rw (e, z) (omega (arith, ints, h.owing s l));
    }

-- Credit raised by what it can
credit_raised : (b : ℤ) (x : ℕ) → IsWithin 10_000_000_000_000_000 b → b ≤ℤ pos 0 → x ≤ most → Moves 0 b (pos (min x (at_least_zero (neg_ℤ b))))
credit_raised (pos n) x w h l = record { small = (grind (arith, ints), grind (arith, ints)); credit = λ q. grind (arith, ints); owing = λ q. absurd (omega arith) }
credit_raised (negsuc n) x w h l = record { small = (omega (arith, ints, w.0), omega (arith, ints, w.1)); credit = λ q. omega (arith, ints); owing = λ q. absurd (omega arith) }

-- another segment raised
raised : (s : ℕ) (b : ℤ) (x : ℕ) → 1 ≤ s → IsWithin 10_000_000_000_000_000 b → pos 0 ≤ℤ b → x ≤ most → Moves s b (pos x)
raised s b x k w h l = record { small = (omega (arith, ints, w.0), omega (arith, ints, w.1)); credit = λ q. absurd (omega arith); owing = λ q. omega (arith, ints, h) }

-- another segment lowered
lowered : (s : ℕ) (b : ℤ) (x : ℕ) → 1 ≤ s → IsWithin 10_000_000_000_000_000 b → pos x ≤ℤ b → x ≤ most → Moves s b (negated x)
lowered s b x k w h l = rw (negated-is x) (record { small = (omega (arith, ints, w.0), omega (arith, ints, w.1, h)); credit = λ q. absurd (omega arith); owing = λ q. omega (arith, ints, h) })

-- Credit lowered
credit_lowered : (b : ℤ) (x : ℕ) → IsWithin 10_000_000_000_000_000 b → b ≤ℤ pos 0 → x ≤ most → Moves 0 b (negated x)
credit_lowered b x w h l = rw (negated-is x) (record { small = (omega (arith, ints, w.0), omega (arith, ints, w.1)); credit = λ q. omega (arith, ints, h); owing = λ q. absurd (omega arith) })

plus_zero : (s : ℕ) (b m : ℤ) → Moves s b m → Moves s b (m +ℤ pos 0)
plus_zero s b m h = let e : m +ℤ pos 0 ≡ m = omega (arith, ints) in rw e h

zero_plus : (s : ℕ) (b m : ℤ) → Moves s b m → Moves s b (pos 0 +ℤ m)
zero_plus s b m h = let e : pos 0 +ℤ m ≡ m = omega (arith, ints) in rw e h

-- ---- each call
-- what holds before one
record Before (bs : List ℤ) (g x : ℕ) : Type 0 where
  pub few : x ≤ most
  pub small : AreWithin 10_000_000_000_000_000 bs
  pub signs : HaveSigns bs

same : (bs : List ℤ) (s g x : ℕ) → Before bs g x → (m : ℤ) → m ≡ pos 0 → Moves s (get_or bs s (pos 0)) m
same bs s g x h m z = stays s (get_or bs s (pos 0)) bs refl h.small h.signs m z

moves-debit : (note : Note) (bs : List ℤ) (g x : ℕ) → 2 ≤ g → Before bs g x → (s : ℕ) → Moves s (get_or bs s (pos 0)) (balance s (debit note g x (credit_in bs)))
moves-debit note bs g x k h s = rw (balance-debit note g x (credit_in bs) s) (by (eqb 0 s) (eqb g s) refl refl)
  where
    by : (p q : Bool) → eqb 0 s ≡ p → eqb g s ≡ q → Moves s (get_or bs s (pos 0)) (cond p (pos (min x (credit_in bs))) (pos 0) +ℤ cond q (pos (x - credit_in bs)) (pos 0))
    by true true e f =
        let a = eqb-true 0 s e in
        let b = eqb-true g s f in
        absurd (omega arith)
    by true false e f =
        subst (λ (s : ℕ). Moves s (get_or bs s (pos 0)) (pos (min x (credit_in bs)) +ℤ pos 0)) (eqb-true 0 s e)
        (plus_zero 0 (get_or bs 0 (pos 0)) (pos (min x (credit_in bs))) (credit_raised (get_or bs 0 (pos 0)) x (h.small 0) h.signs.credit h.few))
    by false true e f =
        let a = eqb-true g s f in
        let l : 1 ≤ s = omega arith in
        let few = h.few in
        zero_plus s (get_or bs s (pos 0)) (pos (x - credit_in bs)) (raised s (get_or bs s (pos 0)) (x - credit_in bs) l (h.small s) (h.signs.owing s l) (omega arith))
    by false false e f = same bs s g x h _ (omega (arith, ints))

moves-lowers : (note : Note) (bs : List ℤ) (g x : ℕ) → (1 ≤ g → pos x ≤ℤ get_or bs g (pos 0)) → Before bs g x → (s : ℕ) → Moves s (get_or bs s (pos 0)) (balance s (lowers note g x))
moves-lowers note bs g x enough h s = rw (balance-entry_of note g (negated x) s) (by (eqb g s) refl)
  where
    at : (s : ℕ) → (1 ≤ s → pos x ≤ℤ get_or bs s (pos 0)) → Moves s (get_or bs s (pos 0)) (negated x)
    at zero m = credit_lowered (get_or bs 0 (pos 0)) x (h.small 0) h.signs.credit h.few
    at (suc s) m = lowered (suc s) (get_or bs (suc s) (pos 0)) x (omega arith) (h.small (suc s)) (m (omega arith)) h.few

    by : (p : Bool) → eqb g s ≡ p → Moves s (get_or bs s (pos 0)) (cond p (negated x) (pos 0))
    by true e = subst (λ (s : ℕ). Moves s (get_or bs s (pos 0)) (negated x)) (eqb-true g s e) (at g enough)
    by false e = same bs s g x h _ refl

moves-holds : (note : Note) (bs : List ℤ) (g x : ℕ) → 2 ≤ g → pos x ≤ℤ get_or bs g (pos 0) → Before bs g x → (s : ℕ) → Moves s (get_or bs s (pos 0)) (balance s (holds note g x))
moves-holds note bs g x k enough h s =
    let first = balance-entry_of note g (negated x) s in
    let second = balance-entry_of note 1 (pos x) s in
    rw (balance-append s (lowers note g x) (raises note 1 x), first, second) (by (eqb g s) (eqb 1 s) refl refl)
  where
    by : (p q : Bool) → eqb g s ≡ p → eqb 1 s ≡ q → Moves s (get_or bs s (pos 0)) (cond p (negated x) (pos 0) +ℤ cond q (pos x) (pos 0))
    by true true e f =
        let a = eqb-true g s e in
        let b = eqb-true 1 s f in
        absurd (omega arith)
    by true false e f =
        subst (λ (s : ℕ). Moves s (get_or bs s (pos 0)) (negated x +ℤ pos 0)) (eqb-true g s e)
        (plus_zero g (get_or bs g (pos 0)) (negated x) (lowered g (get_or bs g (pos 0)) x (omega arith) (h.small g) enough h.few))
    by false true e f =
        let b = eqb-true 1 s f in
        let l : 1 ≤ s = omega arith in
        zero_plus s (get_or bs s (pos 0)) (pos x) (raised s (get_or bs s (pos 0)) x l (h.small s) (h.signs.owing s l) h.few)
    by false false e f = same bs s g x h _ refl

moves-releases : (note : Note) (bs : List ℤ) (g x : ℕ) → 2 ≤ g → pos x ≤ℤ get_or bs 1 (pos 0) → Before bs g x → (s : ℕ) → Moves s (get_or bs s (pos 0)) (balance s (releases note g x (credit_in bs)))
moves-releases note bs g x k enough h s =
    rw (balance-append s (lowers note 1 x) (debit note g x (credit_in bs)), balance-entry_of note 1 (negated x) s) (by (eqb 1 s) refl)
  where
    by : (p : Bool) → eqb 1 s ≡ p → Moves s (get_or bs s (pos 0)) (cond p (negated x) (pos 0) +ℤ balance s (debit note g x (credit_in bs)))
    by true e =
        let here : 1 ≡ s = eqb-true 1 s e in
        let none : balance s (debit note g x (credit_in bs)) ≡ pos 0 = held_stays s here in
        rw none
        (plus_zero s (get_or bs s (pos 0)) (negated x) (subst (λ (s : ℕ). Moves s (get_or bs s (pos 0)) (negated x)) here (lowered 1 (get_or bs 1 (pos 0)) x (omega arith) (h.small 1) enough h.few)))
      where
        held_stays : (s : ℕ) → 1 ≡ s → balance s (debit note g x (credit_in bs)) ≡ pos 0
        held_stays s q =
            let zeroth : eqb 0 s ≡ false = ne_eqb 0 s (λ e. omega arith) in
            let other : eqb g s ≡ false = ne_eqb g s (λ e. omega arith) in
            balance-debit note g x (credit_in bs) s ∙ rw (zeroth, other) refl
    by false e = zero_plus s (get_or bs s (pos 0)) (balance s (debit note g x (credit_in bs))) (moves-debit note bs g x k h s)

before : (ss : List Segment) (bs : List ℤ) (g : ℕ) (cents : ℤ) → IsAmount cents → AreWithin 10_000_000_000_000_000 bs → AreKept ss bs → Before bs g (at_least_zero cents)
before ss bs g cents a w k = record { few = few_cents cents a; small = w; signs = k.signs }

pub kept-debit : (note : Note) (g : ℕ) (cents : ℤ) (ss : List Segment) (bs : List ℤ) → 2 ≤ g → g < length bs → IsAmount cents → AreWithin 10_000_000_000_000_000 bs → AreKept ss bs
    → AreKept ss (posted (debit note g (at_least_zero cents) (credit_in bs)) bs)
kept-debit note g cents ss bs l known a w k =
    kept-posted (debit note g (at_least_zero cents) (credit_in bs)) ss bs (debit-known note g (at_least_zero cents) (credit_in bs) (length bs) (omega arith) known) k
    (moves-debit note bs g (at_least_zero cents) l (before ss bs g cents a w k))

pub kept-lowers : (note : Note) (g : ℕ) (cents : ℤ) (ss : List Segment) (bs : List ℤ) → (1 ≤ g → cents ≤ℤ get_or bs g (pos 0)) → g < length bs → IsAmount cents → AreWithin 10_000_000_000_000_000 bs → AreKept ss bs
    → AreKept ss (posted (lowers note g (at_least_zero cents)) bs)
kept-lowers note g cents ss bs enough known a w k =
    kept-posted (lowers note g (at_least_zero cents)) ss bs (entry_of-known note g (negated (at_least_zero cents)) (length bs) known) k
    (moves-lowers note bs g (at_least_zero cents) (λ l. enough_cents cents (get_or bs g (pos 0)) a (enough l)) (before ss bs g cents a w k))

pub kept-holds : (note : Note) (g : ℕ) (cents : ℤ) (ss : List Segment) (bs : List ℤ) → 2 ≤ g → cents ≤ℤ get_or bs g (pos 0) → g < length bs → IsAmount cents → AreWithin 10_000_000_000_000_000 bs → AreKept ss bs
    → AreKept ss (posted (holds note g (at_least_zero cents)) bs)
kept-holds note g cents ss bs l enough known a w k =
    kept-posted (holds note g (at_least_zero cents)) ss bs (holds-known note g (at_least_zero cents) (length bs) (omega arith) known) k
    (moves-holds note bs g (at_least_zero cents) l (enough_cents cents (get_or bs g (pos 0)) a enough) (before ss bs g cents a w k))

pub kept-releases : (note : Note) (g : ℕ) (cents : ℤ) (ss : List Segment) (bs : List ℤ) → 2 ≤ g → cents ≤ℤ get_or bs 1 (pos 0) → g < length bs → IsAmount cents → AreWithin 10_000_000_000_000_000 bs → AreKept ss bs
    → AreKept ss (posted (releases note g (at_least_zero cents) (credit_in bs)) bs)
kept-releases note g cents ss bs l enough known a w k =
    kept-posted (releases note g (at_least_zero cents) (credit_in bs)) ss bs (releases-known note g (at_least_zero cents) (credit_in bs) (length bs) (omega arith) known) k
    (moves-releases note bs g (at_least_zero cents) l (enough_cents cents (get_or bs 1 (pos 0)) a enough) (before ss bs g cents a w k))
