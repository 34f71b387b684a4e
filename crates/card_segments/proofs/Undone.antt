-- Parts that are put back right after they were taken leave the balances from before.
use Rattle.std.proofs.Common.{◌≡◌, ℕ, zero, suc, ◌+◌, ◌-◌, ◌<◌, ◌≤◌, Bool, true, false, cond, List, [], ◌∷◌, length, refl, sym, ap, ◌∙◌, subst, arith, eqb, get_or, ℤ, pos, negsuc, ◌+ℤ◌}
use Rattle.std.specs.Prelude.{min, ◌≤ℤ◌, neg_ℤ}
use Rattle.std.specs.List.{All}
use Rattle.std.proofs.lemmas.Int.{ints}
use Rattle.std.proofs.lemmas.Bool.{eqb-true, ne_eqb}
use Rattle.std.proofs.lemmas.List.{ext_get_or}
use Rattle.std.proofs.lemmas.List.Elements.{All-nil, All-cons, All-head, All-tail, All-append}
use Rattle.card_model.proofs.Signs.{parts_at}
use Rattle.card_model.specs.Effects.{parts_entries}
use Rattle.card_model.specs.Entries.{at_least_zero, balance, credit_in, debit, lowers, negated, posted}
use Rattle.card_model.specs.declared.entry.Entry.{Entry}
use Rattle.card_model.specs.declared.entry.Note.{Note}
use Rattle.card_model.proofs.EntryFacts.{balance-append, balance-debit}
use Rattle.card_model.proofs.Posted.{balance-entry_of, debit-known, entry_of-known, get_or-posted, length-posted}
use Rattle.card_segments.specs.Balances.{HaveSigns}
use Rattle.card_segments.specs.Parts.{AreCovered, AreOnSegments, AreParts, AreSettled, Ascend, IsOnSegment, back_entries, segment_back}

-- ---- entries are on segments that are there
abbrev On : ℕ → Entry → Type 0
On n e = e.segment < n

parts-known : (note : Note) (n : ℕ) (ps : List (ℕ × ℕ)) → AreOnSegments n ps → All (On n) (parts_entries note ps)
parts-known note n [] h = All-nil (On n)
parts-known note n (p ∷ ps) h =
    All-append (On n) (lowers note p.0 p.1) (parts_entries note ps) (entry_of-known note p.0 (negated p.1) n (All-head (IsOnSegment n) p ps h).1) (parts-known note n ps (All-tail (IsOnSegment n) p ps h))

back-known : (note : Note) (newest n : ℕ) (ps : List (ℕ × ℕ)) (bs : List ℤ) → newest < n → AreOnSegments n ps → All (On n) (back_entries note newest ps bs)
unfolding back_entries
back-known note newest n [] bs l h = All-nil (On n)
back-known note newest n (p ∷ ps) bs l h =
    let g = segment_back newest p.0 in
    All-append (On n) (debit note g p.1 (credit_in bs)) _ (debit-known note g p.1 (credit_in bs) n (omega arith) (by (eqb p.0 0) (All-head (IsOnSegment n) p ps h).1))
    (back-known note newest n ps (posted (debit note g p.1 (credit_in bs)) bs) l (All-tail (IsOnSegment n) p ps h))
  where
    by : (t : Bool) → p.0 < n → cond t newest p.0 < n
    by true m = l
    by false m = m

-- ---- what is taken
taken-balance : (note : Note) (s : ℕ) (ps : List (ℕ × ℕ)) → balance s (parts_entries note ps) ≡ neg_ℤ (pos (parts_at s ps))
taken-balance note s [] = refl
taken-balance note s (p ∷ ps) =
    balance-append s (lowers note p.0 p.1) (parts_entries note ps)
    ∙ rw (balance-entry_of note p.0 (negated p.1) s, taken-balance note s ps) (by (eqb p.0 s) p.1)
  where
    by : (t : Bool) (x : ℕ) → cond t (negated x) (pos 0) +ℤ neg_ℤ (pos (parts_at s ps)) ≡ neg_ℤ (pos (cond t x 0 + parts_at s ps))
    by true zero = omega (arith, ints)
    by true (suc x) = omega (arith, ints)
    by false x = omega (arith, ints)

taken-is : (note : Note) (bs : List ℤ) (ps : List (ℕ × ℕ)) (s : ℕ) → AreOnSegments (length bs) ps → get_or (posted (parts_entries note ps) bs) s (pos 0) ≡ get_or bs s (pos 0) +ℤ neg_ℤ (pos (parts_at s ps))
taken-is note bs ps s h = get_or-posted (parts_entries note ps) bs s (parts-known note (length bs) ps h) ∙ ap (λ z. get_or bs s (pos 0) +ℤ z) (taken-balance note s ps)

-- ---- what is put back on segments other than Credit
none_at-credit : (low : ℕ) (ps : List (ℕ × ℕ)) → 1 ≤ low → Ascend low ps → parts_at 0 ps ≡ 0
none_at-credit low [] l a = refl
none_at-credit low (p ∷ ps) l a =
    let k = a.0 in
    let other : eqb p.0 0 ≡ false = ne_eqb p.0 0 (λ e. omega arith) in
    rw (other, none_at-credit (p.0 + 1) ps (omega arith) a.1) refl

back-own : (newest s : ℕ) → 1 ≤ s → segment_back newest s ≡ s
back-own newest s l = let other : eqb s 0 ≡ false = ne_eqb s 0 (λ e. omega arith) in rw other refl

-- with nothing on Credit, each part is put back whole, and nothing comes on Credit
without-credit : (note : Note) (newest s low : ℕ) (ps : List (ℕ × ℕ)) (bs : List ℤ) → 1 ≤ low → Ascend low ps → AreOnSegments (length bs) ps → credit_in bs ≡ 0 → balance s (back_entries note newest ps bs) ≡ pos (parts_at s ps)
unfolding back_entries
without-credit note newest s low [] bs l a h z = refl
without-credit note newest s low (p ∷ ps) bs l a h z =
    let k = a.0 in
    let own = back-own newest p.0 (omega arith) in
    let here : p.0 < length bs = (All-head (IsOnSegment (length bs)) p ps h).1 in
    let es = debit note p.0 p.1 0 in
    let long = length-posted es bs in
    let none : balance 0 es ≡ pos 0 = balance-debit note p.0 p.1 0 0 ∙ rw (ne_eqb p.0 0 (λ e. omega arith)) (zeros p.1) in
    let same : get_or (posted es bs) 0 (pos 0) ≡ get_or bs 0 (pos 0) = get_or-posted es bs 0 (debit-known note p.0 p.1 0 (length bs) (omega arith) here) ∙ rw none (omega (arith, ints)) in
    let still : credit_in (posted es bs) ≡ 0 = ap (λ b. at_least_zero (neg_ℤ b)) same ∙ z in
    let rest = without-credit note newest s (p.0 + 1) ps (posted es bs) (omega arith) a.1 (subst (λ n. AreOnSegments n ps) (sym long) (All-tail (IsOnSegment (length bs)) p ps h)) still in
    rw (own, z)
    (balance-append s es (back_entries note newest ps (posted es bs)) ∙ rw (balance-debit note p.0 p.1 0 s, rest) (whole (eqb 0 s) (eqb p.0 s) p.1 (parts_at s ps)))
  where
    zeros : (x : ℕ) → pos (min x 0) +ℤ cond false (pos (x - 0)) (pos 0) ≡ pos 0
    zeros x = omega (arith, ints)

    whole : (t u : Bool) (x y : ℕ) → (cond t (pos (min x 0)) (pos 0) +ℤ cond u (pos (x - 0)) (pos 0)) +ℤ pos y ≡ pos (cond u x 0 + y)
    whole true true x y = omega (arith, ints)
    whole true false x y = omega (arith, ints)
    whole false true x y = omega (arith, ints)
    whole false false x y = omega (arith, ints)

-- parts of 0 cents move nothing
abbrev IsNothing : ℕ × ℕ → Type 0
IsNothing p = p.1 ≡ 0

nothing-back : (note : Note) (newest s : ℕ) (ps : List (ℕ × ℕ)) (bs : List ℤ) → All IsNothing ps → balance s (back_entries note newest ps bs) ≡ pos (parts_at s ps)
unfolding back_entries
nothing-back note newest s [] bs h = refl
nothing-back note newest s (p ∷ ps) bs h =
    let g = segment_back newest p.0 in
    let zero_cents : p.1 ≡ 0 = All-head IsNothing p ps h in
    let es = debit note g p.1 (credit_in bs) in
    balance-append s es (back_entries note newest ps (posted es bs))
    ∙ rw (balance-debit note g p.1 (credit_in bs) s, nothing-back note newest s ps (posted es bs) (All-tail IsNothing p ps h)) (none (eqb 0 s) (eqb g s) (eqb p.0 s) p.1 (credit_in bs) (parts_at s ps) zero_cents)
  where
    none : (t u v : Bool) (x c y : ℕ) → x ≡ 0 → (cond t (pos (min x c)) (pos 0) +ℤ cond u (pos (x - c)) (pos 0)) +ℤ pos y ≡ pos (cond v x 0 + y)
    none true true true x c y e = omega (arith, ints)
    none true true false x c y e = omega (arith, ints)
    none true false true x c y e = omega (arith, ints)
    none true false false x c y e = omega (arith, ints)
    none false true true x c y e = omega (arith, ints)
    none false true false x c y e = omega (arith, ints)
    none false false true x c y e = omega (arith, ints)
    none false false false x c y e = omega (arith, ints)

abbrev Covered : List ℤ → ℕ × ℕ → Type 0
Covered bs p = 1 ≤ p.0 → pos p.1 ≤ℤ get_or bs p.0 (pos 0)

all-nothing : (bs : List ℤ) (low n : ℕ) (ps : List (ℕ × ℕ)) → 1 ≤ low → Ascend low ps → AreOnSegments n ps → AreCovered bs ps → ((s : ℕ) → 2 ≤ s → get_or bs s (pos 0) ≤ℤ pos 0) → All IsNothing ps
all-nothing bs low n [] l a h c z = All-nil IsNothing
all-nothing bs low n (p ∷ ps) l a h c z =
    let k = a.0 in
    let two : 2 ≤ p.0 = high p.0 (omega arith) (All-head (IsOnSegment n) p ps h).0 in
    let cov = All-head (Covered bs) p ps c (omega arith) in
    let low' = z p.0 two in
    All-cons IsNothing p ps (least p.1 (get_or bs p.0 (pos 0)) cov low') (all-nothing bs (p.0 + 1) n ps (omega arith) a.1 (All-tail (IsOnSegment n) p ps h) (All-tail (Covered bs) p ps c) z)
  where
    high : (s : ℕ) → 1 ≤ s → (s ≡ 1 → ⊥) → 2 ≤ s
    high zero m q = absurd (omega arith)
    high (suc zero) m q = absurd (q refl)
    high (suc (suc s)) m q = omega arith

    least : (x : ℕ) (b : ℤ) → pos x ≤ℤ b → b ≤ℤ pos 0 → x ≡ 0
    least x b p q = omega (arith, ints, p, q)

-- parts that are none of Credit
others-back : (note : Note) (newest s low : ℕ) (ps : List (ℕ × ℕ)) (bs now : List ℤ) → 1 ≤ low → Ascend low ps → AreOnSegments (length now) ps → AreCovered bs ps → AreSettled bs → credit_in now ≡ credit_in bs
    → balance s (back_entries note newest ps now) ≡ pos (parts_at s ps)
others-back note newest s low ps bs now l a h c z e = by (credit_in bs) refl
  where
    by : (k : ℕ) → credit_in bs ≡ k → balance s (back_entries note newest ps now) ≡ pos (parts_at s ps)
    by zero q = without-credit note newest s low ps now l a h (e ∙ q)
    by (suc k) q = nothing-back note newest s ps now (all-nothing bs low (length now) ps l a h c (z (rw q (omega arith))))

deep : (n x : ℕ) (z : ℤ) → z ≡ pos (n + x) → at_least_zero z ≡ n + x
deep n x z e = ap at_least_zero e

size-of : (b : ℤ) → b ≤ℤ pos 0 → pos (at_least_zero (neg_ℤ b)) ≡ neg_ℤ b
size-of (pos zero) l = refl
size-of (pos (suc n)) l = absurd (omega (arith, ints))
size-of (negsuc n) l = refl

deeper_at : (b : ℤ) (x : ℕ) → b ≤ℤ pos 0 → at_least_zero (neg_ℤ (b +ℤ neg_ℤ (pos x))) ≡ at_least_zero (neg_ℤ b) + x
deeper_at b x l = deep (at_least_zero (neg_ℤ b)) x (neg_ℤ (b +ℤ neg_ℤ (pos x))) (omega (arith, ints, size-of b l))

-- the part of Credit comes back to it whole
credit_back : (note returned : Note) (newest s : ℕ) (p : ℕ × ℕ) (ps : List (ℕ × ℕ)) (bs now : List ℤ) → p.0 ≡ 0 → eqb p.0 0 ≡ true → now ≡ posted (parts_entries note (p ∷ ps)) bs → newest < length bs → HaveSigns bs → AreSettled bs
    → Ascend 0 (p ∷ ps) → AreOnSegments (length bs) (p ∷ ps) → AreCovered bs (p ∷ ps) → balance s (back_entries returned newest (p ∷ ps) now) ≡ pos (parts_at s (p ∷ ps))
unfolding back_entries
credit_back note returned newest s p ps bs now q e made n g z a h c =
    let long : length now ≡ length bs = ap length made ∙ length-posted (parts_entries note (p ∷ ps)) bs in
    let up : Ascend 1 ps = subst (λ k. Ascend (k + 1) ps) q a.1 in
    let none = none_at-credit 1 ps (omega arith) up in
    let taken : get_or now 0 (pos 0) ≡ get_or bs 0 (pos 0) +ℤ neg_ℤ (pos p.1) = ap (λ xs. get_or xs 0 (pos 0)) made ∙ (taken-is note bs (p ∷ ps) 0 h ∙ rw (e, none) (one_part (get_or bs 0 (pos 0)) p.1)) in
    let credit : credit_in now ≡ credit_in bs + p.1 = ap (λ b. at_least_zero (neg_ℤ b)) taken ∙ deeper (get_or bs 0 (pos 0)) p.1 g.credit in
    let es = debit returned newest p.1 (credit_in now) in
    let least : min p.1 (credit_in now) ≡ p.1 = omega (arith, credit) in
    let over : p.1 - credit_in now ≡ 0 = omega (arith, credit) in
    let moved : (k : ℕ) → balance k es ≡ cond (eqb 0 k) (pos p.1) (pos 0) = λ k. balance-debit returned newest p.1 (credit_in now) k ∙ rw (least, over) (only (eqb 0 k) (eqb newest k) p.1) in
    let known : newest < length now = rw long n in
    let back : get_or (posted es now) 0 (pos 0) ≡ get_or bs 0 (pos 0) = get_or-posted es now 0 (debit-known returned newest p.1 (credit_in now) (length now) (omega arith) known) ∙ rw (moved 0, taken) (sums (get_or bs 0 (pos 0)) p.1) in
    let on : AreOnSegments (length (posted es now)) ps = subst (λ k. AreOnSegments k ps) (sym (length-posted es now ∙ long)) (All-tail (IsOnSegment (length bs)) p ps h) in
    let rest = others-back returned newest s 1 ps bs (posted es now) (omega arith) up on (All-tail (Covered bs) p ps c) z (ap (λ b. at_least_zero (neg_ℤ b)) back) in
    rw e (balance-append s es (back_entries returned newest ps (posted es now)) ∙ rw (moved s, rest, q) (joined (eqb 0 s) p.1 (parts_at s ps)))
  where
    one_part : (b : ℤ) (x : ℕ) → b +ℤ neg_ℤ (pos (x + 0)) ≡ b +ℤ neg_ℤ (pos x)
    one_part b x = omega (arith, ints)

    deeper : (b : ℤ) (x : ℕ) → b ≤ℤ pos 0 → at_least_zero (neg_ℤ (b +ℤ neg_ℤ (pos x))) ≡ at_least_zero (neg_ℤ b) + x
    deeper b x l = deeper_at b x l

    only : (t u : Bool) (x : ℕ) → cond t (pos x) (pos 0) +ℤ cond u (pos 0) (pos 0) ≡ cond t (pos x) (pos 0)
    only true true x = omega (arith, ints)
    only true false x = omega (arith, ints)
    only false true x = refl
    only false false x = refl

    sums : (b : ℤ) (x : ℕ) → (b +ℤ neg_ℤ (pos x)) +ℤ pos x ≡ b
    sums b x = omega (arith, ints)

    joined : (t : Bool) (x y : ℕ) → cond t (pos x) (pos 0) +ℤ pos y ≡ pos (cond t x 0 + y)
    joined true x y = omega (arith, ints)
    joined false x y = omega (arith, ints)

-- ---- all parts
all-back : (note returned : Note) (newest s : ℕ) (ps : List (ℕ × ℕ)) (bs : List ℤ) → newest < length bs → HaveSigns bs → AreSettled bs → Ascend 0 ps → AreOnSegments (length bs) ps → AreCovered bs ps
    → balance s (back_entries returned newest ps (posted (parts_entries note ps) bs)) ≡ pos (parts_at s ps)
all-back note returned newest s [] bs n g z a h c = nothing-back returned newest s [] _ (All-nil IsNothing)
all-back note returned newest s (p ∷ ps) bs n g z a h c = by (eqb p.0 0) refl
  where
    now : List ℤ
    now = posted (parts_entries note (p ∷ ps)) bs

    long : length now ≡ length bs
    long = length-posted (parts_entries note (p ∷ ps)) bs

    by : (t : Bool) → eqb p.0 0 ≡ t → balance s (back_entries returned newest (p ∷ ps) now) ≡ pos (parts_at s (p ∷ ps))
    by true e = credit_back note returned newest s p ps bs now (eqb-true p.0 0 e) e refl n g z a h c
    by false e =
        let high : 1 ≤ p.0 = one p.0 e in
        let up : Ascend 1 (p ∷ ps) = (high, a.1) in
        let untouched : get_or now 0 (pos 0) ≡ get_or bs 0 (pos 0) = taken-is note bs (p ∷ ps) 0 h ∙ rw (none_at-credit 1 (p ∷ ps) (omega arith) up) (omega (arith, ints)) in
        others-back returned newest s 1 (p ∷ ps) bs now (omega arith) up (subst (λ k. AreOnSegments k (p ∷ ps)) (sym long) h) c z (ap (λ b. at_least_zero (neg_ℤ b)) untouched)
      where
        one : (k : ℕ) → eqb k 0 ≡ false → 1 ≤ k
        one zero q = cc
        one (suc k) q = omega arith

pub undone : (note returned : Note) (newest amount : ℕ) (bs : List ℤ) (ps : List (ℕ × ℕ)) → HaveSigns bs → AreSettled bs → newest < length bs → AreParts bs amount ps
    → posted (back_entries returned newest ps (posted (parts_entries note ps) bs)) (posted (parts_entries note ps) bs) ≡ bs
undone note returned newest amount bs ps g z n a =
    ext_get_or (pos 0) after bs (length-posted back now ∙ long) (λ i l. at i)
  where
    now : List ℤ
    now = posted (parts_entries note ps) bs

    long : length now ≡ length bs
    long = length-posted (parts_entries note ps) bs

    back : List Entry
    back = back_entries returned newest ps now

    after : List ℤ
    after = posted back now

    at : (i : ℕ) → get_or after i (pos 0) ≡ get_or bs i (pos 0)
    at i =
        get_or-posted back now i (subst (λ k. All (On k) back) (sym long) (back-known returned newest (length bs) ps now n a.on_segments))
        ∙ (rw (taken-is note bs ps i a.on_segments, all-back note returned newest i ps bs n g z a.ascending a.on_segments a.covered) (sums (get_or bs i (pos 0)) (parts_at i ps)))
      where
        sums : (b : ℤ) (x : ℕ) → (b +ℤ neg_ℤ (pos x)) +ℤ pos x ≡ b
        sums b x = omega (arith, ints)
