-- Parts that are taken or put back one after the other.
use Rattle.std.proofs.Common.{◌≡◌, ℕ, zero, suc, ◌+◌, ◌-◌, ◌<◌, ◌≤◌, Bool, true, false, cond, List, [], ◌∷◌, ◌++◌, length, refl, sym, ap, ◌∙◌, arith, eqb, get_or, ℤ, pos, ◌+ℤ◌}
use Rattle.std.specs.Prelude.{min, ◌≤ℤ◌}
use Rattle.std.proofs.lemmas.Int.{ints}
use Rattle.std.proofs.lemmas.Bool.{ne_eqb}
use Rattle.std.proofs.lemmas.List.Elements.{All-nil, All-cons, All-head, All-tail}
use Rattle.card_model.specs.Entries.{credit_in, debit, lowers, negated, posted}
use Rattle.card_model.specs.Limits.{balance_limit}
use Rattle.card_model.specs.declared.entry.Entry.{Entry}
use Rattle.card_model.specs.declared.entry.Note.{Note}
use Rattle.card_model.specs.declared.segment.Segment.{Segment}
use Rattle.card_model.proofs.EntryFacts.{balance-debit}
use Rattle.card_model.proofs.Posted.{balance-entry_of, debit-known, entry_of-known, get_or-posted, length-posted, posted-append}
use Rattle.card_segments.specs.Balances.{AreWithin, Balances, IsWithin, after_entries}
use Rattle.card_segments.specs.Parts.{AreCovered, AreOnSegments, Ascend, IsOnSegment, back_entries, parts_sum, segment_back}

abbrev pub limit : ℕ
limit = 10_000_000_000_000_000

-- balances are so small that the parts can still be moved
pub record HaveRoom (bs : List ℤ) (ps : List (ℕ × ℕ)) : Type 0 where
  pub sum : parts_sum ps ≤ balance_limit
  pub small : AreWithin (limit - parts_sum ps) bs
  pub on : AreOnSegments (length bs) ps

-- and their segments bear them
pub record ArePayable (bs : List ℤ) (ps : List (ℕ × ℕ)) : Type 0 where
  pub room : HaveRoom bs ps
  pub covered : AreCovered bs ps
  pub low : ℕ
  pub ascends : Ascend low ps

-- ---- one balance
moved_within : (n x : ℕ) (b m : ℤ) → IsWithin n b → IsWithin x m → IsWithin (n + x) (b +ℤ m)
moved_within n x b m w k = (omega (arith, ints, w.0, k.0), omega (arith, ints, w.1, k.1))

wider : (n m : ℕ) (b : ℤ) → n ≤ m → IsWithin n b → IsWithin m b
wider n m b l w = (omega (arith, ints, w.0), omega (arith, ints, w.1))

negated-within : (x : ℕ) → IsWithin x (negated x)
negated-within zero = (omega (arith, ints), omega (arith, ints))
negated-within (suc n) = (omega (arith, ints), omega (arith, ints))

cond-within : (t : Bool) (x : ℕ) (m : ℤ) → IsWithin x m → IsWithin x (cond t m (pos 0))
cond-within true x m w = w
cond-within false x m w = (omega (arith, ints), omega (arith, ints))

left_after : (x s : ℕ) → x + s ≤ balance_limit → (limit - (x + s)) + x ≤ limit - s
left_after x s l = omega arith

-- ---- a part that is taken
lower-is : (note : Note) (bs : List ℤ) (g x s : ℕ) → g < length bs → get_or (posted (lowers note g x) bs) s (pos 0) ≡ get_or bs s (pos 0) +ℤ cond (eqb g s) (negated x) (pos 0)
lower-is note bs g x s l = get_or-posted (lowers note g x) bs s (entry_of-known note g (negated x) (length bs) l) ∙ ap (λ z. get_or bs s (pos 0) +ℤ z) (balance-entry_of note g (negated x) s)

room-lower : (note : Note) (bs : List ℤ) (p : ℕ × ℕ) (ps : List (ℕ × ℕ)) → HaveRoom bs (p ∷ ps) → HaveRoom (posted (lowers note p.0 p.1) bs) ps
room-lower note bs p ps h =
    let sum = h.sum in
    let here = (All-head (IsOnSegment (length bs)) p ps h.on).1 in
    record {
      sum = omega arith;
      small = λ s. rw (lower-is note bs p.0 p.1 s here)
          (wider _ (limit - parts_sum ps) _ (left_after p.1 (parts_sum ps) sum) (moved_within (limit - (p.1 + parts_sum ps)) p.1 (get_or bs s (pos 0)) _ (h.small s) (cond-within (eqb p.0 s) p.1 (negated p.1) (negated-within p.1))));
      on = rw (length-posted (lowers note p.0 p.1) bs) (All-tail (IsOnSegment (length bs)) p ps h.on);
    }

abbrev Covered : List ℤ → ℕ × ℕ → Type 0
Covered bs p = 1 ≤ p.0 → pos p.1 ≤ℤ get_or bs p.0 (pos 0)

covered-later : (note : Note) (bs : List ℤ) (g x low : ℕ) (ps : List (ℕ × ℕ)) → g < length bs → g < low → Ascend low ps → AreCovered bs ps → AreCovered (posted (lowers note g x) bs) ps
covered-later note bs g x low [] l m a h = All-nil (Covered (posted (lowers note g x) bs))
covered-later note bs g x low (q ∷ qs) l m a h =
    let k = a.0 in
    let other : eqb g q.0 ≡ false = ne_eqb g q.0 (λ e. omega arith) in
    let stays : get_or (posted (lowers note g x) bs) q.0 (pos 0) ≡ get_or bs q.0 (pos 0) = lower-is note bs g x q.0 l ∙ rw other (omega (arith, ints)) in
    All-cons (Covered (posted (lowers note g x) bs)) q qs (λ one. rw stays (All-head (Covered bs) q qs h one)) (covered-later note bs g x (q.0 + 1) qs l (omega arith) a.1 (All-tail (Covered bs) q qs h))

pub payable-step : (note : Note) (bs : List ℤ) (p : ℕ × ℕ) (ps : List (ℕ × ℕ)) → ArePayable bs (p ∷ ps) → ArePayable (posted (lowers note p.0 p.1) bs) ps
payable-step note bs p ps h =
    let here = (All-head (IsOnSegment (length bs)) p ps h.room.on).1 in
    record {
      room = room-lower note bs p ps h.room;
      covered = covered-later note bs p.0 p.1 (p.0 + 1) ps here (omega arith) h.ascends.1 (All-tail (Covered bs) p ps h.covered);
      low = p.0 + 1;
      ascends = h.ascends.1;
    }

-- what a part needs to be taken or put back
pub record CanMove (bs : List ℤ) (p : ℕ × ℕ) : Type 0 where
  pub known : p.0 < length bs
  pub not_held : p.0 ≡ 1 → ⊥
  pub few : p.1 ≤ balance_limit
  pub small : AreWithin limit bs

pub can-move : (bs : List ℤ) (p : ℕ × ℕ) (ps : List (ℕ × ℕ)) → HaveRoom bs (p ∷ ps) → CanMove bs p
can-move bs p ps h =
    let sum = h.sum in
    let here = All-head (IsOnSegment (length bs)) p ps h.on in
    record {
      known = here.1;
      not_held = here.0;
      few = omega arith;
      small = λ s. wider (limit - (p.1 + parts_sum ps)) limit (get_or bs s (pos 0)) (omega arith) (h.small s);
    }

pub head-covered : (bs : List ℤ) (p : ℕ × ℕ) (ps : List (ℕ × ℕ)) → ArePayable bs (p ∷ ps) → 1 ≤ p.0 → pos p.1 ≤ℤ get_or bs p.0 (pos 0)
head-covered bs p ps h = All-head (Covered bs) p ps h.covered

pub room-start : (bs : List ℤ) (ps : List (ℕ × ℕ)) → AreOnSegments (length bs) ps → parts_sum ps ≤ balance_limit → AreWithin 9_000_000_000_000_000 bs → HaveRoom bs ps
room-start bs ps on sum small =
    record { sum = sum; small = λ s. wider 9_000_000_000_000_000 (limit - parts_sum ps) (get_or bs s (pos 0)) (omega arith) (small s); on = on }

-- ---- a part that is put back
raise-is : (note : Note) (bs : List ℤ) (g x s : ℕ) → g < length bs → get_or (posted (debit note g x (credit_in bs)) bs) s (pos 0)
    ≡ get_or bs s (pos 0) +ℤ (cond (eqb 0 s) (pos (min x (credit_in bs))) (pos 0) +ℤ cond (eqb g s) (pos (x - credit_in bs)) (pos 0))
raise-is note bs g x s l = get_or-posted (debit note g x (credit_in bs)) bs s (debit-known note g x (credit_in bs) (length bs) (omega arith) l) ∙ ap (λ z. get_or bs s (pos 0) +ℤ z) (balance-debit note g x (credit_in bs) s)

split-within : (t u : Bool) (x c : ℕ) → IsWithin x (cond t (pos (min x c)) (pos 0) +ℤ cond u (pos (x - c)) (pos 0))
split-within true true x c = (omega (arith, ints), omega (arith, ints))
split-within true false x c = (omega (arith, ints), omega (arith, ints))
split-within false true x c = (omega (arith, ints), omega (arith, ints))
split-within false false x c = (omega (arith, ints), omega (arith, ints))

pub room-raise : (note : Note) (newest : ℕ) (bs : List ℤ) (p : ℕ × ℕ) (ps : List (ℕ × ℕ)) → segment_back newest p.0 < length bs → HaveRoom bs (p ∷ ps) → HaveRoom (posted (debit note (segment_back newest p.0) p.1 (credit_in bs)) bs) ps
room-raise note newest bs p ps l h =
    let sum = h.sum in
    let g = segment_back newest p.0 in
    record {
      sum = omega arith;
      small = λ s. rw (raise-is note bs g p.1 s l)
          (wider _ (limit - parts_sum ps) _ (left_after p.1 (parts_sum ps) sum) (moved_within (limit - (p.1 + parts_sum ps)) p.1 (get_or bs s (pos 0)) _ (h.small s) (split-within (eqb 0 s) (eqb g s) p.1 (credit_in bs))));
      on = rw (length-posted (debit note g p.1 (credit_in bs)) bs) (All-tail (IsOnSegment (length bs)) p ps h.on);
    }

pub back-known : (newest n : ℕ) (p : ℕ × ℕ) → newest < n → p.0 < n → segment_back newest p.0 < n
back-known newest n p l m = by (eqb p.0 0)
  where
    by : (t : Bool) → cond t newest p.0 < n
    by true = l
    by false = m

pub back-high : (newest : ℕ) (p : ℕ × ℕ) → 2 ≤ newest → (p.0 ≡ 1 → ⊥) → 2 ≤ segment_back newest p.0
back-high newest p l m = by (eqb p.0 0) refl
  where
    by : (t : Bool) → eqb p.0 0 ≡ t → 2 ≤ cond t newest p.0
    by true e = l
    by false e = two p.0 e m
      where
        two : (s : ℕ) → eqb s 0 ≡ false → (s ≡ 1 → ⊥) → 2 ≤ s
        two zero e m = cc
        two (suc zero) e m = absurd (m refl)
        two (suc (suc s)) e m = omega arith

-- ---- one part after the other
abbrev balances_of : List Segment → List ℤ → Balances
balances_of segments bs = record { segments = segments; balances = bs }

pub join-ok : (ds es : List Entry) (s t r : Balances) → t ≡ after_entries ds s → after_entries (ds ++ es) s ≡ r → after_entries es t ≡ r
join-ok ds es s t r e f = ap (after_entries es) e ∙ (ap (λ (bs : List ℤ). balances_of s.segments bs) (sym (posted-append ds es s.balances)) ∙ f)

pub join-entries : (xs ds es ns r : List Entry) → ns ≡ xs ++ ds → xs ++ (ds ++ es) ≡ r → ns ++ es ≡ r
join-entries xs ds es ns r e f = ap (λ ys. ys ++ es) e ∙ (assoc xs ds es ∙ f)
  where
    assoc : (us vs ws : List Entry) → (us ++ vs) ++ ws ≡ us ++ (vs ++ ws)
    assoc [] vs ws = refl
    assoc (u ∷ us) vs ws = ap (λ ys. u ∷ ys) (assoc us vs ws)

pub back-ok : (note : Note) (newest : ℕ) (p : ℕ × ℕ) (ps : List (ℕ × ℕ)) (s t r : Balances) → t ≡ after_entries (debit note (segment_back newest p.0) p.1 (credit_in s.balances)) s
    → after_entries (back_entries note newest (p ∷ ps) s.balances) s ≡ r → after_entries (back_entries note newest ps t.balances) t ≡ r
unfolding back_entries
back-ok note newest p ps s t r e f =
    let ds = debit note (segment_back newest p.0) p.1 (credit_in s.balances) in
    ap (λ (u : Balances). after_entries (back_entries note newest ps u.balances) u) e
    ∙ join-ok ds (back_entries note newest ps (posted ds s.balances)) s (after_entries ds s) r refl f

pub back-entries : (note : Note) (newest : ℕ) (p : ℕ × ℕ) (ps : List (ℕ × ℕ)) (s t : Balances) (out new r : List Entry) → t ≡ after_entries (debit note (segment_back newest p.0) p.1 (credit_in s.balances)) s
    → new ≡ out ++ debit note (segment_back newest p.0) p.1 (credit_in s.balances) → out ++ back_entries note newest (p ∷ ps) s.balances ≡ r → new ++ back_entries note newest ps t.balances ≡ r
unfolding back_entries
back-entries note newest p ps s t out new r e n f =
    let ds = debit note (segment_back newest p.0) p.1 (credit_in s.balances) in
    ap (λ (u : Balances). new ++ back_entries note newest ps u.balances) e
    ∙ join-entries out ds (back_entries note newest ps (posted ds s.balances)) new r n f
