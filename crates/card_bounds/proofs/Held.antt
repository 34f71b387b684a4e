-- Held is never below 0 where no Dispute is resolved twice.
use Rattle.std.proofs.Common.{◌≡◌, ℕ, zero, suc, ◌+◌, ◌-◌, ◌<◌, ◌≤◌, Bool, true, false, cond, ◌&&◌, List, [], ◌∷◌, ◌++◌, refl, ap, ◌∙◌, subst, arith, ℤ, pos, negsuc, ◌+ℤ◌, Option, Some, None, eqb, get_or}
use Rattle.std.specs.Prelude.{neg_ℤ}
use Rattle.std.specs.List.{All, Contains, filter}
use Rattle.std.proofs.lemmas.Int.{ints}
use Rattle.std.proofs.lemmas.Bool.{eqb-true, ne_eqb, eq-eqb}
use Rattle.std.proofs.lemmas.List.Elements.{All-nil, All-cons, All-head, All-tail, All-append, All-weaker, All-filter, filter_passes}
use Rattle.std.specs.Prelude.{min}
use Rattle.card_events.specs.History.{CorrectedPost}
use Rattle.card_events.specs.declared.post.Post.{Post}
use Rattle.card_model.specs.Books.{Account, Book, all_segments, newest_purchase}
use Rattle.card_model.specs.Closing.{Posting, close, closing_interest, post_interest, post_one, posted_for}
use Rattle.card_model.specs.Cycles.{Cycle, IssuedRow, Seen, post_at}
use Rattle.card_model.specs.DueDates.{after_due_date, on_due}
use Rattle.card_model.specs.Effects.{after_posts, charge_at, credit_parts, disputed_cents, disputed_charge, disputed_segment, effect, is_part_of, meant_for, parts_entries, payment_at, payment_parts, put_back, returned, returned_fee, size}
use Rattle.card_model.specs.Entries.{at_least_zero, credit_balance, debit, entry_of, holds, is_kind, lowers, negated, raises, releases}
use Rattle.card_model.specs.Fees.{fee_cents, late_fee, with_fee}
use Rattle.card_model.specs.Rates.{own}
use Rattle.card_model.specs.Segments.{SegmentTerms, newest, segment_at}
use Rattle.card_model.specs.declared.entry.Entry.{Entry}
use Rattle.card_model.specs.declared.entry.EntryKind.{EntryKind}
use Rattle.card_model.specs.declared.entry.Note.{Note}
use Rattle.card_model.specs.declared.fee.Fee.{Fee}
use Rattle.card_events.specs.declared.post.Post.TheVariants as post
use Rattle.card_model.specs.declared.entry.EntryKind.TheVariants as kind
use Rattle.card_model.proofs.PartsSum.{Rises}
use Rattle.card_model.proofs.Sound.{segment_at-high, charge-high, highs, newest-high, payment-good, credit-good}
use Rattle.card_bounds.proofs.Owned.{held_by, held_by-append, Clean, holds-other, releases-other}
use Rattle.card_bounds.proofs.Steps.{Limits, Owned, effect-step, owned-after}
use Rattle.card_bounds.proofs.Totals.{Numbers, clean-still}
use Rattle.card_bounds.proofs.Holds.{Claimed, OnHeld, claims, released, moved_of, resolve_target, at_target}

-- ---- entries that leave Held alone
abbrev IsOff : Entry → Type 0
IsOff e = e.segment ≡ 1 → ⊥

held-off : (m : ℕ) (xs : List Entry) → All IsOff xs → held_by m xs ≡ pos 0
unfolding held_by
held-off m [] h = refl
held-off m (e ∷ xs) h =
    let other : eqb e.segment 1 ≡ false = ne_eqb e.segment 1 (All-head IsOff e xs h) in
    let rest = held-off m xs (All-tail IsOff e xs h) in
    rw (other, by (eqb e.post m) (is_kind kind.Hold e.kind)) (plus (held_by m xs) rest)
  where
    by : (t u : Bool) → cond (t && false && u) e.cents (pos 0) ≡ pos 0
    by true u = refl
    by false u = refl

    plus : (z : ℤ) → z ≡ pos 0 → pos 0 +ℤ z ≡ pos 0
    plus z h = omega (arith, ints)

off-place : (n : ℕ) (xs : List Entry) → All IsOff xs → All (OnHeld n) xs
off-place n xs h = All-weaker IsOff (OnHeld n) (λ e o s. absurd (o s)) xs h

one-entry : (p : Entry → Type 0) (day n s : ℕ) (k : EntryKind) (z : ℤ) → ((c : ℤ) → p (record { day = day; segment = s; kind = k; post = n; cents = c })) → All p (entry_of (record { day = day; kind = k; post = n }) s z)
one-entry p day n s k (pos zero) h = All-nil p
one-entry p day n s k (pos (suc a)) h = All-cons p _ [] (h (pos (suc a))) (All-nil p)
one-entry p day n s k (negsuc a) h = All-cons p _ [] (h (negsuc a)) (All-nil p)

high-off : (g : ℕ) → 2 ≤ g → g ≡ 1 → ⊥
high-off g l e = omega arith

debit-off : (day n g x credit : ℕ) (k : EntryKind) → 2 ≤ g → All IsOff (debit (record { day = day; kind = k; post = n }) g x credit)
unfolding debit
debit-off day n g x credit k l =
    All-append IsOff _ _ (one-entry IsOff day n 0 k (pos (min x credit)) (λ c e. absurd (omega arith))) (one-entry IsOff day n g k (pos (x - credit)) (λ c e. high-off g l e))

parts-off : (day n : ℕ) (k : EntryKind) (xs : List (ℕ × ℕ)) → All (λ x. x.0 ≡ 1 → ⊥) xs → All IsOff (parts_entries (record { day = day; kind = k; post = n }) xs)
parts-off day n k [] h = All-nil IsOff
parts-off day n k (x ∷ xs) h =
    All-append IsOff _ _ (one-entry IsOff day n x.0 k (negated x.1) (λ c e. (All-head (λ x. x.0 ≡ 1 → ⊥) x xs h) e)) (parts-off day n k xs (All-tail (λ x. x.0 ≡ 1 → ⊥) x xs h))

-- ---- claims after more entries
claims-more : (m : ℕ) (ps : List CorrectedPost) (es new : List Entry) → ((j : ℕ) → moved_of j es ≤ moved_of j new) → claims m ps es ≤ claims m ps new
claims-more m [] es new h = omega arith
claims-more m (p ∷ ps) es new h = sums (eqb p.number m) _ _ _ _ (by (resolve_target p.post)) (claims-more m ps es new h)
  where
    by : (o : Option ℕ) → at_target (λ j. moved_of j es) o ≤ at_target (λ j. moved_of j new) o
    by None = omega arith
    by (Some j) = h j

    sums : (t : Bool) (x y z w : ℕ) → x ≤ y → z ≤ w → cond t x 0 + z ≤ cond t y 0 + w
    sums true x y z w a b = omega arith
    sums false x y z w a b = omega arith

plus_none : (z w : ℤ) → w ≡ pos 0 → z +ℤ w ≡ z
plus_none z w h = omega (arith, ints)

still-held : (m : ℕ) (es xs : List Entry) → held_by m xs ≡ pos 0 → held_by m (es ++ xs) ≡ held_by m es
still-held m es xs h = held_by-append m es xs ∙ plus_none (held_by m es) (held_by m xs) h

off-claimed : (n : ℕ) (ps : List CorrectedPost) (es xs : List Entry) → All IsOff xs → Claimed n ps es → Claimed n ps (es ++ xs)
off-claimed n ps es xs o c = record {
  place = All-append (OnHeld n) es xs c.place (off-place n xs o);
  few = λ m.
      let same = still-held m es xs (held-off m xs o) in
      let more = claims-more m ps es (es ++ xs) (λ j. let e = ap at_least_zero (still-held j es xs (held-off j xs o)) in omega arith) in
      let less = ap (λ z. at_least_zero (neg_ℤ z)) same in
      chain _ _ _ _ less (c.few m) more;
}
  where
    chain : (w x y z : ℕ) → w ≡ x → x ≤ y → y ≤ z → w ≤ z
    chain w x y z e a b = omega arith

-- entries of a post that held nothing before, which claims what it releases
step-claimed : (n k : ℕ) (ps : List CorrectedPost) (es xs : List Entry) → held_by k es ≡ pos 0 → All (OnHeld n) xs → ((m : ℕ) → eqb k m ≡ false → held_by m xs ≡ pos 0)
    → (((j : ℕ) → moved_of j es ≤ moved_of j (es ++ xs)) → released k (es ++ xs) ≤ claims k ps (es ++ xs)) → Claimed n ps es → Claimed n ps (es ++ xs)
step-claimed n k ps es xs clean on other own c = record {
  place = All-append (OnHeld n) es xs c.place on;
  few = λ m. by m (eqb k m) refl;
}
  where
    none : (z : ℤ) → z ≡ pos 0 → at_least_zero z ≡ 0
    none z e = ap at_least_zero e

    more : (j : ℕ) (t : Bool) → eqb k j ≡ t → moved_of j es ≤ moved_of j (es ++ xs)
    more j true q = let e = subst (λ i. moved_of i es ≡ 0) (eqb-true k j q) (none (held_by k es) clean) in omega arith
    more j false q = let e = ap at_least_zero (still-held j es xs (other j q)) in omega arith

    chain : (w x y z : ℕ) → w ≡ x → x ≤ y → y ≤ z → w ≤ z
    chain w x y z e a b = omega arith

    by : (m : ℕ) (t : Bool) → eqb k m ≡ t → released m (es ++ xs) ≤ claims m ps (es ++ xs)
    by m true q = subst (λ i. released i (es ++ xs) ≤ claims i ps (es ++ xs)) (eqb-true k m q) (own (λ j. more j (eqb k j) refl))
    by m false q =
        let less = ap (λ z. at_least_zero (neg_ℤ z)) (still-held m es xs (other m q)) in
        chain _ _ _ _ less (c.few m) (claims-more m ps es (es ++ xs) (λ j. more j (eqb k j) refl))

-- ---- a Dispute and a Resolve
own-raises : (k day h : ℕ) → held_by k (raises (record { day = day; kind = kind.Hold; post = k }) 1 h) ≡ pos h
unfolding held_by
own-raises k day zero = refl
own-raises k day (suc h) = rw (eq-eqb k k refl) (omega (arith, ints))

own-lowers : (k day h : ℕ) → held_by k (lowers (record { day = day; kind = kind.Hold; post = k }) 1 h) ≡ negated h
unfolding held_by
own-lowers k day zero = refl
own-lowers k day (suc h) = rw (eq-eqb k k refl) (omega (arith, ints))

none-released : (z w : ℤ) (h : ℕ) → z ≡ pos 0 → w ≡ pos h → at_least_zero (neg_ℤ (z +ℤ w)) ≡ 0
none-released z w zero e f = rw (e, f) refl
none-released z w (suc h) e f = let s : z +ℤ w ≡ pos (suc h) = omega (arith, ints) in rw s refl

few-released : (z w : ℤ) (h : ℕ) → z ≡ pos 0 → w ≡ negated h → at_least_zero (neg_ℤ (z +ℤ w)) ≡ h
few-released z w zero e f = rw (e, f) refl
few-released z w (suc h) e f = let s : z +ℤ w ≡ negsuc h = omega (arith, ints) in rw s refl

hold-claimed : (n k day g h : ℕ) (ps : List CorrectedPost) (es : List Entry) → k < n → 2 ≤ g → held_by k es ≡ pos 0 → Claimed n ps es → Claimed n ps (es ++ holds (record { day = day; kind = kind.Hold; post = k }) g h)
hold-claimed n k day g h ps es l high clean c =
    let note : Note = record { day = day; kind = kind.Hold; post = k } in
    let off = one-entry IsOff day k g kind.Hold (negated h) (λ z e. high-off g high e) in
    let mine : held_by k (holds note g h) ≡ pos h = held_by-append k (lowers note g h) (raises note 1 h) ∙ (rw (held-off k (lowers note g h) off, own-raises k day h) (omega (arith, ints))) in
    step-claimed n k ps es (holds note g h) clean
    (All-append (OnHeld n) _ _ (off-place n _ off) (one-entry (OnHeld n) day k 1 kind.Hold (pos h) (λ z s. (refl, l))))
    (λ m q. (holds-other m day k g h q).held)
    (λ more. let e = ap (λ z. at_least_zero (neg_ℤ z)) (held_by-append k es (holds note g h)) ∙ none-released (held_by k es) (held_by k (holds note g h)) h clean mine in omega arith) c

-- a post of the list claims what its target holds
claims-here : (ps : List CorrectedPost) (p : CorrectedPost) (es : List Entry) → Contains ps p → at_target (λ j. moved_of j es) (resolve_target p.post) ≤ claims p.number ps es
claims-here [] p es (k, l, e) = absurd (omega arith)
claims-here (q ∷ ps) p es (zero, l, e) = subst (λ x. at_target (λ j. moved_of j es) (resolve_target x.post) ≤ claims x.number (q ∷ ps) es) e (rw (eq-eqb q.number q.number refl) (omega arith))
claims-here (q ∷ ps) p es (suc k, l, e) = more (claims-here ps p es (k, omega arith, e))
  where
    more : at_target (λ j. moved_of j es) (resolve_target p.post) ≤ claims p.number ps es → at_target (λ j. moved_of j es) (resolve_target p.post) ≤ claims p.number (q ∷ ps) es
    more h = omega arith

release-claimed : (n day g target credit : ℕ) (p : CorrectedPost) (ps : List CorrectedPost) (es : List Entry) → p.number < n → 2 ≤ g → resolve_target p.post ≡ Some target → Contains ps p → held_by p.number es ≡ pos 0 → Claimed n ps es
    → Claimed n ps (es ++ releases (record { day = day; kind = kind.Hold; post = p.number }) g (moved_of target es) credit)
release-claimed n day g target credit p ps es l high is among clean c =
    let k = p.number in
    let note : Note = record { day = day; kind = kind.Hold; post = k } in
    let x = moved_of target es in
    let xs = releases note g x credit in
    let off = debit-off day k g x credit kind.Hold high in
    let mine : held_by k xs ≡ negated x = held_by-append k (lowers note 1 x) (debit note g x credit) ∙ (rw (own-lowers k day x) (plus_none (negated x) (held_by k (debit note g x credit)) (held-off k (debit note g x credit) off))) in
    step-claimed n k ps es xs clean
    (All-append (OnHeld n) _ _ (one-entry (OnHeld n) day k 1 kind.Hold (negated x) (λ z s. (refl, l))) (off-place n _ off))
    (λ m q. (releases-other m day k g x credit q).held)
    (λ more.
    let e = ap (λ z. at_least_zero (neg_ℤ z)) (held_by-append k es xs) ∙ few-released (held_by k es) (held_by k xs) x clean mine in
    let claim = subst (λ o. at_target (λ j. moved_of j (es ++ xs)) o ≤ claims k ps (es ++ xs)) is (claims-here ps p (es ++ xs) among) in
    chain _ _ _ _ e (more target) claim) c
  where
    chain : (w x y z : ℕ) → w ≡ x → x ≤ y → y ≤ z → w ≤ z
    chain w x y z e a b = omega arith

-- ---- the steps of the fold
no-hold : (k : EntryKind) → is_kind kind.Payment k ≡ true → is_kind kind.Hold k ≡ true → ⊥
no-hold kind.Payment h g = cc
no-hold kind.Charge h g = cc
no-hold kind.Credit h g = cc
no-hold kind.Return h g = cc
no-hold kind.Refund h g = cc
no-hold kind.Fee h g = cc
no-hold kind.Interest h g = cc
no-hold kind.Hold h g = cc

both-true : (t u : Bool) → (t && u) ≡ true → u ≡ true
both-true true u h = h
both-true false u h = cc

put_back-claimed : (n day k newest target : ℕ) (ps : List CorrectedPost) (xs es : List Entry) → 2 ≤ newest → All (OnHeld n) xs → All (λ e. is_part_of target e ≡ true) xs → Claimed n ps es → Claimed n ps (put_back (record { day = day; kind = kind.Return; post = k }) newest xs es)
put_back-claimed n day k newest target ps [] es l on part c = c
put_back-claimed n day k newest target ps (x ∷ xs) es l on part c =
    let paid = both-true (eqb x.post target) (is_kind kind.Payment x.kind) (All-head (λ e. is_part_of target e ≡ true) x xs part) in
    let high : 2 ≤ cond (eqb x.segment 0) newest x.segment = by (eqb x.segment 0) refl (λ s. let o = (All-head (OnHeld n) x xs on) s in no-hold x.kind paid o.0) in
    put_back-claimed n day k newest target ps xs _ l (All-tail (OnHeld n) x xs on) (All-tail (λ e. is_part_of target e ≡ true) x xs part)
    (off-claimed n ps es _ (debit-off day k (cond (eqb x.segment 0) newest x.segment) (size x.cents) (credit_balance es) kind.Return high) c)
  where
    apart : (s : ℕ) → (s ≡ 0 → ⊥) → (s ≡ 1 → ⊥) → 2 ≤ s
    apart zero f g = absurd (f refl)
    apart (suc zero) f g = absurd (g refl)
    apart (suc (suc s)) f g = omega arith

    not_zero : eqb x.segment 0 ≡ false → x.segment ≡ 0 → ⊥
    not_zero q s = let e = eq-eqb x.segment 0 s in cc

    by : (t : Bool) → eqb x.segment 0 ≡ t → (x.segment ≡ 1 → ⊥) → 2 ≤ cond t newest x.segment
    by true q o = l
    by false q o = apart x.segment (not_zero q) o

fee-claimed : (n : ℕ) (ps : List CorrectedPost) (a : Account) (seen : Seen) (k : ℕ) (o : Option Fee) (b : Book) → Rises 5 seen.posts → Claimed n ps b.entries → Claimed n ps (with_fee a seen k o b).entries
fee-claimed n ps a seen k None b r c = c
fee-claimed n ps a seen k (Some f) b r c = off-claimed n ps b.entries _ (debit-off seen.day k (newest_purchase a seen) (fee_cents f) (credit_balance b.entries) kind.Fee (newest-high a seen r)) c

effect-claimed : (n : ℕ) (ps : List CorrectedPost) (issued : Option IssuedRow) (a : Account) (seen : Seen) (s : CorrectedPost) (p : Post) (b : Book) → s.post ≡ p → s.number < n → Contains ps s → Clean s.number b.entries → Rises 5 seen.posts
    → Claimed n ps b.entries → Claimed n ps (effect issued a seen s p b).entries
unfolding effect held_by
effect-claimed n ps issued a seen s (post.Charge d p x) b e l among clean r c =
    off-claimed n ps b.entries _ (debit-off seen.day s.number (segment_at p seen.day (all_segments a seen)) s.cents (credit_balance b.entries) kind.Charge (segment_at-high p seen.day (all_segments a seen) (highs a seen r))) c
effect-claimed n ps issued a seen s (post.Payment d m y x) b e l among clean r c =
    off-claimed n ps b.entries _ (parts-off seen.day s.number kind.Payment (payment_parts a seen s b) (payment-good a seen s b r).off) c
effect-claimed n ps issued a seen s (post.Credit d p x) b e l among clean r c =
    off-claimed n ps b.entries _ (parts-off seen.day s.number kind.Credit (credit_parts a seen s p b) (credit-good a seen s p b r).off) c
effect-claimed n ps issued a seen s (post.Return d target) b e l among clean r c =
    fee-claimed n ps a seen s.number (returned_fee issued seen b (meant_for b.cycles (payment_at target seen.posts))) (returned a seen s.number target b) r
    (put_back-claimed n seen.day s.number (newest_purchase a seen) target ps (filter (is_part_of target) b.entries) b.entries (newest-high a seen r) (All-filter (is_part_of target) (OnHeld n) b.entries c.place) (filter_passes (is_part_of target) b.entries) c)
effect-claimed n ps issued a seen s (post.Dispute d target claim) b e l among clean r c =
    hold-claimed n s.number seen.day (disputed_segment a seen target) (disputed_cents a seen target claim b) ps b.entries l (charge-high (all_segments a seen) (charge_at target seen.posts) (highs a seen r)) clean.held c
effect-claimed n ps issued a seen s (post.Resolve d target x) b e l among clean r c =
    let g = disputed_segment a seen (disputed_charge (post_at target seen.posts)) in
    release-claimed n seen.day g target (credit_balance b.entries) s ps b.entries l (charge-high (all_segments a seen) (charge_at (disputed_charge (post_at target seen.posts)) seen.posts) (highs a seen r)) (ap resolve_target e) among clean.held c
effect-claimed n ps issued a seen s (post.Refund x) b e l among clean r c =
    off-claimed n ps b.entries _ (debit-off seen.day s.number (newest_purchase a seen) s.cents (credit_balance b.entries) kind.Refund (newest-high a seen r)) c
effect-claimed n ps issued a seen s post.Penalty b e l among clean r c = c
effect-claimed n ps issued a seen s (post.Open d t) b e l among clean r c = c
effect-claimed n ps issued a seen s (post.OpenVariable d t) b e l among clean r c = c
effect-claimed n ps issued a seen s (post.Plan d k g f h) b e l among clean r c = c
effect-claimed n ps issued a seen s (post.Notice d y g f) b e l among clean r c = c
effect-claimed n ps issued a seen s (post.Lower d y g) b e l among clean r c = c
effect-claimed n ps issued a seen s (post.Review d f) b e l among clean r c = c
effect-claimed n ps issued a seen s (post.Ack d t) b e l among clean r c = c
effect-claimed n ps issued a seen s (post.AskRefund d) b e l among clean r c = c
effect-claimed n ps issued a seen s (post.Amend t d x) b e l among clean r c = c
effect-claimed n ps issued a seen s (post.Bill x) b e l among clean r c = c

-- what is known of some posts of a day, before they are folded
pub record Ahead (n low : ℕ) (ps ss : List CorrectedPost) (es : List Entry) : Type 0 where
  pub cents : All (λ (s : CorrectedPost). s.cents ≤ 1000000000) ss
  pub numbers : Numbers low ss
  pub below : All (λ (s : CorrectedPost). s.number < n) ss
  pub among : All (Contains ps) ss
  pub clean : All (λ (s : CorrectedPost). Clean s.number es) ss

numbers-above : (low : ℕ) (ss : List CorrectedPost) → Numbers low ss → All (λ (t : CorrectedPost). low ≤ t.number) ss
numbers-above low [] h = All-nil (λ (t : CorrectedPost). low ≤ t.number)
numbers-above low (s ∷ ss) h = All-cons (λ (t : CorrectedPost). low ≤ t.number) s ss h.0 (All-weaker (λ (t : CorrectedPost). suc s.number ≤ t.number) (λ (t : CorrectedPost). low ≤ t.number) (λ t l. let m = h.0 in omega arith) ss (numbers-above (suc s.number) ss h.1))

pub posts-claimed : (n low : ℕ) (ps : List CorrectedPost) (issued : Option IssuedRow) (a : Account) (seen : Seen) (ss : List CorrectedPost) (b : Book) → Limits seen → Ahead n low ps ss b.entries → Owned b.entries → Claimed n ps b.entries
    → Claimed n ps (after_posts issued a seen ss b).entries
unfolding after_posts
posts-claimed n low ps issued a seen [] b limits h owned c = c
posts-claimed n low ps issued a seen (s ∷ ss) b limits h owned c =
    let next = effect issued a seen s s.post b in
    let clean = All-head (λ (s : CorrectedPost). Clean s.number b.entries) s ss h.clean in
    let step = effect-step issued a seen s s.post b limits (All-head (λ (s : CorrectedPost). s.cents ≤ 1000000000) s ss h.cents) owned in
    let above = numbers-above (suc s.number) ss h.numbers.1 in
    let later = All-tail (λ (s : CorrectedPost). Clean s.number b.entries) s ss h.clean in
    let still : All (λ (t : CorrectedPost). Clean t.number next.entries) ss = λ k d w.
    clean-still (get_or ss k d).number b.entries next.entries (step.other (get_or ss k d).number (ne_eqb s.number (get_or ss k d).number (λ e. omega (arith, above k d w)))) (later k d w) in
    let ahead : Ahead n (suc s.number) ps ss next.entries = record {
      cents = All-tail (λ (s : CorrectedPost). s.cents ≤ 1000000000) s ss h.cents;
      numbers = h.numbers.1;
      below = All-tail (λ (s : CorrectedPost). s.number < n) s ss h.below;
      among = All-tail (Contains ps) s ss h.among;
      clean = still;
    } in
    posts-claimed n (suc s.number) ps issued a seen ss next limits ahead (owned-after s.number 2000100000 b.entries next.entries step clean owned)
    (effect-claimed n ps issued a seen s s.post b refl (All-head (λ (s : CorrectedPost). s.number < n) s ss h.below) (All-head (Contains ps) s ss h.among) clean limits.ids c)

pub due-claimed : (n : ℕ) (ps : List CorrectedPost) (issued : Option IssuedRow) (a : Account) (seen : Seen) (b : Book) (o : Option Cycle) → Rises 5 seen.posts → Claimed n ps b.entries → Claimed n ps (on_due issued a seen b o).entries
unfolding on_due
due-claimed n ps issued a seen b None r c = c
due-claimed n ps issued a seen b (Some d) r c = by (eqb seen.day (d.due + 1)) (fee-claimed n ps a seen 0 (late_fee issued seen b d) b r c)
  where
    by : (t : Bool) → Claimed n ps (after_due_date issued a seen b d).entries → Claimed n ps (cond t (after_due_date issued a seen b d) b).entries
    by true h = h
    by false h = c

interest-claimed : (n : ℕ) (ps : List CorrectedPost) (issued : Option IssuedRow) (seen : Seen) (amount : Book → SegmentTerms → ℕ) (gs : List SegmentTerms) (p : Posting) → All (λ (g : SegmentTerms). 2 ≤ g.id) gs → Claimed n ps p.book.entries
    → Claimed n ps (post_interest issued seen amount gs p).book.entries
unfolding post_interest
interest-claimed n ps issued seen amount [] p l c = c
interest-claimed n ps issued seen amount (g ∷ gs) p l c =
    interest-claimed n ps issued seen amount gs (post_one seen g (posted_for issued amount g p) p) (All-tail (λ (g : SegmentTerms). 2 ≤ g.id) g gs l)
    (off-claimed n ps p.book.entries _ (debit-off seen.day 0 g.id (posted_for issued amount g p) (credit_balance p.book.entries) kind.Interest (All-head (λ (g : SegmentTerms). 2 ≤ g.id) g gs l)) c)

pub close-claimed : (n : ℕ) (ps : List CorrectedPost) (issued : Option IssuedRow) (a : Account) (seen : Seen) (b : Book) → Rises 5 seen.posts → Claimed n ps b.entries → Claimed n ps (close issued a seen b).entries
unfolding close closing_interest
close-claimed n ps issued a seen b r c = interest-claimed n ps issued seen _ (all_segments a seen) _ (highs a seen r) (interest-claimed n ps issued seen _ (all_segments a seen) _ (highs a seen r) c)
