-- How much a post, a day and a fold move.
use Rattle.std.proofs.Common.{◌≡◌, ℕ, ◌+◌, ◌≤◌, Bool, true, false, cond, ◌&&◌, List, [], ◌∷◌, ◌++◌, refl, ◌∙◌, subst, arith, ℤ, pos, negsuc, ◌+ℤ◌, Option, Some, None, eqb}
use Rattle.std.specs.Prelude.{◌≤ℤ◌}
use Rattle.std.specs.List.{filter, All}
use Rattle.std.proofs.lemmas.Int.{ints}
use Rattle.std.proofs.lemmas.Bool.{eqb-true}
use Rattle.std.proofs.lemmas.List.Elements.{All-head, All-tail}
use Rattle.std.specs.Prelude.{min}
use Rattle.card_bounds.specs.Bounds.{moved}
use Rattle.card_events.specs.History.{CorrectedPost}
use Rattle.card_events.specs.SharedRows.{FeeRow}
use Rattle.card_events.specs.declared.post.Post.{Post}
use Rattle.card_model.specs.Books.{Account, Book, all_segments, present_cycle}
use Rattle.card_model.specs.Caps.{capped_by}
use Rattle.card_model.specs.Cycles.{Cycle, IssuedRow, Seen, post_at}
use Rattle.card_model.specs.Effects.{charge_at, corrected_cents, credit_parts, disputed_cents, disputed_charge, disputed_segment, effect, is_charge, is_held_by, is_part_of, meant_for, moved_by, payment_at, payment_parts, returned, returned_fee}
use Rattle.card_model.specs.Entries.{at_least_zero, credit_balance, debit, owing, sum_of}
use Rattle.card_model.specs.Fees.{charged_fee, fee_by, fee_cents, fee_for, is_repeat, issued_fee, late_fee, later_row, penalty_fee, row_in_force, tier_amount, with_fee}
use Rattle.card_model.specs.Machine.{step}
use Rattle.card_model.specs.Payments.{met}
use Rattle.card_model.specs.Segments.{newest}
use Rattle.card_model.specs.declared.entry.Entry.{Entry}
use Rattle.card_model.specs.declared.fee.Fee.{Fee}
use Rattle.card_model.specs.declared.fee.FeeKind.{FeeKind}
use Rattle.card_events.specs.declared.post.Post.TheVariants as post
use Rattle.card_model.specs.declared.entry.EntryKind.TheVariants as kind
use Rattle.card_model.specs.declared.fee.FeeKind.TheVariants as fee
use Rattle.card_model.specs.declared.segment.Sort.TheVariants as sort
use Rattle.card_model.proofs.Caps.{above-is}
use Rattle.card_bounds.proofs.Bounded.{moved-append, limited, Piece, piece-debit, piece-parts, piece-holds, piece-releases}
use Rattle.card_model.proofs.PartsSum.{Rises, parts_sum, payment_parts-sum, credit_parts-sum}
use Rattle.card_bounds.proofs.Owned.{paid_by, held_by, paid_by-append, held_by-append, sizes, Clean, Split, put_back-adds, fee-clean, debit-other, parts-other, holds-other, releases-other, split-debit, split-parts, split-holds, split-releases}

-- what the fold of a day may rely on
pub record Limits (seen : Seen) : Type 0 where
  pub ids : Rises 5 seen.posts
  pub cents : All (λ s. s.cents ≤ 1000000000) seen.posts
  pub fees : All (λ r. (r.first ≤ 100000) × (r.repeat ≤ 100000)) seen.fees

-- no post paid or holds more than 10^9
pub record Owned (es : List Entry) : Type 0 where
  pub paid : (n : ℕ) → paid_by n es ≤ 1000000000
  pub held : (n : ℕ) → held_by n es ≤ℤ pos 1000000000

pub record Same (n : ℕ) (es new : List Entry) : Type 0 where
  pub paid : paid_by n new ≡ paid_by n es
  pub held : held_by n new ≡ held_by n es

-- a step of post m that moves at most so much
pub record Stepped (m budget : ℕ) (es new : List Entry) : Type 0 where
  pub moves : moved new ≤ moved es + budget
  pub paid : paid_by m new ≤ paid_by m es + 1000000000
  pub held : held_by m new ≤ℤ (held_by m es +ℤ pos 1000000000)
  pub other : (n : ℕ) → eqb m n ≡ false → Same n es new

stepped-same : (m budget : ℕ) (es : List Entry) → Stepped m budget es es
stepped-same m budget es = record { moves = omega arith; paid = omega arith; held = omega (arith, ints); other = λ n e. record { paid = refl; held = refl } }

pub clean-same : (n : ℕ) (es xs : List Entry) → Clean n xs → Same n es (es ++ xs)
clean-same n es xs c = record { paid = let e = paid_by-append n es xs in omega (arith, c.paid); held = let e = held_by-append n es xs in omega (arith, ints, c.held) }

stepped-piece : (m k p h budget : ℕ) (es xs : List Entry) → Piece xs k → Split m p h xs → ((n : ℕ) → eqb m n ≡ false → Clean n xs) → k ≤ budget → p ≤ 1000000000 → h ≤ 1000000000 → Stepped m budget es (es ++ xs)
stepped-piece m k p h budget es xs piece split other lk lp lh = record {
  moves = let e = moved-append es xs in omega (arith, piece.moves);
  paid = let e = paid_by-append m es xs in omega (arith, split.paid);
  held = rw (held_by-append m es xs) (highs (held_by m es) (held_by m xs) h split.held lh);
  other = λ n e. clean-same n es xs (other n e);
}
  where
    highs : (y z : ℤ) (h : ℕ) → z ≤ℤ pos h → h ≤ 1000000000 → (y +ℤ z) ≤ℤ (y +ℤ pos 1000000000)
    highs y z h a b = omega (arith, ints)

-- ---- fees
abbrev Small : Option FeeRow → Type 0
Small None = Unit {0}
Small (Some r) = (r.first ≤ 100000) × (r.repeat ≤ 100000)

row-small : (rs : List FeeRow) → All (λ r. (r.first ≤ 100000) × (r.repeat ≤ 100000)) rs → Small (row_in_force rs)
row-small [] h = tt
row-small (r ∷ rs) h = by (row_in_force rs) (All-head (λ (r : FeeRow). (r.first ≤ 100000) × (r.repeat ≤ 100000)) r rs h) (row-small rs (All-tail (λ (r : FeeRow). (r.first ≤ 100000) × (r.repeat ≤ 100000)) r rs h))
  where
    pick : (t : Bool) (u : FeeRow) → (r.first ≤ 100000) × (r.repeat ≤ 100000) → (u.first ≤ 100000) × (u.repeat ≤ 100000) → Small (Some (cond t r u))
    pick true u g i = g
    pick false u g i = i

    by : (o : Option FeeRow) → (r.first ≤ 100000) × (r.repeat ≤ 100000) → Small o → Small (Some (later_row r o))
    by None g i = g
    by (Some u) g i = pick _ u g i

tier-small : (o : Option FeeRow) (again : Bool) → Small o → tier_amount o again ≤ 100000
tier-small None again h = omega arith
tier-small (Some r) true h = h.1
tier-small (Some r) false h = h.0

fee_for-small : (seen : Seen) (cs : List Cycle) (fs : List Fee) (n : ℕ) (k : FeeKind) (c : Cycle) → Limits seen → (f : Fee) → fee_for seen cs fs n k c ≡ Some f → fee_cents f ≤ 100000
unfolding fee_by
fee_for-small seen cs fs n k c l f h = by _ _ (small (tier_amount (row_in_force seen.fees) (is_repeat k n fs)) _ (tier-small (row_in_force seen.fees) (is_repeat k n fs) (row-small seen.fees l.fees))) h
  where
    small : (x y : ℕ) → x ≤ 100000 → min x y ≤ 100000
    small x y l = omega arith

    by : (t : Bool) (g : Fee) → fee_cents g ≤ 100000 → cond t None (Some g) ≡ Some f → fee_cents f ≤ 100000
    by true g e h = cc
    by false g e h = let same : g ≡ f = cc in rw (← same) e

charged-small : (issued : Option IssuedRow) (o : Option Fee) → ((f : Fee) → o ≡ Some f → fee_cents f ≤ 100000) → (g : Fee) → charged_fee issued o ≡ Some g → fee_cents g ≤ 100000
charged-small issued None h g e = cc
charged-small issued (Some f) h g e =
    let is = above-is (capped_by (issued_fee f.due_cycle) issued (fee_cents f)) f g e in
    rw is (limited (issued_fee f.due_cycle) issued (fee_cents f) 100000 (h f refl))

penalty-small : (issued : Option IssuedRow) (seen : Seen) (b : Book) (k : FeeKind) (c : Cycle) → Limits seen → (g : Fee) → penalty_fee issued seen b k c ≡ Some g → fee_cents g ≤ 100000
penalty-small issued seen b k c l g e = charged-small issued _ (fee_for-small seen b.cycles b.fees (present_cycle b) k c l) g e

pub returned-small : (issued : Option IssuedRow) (seen : Seen) (b : Book) (c : Option Cycle) → Limits seen → (g : Fee) → returned_fee issued seen b c ≡ Some g → fee_cents g ≤ 100000
returned-small issued seen b None l g e = cc
returned-small issued seen b (Some c) l g e = penalty-small issued seen b fee.Returned c l g e

pub late-small : (issued : Option IssuedRow) (seen : Seen) (b : Book) (c : Cycle) → Limits seen → (g : Fee) → late_fee issued seen b c ≡ Some g → fee_cents g ≤ 100000
late-small issued seen b c l g h = by (met seen c) h
  where
    by : (t : Bool) → cond t None (penalty_fee issued seen b fee.Late c) ≡ Some g → fee_cents g ≤ 100000
    by true e = cc
    by false e = penalty-small issued seen b fee.Late c l g e

pub record WithFee (es new : List Entry) : Type 0 where
  pub moves : moved new ≤ moved es + 100000
  pub same : (n : ℕ) → Same n es new

pub fee-step : (a : Account) (seen : Seen) (n : ℕ) (o : Option Fee) (b : Book) → ((f : Fee) → o ≡ Some f → fee_cents f ≤ 100000) → WithFee b.entries (with_fee a seen n o b).entries
fee-step a seen n None b h = record { moves = omega arith; same = λ n. record { paid = refl; held = refl } }
fee-step a seen n (Some f) b h =
    let g = newest sort.Purchase seen.day (all_segments a seen) in
    let xs = debit (record { day = seen.day; kind = kind.Fee; post = n }) g (fee_cents f) (credit_balance b.entries) in
    let piece = piece-debit seen.day n g (fee_cents f) (credit_balance b.entries) kind.Fee refl in
    record {
      moves = let e = moved-append b.entries xs in let l = h f refl in omega (arith, piece.moves);
      same = λ m. clean-same m b.entries xs (fee-clean m seen.day n g (fee_cents f) (credit_balance b.entries));
    }

-- ---- a post
charge-small : (n : ℕ) (ss : List CorrectedPost) → All (λ s. s.cents ≤ 1000000000) ss → corrected_cents (charge_at n ss) ≤ 1000000000
charge-small n [] h = omega arith
charge-small n (s ∷ ss) h = by (eqb s.number n && is_charge s.post) (All-head (λ (s : CorrectedPost). s.cents ≤ 1000000000) s ss h) (charge-small n ss (All-tail (λ (s : CorrectedPost). s.cents ≤ 1000000000) s ss h))
  where
    by : (t : Bool) → s.cents ≤ 1000000000 → corrected_cents (charge_at n ss) ≤ 1000000000 → corrected_cents (cond t (Some s) (charge_at n ss)) ≤ 1000000000
    by true l m = l
    by false l m = m

disputed-small : (claim x y : ℕ) → x ≤ 1000000000 → min claim (min x y) ≤ 1000000000
disputed-small claim x y l = omega arith

zero-small : (z : ℤ) → z ≤ℤ pos 1000000000 → at_least_zero z ≤ 1000000000
zero-small (pos n) h = omega (arith, ints)
zero-small (negsuc n) h = omega arith

moved_by-small : (n : ℕ) (es : List Entry) → held_by n es ≤ℤ pos 1000000000 → moved_by n es ≤ 1000000000
unfolding held_by
moved_by-small n es h = zero-small (sum_of (is_held_by n) es) h

sizes-small : (n : ℕ) (es : List Entry) → paid_by n es ≤ 1000000000 → sizes (filter (is_part_of n) es) ≤ 1000000000
unfolding paid_by
sizes-small n es h = h

return-step : (a : Account) (seen : Seen) (s : CorrectedPost) (target : ℕ) (o : Option Fee) (b : Book) → ((f : Fee) → o ≡ Some f → fee_cents f ≤ 100000) → Owned b.entries
    → Stepped s.number 2000100000 b.entries (with_fee a seen s.number o (returned a seen s.number target b)).entries
return-step a seen s target o b small owned =
    let back = returned a seen s.number target b in
    let ps = filter (is_part_of target) b.entries in
    let l = sizes-small target b.entries (owned.paid target) in
    let added = λ (n : ℕ). put_back-adds n seen.day s.number _ ps b.entries in
    let mine = added s.number in
    let charged = fee-step a seen s.number o back small in
    let same = charged.same s.number in
    record {
      moves = omega (arith, mine.moves, charged.moves);
      paid = omega (arith, mine.paid, same.paid);
      held = highs (held_by s.number b.entries) (held_by s.number back.entries) _ (sizes ps) mine.held same.held l;
      other = λ n e. let r = (added n).other e in let t = charged.same n in record { paid = t.paid ∙ r.0; held = t.held ∙ r.1 };
    }
  where
    highs : (x y z : ℤ) (p : ℕ) → y ≤ℤ (x +ℤ pos p) → z ≡ y → p ≤ 1000000000 → z ≤ℤ (x +ℤ pos 1000000000)
    highs x y z p h e l = omega (arith, ints)

pub effect-step : (issued : Option IssuedRow) (a : Account) (seen : Seen) (s : CorrectedPost) (p : Post) (b : Book) → Limits seen → s.cents ≤ 1000000000 → Owned b.entries → Stepped s.number 2000100000 b.entries (effect issued a seen s p b).entries
unfolding effect
effect-step issued a seen s (post.Charge d p n) b l c o =
    stepped-piece s.number s.cents 0 s.cents 2000100000 b.entries _ (piece-debit seen.day s.number _ s.cents _ kind.Charge refl) (split-debit s.number seen.day s.number _ s.cents _ kind.Charge) (λ n e. debit-other n seen.day s.number _ s.cents _ kind.Charge e) (omega arith) (omega arith) c
effect-step issued a seen s (post.Refund n) b l c o =
    stepped-piece s.number s.cents 0 s.cents 2000100000 b.entries _ (piece-debit seen.day s.number _ s.cents _ kind.Refund refl) (split-debit s.number seen.day s.number _ s.cents _ kind.Refund) (λ n e. debit-other n seen.day s.number _ s.cents _ kind.Refund e) (omega arith) (omega arith) c
effect-step issued a seen s (post.Payment d m y n) b l c o =
    let ps = payment_parts a seen s b in
    let few = payment_parts-sum a seen s b l.ids in
    stepped-piece s.number (parts_sum ps) (parts_sum ps) 0 2000100000 b.entries _ (piece-parts seen.day s.number kind.Payment refl ps) (split-parts s.number seen.day s.number kind.Payment ps) (λ n e. parts-other n seen.day s.number kind.Payment ps e) (omega arith) (omega arith) (omega arith)
effect-step issued a seen s (post.Credit d p n) b l c o =
    let ps = credit_parts a seen s p b in
    let few = credit_parts-sum a seen s p b l.ids in
    stepped-piece s.number (parts_sum ps) (parts_sum ps) 0 2000100000 b.entries _ (piece-parts seen.day s.number kind.Credit refl ps) (split-parts s.number seen.day s.number kind.Credit ps) (λ n e. parts-other n seen.day s.number kind.Credit ps e) (omega arith) (omega arith) (omega arith)
effect-step issued a seen s (post.Return d target) b l c o =
    return-step a seen s target (returned_fee issued seen b (meant_for b.cycles (payment_at target seen.posts))) b (returned-small issued seen b (meant_for b.cycles (payment_at target seen.posts)) l) o
effect-step issued a seen s (post.Dispute d target claim) b l c o =
    let h = disputed_cents a seen target claim b in
    let small : h ≤ 1000000000 = disputed-small claim (corrected_cents (charge_at target seen.posts)) (owing (disputed_segment a seen target) b.entries) (charge-small target seen.posts l.cents) in
    stepped-piece s.number (h + h) (h + 0) (0 + h) 2000100000 b.entries _ (piece-holds seen.day s.number (disputed_segment a seen target) h) (split-holds s.number seen.day s.number (disputed_segment a seen target) h) (λ n e. holds-other n seen.day s.number (disputed_segment a seen target) h e) (twice h small) (front h small) (back h small)
  where
    twice : (h : ℕ) → h ≤ 1000000000 → h + h ≤ 2000100000
    twice h l = omega arith

    front : (h : ℕ) → h ≤ 1000000000 → h + 0 ≤ 1000000000
    front h l = omega arith

    back : (h : ℕ) → h ≤ 1000000000 → 0 + h ≤ 1000000000
    back h l = omega arith
effect-step issued a seen s (post.Resolve d target n) b l c o =
    let h = moved_by target b.entries in
    let g = disputed_segment a seen (disputed_charge (post_at target seen.posts)) in
    let small : h ≤ 1000000000 = moved_by-small target b.entries (o.held target) in
    stepped-piece s.number (h + h) (h + 0) (0 + h) 2000100000 b.entries _ (piece-releases seen.day s.number g h (credit_balance b.entries)) (split-releases s.number seen.day s.number g h (credit_balance b.entries)) (λ n e. releases-other n seen.day s.number g h (credit_balance b.entries) e) (twice h small) (front h small) (back h small)
  where
    twice : (h : ℕ) → h ≤ 1000000000 → h + h ≤ 2000100000
    twice h l = omega arith

    front : (h : ℕ) → h ≤ 1000000000 → h + 0 ≤ 1000000000
    front h l = omega arith

    back : (h : ℕ) → h ≤ 1000000000 → 0 + h ≤ 1000000000
    back h l = omega arith
effect-step issued a seen s post.Penalty b l c o = stepped-same s.number 2000100000 b.entries
effect-step issued a seen s (post.Open d t) b l c o = stepped-same s.number 2000100000 b.entries
effect-step issued a seen s (post.OpenVariable d t) b l c o = stepped-same s.number 2000100000 b.entries
effect-step issued a seen s (post.Plan d k r e f) b l c o = stepped-same s.number 2000100000 b.entries
effect-step issued a seen s (post.Notice d y r e) b l c o = stepped-same s.number 2000100000 b.entries
effect-step issued a seen s (post.Lower d y r) b l c o = stepped-same s.number 2000100000 b.entries
effect-step issued a seen s (post.Review d f) b l c o = stepped-same s.number 2000100000 b.entries
effect-step issued a seen s (post.Ack d t) b l c o = stepped-same s.number 2000100000 b.entries
effect-step issued a seen s (post.AskRefund d) b l c o = stepped-same s.number 2000100000 b.entries
effect-step issued a seen s (post.Amend t d n) b l c o = stepped-same s.number 2000100000 b.entries
effect-step issued a seen s (post.Bill n) b l c o = stepped-same s.number 2000100000 b.entries

-- the next post finds the same bound
pub owned-after : (m budget : ℕ) (es new : List Entry) → Stepped m budget es new → Clean m es → Owned es → Owned new
owned-after m budget es new step clean owned = record {
  paid = λ n. paid n (eqb m n) refl;
  held = λ n. held n (eqb m n) refl;
}
  where
    paid : (n : ℕ) (t : Bool) → eqb m n ≡ t → paid_by n new ≤ 1000000000
    paid n true e = subst (λ k. paid_by k new ≤ 1000000000) (eqb-true m n e) (omega (arith, step.paid, clean.paid))
    paid n false e = let s = step.other n e in omega (arith, s.paid, owned.paid n)

    lows : (x y : ℤ) → y ≤ℤ (x +ℤ pos 1000000000) → x ≡ pos 0 → y ≤ℤ pos 1000000000
    lows x y a b = omega (arith, ints)

    held : (n : ℕ) (t : Bool) → eqb m n ≡ t → held_by n new ≤ℤ pos 1000000000
    held n true e = subst (λ k. held_by k new ≤ℤ pos 1000000000) (eqb-true m n e) (lows (held_by m es) (held_by m new) step.held clean.held)
    held n false e = let s = step.other n e in rw s.held (owned.held n)
