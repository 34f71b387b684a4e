-- Payments counted over the slots of some days are those of the corrected list; and a count that ends at a limit.
use Rattle.std.proofs.Common.{◌≡◌, ℕ, zero, suc, ◌+◌, ◌-◌, ◌<◌, ◌≤◌, Bool, true, false, cond, not, ◌&&◌, nat_le, nat_lt, List, [], ◌∷◌, get_or, length, map, min, take, refl, sym, ap, ◌∙◌, arith}
use Rattle.std.specs.List.{sum_by}
use Rattle.std.specs.List.Sorted.{IsPartitionedBy}
use Rattle.std.proofs.lemmas.Bool.Decides.{nat_tests}
use Rattle.std.proofs.lemmas.List.{get_or_read_under}
use Rattle.std.proofs.lemmas.List.Elements.{All-weaker}
use Rattle.std.proofs.lemmas.List.Sums.{sum_by-cons}
use Rattle.card_events.specs.declared.anchor.Anchor.{Anchor}
use Rattle.card_events.specs.History.{CorrectedPost, at_number, corrected, slot_of}
use Rattle.card_events.specs.declared.kept.Kept.{Kept}
use Rattle.card_events.specs.declared.kept.Slot.{Slot}
use Rattle.card_fees.specs.Counting.{counts, is_payment_at, is_returned_until, reaches, read_counts, since, slots_sum, up_to}
use Rattle.card_fees.specs.declared.returning.Until.{Until}
use Rattle.card_fees.specs.declared.returning.Until.TheVariants as until
use Rattle.card_fees.proofs.Payments.{Stands, all-stand}
use Rattle.card_fees.proofs.Returned.{returned-corrected}
use Rattle.card_fees.proofs.Slots.{parted-by, parted-in_front, sum-filter, sum-in_order, sum-map, sum-same}
use Rattle.card_model.specs.Payments.{counted, is_between, is_payment, is_returned}
use Rattle.card_posts.specs.Order.{IsAscending}
use Rattle.card_posts.specs.Posted.{folding_order}

four : (A B C R S : Bool) (c : ℕ) → R ≡ S → cond B (cond C (cond (A && not R) c 0) 0) 0 ≡ cond (A && (B && C) && not S) c 0
four true true true R S c h = ap (λ r. cond (not r) c 0) h
four true true false R S c h = refl
four true false C R S c h = refl
four false true true R S c h = refl
four false true false R S c h = refl
four false false C R S c h = refl

pub slots-counted : (a : Anchor) (holidays : List ℕ) (history : List Kept) (from to : ℕ) → slots_sum (until.Day to) history (corrected a holidays history) (up_to to (since from (folding_order (corrected a holidays history)))) ≡ counted (corrected a holidays history) from to
unfolding counted
slots-counted a holidays history from to =
    sum-filter g (λ s. nat_le s.day to) (since from (folding_order xs))
    ∙ sum-filter (λ s. cond (nat_le s.day to) (g s) 0) (λ s. nat_le from s.day) (folding_order xs)
    ∙ sum-in_order (λ s. cond (nat_le from s.day) (cond (nat_le s.day to) (g s) 0) 0) (map slot_of xs)
    ∙ sum-map (λ s. cond (nat_le from s.day) (cond (nat_le s.day to) (g s) 0) 0) slot_of xs
    ∙ sum-same (λ p. cond (nat_le from p.day) (cond (nat_le p.day to) (g (slot_of p)) 0) 0) (λ p. cond (is_payment p.post && is_between from to p && not (is_returned xs to p.number)) p.cents 0) xs
    (All-weaker (Stands a holidays history) (λ p. cond (nat_le from p.day) (cond (nat_le p.day to) (g (slot_of p)) 0) 0 ≡ cond (is_payment p.post && is_between from to p && not (is_returned xs to p.number)) p.cents 0) each xs (all-stand a holidays history))
  where
    xs : List CorrectedPost
    xs = corrected a holidays history

    g : Slot → ℕ
    g s = counts (until.Day to) history (corrected a holidays history) s

    each : (p : CorrectedPost) → Stands a holidays history p → cond (nat_le from p.day) (cond (nat_le p.day to) (g (slot_of p)) 0) 0 ≡ cond (is_payment p.post && is_between from to p && not (is_returned xs to p.number)) p.cents 0
    each p s =
        let is : is_payment_at (at_number p.number history) ≡ is_payment p.post = ap is_payment_at s.found ∙ ap is_payment (sym s.same) in
        ap (λ b. cond (nat_le from p.day) (cond (nat_le p.day to) (cond (b && not (is_returned_until (until.Day to) history xs p.number)) p.cents 0) 0) 0) is
        ∙ four (is_payment p.post) (nat_le from p.day) (nat_le p.day to) (is_returned_until (until.Day to) history xs p.number) (is_returned xs to p.number) p.cents (returned-corrected (until.Day to) a holidays history p.number)

-- ---- a limit
-- what is counted is enough once a part of it is
pub enough : (limit part whole : ℕ) → nat_le limit part ≡ true → part ≤ whole → limit ≡ min limit whole
enough limit part whole e l = let low : limit ≤ part = grind (arith, nat_tests) in omega (arith, low, l)

-- a limit that nothing reaches
pub unlimited : (limit most counts x : ℕ) → counts ≡ min limit x → counts ≤ most → most < limit → counts ≡ x
unlimited limit most counts x e l m = omega (arith, e, l, m)

-- whether a minimum payment is reached, and what is left of it, is told by what is counted up to it
pub below-min : (limit x : ℕ) → nat_lt (min limit x) limit ≡ nat_lt x limit
below-min limit x = by (nat_lt x limit) refl
  where
    low : nat_lt x limit ≡ true → nat_lt (min limit x) limit ≡ true
    low e = let l : x < limit = grind (arith, nat_tests) in let m : min limit x ≡ x = omega (arith, l) in ap (λ n. nat_lt n limit) m ∙ e

    high : nat_lt x limit ≡ false → nat_lt (min limit x) limit ≡ false
    high e =
        let l : limit ≤ x = grind (arith, nat_tests) in
        let m : min limit x ≡ limit = omega (arith, l) in
        let itself : nat_lt limit limit ≡ false = grind (arith, nat_tests) in
        ap (λ n. nat_lt n limit) m ∙ itself

    by : (b : Bool) → nat_lt x limit ≡ b → nat_lt (min limit x) limit ≡ b
    by true e = low e
    by false e = high e

pub less-min : (limit x : ℕ) → limit - min limit x ≡ limit - x
less-min limit x = omega arith

le-true : (m n : ℕ) → m ≤ n → nat_le m n ≡ true
le-true m n l = grind (arith, nat_tests)

pub not-below : (limit x : ℕ) → not (nat_lt x limit) ≡ nat_le limit x
not-below limit x = grind (arith, nat_tests)

-- what payments and credits reach together is told by the payments counted up to it, and by the credits where these don't
pub one-reaches : (limit part paid credited : ℕ) → part ≡ min limit paid → nat_le limit part ≡ true → true ≡ nat_le limit (paid + credited)
one-reaches limit part paid credited e l =
    let low : limit ≤ part = grind (arith, nat_tests) in
    let high : limit ≤ paid + credited = omega (arith, e, low) in
    sym (le-true limit (paid + credited) high)

pub both-reach : (limit part more paid credited : ℕ) → part ≡ min limit paid → nat_le limit part ≡ false → more ≡ credited → nat_le limit (part + more) ≡ nat_le limit (paid + credited)
both-reach limit part more paid credited e l m =
    let high : part < limit = grind (arith, nat_tests) in
    let same : part ≡ paid = omega (arith, e, high) in
    let both : part + more ≡ paid + credited = omega (arith, same, m) in
    ap (nat_le limit) both

-- ---- slots that aren't read
pub read-parted : (u : Until) (slots : List Slot) → IsAscending slots → IsPartitionedBy (λ (s : Slot). reaches u s.day s.number) slots
read-parted (until.Day to) slots h = parted-by to slots h
read-parted (until.Post day number) slots h = parted-in_front day number slots h

none-sum : (g : Slot → ℕ) (slots : List Slot) → ((k : ℕ) (d : Slot) → k < length slots → g (get_or slots k d) ≡ 0) → 0 ≡ sum_by g slots
none-sum g [] h = refl
none-sum g (x ∷ xs) h =
    let one = sum_by-cons g x xs in
    let first : g x ≡ 0 = h 0 x (omega arith) in
    let rest = none-sum g xs (λ k d l. h (suc k) d (omega (arith, l))) in
    omega (arith, one, first, rest)

pub front-sum : (g : Slot → ℕ) (slots : List Slot) (i : ℕ) → ((k : ℕ) (d : Slot) → i ≤ k → k < length slots → g (get_or slots k d) ≡ 0) → sum_by g (take i slots) ≡ sum_by g slots
front-sum g [] zero h = refl
front-sum g [] (suc i) h = refl
front-sum g (x ∷ xs) zero h = none-sum g (x ∷ xs) (λ k d l. h k d (omega arith) l)
front-sum g (x ∷ xs) (suc i) h =
    sum_by-cons g x (take i xs) ∙ ap (λ n. g x + n) (front-sum g xs i (λ k d l m. h (suc k) d (omega (arith, l)) (omega (arith, m)))) ∙ sym (sum_by-cons g x xs)

-- behind a slot that isn't read none is
pub read-front : (u : Until) (history : List Kept) (posts : List CorrectedPost) (slots : List Slot) (i : ℕ) (s : Slot)
    → IsAscending slots → s ≡ get_or slots i s → reaches u s.day s.number ≡ false
    → sum_by (read_counts u history posts) (take i slots) ≡ sum_by (read_counts u history posts) slots
read-front u history posts slots i s order at is = front-sum (read_counts u history posts) slots i none
  where
    one : (x : Slot) (b : Bool) → reaches u x.day x.number ≡ b → (reaches u x.day x.number ≡ true → false ≡ true) → read_counts u history posts x ≡ 0
    one x true e other = let never : false ≡ true = other e in absurd (cc)
    one x false e other = ap (λ b. cond b (counts u history posts x) 0) e

    none : (k : ℕ) (d : Slot) → i ≤ k → k < length slots → read_counts u history posts (get_or slots k d) ≡ 0
    none k d low less =
        one (get_or slots k d) (reaches u (get_or slots k d).day (get_or slots k d).number) refl
        (λ e.
        let same : s ≡ get_or slots i d = get_or_read_under slots i (length slots) s d at (omega (arith, low, less)) refl in
        sym is ∙ (ap (λ (x : Slot). reaches u x.day x.number) same ∙ read-parted u slots order i k d low less e))

-- what is read before it is no more than the limit, where it isn't enough
pub read-below : (limit part whole : ℕ) → nat_le limit part ≡ false → part ≡ whole → part ≡ min limit whole
read-below limit part whole e same = let low : part < limit = grind (arith, nat_tests) in omega (arith, low, same)
