-- What kept repayments bring is what the book's entries bring.
use Rattle.std.proofs.Common.{◌≡◌, ℕ, zero, suc, ◌+◌, ◌≤◌, Bool, true, false, cond, ◌&&◌, ◌||◌, not, List, [], ◌∷◌, map, refl, sym, ap, ◌∙◌, arith, eqb, ltb, leb, ℤ, pos, negsuc, ◌+ℤ◌, ◌-ℤ◌, ◌≤ℤ◌}
use Rattle.std.specs.List.{All, filter}
use Rattle.std.proofs.lemmas.Int.{ints}
use Rattle.std.proofs.lemmas.Bool.{ltb-true}
use Rattle.std.proofs.lemmas.Bool.Decides.{nat_tests}
use Rattle.std.proofs.lemmas.List.Elements.{All-head, All-tail, All-weaker}
use Rattle.std.proofs.lemmas.List.Sums.{sum_by-cons}
use Rattle.card_closing.specs.BookRows.{AreLowering, brought, is_brought, repayment_of, repayments}
use Rattle.card_closing.specs.Rows.{repaid_later}
use Rattle.card_closing.specs.declared.rows.Repayment.{Repayment}
use Rattle.card_model.specs.Cycles.{Seen}
use Rattle.card_model.specs.Effects.{size}
use Rattle.card_model.specs.Entries.{is_kind, sum_of}
use Rattle.card_model.specs.Interest.{is_repayment, repaid_after}
use Rattle.card_model.specs.Payments.{is_returned}
use Rattle.card_model.specs.declared.entry.Entry.{Entry}
use Rattle.card_model.specs.declared.entry.EntryKind.TheVariants as kind

-- ---- signs
none-low : pos 0 ≤ℤ pos 0
none-low = omega (arith, ints)

size-low : (z : ℤ) → z ≤ℤ pos 0 → pos (size z) ≡ pos 0 -ℤ z
size-low (pos zero) h = refl
size-low (pos (suc n)) h = absurd (omega (arith, ints))
size-low (negsuc n) h = omega (arith, ints)

sum-low : (x y : ℤ) → x ≤ℤ pos 0 → y ≤ℤ pos 0 → (x +ℤ y) ≤ℤ pos 0
sum-low x y h k = omega (arith, ints)

size-add : (x y : ℤ) → x ≤ℤ pos 0 → y ≤ℤ pos 0 → size (x +ℤ y) ≡ size x + size y
size-add x y h k = omega (arith, ints, size-low x h, size-low y k, size-low (x +ℤ y) (sum-low x y h k))

zero-more : (z : ℤ) → size (pos 0 +ℤ z) ≡ size z
zero-more z = let e : pos 0 +ℤ z ≡ z = omega (arith, ints) in ap size e

cond-low : (t : Bool) (z : ℤ) → (t ≡ true → z ≤ℤ pos 0) → cond t z (pos 0) ≤ℤ pos 0
cond-low true z h = h refl
cond-low false z h = none-low

-- entries that lower have a sum that lowers
sum_of-low : (p : Entry → Bool) (es : List Entry) → All (λ e. p e ≡ true → e.cents ≤ℤ pos 0) es → sum_of p es ≤ℤ pos 0
sum_of-low p [] h = none-low
sum_of-low p (e ∷ es) h =
    sum-low (cond (p e) e.cents (pos 0)) (sum_of p es) (cond-low (p e) e.cents (All-head (λ e. p e ≡ true → e.cents ≤ℤ pos 0) e es h)) (sum_of-low p es (All-tail (λ e. p e ≡ true → e.cents ≤ℤ pos 0) e es h))

-- ---- the tests
-- what the definition counts
abbrev counts : Seen → ℕ → ℕ → ℕ → Entry → Bool
counts seen s day due e = eqb e.segment s && is_repayment seen e && ltb day e.day && leb e.day due

kind-of : (c p n : Bool) → (c || (p && not n)) ≡ true → (c || p) ≡ true
kind-of true p n e = refl
kind-of false true n e = refl
kind-of false false n e = e

second : (a b c d : Bool) → (a && b && c && d) ≡ true → b ≡ true
second true true c d e = refl
second true false c d e = e
second false b c d e = cc

counted-low : (seen : Seen) (s day due : ℕ) (es : List Entry) → AreLowering es → All (λ e. counts seen s day due e ≡ true → e.cents ≤ℤ pos 0) es
counted-low seen s day due es h =
    All-weaker (λ e. (is_kind kind.Credit e.kind || is_kind kind.Payment e.kind) ≡ true → e.cents ≤ℤ pos 0) (λ e. counts seen s day due e ≡ true → e.cents ≤ℤ pos 0)
    (λ e low t. low (kind-of (is_kind kind.Credit e.kind) (is_kind kind.Payment e.kind) (is_returned seen.posts seen.day e.post) (second (eqb e.segment s) (is_repayment seen e) (ltb day e.day) (leb e.day due) t))) es h

-- an entry that counts was kept
same_test : (a r f l d : Bool) → (l ≡ true → f ≡ true) → (a && r && l && d) ≡ ((a && r && f) && (l && d))
same_test false r f l d h = refl
same_test true false f l d h = refl
same_test true true f true d h = rw (h refl) refl
same_test true true true false d h = refl
same_test true true false false d h = refl

one_more : (day due : ℕ) (e : Entry) (ks : List Entry) (k c : Bool) (z : ℤ) → (ltb day e.day && leb e.day due) ≡ c → cond (k && c) e.cents (pos 0) ≤ℤ pos 0 → z ≤ℤ pos 0
    → repaid_later (map repayment_of ks) day due ≡ size z → repaid_later (map repayment_of (cond k (e ∷ ks) ks)) day due ≡ size (cond (k && c) e.cents (pos 0) +ℤ z)
one_more day due e ks false c z q h m ih = ih ∙ sym (zero-more z)
one_more day due e ks true true z q h m ih =
    sum_by-cons (λ (r : Repayment). cond (ltb day r.day && leb r.day due) r.cents 0) (repayment_of e) (map repayment_of ks) ∙ rw (q, ih) (sym (size-add e.cents z h m))
one_more day due e ks true false z q h m ih =
    let e0 : 0 + size z ≡ size z = omega arith in
    sum_by-cons (λ (r : Repayment). cond (ltb day r.day && leb r.day due) r.cents 0) (repayment_of e) (map repayment_of ks) ∙ rw (q, ih) (e0 ∙ sym (zero-more z))

-- repayments from the first day of a cycle tell what was repaid after any of its days
pub repaid_is : (seen : Seen) (s first day due : ℕ) (es : List Entry) → first ≤ day → AreLowering es → repaid_later (repayments seen s first es) day due ≡ repaid_after seen es s day due
unfolding brought
repaid_is seen s first day due [] l h = refl
repaid_is seen s first day due (e ∷ es) l h =
    let k = is_brought (is_returned seen.posts seen.day) s first e in
    let c = ltb day e.day && leb e.day due in
    let P : Entry → Type 0 = λ e. (is_kind kind.Credit e.kind || is_kind kind.Payment e.kind) ≡ true → e.cents ≤ℤ pos 0 in
    let Q : Entry → Type 0 = λ e. counts seen s day due e ≡ true → e.cents ≤ℤ pos 0 in
    let low = counted-low seen s day due (e ∷ es) h in
    let test : counts seen s day due e ≡ (k && c) = same_test (eqb e.segment s) (is_repayment seen e) (leb first e.day) (ltb day e.day) (leb e.day due) (λ q. later first e.day (omega (arith, ltb-true day e.day q))) in
    let here : cond (k && c) e.cents (pos 0) ≤ℤ pos 0 = rw (← test) (cond-low (counts seen s day due e) e.cents (All-head Q e es low)) in
    one_more day due e (filter (is_brought (is_returned seen.posts seen.day) s first) es) k c (sum_of (counts seen s day due) es) refl here (sum_of-low (counts seen s day due) es (All-tail Q e es low)) (repaid_is seen s first day due es l (All-tail P e es h))
    ∙ rw test refl
  where
    later : (a b : ℕ) → a ≤ b → leb a b ≡ true
    later a b h = grind (arith, nat_tests)
