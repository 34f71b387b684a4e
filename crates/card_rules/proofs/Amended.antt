-- A post that is amended may have said any day and cents at first.
use Rattle.std.proofs.Common.{◌≡◌, ℕ, zero, suc, ◌+◌, ◌-◌, Bool, cond, List, [], ◌∷◌, ◌++◌, length, refl, sym, ap, ◌∙◌, arith, Option, Some, None}
use Rattle.std.specs.Prelude.{map, max, slice_get}
use Rattle.std.specs.List.{filter, sum_by}
use Rattle.std.specs.Option.{option_or}
use Rattle.std.proofs.lemmas.List.Sums.{sum_by-cons}
use Rattle.card_model.proofs.Unindexed.{sum-agree}
use Rattle.card_events.specs.Business.{credit_day, is_mail}
use Rattle.card_events.specs.declared.anchor.Anchor.{Anchor}
use Rattle.card_events.specs.History.{CorrectedPost, adds_segment, amend_of, amended_cents, amended_day, anchor_of, at_number, cents_of, charge_day, confirmed, confirms, corrected, corrected_from, corrected_post, dispute_day, dispute_names, disputes, effective_day, folded, is_folded, is_variable, last_amend, next_segment, opening_in, opens_variable, payment_day, terms_in, terms_of}
use Rattle.card_events.specs.declared.kept.Kept.{Kept}
use Rattle.card_events.specs.declared.post.Post.{Post}
use Rattle.card_events.specs.declared.post.Post.TheVariants as post
use Rattle.card_rules.proofs.CorrectedFacts.{corrected_facts_are_enough, filter-plain}
use Rattle.card_rules.specs.CorrectedFacts.{AmendedAsEntered, entered_with, plain, plainly, with_facts}

-- ---- what stays of a post

amend-stays : (own : ℕ × ℕ) (n : ℕ) (p : Post) → amend_of n (with_facts own p) ≡ amend_of n p
amend-stays own n (post.Charge d q c) = refl
amend-stays own n (post.Credit d q c) = refl
amend-stays own n (post.Payment d m y c) = refl
amend-stays own n (post.Return d t) = refl
amend-stays own n (post.Open d t) = refl
amend-stays own n (post.OpenVariable d t) = refl
amend-stays own n (post.Plan d k r e f) = refl
amend-stays own n (post.Notice d c r e) = refl
amend-stays own n (post.Lower d c r) = refl
amend-stays own n post.Penalty = refl
amend-stays own n (post.Review d f) = refl
amend-stays own n (post.Dispute d t c) = refl
amend-stays own n (post.Ack d t) = refl
amend-stays own n (post.Resolve d t c) = refl
amend-stays own n (post.AskRefund d) = refl
amend-stays own n (post.Refund c) = refl
amend-stays own n (post.Amend t d c) = refl
amend-stays own n (post.Bill c) = refl

disputes-stays : (own : ℕ × ℕ) (n : ℕ) (p : Post) → disputes n (with_facts own p) ≡ disputes n p
disputes-stays own n (post.Charge d q c) = refl
disputes-stays own n (post.Credit d q c) = refl
disputes-stays own n (post.Payment d m y c) = refl
disputes-stays own n (post.Return d t) = refl
disputes-stays own n (post.Open d t) = refl
disputes-stays own n (post.OpenVariable d t) = refl
disputes-stays own n (post.Plan d k r e f) = refl
disputes-stays own n (post.Notice d c r e) = refl
disputes-stays own n (post.Lower d c r) = refl
disputes-stays own n post.Penalty = refl
disputes-stays own n (post.Review d f) = refl
disputes-stays own n (post.Dispute d t c) = refl
disputes-stays own n (post.Ack d t) = refl
disputes-stays own n (post.Resolve d t c) = refl
disputes-stays own n (post.AskRefund d) = refl
disputes-stays own n (post.Refund c) = refl
disputes-stays own n (post.Amend t d c) = refl
disputes-stays own n (post.Bill c) = refl

adds-stays : (own : ℕ × ℕ) (p : Post) → adds_segment (with_facts own p) ≡ adds_segment p
adds-stays own (post.Charge d q c) = refl
adds-stays own (post.Credit d q c) = refl
adds-stays own (post.Payment d m y c) = refl
adds-stays own (post.Return d t) = refl
adds-stays own (post.Open d t) = refl
adds-stays own (post.OpenVariable d t) = refl
adds-stays own (post.Plan d k r e f) = refl
adds-stays own (post.Notice d c r e) = refl
adds-stays own (post.Lower d c r) = refl
adds-stays own post.Penalty = refl
adds-stays own (post.Review d f) = refl
adds-stays own (post.Dispute d t c) = refl
adds-stays own (post.Ack d t) = refl
adds-stays own (post.Resolve d t c) = refl
adds-stays own (post.AskRefund d) = refl
adds-stays own (post.Refund c) = refl
adds-stays own (post.Amend t d c) = refl
adds-stays own (post.Bill c) = refl

plain-stays : (own : ℕ × ℕ) (p : Post) → plain (with_facts own p) ≡ plain p
plain-stays own (post.Charge d q c) = refl
plain-stays own (post.Credit d q c) = refl
plain-stays own (post.Payment d m y c) = refl
plain-stays own (post.Return d t) = refl
plain-stays own (post.Open d t) = refl
plain-stays own (post.OpenVariable d t) = refl
plain-stays own (post.Plan d k r e f) = refl
plain-stays own (post.Notice d c r e) = refl
plain-stays own (post.Lower d c r) = refl
plain-stays own post.Penalty = refl
plain-stays own (post.Review d f) = refl
plain-stays own (post.Dispute d t c) = refl
plain-stays own (post.Ack d t) = refl
plain-stays own (post.Resolve d t c) = refl
plain-stays own (post.AskRefund d) = refl
plain-stays own (post.Refund c) = refl
plain-stays own (post.Amend t d c) = refl
plain-stays own (post.Bill c) = refl

opening-stays : (own : ℕ × ℕ) (p : Post) → opening_in (with_facts own p) ≡ opening_in p
opening-stays own (post.Charge d q c) = refl
opening-stays own (post.Credit d q c) = refl
opening-stays own (post.Payment d m y c) = refl
opening-stays own (post.Return d t) = refl
opening-stays own (post.Open d t) = refl
opening-stays own (post.OpenVariable d t) = refl
opening-stays own (post.Plan d k r e f) = refl
opening-stays own (post.Notice d c r e) = refl
opening-stays own (post.Lower d c r) = refl
opening-stays own post.Penalty = refl
opening-stays own (post.Review d f) = refl
opening-stays own (post.Dispute d t c) = refl
opening-stays own (post.Ack d t) = refl
opening-stays own (post.Resolve d t c) = refl
opening-stays own (post.AskRefund d) = refl
opening-stays own (post.Refund c) = refl
opening-stays own (post.Amend t d c) = refl
opening-stays own (post.Bill c) = refl

terms-stay : (own : ℕ × ℕ) (p : Post) → terms_in (with_facts own p) ≡ terms_in p
terms-stay own (post.Charge d q c) = refl
terms-stay own (post.Credit d q c) = refl
terms-stay own (post.Payment d m y c) = refl
terms-stay own (post.Return d t) = refl
terms-stay own (post.Open d t) = refl
terms-stay own (post.OpenVariable d t) = refl
terms-stay own (post.Plan d k r e f) = refl
terms-stay own (post.Notice d c r e) = refl
terms-stay own (post.Lower d c r) = refl
terms-stay own post.Penalty = refl
terms-stay own (post.Review d f) = refl
terms-stay own (post.Dispute d t c) = refl
terms-stay own (post.Ack d t) = refl
terms-stay own (post.Resolve d t c) = refl
terms-stay own (post.AskRefund d) = refl
terms-stay own (post.Refund c) = refl
terms-stay own (post.Amend t d c) = refl
terms-stay own (post.Bill c) = refl

variable-stays : (own : ℕ × ℕ) (p : Post) → opens_variable (with_facts own p) ≡ opens_variable p
variable-stays own (post.Charge d q c) = refl
variable-stays own (post.Credit d q c) = refl
variable-stays own (post.Payment d m y c) = refl
variable-stays own (post.Return d t) = refl
variable-stays own (post.Open d t) = refl
variable-stays own (post.OpenVariable d t) = refl
variable-stays own (post.Plan d k r e f) = refl
variable-stays own (post.Notice d c r e) = refl
variable-stays own (post.Lower d c r) = refl
variable-stays own post.Penalty = refl
variable-stays own (post.Review d f) = refl
variable-stays own (post.Dispute d t c) = refl
variable-stays own (post.Ack d t) = refl
variable-stays own (post.Resolve d t c) = refl
variable-stays own (post.AskRefund d) = refl
variable-stays own (post.Refund c) = refl
variable-stays own (post.Amend t d c) = refl
variable-stays own (post.Bill c) = refl

folded-is : (p : Post) → is_folded p ≡ is_folded (plain p)
folded-is (post.Charge d q c) = refl
folded-is (post.Credit d q c) = refl
folded-is (post.Payment d m y c) = refl
folded-is (post.Return d t) = refl
folded-is (post.Open d t) = refl
folded-is (post.OpenVariable d t) = refl
folded-is (post.Plan d k r e f) = refl
folded-is (post.Notice d c r e) = refl
folded-is (post.Lower d c r) = refl
folded-is post.Penalty = refl
folded-is (post.Review d f) = refl
folded-is (post.Dispute d t c) = refl
folded-is (post.Ack d t) = refl
folded-is (post.Resolve d t c) = refl
folded-is (post.AskRefund d) = refl
folded-is (post.Refund c) = refl
folded-is (post.Amend t d c) = refl
folded-is (post.Bill c) = refl

-- ---- the post at a place
at-either : {X : Type 0} (f g : Option Kept → X) (before after : List Kept) (k l : Kept) (i : ℕ) → ((o : Option Kept) → f o ≡ g o) → (i ≡ length before → f (Some k) ≡ g (Some l))
    → f (slice_get (before ++ k ∷ after) i) ≡ g (slice_get (before ++ l ∷ after) i)
at-either f g [] after k l zero all here = here refl
at-either f g [] after k l (suc i) all here = all (slice_get after i)
at-either f g (x ∷ xs) after k l zero all here = all (Some x)
at-either f g (x ∷ xs) after k l (suc i) all here = at-either f g xs after k l i all (λ e. here (omega (arith, e)))

sum-either : (f g : Kept → ℕ) (before after : List Kept) (k l : Kept) → ((x : Kept) → f x ≡ g x) → f k ≡ g l → sum_by f (before ++ k ∷ after) ≡ sum_by g (before ++ l ∷ after)
sum-either f g [] after k l all here = sum_by-cons f k after ∙ (rw (here, sum-agree f g all after) (sym (sum_by-cons g l after)))
sum-either f g (x ∷ xs) after k l all here = sum_by-cons f x (xs ++ k ∷ after) ∙ (rw (all x, sum-either f g xs after k l all here) (sym (sum_by-cons g x (xs ++ l ∷ after))))

module _ (before after : List Kept) (k : Kept) (own to : ℕ × ℕ) (amends : last_amend (length before + 1) (before ++ k ∷ after) ≡ Some to) where
  abbrev l : Kept
  l = entered_with own k

  abbrev old : List Kept
  old = before ++ k ∷ after

  abbrev new : List Kept
  new = before ++ l ∷ after

  last-walk : (n : ℕ) (xs : List Kept) → last_amend n (xs ++ l ∷ after) ≡ last_amend n (xs ++ k ∷ after)
  unfolding last_amend
  last-walk n [] = ap (λ o. option_or (last_amend n after) o) (amend-stays own n k.post)
  last-walk n (x ∷ xs) = ap (λ o. option_or o (amend_of n x.post)) (last-walk n xs)

  last-is : (n : ℕ) → last_amend n new ≡ last_amend n old
  last-is n = last-walk n before

  last-new : last_amend (length before + 1) new ≡ Some to
  last-new = last-is (length before + 1) ∙ amends

  here-old : (i : ℕ) → i ≡ length before → last_amend (suc i) old ≡ Some to
  here-old i e = let same : suc i ≡ length before + 1 = omega (arith, e) in ap (λ n. last_amend n old) same ∙ amends

  here-new : (i : ℕ) → i ≡ length before → last_amend (suc i) new ≡ Some to
  here-new i e = last-is (suc i) ∙ here-old i e

  -- the day of a charge
  charge-all : (n : ℕ) (o : Option Kept) → charge_day new n o ≡ charge_day old n o
  charge-all n None = refl
  charge-all n (Some x) = by x.post
    where
      by : (p : Post) → charge_day new n (Some (record { number = x.number; key = x.key; accepted = x.accepted; post = p })) ≡ charge_day old n (Some (record { number = x.number; key = x.key; accepted = x.accepted; post = p }))
      by (post.Charge d q c) = ap (λ a. amended_day a d) (last-is n)
      by (post.Credit d q c) = refl
      by (post.Payment d m y c) = refl
      by (post.Return d t) = refl
      by (post.Open d t) = refl
      by (post.OpenVariable d t) = refl
      by (post.Plan d k r e f) = refl
      by (post.Notice d c r e) = refl
      by (post.Lower d c r) = refl
      by post.Penalty = refl
      by (post.Review d f) = refl
      by (post.Dispute d t c) = refl
      by (post.Ack d t) = refl
      by (post.Resolve d t c) = refl
      by (post.AskRefund d) = refl
      by (post.Refund c) = refl
      by (post.Amend t d c) = refl
      by (post.Bill c) = refl

  charge-here : (i : ℕ) → i ≡ length before → charge_day new (suc i) (Some l) ≡ charge_day old (suc i) (Some k)
  charge-here i e = by k.post (here-new i e) (here-old i e)
    where
      by : (p : Post) → last_amend (suc i) new ≡ Some to → last_amend (suc i) old ≡ Some to
          → charge_day new (suc i) (Some (record { number = k.number; key = k.key; accepted = k.accepted; post = with_facts own p })) ≡ charge_day old (suc i) (Some (record { number = k.number; key = k.key; accepted = k.accepted; post = p }))
      by (post.Charge d q c) u v = rw (u, v) refl
      by (post.Credit d q c) u v = refl
      by (post.Payment d m y c) u v = refl
      by (post.Return d t) u v = refl
      by (post.Open d t) u v = refl
      by (post.OpenVariable d t) u v = refl
      by (post.Plan d k r e f) u v = refl
      by (post.Notice d c r e) u v = refl
      by (post.Lower d c r) u v = refl
      by post.Penalty u v = refl
      by (post.Review d f) u v = refl
      by (post.Dispute d t c) u v = refl
      by (post.Ack d t) u v = refl
      by (post.Resolve d t c) u v = refl
      by (post.AskRefund d) u v = refl
      by (post.Refund c) u v = refl
      by (post.Amend t d c) u v = refl
      by (post.Bill c) u v = refl

  charge-is : (n : ℕ) → charge_day new n (at_number n new) ≡ charge_day old n (at_number n old)
  charge-is zero = refl
  charge-is (suc i) = at-either (charge_day new (suc i)) (charge_day old (suc i)) before after l k i (charge-all (suc i)) (charge-here i)

  module _ (a : Anchor) (holidays : List ℕ) where
    payment-all : (n : ℕ) (o : Option Kept) → payment_day a holidays new n o ≡ payment_day a holidays old n o
    payment-all n None = refl
    payment-all n (Some x) = by x.post
      where
        by : (p : Post) → payment_day a holidays new n (Some (record { number = x.number; key = x.key; accepted = x.accepted; post = p })) ≡ payment_day a holidays old n (Some (record { number = x.number; key = x.key; accepted = x.accepted; post = p }))
        by (post.Charge d q c) = refl
        by (post.Credit d q c) = refl
        by (post.Payment d m y c) = ap (λ b. credit_day a holidays (amended_day b d) m (is_mail y)) (last-is n)
        by (post.Return d t) = refl
        by (post.Open d t) = refl
        by (post.OpenVariable d t) = refl
        by (post.Plan d k r e f) = refl
        by (post.Notice d c r e) = refl
        by (post.Lower d c r) = refl
        by post.Penalty = refl
        by (post.Review d f) = refl
        by (post.Dispute d t c) = refl
        by (post.Ack d t) = refl
        by (post.Resolve d t c) = refl
        by (post.AskRefund d) = refl
        by (post.Refund c) = refl
        by (post.Amend t d c) = refl
        by (post.Bill c) = refl

    payment-here : (i : ℕ) → i ≡ length before → payment_day a holidays new (suc i) (Some l) ≡ payment_day a holidays old (suc i) (Some k)
    payment-here i e = by k.post (here-new i e) (here-old i e)
      where
        by : (p : Post) → last_amend (suc i) new ≡ Some to → last_amend (suc i) old ≡ Some to
            → payment_day a holidays new (suc i) (Some (record { number = k.number; key = k.key; accepted = k.accepted; post = with_facts own p }))
            ≡ payment_day a holidays old (suc i) (Some (record { number = k.number; key = k.key; accepted = k.accepted; post = p }))
        by (post.Charge d q c) u v = refl
        by (post.Credit d q c) u v = refl
        by (post.Payment d m y c) u v = rw (u, v) refl
        by (post.Return d t) u v = refl
        by (post.Open d t) u v = refl
        by (post.OpenVariable d t) u v = refl
        by (post.Plan d k r e f) u v = refl
        by (post.Notice d c r e) u v = refl
        by (post.Lower d c r) u v = refl
        by post.Penalty u v = refl
        by (post.Review d f) u v = refl
        by (post.Dispute d t c) u v = refl
        by (post.Ack d t) u v = refl
        by (post.Resolve d t c) u v = refl
        by (post.AskRefund d) u v = refl
        by (post.Refund c) u v = refl
        by (post.Amend t d c) u v = refl
        by (post.Bill c) u v = refl

    payment-is : (n : ℕ) → payment_day a holidays new n (at_number n new) ≡ payment_day a holidays old n (at_number n old)
    payment-is zero = refl
    payment-is (suc i) = at-either (payment_day a holidays new (suc i)) (payment_day a holidays old (suc i)) before after l k i (payment-all (suc i)) (payment-here i)

  dispute-all : (o : Option Kept) → dispute_day new o ≡ dispute_day old o
  dispute-all None = refl
  dispute-all (Some x) = by x.post
    where
      by : (p : Post) → dispute_day new (Some (record { number = x.number; key = x.key; accepted = x.accepted; post = p })) ≡ dispute_day old (Some (record { number = x.number; key = x.key; accepted = x.accepted; post = p }))
      by (post.Charge d q c) = refl
      by (post.Credit d q c) = refl
      by (post.Payment d m y c) = refl
      by (post.Return d t) = refl
      by (post.Open d t) = refl
      by (post.OpenVariable d t) = refl
      by (post.Plan d k r e f) = refl
      by (post.Notice d c r e) = refl
      by (post.Lower d c r) = refl
      by post.Penalty = refl
      by (post.Review d f) = refl
      by (post.Dispute d t c) = ap (max d) (charge-is t)
      by (post.Ack d t) = refl
      by (post.Resolve d t c) = refl
      by (post.AskRefund d) = refl
      by (post.Refund c) = refl
      by (post.Amend t d c) = refl
      by (post.Bill c) = refl

  dispute-here : dispute_day new (Some l) ≡ dispute_day old (Some k)
  dispute-here = by k.post
    where
      by : (p : Post) → dispute_day new (Some (record { number = k.number; key = k.key; accepted = k.accepted; post = with_facts own p })) ≡ dispute_day old (Some (record { number = k.number; key = k.key; accepted = k.accepted; post = p }))
      by (post.Charge d q c) = refl
      by (post.Credit d q c) = refl
      by (post.Payment d m y c) = refl
      by (post.Return d t) = refl
      by (post.Open d t) = refl
      by (post.OpenVariable d t) = refl
      by (post.Plan d k r e f) = refl
      by (post.Notice d c r e) = refl
      by (post.Lower d c r) = refl
      by post.Penalty = refl
      by (post.Review d f) = refl
      by (post.Dispute d t c) = ap (max d) (charge-is t)
      by (post.Ack d t) = refl
      by (post.Resolve d t c) = refl
      by (post.AskRefund d) = refl
      by (post.Refund c) = refl
      by (post.Amend t d c) = refl
      by (post.Bill c) = refl

  dispute-is : (n : ℕ) → dispute_day new (at_number n new) ≡ dispute_day old (at_number n old)
  dispute-is zero = refl
  dispute-is (suc i) = at-either (dispute_day new) (dispute_day old) before after l k i dispute-all (λ e. dispute-here)

  -- what was confirmed
  names-is : (n m : ℕ) → dispute_names n (at_number m new) ≡ dispute_names n (at_number m old)
  names-is n zero = refl
  names-is n (suc i) = at-either (dispute_names n) (dispute_names n) before after l k i (λ o. refl) (λ e. disputes-stays own n k.post)

  confirms-all : (n : ℕ) (p : Post) → confirms n new p ≡ confirms n old p
  confirms-all n (post.Charge d q c) = refl
  confirms-all n (post.Credit d q c) = refl
  confirms-all n (post.Payment d m y c) = refl
  confirms-all n (post.Return d t) = refl
  confirms-all n (post.Open d t) = refl
  confirms-all n (post.OpenVariable d t) = refl
  confirms-all n (post.Plan d k r e f) = refl
  confirms-all n (post.Notice d c r e) = refl
  confirms-all n (post.Lower d c r) = refl
  confirms-all n post.Penalty = refl
  confirms-all n (post.Review d f) = refl
  confirms-all n (post.Dispute d t c) = refl
  confirms-all n (post.Ack d t) = refl
  confirms-all n (post.Resolve d t c) = ap (λ b. cond b c 0) (names-is n t)
  confirms-all n (post.AskRefund d) = refl
  confirms-all n (post.Refund c) = refl
  confirms-all n (post.Amend t d c) = refl
  confirms-all n (post.Bill c) = refl

  confirms-here : (n : ℕ) (p : Post) → confirms n new (with_facts own p) ≡ confirms n old p
  confirms-here n (post.Charge d q c) = refl
  confirms-here n (post.Credit d q c) = refl
  confirms-here n (post.Payment d m y c) = refl
  confirms-here n (post.Return d t) = refl
  confirms-here n (post.Open d t) = refl
  confirms-here n (post.OpenVariable d t) = refl
  confirms-here n (post.Plan d k r e f) = refl
  confirms-here n (post.Notice d c r e) = refl
  confirms-here n (post.Lower d c r) = refl
  confirms-here n post.Penalty = refl
  confirms-here n (post.Review d f) = refl
  confirms-here n (post.Dispute d t c) = refl
  confirms-here n (post.Ack d t) = refl
  confirms-here n (post.Resolve d t c) = ap (λ b. cond b c 0) (names-is n t)
  confirms-here n (post.AskRefund d) = refl
  confirms-here n (post.Refund c) = refl
  confirms-here n (post.Amend t d c) = refl
  confirms-here n (post.Bill c) = refl

  confirmed-is : (n : ℕ) → confirmed n new ≡ confirmed n old
  unfolding confirmed
  confirmed-is n = sum-either (λ x. confirms n new x.post) (λ x. confirms n old x.post) before after l k (λ x. confirms-all n x.post) (confirms-here n k.post)

  -- cents and days of the other posts
  cents-is : (n : ℕ) (p : Post) → cents_of new n p ≡ cents_of old n p
  unfolding cents_of
  cents-is n (post.Charge d q c) = ap (λ a. amended_cents a c - confirmed n new) (last-is n) ∙ ap (λ s. amended_cents (last_amend n old) c - s) (confirmed-is n)
  cents-is n (post.Credit d q c) = ap (λ a. amended_cents a c) (last-is n)
  cents-is n (post.Payment d m y c) = ap (λ a. amended_cents a c) (last-is n)
  cents-is n (post.Return d t) = refl
  cents-is n (post.Open d t) = refl
  cents-is n (post.OpenVariable d t) = refl
  cents-is n (post.Plan d k r e f) = refl
  cents-is n (post.Notice d c r e) = refl
  cents-is n (post.Lower d c r) = refl
  cents-is n post.Penalty = refl
  cents-is n (post.Review d f) = refl
  cents-is n (post.Dispute d t c) = refl
  cents-is n (post.Ack d t) = refl
  cents-is n (post.Resolve d t c) = refl
  cents-is n (post.AskRefund d) = refl
  cents-is n (post.Refund c) = refl
  cents-is n (post.Amend t d c) = refl
  cents-is n (post.Bill c) = refl

  day-is : (a : Anchor) (holidays : List ℕ) (n accepted : ℕ) (p : Post) → effective_day a holidays new n accepted p ≡ effective_day a holidays old n accepted p
  unfolding effective_day
  day-is a holidays n accepted (post.Charge d q c) = ap (λ b. amended_day b d) (last-is n)
  day-is a holidays n accepted (post.Credit d q c) = ap (λ b. amended_day b d) (last-is n)
  day-is a holidays n accepted (post.Payment d m y c) = ap (λ b. credit_day a holidays (amended_day b d) m (is_mail y)) (last-is n)
  day-is a holidays n accepted (post.Return d t) = ap (max d) (payment-is a holidays t)
  day-is a holidays n accepted (post.Open d t) = refl
  day-is a holidays n accepted (post.OpenVariable d t) = refl
  day-is a holidays n accepted (post.Plan d k r e f) = refl
  day-is a holidays n accepted (post.Notice d c r e) = refl
  day-is a holidays n accepted (post.Lower d c r) = refl
  day-is a holidays n accepted post.Penalty = refl
  day-is a holidays n accepted (post.Review d f) = refl
  day-is a holidays n accepted (post.Dispute d t c) = ap (max d) (charge-is t)
  day-is a holidays n accepted (post.Ack d t) = refl
  day-is a holidays n accepted (post.Resolve d t c) = ap (max d) (dispute-is t)
  day-is a holidays n accepted (post.AskRefund d) = refl
  day-is a holidays n accepted (post.Refund c) = refl
  day-is a holidays n accepted (post.Amend t d c) = refl
  day-is a holidays n accepted (post.Bill c) = refl

  -- those of the amended one
  cents-here : (n : ℕ) → n ≡ length before + 1 → (p : Post) → cents_of new n (with_facts own p) ≡ cents_of old n p
  unfolding cents_of
  cents-here n at (post.Charge d q c) = let u = ap (λ j. last_amend j new) at ∙ last-new in let v = ap (λ j. last_amend j old) at ∙ amends in rw (u, v) (ap (λ s. to.1 - s) (confirmed-is n))
  cents-here n at (post.Credit d q c) = let u = ap (λ j. last_amend j new) at ∙ last-new in let v = ap (λ j. last_amend j old) at ∙ amends in rw (u, v) refl
  cents-here n at (post.Payment d m y c) = let u = ap (λ j. last_amend j new) at ∙ last-new in let v = ap (λ j. last_amend j old) at ∙ amends in rw (u, v) refl
  cents-here n at (post.Return d t) = refl
  cents-here n at (post.Open d t) = refl
  cents-here n at (post.OpenVariable d t) = refl
  cents-here n at (post.Plan d k r e f) = refl
  cents-here n at (post.Notice d c r e) = refl
  cents-here n at (post.Lower d c r) = refl
  cents-here n at post.Penalty = refl
  cents-here n at (post.Review d f) = refl
  cents-here n at (post.Dispute d t c) = refl
  cents-here n at (post.Ack d t) = refl
  cents-here n at (post.Resolve d t c) = refl
  cents-here n at (post.AskRefund d) = refl
  cents-here n at (post.Refund c) = refl
  cents-here n at (post.Amend t d c) = refl
  cents-here n at (post.Bill c) = refl

  day-here : (a : Anchor) (holidays : List ℕ) (n accepted : ℕ) → n ≡ length before + 1 → (p : Post) → effective_day a holidays new n accepted (with_facts own p) ≡ effective_day a holidays old n accepted p
  unfolding effective_day
  day-here a holidays n accepted at (post.Charge d q c) = let u = ap (λ j. last_amend j new) at ∙ last-new in let v = ap (λ j. last_amend j old) at ∙ amends in rw (u, v) refl
  day-here a holidays n accepted at (post.Credit d q c) = let u = ap (λ j. last_amend j new) at ∙ last-new in let v = ap (λ j. last_amend j old) at ∙ amends in rw (u, v) refl
  day-here a holidays n accepted at (post.Payment d m y c) = let u = ap (λ j. last_amend j new) at ∙ last-new in let v = ap (λ j. last_amend j old) at ∙ amends in rw (u, v) refl
  day-here a holidays n accepted at (post.Return d t) = ap (max d) (payment-is a holidays t)
  day-here a holidays n accepted at (post.Open d t) = refl
  day-here a holidays n accepted at (post.OpenVariable d t) = refl
  day-here a holidays n accepted at (post.Plan d k r e f) = refl
  day-here a holidays n accepted at (post.Notice d c r e) = refl
  day-here a holidays n accepted at (post.Lower d c r) = refl
  day-here a holidays n accepted at post.Penalty = refl
  day-here a holidays n accepted at (post.Review d f) = refl
  day-here a holidays n accepted at (post.Dispute d t c) = ap (max d) (charge-is t)
  day-here a holidays n accepted at (post.Ack d t) = refl
  day-here a holidays n accepted at (post.Resolve d t c) = ap (max d) (dispute-is t)
  day-here a holidays n accepted at (post.AskRefund d) = refl
  day-here a holidays n accepted at (post.Refund c) = refl
  day-here a holidays n accepted at (post.Amend t d c) = refl
  day-here a holidays n accepted at (post.Bill c) = refl

  -- ---- the corrected list
  abbrev told : ℕ → ℕ → ℕ → ℕ → ℕ → Post → CorrectedPost
  told n d c accepted s p = record { number = n; day = d; cents = c; accepted = accepted; segment = s; post = p }

  tail-is : (a : Anchor) (holidays : List ℕ) (n s : ℕ) (ks : List Kept) → map plainly (corrected_from a holidays new n s ks) ≡ map plainly (corrected_from a holidays old n s ks)
  unfolding corrected_from corrected_post
  tail-is a holidays n s [] = refl
  tail-is a holidays n s (x ∷ xs) =
      ap (λ (d : ℕ). told n d (cents_of new n x.post) x.accepted s (plain x.post) ∷ map plainly (corrected_from a holidays new (suc n) (next_segment s x.post) xs)) (day-is a holidays n x.accepted x.post)
      ∙ (ap (λ (c : ℕ). told n (effective_day a holidays old n x.accepted x.post) c x.accepted s (plain x.post) ∷ map plainly (corrected_from a holidays new (suc n) (next_segment s x.post) xs)) (cents-is n x.post)
      ∙ ap (λ (ps : List CorrectedPost). told n (effective_day a holidays old n x.accepted x.post) (cents_of old n x.post) x.accepted s (plain x.post) ∷ ps) (tail-is a holidays (suc n) (next_segment s x.post) xs))

  list-is : (a : Anchor) (holidays : List ℕ) (n s : ℕ) (xs : List Kept) → n + length xs ≡ length before + 1
      → map plainly (corrected_from a holidays new n s (xs ++ l ∷ after)) ≡ map plainly (corrected_from a holidays old n s (xs ++ k ∷ after))
  unfolding corrected_from corrected_post
  list-is a holidays n s [] e =
      let at : n ≡ length before + 1 = omega (arith, e) in
      ap (λ (d : ℕ). told n d (cents_of new n (with_facts own k.post)) k.accepted s (plain (with_facts own k.post)) ∷ map plainly (corrected_from a holidays new (suc n) (next_segment s (with_facts own k.post)) after)) (day-here a holidays n k.accepted at k.post)
      ∙ (ap (λ (c : ℕ). told n (effective_day a holidays old n k.accepted k.post) c k.accepted s (plain (with_facts own k.post)) ∷ map plainly (corrected_from a holidays new (suc n) (next_segment s (with_facts own k.post)) after)) (cents-here n at k.post)
      ∙ (ap (λ (q : Post). told n (effective_day a holidays old n k.accepted k.post) (cents_of old n k.post) k.accepted s q ∷ map plainly (corrected_from a holidays new (suc n) (next_segment s (with_facts own k.post)) after)) (plain-stays own k.post)
      ∙ (ap (λ (t : Bool). told n (effective_day a holidays old n k.accepted k.post) (cents_of old n k.post) k.accepted s (plain k.post) ∷ map plainly (corrected_from a holidays new (suc n) (cond t (s + 1) s) after)) (adds-stays own k.post)
      ∙ ap (λ (ps : List CorrectedPost). told n (effective_day a holidays old n k.accepted k.post) (cents_of old n k.post) k.accepted s (plain k.post) ∷ ps) (tail-is a holidays (suc n) (next_segment s k.post) after))))
  list-is a holidays n s (x ∷ xs) e =
      ap (λ (d : ℕ). told n d (cents_of new n x.post) x.accepted s (plain x.post) ∷ map plainly (corrected_from a holidays new (suc n) (next_segment s x.post) (xs ++ l ∷ after))) (day-is a holidays n x.accepted x.post)
      ∙ (ap (λ (c : ℕ). told n (effective_day a holidays old n x.accepted x.post) c x.accepted s (plain x.post) ∷ map plainly (corrected_from a holidays new (suc n) (next_segment s x.post) (xs ++ l ∷ after))) (cents-is n x.post)
      ∙ ap (λ (ps : List CorrectedPost). told n (effective_day a holidays old n x.accepted x.post) (cents_of old n x.post) x.accepted s (plain x.post) ∷ ps) (list-is a holidays (suc n) (next_segment s x.post) xs (omega (arith, e))))

  folded-same : (a : Anchor) (holidays : List ℕ) → map plainly (folded a holidays new) ≡ map plainly (folded a holidays old)
  folded-same a holidays =
      filter-plain (λ p. is_folded p.post) (λ p. folded-is p.post) (corrected a holidays new)
      ∙ (ap (filter (λ (p : CorrectedPost). is_folded p.post)) (list-is a holidays 1 5 before (omega arith))
      ∙ sym (filter-plain (λ p. is_folded p.post) (λ p. folded-is p.post) (corrected a holidays old)))

-- ---- the opening
anchor-stays : (before after : List Kept) (k : Kept) (own : ℕ × ℕ) → anchor_of (before ++ entered_with own k ∷ after) ≡ anchor_of (before ++ k ∷ after)
anchor-stays [] after k own = let a = opening-stays own k.post in let b = terms-stay own k.post in rw (a, b) refl
anchor-stays (x ∷ xs) after k own = refl

all-terms-stay : (before after : List Kept) (k : Kept) (own : ℕ × ℕ) → terms_of (before ++ entered_with own k ∷ after) ≡ terms_of (before ++ k ∷ after)
all-terms-stay [] after k own = terms-stay own k.post
all-terms-stay (x ∷ xs) after k own = refl

is-variable-stays : (before after : List Kept) (k : Kept) (own : ℕ × ℕ) → is_variable (before ++ entered_with own k ∷ after) ≡ is_variable (before ++ k ∷ after)
is-variable-stays [] after k own = variable-stays own k.post
is-variable-stays (x ∷ xs) after k own = refl

pub amended_as_entered : AmendedAsEntered
amended_as_entered before after k own to issued shared day amends =
    let a = anchor-stays before after k own in
    corrected_facts_are_enough (before ++ k ∷ after) (before ++ entered_with own k ∷ after) issued shared day (record {
      anchor = a;
      terms = all-terms-stay before after k own;
      variable = is-variable-stays before after k own;
      posts =
          ap (λ (b : Anchor). map plainly (folded b shared.holidays (before ++ entered_with own k ∷ after))) a
          ∙ folded-same before after k own to amends (anchor_of (before ++ k ∷ after)) shared.holidays;
    })
