use Rattle.std.proofs.Common.{◌≡◌, ℕ, ◌-◌, ◌≤◌, ◌^◌, min, List, refl, sym, ap, ◌∙◌, arith, inl, inr}
use Rattle.card_events.specs.History.{amended_cents, cents_of, confirmed, last_amend}
use Rattle.card_events.specs.declared.kept.Kept.{Kept}
use Rattle.card_events.specs.declared.anchor.Channel.{Channel}
use Rattle.card_events.specs.declared.post.Place.{Place}
use Rattle.card_events.specs.declared.post.Post.{Post}
use Rattle.card_events.specs.declared.post.Post.TheVariants as post
use Rattle.card_posts.specs.declared.correction.Correction.{Correction}
use Rattle.card_posts.proofs.effect.cents_now.Goals as goal

-- a sum that is kept up to the greatest number of its field takes off as much
taken : (a c m : ℕ) → a ≤ m → a - min c m ≡ a - c
taken a c m l = grind arith

-- a post of another kind has none
none : (h : List Kept) (n : ℕ) (p : Post)
    → ((d : ℕ) (p' : Place) (c : ℕ) → p ≡ post.Charge d p' c → ⊥)
    → ((d : ℕ) (p' : Place) (c : ℕ) → p ≡ post.Credit d p' c → ⊥)
    → ((d i : ℕ) (y : Channel) (c : ℕ) → p ≡ post.Payment d i y c → ⊥)
    → ((d t c : ℕ) → p ≡ post.Dispute d t c → ⊥)
    → ((d t c : ℕ) → p ≡ post.Resolve d t c → ⊥)
    → ((c : ℕ) → p ≡ post.Refund c → ⊥)
    → ((t d c : ℕ) → p ≡ post.Amend t d c → ⊥)
    → cents_of h n p ≡ 0
unfolding cents_of
none h n (post.Open d t) no1 no2 no3 no4 no5 no6 no7 = refl
none h n (post.OpenVariable d t) no1 no2 no3 no4 no5 no6 no7 = refl
none h n (post.Charge d p c) no1 no2 no3 no4 no5 no6 no7 = absurd (no1 d p c refl)
none h n (post.Credit d p c) no1 no2 no3 no4 no5 no6 no7 = absurd (no2 d p c refl)
none h n (post.Payment d i y c) no1 no2 no3 no4 no5 no6 no7 = absurd (no3 d i y c refl)
none h n (post.Return d t) no1 no2 no3 no4 no5 no6 no7 = refl
none h n (post.Plan d v r w f) no1 no2 no3 no4 no5 no6 no7 = refl
none h n (post.Notice d y r w) no1 no2 no3 no4 no5 no6 no7 = refl
none h n (post.Lower d y r) no1 no2 no3 no4 no5 no6 no7 = refl
none h n post.Penalty no1 no2 no3 no4 no5 no6 no7 = refl
none h n (post.Review d f) no1 no2 no3 no4 no5 no6 no7 = refl
none h n (post.Dispute d t c) no1 no2 no3 no4 no5 no6 no7 = absurd (no4 d t c refl)
none h n (post.Ack d t) no1 no2 no3 no4 no5 no6 no7 = refl
none h n (post.Resolve d t c) no1 no2 no3 no4 no5 no6 no7 = absurd (no5 d t c refl)
none h n (post.AskRefund d) no1 no2 no3 no4 no5 no6 no7 = refl
none h n (post.Refund c) no1 no2 no3 no4 no5 no6 no7 = absurd (no6 c refl)
none h n (post.Amend t d c) no1 no2 no3 no4 no5 no6 no7 = absurd (no7 t d c refl)
none h n (post.Bill c) no1 no2 no3 no4 no5 no6 no7 = refl

pub returns-in-Charge : goal.returns-in-Charge
unfolding cents_of
returns-in-Charge c h n is =
    let amend : c.args.correction.now.amend ≡ last_amend n h = ap (λ (o : Correction). o.amend) is in
    let sum : c.args.correction.now.confirmed ≡ min (confirmed n h) (2 ^ 64 - 1) = ap (λ (o : Correction). o.confirmed) is in
    let stands : c.amended_cents-stands.result ≡ amended_cents (last_amend n h) c.in-Charge.cents = c.amended_cents-stands.ensures ∙ ap (λ o. amended_cents o c.in-Charge.cents) amend in
    let low : c.amended_cents-stands.result ≤ 2 ^ 64 - 1 = omega (arith, c.less.ensures.bound) in
    rw c.in-Charge.is (c.less.ensures.value ∙ (ap (λ x. c.amended_cents-stands.result - x) sum ∙ (taken c.amended_cents-stands.result (confirmed n h) (2 ^ 64 - 1) low ∙ ap (λ x. x - confirmed n h) stands)))

pub returns-in-Credit : goal.returns-in-Credit
unfolding cents_of
returns-in-Credit c h n is =
    let amend : c.args.correction.now.amend ≡ last_amend n h = ap (λ (o : Correction). o.amend) is in
    let stands : c.amended_cents.result ≡ amended_cents (last_amend n h) c.in-Credit.cents = c.amended_cents.ensures ∙ ap (λ o. amended_cents o c.in-Credit.cents) amend in
    elim c.in-Credit.is [ inl x ↦ rw x.2 stands | inr x ↦ rw x.3 stands ]

pub returns-in-Dispute : goal.returns-in-Dispute
unfolding cents_of
returns-in-Dispute c h n is = elim c.in-Dispute.is [ inl x ↦ rw x.2 refl | inr more ↦ elim more [ inl x ↦ rw x.2 refl | inr more ↦ elim more [ inl x ↦ rw x refl | inr x ↦ rw x.2 refl ] ] ]

pub returns-in_default : goal.returns-in_default
unfolding cents_of
returns-in_default c h n is = c.no_cents.ensures ∙ sym (none h n c.args.post.now c.in_default.not-Charge c.in_default.not-Credit c.in_default.not-Payment c.in_default.not-Dispute c.in_default.not-Resolve c.in_default.not-Refund c.in_default.not-Amend)
