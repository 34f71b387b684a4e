-- Posts of the corrected list are those of the history, and a Return takes effect no earlier than its payment.
use Rattle.std.proofs.Common.{◌≡◌, ℕ, suc, ◌+◌, ◌≤◌, true, List, [], ◌∷◌, max, Some, refl, sym, ap, ◌∙◌, arith}
use Rattle.std.specs.Prelude.{slice_get}
use Rattle.std.specs.List.{All}
use Rattle.std.proofs.lemmas.Bool.{eqb-true}
use Rattle.std.proofs.lemmas.List.Elements.{All-nil, All-cons}
use Rattle.card_events.specs.declared.anchor.Anchor.{Anchor}
use Rattle.card_events.specs.History.{CorrectedPost, at_number, corrected, corrected_from, corrected_post, effective_day, next_segment, payment_day}
use Rattle.card_events.specs.declared.kept.Kept.{Kept}
use Rattle.card_events.specs.declared.post.Post.{Post}
use Rattle.card_events.specs.declared.post.Post.TheVariants as post
use Rattle.card_model.specs.Payments.{is_payment, returns}

-- a post of the corrected list is what the history says of the post with its number
pub record Stands (a : Anchor) (holidays : List ℕ) (history : List Kept) (p : CorrectedPost) : Type 0 where
  pub kept : Kept
  pub found : at_number p.number history ≡ Some kept
  pub same : p.post ≡ kept.post
  pub day : p.day ≡ effective_day a holidays history p.number kept.accepted kept.post

stand-from : (a : Anchor) (holidays : List ℕ) (history : List Kept) (n segment : ℕ) (ks : List Kept) → ((i : ℕ) → slice_get ks i ≡ at_number (n + i) history) → All (Stands a holidays history) (corrected_from a holidays history n segment ks)
unfolding corrected_from corrected_post
stand-from a holidays history n segment [] h = All-nil (Stands a holidays history)
stand-from a holidays history n segment (k ∷ ks) h =
    let here : n + 0 ≡ n = omega arith in
    All-cons (Stands a holidays history) (corrected_post a holidays history n segment k) (corrected_from a holidays history (suc n) (next_segment segment k.post) ks)
    (record { kept = k; found = sym (h 0 ∙ ap (λ m. at_number m history) here); same = refl; day = refl })
    (stand-from a holidays history (suc n) (next_segment segment k.post) ks (λ i. let on : n + suc i ≡ suc n + i = omega arith in h (suc i) ∙ ap (λ m. at_number m history) on))

pub all-stand : (a : Anchor) (holidays : List ℕ) (history : List Kept) → All (Stands a holidays history) (corrected a holidays history)
all-stand a holidays history = stand-from a holidays history 1 5 history (λ i. let on : suc i ≡ 1 + i = omega arith in ap (λ m. at_number m history) on)

-- ---- a Return takes effect no earlier than its payment
pub record IsReturn (n : ℕ) (p : Post) : Type 0 where
  pub on : ℕ
  pub is : p ≡ post.Return on n

pub return-shape : (n : ℕ) (p : Post) → returns n p ≡ true → IsReturn n p
return-shape n (post.Return day target) e = record { on = day; is = ap (λ t. post.Return day t) (eqb-true target n e) }
return-shape n (post.Open _ _) e = absurd (cc)
return-shape n (post.OpenVariable _ _) e = absurd (cc)
return-shape n (post.Charge _ _ _) e = absurd (cc)
return-shape n (post.Credit _ _ _) e = absurd (cc)
return-shape n (post.Payment _ _ _ _) e = absurd (cc)
return-shape n (post.Plan _ _ _ _ _) e = absurd (cc)
return-shape n (post.Notice _ _ _ _) e = absurd (cc)
return-shape n (post.Lower _ _ _) e = absurd (cc)
return-shape n post.Penalty e = absurd (cc)
return-shape n (post.Review _ _) e = absurd (cc)
return-shape n (post.Dispute _ _ _) e = absurd (cc)
return-shape n (post.Ack _ _) e = absurd (cc)
return-shape n (post.Resolve _ _ _) e = absurd (cc)
return-shape n (post.AskRefund _) e = absurd (cc)
return-shape n (post.Refund _) e = absurd (cc)
return-shape n (post.Amend _ _ _) e = absurd (cc)
return-shape n (post.Bill _) e = absurd (cc)

-- the effective day of a payment that is there
payment-day : (a : Anchor) (holidays : List ℕ) (history : List Kept) (n : ℕ) (k : Kept) (p : Post) → k.post ≡ p → is_payment p ≡ true → payment_day a holidays history n (Some k) ≡ effective_day a holidays history n k.accepted k.post
unfolding effective_day
payment-day a holidays history n k (post.Payment day minute by cents) e q = rw e refl
payment-day a holidays history n k (post.Return _ _) e q = absurd (cc)
payment-day a holidays history n k (post.Open _ _) e q = absurd (cc)
payment-day a holidays history n k (post.OpenVariable _ _) e q = absurd (cc)
payment-day a holidays history n k (post.Charge _ _ _) e q = absurd (cc)
payment-day a holidays history n k (post.Credit _ _ _) e q = absurd (cc)
payment-day a holidays history n k (post.Plan _ _ _ _ _) e q = absurd (cc)
payment-day a holidays history n k (post.Notice _ _ _ _) e q = absurd (cc)
payment-day a holidays history n k (post.Lower _ _ _) e q = absurd (cc)
payment-day a holidays history n k post.Penalty e q = absurd (cc)
payment-day a holidays history n k (post.Review _ _) e q = absurd (cc)
payment-day a holidays history n k (post.Dispute _ _ _) e q = absurd (cc)
payment-day a holidays history n k (post.Ack _ _) e q = absurd (cc)
payment-day a holidays history n k (post.Resolve _ _ _) e q = absurd (cc)
payment-day a holidays history n k (post.AskRefund _) e q = absurd (cc)
payment-day a holidays history n k (post.Refund _) e q = absurd (cc)
payment-day a holidays history n k (post.Amend _ _ _) e q = absurd (cc)
payment-day a holidays history n k (post.Bill _) e q = absurd (cc)

-- the effective day of a Return
return-day : (a : Anchor) (holidays : List ℕ) (history : List Kept) (m acc day n : ℕ) → effective_day a holidays history m acc (post.Return day n) ≡ max day (payment_day a holidays history n (at_number n history))
unfolding effective_day
return-day a holidays history m acc day n = refl

pub return-later : (a : Anchor) (holidays : List ℕ) (history : List Kept) (p q : CorrectedPost) → Stands a holidays history p → Stands a holidays history q → is_payment p.post ≡ true → returns p.number q.post ≡ true → p.day ≤ q.day
return-later a holidays history p q s t pays gives =
    let shape = return-shape p.number q.post gives in
    let same : t.kept.post ≡ post.Return shape.on p.number = sym t.same ∙ shape.is in
    let there : q.day ≡ max shape.on (payment_day a holidays history p.number (at_number p.number history)) =
    t.day ∙ ap (effective_day a holidays history q.number t.kept.accepted) same ∙ return-day a holidays history q.number t.kept.accepted shape.on p.number in
    let here : payment_day a holidays history p.number (at_number p.number history) ≡ p.day =
    ap (payment_day a holidays history p.number) s.found ∙ payment-day a holidays history p.number s.kept p.post (sym s.same) pays ∙ sym s.day in
    omega (arith, there, here)
