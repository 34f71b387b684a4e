-- The fold of a day counts payments up to it as they are counted over the whole corrected list.
use Rattle.std.proofs.Common.{◌≡◌, ℕ, ◌≤◌, Bool, true, false, cond, not, ◌&&◌, nat_le, List, [], ◌∷◌, refl, ap, ◌∙◌, arith}
use Rattle.std.specs.List.{All, filter}
use Rattle.std.proofs.lemmas.Bool.Decides.{nat_tests}
use Rattle.std.proofs.lemmas.List.Elements.{All-cons, All-nil}
use Rattle.card_events.specs.History.{CorrectedPost, is_folded}
use Rattle.card_events.specs.declared.post.Post.{Post}
use Rattle.card_events.specs.declared.post.Post.TheVariants as post
use Rattle.card_model.specs.Cycles.{Seen}
use Rattle.card_model.specs.Payments.{counted, is_between, is_payment, is_returned, returns}
use Rattle.card_fees.specs.Due.{seen_of}
use Rattle.card_fees.proofs.Slots.{any-filter, any-same, sum-filter, sum-same}

-- ---- posts that the fold sees
pub payment-folded : (p : Post) → is_payment p ≡ true → is_folded p ≡ true
payment-folded (post.Payment _ _ _ _) e = refl
payment-folded (post.Return _ _) e = refl
payment-folded (post.Charge _ _ _) e = refl
payment-folded (post.Credit _ _ _) e = refl
payment-folded (post.Plan _ _ _ _ _) e = refl
payment-folded (post.Notice _ _ _ _) e = refl
payment-folded (post.Lower _ _ _) e = refl
payment-folded post.Penalty e = refl
payment-folded (post.Dispute _ _ _) e = refl
payment-folded (post.Resolve _ _ _) e = refl
payment-folded (post.Refund _) e = refl
payment-folded (post.Open _ _) e = absurd (cc)
payment-folded (post.OpenVariable _ _) e = absurd (cc)
payment-folded (post.Review _ _) e = absurd (cc)
payment-folded (post.Ack _ _) e = absurd (cc)
payment-folded (post.AskRefund _) e = absurd (cc)
payment-folded (post.Amend _ _ _) e = absurd (cc)
payment-folded (post.Bill _) e = absurd (cc)

pub return-folded : (n : ℕ) (p : Post) → returns n p ≡ true → is_folded p ≡ true
return-folded n (post.Payment _ _ _ _) e = refl
return-folded n (post.Return _ _) e = refl
return-folded n (post.Charge _ _ _) e = refl
return-folded n (post.Credit _ _ _) e = refl
return-folded n (post.Plan _ _ _ _ _) e = refl
return-folded n (post.Notice _ _ _ _) e = refl
return-folded n (post.Lower _ _ _) e = refl
return-folded n post.Penalty e = refl
return-folded n (post.Dispute _ _ _) e = refl
return-folded n (post.Resolve _ _ _) e = refl
return-folded n (post.Refund _) e = refl
return-folded n (post.Open _ _) e = absurd (cc)
return-folded n (post.OpenVariable _ _) e = absurd (cc)
return-folded n (post.Review _ _) e = absurd (cc)
return-folded n (post.Ack _ _) e = absurd (cc)
return-folded n (post.AskRefund _) e = absurd (cc)
return-folded n (post.Amend _ _ _) e = absurd (cc)
return-folded n (post.Bill _) e = absurd (cc)

pub by-then : (d to day : ℕ) → to ≤ day → nat_le d to ≡ true → nat_le d day ≡ true
by-then d to day l h = grind (arith, nat_tests)

pub each : {X : Type 0} (P : X → Type 0) → ((x : X) → P x) → (xs : List X) → All P xs
each P h [] = All-nil P
each P h (x ∷ xs) = All-cons P x xs (h x) (each P h xs)

both : (f d t : Bool) (r : Bool) → (r ≡ true → f ≡ true) → (t ≡ true → d ≡ true) → (f && (d && (r && t))) ≡ (r && t)
both f d t false h g = none f d
  where
    none : (f d : Bool) → (f && (d && false)) ≡ false
    none true true = refl
    none true false = refl
    none false d = refl
both f d false true h g = none f d
  where
    none : (f d : Bool) → (f && (d && false)) ≡ false
    none true true = refl
    none true false = refl
    none false d = refl
both f d true true h g = rw (h refl, g refl) refl

returned-past : (day : ℕ) (posts : List CorrectedPost) (to n : ℕ) → to ≤ day → is_returned (seen_of day posts) to n ≡ is_returned posts to n
returned-past day posts to n l =
    any-filter test (λ p. nat_le p.day day) (filter (λ p. is_folded p.post) posts)
    ∙ any-filter (λ p. nat_le p.day day && test p) (λ p. is_folded p.post) posts
    ∙ any-same (λ p. is_folded p.post && (nat_le p.day day && test p)) test posts
    (each (λ p. (is_folded p.post && (nat_le p.day day && test p)) ≡ test p) (λ p. both (is_folded p.post) (nat_le p.day day) (nat_le p.day to) (returns n p.post) (return-folded n p.post) (by-then p.day to day l)) posts)
  where
    test : CorrectedPost → Bool
    test p = returns n p.post && nat_le p.day to

pub alike : (F D : Bool) (n : ℕ) → cond F (cond D n n) n ≡ n
alike true true n = refl
alike true false n = refl
alike false D n = refl

seven : (F D A B C R S : Bool) (c : ℕ) → (A ≡ true → F ≡ true) → (C ≡ true → D ≡ true) → R ≡ S → cond F (cond D (cond (A && (B && C) && not R) c 0) 0) 0 ≡ cond (A && (B && C) && not S) c 0
seven F D true true true R S c h g e = rw (h refl, g refl, e) refl
seven F D true true false R S c h g e = alike F D 0
seven F D true false C R S c h g e = alike F D 0
seven F D false B C R S c h g e = alike F D 0

pub counted-past : (day : ℕ) (posts : List CorrectedPost) (from to : ℕ) → to ≤ day → counted (seen_of day posts) from to ≡ counted posts from to
unfolding counted
counted-past day posts from to l =
    sum-filter (worth (seen_of day posts)) (λ p. nat_le p.day day) (filter (λ p. is_folded p.post) posts)
    ∙ sum-filter (λ p. cond (nat_le p.day day) (worth (seen_of day posts) p) 0) (λ p. is_folded p.post) posts
    ∙ sum-same (λ p. cond (is_folded p.post) (cond (nat_le p.day day) (worth (seen_of day posts) p) 0) 0) (worth posts) posts
    (each (λ p. cond (is_folded p.post) (cond (nat_le p.day day) (worth (seen_of day posts) p) 0) 0 ≡ worth posts p) (λ p. seven (is_folded p.post) (nat_le p.day day) (is_payment p.post) (nat_le from p.day) (nat_le p.day to) (is_returned (seen_of day posts) to p.number) (is_returned posts to p.number) p.cents (payment-folded p.post) (by-then p.day to day l) (returned-past day posts to p.number l)) posts)
  where
    worth : List CorrectedPost → CorrectedPost → ℕ
    worth all p = cond (is_payment p.post && is_between from to p && not (is_returned all to p.number)) p.cents 0

-- ---- what the fold of a day sees
pub counted-seen : (seen : Seen) (posts : List CorrectedPost) (from to : ℕ) → seen.posts ≡ seen_of seen.day posts → to ≤ seen.day → counted seen.posts from to ≡ counted posts from to
counted-seen seen posts from to sees l = ap (λ ps. counted ps from to) sees ∙ counted-past seen.day posts from to l
