-- Payments folded before a post, and credits, over the slots of some days.
use Rattle.std.proofs.Common.{◌≡◌, ℕ, ◌≤◌, Bool, true, false, cond, not, ◌&&◌, nat_le, List, map, refl, sym, ap, ◌∙◌, arith}
use Rattle.std.specs.List.{filter, sum_by}
use Rattle.std.proofs.lemmas.Bool.Decides.{nat_tests}
use Rattle.std.proofs.lemmas.List.Elements.{All-weaker}
use Rattle.card_events.specs.declared.anchor.Anchor.{Anchor}
use Rattle.card_events.specs.History.{CorrectedPost, at_number, corrected, is_folded, slot_of}
use Rattle.card_events.specs.declared.kept.Kept.{Kept}
use Rattle.card_events.specs.declared.kept.Slot.{Slot}
use Rattle.card_events.specs.declared.post.Post.{Post}
use Rattle.card_events.specs.declared.post.Post.TheVariants as post
use Rattle.card_model.specs.Payments.{folded_before, is_before, counted, credited, is_between, is_credit, is_payment, is_returned, returns}
use Rattle.card_posts.specs.Posted.{folding_order}
use Rattle.card_fees.specs.Counting.{counts, credits, in_front, is_credit_at, is_payment_at, is_returned_until, since, slots_sum, up_to}
use Rattle.card_fees.specs.declared.returning.Until.TheVariants as until
use Rattle.card_fees.specs.Due.{seen_of}
use Rattle.card_fees.proofs.Fold.{alike, by-then, each, payment-folded, return-folded}
use Rattle.card_fees.proofs.Payments.{Stands, all-stand}
use Rattle.card_fees.proofs.Returned.{returned-corrected}
use Rattle.card_fees.proofs.Slots.{any-filter, any-same, sum-filter, sum-in_order, sum-map, sum-same}

pub front-by : (day number d n : ℕ) → is_before day number d n ≡ true → nat_le d day ≡ true
front-by day number d n e = grind (arith, nat_tests)

-- ---- what is returned in front of a post
both : (R F D : Bool) → (F ≡ true → D ≡ true) → (R && F) ≡ (F && (R && D))
both true true true g = refl
both true true false g = let no : false ≡ true = g refl in absurd (cc)
both true false D g = refl
both false true D g = refl
both false false D g = refl

returned-before : (a : Anchor) (holidays : List ℕ) (history : List Kept) (day number n : ℕ)
    → is_returned_until (until.Post day number) history (corrected a holidays history) n ≡ is_returned (folded_before day number (corrected a holidays history)) day n
returned-before a holidays history day number n =
    returned-corrected (until.Post day number) a holidays history n
    ∙ any-same (λ q. returns n q.post && is_before day number q.day q.number) (λ q. is_before day number q.day q.number && (returns n q.post && nat_le q.day day)) xs
    (each (λ q. (returns n q.post && is_before day number q.day q.number) ≡ (is_before day number q.day q.number && (returns n q.post && nat_le q.day day))) (λ q. both (returns n q.post) (is_before day number q.day q.number) (nat_le q.day day) (front-by day number q.day q.number)) xs)
    ∙ sym (any-filter (λ q. returns n q.post && nat_le q.day day) (λ q. is_before day number q.day q.number) xs)
  where
    xs : List CorrectedPost
    xs = corrected a holidays history

four : (A B D F R S : Bool) (c : ℕ) → (F ≡ true → D ≡ true) → R ≡ S → cond B (cond F (cond (A && not R) c 0) 0) 0 ≡ cond F (cond (A && (B && D) && not S) c 0) 0
four true true true true R S c g h = ap (λ r. cond (not r) c 0) h
four true true false true R S c g h = let no : false ≡ true = g refl in absurd (cc)
four true true D false R S c g h = refl
four true false D true R S c g h = refl
four true false D false R S c g h = refl
four false true D true R S c g h = refl
four false true D false R S c g h = refl
four false false D true R S c g h = refl
four false false D false R S c g h = refl

pub slots-before : (a : Anchor) (holidays : List ℕ) (history : List Kept) (from day number : ℕ)
    → slots_sum (until.Post day number) history (corrected a holidays history) (in_front day number (since from (folding_order (corrected a holidays history))))
    ≡ counted (folded_before day number (corrected a holidays history)) from day
unfolding counted
slots-before a holidays history from day number =
    sum-filter g (λ s. is_before day number s.day s.number) (since from (folding_order xs))
    ∙ sum-filter (λ s. cond (is_before day number s.day s.number) (g s) 0) (λ s. nat_le from s.day) (folding_order xs)
    ∙ sum-in_order (λ s. cond (nat_le from s.day) (cond (is_before day number s.day s.number) (g s) 0) 0) (map slot_of xs)
    ∙ sum-map (λ s. cond (nat_le from s.day) (cond (is_before day number s.day s.number) (g s) 0) 0) slot_of xs
    ∙ sum-same (λ p. cond (nat_le from p.day) (cond (is_before day number p.day p.number) (g (slot_of p)) 0) 0) (λ p. cond (is_before day number p.day p.number) (worth p) 0) xs
    (All-weaker (Stands a holidays history) (λ p. cond (nat_le from p.day) (cond (is_before day number p.day p.number) (g (slot_of p)) 0) 0 ≡ cond (is_before day number p.day p.number) (worth p) 0) one xs (all-stand a holidays history))
    ∙ sym (sum-filter worth (λ p. is_before day number p.day p.number) xs)
  where
    xs : List CorrectedPost
    xs = corrected a holidays history

    g : Slot → ℕ
    g s = counts (until.Post day number) history (corrected a holidays history) s

    worth : CorrectedPost → ℕ
    worth p = cond (is_payment p.post && is_between from day p && not (is_returned (folded_before day number xs) day p.number)) p.cents 0

    one : (p : CorrectedPost) → Stands a holidays history p → cond (nat_le from p.day) (cond (is_before day number p.day p.number) (g (slot_of p)) 0) 0 ≡ cond (is_before day number p.day p.number) (worth p) 0
    one p s =
        let is : is_payment_at (at_number p.number history) ≡ is_payment p.post = ap is_payment_at s.found ∙ ap is_payment (sym s.same) in
        ap (λ b. cond (nat_le from p.day) (cond (is_before day number p.day p.number) (cond (b && not (is_returned_until (until.Post day number) history xs p.number)) p.cents 0) 0) 0) is
        ∙ four (is_payment p.post) (nat_le from p.day) (nat_le p.day day) (is_before day number p.day p.number) (is_returned_until (until.Post day number) history xs p.number) (is_returned (folded_before day number xs) day p.number) p.cents
        (front-by day number p.day p.number)
        (returned-before a holidays history day number p.number)

-- ---- credits
five : (A B C : Bool) (c : ℕ) → cond B (cond C (cond A c 0) 0) 0 ≡ cond (A && (B && C)) c 0
five true true true c = refl
five true true false c = refl
five true false C c = refl
five false true true c = refl
five false true false c = refl
five false false C c = refl

pub slots-credited : (a : Anchor) (holidays : List ℕ) (history : List Kept) (from to : ℕ) → sum_by (credits history) (up_to to (since from (folding_order (corrected a holidays history)))) ≡ credited (corrected a holidays history) from to
unfolding credited
slots-credited a holidays history from to =
    sum-filter (credits history) (λ s. nat_le s.day to) (since from (folding_order xs))
    ∙ sum-filter (λ s. cond (nat_le s.day to) (credits history s) 0) (λ s. nat_le from s.day) (folding_order xs)
    ∙ sum-in_order (λ s. cond (nat_le from s.day) (cond (nat_le s.day to) (credits history s) 0) 0) (map slot_of xs)
    ∙ sum-map (λ s. cond (nat_le from s.day) (cond (nat_le s.day to) (credits history s) 0) 0) slot_of xs
    ∙ sum-same (λ p. cond (nat_le from p.day) (cond (nat_le p.day to) (credits history (slot_of p)) 0) 0) (λ p. cond (is_credit p.post && is_between from to p) p.cents 0) xs
    (All-weaker (Stands a holidays history) (λ p. cond (nat_le from p.day) (cond (nat_le p.day to) (credits history (slot_of p)) 0) 0 ≡ cond (is_credit p.post && is_between from to p) p.cents 0) one xs (all-stand a holidays history))
  where
    xs : List CorrectedPost
    xs = corrected a holidays history

    one : (p : CorrectedPost) → Stands a holidays history p → cond (nat_le from p.day) (cond (nat_le p.day to) (credits history (slot_of p)) 0) 0 ≡ cond (is_credit p.post && is_between from to p) p.cents 0
    one p s =
        let is : is_credit_at (at_number p.number history) ≡ is_credit p.post = ap is_credit_at s.found ∙ ap is_credit (sym s.same) in
        ap (λ b. cond (nat_le from p.day) (cond (nat_le p.day to) (cond b p.cents 0) 0) 0) is
        ∙ five (is_credit p.post) (nat_le from p.day) (nat_le p.day to) p.cents

-- ---- in what the fold of a day sees
credit-folded : (p : Post) → is_credit p ≡ true → is_folded p ≡ true
credit-folded (post.Credit _ _ _) e = refl
credit-folded (post.Payment _ _ _ _) e = refl
credit-folded (post.Return _ _) e = refl
credit-folded (post.Charge _ _ _) e = refl
credit-folded (post.Plan _ _ _ _ _) e = refl
credit-folded (post.Notice _ _ _ _) e = refl
credit-folded (post.Lower _ _ _) e = refl
credit-folded post.Penalty e = refl
credit-folded (post.Dispute _ _ _) e = refl
credit-folded (post.Resolve _ _ _) e = refl
credit-folded (post.Refund _) e = refl
credit-folded (post.Open _ _) e = absurd (cc)
credit-folded (post.OpenVariable _ _) e = absurd (cc)
credit-folded (post.Review _ _) e = absurd (cc)
credit-folded (post.Ack _ _) e = absurd (cc)
credit-folded (post.AskRefund _) e = absurd (cc)
credit-folded (post.Amend _ _ _) e = absurd (cc)
credit-folded (post.Bill _) e = absurd (cc)

six : (F D A B C : Bool) (c : ℕ) → (A ≡ true → F ≡ true) → (C ≡ true → D ≡ true) → cond F (cond D (cond (A && (B && C)) c 0) 0) 0 ≡ cond (A && (B && C)) c 0
six F D true true true c h g = rw (h refl, g refl) refl
six F D true true false c h g = alike F D 0
six F D true false C c h g = alike F D 0
six F D false B C c h g = alike F D 0

pub credited-past : (day : ℕ) (posts : List CorrectedPost) (from to : ℕ) → to ≤ day → credited (seen_of day posts) from to ≡ credited posts from to
unfolding credited
credited-past day posts from to l =
    sum-filter worth (λ p. nat_le p.day day) (filter (λ p. is_folded p.post) posts)
    ∙ sum-filter (λ p. cond (nat_le p.day day) (worth p) 0) (λ p. is_folded p.post) posts
    ∙ sum-same (λ p. cond (is_folded p.post) (cond (nat_le p.day day) (worth p) 0) 0) worth posts
    (each (λ p. cond (is_folded p.post) (cond (nat_le p.day day) (worth p) 0) 0 ≡ worth p) (λ p. six (is_folded p.post) (nat_le p.day day) (is_credit p.post) (nat_le from p.day) (nat_le p.day to) p.cents (credit-folded p.post) (by-then p.day to day l)) posts)
  where
    worth : CorrectedPost → ℕ
    worth p = cond (is_credit p.post && is_between from to p) p.cents 0

seven : (F D T R : Bool) → (R ≡ true → F ≡ true) → (F && (D && (T && (R && D)))) ≡ (T && (R && D))
seven F true T true h = rw (h refl) refl
seven F D T false h = none F D T
  where
    none : (F D T : Bool) → (F && (D && (T && false))) ≡ (T && false)
    none true true T = refl
    none true false true = refl
    none true false false = refl
    none false D true = refl
    none false D false = refl
seven F false T true h = none F T
  where
    none : (F T : Bool) → (F && false) ≡ (T && false)
    none true true = refl
    none true false = refl
    none false true = refl
    none false false = refl

returned-past : (day number : ℕ) (posts : List CorrectedPost) (n : ℕ) → is_returned (folded_before day number (seen_of day posts)) day n ≡ is_returned (folded_before day number posts) day n
returned-past day number posts n =
    any-filter test (λ p. is_before day number p.day p.number) (seen_of day posts)
    ∙ any-filter (λ p. is_before day number p.day p.number && test p) (λ p. nat_le p.day day) (filter (λ p. is_folded p.post) posts)
    ∙ any-filter (λ p. nat_le p.day day && (is_before day number p.day p.number && test p)) (λ p. is_folded p.post) posts
    ∙ any-same (λ p. is_folded p.post && (nat_le p.day day && (is_before day number p.day p.number && test p))) (λ p. is_before day number p.day p.number && test p) posts
    (each (λ p. (is_folded p.post && (nat_le p.day day && (is_before day number p.day p.number && test p))) ≡ (is_before day number p.day p.number && test p)) (λ p. seven (is_folded p.post) (nat_le p.day day) (is_before day number p.day p.number) (returns n p.post) (return-folded n p.post)) posts)
    ∙ sym (any-filter test (λ p. is_before day number p.day p.number) posts)
  where
    test : CorrectedPost → Bool
    test p = returns n p.post && nat_le p.day day

zero-all : (F D T : Bool) (n : ℕ) → cond F (cond D (cond T n n) n) n ≡ cond T n n
zero-all true true T n = refl
zero-all true false true n = refl
zero-all true false false n = refl
zero-all false D true n = refl
zero-all false D false n = refl

eight : (F D T A B R S : Bool) (c : ℕ) → (A ≡ true → F ≡ true) → R ≡ S → cond F (cond D (cond T (cond (A && (B && D) && not R) c 0) 0) 0) 0 ≡ cond T (cond (A && (B && D) && not S) c 0) 0
eight F true T true true R S c h e = rw (h refl, e) refl
eight F false T true true R S c h e = zero-all F false T 0
eight F D T true false R S c h e = zero-all F D T 0
eight F D T false B R S c h e = zero-all F D T 0

pub before-past : (day number : ℕ) (posts : List CorrectedPost) (from : ℕ) → counted (folded_before day number (seen_of day posts)) from day ≡ counted (folded_before day number posts) from day
unfolding counted
before-past day number posts from =
    sum-filter (worth (seen_of day posts)) (λ p. is_before day number p.day p.number) (seen_of day posts)
    ∙ sum-filter (λ p. cond (is_before day number p.day p.number) (worth (seen_of day posts) p) 0) (λ p. nat_le p.day day) (filter (λ p. is_folded p.post) posts)
    ∙ sum-filter (λ p. cond (nat_le p.day day) (cond (is_before day number p.day p.number) (worth (seen_of day posts) p) 0) 0) (λ p. is_folded p.post) posts
    ∙ sum-same (λ p. cond (is_folded p.post) (cond (nat_le p.day day) (cond (is_before day number p.day p.number) (worth (seen_of day posts) p) 0) 0) 0) (λ p. cond (is_before day number p.day p.number) (worth posts p) 0) posts
    (each (λ p. cond (is_folded p.post) (cond (nat_le p.day day) (cond (is_before day number p.day p.number) (worth (seen_of day posts) p) 0) 0) 0 ≡ cond (is_before day number p.day p.number) (worth posts p) 0)
    (λ p. eight (is_folded p.post) (nat_le p.day day) (is_before day number p.day p.number) (is_payment p.post) (nat_le from p.day) (is_returned (folded_before day number (seen_of day posts)) day p.number) (is_returned (folded_before day number posts) day p.number) p.cents (payment-folded p.post) (returned-past day number posts p.number)) posts)
    ∙ sym (sum-filter (worth posts) (λ p. is_before day number p.day p.number) posts)
  where
    worth : List CorrectedPost → CorrectedPost → ℕ
    worth all p = cond (is_payment p.post && is_between from day p && not (is_returned (folded_before day number all) day p.number)) p.cents 0

nine : (F D T A B : Bool) (c : ℕ) → (A ≡ true → F ≡ true) → cond F (cond D (cond T (cond (A && (B && D)) c 0) 0) 0) 0 ≡ cond T (cond (A && (B && D)) c 0) 0
nine F true T true true c h = rw (h refl) refl
nine F false T true true c h = zero-all F false T 0
nine F D T true false c h = zero-all F D T 0
nine F D T false B c h = zero-all F D T 0

pub credited-before-past : (day number : ℕ) (posts : List CorrectedPost) (from : ℕ) → credited (folded_before day number (seen_of day posts)) from day ≡ credited (folded_before day number posts) from day
unfolding credited
credited-before-past day number posts from =
    sum-filter worth (λ p. is_before day number p.day p.number) (seen_of day posts)
    ∙ sum-filter (λ p. cond (is_before day number p.day p.number) (worth p) 0) (λ p. nat_le p.day day) (filter (λ p. is_folded p.post) posts)
    ∙ sum-filter (λ p. cond (nat_le p.day day) (cond (is_before day number p.day p.number) (worth p) 0) 0) (λ p. is_folded p.post) posts
    ∙ sum-same (λ p. cond (is_folded p.post) (cond (nat_le p.day day) (cond (is_before day number p.day p.number) (worth p) 0) 0) 0) (λ p. cond (is_before day number p.day p.number) (worth p) 0) posts
    (each (λ p. cond (is_folded p.post) (cond (nat_le p.day day) (cond (is_before day number p.day p.number) (worth p) 0) 0) 0 ≡ cond (is_before day number p.day p.number) (worth p) 0)
    (λ p. nine (is_folded p.post) (nat_le p.day day) (is_before day number p.day p.number) (is_credit p.post) (nat_le from p.day) p.cents (credit-folded p.post)) posts)
    ∙ sym (sum-filter worth (λ p. is_before day number p.day p.number) posts)
  where
    worth : CorrectedPost → ℕ
    worth p = cond (is_credit p.post && is_between from day p) p.cents 0
