-- What was counted up to a post is right for all lists of posts whose folds see the same posts up to a day, and on later days.
use Rattle.std.proofs.Common.{◌≡◌, ℕ, ◌+◌, ◌≤◌, inl, inr, Bool, true, false, cond, not, ◌&&◌, nat_le, List, [], ◌∷◌, refl, sym, ap, ◌∙◌, arith}
use Rattle.std.specs.List.{filter}
use Rattle.std.proofs.lemmas.Bool.Decides.{nat_tests}
use Rattle.std.proofs.lemmas.Option.{IfSome_then}
use Rattle.card_events.specs.History.{CorrectedPost, is_folded}
use Rattle.card_model.specs.Payments.{folded_before, is_before, counted, credited, is_between, is_credit, is_payment, is_returned}
use Rattle.card_fees.specs.Due.{seen_of}
use Rattle.card_fees.specs.Tallied.{IsBy, IsSumOf, IsTallyOf, credited_before, paid_before}
use Rattle.card_fees.specs.declared.tally.Sum.{Sum}
use Rattle.card_fees.specs.declared.tally.Tally.{Tally}
use Rattle.card_fees.proofs.Before.{before-past, credited-before-past, credited-past}
use Rattle.card_fees.proofs.Fold.{by-then, counted-past, each}
use Rattle.card_fees.proofs.Slots.{sum-filter, sum-same}
use Rattle.card_fees.proofs.Tallied.{begins-by, by-next, returned-days}

-- ---- whole days
days : (A L T N R S : Bool) (c : ℕ) → (T ≡ true → N ≡ true) → R ≡ S → cond T (cond (A && (L && N) && not R) c 0) 0 ≡ cond (A && (L && T) && not S) c 0
days true true true true R S c g h = ap (λ r. cond (not r) c 0) h
days true true true false R S c g h = let no : false ≡ true = g refl in absurd (cc)
days true false true N R S c g h = refl
days false L true N R S c g h = refl
days true true false N R S c g h = refl
days true false false N R S c g h = refl
days false L false N R S c g h = refl

-- before the first post of the next day stand the posts of whole days
pub paid-days : (posts : List CorrectedPost) (from to : ℕ) → paid_before posts from (to + 1) 0 ≡ counted posts from to
unfolding counted
paid-days posts from to =
    sum-filter worth (λ p. is_before (to + 1) 0 p.day p.number) posts
    ∙ sum-same (λ p. cond (is_before (to + 1) 0 p.day p.number) (worth p) 0) whole posts
    (each (λ p. cond (is_before (to + 1) 0 p.day p.number) (worth p) 0 ≡ whole p) one posts)
  where
    worth : CorrectedPost → ℕ
    worth p = cond (is_payment p.post && is_between from (to + 1) p && not (is_returned (folded_before (to + 1) 0 posts) (to + 1) p.number)) p.cents 0

    whole : CorrectedPost → ℕ
    whole p = cond (is_payment p.post && is_between from to p && not (is_returned posts to p.number)) p.cents 0

    one : (p : CorrectedPost) → cond (is_before (to + 1) 0 p.day p.number) (worth p) 0 ≡ whole p
    one p =
        ap (λ b. cond b (worth p) 0) (by-next to p.day p.number)
        ∙ days (is_payment p.post) (nat_le from p.day) (nat_le p.day to) (nat_le p.day (to + 1)) (is_returned (folded_before (to + 1) 0 posts) (to + 1) p.number) (is_returned posts to p.number) p.cents
        (by-then p.day to (to + 1) (omega arith)) (returned-days posts to p.number)

credit-days : (A L T N : Bool) (c : ℕ) → (T ≡ true → N ≡ true) → cond T (cond (A && (L && N)) c 0) 0 ≡ cond (A && (L && T)) c 0
credit-days true true true true c g = refl
credit-days true true true false c g = let no : false ≡ true = g refl in absurd (cc)
credit-days true false true N c g = refl
credit-days false L true N c g = refl
credit-days true true false N c g = refl
credit-days true false false N c g = refl
credit-days false L false N c g = refl

pub credited-days : (posts : List CorrectedPost) (from to : ℕ) → credited_before posts from (to + 1) 0 ≡ credited posts from to
unfolding credited
credited-days posts from to =
    sum-filter worth (λ p. is_before (to + 1) 0 p.day p.number) posts
    ∙ sum-same (λ p. cond (is_before (to + 1) 0 p.day p.number) (worth p) 0) whole posts
    (each (λ p. cond (is_before (to + 1) 0 p.day p.number) (worth p) 0 ≡ whole p) one posts)
  where
    worth : CorrectedPost → ℕ
    worth p = cond (is_credit p.post && is_between from (to + 1) p) p.cents 0

    whole : CorrectedPost → ℕ
    whole p = cond (is_credit p.post && is_between from to p) p.cents 0

    one : (p : CorrectedPost) → cond (is_before (to + 1) 0 p.day p.number) (worth p) 0 ≡ whole p
    one p =
        ap (λ b. cond b (worth p) 0) (by-next to p.day p.number)
        ∙ credit-days (is_credit p.post) (nat_le from p.day) (nat_le p.day to) (nat_le p.day (to + 1)) p.cents (by-then p.day to (to + 1) (omega arith))

next-paid : (last day number from : ℕ) (posts : List CorrectedPost) → day ≡ last + 1 → number ≡ 0 → paid_before posts from day number ≡ counted posts from last
next-paid last day number from posts d n = ap (λ x. paid_before posts from x number) d ∙ ap (paid_before posts from (last + 1)) n ∙ paid-days posts from last

next-credited : (last day number from : ℕ) (posts : List CorrectedPost) → day ≡ last + 1 → number ≡ 0 → credited_before posts from day number ≡ credited posts from last
next-credited last day number from posts d n = ap (λ x. credited_before posts from x number) d ∙ ap (credited_before posts from (last + 1)) n ∙ credited-days posts from last

-- what was counted at the end of a day is the sum of whole days
pub tally-sum : (posts : List CorrectedPost) (last to : ℕ) (t : Tally) → t.day ≡ to + 1 → t.number ≡ 0 → to ≤ last → IsTallyOf posts last t
    → IsSumOf posts last (record { from = t.from; to = to; paid = t.paid; credited = t.credited })
tally-sum posts last to t d n l h = record { paid = h.paid ∙ next-paid to t.day t.number t.from posts d n; credited = h.credited ∙ next-credited to t.day t.number t.from posts d n; by = l }

pub whole-by : (last to day : ℕ) → day ≡ to + 1 → to ≤ last → IsBy last day 0
whole-by last to day d l = begins-by day last (omega (arith, d, l))

pub by-end : (last day number : ℕ) → IsBy last day number → day ≤ last + 1
by-end last day number (inl l) = omega (arith, l)
by-end last day number (inr (d, n)) = omega (arith, d)

-- ---- on later days
by-later : (last later day number : ℕ) → last ≤ later → IsBy last day number → IsBy later day number
by-later last later day number l (inl d) = inl (omega arith)
by-later last later day number l (inr (d, n)) = by (nat_le day later) refl
  where
    by : (b : Bool) → nat_le day later ≡ b → IsBy later day number
    by true e = let low : day ≤ later = grind (arith, nat_tests) in inl low
    by false e =
        let high : later + 1 ≤ day = grind (arith, nat_tests) in
        let same : day ≡ later + 1 = omega (arith, high, d, l) in
        inr (same, n)

sum-stays : (posts : List CorrectedPost) (last later : ℕ) (s : Sum) → last ≤ later → IsSumOf posts last s → IsSumOf posts later s
sum-stays posts last later s l h = record { paid = h.paid; credited = h.credited; by = omega (arith, l, h.by) }

pub tallies-stay : (last later : ℕ) (posts : List CorrectedPost) (t : Tally) → last ≤ later → IsTallyOf posts last t → IsTallyOf posts later t
tallies-stay last later posts t l h =
    record {
      paid = h.paid;
      credited = h.credited;
      stands = by-later last later t.day t.number l h.stands;
      due = IfSome_then t.due h.due (λ s is. sum-stays posts last later s l is);
      before = IfSome_then t.before h.before (λ s is. sum-stays posts last later s l is);
    }

-- ---- for other posts
filter-less : {X : Type 0} (p q : X → Bool) (xs : List X) → ((x : X) → p x ≡ true → q x ≡ true) → filter p (filter q xs) ≡ filter p xs
filter-less p q [] h = refl
filter-less p q (x ∷ xs) h = at (p x) (q x) refl refl (h x) (filter-less p q xs h)
  where
    at : (P Q : Bool) → p x ≡ P → q x ≡ Q → (p x ≡ true → q x ≡ true) → filter p (filter q xs) ≡ filter p xs → filter p (filter q (x ∷ xs)) ≡ filter p (x ∷ xs)
    at true true e f g r = rw (f, e) (ap (λ l. x ∷ l) r)
    at true false e f g r = let no : q x ≡ true = g e in absurd (cc)
    at false true e f g r = rw (f, e) r
    at false false e f g r = rw (f, e) r

-- what is seen of a day is seen of a later one
seen-less : (day last : ℕ) (posts : List CorrectedPost) → day ≤ last → filter (λ p. nat_le p.day day) (seen_of last posts) ≡ seen_of day posts
seen-less day last posts l = filter-less (λ p. nat_le p.day day) (λ p. nat_le p.day last) (filter (λ p. is_folded p.post) posts) (λ p. by-then p.day day last l)

seen-same : (day last : ℕ) (old new : List CorrectedPost) → day ≤ last → seen_of last old ≡ seen_of last new → seen_of day old ≡ seen_of day new
seen-same day last old new l e = sym (seen-less day last old l) ∙ ap (filter (λ p. nat_le p.day day)) e ∙ seen-less day last new l

counted-same : (last : ℕ) (old new : List CorrectedPost) (from to : ℕ) → to ≤ last → seen_of last old ≡ seen_of last new → counted old from to ≡ counted new from to
counted-same last old new from to l e = sym (counted-past last old from to l) ∙ ap (λ ps. counted ps from to) e ∙ counted-past last new from to l

credited-same : (last : ℕ) (old new : List CorrectedPost) (from to : ℕ) → to ≤ last → seen_of last old ≡ seen_of last new → credited old from to ≡ credited new from to
credited-same last old new from to l e = sym (credited-past last old from to l) ∙ ap (λ ps. credited ps from to) e ∙ credited-past last new from to l

paid-same : (last day number from : ℕ) (old new : List CorrectedPost) → seen_of last old ≡ seen_of last new → IsBy last day number → paid_before old from day number ≡ paid_before new from day number
paid-same last day number from old new e (inl l) =
    sym (before-past day number old from)
    ∙ ap (λ ps. counted (folded_before day number ps) from day) (seen-same day last old new l e)
    ∙ before-past day number new from
paid-same last day number from old new e (inr (d, n)) = next-paid last day number from old d n ∙ counted-same last old new from last (omega arith) e ∙ sym (next-paid last day number from new d n)

credited-alike : (last day number from : ℕ) (old new : List CorrectedPost) → seen_of last old ≡ seen_of last new → IsBy last day number → credited_before old from day number ≡ credited_before new from day number
credited-alike last day number from old new e (inl l) =
    sym (credited-before-past day number old from)
    ∙ ap (λ ps. credited (folded_before day number ps) from day) (seen-same day last old new l e)
    ∙ credited-before-past day number new from
credited-alike last day number from old new e (inr (d, n)) = next-credited last day number from old d n ∙ credited-same last old new from last (omega arith) e ∙ sym (next-credited last day number from new d n)

sum-goes-on : (last : ℕ) (old new : List CorrectedPost) (s : Sum) → seen_of last old ≡ seen_of last new → IsSumOf old last s → IsSumOf new last s
sum-goes-on last old new s e h =
    record {
      paid = h.paid ∙ counted-same last old new s.from s.to h.by e;
      credited = h.credited ∙ credited-same last old new s.from s.to h.by e;
      by = h.by;
    }

pub tallies-go-on : (last : ℕ) (old new : List CorrectedPost) (t : Tally) → seen_of last old ≡ seen_of last new → IsTallyOf old last t → IsTallyOf new last t
tallies-go-on last old new t e h =
    record {
      paid = h.paid ∙ paid-same last t.day t.number t.from old new e h.stands;
      credited = h.credited ∙ credited-alike last t.day t.number t.from old new e h.stands;
      stands = h.stands;
      due = IfSome_then t.due h.due (λ s is. sum-goes-on last old new s e is);
      before = IfSome_then t.before h.before (λ s is. sum-goes-on last old new s e is);
    }
