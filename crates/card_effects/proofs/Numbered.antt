-- Posts by their numbers, as the fold of a day sees them.
use Rattle.std.proofs.Common.{◌≡◌, ℕ, suc, ◌+◌, ◌<◌, ◌≤◌, Bool, true, false, cond, ◌&&◌, eqb, leb, List, [], ◌∷◌, refl, sym, ap, ◌∙◌, subst, arith, Option, Some, None}
use Rattle.std.specs.Prelude.{IfSome, option_map, slice_get}
use Rattle.std.specs.List.{All, filter}
use Rattle.std.proofs.lemmas.Bool.{eqb-true, leb-true, ne_eqb}
use Rattle.std.proofs.lemmas.List.Elements.{All-cons, All-head, All-nil, All-tail}
use Rattle.card_bounds.proofs.Totals.{Numbers, numbers-filter, slots-number}
use Rattle.card_events.specs.declared.anchor.Anchor.{Anchor}
use Rattle.card_events.specs.History.{CorrectedPost, anchor_of, at_number, corrected, corrected_from, corrected_post, is_folded, next_segment, slot_of}
use Rattle.card_events.specs.SharedRows.{SharedRows}
use Rattle.card_events.specs.declared.kept.Kept.{Kept}
use Rattle.card_events.specs.declared.kept.Slot.{Slot}
use Rattle.card_events.specs.declared.post.Post.{Post}
use Rattle.card_model.specs.Cycles.{IssuedRow, post_at}
use Rattle.card_model.specs.Effects.{charge_at, is_charge}
use Rattle.card_posts.specs.Posted.{slot_with}
use Rattle.card_rates.specs.Laws.{seen_in}
use Rattle.card_rates.proofs.Posts.{Stands}
use Rattle.card_rates.specs.Days.{day_post, found_for, only_folded, slot_post}
use Rattle.card_rates.specs.declared.day.DayPost.{DayPost}
use Rattle.card_effects.specs.Seen.{charge_seen, if_charge, post_by, post_seen}

absent : (low n : ℕ) (ps : List CorrectedPost) → Numbers low ps → n < low → post_at n ps ≡ None
absent low n [] h l = refl
absent low n (p ∷ ps) h l =
    let first = h.0 in
    let other : eqb p.number n ≡ false = ne_eqb p.number n (λ e. omega (arith, first, l, e)) in
    rw other (absent (suc p.number) n ps h.1 (omega (arith, first, l)))

-- ---- the post with a number among some of the posts
abbrev keep : (CorrectedPost → Bool) → Option CorrectedPost → Option CorrectedPost
keep q None = None
keep q (Some p) = cond (q p) (Some p) None

none-kept : (q : CorrectedPost → Bool) (o : Option CorrectedPost) → o ≡ None → keep q o ≡ None
none-kept q o e = ap (keep q) e

post-filter : (n low : ℕ) (q : CorrectedPost → Bool) (ps : List CorrectedPost) → Numbers low ps → post_at n (filter q ps) ≡ keep q (post_at n ps)
post-filter n low q [] h = refl
post-filter n low q (p ∷ ps) h = by (q p) (eqb p.number n) refl refl (post-filter n (suc p.number) q ps h.1)
  where
    by : (t u : Bool) → q p ≡ t → eqb p.number n ≡ u → post_at n (filter q ps) ≡ keep q (post_at n ps) → post_at n (cond t (p ∷ filter q ps) (filter q ps)) ≡ keep q (cond u (Some p) (post_at n ps))
    by true true e f ih = rw (f, e) refl
    by true false e f ih = rw f ih
    by false true e f ih = rw e (ih ∙ none-kept q (post_at n ps) (absent (suc p.number) n ps h.1 (let same = eqb-true p.number n f in omega (arith, same))))
    by false false e f ih = ih

abbrev charges : CorrectedPost → Bool
charges p = is_charge p.post

charge-of : (n low : ℕ) (ps : List CorrectedPost) → Numbers low ps → charge_at n ps ≡ keep charges (post_at n ps)
charge-of n low [] h = refl
charge-of n low (p ∷ ps) h = by (is_charge p.post) (eqb p.number n) refl refl (charge-of n (suc p.number) ps h.1)
  where
    by : (t u : Bool) → is_charge p.post ≡ t → eqb p.number n ≡ u → charge_at n ps ≡ keep charges (post_at n ps) → cond (u && t) (Some p) (charge_at n ps) ≡ keep charges (cond u (Some p) (post_at n ps))
    by true true e f ih = rw e refl
    by false true e f ih = rw e (ih ∙ none-kept charges (post_at n ps) (absent (suc p.number) n ps h.1 (let same = eqb-true p.number n f in omega (arith, same))))
    by t false e f ih = ih

found-all : (P : CorrectedPost → Type 0) (n : ℕ) (ps : List CorrectedPost) (p : CorrectedPost) → All P ps → post_at n ps ≡ Some p → P p
found-all P n [] p h e = absurd (no e)
  where
    no : None ≡ Some p → ⊥
    no e = cc
found-all P n (x ∷ ps) p h e = by (eqb x.number n) e (λ f. found-all P n ps p (All-tail P x ps h) f)
  where
    by : (t : Bool) → cond t (Some x) (post_at n ps) ≡ Some p → (post_at n ps ≡ Some p → P p) → P p
    by true e ih = let same : x ≡ p = cc in subst P same (All-head P x ps h)
    by false e ih = ih e

-- ---- a post of the corrected list has the content of the post with its number
stand-from : (a : Anchor) (holidays : List ℕ) (history : List Kept) (n segment : ℕ) (ks : List Kept) → ((i : ℕ) → slice_get ks i ≡ at_number (n + i) history) → All (Stands history) (corrected_from a holidays history n segment ks)
unfolding corrected_from corrected_post
stand-from a holidays history n segment [] h = All-nil (Stands history)
stand-from a holidays history n segment (k ∷ ks) h =
    let here : n + 0 ≡ n = omega arith in
    All-cons (Stands history) (corrected_post a holidays history n segment k) (corrected_from a holidays history (suc n) (next_segment segment k.post) ks)
    (record { kept = k; found = sym (h 0 ∙ ap (λ m. at_number m history) here); same = refl })
    (stand-from a holidays history (suc n) (next_segment segment k.post) ks (λ i. let next : n + suc i ≡ suc n + i = omega arith in h (suc i) ∙ ap (λ m. at_number m history) next))

all-stand : (a : Anchor) (holidays : List ℕ) (history : List Kept) → All (Stands history) (corrected a holidays history)
all-stand a holidays history = stand-from a holidays history 1 5 history (λ i. let next : suc i ≡ 1 + i = omega arith in ap (λ m. at_number m history) next)

abbrev made : Slot → Post → DayPost
made s p = record { slot = s; post = p }

slot-found : (history : List Kept) (p : CorrectedPost) → Stands history p → found_for history (Some (slot_of p)) ≡ Some (day_post p)
slot-found history p s = ap (option_map (slot_post (slot_of p))) s.found ∙ ap (λ (q : Post). Some (made (slot_of p) q)) (sym s.same)

-- ---- the post with a number
pub seen-is : (history : List Kept) (issued : List IssuedRow) (shared : SharedRows) (day n : ℕ)
    → post_by day history (slot_with n (corrected (anchor_of history) shared.holidays history)) ≡ post_seen (seen_in history issued shared day) n
seen-is history issued shared day n =
    let a = anchor_of history in
    let cs = corrected a shared.holidays history in
    let numbers : Numbers 1 cs = slots-number a shared.holidays history 1 5 history in
    let folds : CorrectedPost → Bool = λ (p : CorrectedPost). is_folded p.post in
    let early : CorrectedPost → Bool = λ (p : CorrectedPost). leb p.day day in
    both (post_at n cs) refl
    ∙ ap (option_map day_post) (sym (post-filter n 1 early (filter folds cs) (numbers-filter folds 1 cs numbers) ∙ ap (keep early) (post-filter n 1 folds cs numbers)))
  where
    each : (p : CorrectedPost) (t u : Bool) → leb p.day day ≡ t → is_folded p.post ≡ u → found_for history (Some (slot_of p)) ≡ Some (day_post p)
        → cond t (only_folded (found_for history (Some (slot_of p)))) None ≡ option_map day_post (keep (λ (q : CorrectedPost). leb q.day day) (cond u (Some p) None))
    each p true true e f found = ap only_folded found ∙ rw (f, e) refl
    each p true false e f found = ap only_folded found ∙ rw f refl
    each p false true e f found = rw e refl
    each p false false e f found = refl

    both : (o : Option CorrectedPost) → post_at n (corrected (anchor_of history) shared.holidays history) ≡ o
        → post_by day history (option_map slot_of o) ≡ option_map day_post (keep (λ (q : CorrectedPost). leb q.day day) (keep (λ (q : CorrectedPost). is_folded q.post) o))
    both None e = refl
    both (Some p) e =
        each p (leb p.day day) (is_folded p.post) refl refl
        (slot-found history p (found-all (Stands history) n (corrected (anchor_of history) shared.holidays history) p (all-stand (anchor_of history) shared.holidays history) e))

-- it counts by the day
pub seen-by : (day : ℕ) (history : List Kept) (o : Option Slot) → IfSome (post_by day history o) (λ p. p.slot.day ≤ day)
seen-by day history None = tt
seen-by day history (Some s) = by (leb s.day day) refl
  where
    kept : (o : Option Kept) → s.day ≤ day → IfSome (only_folded (option_map (slot_post s) o)) (λ p. p.slot.day ≤ day)
    kept None l = tt
    kept (Some k) l = folds (is_folded k.post)
      where
        folds : (t : Bool) → IfSome (cond t (Some (slot_post s k)) None) (λ p. p.slot.day ≤ day)
        folds true = l
        folds false = tt

    by : (t : Bool) → leb s.day day ≡ t → IfSome (cond t (only_folded (found_for history (Some s))) None) (λ p. p.slot.day ≤ day)
    by true e = kept (at_number s.number history) (leb-true s.day day e)
    by false e = tt

-- ---- the charge with a number
abbrev pub charge_in : Option DayPost → Option DayPost
charge_in None = None
charge_in (Some p) = if_charge p

charge-in : (o : Option CorrectedPost) → charge_in (option_map day_post o) ≡ option_map day_post (keep charges o)
charge-in None = refl
charge-in (Some p) = by (is_charge p.post)
  where
    by : (t : Bool) → cond t (Some (day_post p)) None ≡ option_map day_post (cond t (Some p) None)
    by true = refl
    by false = refl

pub charge-is : (history : List Kept) (issued : List IssuedRow) (shared : SharedRows) (day n : ℕ) → charge_in (post_seen (seen_in history issued shared day) n) ≡ charge_seen (seen_in history issued shared day) n
charge-is history issued shared day n =
    let a = anchor_of history in
    let cs = corrected a shared.holidays history in
    let folds : CorrectedPost → Bool = λ (p : CorrectedPost). is_folded p.post in
    let early : CorrectedPost → Bool = λ (p : CorrectedPost). leb p.day day in
    let seen = filter early (filter folds cs) in
    let numbers : Numbers 1 seen = numbers-filter early 1 (filter folds cs) (numbers-filter folds 1 cs (slots-number a shared.holidays history 1 5 history)) in
    charge-in (post_at n seen) ∙ ap (option_map day_post) (sym (charge-of n 1 seen numbers))
