-- A post that changes nothing up to the day reached leaves what was folded.
use Rattle.std.proofs.Common.{◌≡◌, ℕ, suc, ◌+◌, ◌<◌, ◌≤◌, ◌⊎◌, ◌||◌, inl, inr, Bool, true, false, nat_le, List, [], ◌∷◌, ◌++◌, drop, length, refl, sym, ap, ◌∙◌, subst, arith, Option, None}
use Rattle.std.specs.Prelude.{nat_lt}
use Rattle.std.specs.List.{All}
use Rattle.std.proofs.lemmas.Bool.{cases_lt, le-leb, ltb-false}
use Rattle.std.proofs.lemmas.List.Elements.{All-cons, All-filter, All-head, All-nil, All-tail, All-weaker, filter-append}
use Rattle.card_events.specs.declared.anchor.Anchor.{Anchor}
use Rattle.card_events.specs.History.{CorrectedPost, anchor_of, corrected, corrected_from, corrected_post, effective_day, next_segment}
use Rattle.card_events.specs.declared.kept.Kept.{Kept}
use Rattle.card_events.specs.declared.post.Post.{Post}
use Rattle.card_events.specs.declared.post.Post.TheVariants as post
use Rattle.card_events.specs.declared.reply.Refusal.{Refusal}
use Rattle.card_events.specs.declared.reply.Refusal.TheVariants as refusal
use Rattle.card_model.specs.Refusals.{Present, day_ahead, reason_against, reasons, where_true}
use Rattle.card_posts.specs.Change.{IsFirstChange, up_to}
use Rattle.card_reasons.proofs.ReasonLemmas.{none_from, none_head, where_none}
use Rattle.card_daily.specs.Given.{Given}
use Rattle.card_book.specs.GoingOn.{sets_rates}
use Rattle.card_replay.proofs.Changed.{continues-before}
use Rattle.card_replay.proofs.Unread.{folding-on}
use Rattle.card_book.specs.Laws.{is_bill}
use Rattle.card_replay.specs.Needs.{needs_today}
use Rattle.card_replay.specs.Rewinds.{IsOneMore}
use Rattle.card_replay.specs.Replays.{Folding, IsFolding}

-- ---- the corrected list of one post more
-- no number is as great as the count
numbers-below : (a : Anchor) (holidays : List ℕ) (hs : List Kept) (n s : ℕ) (ks : List Kept) → All (λ (p : CorrectedPost). p.number < n + length ks) (corrected_from a holidays hs n s ks)
unfolding corrected_from corrected_post
numbers-below a holidays hs n s [] = All-nil (λ (p : CorrectedPost). p.number < n + 0)
numbers-below a holidays hs n s (k ∷ ks) =
    All-cons (λ (p : CorrectedPost). p.number < n + suc (length ks)) (corrected_post a holidays hs n s k) (corrected_from a holidays hs (suc n) (next_segment s k.post) ks) (omega arith)
    (All-weaker (λ (p : CorrectedPost). p.number < suc n + length ks) (λ (p : CorrectedPost). p.number < n + suc (length ks)) (λ p l. omega (arith, l)) (corrected_from a holidays hs (suc n) (next_segment s k.post) ks)
    (numbers-below a holidays hs (suc n) (next_segment s k.post) ks))

-- the last one's number is the count
record HasLast (a : Anchor) (holidays : List ℕ) (hs : List Kept) (n s : ℕ) (ks : List Kept) (k : Kept) : Type 0 where
  pub front : List CorrectedPost
  pub number : ℕ
  pub segment : ℕ
  pub place : number ≡ n + length ks
  pub is : corrected_from a holidays hs n s (ks ++ k ∷ []) ≡ front ++ corrected_post a holidays hs number segment k ∷ []

has-last : (a : Anchor) (holidays : List ℕ) (hs : List Kept) (n s : ℕ) (ks : List Kept) (k : Kept) → HasLast a holidays hs n s ks k
unfolding corrected_from
has-last a holidays hs n s [] k = record { front = []; number = n; segment = s; place = omega arith; is = refl }
has-last a holidays hs n s (x ∷ ks) k =
    let r = has-last a holidays hs (suc n) (next_segment s x.post) ks k in
    let place = r.place in
    record {
      front = corrected_post a holidays hs n s x ∷ r.front;
      number = r.number;
      segment = r.segment;
      place = omega (arith, place);
      is = ap (λ l. corrected_post a holidays hs n s x ∷ l) r.is;
    }

-- so no day from its own on is before the first change
all-last : (P : CorrectedPost → Type 0) (xs : List CorrectedPost) (x : CorrectedPost) → All P (xs ++ x ∷ []) → P x
all-last P [] x h = All-head P x [] h
all-last P (y ∷ ys) x h = all-last P ys x (All-tail P y (ys ++ x ∷ []) h)

same-number : (a : Anchor) (holidays : List ℕ) (hs : List Kept) (n s : ℕ) (k : Kept) → (corrected_post a holidays hs n s k).number ≡ n
unfolding corrected_post
same-number a holidays hs n s k = refl

same-day : (a : Anchor) (holidays : List ℕ) (hs : List Kept) (n s : ℕ) (k : Kept) → (corrected_post a holidays hs n s k).day ≡ effective_day a holidays hs n k.accepted k.post
unfolding corrected_post
same-day a holidays hs n s k = refl

pub first-by : (a b : Anchor) (holidays others : List ℕ) (h g : List Kept) (k : Kept) (from day : ℕ) → g ≡ h ++ k ∷ [] → IsFirstChange from (corrected a holidays h) (corrected b others g)
    → ((n : ℕ) → effective_day b others g n k.accepted k.post ≡ day) → from ≤ day
first-by a b holidays others h g k from day is change dated = by (cases_lt day from)
  where
    by : (day < from) ⊎ (from ≤ day) → from ≤ day
    by (inr l) = l
    by (inl l) =
        let last = has-last b others g 1 5 h k in
        let q = corrected_post b others g last.number last.segment k in
        let all : corrected b others g ≡ last.front ++ q ∷ [] = ap (λ ks. corrected_from b others g 1 5 ks) is ∙ last.is in
        let on : q.day ≡ day = same-day b others g last.number last.segment k ∙ dated last.number in
        let early : nat_le q.day day ≡ true = le-leb q.day day (omega (arith, on)) in
        let one : up_to day (q ∷ []) ≡ q ∷ [] = rw early refl in
        let new : up_to day (corrected b others g) ≡ up_to day last.front ++ q ∷ [] = ap (up_to day) all ∙ (filter-append (λ (p : CorrectedPost). nat_le p.day day) last.front (q ∷ []) ∙ ap (λ u. up_to day last.front ++ u) one) in
        let old = All-filter (λ (p : CorrectedPost). nat_le p.day day) (λ (p : CorrectedPost). p.number < 1 + length h) (corrected a holidays h) (numbers-below a holidays h 1 5 h) in
        let there = subst (All (λ (p : CorrectedPost). p.number < 1 + length h)) (sym (change.before day l) ∙ new) old in
        let few = all-last (λ (p : CorrectedPost). p.number < 1 + length h) (up_to day last.front) q there in
        let number = same-number b others g last.number last.segment k in
        let place = last.place in
        absurd (omega (arith, few, number, place))

-- ---- posts that set rates count by today
ahead-none : (now : Present) (p : Post) → reason_against now p ≡ None → day_ahead now.today p ≡ None
unfolding reason_against
ahead-none now p none = none_head (day_ahead now.today p) (drop 2 (reasons now p)) (none_from 1 (reasons now p) none)

abbrev where_ahead : ℕ → ℕ → Option Refusal
where_ahead today day = where_true (nat_lt today day) refusal.DayAhead

by-today : (now : Present) (p : Post) (day : ℕ) → day_ahead now.today p ≡ where_ahead now.today day → reason_against now p ≡ None → day ≤ now.today
by-today now p day is none = ltb-false now.today day (where_none (nat_lt now.today day) refusal.DayAhead (sym is ∙ ahead-none now p none))

early : (now : Present) (old g : Given) (p : Post) (from day : ℕ) → now.today < from → IsOneMore old g p from → day ≤ now.today
    → ((n accepted : ℕ) → effective_day (anchor_of g.history) g.shared.holidays g.history n accepted p ≡ day) → ⊥
early now old g p from day late h l dated =
    let first = first-by (anchor_of old.history) (anchor_of g.history) old.shared.holidays g.shared.holidays old.history g.history h.kept from day h.history h.first
    (λ n. ap (effective_day (anchor_of g.history) g.shared.holidays g.history n h.kept.accepted) h.post ∙ dated n h.kept.accepted) in
    omega (arith, first, l, late)

late-plain : (now : Present) (old g : Given) (p : Post) (from : ℕ) → reason_against now p ≡ None → now.today < from → IsOneMore old g p from → sets_rates p ≡ false
unfolding effective_day
late-plain now old g (post.Plan d k r w f) from none late h = absurd (early now old g (post.Plan d k r w f) from d late h (by-today now (post.Plan d k r w f) d refl none) (λ n accepted. refl))
late-plain now old g (post.Notice d y r w) from none late h = absurd (early now old g (post.Notice d y r w) from d late h (by-today now (post.Notice d y r w) d refl none) (λ n accepted. refl))
late-plain now old g (post.Lower d y r) from none late h = absurd (early now old g (post.Lower d y r) from d late h (by-today now (post.Lower d y r) d refl none) (λ n accepted. refl))
late-plain now old g (post.Bill cycle) from none late h = refl
late-plain now old g (post.Review d f) from none late h = refl
late-plain now old g (post.Ack d t) from none late h = refl
late-plain now old g (post.AskRefund d) from none late h = refl
late-plain now old g (post.Open d t) from none late h = refl
late-plain now old g (post.OpenVariable d t) from none late h = refl
late-plain now old g (post.Charge d q c) from none late h = refl
late-plain now old g (post.Credit d q c) from none late h = refl
late-plain now old g (post.Payment d m y c) from none late h = refl
late-plain now old g (post.Return d t) from none late h = refl
late-plain now old g post.Penalty from none late h = refl
late-plain now old g (post.Dispute d t c) from none late h = refl
late-plain now old g (post.Resolve d t c) from none late h = refl
late-plain now old g (post.Refund c) from none late h = refl
late-plain now old g (post.Amend t d c) from none late h = refl

-- ---- the folding
-- a post that sets rates finds today reached, so it changes no later day
stays-plain : (now : Present) (old g : Given) (p : Post) (from reached : ℕ) → reason_against now p ≡ None → reached < from → (needs_today p ≡ true → reached ≡ now.today) → IsOneMore old g p from → (s : Bool) → sets_rates p ≡ s → sets_rates p ≡ false
stays-plain now old g p from reached none late ready h false e = e
stays-plain now old g p from reached none late ready h true e =
    let same = ready (ap (λ b. b || is_bill p) e) in
    late-plain now old g p from none (omega (arith, late, same)) h

pub late-stands : (now : Present) (old g : Given) (p : Post) (from : ℕ) (f : Folding) → reason_against now p ≡ None → f.reached < from → (needs_today p ≡ true → f.reached ≡ now.today) → IsOneMore old g p from → IsFolding old f → IsFolding g f
late-stands now old g p from f none late ready h folding =
    folding-on old g f h.kept h.sound_before h.sound h.history (ap sets_rates h.post ∙ stays-plain now old g p from f.reached none late ready h (sets_rates p) refl)
    (λ x l. continues-before old g p from h x (omega (arith, l, late))) folding
