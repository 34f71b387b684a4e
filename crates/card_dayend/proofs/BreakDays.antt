-- The next break day: the next day of each kind.
use Rattle.std.proofs.Common.{◌≡◌, ℕ, suc, ◌+◌, ◌-◌, ◌<◌, ◌≤◌, Bool, true, false, ◌&&◌, ◌||◌, eqb, leb, ltb, List, [], ◌∷◌, length, get_or, pos, refl, sym, ap, ◌∙◌, subst, arith, ◌⊎◌, inl, inr}
use Rattle.std.specs.List.{filter, list_any}
use Rattle.std.proofs.lemmas.Bool.{cases_lt, eq-eqb, eqb-true}
use Rattle.std.proofs.lemmas.Bool.Decides.{nat_tests}
use Rattle.std.proofs.lemmas.List.{get_or_default}
use Rattle.card_events.specs.Billing.{closing, due, due_day_of_month}
use Rattle.card_events.specs.Business.{is_due}
use Rattle.card_events.specs.Civil.{day_of_month}
use Rattle.card_events.specs.Range.{last_calendar_day}
use Rattle.card_events.specs.declared.anchor.Anchor.{Anchor}
use Rattle.card_events.proofs.Cycles.{IsAnchor}
use Rattle.card_events.proofs.DueLaws.{ClosingLaws, IsDueOf, closing_laws, due_before_next, is_due-due, numbered}
use Rattle.card_events.proofs.MailDays.{due_parts}
use Rattle.card_events.specs.History.{CorrectedPost, anchor_of, corrected, is_variable}
use Rattle.card_events.specs.SharedRows.{IndexRow}
use Rattle.card_events.specs.declared.kept.Kept.{Kept}
use Rattle.card_events.specs.declared.kept.Slot.{Slot}
use Rattle.card_fees.proofs.Days.{due-later}
use Rattle.card_model.proofs.Accepting.{or-false}
use Rattle.card_model.proofs.Calendar.{is-anchor}
use Rattle.card_model.specs.Breaks.{breaks_penalty, breaks_segment, is_break}
use Rattle.card_model.specs.declared.segment.Interval.{Interval}
use Rattle.card_posts.specs.Change.{on}
use Rattle.card_posts.specs.Posted.{folding_order}
use Rattle.card_rates.proofs.Unchanged.{and-parts}
use Rattle.card_rates.specs.Next.{IsNext, changes, index_changes}
use Rattle.card_rates.specs.RateBooks.{Rates, rates_of}
use Rattle.card_rates.proofs.Nearest.{next-both, next-never, next-same}
use Rattle.card_rates.specs.Days.{place_of}
use Rattle.card_rates.specs.SlotLaws.{IsCut}
use Rattle.card_rates.proofs.Places.{of_days}
use Rattle.card_daily.proofs.ClosingDay.{grows-to}
use Rattle.card_daily.proofs.Cycles.{closing-within}
use Rattle.card_daily.proofs.Following.{due-most}
use Rattle.card_daily.specs.Given.{Given}
use Rattle.card_dayend.specs.Spans.{IsCycleOf, breaks_by, closes, follows_due, has_issue, has_post}

-- ---- a kind that has one day at most before the end
-- where a day passes exactly if it is this one
pub next-only : (p : ℕ → Bool) (number first end day : ℕ) → IsNext (λ x. eqb number x) first end day → ((x : ℕ) → first ≤ x → x < end → p x ≡ true → number ≡ x) → p number ≡ true → IsNext p first end day
next-only p number first end day h only there = record {
  low = h.low;
  high = h.high;
  none = λ x l m. by x l m (p x) refl;
  some = λ l. let same : number ≡ day = eqb-true number day (h.some l) in ap p (sym same) ∙ there;
}
  where
    by : (x : ℕ) → first ≤ x → x < day → (t : Bool) → p x ≡ t → t ≡ false
    by x l m true e =
        let up = h.high in
        let same = only x l (omega (arith, m, up)) e in
        let yes = eq-eqb number x same in
        let no = h.none x l m in
        absurd (cc)
    by x l m false e = refl

-- between a day and itself there is none
pub next-at-once : (p : ℕ → Bool) (first : ℕ) → IsNext p first first first
next-at-once p first = next-never p first first (omega arith) (λ x l m. absurd (omega (arith, l, m)))

-- the next of one day isn't behind it, where that day isn't before the first
pub next-within : (number first end day : ℕ) → first ≤ number → IsNext (λ x. eqb number x) first end day → day ≤ number
next-within number first end day l h = by (cases_lt number day)
  where
    by : (number < day) ⊎ (day ≤ number) → day ≤ number
    by (inl m) =
        let yes = eq-eqb number number refl in
        let no = h.none number l m in
        absurd (cc)
    by (inr m) = m

-- ---- posts
none-any : {X : Type 0} (p : X → Bool) (xs : List X) → filter p xs ≡ [] → list_any p xs ≡ false
none-any p [] h = refl
none-any p (x ∷ xs) h = by (p x) refl (none-any p xs)
  where
    by : (t : Bool) → p x ≡ t → (filter p xs ≡ [] → list_any p xs ≡ false) → (t || list_any p xs) ≡ false
    by true e rest =
        let whole : filter p (x ∷ xs) ≡ x ∷ filter p xs = rw e refl in
        absurd (cc)
    by false e rest =
        let same : filter p (x ∷ xs) ≡ filter p xs = rw e refl in
        rest (sym same ∙ h)

any-filtered : {X : Type 0} (p : X → Bool) (xs : List X) → list_any p xs ≡ false → filter p xs ≡ []
any-filtered p [] h = refl
any-filtered p (x ∷ xs) h = let parts = or-false (p x) (list_any p xs) h in rw parts.0 (any-filtered p xs parts.1)

some-any : {X : Type 0} (p : X → Bool) (xs : List X) → 1 ≤ length (filter p xs) → list_any p xs ≡ true
some-any p xs l = by (list_any p xs) refl
  where
    by : (t : Bool) → list_any p xs ≡ t → t ≡ true
    by true e = refl
    by false e = let none = ap length (any-filtered p xs e) in absurd (omega (arith, l, none))

-- the places of two days are one, where the slot at the first is of a day behind the second, or isn't there
places-meet : (slots : List Slot) (first x p q : ℕ) → IsCut slots first p → IsCut slots (x + 1) q → first ≤ x → ((d : Slot) → p < length slots → x < (get_or slots p d).day) → Slot → p ≡ q
places-meet slots first x p q h k l later d = by (cases_lt p q) (cases_lt q p)
  where
    by : (p < q) ⊎ (q ≤ p) → (q < p) ⊎ (p ≤ q) → p ≡ q
    by (inl m) o =
        let w = k.within in
        let within : p < length slots = omega (arith, m, w) in
        let front = k.front p d m within in
        let late = later d within in
        absurd (omega (arith, front, late))
    by (inr m) (inl n) =
        let w = h.within in
        let within : q < length slots = omega (arith, n, w) in
        let front = h.front q d n within in
        let back = k.back q d (omega arith) within in
        absurd (omega (arith, front, back, l))
    by (inr m) (inr n) = omega (arith, m, n)

-- some slot
no_slot : Slot
no_slot = record { day = 0; number = 0; cents = pos 0 }

abbrev IsLater : List CorrectedPost → ℕ → ℕ → Type 0
IsLater posts first x = (d : Slot) → place_of first posts < length (folding_order posts) → x < (get_or (folding_order posts) (place_of first posts) d).day

no-post : (a : Anchor) (holidays : List ℕ) (history : List Kept) (first x : ℕ) → Slot → first ≤ x → IsLater (corrected a holidays history) first x → has_post (corrected a holidays history) x ≡ false
no-post a holidays history first x d l later =
    let posts = corrected a holidays history in
    let same = places-meet (folding_order posts) first x (place_of first posts) (place_of (x + 1) posts) (of_days.cut a holidays history first) (of_days.cut a holidays history (x + 1)) l later d in
    none-any (λ (p : CorrectedPost). eqb p.day x) posts (of_days.quiet posts first (x + 1) x same l (omega arith))

one-post : (a : Anchor) (holidays : List ℕ) (history : List Kept) (first : ℕ) (s : Slot) → place_of first (corrected a holidays history) < length (folding_order (corrected a holidays history))
    → get_or (folding_order (corrected a holidays history)) (place_of first (corrected a holidays history)) s ≡ s → has_post (corrected a holidays history) s.day ≡ true
one-post a holidays history first s within is =
    let posts = corrected a holidays history in
    let slots = folding_order posts in
    let p = place_of first posts in
    let here = of_days.cut a holidays history s.day in
    let next = of_days.cut a holidays history (s.day + 1) in
    let count = of_days.next posts s.day in
    let day : (get_or slots p s).day ≡ s.day = ap (λ (t : Slot). t.day) is in
    let low = below (place_of s.day posts) here day in
    let high = above (place_of (s.day + 1) posts) next day in
    some-any (λ (p : CorrectedPost). eqb p.day s.day) posts (omega (arith, count, low, high))
  where
    slots' : List Slot
    slots' = folding_order (corrected a holidays history)

    p' : ℕ
    p' = place_of first (corrected a holidays history)

    below : (q : ℕ) → IsCut slots' s.day q → (get_or slots' p' s).day ≡ s.day → q ≤ p'
    below q h e = by (cases_lt p' q)
      where
        by : (p' < q) ⊎ (q ≤ p') → q ≤ p'
        by (inl m) = let front = h.front p' s m within in absurd (omega (arith, front, e))
        by (inr m) = m

    above : (q : ℕ) → IsCut slots' (s.day + 1) q → (get_or slots' p' s).day ≡ s.day → p' < q
    above q h e = by (cases_lt p' q)
      where
        by : (p' < q) ⊎ (q ≤ p') → p' < q
        by (inl m) = m
        by (inr m) = let back = h.back p' s m within in absurd (omega (arith, back, e))

-- the slot at the place of the first day is the next post
pub post-next : (a : Anchor) (holidays : List ℕ) (history : List Kept) (first end day : ℕ) (s : Slot) → place_of first (corrected a holidays history) < length (folding_order (corrected a holidays history))
    → get_or (folding_order (corrected a holidays history)) (place_of first (corrected a holidays history)) s ≡ s → IsNext (λ x. eqb s.day x) first end day → IsNext (has_post (corrected a holidays history)) first end day
post-next a holidays history first end day s within is h = record {
  low = h.low;
  high = h.high;
  none = λ x l m. no-post a holidays history first x s l (λ d w. later x d l m);
  some = λ l. let same : s.day ≡ day = eqb-true s.day day (h.some l) in ap (has_post (corrected a holidays history)) (sym same) ∙ one-post a holidays history first s within is;
}
  where
    slots' : List Slot
    slots' = folding_order (corrected a holidays history)

    p' : ℕ
    p' = place_of first (corrected a holidays history)

    begun : first ≤ s.day
    begun = let back = (of_days.cut a holidays history first).back p' s (omega arith) within in let e = ap (λ (t : Slot). t.day) is in omega (arith, back, e)

    later : (x : ℕ) (d : Slot) → first ≤ x → x < day → x < (get_or slots' p' d).day
    later x d l m =
        let upto = next-within s.day first end day begun h in
        let same : get_or slots' p' d ≡ s = get_or_default slots' p' d s within ∙ is in
        let e = ap (λ (t : Slot). t.day) same in
        omega (arith, m, upto, e)

-- where there is none, no day has a post
pub post-none : (a : Anchor) (holidays : List ℕ) (history : List Kept) (first end : ℕ) → first ≤ end → length (folding_order (corrected a holidays history)) ≤ place_of first (corrected a holidays history)
    → IsNext (has_post (corrected a holidays history)) first end end
post-none a holidays history first end l past =
    next-never (has_post (corrected a holidays history)) first end l (λ x m n. no-post a holidays history first x no_slot m (λ d w. absurd (omega (arith, past, w))))

-- ---- closings
pub closing-small : (a : Anchor) (number day : ℕ) → IsCycleOf a number day → closing a number ≤ day + 31
closing-small a number day h =
    let one = h.numbered in
    let back : suc (number - 1) ≡ number = omega (arith, one) in
    let last = h.last in
    let within = closing-within a (is-anchor a h.opening) (number - 1) day h.after (omega (arith, last)) in
    let same = ap (closing a) back in
    let after = h.after in
    omega (arith, within, same, after)

closed : (a : Anchor) (number first : ℕ) → IsCycleOf a number first → ClosingLaws a number
closed a number first h = let small = closing-small a number first h in let last = h.last in closing_laws a (is-anchor a h.opening) number h.numbered (omega (arith, small, last))

pub closing-next : (a : Anchor) (number first end day : ℕ) → IsCycleOf a number first → IsNext (λ x. eqb (closing a number) x) first end day → IsNext (closes a) first end day
closing-next a number first end day h k =
    let laws = closed a number first h in
    let upto = h.upto in
    record {
      low = k.low;
      high = k.high;
      none = λ x l m. by x l m (closes a x) refl;
      some = λ l. let same : closing a number ≡ day = eqb-true (closing a number) day (k.some l) in ap (closes a) (sym same) ∙ there;
    }
  where
    there : closes a (closing a number) ≡ true
    there =
        let laws = closed a number first h in
        let opened = h.opened in
        let upto = h.upto in
        let late : leb a.opened (closing a number) ≡ true = grind (arith, nat_tests) in
        let on = eq-eqb (day_of_month (closing a number)) a.close_day laws.on_its_day in
        rw (late, on) refl

    by : (x : ℕ) → first ≤ x → x < day → (t : Bool) → closes a x ≡ t → t ≡ false
    by x l m true e =
        let laws = closed a number first h in
        let within = next-within (closing a number) first end day h.upto k in
        let after = h.after in
        let parts = and-parts (leb a.opened x) (eqb (day_of_month x) a.close_day) e in
        absurd (laws.none_between x (omega (arith, after, l)) (omega (arith, m, within)) (eqb-true (day_of_month x) a.close_day parts.1))
    by x l m false e = refl

-- ---- due dates
other-day : (c : ℕ) → 1 ≤ c → c ≤ 28 → c ≡ due_day_of_month c → ⊥
other-day c low high e = by (leb c 4) refl
  where
    by : (t : Bool) → leb c 4 ≡ t → ⊥
    by true h = let same : due_day_of_month c ≡ c + 24 = rw h refl in omega (arith, same, e)
    by false h = let same : due_day_of_month c ≡ c - 4 = rw h refl in omega (arith, same, e, low)

-- the due date of a day that a cycle holds is that of the cycle before
due-of : (a : Anchor) (k x q : ℕ) → IsDueOf a x q → IsAnchor a → x ≤ last_calendar_day → closing a k ≤ x → x < closing a (suc k) → (closing a k ≡ x → ⊥) → due a k ≡ x
due-of a k x q h anchor small after within apart = same (cases_lt q k) (cases_lt k q)
  where
    same : (q < k) ⊎ (k ≤ q) → (k < q) ⊎ (q ≤ k) → due a k ≡ x
    same (inl l) m =
        let one = h.numbered in
        let back : suc (q - 1) ≡ q = omega (arith, one) in
        let is = h.is in
        let early = due_before_next a anchor (q - 1) (subst (λ n. due a n ≤ last_calendar_day) (sym back) (omega (arith, is, small))) in
        let here = subst (λ n. due a n < closing a (suc n)) back early in
        let up = grows-to a (suc q) k (omega (arith, l)) in
        absurd (omega (arith, here, up, is, after))
    same (inr l) (inl m) =
        let is = h.is in
        let late = due-later a q in
        let up = grows-to a (suc k) q (omega (arith, m)) in
        absurd (omega (arith, late, up, is, within))
    same (inr l) (inr m) = let e : k ≡ q = omega (arith, l, m) in ap (due a) e ∙ h.is

pub due-none : (a : Anchor) (first end : ℕ) → IsCycleOf a 1 first → first ≤ end → end ≤ closing a 1 → IsNext (follows_due a) first end end
due-none a first end h l within = next-never (follows_due a) first end l (λ x m n. by x n (follows_due a x) refl)
  where
    by : (x : ℕ) → x < end → (t : Bool) → follows_due a x ≡ t → t ≡ false
    by x n true e =
        let test = (due_parts a (x - 1) e).1 in
        let after : closing a 1 < x - 1 = grind (arith, nat_tests) in
        absurd (omega (arith, after, n, within))
    by x n false e = refl

pub due-small : (a : Anchor) (number first : ℕ) → IsCycleOf a number first → due a (number - 1) ≤ first + 31
due-small a number first h =
    let most = due-most a (number - 1) in
    let after = h.after in
    omega (arith, most, after)

pub due-next : (a : Anchor) (number first end day : ℕ) → IsCycleOf a number first → 1 < number → end ≤ closing a number → IsNext (λ x. eqb (due a (number - 1) + 1) x) first end day → IsNext (follows_due a) first end day
due-next a number first end day h some within k = next-only (follows_due a) (due a (number - 1) + 1) first end day k only there
  where
    small : due a (number - 1) ≤ last_calendar_day
    small = let s = due-small a number first h in let last = h.last in omega (arith, s, last)

    there : follows_due a (due a (number - 1) + 1) ≡ true
    there =
        let back : due a (number - 1) + 1 - 1 ≡ due a (number - 1) = omega arith in
        let one : suc (number - 2) ≡ number - 1 = omega (arith, some) in
        ap (is_due a) (back ∙ ap (due a) (sym one)) ∙ is_due-due a (is-anchor a h.opening) (number - 2) (subst (λ n. due a n ≤ last_calendar_day) (sym one) small)

    only : (x : ℕ) → first ≤ x → x < end → follows_due a x ≡ true → due a (number - 1) + 1 ≡ x
    only x l m e =
        let after = h.after in
        let last = h.last in
        let close = closing-small a number first h in
        let anchor = is-anchor a h.opening in
        let low : x - 1 ≤ last_calendar_day = omega (arith, m, within, close, last) in
        let q = numbered a anchor (x - 1) e low in
        let next : suc (number - 1) ≡ number = omega (arith, some) in
        let top = ap (closing a) next in
        let apart : closing a (number - 1) ≡ x - 1 → ⊥ = λ is. apart-by x is (due_parts a (x - 1) e).0 in
        let same = due-of a (number - 1) (x - 1) q.0 q.1 anchor low (omega (arith, after, l)) (omega (arith, m, within, top, after, l)) apart in
        omega (arith, same, after, l)
      where
        apart-by : (x : ℕ) → closing a (number - 1) ≡ x - 1 → eqb (day_of_month (x - 1)) (due_day_of_month a.close_day) ≡ true → ⊥
        apart-by x is on =
            let after = h.after in
            let last = h.last in
            let laws = closing_laws a (is-anchor a h.opening) (number - 1) (omega (arith, some)) (omega (arith, after, last)) in
            let day = eqb-true (day_of_month (x - 1)) (due_day_of_month a.close_day) on in
            other-day a.close_day h.opening.close_day.0 h.opening.close_day.1 (sym laws.on_its_day ∙ (ap day_of_month is ∙ day))

-- ---- all kinds
pub span-next : (g : Given) (penalties : List Interval) (rates : Rates) (first to posted closing' due' issued changed day : ℕ) → rates.segments ≡ (rates_of g.shared.holidays g.history []).segments → rates.penalties ≡ penalties → rates.variable ≡ is_variable g.history
    → IsNext (has_post (corrected (anchor_of g.history) g.shared.holidays g.history)) first to posted → IsNext (closes (anchor_of g.history)) first posted closing'
    → IsNext (follows_due (anchor_of g.history)) first closing' due' → IsNext (has_issue g.issued) first due' issued → IsNext (changes rates) first issued changed
    → IsNext (index_changes (anchor_of g.history).opened g.shared.index rates) first changed day
    → IsNext (breaks_by g penalties) first to day
unfolding is_break
span-next g penalties rates first to posted closing' due' issued changed day segments same variable p c d i r n =
    let a = anchor_of g.history in
    let has = has_post (corrected a g.shared.holidays g.history) in
    let one = next-both has (closes a) first to posted closing' p c in
    let two = next-both (λ x. has x || closes a x) (follows_due a) first to closing' due' one d in
    let three = next-both (λ x. has x || closes a x || follows_due a x) (has_issue g.issued) first to due' issued two i in
    let four = next-both (λ x. has x || closes a x || follows_due a x || has_issue g.issued x) (changes rates) first to issued changed three r in
    let all = next-both (λ x. (has x || closes a x || follows_due a x || has_issue g.issued x) || changes rates x) (index_changes a.opened g.shared.index rates) first to changed day four n in
    next-same (λ x. ((has x || closes a x || follows_due a x || has_issue g.issued x) || changes rates x) || index_changes a.opened g.shared.index rates x) (breaks_by g penalties) first to day
    (λ x. ap (λ b. b || index_changes a.opened g.shared.index rates x)
    (assoc (has x || closes a x || follows_due a x || has_issue g.issued x) (list_any (breaks_segment x) rates.segments) (list_any (breaks_penalty x) rates.penalties)
    ∙ (ap (λ gs. has x || closes a x || follows_due a x || has_issue g.issued x || list_any (breaks_segment x) gs || list_any (breaks_penalty x) rates.penalties) segments
    ∙ ap (λ ps. has x || closes a x || follows_due a x || has_issue g.issued x || list_any (breaks_segment x) (rates_of g.shared.holidays g.history []).segments || list_any (breaks_penalty x) ps) same))
    ∙ ap (λ v. has x || closes a x || follows_due a x || has_issue g.issued x || list_any (breaks_segment x) (rates_of g.shared.holidays g.history []).segments || list_any (breaks_penalty x) penalties || (v && ltb a.opened x && list_any (λ (row : IndexRow). eqb row.day x) g.shared.index)) variable) all
  where
    assoc : (s t u : Bool) → (s || (t || u)) ≡ (s || t || u)
    assoc true t u = refl
    assoc false t u = refl
