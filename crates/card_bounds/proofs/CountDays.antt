-- An account has at most 64 entries for each post and for each closed cycle.
use Rattle.std.proofs.Common.{◌≡◌, ℕ, zero, suc, ◌+◌, ◌-◌, ◌*◌, ◌<◌, ◌≤◌, Bool, true, false, cond, List, [], ◌∷◌, ◌++◌, length, length-append, refl, sym, ap, ◌∙◌, subst, arith, Option, eqb, leb, ltb, ◌⊎◌, inl, inr}
use Rattle.std.specs.List.{cons_option, count_by, filter, filter_map}
use Rattle.std.proofs.lemmas.Bool.{cases_lt, eq-eqb, eqb-true, ne_eqb}
use Rattle.std.proofs.lemmas.Bool.Decides.{nat_tests}
use Rattle.std.proofs.lemmas.List.{append-nil}
use Rattle.std.proofs.lemmas.List.Sums.{sum_by-cons}
use Rattle.card_bounds.specs.Counts.{EntriesAreFew, most_entries, posts_before}
use Rattle.card_model.specs.Accepted.{HasFewSegments}
use Rattle.card_bounds.specs.Bounds.{book_amid}
use Rattle.card_bounds.specs.Places.{book_before}
use Rattle.card_events.specs.Civil.{day_of_month}
use Rattle.card_events.specs.declared.anchor.Anchor.{Anchor}
use Rattle.card_events.specs.History.{CorrectedPost, adds_segment, anchor_of, corrected, corrected_from, corrected_post, folded, is_folded, next_segment}
use Rattle.card_events.specs.SharedRows.{SharedRows}
use Rattle.card_events.specs.declared.kept.Kept.{Kept}
use Rattle.card_events.specs.declared.post.Post.{Post}
use Rattle.card_events.specs.declared.post.Post.TheVariants as post
use Rattle.card_events.specs.declared.post.Terms.{Terms}
use Rattle.card_model.proofs.Caps.{due-cycles, posts-cycles}
use Rattle.card_model.specs.Books.{Account, Book, account_of, all_segments, empty_book, present_cycle}
use Rattle.card_model.specs.Caps.{row_for}
use Rattle.card_model.specs.Closing.{close, closed_cycle, closing_interest}
use Rattle.card_model.specs.Cycles.{Cycle, IssuedRow, Seen, last_cycle, posts_on, seen_on}
use Rattle.card_model.specs.DueDates.{on_due}
use Rattle.card_model.specs.Effects.{after_posts, effect}
use Rattle.card_model.specs.Folds.{book, book_after, day_after}
use Rattle.card_model.specs.Segments.{SegmentTerms, segment_of, segments}
use Rattle.card_model.specs.declared.entry.Entry.{Entry}
use Rattle.card_bounds.proofs.Counts.{added, close-step, due-step, effect-step, ending, ending-promised, parts_of, promise, promised, tally, waiting, waiting-most, weight}
use Rattle.card_bounds.proofs.Totals.{Numbers, numbers-filter, slots-number}
use Rattle.card_bounds.proofs.Whole.{filter-shorter, slots-length}

-- ---- sums over posts
abbrev total : (CorrectedPost → ℕ) → List CorrectedPost → ℕ
total f [] = 0
total f (s ∷ ss) = f s + total f ss

abbrev promises : ℕ → CorrectedPost → ℕ
promises day s = promise day s.post

abbrev named : ℕ → CorrectedPost → ℕ
named n s = tally (eqb s.number n)

abbrev adds : CorrectedPost → ℕ
adds s = tally (adds_segment s.post)

total-append : (f : CorrectedPost → ℕ) (xs ys : List CorrectedPost) → total f (xs ++ ys) ≡ total f xs + total f ys
total-append f [] ys = omega arith
total-append f (x ∷ xs) ys = let h = total-append f xs ys in omega arith

total-filter : (f : CorrectedPost → ℕ) (p : CorrectedPost → Bool) (ss : List CorrectedPost) → total f (filter p ss) ≤ total f ss
total-filter f p [] = omega arith
total-filter f p (s ∷ ss) = by (p s) (total-filter f p ss)
  where
    by : (t : Bool) → total f (filter p ss) ≤ total f ss → total f (cond t (s ∷ filter p ss) (filter p ss)) ≤ f s + total f ss
    by true h = omega arith
    by false h = omega arith

total-promised : (day : ℕ) (ss : List CorrectedPost) → promised day ss ≡ total (promises day) ss
total-promised day [] = refl
total-promised day (s ∷ ss) = ap (λ n. promise day s.post + n) (total-promised day ss)

total-length : (ss : List CorrectedPost) → length ss ≡ total (λ s. 1) ss
total-length [] = refl
total-length (s ∷ ss) = let h = total-length ss in omega arith

-- ---- days of posts
abbrev earlier : ℕ → List CorrectedPost → List CorrectedPost
earlier d ss = filter (λ s. ltb s.day d) ss

abbrev up_to : ℕ → List CorrectedPost → List CorrectedPost
up_to d ss = filter (λ s. leb s.day d) ss

abbrev on_day : ℕ → List CorrectedPost → List CorrectedPost
on_day d ss = filter (λ s. eqb s.day d) (up_to d ss)

-- what a day adds to a sum over the posts of the days before it
record DaySum (f : CorrectedPost → ℕ) (d : ℕ) (ss : List CorrectedPost) : Type 0 where
  next : total f (earlier (suc d) ss) ≡ total f (earlier d ss) + total f (on_day d ss)
  seen : total f (up_to d ss) ≡ total f (earlier d ss) + total f (on_day d ss)

day-sum : (f : CorrectedPost → ℕ) (d : ℕ) (ss : List CorrectedPost) → DaySum f d ss
day-sum f d [] = record { next = omega arith; seen = omega arith }
day-sum f d (s ∷ ss) = by (cases_lt s.day d) (cases_lt d s.day) (day-sum f d ss)
  where
    by : (s.day < d) ⊎ (d ≤ s.day) → (d < s.day) ⊎ (s.day ≤ d) → DaySum f d ss → DaySum f d (s ∷ ss)
    by (inl l) u h =
        let a : ltb s.day (suc d) ≡ true = grind (arith, nat_tests) in
        let b : ltb s.day d ≡ true = grind (arith, nat_tests) in
        let c : leb s.day d ≡ true = grind (arith, nat_tests) in
        let e : eqb s.day d ≡ false = ne_eqb s.day d (λ q. omega arith) in
        record { next = rw (a, b, c, e) (let k = h.next in omega arith); seen = rw (b, c, e) (let k = h.seen in omega arith) }
    by (inr l) (inl u) h =
        let a : ltb s.day (suc d) ≡ false = grind (arith, nat_tests) in
        let b : ltb s.day d ≡ false = grind (arith, nat_tests) in
        let c : leb s.day d ≡ false = grind (arith, nat_tests) in
        record { next = rw (a, b, c) h.next; seen = rw (b, c) h.seen }
    by (inr l) (inr u) h =
        let a : ltb s.day (suc d) ≡ true = grind (arith, nat_tests) in
        let b : ltb s.day d ≡ false = grind (arith, nat_tests) in
        let c : leb s.day d ≡ true = grind (arith, nat_tests) in
        let e : eqb s.day d ≡ true = eq-eqb s.day d (omega arith) in
        record { next = rw (a, b, c, e) (let k = h.next in omega arith); seen = rw (b, c, e) (let k = h.seen in omega arith) }

-- ---- what a history gives
-- of each number there is at most one post
named-below : (n low : ℕ) (ss : List CorrectedPost) → n < low → Numbers low ss → total (named n) ss ≡ 0
named-below n low [] l h = refl
named-below n low (s ∷ ss) l h =
    let m = h.0 in
    let other : eqb s.number n ≡ false = ne_eqb s.number n (λ q. omega arith) in
    let rest = named-below n (suc s.number) ss (omega arith) h.1 in
    rw (other, rest) refl

named-once : (n low : ℕ) (ss : List CorrectedPost) → Numbers low ss → total (named n) ss ≤ 1
named-once n low [] h = omega arith
named-once n low (s ∷ ss) h = by (eqb s.number n) refl (named-once n (suc s.number) ss h.1)
  where
    by : (t : Bool) → eqb s.number n ≡ t → total (named n) ss ≤ 1 → tally t + total (named n) ss ≤ 1
    by true q k = let same = eqb-true s.number n q in let none = named-below n (suc s.number) ss (omega arith) h.1 in omega arith
    by false q k = omega arith

folded-once : (a : Anchor) (holidays : List ℕ) (history : List Kept) (n : ℕ) → total (named n) (folded a holidays history) ≤ 1
folded-once a holidays history n = named-once n 1 _ (numbers-filter (λ s. is_folded s.post) 1 (corrected a holidays history) (slots-number a holidays history 1 5 history))

-- no more segments are added than the history says
adds-corrected : (a : Anchor) (holidays : List ℕ) (history : List Kept) (n id : ℕ) (ks : List Kept) → total adds (corrected_from a holidays history n id ks) ≡ count_by (λ k. adds_segment k.post) ks
unfolding corrected_from corrected_post
adds-corrected a holidays history n id [] = refl
adds-corrected a holidays history n id (k ∷ ks) =
    ap (λ x. tally (adds_segment k.post) + x) (adds-corrected a holidays history (suc n) (next_segment id k.post) ks) ∙ sym (sum_by-cons (λ (x : Kept). cond (adds_segment x.post) 1 0) k ks)

length-added : (id n : ℕ) (p : Post) (gs : List SegmentTerms) → length (cons_option (segment_of id n p) gs) ≤ tally (adds_segment p) + length gs
length-added id n (post.Plan d k r e f) gs = omega arith
length-added id n (post.Notice d y r e) gs = omega arith
length-added id n (post.Open d u) gs = omega arith
length-added id n (post.OpenVariable d u) gs = omega arith
length-added id n (post.Charge d at x) gs = omega arith
length-added id n (post.Credit d at x) gs = omega arith
length-added id n (post.Payment d m y x) gs = omega arith
length-added id n (post.Return d t) gs = omega arith
length-added id n (post.Lower d y r) gs = omega arith
length-added id n post.Penalty gs = omega arith
length-added id n (post.Review d f) gs = omega arith
length-added id n (post.Dispute d t c) gs = omega arith
length-added id n (post.Ack d u) gs = omega arith
length-added id n (post.Resolve d t c) gs = omega arith
length-added id n (post.AskRefund d) gs = omega arith
length-added id n (post.Refund c) gs = omega arith
length-added id n (post.Amend u d c) gs = omega arith
length-added id n (post.Bill c) gs = omega arith

added-few : (ss : List CorrectedPost) → length (filter_map added ss) ≤ total adds ss
added-few [] = omega arith
added-few (s ∷ ss) =
    let here = length-added s.segment s.number s.post (filter_map added ss) in
    let rest = added-few ss in
    chain _ _ _ _ here rest
  where
    chain : (x a b c : ℕ) → x ≤ a + b → b ≤ c → x ≤ a + c
    chain x a b c h r = omega arith

segments-length : (a : Anchor) (terms : Terms) (ss : List CorrectedPost) → length (segments a terms ss) ≡ 3 + length (filter_map added ss)
unfolding segments
segments-length a terms ss = omega arith

pub segments-few : (acc : Account) (a : Anchor) (shared : SharedRows) (history : List Kept) (issued : List IssuedRow) (d : ℕ) → HasFewSegments history → length (all_segments acc (seen_on a shared history issued d)) ≤ 62
segments-few acc a shared history issued d h =
    let whole = corrected a shared.holidays history in
    let xs = folded a shared.holidays history in
    let long = segments-length acc.anchor acc.terms (up_to d xs) in
    let few = added-few (up_to d xs) in
    let seen = total-filter adds (λ s. leb s.day d) xs in
    let read = total-filter adds (λ s. is_folded s.post) whole in
    let all = adds-corrected a shared.holidays history 1 5 history in
    chain _ _ _ _ _ _ long few seen read all h
  where
    chain : (n k x y z w : ℕ) → n ≡ 3 + k → k ≤ x → x ≤ y → y ≤ z → z ≡ w → 5 + w ≤ 64 → n ≤ 62
    chain n k x y z w a b c d e f = omega arith

-- ---- what holds at each point of the fold
-- after so many posts, of which plans still promise so much, with so many closed cycles: names counts the posts of a number
record AreFew (posts plans wait cycles : ℕ) (names : ℕ → ℕ) (es : List Entry) : Type 0 where
  all : weight es + plans + wait ≤ 64 * posts + 63 * cycles
  parts : (n : ℕ) → parts_of n es ≤ 63 * names n

posts-few : (issued : Option IssuedRow) (a : Account) (seen : Seen) (ss : List CorrectedPost) (b : Book) (posts plans wait cycles : ℕ) (names : ℕ → ℕ) → length (all_segments a seen) ≤ 62 → ((n : ℕ) → names n + total (named n) ss ≤ 1)
    → AreFew posts plans wait cycles names b.entries
    → AreFew (posts + total (λ s. 1) ss) (plans + total (promises seen.day) ss) wait cycles (λ n. names n + total (named n) ss) (after_posts issued a seen ss b).entries
unfolding after_posts
posts-few issued a seen [] b posts plans wait cycles names l once h = record { all = let e = h.all in omega arith; parts = λ n. let e = h.parts n in omega arith }
posts-few issued a seen (s ∷ ss) b posts plans wait cycles names l once h =
    let next = effect issued a seen s s.post b in
    let step = effect-step issued a seen s s.post b l (λ n. let o = once n in let e = h.parts n in one-time _ _ _ o e) in
    let here : AreFew (posts + 1) (plans + promise seen.day s.post) wait cycles (λ n. names n + named n s) next.entries = record {
      all = sums _ _ _ _ wait posts (63 * cycles) h.all step.few;
      parts = λ n. let e = h.parts n in let f = step.parts n in more _ _ _ _ e f;
    } in
    let rest = posts-few issued a seen ss next (posts + 1) (plans + promise seen.day s.post) wait cycles (λ n. names n + named n s) l (λ n. let o = once n in omega arith) here in
    record { all = let e = rest.all in omega arith; parts = λ n. let e = rest.parts n in omega arith }
  where
    one-time : (x k r : ℕ) → k + r ≤ 1 → x ≤ 63 * k → x ≤ 63
    one-time x k r o e = omega arith

    sums : (x y p q w n c : ℕ) → x + p + w ≤ 64 * n + c → y + q ≤ x + 64 → y + (p + q) + w ≤ 64 * (n + 1) + c
    sums x y p q w n c h k = omega arith

    more : (x y k t : ℕ) → x ≤ 63 * k → y ≤ x + 63 * t → y ≤ 63 * (k + t)
    more x y k t a b = omega arith

-- before a day
abbrev IsFewBefore : ℕ → List CorrectedPost → Book → Type 0
IsFewBefore d xs b =
    AreFew (total (λ s. 1) (earlier d xs)) (total (promises d) (earlier d xs)) (waiting d (last_cycle b.cycles)) (length b.cycles) (λ n. total (named n) (earlier d xs)) b.entries

-- of a list without two posts of one number, the front of a day's posts
front-once : (d n : ℕ) (xs done rest : List CorrectedPost) → total (named n) xs ≤ 1 → on_day d xs ≡ done ++ rest → total (named n) (earlier d xs) + total (named n) done ≤ 1
front-once d n xs done rest once split =
    let all = total-filter (named n) (λ s. leb s.day d) xs in
    let sum = (day-sum (named n) d xs).seen in
    let parts : total (named n) (on_day d xs) ≡ total (named n) done + total (named n) rest = ap (total (named n)) split ∙ total-append (named n) done rest in
    chain _ _ _ _ _ _ once all sum parts
  where
    chain : (x y a b c e : ℕ) → x ≤ 1 → y ≤ x → y ≡ a + b → b ≡ c + e → a + c ≤ 1
    chain x y a b c e h k l m = omega arith

-- after the due date and a front of the posts
amid-few : (row : Option IssuedRow) (acc : Account) (a : Anchor) (shared : SharedRows) (history : List Kept) (issued : List IssuedRow) (d : ℕ) (b : Book) (done rest : List CorrectedPost) → HasFewSegments history
    → IsFewBefore d (folded a shared.holidays history) b → posts_on (seen_on a shared history issued d) ≡ done ++ rest
    → AreFew (total (λ s. 1) (earlier d (folded a shared.holidays history)) + total (λ s. 1) done) (total (promises d) (earlier d (folded a shared.holidays history)) + total (promises d) done)
    (waiting (suc d) (last_cycle b.cycles)) (length b.cycles) (λ n. total (named n) (earlier d (folded a shared.holidays history)) + total (named n) done)
    (after_posts row acc (seen_on a shared history issued d) done (on_due row acc (seen_on a shared history issued d) b (last_cycle b.cycles))).entries
amid-few row acc a shared history issued d b done rest few h split =
    let xs = folded a shared.holidays history in
    let seen = seen_on a shared history issued d in
    let due = due-step row acc seen b (last_cycle b.cycles) in
    let posts = total (λ s. 1) (earlier d xs) in
    let plans = total (promises d) (earlier d xs) in
    let fined : AreFew posts plans (waiting (suc d) (last_cycle b.cycles)) (length b.cycles) (λ n. total (named n) (earlier d xs)) (on_due row acc seen b (last_cycle b.cycles)).entries = record {
      all = sums _ _ plans _ _ (64 * posts + 63 * length b.cycles) h.all due.few;
      parts = λ n. let e = h.parts n in let f = due.parts n in less _ _ _ f e;
    } in
    posts-few row acc seen done _ posts plans _ (length b.cycles) (λ n. total (named n) (earlier d xs)) (segments-few acc a shared history issued d few) (λ n. front-once d n xs done rest (folded-once a shared.holidays history n) split) fined
  where
    sums : (x y p w v m : ℕ) → x + p + w ≤ m → y + v ≤ x + w → y + p + v ≤ m
    sums x y p w v m h k = omega arith

    less : (x y z : ℕ) → x ≤ y → y ≤ z → x ≤ z
    less x y z a b = omega arith

-- ---- a day
whole-list : (xs : List CorrectedPost) → xs ≡ xs ++ []
whole-list xs = sym (append-nil xs)

close-count : (row : Option IssuedRow) (acc : Account) (seen : Seen) (b : Book) → length (close row acc seen b).cycles ≡ suc (length b.cycles)
unfolding close
close-count row acc seen b = let e = length-append b.cycles (closed_cycle row acc seen b (closing_interest row acc seen b) ∷ []) in omega arith

-- what a day's end promises for the next day
promises-kept : (acc : Account) (a : Anchor) (shared : SharedRows) (history : List Kept) (issued : List IssuedRow) (d : ℕ)
    → ending (seen_on a shared history issued d) (all_segments acc (seen_on a shared history issued d)) + total (promises (suc d)) (earlier (suc d) (folded a shared.holidays history))
    ≤ total (promises d) (earlier d (folded a shared.holidays history)) + total (promises d) (on_day d (folded a shared.holidays history))
promises-kept acc a shared history issued d =
    let xs = folded a shared.holidays history in
    let seen = seen_on a shared history issued d in
    let kept = ending-promised seen acc.anchor acc.terms (up_to d xs) in
    let later = total-promised (suc d) (up_to d xs) in
    let now = total-promised d (up_to d xs) in
    let one = day-sum (promises (suc d)) d xs in
    let two = day-sum (promises d) d xs in
    chain _ _ _ _ _ _ _ _ kept later now one.seen one.next two.seen
  where
    chain : (e p q u v w x y : ℕ) → e + p ≤ q → p ≡ u → q ≡ v → u ≡ w → x ≡ w → v ≡ y → e + x ≤ y
    chain e p q u v w x y a b c d f g = omega arith

day-few : (row : Option IssuedRow) (acc : Account) (a : Anchor) (shared : SharedRows) (history : List Kept) (issued : List IssuedRow) (d : ℕ) (b : Book) → HasFewSegments history
    → IsFewBefore d (folded a shared.holidays history) b → IsFewBefore (suc d) (folded a shared.holidays history) (day_after row acc (seen_on a shared history issued d) b)
unfolding day_after
day-few row acc a shared history issued d b few h =
    let xs = folded a shared.holidays history in
    let seen = seen_on a shared history issued d in
    let due = on_due row acc seen b (last_cycle b.cycles) in
    let posted = after_posts row acc seen (posts_on seen) due in
    let all = amid-few row acc a shared history issued d b (posts_on seen) [] few h (whole-list (posts_on seen)) in
    let cycles : posted.cycles ≡ b.cycles = posts-cycles row acc seen (posts_on seen) due ∙ due-cycles row acc seen b (last_cycle b.cycles) in
    by (eqb (day_of_month seen.day) acc.anchor.close_day) posted cycles all
  where
    xs : List CorrectedPost
    xs = folded a shared.holidays history

    seen : Seen
    seen = seen_on a shared history issued d

    posts : total (λ s. 1) (earlier (suc d) xs) ≡ total (λ s. 1) (earlier d xs) + total (λ s. 1) (on_day d xs)
    posts = (day-sum (λ s. 1) d xs).next

    kept : ending seen (all_segments acc seen) + total (promises (suc d)) (earlier (suc d) xs) ≤ total (promises d) (earlier d xs) + total (promises d) (on_day d xs)
    kept = promises-kept acc a shared history issued d

    names : (n : ℕ) → total (named n) (earlier (suc d) xs) ≡ total (named n) (earlier d xs) + total (named n) (on_day d xs)
    names n = (day-sum (named n) d xs).next

    open-sums : (x p q e w k n m c g : ℕ) → x + p + w ≤ 64 * n + 63 * c → e + q ≤ p → m ≡ n → k ≡ w → g ≡ c → x + q + k ≤ 64 * m + 63 * g
    open-sums x p q e w k n m c g h l i j f = omega arith

    close-sums : (x y p q e s w k n m c g : ℕ) → x + p + w ≤ 64 * n + 63 * c → y ≤ x + s + e → s ≤ 62 → e + q ≤ p → m ≡ n → k ≤ 1 → g ≡ suc c → y + q + k ≤ 64 * m + 63 * g
    close-sums x y p q e s w k n m c g h l u v i j f = omega arith

    named-sums : (x y z v w : ℕ) → x ≤ 63 * v → y ≤ x → w ≡ v → y ≤ 63 * w
    named-sums x y z v w a b c = omega arith

    by : (t : Bool) (posted : Book) → posted.cycles ≡ b.cycles
        → AreFew (total (λ s. 1) (earlier d xs) + total (λ s. 1) (on_day d xs)) (total (promises d) (earlier d xs) + total (promises d) (on_day d xs)) (waiting (suc d) (last_cycle b.cycles)) (length b.cycles)
        (λ n. total (named n) (earlier d xs) + total (named n) (on_day d xs)) posted.entries
        → IsFewBefore (suc d) xs (cond t (close row acc seen posted) posted)
    by false posted e g = record {
      all = open-sums _ _ _ _ _ _ _ _ _ _ g.all kept posts (ap (λ cs. waiting (suc d) (last_cycle cs)) e) (ap length e);
      parts = λ n. named-sums _ _ 0 _ _ (g.parts n) (same (parts_of n posted.entries)) (names n);
    }
      where
        same : (x : ℕ) → x ≤ x
        same x = omega arith
    by true posted e g =
        let closed = close-step row acc seen posted in
        record {
          all = close-sums _ _ _ _ _ _ _ _ _ _ _ _ g.all closed.few (segments-few acc a shared history issued d few) kept posts (waiting-most (suc d) (last_cycle (close row acc seen posted).cycles)) (close-count row acc seen posted ∙ ap (λ (cs : List Cycle). suc (length cs)) e);
          parts = λ n. named-sums _ _ 0 _ _ (g.parts n) (closed.parts n) (names n);
        }

-- ---- the law
few-nil : (d : ℕ) (xs : List CorrectedPost) → total (promises d) (earlier d xs) ≤ total (λ s. 1) (earlier d xs) → IsFewBefore d xs empty_book
few-nil d xs l = record { all = omega arith; parts = λ n. omega arith }

promise-most : (d : ℕ) (p : Post) → promise d p ≤ 1
promise-most d (post.Plan x k r e f) = by (leb d e)
  where
    by : (t : Bool) → tally t ≤ 1
    by true = omega arith
    by false = omega arith
promise-most d (post.Notice x y r e) = omega arith
promise-most d (post.Open x u) = omega arith
promise-most d (post.OpenVariable x u) = omega arith
promise-most d (post.Charge x at c) = omega arith
promise-most d (post.Credit x at c) = omega arith
promise-most d (post.Payment x m y c) = omega arith
promise-most d (post.Return x t) = omega arith
promise-most d (post.Lower x y r) = omega arith
promise-most d post.Penalty = omega arith
promise-most d (post.Review x f) = omega arith
promise-most d (post.Dispute x t c) = omega arith
promise-most d (post.Ack x u) = omega arith
promise-most d (post.Resolve x t c) = omega arith
promise-most d (post.AskRefund x) = omega arith
promise-most d (post.Refund c) = omega arith
promise-most d (post.Amend u x c) = omega arith
promise-most d (post.Bill c) = omega arith

promises-most : (d : ℕ) (ss : List CorrectedPost) → total (promises d) ss ≤ total (λ s. 1) ss
promises-most d [] = omega arith
promises-most d (s ∷ ss) = let here = promise-most d s.post in let rest = promises-most d ss in omega arith

fold-few : (rows : List IssuedRow) (acc : Account) (a : Anchor) (shared : SharedRows) (history : List Kept) (issued : List IssuedRow) (n : ℕ) → HasFewSegments history
    → IsFewBefore (acc.anchor.opened + n) (folded a shared.holidays history) (book_after rows acc (seen_on a shared history issued) n)
unfolding book_after
fold-few rows acc a shared history issued zero few =
    let xs = folded a shared.holidays history in
    few-nil (acc.anchor.opened + 0) xs (promises-most (acc.anchor.opened + 0) (earlier (acc.anchor.opened + 0) xs))
fold-few rows acc a shared history issued (suc n) few =
    let xs = folded a shared.holidays history in
    let b = book_after rows acc (seen_on a shared history issued) n in
    let next : suc (acc.anchor.opened + n) ≡ acc.anchor.opened + suc n = omega arith in
    subst (λ d. IsFewBefore d xs (day_after (row_for (present_cycle b) rows) acc (seen_on a shared history issued (acc.anchor.opened + n)) b)) next
    (day-few (row_for (present_cycle b) rows) acc a shared history issued (acc.anchor.opened + n) b few (fold-few rows acc a shared history issued n few))

-- few entries, as the law counts them
few-entries : (posts plans wait : ℕ) (names : ℕ → ℕ) (es : List Entry) (count : ℕ) (cycles : List Cycle) → AreFew posts plans wait (length cycles) names es → posts ≡ count → length es ≤ most_entries count cycles
few-entries posts plans wait names es count cycles h e = let k = h.all in omega arith

before-few : (history : List Kept) (issued : List IssuedRow) (shared : SharedRows) (n : ℕ) → HasFewSegments history
    → length (book_before history issued shared n).entries ≤ most_entries (length (posts_before history shared ((anchor_of history).opened + n))) (book_before history issued shared n).cycles
before-few history issued shared n few =
    let a = anchor_of history in
    let ss = posts_before history shared (a.opened + n) in
    few-entries _ _ _ _ _ (length ss) _ (fold-few issued (account_of history) a shared history issued n few) (sym (total-length ss))

-- a day closes one cycle at most
day-cycles : (row : Option IssuedRow) (acc : Account) (seen : Seen) (b : Book) (n : ℕ) → length b.cycles ≤ n → length (day_after row acc seen b).cycles ≤ suc n
unfolding day_after
day-cycles row acc seen b n l =
    let due = on_due row acc seen b (last_cycle b.cycles) in
    let posted = after_posts row acc seen (posts_on seen) due in
    let same : length posted.cycles ≡ length b.cycles = ap length (posts-cycles row acc seen (posts_on seen) due ∙ due-cycles row acc seen b (last_cycle b.cycles)) in
    by (eqb (day_of_month seen.day) acc.anchor.close_day) posted same (close-count row acc seen posted)
  where
    by : (t : Bool) (posted : Book) → length posted.cycles ≡ length b.cycles → length (close row acc seen posted).cycles ≡ suc (length posted.cycles) → length (cond t (close row acc seen posted) posted).cycles ≤ suc n
    by true posted e f = omega arith
    by false posted e f = omega arith

cycles-few : (rows : List IssuedRow) (acc : Account) (s : ℕ → Seen) (n : ℕ) → length (book_after rows acc s n).cycles ≤ n
unfolding book_after
cycles-few rows acc s zero = omega arith
cycles-few rows acc s (suc n) =
    let b = book_after rows acc s n in
    day-cycles (row_for (present_cycle b) rows) acc (s (acc.anchor.opened + n)) b n (cycles-few rows acc s n)

before-length : (history : List Kept) (shared : SharedRows) (day : ℕ) → length (posts_before history shared day) ≤ length history
before-length history shared day =
    let a = anchor_of history in
    let whole = corrected a shared.holidays history in
    let before = filter-shorter (λ (s : CorrectedPost). ltb s.day day) (folded a shared.holidays history) in
    let read = filter-shorter (λ (s : CorrectedPost). is_folded s.post) whole in
    let all = slots-length a shared.holidays history 1 5 history in
    chain _ _ _ _ before read all
  where
    chain : (x y z w : ℕ) → x ≤ y → y ≤ z → z ≡ w → x ≤ w
    chain x y z w a b c = omega arith

-- the book of a day is that before the next one; before the opening day it is empty
book-few : (history : List Kept) (issued : List IssuedRow) (shared : SharedRows) (day n : ℕ) → day + 1 - (anchor_of history).opened ≡ n → HasFewSegments history
    → length (book_before history issued shared n).entries ≤ most_entries (length (posts_before history shared (day + 1))) (book_before history issued shared n).cycles
unfolding book_after
book-few history issued shared day zero e few = omega arith
book-few history issued shared day (suc n) e few =
    let next : (anchor_of history).opened + suc n ≡ day + 1 = omega arith in
    subst (λ d. length (book_before history issued shared (suc n)).entries ≤ most_entries (length (posts_before history shared d)) (book_before history issued shared (suc n)).cycles) next (before-few history issued shared (suc n) few)

days-few : (history : List Kept) (issued : List IssuedRow) (shared : SharedRows) (day : ℕ) → HasFewSegments history
    → length (book history issued shared day).entries ≤ most_entries (length (posts_before history shared (day + 1))) (book history issued shared day).cycles
unfolding book
days-few history issued shared day few = book-few history issued shared day (day + 1 - (anchor_of history).opened) refl few

lists-few : (history : List Kept) (issued : List IssuedRow) (shared : SharedRows) (day : ℕ) → HasFewSegments history
    → length (book history issued shared day).entries ≤ 64 * (length history + (day + 1 - (anchor_of history).opened))
unfolding book
lists-few history issued shared day few =
    let n = day + 1 - (anchor_of history).opened in
    let all = book-few history issued shared day n refl few in
    let posts = before-length history shared (day + 1) in
    let cycles = cycles-few issued (account_of history) (seen_on (anchor_of history) shared history issued) n in
    chain _ _ _ _ _ all posts cycles
  where
    chain : (x p c h n : ℕ) → x ≤ 64 * (p + c) → p ≤ h → c ≤ n → x ≤ 64 * (h + n)
    chain x p c h n a b d = omega arith

posts-of-day-few : (history : List Kept) (issued : List IssuedRow) (shared : SharedRows) (n : ℕ) → HasFewSegments history
    → (done rest : List CorrectedPost) → posts_on (seen_on (anchor_of history) shared history issued ((anchor_of history).opened + n)) ≡ done ++ rest
    → length (book_amid history issued shared n done).entries ≤ most_entries (length (posts_before history shared ((anchor_of history).opened + n)) + length done) (book_before history issued shared n).cycles
posts-of-day-few history issued shared n few done rest split =
    let a = anchor_of history in
    let acc = account_of history in
    let b = book_before history issued shared n in
    let ss = posts_before history shared (a.opened + n) in
    let at = amid-few (row_for (present_cycle b) issued) acc a shared history issued (a.opened + n) b done rest few (fold-few issued acc a shared history issued n few) split in
    let before = total-length ss in
    let today = total-length done in
    few-entries _ _ _ _ _ (length ss + length done) b.cycles at (omega arith)

pub entries_are_few : EntriesAreFew
entries_are_few = record { days = days-few; before = before-few; posts = posts-of-day-few; lists = lists-few }
