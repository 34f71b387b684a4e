-- Held is never below 0 on the lists that a desk accepts: whole days, and the posts of a day.
use Rattle.std.proofs.Common.{◌≡◌, ℕ, zero, suc, ◌+◌, ◌-◌, ◌<◌, ◌≤◌, Bool, true, false, cond, List, [], ◌∷◌, ◌++◌, refl, sym, ap, ◌∙◌, subst, arith, pos, Option, eqb, leb, length, get_or}
use Rattle.std.specs.Prelude.{◌≤ℤ◌}
use Rattle.std.specs.List.{All, Contains, filter, count_by}
use Rattle.std.proofs.lemmas.Bool.{eqb-true}
use Rattle.std.proofs.lemmas.List.{append-nil}
use Rattle.std.proofs.lemmas.List.Sums.{sum_by-cons}
use Rattle.std.proofs.lemmas.List.Elements.{All-nil, All-cons, All-head, All-tail, All-filter, All-contains_itself, filter_passes}
use Rattle.card_bounds.specs.Bounds.{HeldIsNeverBelow, IsOrderly}
use Rattle.card_events.specs.Civil.{day_of_month}
use Rattle.card_events.specs.declared.anchor.Anchor.{Anchor}
use Rattle.card_events.specs.History.{CorrectedPost, anchor_of, corrected, corrected_from, corrected_post, folded, is_folded, next_segment}
use Rattle.card_events.specs.SharedRows.{SharedRows}
use Rattle.card_events.specs.declared.kept.Kept.{Kept}
use Rattle.card_model.specs.Accepted.{AreResolvedOnce, HasFewCents, HasFewFees}
use Rattle.card_model.specs.Allocation.{parts}
use Rattle.card_model.specs.Books.{Account, Book, account_of, present_cycle}
use Rattle.card_model.specs.Caps.{row_for}
use Rattle.card_model.specs.Closing.{close}
use Rattle.card_model.specs.Cycles.{IssuedRow, last_cycle, posts_on, seen_on}
use Rattle.card_model.specs.Deadlines.{resolves}
use Rattle.card_model.specs.DueDates.{on_due}
use Rattle.card_model.specs.Effects.{after_posts}
use Rattle.card_model.specs.Entries.{balance, posted}
use Rattle.card_model.specs.Folds.{book, book_after, day_after}
use Rattle.card_model.specs.Interest.{row}
use Rattle.card_model.specs.Machine.{opened}
use Rattle.card_model.specs.declared.entry.Entry.{Entry}
use Rattle.card_bounds.proofs.Owned.{Clean, held_by}
use Rattle.card_bounds.proofs.Totals.{Numbers, numbers-filter, slots-number, only-one, due-step, clean-still, owned-same}
use Rattle.card_bounds.proofs.Whole.{Folded, fold-folded, folded-few, limits-on}
use Rattle.card_bounds.proofs.Holds.{Claimed, OnHeld, named_times, never-below}
use Rattle.card_bounds.proofs.Held.{Ahead, posts-claimed, due-claimed, close-claimed}

-- ---- what a history gives
-- as many posts of the corrected list name a Dispute as of the history
named-corrected : (m : ℕ) (a : Anchor) (holidays : List ℕ) (history : List Kept) (n id : ℕ) (ks : List Kept) → named_times m (corrected_from a holidays history n id ks) ≡ count_by (λ k. resolves m k.post) ks
unfolding corrected_from corrected_post
named-corrected m a holidays history n id [] = refl
named-corrected m a holidays history n id (k ∷ ks) =
    ap (λ x. cond (resolves m k.post) 1 0 + x) (named-corrected m a holidays history (suc n) (next_segment id k.post) ks) ∙ sym (sum_by-cons (λ (x : Kept). cond (resolves m x.post) 1 0) k ks)

named-filter : (m : ℕ) (p : CorrectedPost → Bool) (ss : List CorrectedPost) → named_times m (filter p ss) ≤ named_times m ss
named-filter m p [] = omega arith
named-filter m p (s ∷ ss) = by (p s) (named-filter m p ss)
  where
    by : (t : Bool) → named_times m (filter p ss) ≤ named_times m ss → named_times m (cond t (s ∷ filter p ss) (filter p ss)) ≤ named_times m (s ∷ ss)
    by true h = omega arith
    by false h = omega arith

-- no Dispute is named twice
named-once : (a : Anchor) (holidays : List ℕ) (history : List Kept) → AreResolvedOnce history → (m : ℕ) → named_times m (folded a holidays history) ≤ 1
named-once a holidays history once m =
    let few = named-filter m (λ s. is_folded s.post) (corrected a holidays history) in
    let same = named-corrected m a holidays history 1 5 history in
    let one = once m in
    omega arith

-- numbers lie below one
below-corrected : (a : Anchor) (holidays : List ℕ) (history : List Kept) (n id most : ℕ) (ks : List Kept) → length ks + n ≤ most → All (λ (s : CorrectedPost). s.number < most) (corrected_from a holidays history n id ks)
unfolding corrected_from corrected_post
below-corrected a holidays history n id most [] l = All-nil (λ (s : CorrectedPost). s.number < most)
below-corrected a holidays history n id most (k ∷ ks) l =
    All-cons (λ (s : CorrectedPost). s.number < most) _ _ (omega arith) (below-corrected a holidays history (suc n) (next_segment id k.post) most ks (omega arith))

below-folded : (a : Anchor) (holidays : List ℕ) (history : List Kept) → All (λ (s : CorrectedPost). s.number < length history + 1) (folded a holidays history)
below-folded a holidays history = All-filter (λ (s : CorrectedPost). is_folded s.post) (λ (s : CorrectedPost). s.number < length history + 1) (corrected a holidays history) (below-corrected a holidays history 1 5 (length history + 1) history (omega arith))

-- ---- the posts of a day, before they are folded
today-ahead : (a : Anchor) (shared : SharedRows) (history : List Kept) (issued : List IssuedRow) (opened n : ℕ) (es : List Entry) → All HasFewCents history → Folded opened n (folded a shared.holidays history) es
    → Ahead (length history + 1) 1 (folded a shared.holidays history) (posts_on (seen_on a shared history issued (opened + n))) es
today-ahead a shared history issued opened n es few h =
    let ss = folded a shared.holidays history in
    let d = opened + n in
    let seen = seen_on a shared history issued d in
    let numbers : Numbers 1 ss = numbers-filter (λ s. is_folded s.post) 1 (corrected a shared.holidays history) (slots-number a shared.holidays history 1 5 history) in
    let among : All (Contains ss) (posts_on seen) = All-filter (λ (s : CorrectedPost). eqb s.day d) (Contains ss) seen.posts (All-filter (λ (s : CorrectedPost). leb s.day d) (Contains ss) ss (All-contains_itself ss)) in
    let today : All (λ (s : CorrectedPost). eqb s.day d ≡ true) (posts_on seen) = filter_passes (λ (s : CorrectedPost). eqb s.day d) seen.posts in
    record {
      cents = All-filter (λ (s : CorrectedPost). eqb s.day d) (λ (s : CorrectedPost). s.cents ≤ 1000000000) seen.posts (All-filter (λ (s : CorrectedPost). leb s.day d) (λ (s : CorrectedPost). s.cents ≤ 1000000000) ss (folded-few a shared.holidays history few));
      numbers = numbers-filter (λ s. eqb s.day d) 1 seen.posts (numbers-filter (λ s. leb s.day d) 1 ss numbers);
      below = All-filter (λ (s : CorrectedPost). eqb s.day d) (λ (s : CorrectedPost). s.number < length history + 1) seen.posts (All-filter (λ (s : CorrectedPost). leb s.day d) (λ (s : CorrectedPost). s.number < length history + 1) ss (below-folded a shared.holidays history));
      among = among;
      clean = λ k e l.
          let t = get_or (posts_on seen) k e in
          let day : t.day ≡ d = eqb-true t.day d (today k e l) in
          let alone = only-one 1 ss t numbers (among k e l) in
          h.clean t.number (λ i x w q. let same = ap (λ (u : CorrectedPost). u.day) (alone i x w q) in omega arith);
    }

-- a front of them
pub all-front : (p : CorrectedPost → Type 0) (xs ys : List CorrectedPost) → All p (xs ++ ys) → All p xs
all-front p [] ys h = All-nil p
all-front p (x ∷ xs) ys h = All-cons p x xs (All-head p x (xs ++ ys) h) (all-front p xs ys (All-tail p x (xs ++ ys) h))

pub numbers-front : (low : ℕ) (xs ys : List CorrectedPost) → Numbers low (xs ++ ys) → Numbers low xs
numbers-front low [] ys h = tt
numbers-front low (x ∷ xs) ys h = (h.0, numbers-front (suc x.number) xs ys h.1)

ahead-front : (n : ℕ) (ps xs ys : List CorrectedPost) (es : List Entry) → Ahead n 1 ps (xs ++ ys) es → Ahead n 1 ps xs es
ahead-front n ps xs ys es h = record {
  cents = all-front (λ (s : CorrectedPost). s.cents ≤ 1000000000) xs ys h.cents;
  numbers = numbers-front 1 xs ys h.numbers;
  below = all-front (λ (s : CorrectedPost). s.number < n) xs ys h.below;
  among = all-front (Contains ps) xs ys h.among;
  clean = all-front (λ (s : CorrectedPost). Clean s.number es) xs ys h.clean;
}

-- ---- a day
-- after the due date and a front of the posts
amid-claimed : (row : Option IssuedRow) (acc : Account) (a : Anchor) (shared : SharedRows) (history : List Kept) (issued : List IssuedRow) (n : ℕ) (b : Book) (done rest : List CorrectedPost) → All HasFewCents history → All HasFewFees shared.fees
    → Folded acc.anchor.opened n (folded a shared.holidays history) b.entries → Claimed (length history + 1) (folded a shared.holidays history) b.entries → posts_on (seen_on a shared history issued (acc.anchor.opened + n)) ≡ done ++ rest
    → Claimed (length history + 1) (folded a shared.holidays history) (after_posts row acc (seen_on a shared history issued (acc.anchor.opened + n)) done (on_due row acc (seen_on a shared history issued (acc.anchor.opened + n)) b (last_cycle b.cycles))).entries
amid-claimed row acc a shared history issued n b done rest few fees h c parts =
    let ss = folded a shared.holidays history in
    let most = length history + 1 in
    let seen = seen_on a shared history issued (acc.anchor.opened + n) in
    let limits = limits-on a shared history issued (acc.anchor.opened + n) (folded-few a shared.holidays history few) fees in
    let due = on_due row acc seen b (last_cycle b.cycles) in
    let fined = due-step row acc seen b (last_cycle b.cycles) limits in
    let whole = today-ahead a shared history issued acc.anchor.opened n b.entries few h in
    let front = ahead-front most ss done rest b.entries (subst (λ xs. Ahead most 1 ss xs b.entries) parts whole) in
    let still : All (λ (t : CorrectedPost). Clean t.number due.entries) done = λ k d w. clean-still (get_or done k d).number b.entries due.entries (fined.same (get_or done k d).number) (front.clean k d w) in
    let ahead : Ahead most 1 ss done due.entries = record { cents = front.cents; numbers = front.numbers; below = front.below; among = front.among; clean = still } in
    posts-claimed most 1 ss row acc seen done due limits ahead (owned-same b.entries due.entries fined.same h.owned) (due-claimed most ss row acc seen b (last_cycle b.cycles) limits.ids c)

whole-list : (xs : List CorrectedPost) → xs ≡ xs ++ []
whole-list xs = sym (append-nil xs)

day-claimed : (row : Option IssuedRow) (acc : Account) (a : Anchor) (shared : SharedRows) (history : List Kept) (issued : List IssuedRow) (n : ℕ) (b : Book) → All HasFewCents history → All HasFewFees shared.fees
    → Folded acc.anchor.opened n (folded a shared.holidays history) b.entries → Claimed (length history + 1) (folded a shared.holidays history) b.entries
    → Claimed (length history + 1) (folded a shared.holidays history) (day_after row acc (seen_on a shared history issued (acc.anchor.opened + n)) b).entries
unfolding day_after
day-claimed row acc a shared history issued n b few fees h c =
    let seen = seen_on a shared history issued (acc.anchor.opened + n) in
    let limits = limits-on a shared history issued (acc.anchor.opened + n) (folded-few a shared.holidays history few) fees in
    let posted = after_posts row acc seen (posts_on seen) (on_due row acc seen b (last_cycle b.cycles)) in
    let all = amid-claimed row acc a shared history issued n b (posts_on seen) [] few fees h c (whole-list (posts_on seen)) in
    by (eqb (day_of_month seen.day) acc.anchor.close_day) posted all (close-claimed (length history + 1) (folded a shared.holidays history) row acc seen posted limits.ids all)
  where
    by : (t : Bool) (posted : Book) → Claimed (length history + 1) (folded a shared.holidays history) posted.entries
        → Claimed (length history + 1) (folded a shared.holidays history) (close row acc (seen_on a shared history issued (acc.anchor.opened + n)) posted).entries
        → Claimed (length history + 1) (folded a shared.holidays history) (cond t (close row acc (seen_on a shared history issued (acc.anchor.opened + n)) posted) posted).entries
    by true posted g k = k
    by false posted g k = g

nothing-claimed : (n : ℕ) (ps : List CorrectedPost) → Claimed n ps []
unfolding held_by
nothing-claimed n ps = record { place = All-nil (OnHeld n); few = λ m. omega arith }

fold-claimed : (rows : List IssuedRow) (acc : Account) (a : Anchor) (shared : SharedRows) (history : List Kept) (issued : List IssuedRow) (n : ℕ) → All HasFewCents history → All HasFewFees shared.fees
    → Claimed (length history + 1) (folded a shared.holidays history) (book_after rows acc (seen_on a shared history issued) n).entries
unfolding book_after
fold-claimed rows acc a shared history issued zero few fees = nothing-claimed (length history + 1) (folded a shared.holidays history)
fold-claimed rows acc a shared history issued (suc n) few fees =
    let b = book_after rows acc (seen_on a shared history issued) n in
    day-claimed (row_for (present_cycle b) rows) acc a shared history issued n b few fees
    (fold-folded rows acc a shared history issued n (folded-few a shared.holidays history few) fees)
    (fold-claimed rows acc a shared history issued n few fees)

-- ---- the law
days_never_below : (history : List Kept) (issued : List IssuedRow) (shared : SharedRows) (day : ℕ) → IsOrderly history shared → pos 0 ≤ℤ balance 1 (book history issued shared day).entries
unfolding book
days_never_below history issued shared day h =
    let a = anchor_of history in
    never-below (length history + 1) (folded a shared.holidays history) _ (named-once a shared.holidays history h.resolved) (fold-claimed issued (account_of history) a shared history issued (day + 1 - a.opened) h.cents h.fees)

pub held_is_never_below : HeldIsNeverBelow
held_is_never_below = record {
  days = days_never_below;
  posts = λ history issued shared n h done rest parts.
      let a = anchor_of history in
      let b = book_after issued (account_of history) (seen_on a shared history issued) n in
      never-below (length history + 1) (folded a shared.holidays history) _ (named-once a shared.holidays history h.resolved)
      (amid-claimed (row_for (present_cycle b) issued) (account_of history) a shared history issued n b done rest h.cents h.fees
      (fold-folded issued (account_of history) a shared history issued n (folded-few a shared.holidays history h.cents) h.fees)
      (fold-claimed issued (account_of history) a shared history issued n h.cents h.fees) parts);
}
