-- How much an account moves, and how large its balances are.
use Rattle.std.proofs.Common.{◌≡◌, ℕ, zero, suc, ◌+◌, ◌*◌, ◌≤◌, Bool, true, false, cond, List, [], ◌∷◌, refl, ap, ◌∙◌, arith, Option, Some, None, eqb, length, get_or}
use Rattle.std.specs.List.{filter, All, Contains}
use Rattle.std.proofs.lemmas.Bool.{ne_eqb}
use Rattle.std.proofs.lemmas.List.Elements.{All-nil, All-cons, All-head, All-tail, All-weaker, All-filter, All-contains}
use Rattle.card_bounds.specs.Bounds.{moved}
use Rattle.card_events.specs.Civil.{day_of_month}
use Rattle.card_events.specs.declared.anchor.Anchor.{Anchor}
use Rattle.card_events.specs.History.{CorrectedPost, corrected_from, corrected_post, next_segment}
use Rattle.card_events.specs.declared.kept.Kept.{Kept}
use Rattle.card_model.specs.Books.{Account, Book}
use Rattle.card_model.specs.Closing.{Posting, close, closing_interest, post_interest, post_one, posted_for}
use Rattle.card_model.specs.Cycles.{Cycle, IssuedRow, Seen, last_cycle, posts_on}
use Rattle.card_model.specs.DueDates.{after_due_date, on_due}
use Rattle.card_model.specs.Effects.{after_posts, effect}
use Rattle.card_model.specs.Entries.{credit_balance, debit, posted}
use Rattle.card_model.specs.Fees.{late_fee}
use Rattle.card_model.specs.Folds.{day_after}
use Rattle.card_model.specs.Segments.{SegmentTerms}
use Rattle.card_model.specs.declared.entry.Entry.{Entry}
use Rattle.card_model.specs.declared.entry.EntryKind.TheVariants as kind
use Rattle.card_bounds.proofs.Bounded.{moved-append, moved-interest}
use Rattle.card_bounds.proofs.Owned.{Clean, interest-clean}
use Rattle.card_bounds.proofs.Steps.{Limits, Owned, Same, WithFee, fee-step, effect-step, owned-after, late-small, clean-same}

-- numbers that ascend from one on
abbrev pub Numbers : ℕ → List CorrectedPost → Type 0
Numbers low [] = Unit {0}
Numbers low (s ∷ ss) = (low ≤ s.number) × Numbers (suc s.number) ss

numbers-later : (low more : ℕ) (ss : List CorrectedPost) → low ≤ more → Numbers more ss → Numbers low ss
numbers-later low more [] l h = tt
numbers-later low more (s ∷ ss) l h = (let m = h.0 in omega arith, h.1)

pub numbers-filter : (p : CorrectedPost → Bool) (low : ℕ) (ss : List CorrectedPost) → Numbers low ss → Numbers low (filter p ss)
numbers-filter p low [] h = tt
numbers-filter p low (s ∷ ss) h = by (p s) (numbers-filter p (suc s.number) ss h.1)
  where
    by : (t : Bool) → Numbers (suc s.number) (filter p ss) → Numbers low (cond t (s ∷ filter p ss) (filter p ss))
    by true r = (h.0, r)
    by false r = let m = h.0 in numbers-later low (suc s.number) (filter p ss) (omega arith) r

pub slots-number : (a : Anchor) (holidays : List ℕ) (history : List Kept) (n id : ℕ) (ks : List Kept) → Numbers n (corrected_from a holidays history n id ks)
unfolding corrected_from corrected_post
slots-number a holidays history n id [] = tt
slots-number a holidays history n id (k ∷ ks) = (omega arith, slots-number a holidays history (suc n) (next_segment id k.post) ks)

numbers-above : (low : ℕ) (ss : List CorrectedPost) → Numbers low ss → All (λ (t : CorrectedPost). low ≤ t.number) ss
numbers-above low [] h = All-nil (λ (t : CorrectedPost). low ≤ t.number)
numbers-above low (s ∷ ss) h = All-cons (λ (t : CorrectedPost). low ≤ t.number) s ss h.0 (numbers-above low ss (let m = h.0 in numbers-later low (suc s.number) ss (omega arith) h.1))

-- of one number there is one
pub only-one : (low : ℕ) (ss : List CorrectedPost) (t : CorrectedPost) → Numbers low ss → Contains ss t → All (λ (u : CorrectedPost). u.number ≡ t.number → u ≡ t) ss
only-one low [] t h c = All-nil (λ (u : CorrectedPost). u.number ≡ t.number → u ≡ t)
only-one low (s ∷ ss) t h (zero, l, e) =
    let above = numbers-above (suc s.number) ss h.1 in
    All-cons (λ (u : CorrectedPost). u.number ≡ t.number → u ≡ t) s ss (λ q. e)
    (All-weaker (λ (u : CorrectedPost). suc s.number ≤ u.number) (λ (u : CorrectedPost). u.number ≡ t.number → u ≡ t) (λ u m q. let n = ap (λ (x : CorrectedPost). x.number) e in absurd (omega arith)) ss above)
only-one low (s ∷ ss) t h (suc k, l, e) =
    let c : Contains ss t = (k, omega arith, e) in
    let m = All-contains (λ (u : CorrectedPost). suc s.number ≤ u.number) ss t (numbers-above (suc s.number) ss h.1) c in
    All-cons (λ (u : CorrectedPost). u.number ≡ t.number → u ≡ t) s ss (λ q. absurd (omega arith)) (only-one (suc s.number) ss t h.1 c)

-- ---- the posts of a day
pub record Run (ss : List CorrectedPost) (es new : List Entry) : Type 0 where
  pub moves : moved new ≤ moved es + length ss * 2000100000
  pub owned : Owned new
  pub other : (n : ℕ) → All (λ (t : CorrectedPost). eqb t.number n ≡ false) ss → Same n es new

same-then : (n : ℕ) (xs ys zs : List Entry) → Same n xs ys → Same n ys zs → Same n xs zs
same-then n xs ys zs a b = record { paid = b.paid ∙ a.paid; held = b.held ∙ a.held }

pub clean-still : (n : ℕ) (es new : List Entry) → Same n es new → Clean n es → Clean n new
clean-still n es new s c = record { paid = s.paid ∙ c.paid; held = s.held ∙ c.held }

pub posts-run : (issued : Option IssuedRow) (a : Account) (seen : Seen) (low : ℕ) (ss : List CorrectedPost) (b : Book) → Limits seen → All (λ (s : CorrectedPost). s.cents ≤ 1000000000) ss → Numbers low ss
    → All (λ (t : CorrectedPost). Clean t.number b.entries) ss → Owned b.entries → Run ss b.entries (after_posts issued a seen ss b).entries
unfolding after_posts
posts-run issued a seen low [] b l c m clean owned = record { moves = omega arith; owned = owned; other = λ n h. record { paid = refl; held = refl } }
posts-run issued a seen low (s ∷ ss) b l c m clean owned =
    let next = effect issued a seen s s.post b in
    let step = effect-step issued a seen s s.post b l (All-head (λ (s : CorrectedPost). s.cents ≤ 1000000000) s ss c) owned in
    let fresh = All-head (λ (t : CorrectedPost). Clean t.number b.entries) s ss clean in
    let later = All-tail (λ (t : CorrectedPost). Clean t.number b.entries) s ss clean in
    let above = numbers-above (suc s.number) ss m.1 in
    let still : All (λ (t : CorrectedPost). Clean t.number next.entries) ss = λ k d w.
    clean-still (get_or ss k d).number b.entries next.entries (step.other (get_or ss k d).number (ne_eqb s.number (get_or ss k d).number (λ e. omega (arith, above k d w)))) (later k d w) in
    let rest = posts-run issued a seen (suc s.number) ss next l (All-tail (λ (s : CorrectedPost). s.cents ≤ 1000000000) s ss c) m.1 still (owned-after s.number 2000100000 b.entries next.entries step fresh owned) in
    record {
      moves = sums (moved b.entries) (moved next.entries) _ (length ss) step.moves rest.moves;
      owned = rest.owned;
      other = λ n h. same-then n b.entries next.entries _ (step.other n (All-head (λ (t : CorrectedPost). eqb t.number n ≡ false) s ss h)) (rest.other n (All-tail (λ (t : CorrectedPost). eqb t.number n ≡ false) s ss h));
    }
  where
    sums : (x y z n : ℕ) → y ≤ x + 2000100000 → z ≤ y + n * 2000100000 → z ≤ x + suc n * 2000100000
    sums x y z n a b = omega arith

-- ---- a day
pub owned-same : (es new : List Entry) → ((n : ℕ) → Same n es new) → Owned es → Owned new
owned-same es new s o = record { paid = λ n. let e = (s n).paid in omega (arith, o.paid n); held = λ n. rw (s n).held (o.held n) }

pub due-step : (issued : Option IssuedRow) (a : Account) (seen : Seen) (b : Book) (c : Option Cycle) → Limits seen → WithFee b.entries (on_due issued a seen b c).entries
unfolding on_due
due-step issued a seen b None l = record { moves = omega arith; same = λ n. record { paid = refl; held = refl } }
due-step issued a seen b (Some c) l = by (eqb seen.day (c.due + 1)) (fee-step a seen 0 (late_fee issued seen b c) b (late-small issued seen b c l))
  where
    by : (t : Bool) → WithFee b.entries (after_due_date issued a seen b c).entries → WithFee b.entries (cond t (after_due_date issued a seen b c) b).entries
    by true h = h
    by false h = record { moves = omega arith; same = λ n. record { paid = refl; held = refl } }

-- interest moves nothing that counts, and is no post's
pub record Kind (es new : List Entry) : Type 0 where
  pub moves : moved new ≡ moved es
  pub same : (n : ℕ) → Same n es new

pub interest-step : (issued : Option IssuedRow) (seen : Seen) (amount : Book → SegmentTerms → ℕ) (gs : List SegmentTerms) (p : Posting) → Kind p.book.entries (post_interest issued seen amount gs p).book.entries
unfolding post_interest
interest-step issued seen amount [] p = record { moves = refl; same = λ n. record { paid = refl; held = refl } }
interest-step issued seen amount (g ∷ gs) p =
    let x = posted_for issued amount g p in
    let next = post_one seen g x p in
    let xs = debit (record { day = seen.day; kind = kind.Interest; post = 0 }) g.id x (credit_balance p.book.entries) in
    let rest = interest-step issued seen amount gs next in
    record {
      moves = rest.moves ∙ (moved-append p.book.entries xs ∙ (let e = moved-interest seen.day 0 g.id x (credit_balance p.book.entries) in omega arith));
      same = λ n. same-then n p.book.entries next.book.entries _ (clean-same n p.book.entries xs (interest-clean n seen.day 0 g.id x (credit_balance p.book.entries))) (rest.same n);
    }

close-step : (issued : Option IssuedRow) (a : Account) (seen : Seen) (b : Book) → Kind b.entries (close issued a seen b).entries
unfolding close closing_interest
close-step issued a seen b =
    let once = interest-step issued seen _ _ (record { amounts = []; book = b }) in
    let twice = interest-step issued seen _ _ _ in
    record { moves = twice.moves ∙ once.moves; same = λ n. same-then n b.entries _ _ (once.same n) (twice.same n) }

pub record DayRun (ss : List CorrectedPost) (es new : List Entry) : Type 0 where
  pub moves : moved new ≤ moved es + length ss * 2000100000 + 100000
  pub owned : Owned new
  pub other : (n : ℕ) → All (λ (t : CorrectedPost). eqb t.number n ≡ false) ss → Same n es new

pub day-run : (issued : Option IssuedRow) (a : Account) (seen : Seen) (low : ℕ) (b : Book) → Limits seen → Numbers low (posts_on seen) → All (λ (t : CorrectedPost). Clean t.number b.entries) (posts_on seen) → Owned b.entries
    → DayRun (posts_on seen) b.entries (day_after issued a seen b).entries
unfolding day_after
day-run issued a seen low b l m clean owned =
    let due = on_due issued a seen b (last_cycle b.cycles) in
    let fined = due-step issued a seen b (last_cycle b.cycles) l in
    let posted = after_posts issued a seen (posts_on seen) due in
    let still : All (λ (t : CorrectedPost). Clean t.number due.entries) (posts_on seen) = λ k d w. clean-still (get_or (posts_on seen) k d).number b.entries due.entries (fined.same (get_or (posts_on seen) k d).number) (clean k d w) in
    let run = posts-run issued a seen low (posts_on seen) due l (All-filter (λ (s : CorrectedPost). eqb s.day seen.day) (λ (s : CorrectedPost). s.cents ≤ 1000000000) seen.posts l.cents) m still (owned-same b.entries due.entries fined.same owned) in
    by (eqb (day_of_month seen.day) a.anchor.close_day) posted
    (record { moves = sums (moved b.entries) (moved due.entries) (moved posted.entries) (length (posts_on seen)) fined.moves run.moves; owned = run.owned; other = λ n h. same-then n b.entries due.entries posted.entries (fined.same n) (run.other n h) })
  where
    sums : (x y z n : ℕ) → y ≤ x + 100000 → z ≤ y + n * 2000100000 → z ≤ x + n * 2000100000 + 100000
    sums x y z n a b = omega arith

    by : (t : Bool) (posted : Book) → DayRun (posts_on seen) b.entries posted.entries → DayRun (posts_on seen) b.entries (cond t (close issued a seen posted) posted).entries
    by false posted r = r
    by true posted r = let c = close-step issued a seen posted in
        record { moves = let e = c.moves in let f = r.moves in omega arith; owned = owned-same posted.entries (close issued a seen posted).entries c.same r.owned; other = λ n h. same-then n b.entries posted.entries _ (r.other n h) (c.same n) }
