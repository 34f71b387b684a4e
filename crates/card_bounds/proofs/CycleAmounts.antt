-- How large the amounts of a cycle are.
use Rattle.std.proofs.Common.{◌≡◌, ℕ, zero, suc, ◌+◌, ◌-◌, ◌*◌, ◌≤◌, Bool, true, false, cond, List, [], ◌∷◌, length, sym, ◌∙◌, subst, arith, Option, Some, None, eqb, leb}
use Rattle.std.specs.List.{All}
use Rattle.std.proofs.lemmas.List.Elements.{All-nil, All-push}
use Rattle.card_bounds.specs.Bounds.{AmountsSmall, IsLimited, most_interest, most_moved, moved}
use Rattle.card_events.specs.Civil.{day_of_month}
use Rattle.card_events.specs.declared.anchor.Anchor.{Anchor}
use Rattle.card_events.specs.History.{anchor_of, corrected, folded, is_folded}
use Rattle.card_events.specs.SharedRows.{SharedRows}
use Rattle.card_events.specs.declared.kept.Kept.{Kept}
use Rattle.card_model.specs.Accepted.{HasFewSegments}
use Rattle.card_model.specs.Books.{Account, Book, account_of, all_segments, present_cycle}
use Rattle.card_model.specs.Caps.{capped_by, row_for}
use Rattle.card_model.specs.Closing.{Posting, close, closed_cycle, closing_interest, first_day_of, post_interest, post_one, posted_for, purchase_case_in, within_limit}
use Rattle.card_model.specs.Cycles.{Cycle, IssuedRow, Seen, amounts_sum, last_cycle, posts_on, seen_on}
use Rattle.card_model.specs.Folds.{book, book_after, day_after}
use Rattle.card_model.specs.Interest.{cycle_interest, deferred_interest}
use Rattle.card_model.specs.Segments.{SegmentTerms}
use Rattle.card_model.proofs.Caps.{due-cycles, posts-cycles}
use Rattle.card_model.proofs.PartsSum.{Rises, rises-filter, slots-rise}
use Rattle.card_bounds.proofs.CountDays.{segments-few}
use Rattle.card_bounds.proofs.CycleInterest.{close-last, listed-interest, sum-push}
use Rattle.card_bounds.proofs.Dated.{posted_on}
use Rattle.card_bounds.proofs.Whole.{moved_of-small}

-- ---- what is posted for a segment
little : (o : Option IssuedRow) (f : IssuedRow → ℕ) (balance cents : ℕ) → capped_by f o (within_limit balance cents) ≤ 10_000_000_000_000
little None f balance cents = omega arith
little (Some r) f balance cents = omega arith

pub posted-little : (issued : Option IssuedRow) (amount : Book → SegmentTerms → ℕ) (g : SegmentTerms) (p : Posting) → posted_for issued amount g p ≤ 10_000_000_000_000
posted-little issued amount g p = little issued _ _ _

sum-little : (issued : Option IssuedRow) (seen : Seen) (amount : Book → SegmentTerms → ℕ) (gs : List SegmentTerms) (p : Posting)
    → amounts_sum (post_interest issued seen amount gs p).amounts ≤ amounts_sum p.amounts + length gs * 10_000_000_000_000
unfolding post_interest
sum-little issued seen amount [] p = omega arith
sum-little issued seen amount (g ∷ gs) p =
    let x = posted_for issued amount g p in
    let next = post_one seen g x p in
    step _ (amounts_sum p.amounts) (amounts_sum next.amounts) x (length gs) (sum-little issued seen amount gs next) (sum-push g.id x p.amounts) (posted-little issued amount g p)
  where
    step : (all old new x n : ℕ) → all ≤ new + n * 10_000_000_000_000 → new ≡ old + x → x ≤ 10_000_000_000_000 → all ≤ old + suc n * 10_000_000_000_000
    step all old new x n a b c = omega (arith, a, b, c)

closing-little : (issued : Option IssuedRow) (a : Account) (seen : Seen) (b : Book) → length (all_segments a seen) ≤ 62 → amounts_sum (closing_interest issued a seen b).amounts ≤ most_interest
unfolding closing_interest
closing-little issued a seen b few =
    let all = all_segments a seen in
    let start : Posting = record { amounts = []; book = b } in
    let amount = cycle_interest a seen (purchase_case_in seen b) (first_day_of a b) in
    let once = post_interest issued seen amount all start in
    twice (length all) (amounts_sum once.amounts) _ few (sum-little issued seen amount all start) (sum-little issued seen (deferred_interest seen) all once)
  where
    twice : (n x y : ℕ) → n ≤ 62 → x ≤ 0 + n * 10_000_000_000_000 → y ≤ x + n * 10_000_000_000_000 → y ≤ 1_240_000_000_000_000
    twice n x y a b c = omega (arith, a, b, c)

-- ---- from day to day
abbrev IsLittle : Cycle → Type 0
IsLittle c = amounts_sum c.interest ≤ most_interest

day-little : (issued : Option IssuedRow) (a : Account) (seen : Seen) (b : Book) → Rises 5 seen.posts → length (all_segments a seen) ≤ 62 → All IsLittle b.cycles → All IsLittle (day_after issued a seen b).cycles
unfolding day_after
day-little issued a seen b rises few h =
    let posted = posted_on issued a seen b in
    let cycles : posted.cycles ≡ b.cycles = posts-cycles issued a seen (posts_on seen) _ ∙ due-cycles issued a seen b (last_cycle b.cycles) in
    by (eqb (day_of_month seen.day) a.anchor.close_day) posted (subst (All IsLittle) (sym cycles) h)
  where
    by : (t : Bool) (posted : Book) → All IsLittle posted.cycles → All IsLittle (cond t (close issued a seen posted) posted).cycles
    by true posted h =
        let c = closed_cycle issued a seen posted (closing_interest issued a seen posted) in
        let new : IsLittle c = subst (λ n. n ≤ most_interest) (sym (listed-interest issued a seen posted rises)) (closing-little issued a seen posted few) in
        subst (All IsLittle) (sym (close-last issued a seen posted)) (All-push IsLittle posted.cycles c h new)
    by false posted h = h

fold-little : (rows : List IssuedRow) (acc : Account) (a : Anchor) (shared : SharedRows) (history : List Kept) (issued : List IssuedRow) → HasFewSegments history → (n : ℕ)
    → All IsLittle (book_after rows acc (seen_on a shared history issued) n).cycles
unfolding book_after
fold-little rows acc a shared history issued few zero = All-nil IsLittle
fold-little rows acc a shared history issued few (suc n) =
    let b = book_after rows acc (seen_on a shared history issued) n in
    let d = acc.anchor.opened + n in
    let rises = rises-filter (λ s. leb s.day d) 5 (folded a shared.holidays history) (rises-filter (λ s. is_folded s.post) 5 (corrected a shared.holidays history) (slots-rise a shared.holidays history 1 5 history)) in
    day-little (row_for (present_cycle b) rows) acc (seen_on a shared history issued d) b rises (segments-few acc a shared history issued d few) (fold-little rows acc a shared history issued few n)

-- ---- the law
interest-little : (history : List Kept) (issued : List IssuedRow) (shared : SharedRows) (day : ℕ) → HasFewSegments history → All IsLittle (book history issued shared day).cycles
unfolding book
interest-little history issued shared day few = fold-little issued (account_of history) (anchor_of history) shared history issued few (day + 1 - (anchor_of history).opened)

moves-little : (posts : ℕ) (history : List Kept) (issued : List IssuedRow) (shared : SharedRows) (day : ℕ) → IsLimited posts history shared day
    → moved (book history issued shared day).entries ≤ most_moved posts
unfolding book
moves-little posts history issued shared day l =
    moved_of-small posts history issued shared (day + 1 - (anchor_of history).opened) day l (omega (arith, l.days))

pub amounts_small : AmountsSmall
amounts_small = record { interest = interest-little; moves = moves-little }
