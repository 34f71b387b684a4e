-- What is counted of an account's posts is brought on, and fits its numbers.
use Rattle.std.proofs.Common.{◌≡◌, ℕ, ◌+◌, ◌≤◌, Bool, true, false, cond, not, ◌&&◌, nat_le, List, ℤ, pos, ◌≤ℤ◌, sym, ap, ◌∙◌, subst, arith}
use Rattle.std.specs.Prelude.{unsigned_abs}
use Rattle.std.specs.List.{All, sum_by}
use Rattle.std.proofs.lemmas.Int.{ints}
use Rattle.card_events.specs.declared.anchor.Anchor.{Anchor}
use Rattle.card_events.specs.History.{CorrectedPost, at_number, corrected}
use Rattle.card_events.specs.declared.kept.Kept.{Kept}
use Rattle.card_events.specs.declared.kept.Slot.{Slot}
use Rattle.card_posts.specs.Posted.{AreBounded, folding_order}
use Rattle.card_fees.specs.Counting.{is_credit_at, is_payment_at, is_returned_until, reaches}
use Rattle.card_fees.specs.Limits.{payments_limit}
use Rattle.card_fees.specs.Tallied.{Leads, credited_before, credited_since, not_before, paid_before, paid_since, return_read}
use Rattle.card_fees.specs.declared.returning.Until.TheVariants as until
use Rattle.card_fees.proofs.Tallied.{credited-on, credited-whole, each-two, paid-on, paid-whole, sum-most}

at-most : (z : ℤ) → pos 0 ≤ℤ z → z ≤ℤ pos 999_999_999_999 → unsigned_abs z ≤ 999_999_999_999
at-most z l h = omega (arith, ints)

most-each : (xs : List Slot) → AreBounded xs → All (λ (s : Slot). unsigned_abs s.cents ≤ 999_999_999_999) xs
most-each xs b =
    each-two (λ (s : Slot). pos 0 ≤ℤ s.cents) (λ (s : Slot). s.cents ≤ℤ pos 999_999_999_999) (λ (s : Slot). unsigned_abs s.cents ≤ 999_999_999_999) xs
    (λ s l h. at-most s.cents l h) b.low b.high

thrice : (L R A : Bool) (c : ℕ) → cond L (cond R (cond A c 0) 0) 0 ≤ c
thrice true true true c = omega arith
thrice true true false c = omega arith
thrice true false A c = omega arith
thrice false R A c = omega arith

pub paid-most : (a : Anchor) (holidays : List ℕ) (history : List Kept) (from day number : ℕ) → AreBounded (folding_order (corrected a holidays history)) → paid_before (corrected a holidays history) from day number ≤ payments_limit
paid-most a holidays history from day number b =
    let whole = paid-whole a holidays history from day number in
    let most =
    sum-most (paid_since (until.Post day number) history xs from) (folding_order xs)
    (λ s. thrice (nat_le from s.day) (reaches (until.Post day number) s.day s.number) (is_payment_at (at_number s.number history) && not (is_returned_until (until.Post day number) history xs s.number)) (unsigned_abs s.cents))
    (most-each (folding_order xs) b) in
    omega (arith, whole, most, b.count)
  where
    xs : List CorrectedPost
    xs = corrected a holidays history

pub credited-most : (a : Anchor) (holidays : List ℕ) (history : List Kept) (from day number : ℕ) → AreBounded (folding_order (corrected a holidays history)) → credited_before (corrected a holidays history) from day number ≤ payments_limit
credited-most a holidays history from day number b =
    let whole = credited-whole a holidays history from day number in
    let most =
    sum-most (credited_since (until.Post day number) history from) (folding_order xs)
    (λ s. thrice (nat_le from s.day) (reaches (until.Post day number) s.day s.number) (is_credit_at (at_number s.number history)) (unsigned_abs s.cents))
    (most-each (folding_order xs) b) in
    omega (arith, whole, most, b.count)
  where
    xs : List CorrectedPost
    xs = corrected a holidays history

-- ---- the sums are brought on
pub paid-bound : (a : Anchor) (holidays : List ℕ) (history : List Kept) (xs : List CorrectedPost) (slots : List Slot) (from day number : ℕ)
    → xs ≡ corrected a holidays history → slots ≡ folding_order xs → AreBounded slots → paid_before xs from day number ≤ payments_limit
paid-bound a holidays history xs slots from day number stands same b =
    subst (λ l. paid_before l from day number ≤ payments_limit) (sym stands)
    (paid-most a holidays history from day number (subst AreBounded (same ∙ ap folding_order stands) b))

pub credited-bound : (a : Anchor) (holidays : List ℕ) (history : List Kept) (xs : List CorrectedPost) (slots : List Slot) (from day number : ℕ)
    → xs ≡ corrected a holidays history → slots ≡ folding_order xs → AreBounded slots → credited_before xs from day number ≤ payments_limit
credited-bound a holidays history xs slots from day number stands same b =
    subst (λ l. credited_before l from day number ≤ payments_limit) (sym stands)
    (credited-most a holidays history from day number (subst AreBounded (same ∙ ap folding_order stands) b))

pub paid-brought : (a : Anchor) (holidays : List ℕ) (history : List Kept) (xs : List CorrectedPost) (slots : List Slot) (from day number later last old : ℕ)
    → xs ≡ corrected a holidays history → slots ≡ not_before day number (folding_order xs) → Leads day number later last → old ≡ paid_before xs from day number
    → sum_by (return_read (until.Post later last) history) slots ≡ 0
    → old + sum_by (paid_since (until.Post later last) history xs from) slots ≡ paid_before xs from later last
paid-brought a holidays history xs slots from day number later last old stands parts l was none =
    ap (λ n. n + sum_by (paid_since (until.Post later last) history xs from) slots) (was ∙ ap (λ p. paid_before p from day number) stands)
    ∙ ap (λ p. paid_before ys from day number + sum_by (paid_since (until.Post later last) history p from) slots) stands
    ∙ ap (λ s. paid_before ys from day number + sum_by (paid_since (until.Post later last) history ys from) s) rest
    ∙ paid-on a holidays history from day number later last l (ap (sum_by (return_read (until.Post later last) history)) (sym rest) ∙ none)
    ∙ ap (λ p. paid_before p from later last) (sym stands)
  where
    ys : List CorrectedPost
    ys = corrected a holidays history

    rest : slots ≡ not_before day number (folding_order ys)
    rest = parts ∙ ap (λ p. not_before day number (folding_order p)) stands

pub credited-brought : (a : Anchor) (holidays : List ℕ) (history : List Kept) (xs : List CorrectedPost) (slots : List Slot) (from day number later last old : ℕ)
    → xs ≡ corrected a holidays history → slots ≡ not_before day number (folding_order xs) → Leads day number later last → old ≡ credited_before xs from day number
    → old + sum_by (credited_since (until.Post later last) history from) slots ≡ credited_before xs from later last
credited-brought a holidays history xs slots from day number later last old stands parts l was =
    ap (λ n. n + sum_by (credited_since (until.Post later last) history from) slots) (was ∙ ap (λ p. credited_before p from day number) stands)
    ∙ ap (λ s. credited_before ys from day number + sum_by (credited_since (until.Post later last) history from) s) rest
    ∙ credited-on a holidays history from day number later last l
    ∙ ap (λ p. credited_before p from later last) (sym stands)
  where
    ys : List CorrectedPost
    ys = corrected a holidays history

    rest : slots ≡ not_before day number (folding_order ys)
    rest = parts ∙ ap (λ p. not_before day number (folding_order p)) stands
