-- Interest that is posted at a closing changes no other interest, and no accrual.
use Rattle.std.proofs.Common.{◌≡◌, ℕ, ◌+◌, ◌-◌, ◌*◌, ◌≤◌, Bool, true, false, ◌&&◌, List, [], ◌∷◌, ◌++◌, refl, ap, ◌∙◌, arith, eqb, ltb, leb, pos, Option}
use Rattle.std.specs.List.{All}
use Rattle.std.proofs.lemmas.Int.{ints}
use Rattle.std.proofs.lemmas.Bool.Decides.{nat_tests}
use Rattle.std.proofs.lemmas.List.Elements.{All-head, All-tail, All-weaker}
use Rattle.card_events.specs.Money.{daily, interest}
use Rattle.card_closing.specs.Growth.{InterestInTurn}
use Rattle.card_model.specs.Books.{Account, Book, rate_in, with_entries}
use Rattle.card_model.specs.Closing.{Posting, interest_note, post_interest, post_one, posted_for}
use Rattle.card_model.specs.Cycles.{IssuedRow, Seen}
use Rattle.card_model.specs.Effects.{size}
use Rattle.card_model.specs.Entries.{at_least_zero, credit_balance, debit, sum_of}
use Rattle.card_model.specs.Interest.{accrual, case_of, charged, charged_on, cycle_interest, interest_sum, is_in_row, is_repayment, repaid_after, row}
use Rattle.card_model.specs.Segments.{SegmentTerms}
use Rattle.card_model.specs.declared.entry.Entry.{Entry}
use Rattle.card_model.specs.declared.entry.EntryKind.TheVariants as kind
use Rattle.card_model.specs.declared.grace.GraceCase.{GraceCase}
use Rattle.card_model.specs.declared.grace.GraceCase.TheVariants as case
use Rattle.card_model.proofs.EntryFacts.{all-debit}
use Rattle.card_model.proofs.Posted.{sum_of-append}
use Rattle.card_closing.proofs.Days.{same_sums}
use Rattle.card_rates.proofs.LaterPosts.{and_false}

pub sum_of-none : (p : Entry → Bool) (es : List Entry) → All (λ e. p e ≡ false) es → sum_of p es ≡ pos 0
sum_of-none p [] h = refl
sum_of-none p (e ∷ es) h = rw (All-head (λ e. p e ≡ false) e es h, sum_of-none p es (All-tail (λ e. p e ≡ false) e es h)) refl

sum_of-more : (p : Entry → Bool) (es fs : List Entry) → All (λ e. p e ≡ false) fs → sum_of p (es ++ fs) ≡ sum_of p es
sum_of-more p es fs h = omega (arith, ints, sum_of-append p es fs, sum_of-none p fs h)

-- an entry of interest on a day
pub record IsInterestOn (on : ℕ) (e : Entry) : Type 0 where
  pub day : e.day ≡ on
  pub kind : e.kind ≡ kind.Interest

pub interest-entries : (seen : Seen) (s x credit : ℕ) → All (IsInterestOn seen.day) (debit (interest_note seen) s x credit)
interest-entries seen s x credit = all-debit (IsInterestOn seen.day) seen.day 0 s x credit kind.Interest (λ k z. record { day = refl; kind = refl })

pub row-stays : (es fs : List Entry) (s on day : ℕ) → day ≤ on → All (IsInterestOn on) fs → row (es ++ fs) s day ≡ row es s day
unfolding row
row-stays es fs s on day l h =
    ap at_least_zero (sum_of-more (is_in_row s day) es fs (All-weaker (IsInterestOn on) (λ e. is_in_row s day e ≡ false) (λ e k. out e k) fs h))
  where
    out : (e : Entry) → IsInterestOn on e → is_in_row s day e ≡ false
    out e k =
        let late : ltb e.day day ≡ false = let d = k.day in grind (arith, nat_tests) in
        rw (late, k.kind, and_false (eqb e.day day)) (and_false (eqb e.segment s))

repaid-stays : (seen : Seen) (es fs : List Entry) (s on day due : ℕ) → All (IsInterestOn on) fs → repaid_after seen (es ++ fs) s day due ≡ repaid_after seen es s day due
repaid-stays seen es fs s on day due h =
    let p : Entry → Bool = λ e. eqb e.segment s && is_repayment seen e && ltb day e.day && leb e.day due in
    ap size (sum_of-more p es fs (All-weaker (IsInterestOn on) (λ e. p e ≡ false) (λ e k. rw k.kind (never (eqb e.segment s) (ltb day e.day) (leb e.day due))) fs h))
  where
    never : (a l d : Bool) → (a && false && l && d) ≡ false
    never true l d = refl
    never false l d = refl

charged-stays : (c : GraceCase) (seen : Seen) (es fs : List Entry) (s on day : ℕ) → day ≤ on → All (IsInterestOn on) fs → charged c seen (es ++ fs) s day ≡ charged c seen es s day
charged-stays case.None seen es fs s on day l h = refl
charged-stays (case.Lowered due) seen es fs s on day l h = rw (row-stays es fs s on day l h, repaid-stays seen es fs s on day due h) refl
charged-stays case.Plain seen es fs s on day l h = row-stays es fs s on day l h

-- an amount that the interest of other segments doesn't change
abbrev Stays : Seen → (Book → SegmentTerms → ℕ) → Type 0
Stays seen amount = (b : Book) (fs : List Entry) (g : SegmentTerms) → All (IsInterestOn seen.day) fs → amount (with_entries fs b) g ≡ amount b g

sum-stays : (a : Account) (seen : Seen) (purchase : GraceCase) (first : ℕ) → Stays seen (λ b g. interest_sum a seen b purchase first g)
unfolding interest_sum
sum-stays a seen purchase first b fs g h =
    same_sums (λ x. charged_on seen (with_entries fs b) purchase g x * daily (rate_in a seen b x g)) (λ x. charged_on seen b purchase g x * daily (rate_in a seen b x g)) first (seen.day + 1 - first)
    (λ x l m. rw (charged-stays (case_of purchase x g) seen b.entries fs g.id seen.day x (omega arith) h) refl)

accrual-stays : (seen : Seen) → Stays seen (accrual seen)
unfolding accrual
accrual-stays seen b fs g h =
    same_sums (λ x. row (b.entries ++ fs) g.id x * daily g.rate) (λ x. row b.entries g.id x * daily g.rate) g.begins (seen.day + 1 - g.begins)
    (λ x l m. rw (row-stays b.entries fs g.id seen.day x (omega arith) h) refl)

-- the amounts may all be read before any of them is posted
in_turn : (issued : Option IssuedRow) (seen : Seen) (amount : Book → SegmentTerms → ℕ) (before : Book) (gs : List SegmentTerms) (p : Posting) → Stays seen amount
    → ((g : SegmentTerms) → amount p.book g ≡ amount before g) → post_interest issued seen amount gs p ≡ post_interest issued seen (λ b g. amount before g) gs p
unfolding post_interest
in_turn issued seen amount before [] p s h = refl
in_turn issued seen amount before (g ∷ gs) p s h =
    let same : posted_for issued amount g p ≡ posted_for issued (λ b g. amount before g) g p = rw (h g) refl in
    let x = posted_for issued (λ b g. amount before g) g p in
    let next = post_one seen g x p in
    rw same (in_turn issued seen amount before gs next s (λ k. s p.book (debit (interest_note seen) g.id x (credit_balance p.book.entries)) k (interest-entries seen g.id x (credit_balance p.book.entries)) ∙ h k))

accruals : (issued : Option IssuedRow) (seen : Seen) (amount : Book → SegmentTerms → ℕ) (gs : List SegmentTerms) (p : Posting) (g : SegmentTerms) → accrual seen (post_interest issued seen amount gs p).book g ≡ accrual seen p.book g
unfolding post_interest
accruals issued seen amount [] p g = refl
accruals issued seen amount (k ∷ gs) p g =
    let x = posted_for issued amount k p in
    accruals issued seen amount gs (post_one seen k x p) g
    ∙ accrual-stays seen p.book (debit (interest_note seen) k.id x (credit_balance p.book.entries)) g (interest-entries seen k.id x (credit_balance p.book.entries))

pub interest_in_turn : InterestInTurn
interest_in_turn = record {
  amounts = λ issued a seen purchase first gs p.
      in_turn issued seen (cycle_interest a seen purchase first) p.book gs p (λ b fs g h. ap interest (sum-stays a seen purchase first b fs g h)) (λ g. refl);
  accruals = accruals;
}
