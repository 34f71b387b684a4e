use Rattle.std.proofs.Common.{◌≡◌, ℕ, ◌+◌, ◌-◌, Bool, true, false, ◌&&◌, not, List, length, get_or, refl, sym, ◌∙◌, arith, eqb}
use Rattle.std.proofs.lemmas.Bool.{eq-eqb, ne_eqb}
use Rattle.card_closing.specs.Runs.{ends_with}
use Rattle.card_closing.specs.declared.runs.Run.{Run}
use Rattle.card_closing.proofs.Spreads.{ends_with-last, ends_with-none, spread-longer}
use Rattle.card_closing.proofs.runs.lengthen.Goals as goal
use Rattle.card_closing.proofs.runs.lengthen.Goals.{then-last-more-via-then-last-more, then-last-more-via-else-last-more+then-ne}

pub returns-then-count-eq0-clause-joins : goal.returns-then-count-eq0-clause-joins
returns-then-count-eq0-clause-joins c = sym (ends_with-none c.args.more.now.balance c.args.more.now.rate c.args.runs.now.items (omega (arith, c.len-count.ensures, c.if-count-eq0.true)))

-- the last run differs in its balance, or in its rate
other_balance : (a b : ℕ) (q : Bool) → eqb a b ≡ false → (eqb a b && q) ≡ false
other_balance a b q e = rw e refl

other_rate : (p q : Bool) → true ≡ not q → (p && q) ≡ false
other_rate p true e = cc
other_rate true false e = refl
other_rate false false e = refl

last_is : (count : ℕ) (xs : List Run) (last : Run) (balance rate : ℕ) → count + 1 ≡ length xs → last ≡ get_or xs count last → ends_with balance rate xs ≡ (eqb last.balance balance && eqb last.rate rate)
last_is count xs last balance rate l e = ends_with-last balance rate count xs last l ∙ rw (← e) refl

pub returns-then-last-more-clause-joins : goal.returns-then-last-more-clause-joins
returns-then-last-more-clause-joins c =
    let last = c.index_mut-last.result.now in
    let more = c.args.more.now in
    let is = last_is (c.len-count.result - 1) c.args.runs.now.items last more.balance more.rate (omega (arith, c.len-count.ensures, c.if-count-eq0.false)) c.index_mut-last.ensures.value in
    elim c.then-last-more.branch [
      | then-last-more-via-then-last-more w ↦ sym (is ∙ other_balance last.balance more.balance (eqb last.rate more.rate) (ne_eqb last.balance more.balance w.if-last-more.true))
      | then-last-more-via-else-last-more+then-ne w ↦ sym (is ∙ other_rate (eqb last.balance more.balance) (eqb last.rate more.rate) w.if-ne.ensures)
    ]

pub returns-clause-joins : goal.returns-clause-joins
returns-clause-joins c =
    let last = c.index_mut-last.result.now in
    let more = c.args.more.now in
    let is = last_is (c.len-count.result - 1) c.args.runs.now.items last more.balance more.rate (omega (arith, c.len-count.ensures, c.if-count-eq0.false)) c.index_mut-last.ensures.value in
    sym (is ∙ both last.balance more.balance (eqb last.rate more.rate) c.if-last-more.false c.if-ne.ensures)
  where
    both : (a b : ℕ) (q : Bool) → a ≡ b → false ≡ not q → (eqb a b && q) ≡ true
    both a b true e k = rw (eq-eqb a b e) refl
    both a b false e k = cc

pub returns-clause-lengthened : goal.returns-clause-lengthened
returns-clause-lengthened c e first =
    let last = c.index_mut-last.result.now in
    let rate : last.rate ≡ c.args.more.now.rate = grind (arith, c.if-ne.ensures) in
    let long = spread-longer first (c.len-count.result - 1) c.args.more.now.days c.args.runs.now.items last (omega (arith, c.len-count.ensures, c.if-count-eq0.false)) in
    (rw (← c.index_mut-last.ensures.value) at long) ∙ rw (c.if-last-more.false, rate) refl
