use Rattle.std.proofs.Common.{◌≤◌, length, ℕ, sym, subst, ◌∙◌, ◌&&◌, arith, leb}
use Rattle.card_model.specs.Segments.{SegmentTerms, is_sort, sort_of_category}
use Rattle.card_rates.proofs.ByNumber.{last-below}
use Rattle.card_effects.proofs.Places.{all-above, how-many, last-all, newest-added}
use Rattle.card_effects.proofs.place.newest.Goals as goal

pub returns-clause-value : goal.returns-clause-value
returns-clause-value c = c.vintage.ensures ∙ newest-added (sort_of_category c.args.category) c.args.day c.args.rates.now.segments

pub returns-clause-billed : goal.returns-clause-billed
returns-clause-billed c =
    let gs = c.args.rates.now.segments in
    let low = subst (λ (k : ℕ). 2 ≤ k) (sym c.vintage.ensures) (last-all (λ (k : ℕ). 2 ≤ k) (omega arith) (λ (g : SegmentTerms). is_sort (sort_of_category c.args.category) g.sort && leb g.begins c.args.day) gs (all-above 2 gs c.requires.numbers)) in
    let n = how-many c.args.segments.now.segments gs c.requires.kept in
    let below = last-below (λ (g : SegmentTerms). is_sort (sort_of_category c.args.category) g.sort && leb g.begins c.args.day) (length c.args.segments.now.balances) 2 gs c.requires.numbers
    (omega (arith, c.len-count.ensures.balances, c.len-count.ensures.five)) (omega (arith, n, c.len-count.ensures.balances, c.len-count.ensures.segments, c.len-count.ensures.five)) in
    record { low = low; known = omega (arith, c.vintage.ensures, below) }
