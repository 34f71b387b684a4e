-- A closed cycle in the book of its closing.
use Rattle.std.proofs.Common.{◌≡◌, ℕ, zero, suc, ◌+◌, ◌-◌, ◌≤◌, ◌^◌, Bool, true, false, cond, List, [], ◌∷◌, take, drop, refl, sym, ap, ◌∙◌, subst, arith, Some, None}
use Rattle.std.specs.Prelude.{nat_abs}
use Rattle.std.proofs.lemmas.List.Sums.{sum_by-cons}
use Rattle.card_bounds.specs.Bounds.{moved, moves, most_interest, most_moved}
use Rattle.card_bounds.proofs.CycleAmounts.{amounts_small}
use Rattle.card_model.proofs.Issue.{all-at}
use Rattle.card_model.specs.Closing.{previous_of}
use Rattle.card_model.specs.Cycles.{Cycle, amounts_sum}
use Rattle.card_model.specs.Entries.{is_kind}
use Rattle.card_model.specs.Folds.{book, cycle_at}
use Rattle.card_model.specs.Laws.{size_of, total}
use Rattle.card_model.specs.declared.entry.Entry.{Entry}
use Rattle.card_model.specs.declared.entry.EntryKind.TheVariants as kind
use Rattle.card_model.proofs.Cuts.{closings_are_cuts}
use Rattle.card_statement.specs.Gathering.{sizes}
use Rattle.card_statement.specs.Laws.{CyclesStandAtClosing}
use Rattle.card_model.specs.Sheets.{cycle_entries, entries_by}
use Rattle.card_statement.proofs.AddsUp.{book-sums}
use Rattle.card_statement.proofs.Chains.{Adds, chain-at, cycle-take, prior-is}

-- ---- what entries move
-- it is interest, or it is moved by the rest
sizes-are : (es : List Entry) → sizes es ≡ moved es + total kind.Interest es
unfolding sizes moved total
sizes-are [] = refl
sizes-are (e ∷ es) =
    let a = sum_by-cons (λ (x : Entry). nat_abs x.cents) e es in
    let b = sum_by-cons moves e es in
    let c = sum_by-cons (size_of kind.Interest) e es in
    step (is_kind kind.Interest e.kind) (nat_abs e.cents) _ _ _ _ _ _ a b c (sizes-are es)
  where
    step : (t : Bool) (x all m i all' m' i' : ℕ) → all' ≡ x + all → m' ≡ cond t 0 x + m → i' ≡ cond t x 0 + i → all ≡ m + i → all' ≡ m' + i'
    step true x all m i all' m' i' a b c h = omega (arith, a, b, c, h)
    step false x all m i all' m' i' a b c h = omega (arith, a, b, c, h)

drop-moved : (n : ℕ) (es : List Entry) → moved (drop n es) ≤ moved es
unfolding moved
drop-moved zero es = omega arith
drop-moved (suc n) [] = omega arith
drop-moved (suc n) (e ∷ es) = let a = sum_by-cons moves e es in let h = drop-moved n es in omega (arith, a, h)

-- ---- the law
little : (all m i limit : ℕ) → all ≡ m + i → m ≤ limit → limit ≤ 500_000_000_000_000 → i ≤ most_interest → all ≤ 10 ^ 17
little all m i limit a b c d = omega (arith, a, b, c, d)

most : (posts : ℕ) → posts ≤ 200000 → most_moved posts ≤ 500_000_000_000_000
most posts h = omega (arith, h)

pub cycles_stand_at_closing : CyclesStandAtClosing
cycles_stand_at_closing history issued shared day zero c e = let none : None ≡ Some c = e in absurd (cc)
cycles_stand_at_closing history issued shared day (suc i) c e =
    let later = book history issued shared day in
    let at = book history issued shared c.closing in
    let cut = closings_are_cuts history issued shared day (suc i) c e in
    let adds = subst (λ o. Adds later.entries o (i + 1) c) (prior-is later.cycles i) (chain-at later.entries None 1 i later.cycles c (book-sums history issued shared day).chain e) in
    let number : c.number ≡ suc i = let n = adds.number in omega arith in
    let below : c.number - 1 ≡ i = let n = adds.number in omega arith in
    let here : cycle_at (suc i) at.cycles ≡ Some c = ap (cycle_at (suc i)) (sym cut.cycles) ∙ (cycle-take later.cycles (suc i) (suc i) (omega arith) ∙ e) in
    let before : cycle_at (c.number - 1) at.cycles ≡ cycle_at i later.cycles =
    ap (λ n. cycle_at n at.cycles) below ∙ (ap (cycle_at i) (sym cut.cycles) ∙ cycle-take later.cycles (suc i) i (omega arith)) in
    let entries : cycle_entries c at ≡ drop (entries_by (cycle_at i later.cycles)) (take c.entries later.entries) =
    ap (λ o. drop (entries_by o) at.entries) before ∙ ap (drop (entries_by (cycle_at i later.cycles))) (sym cut.entries) in
    record {
      there = ap (λ n. cycle_at n at.cycles) number ∙ here;
      previous = adds.previous ∙ ap previous_of (sym before);
      small = λ posts l few segments.
          let interest = ap (total kind.Interest) entries ∙ adds.interest in
          let bound = all-at (λ (x : Cycle). amounts_sum x.interest ≤ most_interest) later.cycles i c (amounts_small.interest history issued shared day segments) e in
          let of_all = amounts_small.moves posts history issued shared c.closing l in
          let part = drop-moved (entries_by (cycle_at (c.number - 1) at.cycles)) at.entries in
          little (sizes (cycle_entries c at)) (moved (cycle_entries c at)) (total kind.Interest (cycle_entries c at)) (most_moved posts) (sizes-are (cycle_entries c at))
          (omega (arith, of_all, part)) (most posts few) (omega (arith, interest, bound));
    }
