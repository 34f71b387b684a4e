use Rattle.std.proofs.Common.{◌≡◌, ◌-◌, ◌≤◌, ◌^◌, List, length, drop, sym, ap, ◌∙◌, subst}
use Rattle.std.specs.List.{All}
use Rattle.std.proofs.lemmas.List.Elements.{All-drop}
use Rattle.card_model.specs.Cycles.{Cycle, amounts_sum}
use Rattle.card_model.specs.Fees.{fees_sum}
use Rattle.card_model.specs.Sheets.{year_sum}
use Rattle.card_book.proofs.YearCycles.{later-sum}
use Rattle.card_book.proofs.sheet.years_of.Goals as goal

-- the latest cycles of the book
same : (cs all some : List Cycle) → some ≡ drop (length all - 14) all → all ≡ cs → some ≡ drop (length cs - 14) cs
same cs all some e f = e ∙ ap (λ (l : List Cycle). drop (length l - 14) l) f

pub fees_year-requires : goal.fees_year-requires
fees_year-requires c =
    let cs = c.args.folded.now.book.cycles in
    record {
      small =
          subst (All (λ (x : Cycle). fees_sum x.fees ≤ 10 ^ 17)) (sym (same cs c.cycles.result.now c.latest-cycles.result.now c.latest-cycles.ensures c.cycles.ensures))
          (All-drop (λ (x : Cycle). fees_sum x.fees ≤ 10 ^ 17) (length cs - 14) cs c.requires.fees);
    }

pub returns-clause-fees : goal.returns-clause-fees
returns-clause-fees c =
    let cs = c.args.folded.now.book.cycles in
    let day = c.args.closing in
    c.fees_year.ensures
    ∙ (ap (year_sum (λ x. fees_sum x.fees) day) (same cs c.cycles.result.now c.latest-cycles.result.now c.latest-cycles.ensures c.cycles.ensures)
    ∙ later-sum (λ x. fees_sum x.fees) day (length cs - 14) cs c.requires.earlier)

pub interest_year-requires : goal.interest_year-requires
interest_year-requires c =
    let cs = c.args.folded.now.book.cycles in
    record {
      small =
          subst (All (λ (x : Cycle). amounts_sum x.interest ≤ 10 ^ 17)) (sym (same cs c.cycles.result.now c.latest-cycles.result.now c.latest-cycles.ensures c.cycles.ensures))
          (All-drop (λ (x : Cycle). amounts_sum x.interest ≤ 10 ^ 17) (length cs - 14) cs c.requires.interest);
    }

pub returns-clause-interest : goal.returns-clause-interest
returns-clause-interest c =
    let cs = c.args.folded.now.book.cycles in
    let day = c.args.closing in
    c.interest_year.ensures
    ∙ (ap (year_sum (λ x. amounts_sum x.interest) day) (same cs c.cycles.result.now c.latest-cycles.result.now c.latest-cycles.ensures c.cycles.ensures)
    ∙ later-sum (λ x. amounts_sum x.interest) day (length cs - 14) cs c.requires.earlier)
