use Rattle.std.proofs.Common.{◌≡◌, ◌+◌, ◌-◌, ◌<◌, ◌≤◌, ◌^◌, List, take, refl, sym, ap, ◌∙◌, subst, pos, of_z, rules, to_z, w64}
use Rattle.std.specs.List.{All}
use Rattle.std.specs.Prelude.{nat_le}
use Rattle.card_events.specs.SharedRows.{IndexRow}
use Rattle.card_effects.specs.Standing.{is_added}
use Rattle.card_model.specs.Books.{Book}
use Rattle.card_model.specs.Cycles.{Cycle, amounts_sum}
use Rattle.card_model.specs.Fees.{fees_sum}
use Rattle.card_model.specs.Folds.{cycle_at}
use Rattle.card_rates.specs.RateBooks.{Rates}
use Rattle.card_daily.specs.Given.{account_in, book_on, seen_in}
use Rattle.card_statement.proofs.SeenLines.{lines_are_of_the_book}
use Rattle.card_statement.specs.Gathering.{sizes}
use Rattle.card_statement.specs.Lines.{kept_rate_lines}
use Rattle.card_model.specs.Sheets.{cycle_entries, entries_by, moves_of, sheet_in, sheet_of, year_sum}
use Rattle.card_book.proofs.Sheets.{alike-same, earlier-days, entries-small, fees-small, interest-small, kept-of, repayable}
use Rattle.card_book.proofs.YearCycles.{earlier-on}
use Rattle.card_book.proofs.sheet.sheet_in.Goals as goal

pub years_of-years-requires : goal.years_of-years-requires
years_of-years-requires c =
    let g = c.args.inputs.now in
    let day = c.args.cycle.now.closing in
    let s = c.anchor-anchor.ensures.sound in
    let cycles = ap (λ (b : Book). b.cycles) c.requires.folded.book in
    record {
      earlier = earlier-on g day c.cycle.inside.closing c.args.folded.now.book.cycles s c.requires.dated cycles (ap (λ (x : Cycle). x.closing) c.cycle.view_is);
      fees = subst (All (λ (x : Cycle). fees_sum x.fees ≤ 10 ^ 17)) (sym cycles) (fees-small g day s c.requires.dated.last);
      interest = subst (All (λ (x : Cycle). amounts_sum x.interest ≤ 10 ^ 17)) (sym cycles) (interest-small g day s);
    }

pub listed_of-requires : goal.listed_of-requires
listed_of-requires c =
    let g = c.args.inputs.now in
    let cycle = c.args.cycle.now in
    let s = c.anchor-anchor.ensures.sound in
    record {
      small = subst (λ (b : Book). sizes (cycle_entries cycle b) ≤ 10 ^ 17) (sym c.requires.folded.book) (entries-small g cycle s c.requires.dated c.requires.stands);
      earlier =
          subst (λ (b : Book). All (λ e. e.day < cycle.first) (take (entries_by (cycle_at (cycle.number - 1) b.cycles)) b.entries)) (sym c.requires.folded.book)
          (earlier-days g cycle s c.requires.dated c.requires.stands);
    }

pub returns : goal.returns
unfolding sheet_of sheet_in
returns c =
    let g = c.args.inputs.now in
    let cycle = c.args.cycle.now in
    let day = cycle.closing in
    let f = c.args.folded.now in
    let h = c.requires.folded in
    let b = book_on g day in
    let is = lines_are_of_the_book g.shared.index (is_added day) (account_in g) (seen_in g day) b f.rates f.balances f.accruals (kept-of g day f c.anchor-anchor.ensures.sound c.requires.dated h) in
    let did = c.in_ok-listed.ensures in
    let earlier = c.earlier_of-earlier.result in
    let stated = c.stated_of-stated.result in
    let previous : to_z w64 (of_z w64 earlier.previous) ≡ earlier.previous = search rules in
    let corrections : to_z w64 (of_z w64 earlier.corrections) ≡ earlier.corrections = search rules in
    let late : to_z w64 (of_z w64 stated.late_up_to) ≡ stated.late_up_to = search rules in
    let floor : to_z w64 (of_z w64 stated.floor) ≡ stated.floor = search rules in
    let years = c.years_of-years.ensures in
    let opened = c.cycle.view_is in
    let closing = ap (λ (x : Cycle). x.closing) opened in
    alike-same _ _ (record {
      due_payment = c.has_due_payment.ensures ∙ ap (λ (x : Cycle). nat_le (c.args.issue + 21) x.due) opened;
      previous = previous ∙ c.earlier_of-earlier.ensures.previous;
      corrections = corrections ∙ c.earlier_of-earlier.ensures.corrections;
      moves = did.moves ∙ ap (λ (x : Book). moves_of (cycle_entries cycle x)) h.book;
      fees_year = ap pos (years.fees ∙ (ap (λ n. year_sum (λ d. fees_sum d.fees) n f.book.cycles) closing ∙ ap (λ (x : Book). year_sum (λ d. fees_sum d.fees) day x.cycles) h.book));
      interest_year = ap pos (years.interest ∙ (ap (λ n. year_sum (λ d. amounts_sum d.interest) n f.book.cycles) closing ∙ ap (λ (x : Book). year_sum (λ d. amounts_sum d.interest) day x.cycles) h.book));
      rates =
          did.rates
          ∙ (ap (λ (rows : List IndexRow). kept_rate_lines rows f.rates cycle f.book.entries) c.index.ensures
          ∙ (ap (λ (x : Book). kept_rate_lines g.shared.index f.rates cycle x.entries) h.book ∙ is.rates cycle refl));
      deferred = did.deferred ∙ is.deferred;
      late_up_to = late ∙ c.stated_of-stated.ensures.late_up_to;
      penalty = c.stated_of-stated.ensures.penalty ∙ ap (λ (r : Rates). r.penalty) h.rates;
      closing = did.closing ∙ is.closing;
      floor = floor ∙ c.stated_of-stated.ensures.floor;
      pct = c.stated_of-stated.ensures.pct;
    })

pub invariant_of-result : goal.invariant_of-result
invariant_of-result c =
    let g = c.args.inputs.now in
    let day = c.args.cycle.now.closing in
    let f = c.args.folded.now in
    let s = c.anchor-anchor.ensures.sound in
    let is = lines_are_of_the_book g.shared.index (is_added day) (account_in g) (seen_in g day) (book_on g day) f.rates f.balances f.accruals (kept-of g day f s c.requires.dated c.requires.folded) in
    let stated = c.stated_of-stated.result in
    let floor : to_z w64 (of_z w64 stated.floor) ≡ stated.floor = search rules in
    repayable g day s c.requires.dated.last _ _ _ (c.in_ok-listed.ensures.closing ∙ is.closing) (floor ∙ c.stated_of-stated.ensures.floor) c.stated_of-stated.ensures.pct
