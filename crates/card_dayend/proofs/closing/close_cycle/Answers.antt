use Rattle.std.proofs.Common.{◌≡◌, ◌-◌, ◌≤◌, ◌++◌, [], ◌∷◌, List, map, length, sym, ap, ◌∙◌, subst, arith, refl}
use Rattle.std.proofs.lemmas.List.{length-map}
use Rattle.std.specs.Prelude.{option_copied}
use Rattle.card_closing.specs.Interest.{statement_of}
use Rattle.card_events.specs.Billing.{closing}
use Rattle.card_events.specs.History.{anchor_of}
use Rattle.card_daily.proofs.ClosingDay.{present-is}
use Rattle.card_daily.proofs.Following.{upto-closing}
use Rattle.card_effects.specs.Standing.{is_added}
use Rattle.card_closing.specs.Rows.{Rows, no_rows}
use Rattle.card_model.specs.Cycles.{Cycle}
use Rattle.card_model.specs.Entries.{AreBalances}
use Rattle.card_dayend.proofs.Closed.{closed-of, given-for}
use Rattle.card_daily.proofs.Cycles.{posted-small}
use Rattle.card_dayend.proofs.Each.{segment-count}
use Rattle.card_daily.proofs.Standing.{rated, within}
use Rattle.card_daily.specs.Given.{account_in, opened_in, row_in, seen_in}
use Rattle.card_daily.specs.Stands.{first_in, posted, rows_through}
use Rattle.card_dayend.proofs.closing.close_cycle.Goals as goal

pub issued_since-requires : goal.issued_since-requires
issued_since-requires c =
    let g = c.args.inputs.now in
    let day = c.args.day in
    let s = c.anchor-anchor.ensures.sound in
    let number = c.closing_on-closing.ensures.of_book.cycle ∙ present-is g day s c.requires.dated.opened in
    subst (λ n. day ≤ closing (anchor_of g.history) n) (sym number) (upto-closing (anchor_of g.history) day s.opening c.requires.dated.opened c.requires.dated.last)

pub close-requires-clause-step : goal.close-requires-clause-step
close-requires-clause-step c =
    let g = c.args.inputs.now in
    let day = c.args.day in
    let s = c.args.state.now in
    let stand = c.requires.posted.stand in
    record {
      sums = subst (λ es. AreBalances es s.segments.balances) (sym stand.entries) stand.sums;
      small = within (posted g day).entries s.segments.balances stand.sums (posted-small g day c.anchor-anchor.ensures.sound c.requires.dated.opened c.requires.dated.last);
    }

pub close-requires-clause-rows : goal.close-requires-clause-rows
close-requires-clause-rows c =
    let g = c.args.inputs.now in
    let day = c.args.day in
    let s = c.args.state.now in
    let stand = c.requires.posted.stand in
    let rows_by = rows_through g (first_in g day) day (posted g day) in
    let long : length c.deref-2.result.now ≡ length s.rates.segments = ap length (c.deref-2.ensures.value ∙ stand.rows) ∙ length-map s.rates.segments rows_by in
    let count = segment-count s.segments.segments s.rates (rated g rows_by (posted g day) s c.args.track.now stand) (omega (arith, c.len-count.ensures.five, c.len-count.ensures.segments)) in
    omega (arith, long, count, c.len-count.ensures.segments, c.len-count.ensures.balances)

pub close-requires-clause-accruals : goal.close-requires-clause-accruals
close-requires-clause-accruals c =
    let g = c.args.inputs.now in
    let day = c.args.day in
    let s = c.args.state.now in
    let stand = c.requires.posted.stand in
    let rows_by = rows_through g (first_in g day) day (posted g day) in
    let long : length c.deref-3.result.now ≡ length s.rates.segments = ap length c.deref-3.ensures.value ∙ stand.accruals in
    let count = segment-count s.segments.segments s.rates (rated g rows_by (posted g day) s c.args.track.now stand) (omega (arith, c.len-count.ensures.five, c.len-count.ensures.segments)) in
    omega (arith, long, count, c.len-count.ensures.segments, c.len-count.ensures.balances)

pub returns-clause-closed : goal.returns-clause-closed
returns-clause-closed c =
    let g = c.args.inputs.now in
    let day = c.args.day in
    let s = c.args.state.now in
    let t = c.args.track.now in
    let h = c.requires.posted in
    let row = row_in g (day - opened_in g) in
    let did = c.in_ok-cycle.ensures in
    let given = given-for g day s t c.closing_on-closing.result (option_copied c.statement-issued.result) c.deref-2.result.now c.deref-3.result.now c.deref-4.result.now
    c.anchor-anchor.ensures.sound c.requires.dated.opened c.requires.dated.last c.requires.closes h c.closing_on-closing.ensures.of_book
    (c.statement-issued.ensures ∙ ap statement_of c.issued_since.ensures) c.deref-2.ensures.value c.deref-3.ensures.value c.deref-4.ensures.value in
    closed-of g day s _ t _ c.requires.dated.opened c.requires.closes h
    (record {
      entries = did.entries row s.rates.segments (is_added day) (account_in g) (seen_in g day) (posted g day) given;
      cycles = c.in_ok-push.ensures.items ∙ (ap (λ (cs : List Cycle). cs ++ c.in_ok-cycle.cycle ∷ []) h.stand.cycles ∙ did.cycle row s.rates.segments (is_added day) (account_in g) (seen_in g day) (posted g day) given);
      fees = refl;
      rates = refl;
      segments = did.segments;
      sums = did.step.sums;
      rows = c.begin_all.ensures ∙ ap (λ f. map (λ (r : Rows). no_rows f) s.rows.items) c.next.ensures;
      accruals = refl;
    })
