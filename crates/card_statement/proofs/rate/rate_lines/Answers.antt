use Rattle.std.proofs.Common.{◌≡◌, ◌-◌, [], ◌++◌, take, refl, sym, ap, ◌∙◌, List}
use Rattle.std.specs.List.{filter_map}
use Rattle.std.specs.Global.{Vec}
use Rattle.std.proofs.lemmas.List.{take-append-drop}
use Rattle.std.proofs.lemmas.Result.{IfOk-weaker}
use Rattle.card_model.specs.Books.{Book}
use Rattle.card_model.specs.Entries.{balance}
use Rattle.card_model.specs.Folds.{cycle_at}
use Rattle.card_model.specs.Sheets.{entries_by}
use Rattle.card_model.specs.declared.entry.Entry.{Entry}
use Rattle.card_model.specs.declared.lines.RateLine.{RateLine}
use Rattle.card_statement.specs.Lines.{kept_rate_line, kept_rate_lines}
use Rattle.card_statement.specs.Standing.{LeaveBalances}
use Rattle.card_statement.proofs.rate.rate_lines.Goals as goal

pub returns : goal.returns
unfolding kept_rate_lines
returns c =
    let rates = c.args.rates.now in
    let cycle = c.args.cycle.now in
    let es = c.args.entries.now in
    let n = entries_by (cycle_at (cycle.number - 1) c.args.cycles.now) in
    let b : Book = record { entries = es; cycles = c.args.cycles.now; fees = []; penalties = [] } in
    let own = c.cycle_entries-own.ensures b refl refl in
    let whole : take n es ++ c.cycle_entries-own.result.now ≡ es = ap (λ (l : List Entry). take n es ++ l) own ∙ take-append-drop n es in
    let behind : LeaveBalances cycle.first (take n es) c.cycle_entries-own.result.now c.args.segments.now.balances = record {
      days = c.requires.earlier;
      sums = λ s. c.requires.sums s ∙ ap (balance s) (sym whole);
    } in
    let line = kept_rate_line c.args.index.now rates cycle in
    IfOk-weaker c.lines_of.result
    (λ (v : Vec RateLine). (earlier : List Entry) → LeaveBalances cycle.first earlier c.cycle_entries-own.result.now c.args.segments.now.balances
    → v.items ≡ filter_map (line (earlier ++ c.cycle_entries-own.result.now)) c.segments.result.now)
    (λ (v : Vec RateLine). v.items ≡ filter_map (line es) rates.segments)
    (λ v f. f (take n es) behind ∙ (ap (λ (l : List Entry). filter_map (line l) c.segments.result.now) whole ∙ ap (filter_map (line es)) c.segments.ensures)) c.lines_of.ensures
