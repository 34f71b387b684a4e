use Rattle.std.proofs.Common.{◌≡◌, ℕ, List, IfOk, ap, ◌∙◌, arith, subst, string_bytes}
use Rattle.card_demo.specs.Progress.{Progress, Tally}
use Rattle.card_demo.specs.Summary.{summary_text}
use Rattle.card_demo.proofs.SummaryLemmas.{same_demo, summed_up}
use Rattle.card_demo.proofs.text.demo_text.Goals as goal

abbrev tally_in : Progress → Tally
tally_in p = record { count = p.count; refused = p.refused }

pub run-requires : goal.run-requires
run-requires c =
    let count = ap (λ (p : Progress). p.count) c.new-progress.ensures in
    record {
      accounts = omega (arith, c.accounts-accounts.ensures.value, c.accounts-accounts.ensures.range.accounts_limit);
      cycles = omega (arith, c.cycles.ensures.value, c.cycles.ensures.range.cycles_limit);
      room = omega (arith, count);
    }

pub totals-requires : goal.totals-requires
totals-requires c = record { accounts = omega (arith, c.accounts-accounts.ensures.value, c.accounts-accounts.ensures.range.accounts_limit) }

pub returns : goal.returns
returns c =
    let d = c.args.demo.now in
    let q = c.run.new.self in
    let tallied = c.tally.ensures ∙ ap tally_in c.in_ok-totals.ensures.same in
    let t = c.in_ok-totals.totals in
    let tally : summary_text c.tally.result.now.count c.tally.result.now.refused t ≡ summary_text q.count q.refused t =
    ap (λ (x : Tally). summary_text x.count x.refused t) tallied in
    let text = summed_up c.start.result c.accounts-accounts.result c.cycles.result c.new-progress.result q t c.new-progress.ensures c.in_ok-run.ensures c.in_ok-totals.ensures.totals in
    let same = same_demo c.start.result c.accounts-accounts.result c.cycles.result d.start d.accounts d.cycles c.start.ensures c.accounts-accounts.ensures.value c.cycles.ensures.value in
    subst (λ (l : List ℕ). IfOk c.summary_text.result (λ text. string_bytes text ≡ l)) (tally ∙ (text ∙ same)) c.summary_text.ensures
