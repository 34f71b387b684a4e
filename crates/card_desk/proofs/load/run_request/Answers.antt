use Rattle.std.proofs.Common.{ℕ, ap, ◌∙◌}
use Rattle.std.specs.Prelude.{nat_lt}
use Rattle.card_desk.specs.Kept.{accepted_count}
use Rattle.card_desk.proofs.LoadLemmas.{rises}
use Rattle.card_desk.proofs.load.run_request.Goals as goal

pub returns-clause-new : goal.returns-clause-new
returns-clause-new g c =
    let s = c.args.desk.now.state in
    ap (λ (n : ℕ). nat_lt n c.count.result) c.count-count.ensures ∙ ap (λ (n : ℕ). nat_lt (accepted_count s) n) (c.count.ensures ∙ ap accepted_count c.in_ok-carry_loaded.ensures.state) ∙ rises s c.args.request.now
