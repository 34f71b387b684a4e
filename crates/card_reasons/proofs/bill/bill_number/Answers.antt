use Rattle.std.proofs.Common.{sym, ◌∙◌}
use Rattle.card_model.specs.Refusals.{bills}
use Rattle.card_reasons.proofs.SearchLemmas.{behind, unbilled}
use Rattle.card_reasons.proofs.bill.bill_number.Goals as goal

pub returns : goal.returns
returns c =
    let ks = c.args.posts.now.history in
    c.bill_behind.ensures ∙ sym (behind (bills c.args.cycle) c.accepted_by.result ks (λ k d l m. unbilled c.args.cycle c.args.closing k d ks m c.requires.billed (c.accepted_by.ensures k d l m)))
