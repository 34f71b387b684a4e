use Rattle.std.proofs.Common.{◌-◌, sym, ◌∙◌, arith}
use Rattle.card_reasons.proofs.SearchLemmas.{accepted-front}
use Rattle.card_reasons.proofs.bill.accepted_by.Goals as goal

pub returns-then-is_accepted_by : goal.returns-then-is_accepted_by
returns-then-is_accepted_by c = λ k d l m.
    accepted-front c.args.day (c.loop-i.i - 1) c.args.posts.now.history c.requires (sym c.is_accepted_by.ensures ∙ c.if-is_accepted_by.true) k d (omega (arith, l)) m
