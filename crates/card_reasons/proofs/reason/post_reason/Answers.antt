use Rattle.card_reasons.specs.Reasons.{judged_of}
use Rattle.card_reasons.proofs.ReasonLemmas.{of_bill}
use Rattle.card_reasons.proofs.reason.post_reason.Goals as goal

pub returns-in-Bill : goal.returns-in-Bill
returns-in-Bill c shared issued stands =
    of_bill (judged_of c.args.today shared issued c.args.posts.now.history) c.args.post.now c.in-Bill.cycle c.args.anchor.now c.bill_reason.result c.in-Bill.is c.requires.posts.anchor c.bill_reason.ensures
