use Rattle.std.proofs.Common.{◌≡◌, subst, get_or, set}
use Rattle.std.proofs.lemmas.List.{get_or_default}
use Rattle.card_model.specs.Allocation.{paid_at, paid_on}
use Rattle.card_model.specs.declared.holding.Holding.{Holding}
use Rattle.card_model.proofs.WholeParts.{set-paid_at}
use Rattle.card_segments.proofs.Turn.{roomy-set}
use Rattle.card_segments.proofs.pay.give.Goals as goal

pub returns-clause-room : goal.returns-clause-room
returns-clause-room c =
    roomy-set c.args.holdings.now c.args.i c.args.cents c.index-holdings-i.result c.requires.place c.requires.room (c.requires.enough c.index-holdings-i.result)

pub returns-clause-paid : goal.returns-clause-paid
returns-clause-paid c = λ d.
    let hs = c.args.holdings.now in
    let read = c.index-holdings-i.result in
    let i = c.args.i in
    let place = c.requires.place in
    let done = (set-paid_at hs i c.args.cents 0 (get_or hs i read) c.requires.ascending place (get_or_default hs i read (get_or hs i read) place)).1 in
    subst (λ (g : Holding). set hs i (paid_on c.args.cents (get_or hs i read)) ≡ paid_at g.id c.args.cents hs) (get_or_default hs i read d place) done
