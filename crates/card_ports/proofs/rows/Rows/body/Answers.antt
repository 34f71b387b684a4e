use Rattle.std.proofs.Common.{◌≡◌, ◌-◌, ℕ, List, length, take, drop, arith, ap, sym, ◌∙◌}
use Rattle.card_ports.proofs.FlatLemmas.{body_is, within}
use Rattle.card_ports.proofs.rows.Rows.body.Goals as goal

pub part-requires-clause-order : goal.part-requires-clause-order
part-requires-clause-order c =
    let d = c.self.inside in
    (within d.cuts.items d.bytes.items c.args.self.now c.args.at c.end_before-from.result c.end_of-end.result c.self.view_is c.self.invariant c.requires c.end_before-from.ensures c.end_of-end.ensures).0

pub part-requires-clause-within : goal.part-requires-clause-within
part-requires-clause-within c =
    let d = c.self.inside in
    let low = (within d.cuts.items d.bytes.items c.args.self.now c.args.at c.end_before-from.result c.end_of-end.result c.self.view_is c.self.invariant c.requires c.end_before-from.ensures c.end_of-end.ensures).1 in
    omega (arith, low, ap (λ (l : List ℕ). length l) c.deref.ensures.value)

pub returns : goal.returns
returns c =
    let d = c.self.inside in
    let from = c.end_before-from.result in
    let end = c.end_of-end.result in
    c.part.ensures ∙ ap (λ (l : List ℕ). take (end - from) (drop from l)) c.deref.ensures.value
    ∙ body_is d.cuts.items d.bytes.items c.args.self.now c.args.at from end c.self.view_is c.self.invariant c.requires c.end_before-from.ensures c.end_of-end.ensures
