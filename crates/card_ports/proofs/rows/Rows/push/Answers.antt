use Rattle.std.proofs.Common.{◌≡◌, ◌++◌, ◌∷◌, [], ℕ, List, length, take, drop, arith, ap, sym, ◌∙◌}
use Rattle.card_ports.specs.declared.rows.Cut.{Cut}
use Rattle.card_ports.proofs.FlatLemmas.{pushed_is, pushed_so}
use Rattle.card_ports.proofs.rows.Rows.push.Goals as goal

pub invariant_of-self-2 : goal.invariant_of-self-2
invariant_of-self-2 c =
    let d = c.self.inside in
    let all = c.extend_from_slice.new.self in
    let cut : Cut = record { seq = c.args.seq; end = c.len.result } in
    pushed_so d.cuts.items d.bytes.items c.args.body.now c.args.seq c.len.result c.push_reserved.new.self.items all.items c.self.invariant
    c.in_ok-extend_from_slice.ensures.items (omega (arith, c.len.ensures, all.ok.0)) (c.push_reserved.ensures.items ∙ ap (λ (l : List Cut). l ++ cut ∷ []) c.reserve.ensures.items)

pub returns-clause-ok : goal.returns-clause-ok
returns-clause-ok c =
    let d = c.self.inside in
    let all = c.extend_from_slice.new.self in
    let cut : Cut = record { seq = c.args.seq; end = c.len.result } in
    pushed_is d.cuts.items d.bytes.items c.args.body.now c.args.self.now c.args.seq c.len.result c.push_reserved.new.self.items all.items c.self.view_is c.self.invariant
    c.in_ok-extend_from_slice.ensures.items (omega (arith, c.len.ensures, all.ok.0)) (c.push_reserved.ensures.items ∙ ap (λ (l : List Cut). l ++ cut ∷ []) c.reserve.ensures.items)
