use Rattle.std.proofs.Common.{◌≡◌, ◌+◌, ◌-◌, ℕ, get_or, arith, ap, sym, ◌∙◌}
use Rattle.card_ports.proofs.FlatLemmas.{count_of, end_is}
use Rattle.card_ports.proofs.rows.Rows.end_of.Goals as goal

pub index-requires : goal.index-requires
index-requires c =
    let d = c.self.inside in
    omega (arith, c.requires, d.cuts.ok.0, count_of d.cuts.items d.bytes.items c.args.self.now c.self.view_is)

pub returns : goal.returns
returns c =
    let d = c.self.inside in
    let cut = c.index.result.now in
    let same : c.args.at ≡ c.args.at + 1 - 1 = omega arith in
    end_is d.cuts.items d.bytes.items c.args.self.now (c.args.at + 1) cut c.self.view_is c.self.invariant (omega arith) (omega (arith, c.requires)) (c.index.ensures ∙ ap (λ (n : ℕ). get_or d.cuts.items n cut) same)
