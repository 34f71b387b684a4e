use Rattle.std.proofs.Common.{◌≡◌, ℕ, length, take, arith, ap, sym, ◌∙◌}
use Rattle.card_ports.specs.Flat.{bytes_of}
use Rattle.card_ports.proofs.FlatLemmas.{count_of, end_is, none_before}
use Rattle.card_ports.proofs.rows.Rows.end_before.Goals as goal

pub index-requires : goal.index-requires
index-requires c =
    let d = c.self.inside in
    omega (arith, c.requires, d.cuts.ok.0, c.if-at-eq0.false, count_of d.cuts.items d.bytes.items c.args.self.now c.self.view_is)

pub returns-then-at-eq0 : goal.returns-then-at-eq0
returns-then-at-eq0 c =
    let rows = c.args.self.now in
    let none : c.args.at ≡ 0 = omega (arith, c.if-at-eq0.true) in
    sym (ap (λ (n : ℕ). length (bytes_of (take n rows))) none ∙ none_before rows)

pub returns-else-at-eq0 : goal.returns-else-at-eq0
returns-else-at-eq0 c =
    let d = c.self.inside in
    end_is d.cuts.items d.bytes.items c.args.self.now c.args.at c.index.result.now c.self.view_is c.self.invariant (omega (arith, c.if-at-eq0.false)) c.requires c.index.ensures
