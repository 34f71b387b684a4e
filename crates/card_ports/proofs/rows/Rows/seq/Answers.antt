use Rattle.std.proofs.Common.{◌≡◌, arith}
use Rattle.card_ports.proofs.FlatLemmas.{count_of, seq_is}
use Rattle.card_ports.proofs.rows.Rows.seq.Goals as goal

pub index-requires : goal.index-requires
index-requires c =
    let d = c.self.inside in
    omega (arith, c.requires, d.cuts.ok.0, count_of d.cuts.items d.bytes.items c.args.self.now c.self.view_is)

pub returns : goal.returns
returns c =
    let d = c.self.inside in
    seq_is d.cuts.items d.bytes.items c.args.self.now c.args.at c.index.result.now c.self.view_is c.self.invariant c.requires c.index.ensures
