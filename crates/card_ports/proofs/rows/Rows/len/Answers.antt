use Rattle.std.proofs.Common.{◌≡◌, arith}
use Rattle.card_ports.proofs.FlatLemmas.{count_of}
use Rattle.card_ports.proofs.rows.Rows.len.Goals as goal

pub returns : goal.returns
returns c =
    let d = c.self.inside in
    omega (arith, c.len.ensures, d.cuts.ok.0, count_of d.cuts.items d.bytes.items c.args.self.now c.self.view_is)
