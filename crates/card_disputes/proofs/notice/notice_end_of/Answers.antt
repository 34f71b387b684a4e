use Rattle.std.proofs.Common.{rules, arith}
use Rattle.card_disputes.proofs.NoticeLemmas.{accepted-dated}
use Rattle.card_disputes.proofs.notice.notice_end_of.Goals as goal

pub plus-requires : goal.plus-requires
plus-requires c =
    let by = accepted-dated c.args.posts.now.history c.args.number c.in-Some.kept.now (search rules) in
    omega (arith, by, c.requires)
