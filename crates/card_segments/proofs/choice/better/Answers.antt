use Rattle.std.proofs.Common.{arith, subst, ◌+◌, drop, sym, ◌∙◌}
use Rattle.card_segments.specs.Rules.{IsPlaceOf, chosen}
use Rattle.card_segments.proofs.Better.{closed, failing, first, kept, taken}
use Rattle.card_segments.proofs.choice.better.Goals as goal

pub returns-then-here-eq0 : goal.returns-then-here-eq0
returns-then-here-eq0 c =
    closed c.args.choice c.args.holdings.now c.args.i c.index-holdings-i.result c.args.found c.requires.place c.index-holdings-i.is c.if-here-eq0.true c.requires.behind

pub returns-then-not-passes : goal.returns-then-not-passes
returns-then-not-passes c =
    failing c.args.choice c.args.holdings.now c.args.i c.index-holdings-i.result c.args.found c.requires.place c.index-holdings-i.is (sym c.passes.ensures ∙ c.if-not-passes.true) c.requires.behind

pub returns-in-None : goal.returns-in-None
returns-in-None c =
    let hs = c.args.holdings.now in
    first c.args.choice hs c.args.i c.index-holdings-i.result c.requires.place c.index-holdings-i.is (omega arith) (sym c.passes.ensures ∙ c.if-not-passes.false)
    (subst (IsPlaceOf hs (chosen c.args.choice (drop (c.args.i + 1) hs))) c.in-None.is c.requires.behind)

pub returns-then-is_before : goal.returns-then-is_before
returns-then-is_before c =
    let hs = c.args.holdings.now in
    let behind = subst (IsPlaceOf hs (chosen c.args.choice (drop (c.args.i + 1) hs))) c.in-Some.is c.requires.behind in
    kept c.args.choice hs c.args.i c.in-Some.j c.index-holdings-i.result c.index-holdings-j.result c.requires.place c.index-holdings-i.is (omega arith) (sym c.passes.ensures ∙ c.if-not-passes.false) behind.0 c.index-holdings-j.is (sym c.is_before.ensures ∙ c.if-is_before.true) behind.1

pub returns-else-is_before : goal.returns-else-is_before
returns-else-is_before c =
    let hs = c.args.holdings.now in
    let behind = subst (IsPlaceOf hs (chosen c.args.choice (drop (c.args.i + 1) hs))) c.in-Some.is c.requires.behind in
    taken c.args.choice hs c.args.i c.in-Some.j c.index-holdings-i.result c.index-holdings-j.result c.requires.place c.index-holdings-i.is (omega arith) (sym c.passes.ensures ∙ c.if-not-passes.false) behind.0 c.index-holdings-j.is (sym c.is_before.ensures ∙ c.if-is_before.false) behind.1
