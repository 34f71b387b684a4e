use Rattle.std.proofs.Common.{ℕ, List, Some, sym, ◌∙◌, subst}
use Rattle.card_wire.specs.Heads.{Parses}
use Rattle.card_wire.proofs.HeadLemmas.{ends_head}
use Rattle.card_wire.proofs.PlaceLemmas.{pending_at}
use Rattle.card_wire.proofs.heading.examine.Goals as goal

pub returns-then-is_followed-clause-far : goal.returns-then-is_followed-clause-far
returns-then-is_followed-clause-far c = (pending_at c.args.place c.args.got.now.items (sym c.is_followed.ensures ∙ c.if-is_followed.true) c.requires.before c.requires.at, c.requires.at)

pub returns-in-Some-clause-far : goal.returns-in-Some-clause-far
returns-in-Some-clause-far c =
    let parsed = subst (λ (b : List ℕ). Parses b c.parse.new.fields (Some c.in-Some.end)) c.as_slice.ensures.value c.in-Some.ensures in
    ends_head c.args.got.now.items c.parse.new.fields c.in-Some.end c.requires.before c.parse.array_long parsed
