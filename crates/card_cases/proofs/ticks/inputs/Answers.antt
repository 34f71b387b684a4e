use Rattle.std.proofs.Common.{[], sym, subst}
use Rattle.card_events.specs.SharedRows.{SharedRows}
use Rattle.card_daily.specs.Given.{IsSound}
use Rattle.card_cases.proofs.Alone.{sound-of}
use Rattle.card_cases.proofs.ticks.inputs.Goals as goal

pub new-requires-clause-sound : goal.new-requires-clause-sound
new-requires-clause-sound c =
    subst (λ (x : SharedRows). IsSound (record { history = c.args.posts.now.history; issued = []; shared = x })) (sym c.requires.nothing) (sound-of c.args.posts.now.history c.requires.alone)
