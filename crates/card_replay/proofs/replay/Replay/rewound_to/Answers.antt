use Rattle.std.proofs.Common.{sym, ◌∙◌}
use Rattle.card_replay.proofs.replay.Replay.rewound_to.Goals as goal

pub gone_back-requires-clause-plain : goal.gone_back-requires-clause-plain
gone_back-requires-clause-plain c = sym c.sets_rates.ensures ∙ c.if-sets_rates.false

pub drafted-requires-clause-sets : goal.drafted-requires-clause-sets
drafted-requires-clause-sets c = sym c.sets_rates.ensures ∙ c.if-sets_rates.true
