use Rattle.std.proofs.Common.{ap, ◌∙◌}
use Rattle.card_rates.specs.Days.{only_folded}
use Rattle.card_rates.proofs.Posts.{found-is}
use Rattle.card_rates.proofs.day.folded_at.Goals as goal

pub returns : goal.returns
returns c holidays day i p stands at within =
    c.only_folded.ensures ∙ ap only_folded (c.found.ensures ∙ found-is holidays c.args.posts.now day i c.args.place p stands at within)
