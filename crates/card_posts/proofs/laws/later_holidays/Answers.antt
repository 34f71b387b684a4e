use Rattle.std.proofs.Common.{◌∙◌}
use Rattle.card_events.specs.History.{anchor_of}
use Rattle.card_posts.proofs.Holidays.{same-corrected}
use Rattle.card_posts.proofs.laws.later_holidays.Goals as goal

pub returns : goal.returns
returns c stands = stands ∙ same-corrected (anchor_of c.args.posts.now.history) c.args.these.now c.args.those.now c.args.posts.now.history c.opened-day.ensures.timely c.requires
