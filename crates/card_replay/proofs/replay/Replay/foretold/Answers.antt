use Rattle.std.proofs.Common.{◌≡◌, sym, subst}
use Rattle.card_events.specs.History.{anchor_of, corrected}
use Rattle.card_posts.specs.Posted.{StandsFor}
use Rattle.card_replay.specs.Replays.{Replay}
use Rattle.card_replay.proofs.replay.Replay.foretold.Goals as goal

pub first_change-requires-clause-stands : goal.first_change-requires-clause-stands
first_change-requires-clause-stands c =
    subst (λ holidays. StandsFor holidays c.self.inside.posts) (sym c.calendar.ensures)
    (subst (λ (x : Replay). x.corrected ≡ corrected (anchor_of x.lists.posts) c.args.shared.now.holidays x.lists.posts) (sym c.self.view_is) c.requires.replay.corrected)
