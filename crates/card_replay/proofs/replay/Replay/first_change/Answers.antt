use Rattle.std.proofs.Common.{◌≡◌, length, sym, ap, subst, arith}
use Rattle.card_events.specs.History.{anchor_of, corrected}
use Rattle.card_reasons.proofs.Accepted.{few, received, target_there}
use Rattle.card_posts.specs.Draft.{IsFirstWith}
use Rattle.card_posts.specs.Posted.{IsReceived, StandsFor}
use Rattle.card_replay.specs.Replays.{Replay, posted_of, present_of}
use Rattle.card_replay.proofs.replay.Replay.first_change.Goals as goal

pub first_change-requires-clause-few : goal.first_change-requires-clause-few
first_change-requires-clause-few c =
    let same = ap (λ (x : Replay). length x.lists.posts) c.self.view_is in
    omega (arith, same, few (present_of c.args.today c.args.shared.now c.args.self.now.lists) c.args.post.now c.requires.no_reason)

pub first_change-requires-clause-stands : goal.first_change-requires-clause-stands
first_change-requires-clause-stands c =
    subst (λ holidays. StandsFor holidays c.self.inside.posts) (sym c.calendar.ensures)
    (subst (λ (x : Replay). x.corrected ≡ corrected (anchor_of x.lists.posts) c.args.shared.now.holidays x.lists.posts) (sym c.self.view_is) c.requires.replay.corrected)

pub first_change-requires-clause-target : goal.first_change-requires-clause-target
first_change-requires-clause-target c =
    let same = ap (λ (x : Replay). length x.lists.posts) c.self.view_is in
    omega (arith, same, target_there (present_of c.args.today c.args.shared.now c.args.self.now.lists) c.args.post.now c.requires.no_reason)

pub first_change-requires-clause-dated : goal.first_change-requires-clause-dated
first_change-requires-clause-dated c = c.requires.reach.last

pub first_change-requires-clause-received : goal.first_change-requires-clause-received
first_change-requires-clause-received c =
    subst (λ (x : Replay). IsReceived (anchor_of x.lists.posts).opened c.args.today c.args.post.now) (sym c.self.view_is)
    (received (present_of c.args.today c.args.shared.now c.args.self.now.lists) c.args.post.now c.requires.no_reason)

pub returns : goal.returns
returns c =
    let today = c.args.today in
    let p = c.args.post.now in
    let from = c.first_change.result in
    subst (λ (x : Replay). IsFirstWith c.args.shared.now.holidays today p (posted_of x) from) c.self.view_is
    (subst (λ holidays. IsFirstWith holidays today p c.self.inside.posts from) c.calendar.ensures c.first_change.ensures)
