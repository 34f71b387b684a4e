use Rattle.std.proofs.Common.{◌≡◌, ◌≤◌, sym, subst, arith, None}
use Rattle.card_events.specs.Billing.{closing}
use Rattle.card_events.specs.History.{anchor_of}
use Rattle.card_events.specs.Range.{last_calendar_day}
use Rattle.card_events.specs.declared.post.Post.{Post}
use Rattle.card_model.specs.Refusals.{reason_against}
use Rattle.card_reasons.proofs.Accepted.{shut, some_cycle}
use Rattle.card_replay.proofs.Owing.{some-number}
use Rattle.card_replay.specs.Replays.{Replay, present_of}
use Rattle.card_replay.proofs.replay.Replay.owes.Goals as goal

pub owed_for-requires-clause-closed : goal.owed_for-requires-clause-closed
owed_for-requires-clause-closed c = λ cycle e.
    let now = present_of c.args.today c.args._shared.now c.args.self.now.lists in
    let none = subst (λ (p : Post). reason_against now p ≡ None) e c.requires.no_reason in
    let early = shut now cycle none in
    let last = c.requires.reach.last in
    (some-number cycle (some_cycle now cycle none), subst (λ (x : Replay). closing (anchor_of x.lists.posts) cycle ≤ last_calendar_day) (sym c.self.view_is) (omega (arith, early, last)))
