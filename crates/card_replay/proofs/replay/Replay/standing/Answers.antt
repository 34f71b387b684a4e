use Rattle.std.proofs.Common.{◌≡◌, ◌-◌, ◌≤◌, min, length, get_or, refl, ap, sym, subst, ◌∙◌}
use Rattle.card_events.specs.Billing.{cycle_of}
use Rattle.card_events.specs.History.{anchor_of}
use Rattle.card_events.specs.declared.anchor.Anchor.{Anchor}
use Rattle.card_model.specs.CycleDays.{IsOpening}
use Rattle.card_model.specs.Cycles.{Cycle}
use Rattle.card_replay.proofs.Standing.{counted, least-closed, none-stands, none-told, stands}
use Rattle.card_replay.specs.Replays.{Replay, day_of, day_reached}
use Rattle.card_replay.proofs.replay.Replay.standing.Goals as goal

pub closed_before-cycle-requires : goal.closed_before-cycle-requires
closed_before-cycle-requires c = record { opening = subst IsOpening (sym (c.anchor.ensures.value ∙ ap (λ (x : Replay). anchor_of x.lists.posts) c.self.view_is)) c.requires.replay.sound.opening }

pub entries_up_to-requires : goal.entries_up_to-requires
entries_up_to-requires c =
    let r = c.args.self.now in
    let from = c.in-Some.from in
    let number : c.closed_before-cycle.result ≡ cycle_of (anchor_of r.lists.posts) (min from r.folding.reached) - 1 = c.closed_before-cycle.ensures
    ∙ (ap (λ (a : Anchor). cycle_of a (min from (day_reached a.opened (day_of c.self.inside.book))) - 1) c.anchor.ensures.value
    ∙ ap (λ (x : Replay). cycle_of (anchor_of x.lists.posts) (min from x.folding.reached) - 1) c.self.view_is) in
    subst (λ (x : Replay). c.closed_before-cycle.result ≤ length x.folding.past.track.cycles.items) (sym c.self.view_is) (least-closed c.args.shared.now r from c.closed_before-cycle.result c.requires.replay number)

pub returns-in-Some : goal.returns-in-Some
returns-in-Some c =
    let r = c.args.self.now in
    let from = c.in-Some.from in
    let cycle = c.closed_before-cycle.result in
    let number : cycle ≡ cycle_of (anchor_of r.lists.posts) (min from r.folding.reached) - 1 = c.closed_before-cycle.ensures
    ∙ (ap (λ (a : Anchor). cycle_of a (min from (day_reached a.opened (day_of c.self.inside.book))) - 1) c.anchor.ensures.value
    ∙ ap (λ (x : Replay). cycle_of (anchor_of x.lists.posts) (min from x.folding.reached) - 1) c.self.view_is) in
    let none = c.entries_up_to.ensures.none in
    let some : (d : Cycle) → 1 ≤ cycle → c.entries_up_to.result ≡ (get_or r.folding.past.track.cycles.items (cycle - 1) d).entries =
    λ d l. c.entries_up_to.ensures.some d l ∙ ap (λ (x : Replay). (get_or x.folding.past.track.cycles.items (cycle - 1) d).entries) c.self.view_is in
    record {
      stay = stands c.args.today c.args.shared.now c.args.post.now r from cycle c.entries_up_to.result c.requires.replay c.requires.reach c.in-Some.ensures.some number none some;
      count = counted c.args.today c.args.shared.now c.args.post.now r from cycle c.entries_up_to.result c.requires.replay c.in-Some.ensures.some number none some;
    }

pub returns-in-None : goal.returns-in-None
returns-in-None c =
    let none = c.in-None.ensures.none refl in
    record {
      stay = none-stands c.args.today c.args.shared.now c.args.post.now c.args.self.now 0 refl;
      count = none-told c.args.today c.args.shared.now c.args.post.now c.args.self.now 0 refl none;
    }
