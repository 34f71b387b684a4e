use Rattle.std.proofs.Common.{◌≡◌, ◌<◌, refl, sym, ap, subst, ◌∙◌, arith, None}
use Rattle.std.specs.List.{All}
use Rattle.card_events.specs.Keys.{with_key}
use Rattle.card_model.specs.Machine.{accepted, issues}
use Rattle.card_model.specs.Refusals.{Lists, reason_against}
use Rattle.card_daily.specs.Given.{IsSound}
use Rattle.card_replay.proofs.ChangeOwes.{change-owes}
use Rattle.card_replay.proofs.Committing.{is-prepared, rewound-same}
use Rattle.card_replay.proofs.Reached.{first-same, ready-same, reach-same, replay-same, same-lists}
use Rattle.card_replay.specs.Owes.{Late}
use Rattle.card_replay.specs.Replays.{Folding, given_of, present_of}
use Rattle.card_replay.specs.declared.change.Change.{Change}
use Rattle.card_replay.proofs.replay.Replay.changed.Goals as goal

-- ---- the account with room for one more post
pub rewound-requires-clause-replay : goal.rewound-requires-clause-replay
rewound-requires-clause-replay c = replay-same c.args.shared.now c.args.self.now c.make_room.new.self c.make_room.ensures.same c.make_room.ensures.late c.make_room.ensures.folding c.requires.replay

pub rewound-requires-clause-reach : goal.rewound-requires-clause-reach
rewound-requires-clause-reach c =
    let same = ap (λ (f : Folding). f.reached) c.make_room.ensures.folding in
    let later = c.requires.reach.later in
    reach-same c.args.today c.args.self.now c.make_room.new.self c.make_room.ensures.same (omega (arith, same, later)) c.requires.reach

pub rewound-requires-clause-ready : goal.rewound-requires-clause-ready
rewound-requires-clause-ready c = ready-same c.args.today c.args.post.now c.args.self.now c.make_room.new.self c.make_room.ensures.folding c.requires.ready

pub rewound-requires-clause-fresh : goal.rewound-requires-clause-fresh
rewound-requires-clause-fresh c = ap (λ (l : Lists). with_key c.args.key l.posts) c.make_room.ensures.same.lists ∙ c.requires.fresh

pub rewound-requires-clause-no_reason : goal.rewound-requires-clause-no_reason
rewound-requires-clause-no_reason c =
    subst (λ (l : Lists). reason_against (present_of c.args.today c.args.shared.now l) c.args.post.now ≡ None) (sym c.make_room.ensures.same.lists) c.requires.no_reason

pub rewound-requires-clause-first : goal.rewound-requires-clause-first
rewound-requires-clause-first c = first-same c.args.shared.now c.args.today c.args.post.now c.args.from c.args.self.now c.make_room.new.self c.make_room.ensures.same c.requires.first

pub rewound-requires-clause-sound : goal.rewound-requires-clause-sound
rewound-requires-clause-sound c =
    subst (λ (l : Lists). IsSound (given_of (accepted (present_of c.args.today c.args.shared.now l) c.args.key c.args.post.now) c.args.shared.now)) (sym c.make_room.ensures.same.lists) c.requires.sound

-- ---- prepared
pub returns-clause-same : goal.returns-clause-same
returns-clause-same c = same-lists c.args.self.now c.make_room.new.self c.rewound.new.self c.make_room.ensures.same c.rewound.ensures.same

pub returns-clause-replay : goal.returns-clause-replay
returns-clause-replay c =
    replay-same c.args.shared.now c.make_room.new.self c.rewound.new.self c.rewound.ensures.same c.rewound.ensures.late c.rewound.ensures.folding
    (replay-same c.args.shared.now c.args.self.now c.make_room.new.self c.make_room.ensures.same c.make_room.ensures.late c.make_room.ensures.folding c.requires.replay)

pub returns-clause-folding : goal.returns-clause-folding
returns-clause-folding c = c.rewound.ensures.folding ∙ c.make_room.ensures.folding

pub returns-clause-prepared : goal.returns-clause-prepared
returns-clause-prepared c =
    let shared = c.args.shared.now in
    let today = c.args.today in
    let p = c.args.post.now in
    let old = c.args.self.now in
    let mid = c.make_room.new.self in
    let r = c.rewound.new.self in
    let made : Change = record { key = c.args.key; post = p; today = today; issued = c.in_ok-issued.issued; owes = None; rewound = c.in_ok-rewound.rewound } in
    let same = same-lists old mid r c.make_room.ensures.same c.rewound.ensures.same in
    let lists : r.lists ≡ old.lists = same.lists in
    let folding = c.rewound.ensures.folding ∙ c.make_room.ensures.folding in
    let late = c.rewound.ensures.late ∙ c.make_room.ensures.late in
    let replay = replay-same shared old r same late folding c.requires.replay in
    let here = ap (λ (f : Folding). f.reached) folding in
    let later = c.requires.reach.later in
    let may = reach-same today old r same (omega (arith, here, later)) c.requires.reach in
    let issued = c.in_ok-issued.ensures ∙ ap (λ (l : Lists). issues (present_of today shared l) p) (sym lists) in
    let none = subst (λ (l : Lists). reason_against (present_of today shared l) p ≡ None) (sym lists) c.requires.no_reason in
    let owes = change-owes shared today c.args.key p c.args.from made r replay may (ready-same today p old r folding c.requires.ready)
    (λ u. subst (λ (l : Late). All (λ o. o.closing < c.args.from) l.owed) (sym late) (c.requires.leaves u)) (first-same shared today p c.args.from old r same c.requires.first) issued refl in
    is-prepared shared today c.args.key p made r replay may (c.rewound.ensures.same.room c.in_ok-make_room.ensures.room) (record { key = refl; today = refl; post = refl }) (λ _. issued) owes none
    (subst (λ (l : Lists). IsSound (given_of (accepted (present_of today shared l) c.args.key p) shared)) (sym lists) c.requires.sound)
    (rewound-same shared today c.args.key p made.rewound mid r c.rewound.ensures.same.lists c.rewound.ensures.folding c.in_ok-rewound.ensures.rewound)

-- ---- after want of memory
pub returns-in_err-make_room-clause-replay : goal.returns-in_err-make_room-clause-replay
returns-in_err-make_room-clause-replay c = replay-same c.args.shared.now c.args.self.now c.make_room.new.self c.make_room.ensures.same c.make_room.ensures.late c.make_room.ensures.folding c.requires.replay

pub returns-in_err-rewound-clause-same : goal.returns-in_err-rewound-clause-same
returns-in_err-rewound-clause-same c = same-lists c.args.self.now c.make_room.new.self c.rewound.new.self c.make_room.ensures.same c.rewound.ensures.same

pub returns-in_err-rewound-clause-replay : goal.returns-in_err-rewound-clause-replay
returns-in_err-rewound-clause-replay c =
    replay-same c.args.shared.now c.make_room.new.self c.rewound.new.self c.rewound.ensures.same c.rewound.ensures.late c.rewound.ensures.folding
    (replay-same c.args.shared.now c.args.self.now c.make_room.new.self c.make_room.ensures.same c.make_room.ensures.late c.make_room.ensures.folding c.requires.replay)

pub returns-in_err-rewound-clause-folding : goal.returns-in_err-rewound-clause-folding
returns-in_err-rewound-clause-folding c = c.rewound.ensures.folding ∙ c.make_room.ensures.folding

pub returns-in_err-issued-clause-same : goal.returns-in_err-issued-clause-same
returns-in_err-issued-clause-same c = record { lists = refl; corrected = refl; room = λ e. e }
