use Rattle.std.proofs.Common.{◌≡◌, ℕ, ◌+◌, length, refl, sym, ap, subst, ◌∙◌, arith, Some, None}
use Rattle.card_events.specs.Billing.{closing}
use Rattle.card_events.specs.History.{anchor_of}
use Rattle.card_model.specs.Machine.{accepted}
use Rattle.card_model.specs.Refusals.{Lists, reason_against}
use Rattle.card_daily.specs.Given.{IsSound}
use Rattle.card_replay.proofs.Committing.{is-prepared, unread-rewound}
use Rattle.card_replay.proofs.Owing.{bill-owes, bill-unread}
use Rattle.card_replay.proofs.Reached.{reach-same, replay-same}
use Rattle.card_replay.specs.Changes.{IsOwedFor}
use Rattle.card_replay.specs.Replays.{Folding, given_of, present_of}
use Rattle.card_replay.specs.declared.change.Change.{Change}
use Rattle.card_past.specs.declared.owed.Owed.{Owed}
use Rattle.card_replay.proofs.replay.Replay.owing.Goals as goal

pub returns-clause-replay : goal.returns-clause-replay
returns-clause-replay c = replay-same c.args._shared.now c.args.self.now c.make_room.new.self c.make_room.ensures.same c.make_room.ensures.late c.make_room.ensures.folding c.requires.replay

pub returns-in_err-make_room-clause-replay : goal.returns-in_err-make_room-clause-replay
returns-in_err-make_room-clause-replay c = replay-same c.args._shared.now c.args.self.now c.make_room.new.self c.make_room.ensures.same c.make_room.ensures.late c.make_room.ensures.folding c.requires.replay

pub returns-clause-prepared : goal.returns-clause-prepared
returns-clause-prepared c =
    let shared = c.args._shared.now in
    let today = c.args.today in
    let p = c.args.post.now in
    let old = c.args.self.now in
    let r = c.make_room.new.self in
    let same = c.make_room.ensures.same in
    let made : Change = record { key = c.args.key; post = p; today = today; issued = c.none.result; owes = Some c.args.one; rewound = None } in
    let lists : r.lists ≡ old.lists = same.lists in
    let folding = c.make_room.ensures.folding in
    let here = ap (λ (f : Folding). f.reached) folding in
    let later = c.requires.reach.later in
    let replay = replay-same shared old r same c.make_room.ensures.late folding c.requires.replay in
    let may = reach-same today old r same (omega (arith, here, later)) c.requires.reach in
    let none = subst (λ (l : Lists). reason_against (present_of today shared l) p ≡ None) (sym lists) c.requires.no_reason in
    let sound = subst (λ (l : Lists). IsSound (given_of (accepted (present_of today shared l) c.args.key p) shared)) (sym lists) c.requires.sound in
    let was = c.requires.owed in
    let behind = was.behind in
    let owed : IsOwedFor today p r c.args.one = record {
      bill = record { cycle = was.bill.cycle; post = was.bill.post; number = was.bill.number ∙ ap (λ (l : Lists). bill_number l) (sym lists); shut = was.bill.shut ∙ ap (λ (l : Lists). shut_on was.bill.cycle l) (sym lists) };
      behind = omega (arith, here, behind);
    } in
    is-prepared shared today c.args.key p made r replay may c.in_ok-make_room.ensures.room (record { key = refl; today = refl; post = refl }) (λ no. absurd (some-owed c.args.one no))
    (bill-owes shared today c.args.key p made r c.args.one replay may none owed c.none.ensures refl) none sound
    (unread-rewound shared today c.args.key p r (bill-unread p was.bill.cycle was.bill.post) replay may sound)
  where
    bill_number : Lists → ℕ
    bill_number l = length l.posts + 1

    shut_on : ℕ → Lists → ℕ
    shut_on cycle l = closing (anchor_of l.posts) cycle

    some-owed : (o : Owed) → Some o ≡ None → ⊥
    some-owed o e = cc
