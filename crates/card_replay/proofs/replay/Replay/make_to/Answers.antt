use Rattle.std.proofs.Common.{◌≡◌, ℕ, ◌+◌, ◌≤◌, List, sym, ap, subst, ◌∙◌, arith, length, Option, None}
use Rattle.std.specs.Prelude.{IfSome}
use Rattle.card_daily.specs.Given.{Given, IsSound, opened_in}
use Rattle.card_book.specs.Stands.{Summary, day_to_fold, steps_over}
use Rattle.card_events.specs.History.{anchor_of, corrected}
use Rattle.card_model.specs.Cycles.{IssuedRow}
use Rattle.card_replay.proofs.Beside.{any-err}
use Rattle.card_replay.proofs.Lates.{late_rows_can_be_made}
use Rattle.card_replay.proofs.Reached.{IsEveOf, day-is, eve-stands, later-replay, replay-put-back, with-eve}
use Rattle.card_replay.proofs.Settled.{all-made}
use Rattle.card_replay.specs.Making.{AreToMake}
use Rattle.card_replay.specs.Owes.{Late, bills_in}
use Rattle.card_replay.specs.Pasts.{AreEnds, AreSame, PastBegins}
use Rattle.card_replay.specs.Replays.{Folding, IsFolding, IsReplay, Replay, day_of, day_reached, given_of}
use Rattle.card_past.specs.declared.owed.Owed.{Owed}
use Rattle.card_replay.proofs.replay.Replay.make_to.Goals as goal

pub ends_of-ends-requires : goal.ends_of-ends-requires
ends_of-ends-requires g c = subst (λ (x : Replay). length x.folding.past.since.items ≡ length x.folding.past.track.cycles.items) (sym c.self.view_is) c.requires.replay.folding.marks.count

-- ---- what is asked of the account
pub reach_with_all-requires-clause-stands : goal.reach_with_all-requires-clause-stands
reach_with_all-requires-clause-stands g c =
    subst (λ (x : Replay). x.corrected ≡ corrected (anchor_of x.lists.posts) c.args.shared.now.holidays x.lists.posts) (sym c.self.view_is) c.requires.replay.corrected

pub reach_with_all-requires-clause-sound : goal.reach_with_all-requires-clause-sound
reach_with_all-requires-clause-sound g c = subst (λ (x : Replay). IsSound (given_of x.lists c.args.shared.now)) (sym c.self.view_is) c.requires.replay.sound

pub reach_with_all-requires-clause-opened : goal.reach_with_all-requires-clause-opened
reach_with_all-requires-clause-opened g c = subst (λ (x : Replay). (anchor_of x.lists.posts).opened ≤ c.args.today) (sym c.self.view_is) c.requires.reach.opened

pub reach_with_all-requires-clause-last : goal.reach_with_all-requires-clause-last
reach_with_all-requires-clause-last g c = c.requires.reach.last

pub reach_with_all-requires-clause-left : goal.reach_with_all-requires-clause-left
reach_with_all-requires-clause-left g c =
    let shared = c.args.shared.now in
    let r = c.args.self.now in
    subst (λ (os : List Owed). AreToMake shared c.self.inside.posts.history c.self.inside.told.rows c.self.inside.issued.items (bills_in os) c.args.today c.self.inside.book c.self.inside.past) (sym c.deref.ensures.value)
    (subst (λ (x : Replay). AreToMake shared x.lists.posts x.lists.issued x.late.made (bills_in x.late.owed) c.args.today x.folding.book x.folding.past) (sym c.self.view_is)
    (late_rows_can_be_made shared r.lists r.late r.folding c.args.today c.requires.replay.sound.opening c.requires.replay.late c.requires.replay.folding c.requires.reach.accepted))

pub reach_with_all-requires-clause-later : goal.reach_with_all-requires-clause-later
reach_with_all-requires-clause-later g c =
    let r = c.args.self.now in
    let shared = c.args.shared.now in
    let day = c.requires.replay.folding.day in
    let later = c.requires.reach.later in
    subst (λ (x : Replay). day_to_fold (given_of x.lists shared) (day_of x.folding.book) ≤ c.args.today + 1) (sym c.self.view_is) (omega (arith, day, later))

pub reach_with_all-requires-clause-marked : goal.reach_with_all-requires-clause-marked
reach_with_all-requires-clause-marked g c = subst (λ (x : Replay). length x.folding.past.since.items ≡ length x.folding.past.track.cycles.items) (sym c.self.view_is) c.requires.replay.folding.marks.count

-- ---- today
pub returns : goal.returns
returns g c =
    let shared = c.args.shared.now in
    let today = c.args.today in
    let r = c.args.self.now in
    let given : Given = given_of r.lists shared in
    let e : given_of _ shared ≡ given = ap (λ (x : Replay). given_of x.lists shared) c.self.view_is in
    let p = c.reach_with_all.new.past in
    let b = c.replace-book.new.dest in
    let o = c.eve_of.result in
    let ends = c.ends_of-ends.result in
    let opened = (anchor_of c.self.inside.posts.history).opened in
    let same : opened_in given ≡ opened = sym (ap (λ (x : Replay). (anchor_of x.lists.posts).opened) c.self.view_is) in
    let first = c.requires.replay.sound.opening.first in
    let alone = subst (λ given. IsFolding given (record { reached = today; book = c.in_ok-later.later; past = p; eve = None })) e c.in_ok-later.ensures.folding in
    let there = subst (λ (x : Option Summary). IsFolding given (record { reached = today; book = x; past = p; eve = None })) (sym c.replace-book.ensures.after) alone in
    let day : day_reached opened (day_of b) ≡ today = day-is given opened b today p same (omega (arith, same, first)) there in
    let is = subst (λ (x : Option Summary). IfSome o (IsEveOf x ends)) (c.replace-book.ensures.value ∙ ap (λ (x : Replay). x.folding.book) c.self.view_is) c.eve_of.ensures.kept in
    let stood = eve-stands shared r today p ends o c.requires.replay c.requires.reach (subst (λ (x : Replay). AreEnds ends x.folding.past) c.self.view_is c.ends_of-ends.ensures)
    (subst (λ (x : Replay). PastBegins x.folding.past p) c.self.view_is c.in_ok-later.ensures.begins) is in
    let f : Folding = record { reached = day_reached opened (day_of b); book = b; past = p; eve = o } in
    let folding = subst (λ (n : ℕ). IsFolding given (record { reached = n; book = b; past = p; eve = o })) (sym day) (with-eve given today b p o stood there) in
    let late : Late = record { made = c.reach_with_all.new.issued.items; owed = c.clear.new.self.items } in
    let made : late.made ≡ r.lists.issued = c.in_ok-later.ensures.rows ∙ ap (λ (x : Replay). x.lists.issued) c.self.view_is in
    let later = c.requires.reach.later in
    let last = c.requires.reach.last in
    let left = ap (λ given. steps_over given today (day_to_fold given (day_of c.self.inside.book))) e
    ∙ ap (λ (n : ℕ). steps_over given today n) (ap (λ (x : Replay). day_to_fold given (day_of x.folding.book)) c.self.view_is ∙ c.requires.replay.folding.day) in
    record {
      same = record {
        lists = ap (λ (x : Replay). x.lists) c.self.view_is;
        corrected = ap (λ (x : Replay). x.corrected) c.self.view_is;
        room = λ h. ap (λ (x : Replay). x.has_room) c.self.view_is ∙ h;
      };
      replay = subst (λ (x : Replay). IsReplay shared (record x { late = late; folding = f })) (sym c.self.view_is)
          (later-replay shared r late f c.requires.replay (omega (arith, later, day)) (omega (arith, last, day)) (all-made shared r.lists f.reached late made c.clear.ensures.items) folding);
      reached = day;
      eve = record {
        here = λ h. absurd (c.requires.behind h);
        behind = λ _. c.eve_of.ensures.day ∙ ap day_of (c.replace-book.ensures.value ∙ ap (λ (x : Replay). x.folding.book) c.self.view_is);
      };
      err = tt;
      late = tt;
      steps = c.in_ok-later.ensures.steps ∙ ap (λ n. c.args.steps.now + n) left;
      most = omega (arith, c.reach_with_all.ensures.most, left);
    }

-- ---- after want of memory
pub returns-in_err-later-clause-same : goal.returns-in_err-later-clause-same
returns-in_err-later-clause-same g c = record {
  lists = ap (λ (x : Replay). x.lists) c.self.view_is;
  corrected = ap (λ (x : Replay). x.corrected) c.self.view_is;
  room = λ h. ap (λ (x : Replay). x.has_room) c.self.view_is ∙ h;
}

pub returns-in_err-later-clause-most : goal.returns-in_err-later-clause-most
returns-in_err-later-clause-most g c =
    let shared = c.args.shared.now in
    let r = c.args.self.now in
    let given : Given = given_of r.lists shared in
    let e : given_of _ shared ≡ given = ap (λ (x : Replay). given_of x.lists shared) c.self.view_is in
    let left = ap (λ given. steps_over given c.args.today (day_to_fold given (day_of c.self.inside.book))) e
    ∙ ap (λ (n : ℕ). steps_over given c.args.today n) (ap (λ (x : Replay). day_to_fold given (day_of x.folding.book)) c.self.view_is ∙ c.requires.replay.folding.day) in
    omega (arith, c.reach_with_all.ensures.most, left)

pub returns-in_err-later-clause-replay : goal.returns-in_err-later-clause-replay
returns-in_err-later-clause-replay g c =
    let shared = c.args.shared.now in
    let in' = c.self.inside in
    let late : Late = record { made = c.reach_with_all.new.issued.items; owed = in'.owed.items } in
    subst (λ (x : Replay). IsReplay shared (record x { late = late; folding = record { reached = x.folding.reached; book = x.folding.book; past = c.reach_with_all.new.past; eve = x.folding.eve } })) (sym c.self.view_is)
    (replay-put-back shared c.args.self.now late c.reach_with_all.new.past
    (ap (λ (rows : List IssuedRow). record { made = rows; owed = in'.owed.items }) c.in_err-later.ensures.front ∙ ap (λ (x : Replay). x.late) c.self.view_is)
    (subst (λ (x : Replay). AreSame x.folding.past c.reach_with_all.new.past) c.self.view_is c.in_err-later.ensures.same) c.requires.replay)

pub returns-in_err-later-clause-late : goal.returns-in_err-later-clause-late
returns-in_err-later-clause-late g c =
    any-err c.from_residual.result _ (ap (λ (rows : List IssuedRow). record { made = rows; owed = c.self.inside.owed.items }) c.in_err-later.ensures.front ∙ ap (λ (x : Replay). x.late) c.self.view_is)
