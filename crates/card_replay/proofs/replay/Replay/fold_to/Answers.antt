use Rattle.std.proofs.Common.{◌≡◌, ℕ, ◌+◌, sym, ap, subst, ◌∙◌, arith, length, Option, None}
use Rattle.std.specs.Prelude.{IfSome}
use Rattle.card_daily.specs.Given.{Given, IsSound, opened_in}
use Rattle.card_book.specs.Stands.{Summary, day_to_fold, steps_over}
use Rattle.card_events.specs.History.{anchor_of, corrected}
use Rattle.card_replay.proofs.GivenMade.{given-made}
use Rattle.card_replay.proofs.Reached.{IsEveOf, day-is, eve-stands, folds-on, later-replay, same-replay, seen, with-eve}
use Rattle.card_replay.proofs.Settled.{all-made, settled-by-list}
use Rattle.card_replay.specs.Pasts.{AreEnds, PastBegins}
use Rattle.card_replay.specs.Replays.{Folding, FoldsOn, IsFolding, IsReplay, Replay, day_of, day_reached, given_of}
use Rattle.card_replay.proofs.replay.Replay.fold_to.Goals as goal

pub new-inputs-requires-clause-stands : goal.new-inputs-requires-clause-stands
new-inputs-requires-clause-stands g c =
    subst (λ (x : Replay). x.corrected ≡ corrected (anchor_of x.lists.posts) c.args.shared.now.holidays x.lists.posts) (sym c.self.view_is) c.requires.replay.corrected

pub new-inputs-requires-clause-sound : goal.new-inputs-requires-clause-sound
new-inputs-requires-clause-sound g c =
    let shared = c.args.shared.now in
    let e = given-made shared c.args.self.now c.self.inside.posts.history c.self.inside.issued.items c.deref.result.now (ap (λ (x : Replay). x.lists.posts) c.self.view_is) c.deref.ensures.value (ap (λ (x : Replay). x.late.made) c.self.view_is) (settled-by-list shared c.args.self.now.lists c.args.self.now.folding.reached c.args.self.now.late c.requires.none c.requires.replay.late) in
    subst IsSound (sym e) c.requires.replay.sound

pub ends_of-ends-requires : goal.ends_of-ends-requires
ends_of-ends-requires g c = subst (λ (x : Replay). length x.folding.past.since.items ≡ length x.folding.past.track.cycles.items) (sym c.self.view_is) c.requires.replay.folding.marks.count

pub reach-requires : goal.reach-requires
reach-requires g c =
    let shared = c.args.shared.now in
    let r = c.args.self.now in
    let e = c.new-inputs.ensures ∙ (given-made shared c.args.self.now c.self.inside.posts.history c.self.inside.issued.items c.deref.result.now (ap (λ (x : Replay). x.lists.posts) c.self.view_is) c.deref.ensures.value (ap (λ (x : Replay). x.late.made) c.self.view_is) (settled-by-list shared c.args.self.now.lists c.args.self.now.folding.reached c.args.self.now.late c.requires.none c.requires.replay.late)) in
    record {
      folded = subst (λ given. FoldsOn given c.args.today c.self.inside.book c.self.inside.past) (sym e)
          (subst (λ (x : Replay). FoldsOn (given_of r.lists shared) c.args.today x.folding.book x.folding.past) (sym c.self.view_is) (folds-on shared r c.args.today c.requires.replay c.requires.reach));
    }

pub returns : goal.returns
returns g c =
    let shared = c.args.shared.now in
    let today = c.args.today in
    let r = c.args.self.now in
    let given : Given = given_of r.lists shared in
    let e = c.new-inputs.ensures ∙ (given-made shared c.args.self.now c.self.inside.posts.history c.self.inside.issued.items c.deref.result.now (ap (λ (x : Replay). x.lists.posts) c.self.view_is) c.deref.ensures.value (ap (λ (x : Replay). x.late.made) c.self.view_is) (settled-by-list shared c.args.self.now.lists c.args.self.now.folding.reached c.args.self.now.late c.requires.none c.requires.replay.late)) in
    let settled = settled-by-list shared r.lists r.folding.reached r.late c.requires.none c.requires.replay.late in
    let p = c.reach.new.past in
    let b = c.replace-book.new.dest in
    let o = c.eve_of.result in
    let ends = c.ends_of-ends.result in
    let opened = (anchor_of c.self.inside.posts.history).opened in
    let same : opened_in given ≡ opened = sym (ap (λ (x : Replay). (anchor_of x.lists.posts).opened) c.self.view_is) in
    let first = c.requires.replay.sound.opening.first in
    let alone = subst (λ given. IsFolding given (record { reached = today; book = c.in_ok-later.later; past = p; eve = None })) e c.in_ok-later.ensures.folding in
    let there = subst (λ (x : Option Summary). IsFolding given (record { reached = today; book = x; past = p; eve = None })) (sym c.replace-book.ensures.after) alone in
    let day : day_reached opened (day_of b) ≡ today = day-is given opened b today p same (omega (arith, same, first)) there in
    let is = subst (λ (x : Option Summary). IfSome o (IsEveOf x ends)) (c.replace-book.ensures.value ∙ ap (λ (x : Replay). x.folding.book) c.self.view_is) c.eve_of.ensures.kept in
    let stood = eve-stands shared r today p ends o c.requires.replay c.requires.reach (subst (λ (x : Replay). AreEnds ends x.folding.past) c.self.view_is c.ends_of-ends.ensures)
    (subst (λ (x : Replay). PastBegins x.folding.past p) c.self.view_is c.in_ok-later.ensures.begins) is in
    let f : Folding = record { reached = day_reached opened (day_of b); book = b; past = p; eve = o } in
    let folding = subst (λ (n : ℕ). IsFolding given (record { reached = n; book = b; past = p; eve = o })) (sym day) (with-eve given today b p o stood there) in
    let later = c.requires.reach.later in
    let last = c.requires.reach.last in
    let left = ap (λ given. steps_over given today (day_to_fold given (day_of c.self.inside.book))) e
    ∙ ap (λ (n : ℕ). steps_over given today n) (ap (λ (x : Replay). day_to_fold given (day_of x.folding.book)) c.self.view_is ∙ c.requires.replay.folding.day) in
    record {
      same = record {
        lists = ap (λ (x : Replay). x.lists) c.self.view_is;
        corrected = ap (λ (x : Replay). x.corrected) c.self.view_is;
        room = λ h. ap (λ (x : Replay). x.has_room) c.self.view_is ∙ h;
      };
      replay = subst (λ (x : Replay). IsReplay shared (record x { folding = f })) (sym c.self.view_is)
          (later-replay shared r r.late f c.requires.replay (omega (arith, later, day)) (omega (arith, last, day)) (all-made shared r.lists f.reached r.late settled.made settled.owed) folding);
      reached = day;
      eve = record {
        here = λ h. absurd (c.requires.behind h);
        behind = λ _. c.eve_of.ensures.day ∙ ap day_of (c.replace-book.ensures.value ∙ ap (λ (x : Replay). x.folding.book) c.self.view_is);
      };
      err = tt;
      late = tt;
      steps = c.in_ok-later.ensures.steps ∙ ap (λ n. c.args.steps.now + n) left;
      most = omega (arith, c.reach.ensures.most, left);
    }

-- ---- after want of memory
pub returns-in_err-later-clause-same : goal.returns-in_err-later-clause-same
returns-in_err-later-clause-same g c = record {
  lists = ap (λ (x : Replay). x.lists) c.self.view_is;
  corrected = ap (λ (x : Replay). x.corrected) c.self.view_is;
  room = λ h. ap (λ (x : Replay). x.has_room) c.self.view_is ∙ h;
}

pub returns-in_err-later-clause-most : goal.returns-in_err-later-clause-most
returns-in_err-later-clause-most g c =
    let shared = c.args.shared.now in
    let r = c.args.self.now in
    let given : Given = given_of r.lists shared in
    let e = c.new-inputs.ensures ∙ (given-made shared c.args.self.now c.self.inside.posts.history c.self.inside.issued.items c.deref.result.now (ap (λ (x : Replay). x.lists.posts) c.self.view_is) c.deref.ensures.value (ap (λ (x : Replay). x.late.made) c.self.view_is) (settled-by-list shared c.args.self.now.lists c.args.self.now.folding.reached c.args.self.now.late c.requires.none c.requires.replay.late)) in
    let left = ap (λ given. steps_over given c.args.today (day_to_fold given (day_of c.self.inside.book))) e
    ∙ ap (λ (n : ℕ). steps_over given c.args.today n) (ap (λ (x : Replay). day_to_fold given (day_of x.folding.book)) c.self.view_is ∙ c.requires.replay.folding.day) in
    omega (arith, c.reach.ensures.most, left)

pub returns-in_err-later-clause-replay : goal.returns-in_err-later-clause-replay
returns-in_err-later-clause-replay g c =
    let in' = c.self.inside in
    same-replay c.args.shared.now (seen in'.posts.history in'.told.rows in'.posts.corrected in'.has_room (record { made = in'.issued.items; owed = in'.owed.items }) (record { reached = day_reached (anchor_of in'.posts.history).opened (day_of in'.book); book = in'.book; past = in'.past; eve = in'.eve })) c.reach.new.past c.in_err-later.ensures.err (subst (IsReplay c.args.shared.now) (sym c.self.view_is) c.requires.replay)
