use Rattle.std.proofs.Common.{◌≡◌, ℕ, List, refl, sym, ap, subst, ◌∙◌, arith}
use Rattle.card_book.specs.Stands.{day_to_fold, steps_over}
use Rattle.card_daily.specs.Given.{Given, IsSound}
use Rattle.card_events.specs.History.{anchor_of, corrected}
use Rattle.card_model.specs.Cycles.{IssuedRow}
use Rattle.card_replay.proofs.Beside.{any-err, left-beside}
use Rattle.card_replay.proofs.Reached.{later-replay}
use Rattle.card_replay.proofs.Settled.{all-made, empty-list, none-listed, settled-by-list}
use Rattle.card_replay.specs.Making.{AreToMakeBeside}
use Rattle.card_replay.specs.Owes.{AreLate, Late, bills_in}
use Rattle.card_replay.specs.Replays.{IsReplay, Replay, day_of, given_of}
use Rattle.card_past.specs.declared.owed.Owed.{Owed}
use Rattle.card_replay.proofs.replay.Replay.make_owed.Goals as goal

-- ---- what is asked of the account
pub make_beside-requires-clause-stands : goal.make_beside-requires-clause-stands
make_beside-requires-clause-stands g c =
    subst (λ (x : Replay). x.corrected ≡ corrected (anchor_of x.lists.posts) c.args.shared.now.holidays x.lists.posts) (sym c.self.view_is) c.requires.replay.corrected

pub make_beside-requires-clause-sound : goal.make_beside-requires-clause-sound
make_beside-requires-clause-sound g c = subst (λ (x : Replay). IsSound (given_of x.lists c.args.shared.now)) (sym c.self.view_is) c.requires.replay.sound

pub make_beside-requires-clause-last : goal.make_beside-requires-clause-last
make_beside-requires-clause-last g c = c.requires.reach.last

pub make_beside-requires-clause-left : goal.make_beside-requires-clause-left
make_beside-requires-clause-left g c =
    let shared = c.args.shared.now in
    let r = c.args.self.now in
    subst (λ (os : List Owed). AreToMakeBeside shared c.self.inside.posts.history c.self.inside.told.rows c.self.inside.issued.items (bills_in os) c.args.today c.self.inside.book c.self.inside.past) (sym c.deref.ensures.value)
    (subst (λ (x : Replay). AreToMakeBeside shared x.lists.posts x.lists.issued x.late.made (bills_in x.late.owed) c.args.today x.folding.book x.folding.past) (sym c.self.view_is) (left-beside shared r c.args.today c.requires.replay c.requires.reach))

-- ---- all are made
pub returns-clause-same : goal.returns-clause-same
returns-clause-same g c = record {
  lists = ap (λ (x : Replay). x.lists) c.self.view_is;
  corrected = ap (λ (x : Replay). x.corrected) c.self.view_is;
  room = λ h. ap (λ (x : Replay). x.has_room) c.self.view_is ∙ h;
}

pub returns-clause-replay : goal.returns-clause-replay
returns-clause-replay g c =
    let shared = c.args.shared.now in
    let r = c.args.self.now in
    let late : Late = record { made = c.make_beside.new.issued.items; owed = c.clear.new.self.items } in
    let made : late.made ≡ r.lists.issued = c.in_ok-make_beside.ensures.rows ∙ ap (λ (x : Replay). x.lists.issued) c.self.view_is in
    subst (λ (x : Replay). IsReplay shared (record x { late = late })) (sym c.self.view_is)
    (later-replay shared r late r.folding c.requires.replay (omega arith) c.requires.replay.dated (all-made shared r.lists r.folding.reached late made c.clear.ensures.items) c.requires.replay.folding)

pub returns-clause-folding : goal.returns-clause-folding
returns-clause-folding g c = ap (λ (x : Replay). x.folding) c.self.view_is

pub returns-clause-none : goal.returns-clause-none
returns-clause-none g c = c.clear.ensures.items

pub returns-clause-made : goal.returns-clause-made
returns-clause-made g c = c.in_ok-make_beside.ensures.rows ∙ ap (λ (x : Replay). x.lists.issued) c.self.view_is

pub returns-clause-idle : goal.returns-clause-idle
returns-clause-idle g c = λ none. absurd (empty-list c.self.inside.owed (ap (λ (x : Replay). x.late.owed) c.self.view_is ∙ none) (sym c.is_empty.ensures ∙ c.if-is_empty.false))

pub returns-clause-most : goal.returns-clause-most
returns-clause-most g c =
    let shared = c.args.shared.now in
    let r = c.args.self.now in
    let given : Given = given_of r.lists shared in
    let e : given_of _ shared ≡ given = ap (λ (x : Replay). given_of x.lists shared) c.self.view_is in
    let left = ap (λ given. steps_over given c.args.today (day_to_fold given (day_of c.self.inside.book))) e
    ∙ ap (λ (n : ℕ). steps_over given c.args.today n) (ap (λ (x : Replay). day_to_fold given (day_of x.folding.book)) c.self.view_is ∙ c.requires.replay.folding.day) in
    omega (arith, c.make_beside.ensures.most, left)

-- ---- after want of memory
pub returns-in_err-make_beside-clause-same : goal.returns-in_err-make_beside-clause-same
returns-in_err-make_beside-clause-same g c = record {
  lists = ap (λ (x : Replay). x.lists) c.self.view_is;
  corrected = ap (λ (x : Replay). x.corrected) c.self.view_is;
  room = λ h. ap (λ (x : Replay). x.has_room) c.self.view_is ∙ h;
}

pub returns-in_err-make_beside-clause-replay : goal.returns-in_err-make_beside-clause-replay
returns-in_err-make_beside-clause-replay g c =
    let shared = c.args.shared.now in
    let r = c.args.self.now in
    let late : Late = record { made = c.make_beside.new.issued.items; owed = c.self.inside.owed.items } in
    let is : late ≡ r.late = ap (λ (rows : List IssuedRow). record { made = rows; owed = c.self.inside.owed.items }) c.in_err-make_beside.ensures.front ∙ ap (λ (x : Replay). x.late) c.self.view_is in
    subst (λ (x : Replay). IsReplay shared (record x { late = late })) (sym c.self.view_is)
    (later-replay shared r late r.folding c.requires.replay (omega arith) c.requires.replay.dated (subst (AreLate shared r.lists r.folding.reached) (sym is) c.requires.replay.late) c.requires.replay.folding)

pub returns-in_err-make_beside-clause-folding : goal.returns-in_err-make_beside-clause-folding
returns-in_err-make_beside-clause-folding g c = ap (λ (x : Replay). x.folding) c.self.view_is

pub returns-in_err-make_beside-clause-err : goal.returns-in_err-make_beside-clause-err
returns-in_err-make_beside-clause-err g c =
    any-err c.from_residual.result _ (ap (λ (rows : List IssuedRow). record { made = rows; owed = c.self.inside.owed.items }) c.in_err-make_beside.ensures.front ∙ ap (λ (x : Replay). x.late) c.self.view_is)

pub returns-in_err-make_beside-clause-idle : goal.returns-in_err-make_beside-clause-idle
returns-in_err-make_beside-clause-idle g c = λ none. absurd (empty-list c.self.inside.owed (ap (λ (x : Replay). x.late.owed) c.self.view_is ∙ none) (sym c.is_empty.ensures ∙ c.if-is_empty.false))

pub returns-in_err-make_beside-clause-most : goal.returns-in_err-make_beside-clause-most
returns-in_err-make_beside-clause-most g c =
    let shared = c.args.shared.now in
    let r = c.args.self.now in
    let given : Given = given_of r.lists shared in
    let e : given_of _ shared ≡ given = ap (λ (x : Replay). given_of x.lists shared) c.self.view_is in
    let left = ap (λ given. steps_over given c.args.today (day_to_fold given (day_of c.self.inside.book))) e
    ∙ ap (λ (n : ℕ). steps_over given c.args.today n) (ap (λ (x : Replay). day_to_fold given (day_of x.folding.book)) c.self.view_is ∙ c.requires.replay.folding.day) in
    omega (arith, c.make_beside.ensures.most, left)

-- ---- where none is owed
pub returns-then-is_empty-clause-same : goal.returns-then-is_empty-clause-same
returns-then-is_empty-clause-same g c = record { lists = refl; corrected = refl; room = λ e. e }

pub returns-then-is_empty-clause-replay : goal.returns-then-is_empty-clause-replay
returns-then-is_empty-clause-replay g c = c.requires.replay

pub returns-then-is_empty-clause-none : goal.returns-then-is_empty-clause-none
returns-then-is_empty-clause-none g c = sym (ap (λ (x : Replay). x.late.owed) c.self.view_is) ∙ none-listed c.self.inside.owed (sym c.is_empty.ensures ∙ c.if-is_empty.true)

pub returns-then-is_empty-clause-made : goal.returns-then-is_empty-clause-made
returns-then-is_empty-clause-made g c =
    let r = c.args.self.now in
    (settled-by-list c.args.shared.now r.lists r.folding.reached r.late (sym (ap (λ (x : Replay). x.late.owed) c.self.view_is) ∙ none-listed c.self.inside.owed (sym c.is_empty.ensures ∙ c.if-is_empty.true)) c.requires.replay.late).made
