use Rattle.std.proofs.Common.{◌≡◌, ◌+◌, false, List, [], ◌∷◌, ◌++◌, length, refl, ap, sym, subst, ◌∙◌, arith}
use Rattle.card_events.specs.History.{anchor_of, corrected}
use Rattle.card_events.specs.declared.anchor.Anchor.{Anchor}
use Rattle.card_events.specs.declared.kept.Kept.{Kept}
use Rattle.card_model.specs.CycleDays.{IsOpening}
use Rattle.card_posts.specs.Posted.{IsReceived, StandsFor}
use Rattle.card_model.specs.Cycles.{IssuedRow}
use Rattle.card_model.specs.Machine.{issues, kept_as}
use Rattle.card_replay.proofs.Committing.{lists_by}
use Rattle.card_replay.specs.Changes.{IsCommitted, IsTaken, issued_as, late_with}
use Rattle.card_replay.proofs.Changed.{same-anchor}
use Rattle.card_replay.proofs.LaterRows.{some-posts}
use Rattle.card_replay.specs.Owes.{Late}
use Rattle.card_replay.specs.Replays.{Folding, Replay, day_of, day_reached, present_of}
use Rattle.card_past.specs.declared.owed.Owed.{Owed}
use Rattle.card_replay.proofs.replay.Replay.commit.Goals as goal

-- the conditions of `add` are those under which the post was prepared
pub add-pushed-requires-clause-few : goal.add-pushed-requires-clause-few
add-pushed-requires-clause-few c =
    let same = ap (λ (r : Replay). length r.lists.posts) c.self.view_is in
    omega (arith, c.requires.prepared.added.few, same)

pub add-pushed-requires-clause-target : goal.add-pushed-requires-clause-target
add-pushed-requires-clause-target c =
    let same = ap (λ (r : Replay). length r.lists.posts) c.self.view_is in
    omega (arith, c.requires.prepared.added.target, same)

pub add-pushed-requires-clause-received : goal.add-pushed-requires-clause-received
add-pushed-requires-clause-received c =
    let same : c.self.inside.posts.history ≡ c.args.self.now.lists.posts = ap (λ (r : Replay). r.lists.posts) c.self.view_is in
    subst (λ (h : List Kept). IsReceived (anchor_of h).opened c.args.change.today c.args.change.post) (sym same) c.requires.prepared.added.received

pub add-pushed-requires-clause-room : goal.add-pushed-requires-clause-room
add-pushed-requires-clause-room c = (c.self.invariant (ap (λ (r : Replay). r.has_room) c.self.view_is ∙ c.requires.prepared.added.room)).0

pub add-pushed-requires-clause-stands : goal.add-pushed-requires-clause-stands
add-pushed-requires-clause-stands c =
    subst (λ holidays. StandsFor holidays c.self.inside.posts) (sym c.calendar.ensures)
    (subst (λ (r : Replay). r.corrected ≡ corrected (anchor_of r.lists.posts) c.args.shared.now.holidays r.lists.posts) (sym c.self.view_is) c.requires.prepared.replay.corrected)

pub push_issued-requires : goal.push_issued-requires
push_issued-requires c = (c.self.invariant (ap (λ (r : Replay). r.has_room) c.self.view_is ∙ c.requires.prepared.added.room)).1

pub push_owed-requires : goal.push_owed-requires
push_owed-requires c = (c.self.invariant (ap (λ (r : Replay). r.has_room) c.self.view_is ∙ c.requires.prepared.added.room)).2

pub returns : goal.returns
returns c =
    let change = c.args.change in
    let old = c.args.self.now in
    let history : c.self.inside.posts.history ≡ old.lists.posts = ap (λ (r : Replay). r.lists.posts) c.self.view_is in
    let shared = c.args.shared.now in
    let posts = c.add-pushed.ensures.history ∙ ap (λ (hs : List Kept). hs ++ kept_as (length hs + 1) change.key change.today change.post ∷ []) history in
    let issued : c.tell.new.told.rows ≡ old.lists.issued ++ issues (present_of change.today shared old.lists) change.post =
    c.tell.ensures ∙ ap (λ (r : Replay). r.lists.issued ++ issues (present_of change.today shared r.lists) change.post) c.self.view_is in
    let late : Late = record { made = c.push_issued.new.list.items; owed = c.push_owed.new.list.items } in
    let owes : late ≡ late_with change old.late =
    ap (λ (rows : List IssuedRow). record { made = rows; owed = c.push_owed.new.list.items }) c.push_issued.ensures.items
    ∙ (ap (λ (os : List Owed). record { made = c.self.inside.issued.items ++ issued_as change.issued; owed = os }) c.push_owed.ensures
    ∙ ap (λ (r : Replay). late_with change r.late) c.self.view_is) in
    let h = c.self.inside.posts.history in
    let k = kept_as (length h + 1) change.key change.today change.post in
    let o = (anchor_of h).opened in
    let taken = c.take_if_any.new in
    let folding : Folding = record { reached = day_reached (anchor_of c.add-pushed.new.self.history).opened (day_of taken.book); book = taken.book; past = taken.past; eve = taken.eve } in
    let opening = subst (λ (hs : List Kept). IsOpening (anchor_of hs)) (sym history) c.requires.prepared.replay.sound.opening in
    let same : (anchor_of c.add-pushed.new.self.history).opened ≡ o = ap (λ (hs : List Kept). (anchor_of hs).opened) c.add-pushed.ensures.history ∙ ap (λ (a : Anchor). a.opened) (same-anchor h k (some-posts h opening)) in
    let there = subst (λ n. IsTaken o change.rewound (record { reached = day_reached o (day_of c.self.inside.book); book = c.self.inside.book; past = c.self.inside.past; eve = c.self.inside.eve }) (record { reached = day_reached n (day_of taken.book); book = taken.book; past = taken.past; eve = taken.eve })) (sym same) (c.take_if_any.ensures o) in
    let new : Replay = record { lists = lists_by c.add-pushed.new.self.history c.tell.new.told.rows; corrected = c.add-pushed.new.self.corrected; has_room = false; late = late; folding = folding } in
    let committed : IsCommitted c.args.shared.now change old new =
    record {
      lists = ap (λ hs. lists_by hs c.tell.new.told.rows) posts ∙ ap (lists_by (old.lists.posts ++ kept_as (length old.lists.posts + 1) change.key change.today change.post ∷ [])) issued;
      late = owes;
      corrected = subst (λ holidays. StandsFor holidays c.add-pushed.new.self) c.calendar.ensures c.add-pushed.ensures.stands;
      folding = subst (λ (r : Replay). IsTaken (anchor_of r.lists.posts).opened change.rewound r.folding folding) c.self.view_is there;
    } in
    record {
      committed = committed;
      replay = c.requires.prepared.next new committed;
      reach = c.requires.prepared.reach_next new committed;
      near = c.requires.prepared.near new committed;
      room = refl;
      number = c.add-pushed.ensures.number ∙ ap (λ (r : Replay). length r.lists.posts + 1) c.self.view_is;
    }
