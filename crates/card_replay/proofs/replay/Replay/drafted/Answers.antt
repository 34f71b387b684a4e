use Rattle.std.proofs.Common.{◌≡◌, ℕ, ◌+◌, ◌≤◌, length, sym, ap, subst, ◌∙◌, arith}
use Rattle.std.specs.Prelude.{IfOk, ◌||◌}
use Rattle.card_events.specs.History.{anchor_of, corrected}
use Rattle.card_events.specs.Keys.{with_key}
use Rattle.card_model.specs.Machine.{kept_as}
use Rattle.card_book.specs.Laws.{is_bill}
use Rattle.card_daily.specs.Given.{IsSound}
use Rattle.card_posts.specs.Posted.{IsReceived, Posted, StandsFor}
use Rattle.card_reasons.proofs.Accepted.{few, received, target_there}
use Rattle.card_replay.proofs.Committing.{lists_by, with_post}
use Rattle.card_replay.proofs.Drafting.{before-change, drafted, more-told, result-rewound}
use Rattle.card_replay.proofs.Reached.{folding_of}
use Rattle.card_replay.proofs.Settled.{settled-today}
use Rattle.card_replay.specs.Rewinds.{IsAgain, IsBeforeChange, MayRewind}
use Rattle.card_replay.specs.Replays.{Replay, given_of, present_of}
use Rattle.card_replay.proofs.replay.Replay.drafted.Goals as goal

-- ---- the post for a while
pub draft-requires-clause-room : goal.draft-requires-clause-room
draft-requires-clause-room c = (c.self.invariant (ap (λ (x : Replay). x.has_room) c.self.view_is ∙ c.requires.may.room)).0

pub draft-requires-clause-few : goal.draft-requires-clause-few
draft-requires-clause-few c =
    let same = ap (λ (x : Replay). length x.lists.posts) c.self.view_is in
    omega (arith, same, few (present_of c.args.today c.args.shared.now c.args.self.now.lists) c.args.post.now c.requires.may.no_reason)

pub draft-requires-clause-stands : goal.draft-requires-clause-stands
draft-requires-clause-stands c =
    subst (λ holidays. StandsFor holidays c.self.inside.posts) (sym c.calendar.ensures)
    (subst (λ (x : Replay). x.corrected ≡ corrected (anchor_of x.lists.posts) c.args.shared.now.holidays x.lists.posts) (sym c.self.view_is) c.requires.may.replay.corrected)

pub draft-requires-clause-fresh : goal.draft-requires-clause-fresh
draft-requires-clause-fresh c =
    ap (λ k. with_key k c.self.inside.posts.history) c.copy-key.ensures ∙ (ap (λ (x : Replay). with_key c.args.key.now x.lists.posts) c.self.view_is ∙ c.requires.may.fresh)

pub draft-requires-clause-target : goal.draft-requires-clause-target
draft-requires-clause-target c =
    let same = ap (λ (x : Replay). length x.lists.posts) c.self.view_is in
    omega (arith, same, target_there (present_of c.args.today c.args.shared.now c.args.self.now.lists) c.args.post.now c.requires.may.no_reason)

pub draft-requires-clause-dated : goal.draft-requires-clause-dated
draft-requires-clause-dated c = c.requires.may.reach.last

pub draft-requires-clause-received : goal.draft-requires-clause-received
draft-requires-clause-received c =
    subst (λ (x : Replay). IsReceived (anchor_of x.lists.posts).opened c.args.today c.args.post.now) (sym c.self.view_is)
    (received (present_of c.args.today c.args.shared.now c.args.self.now.lists) c.args.post.now c.requires.may.no_reason)

pub new-inputs-requires-clause-stands : goal.new-inputs-requires-clause-stands
new-inputs-requires-clause-stands c = subst (λ holidays. StandsFor holidays c.draft.new.self) c.calendar.ensures c.in_ok-draft.ensures.stands

pub new-inputs-requires-clause-sound : goal.new-inputs-requires-clause-sound
new-inputs-requires-clause-sound c =
    let shared = c.args.shared.now in
    let today = c.args.today in
    let key = c.args.key.now in
    let p = c.args.post.now in
    let r = c.args.self.now in
    let posts = c.self.inside.posts in
    let new = c.draft.new.self in
    let u = c.requires.may.read in
    let h = drafted shared today key c.copy-key.result p r posts new c.deref.result.now c.in_ok-draft.draft c.requires.may.replay u c.requires.may.sound (ap (λ (x : Replay). x.lists.posts) c.self.view_is) (ap (λ (x : Replay). x.corrected) c.self.view_is)
    (c.deref.ensures.value ∙ (ap (λ (x : Replay). x.late.made) c.self.view_is ∙ (settled-today shared today r c.requires.may.replay c.requires.may.reach (c.requires.may.ready (ap (λ b. b || is_bill p) c.requires.sets))).made)) c.copy-key.ensures c.in_ok-draft.ensures.draft (subst (λ holidays. StandsFor holidays new) c.calendar.ensures c.in_ok-draft.ensures.stands) in
    subst IsSound (sym h.inputs) h.more.sound

pub lent-book-requires : goal.lent-book-requires
lent-book-requires c = record { there = λ none. c.requires.there (sym (ap (λ (x : Replay). x.folding.book) c.self.view_is) ∙ none) }

pub rewind-made-requires : goal.rewind-made-requires
rewind-made-requires c =
    let shared = c.args.shared.now in
    let today = c.args.today in
    let key = c.args.key.now in
    let p = c.args.post.now in
    let r = c.args.self.now in
    let posts = c.self.inside.posts in
    let new = c.draft.new.self in
    let u = c.requires.may.read in
    let h = drafted shared today key c.copy-key.result p r posts new c.deref.result.now c.in_ok-draft.draft c.requires.may.replay u c.requires.may.sound (ap (λ (x : Replay). x.lists.posts) c.self.view_is) (ap (λ (x : Replay). x.corrected) c.self.view_is)
    (c.deref.ensures.value ∙ (ap (λ (x : Replay). x.late.made) c.self.view_is ∙ (settled-today shared today r c.requires.may.replay c.requires.may.reach (c.requires.may.ready (ap (λ b. b || is_bill p) c.requires.sets))).made)) c.copy-key.ensures c.in_ok-draft.ensures.draft (subst (λ holidays. StandsFor holidays new) c.calendar.ensures c.in_ok-draft.ensures.stands) in
    let at = more-told shared today key p r c.args.from c.requires.may c.requires.first in
    let inputs = c.new-inputs.ensures ∙ h.inputs in
    let was = given_of r.lists shared in
    let now = with_post r.lists key today p shared in
    let reached = c.requires.reached in
    let within : c.args.from ≤ r.folding.reached = omega (arith, reached, c.requires.within) in
    let b = c.lent-book.result.now in
    let is = sym (ap (λ (x : Replay). x.folding.book) c.self.view_is) ∙ c.lent-book.ensures in
    let before = subst (λ (n : ℕ). IsBeforeChange was now p c.args.from n b r.folding.past) reached (before-change shared today key p r c.args.from b c.requires.may.replay at within is) in
    let here = subst (λ (x : Replay). IsBeforeChange was now p c.args.from c.args.reached b x.folding.past) (sym c.self.view_is) before in
    record { change = subst (λ given. MayRewind given p c.args.from c.args.reached b c.self.inside.past) (sym inputs) (record { old = was; before = here }) }

pub withdraw-requires : goal.withdraw-requires
withdraw-requires c =
    let shared = c.args.shared.now in
    let today = c.args.today in
    let key = c.args.key.now in
    let p = c.args.post.now in
    let r = c.args.self.now in
    let posts = c.self.inside.posts in
    let new = c.draft.new.self in
    let u = c.requires.may.read in
    let h = drafted shared today key c.copy-key.result p r posts new c.deref.result.now c.in_ok-draft.draft c.requires.may.replay u c.requires.may.sound (ap (λ (x : Replay). x.lists.posts) c.self.view_is) (ap (λ (x : Replay). x.corrected) c.self.view_is)
    (c.deref.ensures.value ∙ (ap (λ (x : Replay). x.late.made) c.self.view_is ∙ (settled-today shared today r c.requires.may.replay c.requires.may.reach (c.requires.may.ready (ap (λ b. b || is_bill p) c.requires.sets))).made)) c.copy-key.ensures c.in_ok-draft.ensures.draft (subst (λ holidays. StandsFor holidays new) c.calendar.ensures c.in_ok-draft.ensures.stands) in
    record { draft = record { kept = kept_as (length r.lists.posts + 1) key today p; old = posts; draft = h.draft } }

-- ---- what it is taken back to, with the post taken out
pub returns : goal.returns
returns c =
    let shared = c.args.shared.now in
    let today = c.args.today in
    let key = c.args.key.now in
    let p = c.args.post.now in
    let r = c.args.self.now in
    let posts = c.self.inside.posts in
    let new = c.draft.new.self in
    let u = c.requires.may.read in
    let h = drafted shared today key c.copy-key.result p r posts new c.deref.result.now c.in_ok-draft.draft c.requires.may.replay u c.requires.may.sound (ap (λ (x : Replay). x.lists.posts) c.self.view_is) (ap (λ (x : Replay). x.corrected) c.self.view_is)
    (c.deref.ensures.value ∙ (ap (λ (x : Replay). x.late.made) c.self.view_is ∙ (settled-today shared today r c.requires.may.replay c.requires.may.reach (c.requires.may.ready (ap (λ b. b || is_bill p) c.requires.sets))).made)) c.copy-key.ensures c.in_ok-draft.ensures.draft (subst (λ holidays. StandsFor holidays new) c.calendar.ensures c.in_ok-draft.ensures.stands) in
    let at = more-told shared today key p r c.args.from c.requires.may c.requires.first in
    let inputs = c.new-inputs.ensures ∙ h.inputs in
    let made = c.rewind-made.result in
    let did = c.rewind-made.ensures in
    let back = c.withdraw.ensures (kept_as (length r.lists.posts + 1) key today p) posts h.draft in
    let now = with_post r.lists key today p shared in
    let again = subst (λ (x : Replay). IfOk made (IsAgain now c.args.from r.folding.reached x.folding.past)) c.self.view_is
    (subst (λ (n : ℕ). IfOk made (IsAgain now c.args.from n c.self.inside.past)) (sym c.requires.reached)
    (subst (λ given. IfOk made (IsAgain given c.args.from c.args.reached c.self.inside.past)) inputs did)) in
    record {
      same = record {
        lists = ap (λ (w : Posted). lists_by w.history c.self.inside.told.rows) back ∙ ap (λ (x : Replay). x.lists) c.self.view_is;
        corrected = ap (λ (w : Posted). w.corrected) back ∙ ap (λ (x : Replay). x.corrected) c.self.view_is;
        room = λ e. ap (λ (x : Replay). x.has_room) c.self.view_is ∙ e;
      };
      folding = ap (λ (w : Posted). folding_of w.history c.self.inside.book c.self.inside.past c.self.inside.eve) back ∙ ap (λ (x : Replay). x.folding) c.self.view_is;
      late = ap (λ (x : Replay). x.late) c.self.view_is;
      rewound = result-rewound shared today key p r c.args.from made c.requires.may at again;
    }
