use Rattle.std.proofs.Common.{◌≡◌, ◌+◌, length, sym, ap, subst, ◌∙◌, None}
use Rattle.card_events.specs.History.{anchor_of, corrected}
use Rattle.card_events.specs.declared.post.Post.{Post}
use Rattle.card_model.specs.Refusals.{reason_against}
use Rattle.card_daily.specs.Given.{IsSound}
use Rattle.card_book.specs.GoingOn.{sets_rates}
use Rattle.card_book.specs.Laws.{is_bill}
use Rattle.card_replay.proofs.ChangeOwes.{others-issue-nothing, right-false}
use Rattle.card_reasons.proofs.Accepted.{small}
use Rattle.card_replay.proofs.GivenMade.{given-made}
use Rattle.card_replay.proofs.Reached.{cycles-today, has-closings}
use Rattle.card_replay.proofs.Settled.{settled-today}
use Rattle.card_replay.proofs.Statements.{issues-are}
use Rattle.card_replay.specs.Changes.{issued_as, issued_from}
use Rattle.card_replay.specs.Replays.{HasClosings, Replay, given_of, present_of}
use Rattle.card_replay.proofs.replay.Replay.issued_today.Goals as goal

pub new-inputs-requires-clause-stands : goal.new-inputs-requires-clause-stands
new-inputs-requires-clause-stands c =
    subst (λ (x : Replay). x.corrected ≡ corrected (anchor_of x.lists.posts) c.args.shared.now.holidays x.lists.posts) (sym c.self.view_is) c.requires.replay.corrected

pub new-inputs-requires-clause-sound : goal.new-inputs-requires-clause-sound
new-inputs-requires-clause-sound c =
    let shared = c.args.shared.now in
    let parts = given-made shared c.args.self.now c.self.inside.posts.history c.self.inside.issued.items c.deref.result.now (ap (λ (x : Replay). x.lists.posts) c.self.view_is) c.deref.ensures.value (ap (λ (x : Replay). x.late.made) c.self.view_is) (settled-today shared c.args.today c.args.self.now c.requires.replay c.requires.reach (c.requires.ready (sym c.needs_today.ensures ∙ c.if-not-needs_today.false))) in
    subst IsSound (sym parts) c.requires.replay.sound

pub issued_by-requires-clause-closings : goal.issued_by-requires-clause-closings
issued_by-requires-clause-closings c =
    let shared = c.args.shared.now in
    let parts = given-made shared c.args.self.now c.self.inside.posts.history c.self.inside.issued.items c.deref.result.now (ap (λ (x : Replay). x.lists.posts) c.self.view_is) c.deref.ensures.value (ap (λ (x : Replay). x.late.made) c.self.view_is) (settled-today shared c.args.today c.args.self.now c.requires.replay c.requires.reach (c.requires.ready (sym c.needs_today.ensures ∙ c.if-not-needs_today.false))) in
    subst (λ (x : Replay). HasClosings c.new-inputs.result x.folding.book x.folding.past) (sym c.self.view_is) (has-closings c.new-inputs.result shared c.args.self.now (c.new-inputs.ensures ∙ parts) c.requires.replay)

pub issued_by-requires-clause-small : goal.issued_by-requires-clause-small
issued_by-requires-clause-small c = λ cycle e.
    let now = present_of c.args.today c.args.shared.now c.args.self.now.lists in
    small now cycle (subst (λ (p : Post). reason_against now p ≡ None) e c.requires.no_reason)

-- the number, the inputs and the cycles are those of today
pub returns : goal.returns
returns c =
    let shared = c.args.shared.now in
    let today = c.args.today in
    let p = c.args.post.now in
    let r = c.args.self.now in
    let parts = given-made shared c.args.self.now c.self.inside.posts.history c.self.inside.issued.items c.deref.result.now (ap (λ (x : Replay). x.lists.posts) c.self.view_is) c.deref.ensures.value (ap (λ (x : Replay). x.late.made) c.self.view_is) (settled-today shared c.args.today c.args.self.now c.requires.replay c.requires.reach (c.requires.ready (sym c.needs_today.ensures ∙ c.if-not-needs_today.false))) in
    let inputs = c.new-inputs.ensures ∙ parts in
    let number = ap (λ n. n + 1) (c.len-number.ensures.value ∙ ap (λ (x : Replay). length x.lists.posts) c.self.view_is) in
    let cycles : c.self.inside.past.track.cycles.items ≡ r.folding.past.track.cycles.items = ap (λ (x : Replay). x.folding.past.track.cycles.items) c.self.view_is in
    c.in_ok-made.ensures
    ∙ (ap (λ g. issued_from g c.self.inside.past.track.cycles.items (c.len-number.result + 1) today p) inputs
    ∙ (ap (λ cs. issued_from (given_of r.lists shared) cs (c.len-number.result + 1) today p) cycles
    ∙ (ap (λ n. issued_from (given_of r.lists shared) r.folding.past.track.cycles.items n today p) number
    ∙ issues-are today shared r.lists r.folding.past.track.cycles.items p (λ needs. cycles-today shared today r c.requires.replay (c.requires.ready needs)))))

-- ---- where the post is no Bill
pub returns-then-not-needs_today : goal.returns-then-not-needs_today
returns-then-not-needs_today c =
    let p = c.args.post.now in
    ap issued_as c.none.ensures ∙ sym (others-issue-nothing c.args.today c.args.shared.now c.args.self.now.lists p (right-false (sets_rates p) (is_bill p) (sym c.needs_today.ensures ∙ c.if-not-needs_today.true)))
