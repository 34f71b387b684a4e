use Rattle.std.proofs.Common.{◌≡◌, ◌+◌, refl, sym, ap, ◌∙◌, arith}
use Rattle.card_book.specs.Stands.{steps_over}
use Rattle.card_events.specs.History.{anchor_of}
use Rattle.card_replay.proofs.Reached.{no-steps}
use Rattle.card_replay.specs.Replays.{Replay, day_of, day_reached, given_of}
use Rattle.card_replay.proofs.replay.Replay.to_day.Goals as goal

-- ---- where today is reached
pub returns-then-is_folded_to-clause-replay : goal.returns-then-is_folded_to-clause-replay
returns-then-is_folded_to-clause-replay g c = c.requires.replay

pub returns-then-is_folded_to-clause-steps : goal.returns-then-is_folded_to-clause-steps
returns-then-is_folded_to-clause-steps g c =
    let given = given_of c.args.self.now.lists c.args.shared.now in
    let opened = (anchor_of c.self.inside.posts.history).opened in
    let here : day_reached opened (day_of c.self.inside.book) ≡ c.args.today = ap (day_reached opened) (c.is_folded_to.ensures.folded c.if-is_folded_to.true) in
    let reached = sym (ap (λ (x : Replay). x.folding.reached) c.self.view_is) ∙ here in
    let none = ap (λ d. steps_over given c.args.today (d + 1)) reached ∙ no-steps given c.args.today in
    omega (arith, none)

pub returns-then-is_folded_to-clause-reached : goal.returns-then-is_folded_to-clause-reached
returns-then-is_folded_to-clause-reached g c =
    let opened = (anchor_of c.self.inside.posts.history).opened in
    sym (ap (λ (x : Replay). x.folding.reached) c.self.view_is) ∙ ap (day_reached opened) (c.is_folded_to.ensures.folded c.if-is_folded_to.true)

pub returns-then-is_folded_to-clause-eve : goal.returns-then-is_folded_to-clause-eve
returns-then-is_folded_to-clause-eve g c = record {
  here = λ _. refl;
  behind = λ no. absurd (no (sym (ap (λ (x : Replay). day_of x.folding.book) c.self.view_is) ∙ c.is_folded_to.ensures.folded c.if-is_folded_to.true));
}
