use Rattle.std.proofs.Common.{ℕ, ◌≤◌, length, sym, ap, subst, ◌∙◌, arith}
use Rattle.card_book.specs.Rewound.{AreFolded}
use Rattle.card_daily.specs.Given.{Given}
use Rattle.card_events.specs.History.{anchor_of}
use Rattle.card_events.specs.declared.post.Post.{Post}
use Rattle.card_model.specs.CycleDays.{IsOpening}
use Rattle.card_replay.proofs.Drafting.{back-rewound, told}
use Rattle.card_replay.specs.Replays.{Replay}
use Rattle.card_replay.specs.Rewinds.{IsAgain, MayGoBackOn}
use Rattle.card_replay.proofs.replay.Replay.gone_back.Goals as goal

pub cycles_before-cycle-requires-clause-opening : goal.cycles_before-cycle-requires-clause-opening
cycles_before-cycle-requires-clause-opening c =
    subst IsOpening (sym (c.anchor.ensures.value ∙ ap (λ (x : Replay). anchor_of x.lists.posts) c.self.view_is)) c.requires.may.replay.sound.opening

pub cycles_before-cycle-requires-clause-last : goal.cycles_before-cycle-requires-clause-last
cycles_before-cycle-requires-clause-last c = omega (arith, c.requires.within, c.requires.reached, c.requires.may.replay.dated)

pub lent-book-requires : goal.lent-book-requires
lent-book-requires c = record { there = λ none. c.requires.there (sym (ap (λ (x : Replay). x.folding.book) c.self.view_is) ∙ none) }

-- ---- a change that isn't after the day reached
pub go_back-requires-clause-folded : goal.go_back-requires-clause-folded
go_back-requires-clause-folded c =
    let r = c.args.self.now in
    let b = c.lent-book.result.now in
    let is = told c.args._shared.now c.args._today c.args._key.now c.args._post.now r c.args.from b c.requires.may c.requires.first (omega (arith, c.requires.within, c.requires.reached))
    (sym (ap (λ (x : Replay). x.folding.book) c.self.view_is) ∙ c.lent-book.ensures) c.cycles_before-cycle.ensures
    (c.anchor.ensures.value ∙ ap (λ (x : Replay). anchor_of x.lists.posts) c.self.view_is) in
    subst (λ (x : Replay). AreFolded b x.folding.past.track) (sym c.self.view_is) is.folded

pub go_back-requires-clause-closed : goal.go_back-requires-clause-closed
go_back-requires-clause-closed c =
    let r = c.args.self.now in
    let b = c.lent-book.result.now in
    let is = told c.args._shared.now c.args._today c.args._key.now c.args._post.now r c.args.from b c.requires.may c.requires.first (omega (arith, c.requires.within, c.requires.reached))
    (sym (ap (λ (x : Replay). x.folding.book) c.self.view_is) ∙ c.lent-book.ensures) c.cycles_before-cycle.ensures
    (c.anchor.ensures.value ∙ ap (λ (x : Replay). anchor_of x.lists.posts) c.self.view_is) in
    subst (λ (x : Replay). c.cycles_before-cycle.result ≤ length x.folding.past.track.cycles.items) (sym c.self.view_is) is.closed

pub returns : goal.returns
returns c =
    let shared = c.args._shared.now in
    let today = c.args._today in
    let key = c.args._key.now in
    let p = c.args._post.now in
    let r = c.args.self.now in
    let from = c.args.from in
    let b = c.lent-book.result.now in
    let cycle = c.cycles_before-cycle.result in
    let made = c.in_ok-made.made in
    let is = told shared today key p r from b c.requires.may c.requires.first (omega (arith, c.requires.within, c.requires.reached))
    (sym (ap (λ (x : Replay). x.folding.book) c.self.view_is) ∙ c.lent-book.ensures) c.cycles_before-cycle.ensures
    (c.anchor.ensures.value ∙ ap (λ (x : Replay). anchor_of x.lists.posts) c.self.view_is) in
    back-rewound shared today key p r from cycle b made c.requires.may c.requires.plain is
    (subst (λ (x : Replay). (old g : Given) (q : Post) (reached : ℕ) → MayGoBackOn old g q from cycle reached b x.folding.past x.folding.eve → IsAgain g from reached x.folding.past made) c.self.view_is c.in_ok-made.ensures)
