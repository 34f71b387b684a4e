use Rattle.std.proofs.Common.{◌≡◌, sym, ap, subst, ◌∙◌, arith, Some}
use Rattle.card_book.specs.Rewound.{AreFolded}
use Rattle.card_book.specs.Stands.{StandsFor}
use Rattle.card_model.specs.Refusals.{book_today}
use Rattle.card_replay.proofs.Reached.{book-today, folded-today}
use Rattle.card_past.proofs.Through.{last-is}
use Rattle.card_replay.specs.Replays.{Replay, Stands, day_of, given_of}
use Rattle.card_replay.proofs.replay.Replay.folded.Goals as goal

pub lent-requires : goal.lent-requires
lent-requires c = record { there = λ none. book-today c.args._shared.now c.args._today c.args.self.now c.requires (sym (ap (λ (x : Replay). x.folding.book) c.self.view_is) ∙ none) }

pub of-requires : goal.of-requires
of-requires c =
    let r = c.args.self.now in
    let h = c.requires.replay in
    let g = given_of r.lists c.args._shared.now in
    let b = c.lent.result.now in
    let is = sym (ap (λ (x : Replay). x.folding.book) c.self.view_is) ∙ c.lent.ensures in
    let day : day_of r.folding.book ≡ b.day = ap day_of is in
    subst (λ (x : Replay). AreFolded b x.folding.past.track) (sym c.self.view_is)
    (record {
      given = g;
      sound = h.sound;
      last = λ d e. let same = last-is g (day_of r.folding.book) r.folding.reached d h.folding.day (day ∙ e) in let dated = h.dated in omega (arith, same, dated);
      stands = subst (λ o. Stands g o r.folding.past.track) is h.folding.stands;
    })

pub returns-clause-book : goal.returns-clause-book
unfolding book_today
returns-clause-book c =
    let r = c.args.self.now in
    let g = given_of r.lists c.args._shared.now in
    let b = c.lent.result.now in
    let is = sym (ap (λ (x : Replay). x.folding.book) c.self.view_is) ∙ c.lent.ensures in
    let stands = subst (λ (x : Replay). StandsFor g b x.folding.past.track) (sym c.self.view_is) (subst (λ o. Stands g o r.folding.past.track) is c.requires.replay.folding.stands) in
    let day : b.day ≡ Some c.args._today = sym (ap day_of is) ∙ folded-today c.args._shared.now c.args._today r c.requires in
    (c.of.ensures g c.args._today stands day).book

pub returns-clause-since : goal.returns-clause-since
unfolding book_today
returns-clause-since c =
    let r = c.args.self.now in
    let g = given_of r.lists c.args._shared.now in
    let b = c.lent.result.now in
    let is = sym (ap (λ (x : Replay). x.folding.book) c.self.view_is) ∙ c.lent.ensures in
    let stands = subst (λ (x : Replay). StandsFor g b x.folding.past.track) (sym c.self.view_is) (subst (λ o. Stands g o r.folding.past.track) is c.requires.replay.folding.stands) in
    let day : b.day ≡ Some c.args._today = sym (ap day_of is) ∙ folded-today c.args._shared.now c.args._today r c.requires in
    (c.of.ensures g c.args._today stands day).since

pub returns-clause-segments : goal.returns-clause-segments
returns-clause-segments c =
    let r = c.args.self.now in
    let g = given_of r.lists c.args._shared.now in
    let b = c.lent.result.now in
    let is = sym (ap (λ (x : Replay). x.folding.book) c.self.view_is) ∙ c.lent.ensures in
    let stands = subst (λ (x : Replay). StandsFor g b x.folding.past.track) (sym c.self.view_is) (subst (λ o. Stands g o r.folding.past.track) is c.requires.replay.folding.stands) in
    let day : b.day ≡ Some c.args._today = sym (ap day_of is) ∙ folded-today c.args._shared.now c.args._today r c.requires in
    (c.of.ensures g c.args._today stands day).segments
