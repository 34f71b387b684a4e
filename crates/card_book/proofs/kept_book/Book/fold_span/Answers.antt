use Rattle.std.proofs.Common.{◌-◌, ◌∙◌, sym, ap, subst, arith}
use Rattle.card_model.specs.Entries.{credit_in}
use Rattle.card_rates.specs.Laws.{AreQuiet}
use Rattle.card_book.specs.Stands.{StandsFor, Summary, day_to_fold}
use Rattle.card_book.proofs.More.{span-stands, tally-by}
use Rattle.card_book.proofs.kept_book.Book.fold_span.Goals as goal

-- what was counted by the last day folded is right at the end of the span
pub next_span-requires-clause-tally : goal.next_span-requires-clause-tally
next_span-requires-clause-tally c =
    let g = c.args.inputs.now in
    let h = subst (λ s. StandsFor g s c.args.track.now) (sym c.self.view_is) c.requires.stands in
    let first = c.requires.first ∙ ap (λ (b : Summary). day_to_fold g b.day) (sym c.self.view_is) in
    let order = c.requires.order in
    tally-by g c.self.inside.day c.self.inside.tally c.args.end h.tally (omega (arith, first, order))

pub returns-clause-stands : goal.returns-clause-stands
returns-clause-stands c =
    let g = c.args.inputs.now in
    let h = subst (λ s. StandsFor g s c.args.track.now) (sym c.self.view_is) c.requires.stands in
    let quiet = subst (λ (b : Summary). AreQuiet g.history g.issued g.shared b.state.rates.penalties c.args.first (c.args.end - c.args.first)) (sym c.self.view_is) c.requires.quiet in
    span-stands g _ c.next_span.new.state c.next_span.new.tally c.args.track.now c.next_span.new.track c.args.first c.args.end c.since_after-self-inside.result c.self.inside.whole c.opening_day-opening.ensures.sound.opening h
    (c.requires.first ∙ ap (λ (b : Summary). day_to_fold g b.day) (sym c.self.view_is)) c.requires.order c.requires.last quiet c.in_ok-next_span.ensures.folded
    (c.since_after-self-inside.ensures (credit_in c.next_span.new.state.segments.balances) c.has_credit.ensures) c.next_span.ensures.tally
