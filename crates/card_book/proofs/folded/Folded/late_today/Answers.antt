use Rattle.std.proofs.Common.{sym, ap, ◌∙◌, subst, arith}
use Rattle.std.specs.List.{All}
use Rattle.card_book.specs.Stands.{FoldedBook}
use Rattle.card_daily.proofs.Penalized.{all-closed}
use Rattle.card_daily.specs.Given.{Given, given_today}
use Rattle.card_daily.specs.Penalties.{IsClosed}
use Rattle.card_model.specs.Books.{Book}
use Rattle.card_model.specs.Refusals.{book_today}
use Rattle.card_book.proofs.folded.Folded.late_today.Goals as goal

pub is_sixty_days_late-requires : goal.is_sixty_days_late-requires
unfolding book_today
is_sixty_days_late-requires c =
    let now = c.args.now.now in
    let g = given_today now in
    let reached = c.today.ensures.reached in
    let cycles = ap (λ (f : FoldedBook). f.book.cycles) c.self.view_is ∙ ap (λ (b : Book). b.cycles) c.requires.book in
    let closed = all-closed g now.today c.anchor-anchor.ensures.sound (omega (arith, reached.opened)) reached.dated in
    record { closed = subst (λ (h : Given). All (IsClosed h) c.self.inside.cycles.now) (sym c.inputs.ensures) (subst (All (IsClosed g)) (sym cycles) closed) }
