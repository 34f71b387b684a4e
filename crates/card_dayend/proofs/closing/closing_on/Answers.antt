use Rattle.std.proofs.Common.{◌≡◌, ◌+◌, sym, ap, ◌∙◌, subst, arith, refl, w64}
use Rattle.std.proofs.lemmas.Int.{to_z-of_z, to_z_pos}
use Rattle.std.specs.Prelude.{option_copied, unsigned_abs}
use Rattle.card_events.specs.Billing.{cycle_of, due_after, next_on}
use Rattle.card_events.specs.declared.anchor.Anchor.{Anchor}
use Rattle.card_events.specs.History.{anchor_of}
use Rattle.card_events.specs.declared.post.Terms.{Terms}
use Rattle.card_model.specs.Closing.{first_of, previous_of}
use Rattle.card_model.specs.Cycles.{last_cycle}
use Rattle.card_model.specs.Folds.{cycle_at}
use Rattle.card_daily.proofs.ClosingDay.{closes-of, closes-on, due-by, last-at, present-is, their-days}
use Rattle.card_daily.proofs.Lasts.{last-get}
use Rattle.card_daily.specs.Closing.{IsClosing}
use Rattle.card_daily.specs.Given.{account_in}
use Rattle.card_daily.specs.Stands.{posted}
use Rattle.card_dayend.proofs.closing.closing_on.Goals as goal

pub first_day-requires : goal.first_day-requires
first_day-requires c k e =
    let g = c.args.inputs.now in
    let day = c.args.day in
    let s = c.anchor-anchor.ensures.sound in
    let last = c.last-last.ensures.value ∙ (last-get c.args.cycles.now ∙ ap last_cycle c.requires.cycles) in
    (last-at g day (cycle_of (anchor_of g.history) day) k s c.requires.dated.opened c.requires.dated.last (closes-of g day s c.requires.dated.opened c.requires.dated.last c.requires.closes) (sym last ∙ e)).closed

pub due_date-requires-clause-closing : goal.due_date-requires-clause-closing
due_date-requires-clause-closing c =
    let g = c.args.inputs.now in
    let day = c.args.day in
    let anchor = c.anchor-anchor.ensures.value in
    let number : c.cycle_of-number.result ≡ cycle_of (anchor_of g.history) day = c.cycle_of-number.ensures.value ∙ ap (λ (a : Anchor). cycle_of a day) anchor in
    subst (λ (a : Anchor). IsClosing a c.cycle_of-number.result day) (sym anchor)
    (subst (λ n. IsClosing (anchor_of g.history) n day) (sym number) (closes-on g day c.anchor-anchor.ensures.sound c.requires.dated.opened c.requires.dated.last c.requires.closes))

pub next_closing-requires-clause-closing : goal.next_closing-requires-clause-closing
next_closing-requires-clause-closing c =
    let g = c.args.inputs.now in
    let day = c.args.day in
    let anchor = c.anchor-anchor.ensures.value in
    let number : c.cycle_of-number.result ≡ cycle_of (anchor_of g.history) day = c.cycle_of-number.ensures.value ∙ ap (λ (a : Anchor). cycle_of a day) anchor in
    subst (λ (a : Anchor). IsClosing a c.cycle_of-number.result day) (sym anchor)
    (subst (λ n. IsClosing (anchor_of g.history) n day) (sym number) (closes-on g day c.anchor-anchor.ensures.sound c.requires.dated.opened c.requires.dated.last c.requires.closes))

pub purchases-requires-clause-days : goal.purchases-requires-clause-days
purchases-requires-clause-days c k x e =
    their-days c.args.inputs.now c.args.day c.anchor-anchor.ensures.sound c.requires.dated.opened c.requires.dated.last k x (ap (cycle_at k) (sym c.requires.cycles) ∙ e)

pub purchases-requires-clause-due : goal.purchases-requires-clause-due
purchases-requires-clause-due c k x e =
    let g = c.args.inputs.now in
    let day = c.args.day in
    let s = c.anchor-anchor.ensures.sound in
    due-by g day (cycle_of (anchor_of g.history) day) s c.requires.dated.opened c.requires.dated.last (closes-of g day s c.requires.dated.opened c.requires.dated.last c.requires.closes) k x (ap (cycle_at k) (sym c.requires.cycles) ∙ e)

pub left_at-requires-clause-last : goal.left_at-requires-clause-last
left_at-requires-clause-last c = c.last-last.ensures.value ∙ (last-get c.args.cycles.now ∙ ap last_cycle c.requires.cycles)

pub returns-clause-of_book : goal.returns-clause-of_book
returns-clause-of_book c =
    let g = c.args.inputs.now in
    let day = c.args.day in
    let anchor = c.anchor-anchor.ensures.value in
    let number : c.cycle_of-number.result ≡ cycle_of (anchor_of g.history) day = c.cycle_of-number.ensures.value ∙ ap (λ (a : Anchor). cycle_of a day) anchor in
    let last : option_copied c.last-last.result ≡ last_cycle (posted g day).cycles = c.last-last.ensures.value ∙ (last-get c.args.cycles.now ∙ ap last_cycle c.requires.cycles) in
    let few = c.get.ensures.bound in
    record {
      cycle = number ∙ sym (present-is g day c.anchor-anchor.ensures.sound c.requires.dated.opened);
      first_day = c.first_day.ensures ∙ ap (first_of (account_in g)) last;
      today = refl;
      due_day = c.due_date.ensures ∙ ap (λ (a : Anchor). due_after a.close_day day) anchor;
      next_day = c.next_closing.ensures ∙ ap (λ (a : Anchor). next_on a.close_day (day + 1)) anchor;
      grace = c.purchases.ensures;
      owed_before = to_z-of_z w64 c.previous.result (record { sfits = c.previous.type_inv }) ∙ (c.previous.ensures ∙ ap previous_of last);
      least = ap unsigned_abs (to_z_pos w64 c.get.result (omega (arith, few))) ∙ (c.get.ensures.value ∙ ap (λ (t : Terms). t.floor) c.terms-terms.ensures.value);
      part = c.get-2.ensures.value ∙ ap (λ (t : Terms). t.pct) c.terms-terms.ensures.value;
      left = c.left_at.ensures.value;
    }
