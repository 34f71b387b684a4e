use Rattle.std.proofs.Common.{◌≡◌, ◌-◌, not, List, length, pos, sym, ap, ◌∙◌, refl, w64, arith}
use Rattle.std.proofs.lemmas.Int.{to_z-of_z}
use Rattle.std.specs.Prelude.{min, slice_get}
use Rattle.card_events.specs.declared.kept.Slot.{Slot}
use Rattle.card_model.specs.Cycles.{Cycle, last_cycle}
use Rattle.card_events.specs.SharedRows.{IndexRow}
use Rattle.card_model.specs.Payments.{minimum_left}
use Rattle.card_model.specs.Rates.{index_on}
use Rattle.card_model.proofs.IndexDays.{index-up_to}
use Rattle.card_model.specs.declared.entry.EntryKind.TheVariants as kind
use Rattle.card_daily.proofs.Lasts.{last-get}
use Rattle.card_daily.proofs.Posting.{handed, lesser-is, payment-fees, repaid-stand}
use Rattle.card_daily.specs.Given.{account_in, seen_in}
use Rattle.card_daily.specs.Stands.{before}
use Rattle.card_daily.specs.declared.state.State.{State}
use Rattle.card_daily.specs.declared.track.Track.{Track}
use Rattle.std.proofs.lemmas.List.{with_items_is}
use Rattle.std.specs.Vec.{with_items}
use Rattle.card_closing.specs.Rows.{Rows}
use Rattle.card_daily.proofs.posts.enter_payment.Goals as goal

pub left_if_any-left-requires-clause-last : goal.left_if_any-left-requires-clause-last
left_if_any-left-requires-clause-last c =
    let cycles = c.deref.ensures.value ∙ c.requires.closed.cycles in
    c.last.ensures.value ∙ (ap (λ (cs : List Cycle). slice_get cs (length cs - 1)) cycles ∙ last-get (before c.args.inputs.now c.args.slot.now.day).cycles)

pub returns-clause-stands : goal.returns-clause-stands
returns-clause-stands c on minute cents by issued first returned rows_by p b un is h =
    let g = c.args.inputs.now in
    let day = c.args.slot.now.day in
    let number : p.number ≡ c.args.slot.now.number = sym (ap (λ (s : Slot). s.number) is.same) in
    let left = c.left_if_any-left.ensures.value p is.day number in
    let part = to_z-of_z w64 c.lesser.result (record { sfits = c.lesser.type_inv }) ∙ (lesser-is c.lesser.result _ _ p.cents _ c.lesser.ensures.value (handed c.args.slot.now.cents c.requires.asked.amount c.requires.asked.limit ∙ ap (λ (s : Slot). s.cents) is.same)
    left
    ∙ ap (λ (cs : List Cycle). pos (min p.cents (minimum_left (seen_in g day) p (last_cycle cs)))) (sym un.cycles)) in
    let following = c.closing_to_ask.ensures (account_in g) (seen_in g day) (sym c.anchor-anchor.ensures.value) refl in
    let at = c.in_ok-parts.ensures.stands on minute cents by issued (account_in g) (seen_in g day) p b h.at is (record { following = following; index = ap (λ (rows : List IndexRow). index_on rows day) c.index.ensures ∙ sym (index-up_to day day g.shared.index (omega arith)); minimum = part }) in
    let new : State = record { segments = c.payment.new.segments; rates = c.args.state.now.rates; rows = with_items c.args.state.now.rows c.repay.new.rows; accruals = c.args.state.now.accruals } in
    let after : Track = record { entries = c.payment.new.out; cycles = c.args.track.now.cycles; fees = c.args.track.now.fees } in
    repaid-stand kind.Payment (account_in g) (seen_in g day) first returned rows_by b _ c.args.state.now new c.args.track.now after c.args.slot.now c.in_ok-parts.parts c.deref_mut.result.now c.repay.new.rows c.requires.asked.rated.numbers un.begun (ap not (ap returned (sym number) ∙ un.stands)) h at refl refl (payment-fees issued (account_in g) (seen_in g day) p b on minute cents by) c.in_ok-parts.ensures.entries c.in_ok-repay.ensures.repaid c.deref_mut.ensures.value
    (with_items_is c.args.state.now.rows c.repay.new.rows (omega (arith, c.repay.auto.rows, ap (λ (rs : List Rows). length rs) c.deref_mut.ensures.value, c.args.state.now.rows.ok.0)))
