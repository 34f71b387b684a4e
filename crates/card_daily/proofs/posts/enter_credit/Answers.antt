use Rattle.std.proofs.Common.{List, length, ap, ◌∙◌, arith, sym, refl}
use Rattle.card_events.specs.SharedRows.{IndexRow}
use Rattle.card_model.specs.Rates.{index_on}
use Rattle.card_model.proofs.IndexDays.{index-up_to}
use Rattle.card_model.specs.declared.entry.EntryKind.TheVariants as kind
use Rattle.card_daily.proofs.Posting.{credit-fees, repaid-stand}
use Rattle.card_daily.specs.Given.{account_in, seen_in}
use Rattle.card_daily.specs.declared.state.State.{State}
use Rattle.card_daily.specs.declared.track.Track.{Track}
use Rattle.std.proofs.lemmas.List.{with_items_is}
use Rattle.std.specs.Vec.{with_items}
use Rattle.card_closing.specs.Rows.{Rows}
use Rattle.card_daily.proofs.posts.enter_credit.Goals as goal

pub returns-clause-stands : goal.returns-clause-stands
returns-clause-stands c on cents issued first returned rows_by p b l is h =
    let g = c.args.inputs.now in
    let day = c.args.slot.now.day in
    let following = c.closing_to_ask.ensures (account_in g) (seen_in g day) (sym c.anchor-anchor.ensures.value) refl in
    let at = c.in_ok-parts.ensures.stands on cents issued (account_in g) (seen_in g day) p b h.at is (record { following = following; index = ap (λ (rows : List IndexRow). index_on rows day) c.index.ensures ∙ sym (index-up_to day day g.shared.index (omega arith)) }) in
    let new : State = record { segments = c.credit.new.segments; rates = c.args.state.now.rates; rows = with_items c.args.state.now.rows c.repay.new.rows; accruals = c.args.state.now.accruals } in
    let after : Track = record { entries = c.credit.new.out; cycles = c.args.track.now.cycles; fees = c.args.track.now.fees } in
    repaid-stand kind.Credit (account_in g) (seen_in g day) first returned rows_by b _ c.args.state.now new c.args.track.now after c.args.slot.now c.in_ok-parts.parts c.deref_mut.result.now c.repay.new.rows c.requires.asked.rated.numbers l refl h at refl refl (credit-fees issued (account_in g) (seen_in g day) p b on cents c.args.place.now) c.in_ok-parts.ensures.entries c.in_ok-repay.ensures.repaid c.deref_mut.ensures.value
    (with_items_is c.args.state.now.rows c.repay.new.rows (omega (arith, c.repay.auto.rows, ap (λ (rs : List Rows). length rs) c.deref_mut.ensures.value, c.args.state.now.rows.ok.0)))
