use Rattle.std.proofs.Common.{◌-◌, List, [], map, length, sym, ap, ◌∙◌, refl, arith}
use Rattle.std.proofs.lemmas.List.{with_items_is}
use Rattle.std.specs.Vec.{with_items}
use Rattle.card_closing.specs.Rows.{Rows, without_post}
use Rattle.card_model.specs.Books.{Book}
use Rattle.card_daily.proofs.Charging.{chargeable}
use Rattle.card_daily.proofs.Posting.{return-stand}
use Rattle.card_daily.specs.Given.{account_in, opened_in, row_in, seen_in}
use Rattle.card_daily.specs.Returns.{fees_with}
use Rattle.card_daily.specs.declared.state.State.{State}
use Rattle.card_daily.specs.declared.track.Track.{Track}
use Rattle.card_daily.proofs.returns.enter_return.Goals as goal

pub returned-requires-clause-charged : goal.returned-requires-clause-charged
returned-requires-clause-charged c f e =
    let g = c.args.inputs.now in
    let day = c.args.slot.now.day in
    let b : Book = record { entries = []; cycles = c.deref-2.result.now; fees = c.deref.result.now; penalties = [] } in
    chargeable g day (row_in g (day - opened_in g)) b _ f c.anchor-anchor.ensures.sound (sym (c.fee_of-charged.ensures b refl refl) ∙ e)

pub returns-clause-stands : goal.returns-clause-stands
returns-clause-stands c first gone rows_by p b on cycles credits those is h =
    let g = c.args.inputs.now in
    let day = c.args.slot.now.day in
    let row = row_in g (day - opened_in g) in
    let charged = c.fee_of-charged.result in
    let fee = c.fee_of-charged.ensures b (cycles ∙ sym (c.deref-2.ensures.value ∙ c.requires.closed.cycles)) (sym (c.deref.ensures.value ∙ h.fees)) in
    let at = c.in_ok-returned.ensures.stands on row (account_in g) (seen_in g day) p b h.at is (record { those = those; fee = fee }) in
    let new : State = record { segments = c.returned.new.segments; rates = c.args.state.now.rates; rows = with_items c.args.state.now.rows c.unpay.new.rows; accruals = c.args.state.now.accruals } in
    let after : Track = record { entries = c.returned.new.out; cycles = c.args.track.now.cycles; fees = c.push_if_any.new.list } in
    let rows = with_items_is c.args.state.now.rows c.unpay.new.rows (omega (arith, c.unpay.auto.rows, ap (λ (rs : List Rows). length rs) c.deref_mut.ensures.value, c.args.state.now.rows.ok.0)) in
    return-stand row (account_in g) (seen_in g day) first gone rows_by p b on c.args.payment c.args.state.now new c.args.track.now after charged h at fee
    (record {
      rates = refl;
      fees = c.push_if_any.ensures.items ∙ ap (fees_with charged) c.reserve.ensures.items;
      rows = rows ∙ (c.unpay.ensures ∙ ap (map (without_post c.args.payment)) c.deref_mut.ensures.value);
    }) credits
