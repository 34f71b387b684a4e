use Rattle.std.proofs.Common.{sym, ap, ◌∙◌, ◌-ℤ◌, ◌-◌, w64}
use Rattle.std.specs.Option.{option_map_or}
use Rattle.std.specs.Prelude.{option_copied}
use Rattle.std.proofs.lemmas.Int.{to_z-of_z}
use Rattle.card_model.specs.Books.{Book}
use Rattle.card_model.specs.Closing.{previous_of}
use Rattle.card_model.specs.Cycles.{Cycle}
use Rattle.card_model.specs.Folds.{cycle_at}
use Rattle.card_book.proofs.Sheets.{previous-is}
use Rattle.card_book.proofs.sheet.earlier_of.Goals as goal

pub returns-clause-previous : goal.returns-clause-previous
returns-clause-previous c =
    let cycle = c.args.cycle.now in
    let was = c.owed_before-owed.result in
    let cycles = c.cycles.ensures ∙ ap (λ (b : Book). b.cycles) c.requires.book in
    let owed = c.owed_before-owed.ensures.value ∙ (ap (λ cs. previous_of (cycle_at (cycle.number - 1) cs)) cycles ∙ sym c.requires.stands.previous) in
    let kept = to_z-of_z w64 was (record { sfits = c.owed_before-owed.type_inv }) in
    let other = to_z-of_z w64 c.previous_balance-previous.result (record { sfits = c.previous_balance-previous.type_inv }) in
    other
    ∙ (c.previous_balance-previous.ensures.value
    ∙ (ap (option_map_or (λ (d : Cycle). d.new_balance) (option_copied c.issued_before.result)) kept
    ∙ (ap (λ o. option_map_or (λ (d : Cycle). d.new_balance) o was) c.issued_before.ensures ∙ previous-is c.args.inputs.now.issued cycle was owed)))

pub returns-clause-corrections : goal.returns-clause-corrections
returns-clause-corrections c =
    let cycle = c.args.cycle.now in
    let was = c.owed_before-owed.result in
    let stated = c.previous_balance-previous.result in
    let cycles = c.cycles.ensures ∙ ap (λ (b : Book). b.cycles) c.requires.book in
    let owed = c.owed_before-owed.ensures.value ∙ (ap (λ cs. previous_of (cycle_at (cycle.number - 1) cs)) cycles ∙ sym c.requires.stands.previous) in
    let kept = to_z-of_z w64 was (record { sfits = c.owed_before-owed.type_inv }) in
    let other = to_z-of_z w64 stated (record { sfits = c.previous_balance-previous.type_inv }) in
    let previous = c.previous_balance-previous.ensures.value
    ∙ (ap (option_map_or (λ (d : Cycle). d.new_balance) (option_copied c.issued_before.result)) kept
    ∙ (ap (λ o. option_map_or (λ (d : Cycle). d.new_balance) o was) c.issued_before.ensures ∙ previous-is c.args.inputs.now.issued cycle was owed)) in
    let told = to_z-of_z w64 c.corrections.result (record { sfits = c.corrections.type_inv }) in
    told ∙ (c.corrections.ensures ∙ rw (kept, other) (ap (λ z. z -ℤ stated) owed ∙ ap (λ z. cycle.previous -ℤ z) previous))
