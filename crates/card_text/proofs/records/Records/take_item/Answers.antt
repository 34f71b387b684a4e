use Rattle.std.proofs.Common.{◌+◌, ◌∙◌, drop, refl, ap, arith}
use Rattle.card_text.specs.Import.{items_of}
use Rattle.card_text.proofs.ItemLemmas.{taken, no_items, none_taken, one_fewer}
use Rattle.card_text.proofs.records.Records.take_item.Goals as goal

pub returns-in-Some-import_record-clause-item : goal.returns-in-Some-import_record-clause-item
returns-in-Some-import_record-clause-item c =
    let first = rw (c.in_ok-fields.was, c.in-Some.is) at c.next_record.ensures.first in
    let item = rw c.in-Some-import_record.is at c.import_record.ensures.item in
    rw (← c.loop-fields.invariant.0, taken (c.loop-fields.self-inside.number + 1) c.loop-fields.self-inside.records _ first, ← item) refl

pub returns-in-Some-import_record-clause-left : goal.returns-in-Some-import_record-clause-left
returns-in-Some-import_record-clause-left c =
    let first = rw (c.in_ok-fields.was, c.in-Some.is) at c.next_record.ensures.first in
    let left = rw c.in_ok-fields.was at c.next_record.ensures.left in
    let item = rw c.in-Some-import_record.is at c.import_record.ensures.item in
    ap (items_of (c.loop-fields.self-inside.number + 1 + 1)) left
    ∙ rw (← c.loop-fields.invariant.0, taken (c.loop-fields.self-inside.number + 1) c.loop-fields.self-inside.records _ first, ← item) refl

pub loop-fields-preserved : goal.loop-fields-preserved
loop-fields-preserved c =
    let first = rw (c.in_ok-fields.was, c.in-Some.is) at c.next_record.ensures.first in
    let left = rw c.in_ok-fields.was at c.next_record.ensures.left in
    let item = rw c.in_default-import_record.is at c.import_record.ensures.item in
    let fewer = one_fewer c.loop-fields.self-inside.records _ first in
    let bound = c.loop-fields.invariant.1 in (
      ap (items_of (c.loop-fields.self-inside.number + 1 + 1)) left
          ∙ rw (← c.loop-fields.invariant.0, taken (c.loop-fields.self-inside.number + 1) c.loop-fields.self-inside.records _ first, ← item) refl,
      rw left (omega (arith, fewer, bound)),
    )

pub returns-clause-item : goal.returns-clause-item
returns-clause-item c =
    let none = rw (c.in_ok-fields.was, c.in_default.is) at c.next_record.ensures.first in
    rw (← c.loop-fields.invariant.0, (none_taken (c.loop-fields.self-inside.number + 1) c.loop-fields.self-inside.records none).1) refl

pub returns-clause-left : goal.returns-clause-left
returns-clause-left c =
    let none = rw (c.in_ok-fields.was, c.in_default.is) at c.next_record.ensures.first in
    let left = rw c.in_ok-fields.was at c.next_record.ensures.left in
    let all = none_taken (c.loop-fields.self-inside.number + 1) c.loop-fields.self-inside.records none in
    ap (items_of (c.loop-fields.self-inside.number + 1)) (left ∙ ap (drop 1) all.0) ∙ rw (← c.loop-fields.invariant.0, all.1) (no_items (c.loop-fields.self-inside.number + 1))
