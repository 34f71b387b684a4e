use Rattle.std.proofs.Common.{◌≡◌, ◌∙◌, [], ◌∷◌, Some, drop, refl, sym, ap, subst}
use Rattle.csv.specs.Records.{fields_of}
use Rattle.card_text.specs.Reading.{IsReading, records_left, records_of}
use Rattle.card_text.proofs.RecordLemmas.{read_on, read_end}
use Rattle.card_text.proofs.reading.RecordReader.next_record.Goals as goal

-- what was left, where a record was read
abbrev first : (c : goal.Joined-self) → IsReading c.read_byte_record.new.self × (c.args.self.now ≡ fields_of c.read_byte_record.new.row ∷ records_left c.read_byte_record.new.self)
first c =
    let same : c.self.inside.reader ≡ Some c.in-Some.reader = sym c.take.ensures.value ∙ c.in-Some.is in
    let reads = subst IsReading (sym c.deref_mut.ensures.value) (rw same at c.self.invariant) in
    let read = (rw (c.in-Ok-true.is, c.in-Ok-true.field-0-test) at c.read_byte_record.ensures.reads) reads.trim reads.ready in
    let took = (rw c.in-Ok-true.is at c.read_byte_record.ensures.ready) reads.trim in
    let flexible = rw c.in-Ok-true.is at c.read_byte_record.ensures.flexible in
    let on = read_on c.deref_mut.result.now c.read_byte_record.new.self (fields_of c.read_byte_record.new.row) reads read took flexible in
    (on.0, sym c.self.view_is ∙ ap records_of same ∙ ap records_left (sym c.deref_mut.ensures.value) ∙ on.1)

-- and where none was
abbrev none : (c : goal.After-drop-reader) → c.args.self.now ≡ []
none c =
    let same : c.self.inside.reader ≡ Some c.in-Some.reader = sym c.take.ensures.value ∙ c.in-Some.is in
    let reads = subst IsReading (sym c.deref_mut.ensures.value) (rw same at c.self.invariant) in
    let read = (rw (c.in-Ok-false.is, c.in-Ok-false.field-0-test) at c.read_byte_record.ensures.reads) reads.trim reads.ready in
    let end = read_end c.deref_mut.result.now c.read_byte_record.new.self (fields_of c.read_byte_record.new.row) reads read in
    sym c.self.view_is ∙ ap records_of same ∙ ap records_left (sym c.deref_mut.ensures.value) ∙ end

pub invariant_of-self-in-Ok-true : goal.invariant_of-self-in-Ok-true
invariant_of-self-in-Ok-true c = (first c).0

pub returns-in-Ok-true-clause-first : goal.returns-in-Ok-true-clause-first
returns-in-Ok-true-clause-first c = rw (first c).1 refl

pub returns-in-Ok-true-clause-left : goal.returns-in-Ok-true-clause-left
returns-in-Ok-true-clause-left c = ap (drop 1) (sym (first c).1)

pub returns-in-Ok-false-clause-first : goal.returns-in-Ok-false-clause-first
returns-in-Ok-false-clause-first c = rw (none c) refl

pub returns-in-Ok-false-clause-left : goal.returns-in-Ok-false-clause-left
returns-in-Ok-false-clause-left c = ap records_of c.take.ensures.after ∙ ap (drop 1) (sym (none c))
