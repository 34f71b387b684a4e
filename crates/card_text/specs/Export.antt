-- The entries of an account as CSV: a header, and a record an entry, in their order.
use Rattle.std.specs.Prelude.{List, [], ◌∷◌, ◌++◌, ℕ, slice_index_or, codes}
use Rattle.std.specs.Fmt.{decimal, signed_decimal}
use Rattle.std.specs.List.{flat_map}
use Rattle.csv.specs.Writing.{default_writer, row_text}
use Rattle.card_events.specs.Civil.{day_text}
use Rattle.card_model.specs.Segments.{unbilled}
use Rattle.card_model.specs.declared.entry.Entry.{Entry}
use Rattle.card_model.specs.declared.entry.EntryKind.{EntryKind}
use Rattle.card_model.specs.declared.entry.EntryKind.TheVariants as kind
use Rattle.card_model.specs.declared.segment.Segment.{Segment}
use Rattle.card_model.specs.declared.segment.Sort.{Sort}
use Rattle.card_model.specs.declared.segment.Sort.TheVariants as sort

-- the name of the segment of a sort with a number
abbrev pub segment_name : Sort → ℕ → List ℕ
segment_name sort.Credit n = codes "credit"
segment_name sort.Held n = codes "held"
segment_name sort.Purchase n = codes "purchase:" ++ decimal n
segment_name sort.Cash n = codes "cash:" ++ decimal n
segment_name sort.Transfer n = codes "transfer:" ++ decimal n
segment_name sort.Promo n = codes "promo:" ++ decimal n
segment_name sort.Deferred n = codes "deferred:" ++ decimal n

-- why an entry stands, in a word
abbrev pub kind_word : EntryKind → List ℕ
kind_word kind.Charge = codes "charge"
kind_word kind.Credit = codes "credit"
kind_word kind.Payment = codes "payment"
kind_word kind.Return = codes "return"
kind_word kind.Refund = codes "refund"
kind_word kind.Fee = codes "fee"
kind_word kind.Interest = codes "interest"
kind_word kind.Hold = codes "hold"

-- the columns
abbrev pub columns : List (List ℕ)
columns = codes "day" ∷ codes "segment" ∷ codes "kind" ∷ codes "post" ∷ codes "cents" ∷ []

-- the fields of an entry on a segment of a sort; cents are signed, and a plus raises what is owed
abbrev pub entry_fields : Sort → Entry → List (List ℕ)
entry_fields s e = day_text e.day ∷ segment_name s e.segment ∷ kind_word e.kind ∷ decimal e.post ∷ signed_decimal e.cents ∷ []

-- the sort of the segment with a number
abbrev pub sort_at : List Segment → ℕ → Sort
sort_at segments n = (slice_index_or segments n (unbilled sort.Credit 0)).sort

-- the record of an entry, as CSV is written: LF behind it, and quotes where a field needs them
unfoldable pub entry_row : List Segment → Entry → List ℕ
entry_row segments e = row_text default_writer (entry_fields (sort_at segments e.segment) e)

-- the header, and a record an entry
unfoldable pub export_text : List Entry → List Segment → List ℕ
export_text entries segments = row_text default_writer columns ++ flat_map (entry_row segments) entries
