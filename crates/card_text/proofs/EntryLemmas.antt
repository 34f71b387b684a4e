-- The header is text; the records of one more entry.
use Rattle.std.proofs.Common.{◌≡◌, ℕ, ◌+◌, ◌<◌, List, [], ◌∷◌, ◌++◌, length, get_or, take, flat_map, All, refl, sym, subst, ◌∙◌, ap, append-nil}
use Rattle.std.specs.Str.{IsUtf8, is_utf8, chars}
use Rattle.std.proofs.lemmas.List.{get_or_default, take_more}
use Rattle.std.proofs.lemmas.List.Concat.{flat_map-append}
use Rattle.std.proofs.lemmas.Str.{IsUtf8-from_is_utf8}
use lib.Utf8.{encode}
use Rattle.csv.specs.Writing.{default_writer, fields_text, is_blank, row_text}
use Rattle.card_model.specs.Segments.{unbilled}
use Rattle.card_model.specs.declared.entry.Entry.{Entry}
use Rattle.card_model.specs.declared.segment.Segment.{Segment}
use Rattle.card_model.specs.declared.segment.Sort.TheVariants as sort
use Rattle.card_text.specs.Export.{columns, entry_fields, entry_row}

pub columns_are_text : IsUtf8 (row_text default_writer columns)
unfolding is_utf8 chars encode fields_text is_blank
columns_are_text = IsUtf8-from_is_utf8 _ refl

-- the record of an entry on its segment, as that is read
row_of : (segments : List Segment) (e : Entry) (g : Segment) → e.segment < length segments
    → row_text default_writer (entry_fields (get_or segments e.segment g).sort e) ≡ entry_row segments e
unfolding entry_row
row_of segments e g below = ap (λ (x : Segment). row_text default_writer (entry_fields x.sort e)) (get_or_default segments e.segment g (unbilled sort.Credit 0) below)

pub rows_more : (segments : List Segment) (entries : List Entry) (i : ℕ) (e : Entry) (g : Segment) → All (λ x. x.segment < length segments) entries
    → i < length entries → e ≡ get_or entries i e
    → flat_map (entry_row segments) (take i entries) ++ row_text default_writer (entry_fields (get_or segments e.segment g).sort e)
    ≡ flat_map (entry_row segments) (take (i + 1) entries)
rows_more segments entries i e g all here is =
    let below = subst (λ (x : Entry). x.segment < length segments) (sym is) (all i e here) in
    ap (λ l. flat_map (entry_row segments) (take i entries) ++ l)
    (row_of segments e g below ∙ ap (λ (x : Entry). entry_row segments x) is ∙ sym (append-nil _))
    ∙ sym (flat_map-append (entry_row segments) (take i entries) (get_or entries i e ∷ []))
    ∙ sym (ap (λ l. flat_map (entry_row segments) l) (take_more entries i e here))
