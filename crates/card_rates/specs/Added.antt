-- The segments that posts add, one post after the other.
use Rattle.std.specs.Prelude.{ℕ, suc, List, [], ◌∷◌}
use Rattle.std.specs.List.{cons_option}
use Rattle.card_events.specs.History.{next_segment}
use Rattle.card_events.specs.declared.kept.Kept.{Kept}
use Rattle.card_model.specs.Segments.{SegmentTerms, segment_of}

-- the segments that these posts add, the first of which is post n, where the first segment has this number
unfoldable pub added_from : ℕ → ℕ → List Kept → List SegmentTerms
added_from n segment [] = []
added_from n segment (k ∷ ks) = cons_option (segment_of segment n k.post) (added_from (suc n) (next_segment segment k.post) ks)
