-- The rank of each segment on a day, for what payments and credits reach.
use Rattle.std.specs.Prelude.{ℕ, map, List, ◌∷◌, None}
use Rattle.card_events.specs.SharedRows.{IndexRow}
use Rattle.card_segments.specs.declared.rank.Rank.{Rank}
use Rattle.card_model.specs.Effects.{end_by}
use Rattle.card_model.specs.Segments.{SegmentTerms, kept_segment}
use Rattle.card_rates.specs.RateBooks.{Rates, rate_of}

-- a segment's rate of the day under these rows of the index, and its end where that is so soon
abbrev pub rank_on : List IndexRow → Rates → ℕ → ℕ → SegmentTerms → Rank
rank_on rows rated until day g = record { rate = rate_of rows rated day g; last_two = end_by until day (kept_segment g) }

-- Credit and Held have none
abbrev pub no_rank : Rank
no_rank = record { rate = 0; last_two = None }

-- all ranks, by number
abbrev pub ranks_on : List IndexRow → Rates → ℕ → ℕ → List Rank
ranks_on rows rated until day = no_rank ∷ no_rank ∷ map (rank_on rows rated until day) rated.segments
