-- What the fold sees on a day.
use Rattle.std.specs.Prelude.{ℕ, nat_le, List}
use Rattle.std.specs.List.{filter}
use Rattle.card_events.specs.History.{CorrectedPost, is_folded}

-- of the corrected list the fold of a day sees the posts that it folds, up to that day
abbrev pub seen_of : ℕ → List CorrectedPost → List CorrectedPost
seen_of day posts = filter (λ p. nat_le p.day day) (filter (λ p. is_folded p.post) posts)
