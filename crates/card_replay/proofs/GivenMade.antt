-- What the fold is given, by the rows that are made: all that were issued, where none is owed.
use Rattle.std.proofs.Common.{◌≡◌, List, ap, ◌∙◌}
use Rattle.card_events.specs.SharedRows.{SharedRows}
use Rattle.card_events.specs.declared.kept.Kept.{Kept}
use Rattle.card_model.specs.Cycles.{IssuedRow}
use Rattle.card_replay.proofs.Committing.{given_with}
use Rattle.card_replay.proofs.Settled.{IsSettledOn}
use Rattle.card_replay.specs.Replays.{Replay, given_of}
use Rattle.card_replay.specs.Waiting.{given_by}

pub given-by-made : (shared : SharedRows) (r : Replay) (posts : List Kept) (made rows : List IssuedRow) → posts ≡ r.lists.posts → rows ≡ made → made ≡ r.late.made → given_with posts rows shared ≡ given_by r.lists.posts r.late.made shared
given-by-made shared r posts made rows same is there = ap (λ (hs : List Kept). given_with hs rows shared) same ∙ ap (λ (xs : List IssuedRow). given_with r.lists.posts xs shared) (is ∙ there)

pub given-made : (shared : SharedRows) (r : Replay) (posts : List Kept) (made rows : List IssuedRow) → posts ≡ r.lists.posts → rows ≡ made → made ≡ r.late.made → IsSettledOn r.lists r.late → given_with posts rows shared ≡ given_of r.lists shared
given-made shared r posts made rows same is there settled = given-by-made shared r posts made rows same is there ∙ ap (λ (xs : List IssuedRow). given_with r.lists.posts xs shared) settled.made
