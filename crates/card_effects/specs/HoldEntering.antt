-- What the calls that enter a Dispute or a Resolve leave standing.
use Rattle.std.specs.Prelude.{List}
use Rattle.card_effects.specs.Entering.{EntersAt}
use Rattle.card_events.specs.SharedRows.{SharedRows}
use Rattle.card_events.specs.declared.kept.Slot.{Slot}
use Rattle.card_events.specs.declared.post.Post.{Post}
use Rattle.card_model.specs.Books.{account_of}
use Rattle.card_model.specs.Cycles.{IssuedRow}
use Rattle.card_model.specs.declared.entry.Entry.{Entry}
use Rattle.card_posts.specs.Posted.{Posted, StandsFor}
use Rattle.card_rates.specs.Laws.{seen_in}
use Rattle.card_rates.specs.RateBooks.{Rates}
use Rattle.card_segments.specs.Balances.{Balances}

-- the slot's post is entered in each book of its day of the account with these posts
abbrev pub EntersOf : Posted → Post → Slot → Rates → Balances → List Entry → Balances → List Entry → Type 0
EntersOf posts k slot rated old entries new after =
    (issued : List IssuedRow) (shared : SharedRows) → StandsFor shared.holidays posts
    → EntersAt (account_of posts.history) (seen_in posts.history issued shared slot.day) k slot rated old entries new after
