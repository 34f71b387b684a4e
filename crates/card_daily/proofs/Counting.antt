-- What was counted of an account's posts, by posts that stand for them.
use Rattle.std.proofs.Common.{◌≡◌, ℕ, ◌≤◌, List, sym, ap, ◌∙◌, subst}
use Rattle.card_events.specs.History.{CorrectedPost, anchor_of, corrected}
use Rattle.card_fees.specs.Tallied.{IsTallyOf, StaysRight}
use Rattle.card_fees.specs.declared.tally.Tally.{Tally}
use Rattle.card_posts.specs.Posted.{Posted, StandsFor}
use Rattle.card_daily.specs.Given.{Given, Tallies, posts_in}

pub list-is : (g : Given) (posts : Posted) → StandsFor g.shared.holidays posts → posts.history ≡ g.history → posts.corrected ≡ posts_in g
list-is g posts stands same = stands ∙ ap (λ h. corrected (anchor_of h) g.shared.holidays h) same

-- what is right of the account is right of its posts
pub of-posts : (g : Given) (posts : Posted) (last : ℕ) (t : Tally) → StandsFor g.shared.holidays posts → posts.history ≡ g.history → Tallies g last t → IsTallyOf posts.corrected last t
of-posts g posts last t stands same h = subst (λ (xs : List CorrectedPost). IsTallyOf xs last t) (sym (list-is g posts stands same)) h

-- and stays right of the account after a call that asks the posts
pub stays : (g : Given) (posts : Posted) (day last : ℕ) (old new : Tally) → StandsFor g.shared.holidays posts → posts.history ≡ g.history → StaysRight posts day old new → day ≤ last
    → Tallies g last old → Tallies g last new
stays g posts day last old new stands same right by h =
    subst (λ (xs : List CorrectedPost). IsTallyOf xs last new) (list-is g posts stands same) (right g.shared.holidays last stands by (of-posts g posts last old stands same h))
