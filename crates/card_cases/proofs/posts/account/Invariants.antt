use Rattle.card_posts.specs.Posted.{StandsFor}
use Rattle.card_cases.proofs.posts.account.Given as goal

abbrev pub invariant-loop-line : goal.invariant-loop-line
invariant-loop-line g l = StandsFor l.calendar l.posts
