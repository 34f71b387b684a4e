use Rattle.std.proofs.Common.{◌≡◌, drop, length, min, sym, ap, subst, ◌∙◌}
use Rattle.card_posts.specs.Posted.{Posted, SetNoRates}
use Rattle.card_posts.proofs.Unrated.{none-within}
use Rattle.card_posts.proofs.posts.Posts.rated.Goals as goal

pub returns-clause-none : goal.returns-clause-none
returns-clause-none c =
    let history = c.self.inside.history.items in
    let least : c.min.result ≡ min c.self.inside.rated (length history) = c.min.ensures ∙ ap (min c.self.inside.rated) (c.len.ensures ∙ c.self.inside.history.ok.0) in
    subst (λ ks. SetNoRates (drop c.min.result ks)) (ap (λ (p : Posted). p.history) c.self.view_is)
    (subst (λ n. SetNoRates (drop n history)) (sym least) (none-within c.self.inside.rated history c.self.invariant.5))
