use Rattle.std.proofs.Common.{List, refl, sym, subst}
use Rattle.card_effects.specs.Standing.{IsSlotOf, StandsAt}
use Rattle.card_events.specs.declared.kept.Kept.{Kept}
use Rattle.card_events.specs.declared.post.Post.TheVariants as post
use Rattle.card_effects.specs.Accounts.{AreOf}
use Rattle.card_model.specs.Books.{account_of}
use Rattle.card_model.specs.Effects.{effect}
use Rattle.card_rates.specs.Laws.{seen_in}
use Rattle.card_daily.proofs.Holding.{resolve-stand, same-history}
use Rattle.card_daily.proofs.Posting.{on-ok}
use Rattle.card_daily.specs.Given as given
use Rattle.card_daily.proofs.holds.enter_resolve.Goals as goal

pub resolve-requires-clause-account : goal.resolve-requires-clause-account
resolve-requires-clause-account c = subst (λ (h : List Kept). AreOf h c.args.state.now.segments.segments c.args.state.now.rates) (sym c.posts.ensures.history) c.requires.account

pub returns-clause-stands : goal.returns-clause-stands
returns-clause-stands c =
    on-ok c.resolve.result _ _ c.resolve.ensures.stands
    (λ did on cents issued first returned rows_by p b is h.
    let g = c.args.inputs.now in
    let day = c.args.slot.now.day in
    let s = c.args.state.now in
    let at = same-history c.posts.result.now.history g.history
    (λ (k : List Kept). StandsAt (account_of k) (seen_in k g.issued g.shared day) b s.rates s.segments.balances c.args.track.now.entries.items → IsSlotOf (seen_in k g.issued g.shared day) p c.args.slot.now
    → StandsAt (account_of k) (seen_in k g.issued g.shared day) (effect issued (account_of k) (seen_in k g.issued g.shared day) p (post.Resolve on c.args.target cents) b) s.rates c.resolve.new.segments.balances c.resolve.new.out.items)
    c.posts.ensures.history (λ at is. did on cents g.issued g.shared c.posts.ensures.stands issued p b at is) in
    resolve-stand issued (given.account_in g) (given.seen_in g day) first returned rows_by p b on c.args.target cents s _ c.args.track.now _ h (at h.at is) refl refl refl)
