use Rattle.std.proofs.Common.{◌≡◌, ◌≤◌, ◌∙◌, sym, subst, length}
use Rattle.card_model.specs.Entries.{at_least_zero}
use Rattle.card_segments.specs.Parts.{AreParts}
use Rattle.card_effects.specs.Places.{numbers_of}
use Rattle.card_effects.specs.Ranks.{ranks_on}
use Rattle.card_effects.proofs.SoleHolder.{ranked-credit, ranks-all, sole-credit, sole-found}
use Rattle.card_effects.proofs.Standing.{handed}
use Rattle.card_effects.proofs.payments.credit_parts.Goals as goal

pub returns-in-Some-clause-parts : goal.returns-in-Some-clause-parts
returns-in-Some-clause-parts c =
    let bs = c.args.segments.now.balances in
    let all = ranks-all c.args.index.now c.args.rates.now c.args.following_closing c.args.slot.now.day (length bs) c.args.segments.now.segments c.requires.asked.rated (sym c.len-count.ensures.segments ∙ c.len-count.ensures.balances) (subst (λ n. 5 ≤ n) c.len-count.ensures.balances c.len-count.ensures.five) in
    sole-credit bs (ranks_on c.args.index.now c.args.rates.now c.args.following_closing c.args.slot.now.day) (numbers_of c.args.place.now c.args.rates.now.segments) c.args.slot.now.cents c.in-Some.parts c.requires.asked.amount c.requires.asked.limit all (sole-found bs _ c.in_ok-parts.field-0 c.in-Some.parts c.in-Some.is c.in_ok-parts.ensures.parts)

pub returns-in_ok-parts-in-None-clause-parts : goal.returns-in_ok-parts-in-None-clause-parts
returns-in_ok-parts-in-None-clause-parts c =
    ranked-credit c.args.segments.now.balances c.deref.result.now (ranks_on c.args.index.now c.args.rates.now c.args.following_closing c.args.slot.now.day) c.deref-in-None.result.now (numbers_of c.args.place.now c.args.rates.now.segments) c.args.slot.now.cents c.in_ok-parts-in-None.parts
    c.requires.asked.amount c.requires.asked.limit (c.deref.ensures ∙ c.in_ok-ranks-in-None.ensures.items)
    (c.deref-in-None.ensures.value ∙ c.in_ok-first-in-None.ensures c.args.rates.now.segments c.requires.asked.rated.numbers c.requires.asked.rated.kept) c.in_ok-parts-in-None.ensures.parts

pub returns-in-Some-clause-whole : goal.returns-in-Some-clause-whole
returns-in-Some-clause-whole c =
    subst (λ n. AreParts c.args.segments.now.balances n c.in-Some.parts) (handed c.args.slot.now.cents c.requires.asked.amount c.requires.asked.limit) (sole-found c.args.segments.now.balances _ c.in_ok-parts.field-0 c.in-Some.parts c.in-Some.is c.in_ok-parts.ensures.parts).whole

pub returns-in_ok-parts-in-None-clause-whole : goal.returns-in_ok-parts-in-None-clause-whole
returns-in_ok-parts-in-None-clause-whole c =
    subst (λ n. AreParts c.args.segments.now.balances n c.in_ok-parts-in-None.parts) (handed c.args.slot.now.cents c.requires.asked.amount c.requires.asked.limit) c.in_ok-parts-in-None.ensures.whole

pub returns-in-Some-clause-all : goal.returns-in-Some-clause-all
returns-in-Some-clause-all c =
    ranks-all c.args.index.now c.args.rates.now c.args.following_closing c.args.slot.now.day (length c.args.segments.now.balances) c.args.segments.now.segments c.requires.asked.rated (sym c.len-count.ensures.segments ∙ c.len-count.ensures.balances) (subst (λ n. 5 ≤ n) c.len-count.ensures.balances c.len-count.ensures.five)

pub returns-in_ok-parts-in-None-clause-all : goal.returns-in_ok-parts-in-None-clause-all
returns-in_ok-parts-in-None-clause-all c =
    ranks-all c.args.index.now c.args.rates.now c.args.following_closing c.args.slot.now.day (length c.args.segments.now.balances) c.args.segments.now.segments c.requires.asked.rated (sym c.len-count.ensures.segments ∙ c.len-count.ensures.balances) (subst (λ n. 5 ≤ n) c.len-count.ensures.balances c.len-count.ensures.five)
