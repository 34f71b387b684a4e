use Rattle.std.proofs.Common.{◌≡◌, ◌-◌, ◌<◌, ℕ, length, get_or, ap, ◌∙◌, arith, Option}
use Rattle.std.proofs.lemmas.List.Elements.{Contains-get_or}
use Rattle.card_segments.specs.declared.rank.Rank.{Rank}
use Rattle.card_model.specs.Effects.{end_by}
use Rattle.card_effects.proofs.Places.{how-many, kept-at, number-at}
use Rattle.card_effects.proofs.ranks.rank.Goals as goal

pub returns : goal.returns
returns c d =
    let gs = c.args.rates.now.segments in
    let segs = c.args.segments.now.segments in
    let id = c.args.id in
    let n = how-many segs gs c.requires.rated.kept in
    let l : id - 2 < length gs = omega (arith, n, c.requires.low, c.requires.known) in
    let g = get_or gs (id - 2) d in
    let number : g.id ≡ id = number-at 2 gs (id - 2) d c.requires.rated.numbers l ∙ omega (arith, c.requires.low) in
    let rate = c.get.ensures.value ∙ c.rate_on-rate.ensures.rate g (Contains-get_or gs (id - 2) d l) number in
    let last = c.end_by.ensures ∙ ap (end_by c.args.until c.args.day) (kept-at segs gs id d c.get-segment.result.now c.requires.rated.kept c.requires.low c.requires.known (c.get-segment.ensures c.get-segment.result.now)) in
    ranks-same rate last
  where
    the_rank : ℕ → Option ℕ → Rank
    the_rank r e = record { rate = r; last_two = e }

    ranks-same : {r q : ℕ} {e f : Option ℕ} → r ≡ q → e ≡ f → the_rank r e ≡ the_rank q f
    ranks-same {r} {q} {e} {f} a b = ap (λ (x : ℕ). the_rank x e) a ∙ ap (λ (y : Option ℕ). the_rank q y) b
