use Rattle.std.proofs.Common.{◌≡◌, ℕ, List, [], length, take, arith, ap, ◌∙◌}
use Rattle.std.specs.Option.{option_or}
use Rattle.card_events.specs.Keys.{with_key}
use Rattle.card_keys.specs.Buckets.{bucket}
use Rattle.card_keys.proofs.KeyLemmas.{earlier-length, walk-starts, walk-on, walk-ends}
use Rattle.card_keys.proofs.index.find.Goals as goal

pub loop-number-init : goal.loop-number-init
loop-number-init c = walk-starts c.args.history.now c.args.index.now c.bytes-key.result.now c.last-number.result c.bucket_of.result c.requires c.bucket_of.ensures.bucket c.bucket_of.ensures.within (c.last-number.ensures 0)

pub before-number-requires-clause-high : goal.before-number-requires-clause-high
before-number-requires-clause-high c =
    let long : length c.args.index.now.earlier ≡ length c.args.history.now = ap (λ (xs : List ℕ). length xs) c.requires.earlier ∙ earlier-length (bucket c.requires.size) [] c.args.history.now in
    omega (arith, long, c.loop-number.invariant.0.within)

pub loop-number-smaller : goal.loop-number-smaller
loop-number-smaller c =
    (walk-on c.args.history.now c.args.index.now c.bytes-key.result.now c.loop-number.number c.before-number.result c.loop-number.found c.requires (omega (arith, c.loop-number-test.true)) c.loop-number.invariant.0
    (c.before-number.ensures 0) c.loop-number.invariant.1).2

pub loop-number-preserved : goal.loop-number-preserved
loop-number-preserved c =
    let on = walk-on c.args.history.now c.args.index.now c.bytes-key.result.now c.loop-number.number c.before-number.result c.loop-number.found c.requires (omega (arith, c.loop-number-test.true)) c.loop-number.invariant.0 (c.before-number.ensures 0) c.loop-number.invariant.1 in
    (on.0, ap (option_or (with_key c.bytes-key.result.now (take c.before-number.result c.args.history.now))) c.found_at-found.ensures ∙ on.1)

pub returns : goal.returns
returns c = walk-ends c.args.history.now c.bytes-key.result.now c.loop-number.number c.loop-number.found (omega (arith, c.loop-number-test.false)) c.loop-number.invariant.1 ∙ ap (λ (b : List ℕ). with_key b c.args.history.now) c.bytes-key.ensures.value
