use Rattle.std.proofs.Common.{◌≡◌, ◌+◌, ◌++◌, drop, length-append, sym, subst, ◌∙◌, arith}
use Rattle.card_rates.specs.Segments.{kept_from}
use Rattle.card_posts.specs.Posted.{SetNoRates}
use Rattle.card_rates.proofs.SlotsAdded.{add-next, room}
use Rattle.card_rates.proofs.Unrated.{kept-all}
use Rattle.card_rates.proofs.segments.add_all.Goals as goal

pub add-requires-clause-few : goal.add-requires-clause-few
add-requires-clause-few c =
    let history = c.args.posts.now.history in
    let whole = c.args.segments.now.segments ++ kept_from 1 history in
    let long = length-append c.args.segments.now.segments (kept_from 1 history) in
    let few = c.requires.few in
    room c.loop-i.segments.segments whole history c.loop-i.i c.post_of.result.now c.post_of.ensures c.loop-i.invariant.segments (omega (arith, long, few))

pub loop-i-preserved : goal.loop-i-preserved
loop-i-preserved c =
    let history = c.args.posts.now.history in
    record {
      segments =
          add-next c.loop-i.segments.segments c.add.new.segments.segments (c.args.segments.now.segments ++ kept_from 1 history) history c.loop-i.i c.post_of.result.now c.post_of.ensures
          c.in_ok-add.ensures.segments c.loop-i.invariant.segments;
      unused = λ none. c.in_ok-add.ensures.unused (c.loop-i.invariant.unused none);
    }

pub returns-clause-segments : goal.returns-clause-segments
returns-clause-segments c =
    let history = c.args.posts.now.history in
    let here = c.loop-i-test.false in
    let within = c.loop-i.auto.i-end in
    let last : c.rated-i-end.result ≡ c.loop-i.i = omega (arith, here, within) in
    let none = subst (λ n. SetNoRates (drop n history)) last c.rated-i-end.ensures.none in
    sym (kept-all c.loop-i.segments.segments history c.loop-i.i (c.loop-i.i + 1) none) ∙ c.loop-i.invariant.segments
