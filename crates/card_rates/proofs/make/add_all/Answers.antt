use Rattle.std.proofs.Common.{◌≡◌, ◌+◌, ◌++◌, [], length, take, drop, append_assoc, sym, ap, subst, ◌∙◌, arith}
use Rattle.std.specs.List.{cons_option, filter_map}
use Rattle.card_events.specs.declared.kept.Kept.{Kept}
use Rattle.card_model.specs.Rates.{lowering_of}
use Rattle.card_posts.specs.Posted.{SetNoRates}
use Rattle.card_rates.proofs.Added.{add-next, few-next, lowered-next}
use Rattle.card_rates.proofs.Unrated.{added-all, lowered-all}
use Rattle.card_rates.proofs.make.add_all.Goals as goal

pub loop-i-preserved : goal.loop-i-preserved
loop-i-preserved c =
    let before = c.loop-i.segments.items in
    let after = c.add.new.segments.items in
    let history = c.args.posts.now.history in
    let i = c.loop-i.i in
    let k = c.post_of.result.now in
    let old = c.args.caps.now.items in
    let few = few-next before after history i k c.post_of.ensures c.in_ok-add.ensures.segments in
    record {
      segments = add-next before after history i k c.post_of.ensures c.in_ok-add.ensures.segments ∙ c.loop-i.invariant.segments;
      caps =
          c.in_ok-add.ensures.caps ∙ (ap (λ x. x ++ cons_option (lowering_of k.post) []) c.loop-i.invariant.caps
          ∙ (append_assoc old (filter_map (λ (x : Kept). lowering_of x.post) (take i history)) (cons_option (lowering_of k.post) [])
          ∙ ap (λ x. old ++ x) (sym (lowered-next history i k c.post_of.ensures))));
      few = omega (arith, few, c.loop-i.invariant.few);
    }

pub returns-clause-segments : goal.returns-clause-segments
returns-clause-segments c =
    let history = c.args.posts.now.history in
    let here = c.loop-i-test.false in
    let within = c.loop-i.auto.i-end in
    let last : c.rated-i-end.result ≡ c.loop-i.i = omega (arith, here, within) in
    let none = subst (λ n. SetNoRates (drop n history)) last c.rated-i-end.ensures.none in
    sym (added-all c.loop-i.segments.items history c.loop-i.i (c.loop-i.i + 1) (length c.loop-i.segments.items + 2) none) ∙ c.loop-i.invariant.segments

pub returns-clause-caps : goal.returns-clause-caps
returns-clause-caps c =
    let history = c.args.posts.now.history in
    let here = c.loop-i-test.false in
    let within = c.loop-i.auto.i-end in
    let last : c.rated-i-end.result ≡ c.loop-i.i = omega (arith, here, within) in
    let none = subst (λ n. SetNoRates (drop n history)) last c.rated-i-end.ensures.none in
    c.loop-i.invariant.caps ∙ ap (λ x. c.args.caps.now.items ++ x) (lowered-all c.loop-i.i history none)
