use Rattle.std.proofs.Common.{◌≡◌, ◌+◌, ◌-◌, ◌≤◌, drop, false, length, sym, ap, ◌∙◌, arith}
use Rattle.std.specs.List.{list_any}
use Rattle.card_disputes.proofs.EndLemmas.{last-here, last-none, none-from}
use Rattle.card_disputes.proofs.Scans.{any-ends}
use Rattle.card_disputes.specs.Ends.{ends}
use Rattle.card_events.specs.declared.kept.Kept.{Kept}
use Rattle.card_disputes.proofs.end.last_end.Goals as goal

pub loop-i-init : goal.loop-i-init
loop-i-init c =
    let past : length c.args.posts.now.history ≤ c.len-i.result = omega (arith, c.len-i.ensures.value) in
    any-ends (λ (k : Kept). ends c.args.end k.post) c.len-i.result c.args.posts.now.history past

pub returns-then-ends_at : goal.returns-then-ends_at
returns-then-ends_at c =
    let q = λ (k : Kept). ends c.args.end k.post in
    let history = c.args.posts.now.history in
    let next : c.loop-i.i ≡ c.loop-i.i - 1 + 1 = omega (arith, c.loop-i-test.true) in
    last-here q (c.loop-i.i - 1) history (sym c.ends_at.ensures ∙ c.if-ends_at.true) (ap (λ m. list_any q (drop m history)) (sym next) ∙ c.loop-i.invariant)

pub loop-i-preserved : goal.loop-i-preserved
loop-i-preserved c =
    let q = λ (k : Kept). ends c.args.end k.post in
    let history = c.args.posts.now.history in
    let next : c.loop-i.i ≡ c.loop-i.i - 1 + 1 = omega (arith, c.loop-i-test.true) in
    none-from q (c.loop-i.i - 1) history (sym c.ends_at.ensures ∙ c.if-ends_at.false) (ap (λ m. list_any q (drop m history)) (sym next) ∙ c.loop-i.invariant)

pub returns : goal.returns
returns c =
    let q = λ (k : Kept). ends c.args.end k.post in
    let history = c.args.posts.now.history in
    let zero : c.loop-i.i ≡ 0 = omega (arith, c.loop-i-test.false) in
    last-none q history (ap (λ m. list_any q (drop m history)) (sym zero) ∙ c.loop-i.invariant)
