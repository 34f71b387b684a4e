use Rattle.std.proofs.Common.{◌≡◌, ℕ, ◌+◌, ◌*◌, ◌^◌, ◌<◌, ◌≤◌, List, length, arith, rules, ap, ◌∙◌, subst}
use Rattle.std.proofs.lemmas.List.{take_all}
use Rattle.card_demo.specs.Sums.{AreWithin, with_entries}
use Rattle.card_demo.proofs.SumLemmas.{wider, with-more, with-none}
use Rattle.card_model.specs.declared.entry.Entry.{Entry}
use Rattle.card_demo.proofs.totals.with_entries.Goals as goal

pub loop-i-init : goal.loop-i-init
loop-i-init c = record {
  sums = with-none c.args.entries.now c.args.sums.now;
  within = λ n h. wider n (n + 0 * 2 ^ 63) c.args.sums.now (omega arith) h;
}

pub with_entry-all-requires : goal.with_entry-all-requires
with_entry-all-requires c =
    let low : 2 ^ 110 + c.loop-i.i * 2 ^ 63 ≤ 2 ^ 120 = omega (arith, c.loop-i-test.true, c.requires.few) in
    record { room = wider (2 ^ 110 + c.loop-i.i * 2 ^ 63) (2 ^ 120) c.loop-i.all low (c.loop-i.invariant.within (2 ^ 110) c.requires.room) }

pub loop-i-preserved : goal.loop-i-preserved
loop-i-preserved c =
    let es = c.args.entries.now in
    let i = c.loop-i.i in
    let below : i < length es = search rules in
    record {
      sums = c.with_entry-all.ensures.sums ∙ with-more es i c.index-entries-i.result c.args.sums.now c.loop-i.all below c.index-entries-i.is c.loop-i.invariant.sums;
      within = λ n h. subst (λ (m : ℕ). AreWithin m c.with_entry-all.result) (more n i) (c.with_entry-all.ensures.bound (n + i * 2 ^ 63) (c.loop-i.invariant.within n h));
    }
  where
    more : (n i : ℕ) → n + i * 2 ^ 63 + 2 ^ 63 ≡ n + (i + 1) * 2 ^ 63
    more n i = omega arith

pub returns : goal.returns
returns c =
    let es = c.args.entries.now in
    let past : length es ≤ c.loop-i.i = search rules in
    record {
      sums = c.loop-i.invariant.sums ∙ ap (λ (l : List Entry). with_entries l c.args.sums.now) (take_all c.loop-i.i es past);
      bound = λ n h. wider (n + c.loop-i.i * 2 ^ 63) (n + 2 ^ 95) c.loop-i.all (omega (arith, c.loop-i.auto.i-end, c.requires.few)) (c.loop-i.invariant.within n h);
    }
