use Rattle.std.proofs.Common.{◌≡◌, [], ◌∷◌, length, ◌<◌, ◌^◌, ◌-ℤ◌, refl, ◌∙◌, arith, rules, w64, to_z, of_z, FitsSigned}
use Rattle.std.proofs.lemmas.Int.{to_z-of_z}
use Rattle.card_model.specs.Entries.{balance}
use Rattle.card_segments.proofs.SumsBack.{fits-wide, sum-more, within-more}
use Rattle.card_segments.proofs.before.one_before.Goals as goal
use mir.Syntax.{w128}

pub loop-entry-preserved : goal.loop-entry-preserved
loop-entry-preserved c =
    let es = c.args.entries.now in
    let i = c.loop-entry.entry-index in
    let e = c.entry-item.result in
    let s = to_z w128 c.loop-entry.sum-bits in
    let wide = c.from-sum-in-loop-entry.result in
    let m = to_z w128 (of_z w128 wide) in
    let few : FitsSigned w64 c.moved_on.result = record { sfits = c.moved_on.type_inv } in
    let same : m ≡ c.moved_on.result = to_z-of_z w128 wide (record { sfits = c.from-sum-in-loop-entry.type_inv }) ∙ (c.from-sum-in-loop-entry.ensures ∙ to_z-of_z w64 c.moved_on.result few) in
    let moved : m ≡ balance c.args.id (e ∷ []) = same ∙ c.moved_on.ensures in
    let top : length es < 2 ^ 63 = search rules in
    let more = within-more i s m c.moved_on.result (s -ℤ m) c.loop-entry.invariant.within few same refl in
    let is = to_z-of_z w128 (s -ℤ m) (fits-wide i (s -ℤ m) (omega (arith, top, c.loop-entry-test.true)) more) in
    record {
      sum = sum-more (to_z w64 (of_z w64 c.args.after)) c.args.id es i e s m _ c.loop-entry-test.true c.entry-item.is c.loop-entry.invariant.sum moved is;
      within = within-more i s m c.moved_on.result _ c.loop-entry.invariant.within few same is;
    }
