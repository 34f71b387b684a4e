use Rattle.std.proofs.Common.{◌≡◌, ℕ, ◌+◌, ◌*◌, ◌^◌, ◌≤◌, ◌∙◌, arith, refl, subst, sym}
use Rattle.card_demo.specs.Summary.{all_entries}
use Rattle.card_demo.specs.Sums.{AreWithin, totals}
use Rattle.card_demo.specs.declared.totals.Totals.{Totals}
use Rattle.card_demo.proofs.SumLemmas.{account_added, accounts_none, none-within, wider}
use Rattle.card_model.specs.Machine.{State}
use Rattle.card_demo.proofs.ledger.MemoryLedger.totals.Goals as goal

pub loop-i-init : goal.loop-i-init
loop-i-init c = record {
  same = refl;
  sums = c.none-sums.ensures ∙ accounts_none c.args.self.now;
  within = subst (λ (t : Totals). AreWithin (0 * 2 ^ 95) t) (sym c.none-sums.ensures) (none-within (0 * 2 ^ 95));
}

pub with_account-requires : goal.with_account-requires
with_account-requires c =
    let low : c.loop-i.i * 2 ^ 95 ≤ 2 ^ 110 = omega (arith, c.loop-i-test.true, c.requires.accounts) in
    record { room = wider (c.loop-i.i * 2 ^ 95) (2 ^ 110) c.loop-i.sums low c.loop-i.invariant.within }

pub loop-i-preserved : goal.loop-i-preserved
loop-i-preserved c =
    let i = c.loop-i.i in
    let n : i * 2 ^ 95 + 2 ^ 95 ≡ (i + 1) * 2 ^ 95 = omega arith in
    let stays = c.in_ok-sums.ensures.same in
    let added = account_added c.loop-i.self i c.loop-i.sums c.in_ok-sums.sums c.loop-i.invariant.sums c.in_ok-sums.ensures.sums in
    record {
      same = stays ∙ c.loop-i.invariant.same;
      sums = subst (λ (s : State). c.in_ok-sums.sums ≡ totals (all_entries s (i + 1))) (sym stays) added;
      within = subst (λ (m : ℕ). AreWithin m c.in_ok-sums.sums) n (c.in_ok-sums.ensures.bound (i * 2 ^ 95) c.loop-i.invariant.within);
    }

pub returns-clause-totals : goal.returns-clause-totals
returns-clause-totals c =
    let all : c.loop-i.i ≡ c.args.accounts = omega arith in
    subst (λ (s : State). c.loop-i.sums ≡ totals (all_entries s c.args.accounts)) c.loop-i.invariant.same
    (subst (λ (n : ℕ). c.loop-i.sums ≡ totals (all_entries c.loop-i.self n)) all c.loop-i.invariant.sums)
