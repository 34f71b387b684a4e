use Rattle.std.proofs.Common.{◌≡◌, ◌-◌, ◌≤◌, arith, refl, ℕ, pos, w64, to_z}
use Rattle.std.proofs.lemmas.Int.{to_z_pos}
use Rattle.card_model.specs.Entries.{credit_in, debit}
use Rattle.card_model.proofs.Posted.{length-posted}
use Rattle.card_closing.proofs.Steps.{debited-same, in-step}
use Rattle.card_closing.proofs.turn.debit.Goals as goal

positive : (n m : ℕ) → n ≤ 10_000_000_000_000 - m → to_z w64 n ≡ pos n
positive n m h = to_z_pos w64 n (omega (arith, h))

pub returns-clause-entries : goal.returns-clause-entries
returns-clause-entries c =
    let e = rw (positive c.args.cents _ c.requires.high) at c.in_ok-debit.ensures.entries in
    rw e (debited-same c.args.note.now c.args.segments.now c.args.out.now.items c.args.id c.args.cents (omega (arith, c.requires.known)) c.requires.step)

pub returns-clause-kept : goal.returns-clause-kept
returns-clause-kept c =
    let e = rw (positive c.args.cents _ c.requires.high) at c.in_ok-debit.ensures.entries in
    let k = rw (positive c.args.cents _ c.requires.high) at c.in_ok-debit.ensures.ok in
    record {
      step = rw (e, k) (in-step c.args.note.now c.args.segments.now c.args.out.now.items c.args.id c.args.cents c.requires.segment c.requires.known c.requires.high c.requires.step);
      segments = rw k refl;
      balances = rw k (length-posted (debit c.args.note.now c.args.id c.args.cents (credit_in c.args.segments.now.balances)) c.args.segments.now.balances);
    }
