use Rattle.std.proofs.Common.{arith, refl}
use Rattle.card_commands.specs.Feed.{new_run}
use Rattle.card_commands.proofs.FeedLemmas.{ran_start, ran_more, ran_fell}
use Rattle.card_commands.proofs.EndLemmas.{endless_run, endless_cause, fell_end, fell_end_cause, ended_run, ended_cause}
use Rattle.card_commands.proofs.run.run.Goals as goal

pub loop-total-init : goal.loop-total-init
loop-total-init g c = record {
  ran = ran_start _ (new_run c.args.progress.now.ledger) c.args.progress.now c.requires.new c.requires.fits;
  limit = omega arith;
}

pub loop-total-preserved : goal.loop-total-preserved
loop-total-preserved g c = record {
  ran = ran_more _ _ _ _ _ _ _ _ c.loop-total.invariant.ran c.in-Ok.ensures.ok;
  limit = omega (arith, c.loop-total.invariant.limit, c.in-Ok.ensures.within, c.min-room.ensures);
}

pub returns-in-Err-clause-ran : goal.returns-in-Err-clause-ran
returns-in-Err-clause-ran g c = fell_end _ _ c.args.progress.now.ledger _ c.in-Err.stop _ c.ended_by.ensures (ran_fell _ _ _ _ _ _ _ c.loop-total.invariant.ran c.in-Err.ensures.err)

pub returns-in-Err-clause-cause : goal.returns-in-Err-clause-cause
returns-in-Err-clause-cause g c = fell_end_cause _ _ c.args.progress.now.ledger c.in-Err.stop _ c.ended_by.ensures (ran_fell _ _ _ _ _ _ _ c.loop-total.invariant.ran c.in-Err.ensures.err)

pub returns-then-n-eq0-clause-ran : goal.returns-then-n-eq0-clause-ran
returns-then-n-eq0-clause-ran g c =
    let ran = ran_more _ _ _ _ _ _ _ _ c.loop-total.invariant.ran c.in-Ok.ensures.ok in
    ended_run _ _ _ c.args.progress.now.ledger _ _ _ c.finish.result _ c.ended_of.ensures ran (record { left = refl; count = refl }) (c.in-Ok.ensures.end c.if-n-eq0.true) c.finish.ensures.ok c.finish.ensures.err

pub returns-then-n-eq0-clause-cause : goal.returns-then-n-eq0-clause-cause
returns-then-n-eq0-clause-cause g c =
    let ran = ran_more _ _ _ _ _ _ _ _ c.loop-total.invariant.ran c.in-Ok.ensures.ok in
    ended_cause _ _ _ c.args.progress.now.ledger _ _ _ c.finish.result _ c.ended_of.ensures ran (record { left = refl; count = refl }) c.finish.ensures.ok c.finish.ensures.err

pub returns-clause-ran : goal.returns-clause-ran
returns-clause-ran g c = endless_run _ _ c.args.progress.now.ledger _ _ c.loop-total.invariant.ran (omega (arith, c.loop-total.invariant.limit))

pub returns-clause-cause : goal.returns-clause-cause
returns-clause-cause g c = endless_cause _ _ c.args.progress.now.ledger _ _ c.loop-total.invariant.ran
