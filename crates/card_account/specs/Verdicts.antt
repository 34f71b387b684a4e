-- What a post comes to, before it is carried out.
use Rattle.std.specs.Prelude.{Bool, false}
use Rattle.card_account.specs.declared.verdict.Verdict.{Verdict}
use Rattle.card_account.specs.declared.verdict.Verdict.TheVariants as verdict
use Rattle.card_events.specs.declared.post.Post.{Post}
use Rattle.card_events.specs.declared.post.Post.TheVariants as post
use Rattle.card_model.specs.Machine.{Outcome, Refuses, Repeats, Accepts}
use Rattle.card_model.specs.Refusals.{is_no_amount}

-- a Refund of an amount that is out of its range
abbrev pub refunds_no_amount : Post → Bool
refunds_no_amount (post.Refund cents) = is_no_amount cents
refunds_no_amount _ = false

-- the verdict of an outcome
abbrev pub verdict_of : Outcome → Verdict
verdict_of (Refuses r) = verdict.Refused r
verdict_of (Repeats n) = verdict.Repeat n
verdict_of (Accepts new) = verdict.New
