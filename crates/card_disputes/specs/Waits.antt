-- What a post that waits does to the one for which it waits.
use Rattle.std.specs.Prelude.{ℕ, Bool}
use Rattle.card_disputes.specs.declared.waiting.Wait.{Wait}
use Rattle.card_disputes.specs.declared.waiting.Wait.TheVariants as wait
use Rattle.card_events.specs.History.{disputes}
use Rattle.card_events.specs.declared.post.Post.{Post}
use Rattle.card_model.specs.Deadlines.{resolves}
use Rattle.card_model.specs.Payments.{returns}

-- it returns the payment with a number, disputes the charge, or resolves the Dispute
abbrev pub does : Wait → ℕ → Post → Bool
does wait.Return n p = returns n p
does wait.Dispute n p = disputes n p
does wait.Resolve n p = resolves n p
