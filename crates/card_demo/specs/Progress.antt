-- How far a demonstration is.
use Rattle.std.specs.Prelude.{ℕ, ◌+◌, Bool, true, false, List, length}
use Rattle.std.specs.List.{filter}
use Rattle.card_events.specs.declared.reply.Reply.{Reply}
use Rattle.card_events.specs.declared.reply.Reply.TheVariants as reply
use Rattle.card_events.specs.declared.request.Request.{Request}
use Rattle.card_model.specs.Machine.{State, run_from, replies_from, start}
use Rattle.card_demo.specs.Requests.{Piece}

abbrev pub is_refusal : Reply → Bool
is_refusal reply.Done = false
is_refusal (reply.Accepted n) = false
is_refusal (reply.Refused r) = true

-- how many of these requests are refused, in the state before them
unfoldable pub refusals : State → List Request → ℕ
refusals s rs = length (filter is_refusal (replies_from s rs))

-- how many requests there were, and how many of them were refused
pub record Tally : Type 0 where
  pub count : ℕ
  pub refused : ℕ

-- the ledger, where the generator is, and how many requests there were and were refused
pub record Progress : Type 0 where
  pub state : State
  pub x : ℕ
  pub count : ℕ
  pub refused : ℕ

-- before the first request
abbrev pub at_start : ℕ → Progress
at_start seed = record { state = start; x = seed; count = 0; refused = 0 }

-- after a piece
unfoldable pub after : Progress → Piece → Progress
after p piece = record {
  state = run_from p.state piece.requests;
  x = piece.x;
  count = p.count + length piece.requests;
  refused = p.refused + refusals p.state piece.requests;
}
