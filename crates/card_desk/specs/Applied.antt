-- What a request does to a desk and its keeper.
use Rattle.std.specs.Prelude.{◌≡◌, ◌≤◌, ℕ, Bool, true, nat_le, List, length, Option, Result, IfOk, OnOk, OnErr, IsErrOf}
use Rattle.std.specs.List.{list_all}
use Rattle.card_desk.specs.declared.fault.Fault.{Fault}
use Rattle.card_desk.specs.declared.fault.Fault.TheVariants as fault
use Rattle.card_events.specs.Dated.{is_dated}
use Rattle.card_events.specs.Limits.{post_limit}
use Rattle.card_events.specs.declared.reply.Reply.{Reply}
use Rattle.card_events.specs.declared.request.Request.{Request}
use Rattle.card_ports.specs.Rows.{AddsRows, KeepsRows, SameRowsTold}
use Rattle.card_ports.specs.declared.row.Row.{Row}
use Rattle.card_model.specs.Machine.{State, NamedAccount, step}
use Rattle.card_ports.specs.Counts.{Rose}
use Rattle.card_desk.specs.Kept.{new_rows, Fits}

-- the state and the reply are those of one step of the machine, and the rows grow by the row of a newly accepted request
pub record Steps (rows_old rows_new : Option (List Row)) (s : State) (r : Request) (new : State) (reply : Reply) : Type 0 where
  pub step_is : (new, reply) ≡ step s r
  pub rows_are : AddsRows rows_old rows_new (new_rows s r)
  pub fits : Fits rows_new new

-- no account has more than 200,000 posts
abbrev pub are_short : List NamedAccount → Bool
are_short accounts = list_all (λ a. nat_le (length a.lists.posts) post_limit) accounts

-- a request of days that are requests' may be carried out over rows that go on from the state
pub record IsAsked (rows : Option (List Row)) (s : State) (r : Request) : Type 0 where
  pub dated : is_dated r ≡ true
  pub fits : Fits rows s

-- How often a keeper failed, before and after a call with this result: the count rises where the call says that the keeper
-- failed, and stays where it says that memory was wanted, and after success
pub record IsCounted {T F : Type 0} (failed memory : F) (old new : ℕ) (result : Result T F) : Type 0 where
  pub count : old ≤ new
  pub unfailed : OnOk result (new ≡ old)
  pub cause : IsErrOf result failed → Rose old new
  pub wanted : IsErrOf result memory → new ≡ old

-- What a request leaves, whatever comes of it: one step of the machine, or after a fault the state and the rows as they were
pub record Carried (rows_old rows_new : Option (List Row)) (faults_old faults_new : ℕ) (s : State) (r : Request) (new : State) (result : Result Reply Fault) : Type 0 where
  pub ok : IfOk result (Steps rows_old rows_new s r new)
  pub err : OnErr result (new ≡ s)
  pub rows_stay : OnErr result (KeepsRows rows_old rows_new)
  pub told : SameRowsTold rows_old rows_new
  pub counts : IsCounted fault.Keeper fault.Memory faults_old faults_new result
