-- The statuses of each command.
use Rattle.std.proofs.Common.{ℕ, inl, inr, List, [], ◌∷◌, refl, Option, None, Some}
use Rattle.card_desk.specs.Views.{seen}
use Rattle.card_desk.specs.declared.view.Ask.TheVariants as ask
use Rattle.card_http.specs.Told.{repaid, told}
use Rattle.card_model.specs.Machine.{State}
use Rattle.card_commands.specs.Statuses.{status_of, statuses_of, account_statuses, run_statuses, IsOneOf}
use Rattle.card_commands.specs.Input.{Cut, lines, records}
use Rattle.card_commands.specs.Outside.{Outside, Runs, Tries, NoCommand, Loads, Ends, sides_of}
use Rattle.card_commands.specs.Views.{NotLoaded, Tells}
use Rattle.card_commands.specs.Written.{Sides}
use Rattle.card_words.specs.declared.command.Command.{Command}
use Rattle.card_words.specs.declared.command.Command.TheVariants as command
use Rattle.card_commands.specs.declared.ended.Ended.{Ended}
use Rattle.card_commands.specs.declared.ended.Ended.TheVariants as ended

run_status : {I K : Type 0} (old new : Outside I K) (cut : Cut) (s : State) (e : Ended) → Runs old new cut s e → IsOneOf (status_of e) run_statuses
run_status old new cut s ended.Done ran = inl refl
run_status old new cut s ended.Refused ran = inr (inl refl)
run_status old new cut s ended.Usage ran = absurd ran
run_status old new cut s ended.Source ran = inr (inr (inl refl))
run_status old new cut s ended.Sink ran = inr (inr (inr (inl refl)))
run_status old new cut s ended.Keeper ran = inr (inr (inr (inr (inl refl))))
run_status old new cut s ended.Memory ran = inr (inr (inr (inr (inr (inl refl)))))
run_status old new cut s ended.Door ran = absurd ran
run_status old new cut s ended.Damaged ran = absurd ran
run_status old new cut s ended.Endless ran = inr (inr (inr (inr (inr (inr (inr (inl refl)))))))

not_loaded_status : (old new : Sides) (e : Ended) → NotLoaded old new e → IsOneOf (status_of e) (5 ∷ 6 ∷ 8 ∷ [])
not_loaded_status old new ended.Done none = absurd none
not_loaded_status old new ended.Refused none = absurd none
not_loaded_status old new ended.Usage none = absurd none
not_loaded_status old new ended.Source none = absurd none
not_loaded_status old new ended.Sink none = absurd none
not_loaded_status old new ended.Keeper none = inl refl
not_loaded_status old new ended.Memory none = inr (inl refl)
not_loaded_status old new ended.Door none = absurd none
not_loaded_status old new ended.Damaged none = inr (inr (inl refl))
not_loaded_status old new ended.Endless none = absurd none

no_command_status : {I K : Type 0} (old new : Outside I K) (e : Ended) → NoCommand old new e → IsOneOf (status_of e) (statuses_of None)
no_command_status old new ended.Done said = absurd said
no_command_status old new ended.Refused said = absurd said
no_command_status old new ended.Usage said = inl refl
no_command_status old new ended.Source said = absurd said
no_command_status old new ended.Sink said = absurd said
no_command_status old new ended.Keeper said = absurd said
no_command_status old new ended.Memory said = inr (inl refl)
no_command_status old new ended.Door said = absurd said
no_command_status old new ended.Damaged said = absurd said
no_command_status old new ended.Endless said = absurd said

-- one of the last is one of all
among_run : (n : ℕ) → IsOneOf n (5 ∷ 6 ∷ 8 ∷ []) → IsOneOf n run_statuses
among_run n (inl is) = inr (inr (inr (inr (inl is))))
among_run n (inr (inl is)) = inr (inr (inr (inr (inr (inl is)))))
among_run n (inr (inr (inl is))) = inr (inr (inr (inr (inr (inr (inl is))))))
among_run n (inr (inr (inr never))) = absurd never

among_view : (n : ℕ) → IsOneOf n (5 ∷ 6 ∷ 8 ∷ []) → IsOneOf n (statuses_of (Some command.Work))
among_view n is = inr (inr is)

-- of a server
among_server : (port count n : ℕ) → IsOneOf n (5 ∷ 6 ∷ 8 ∷ []) → IsOneOf n (statuses_of (Some (command.Serve port count)))
among_server port count n (inl is) = inr (inr (inl is))
among_server port count n (inr (inl is)) = inr (inr (inr (inl is)))
among_server port count n (inr (inr (inl is))) = inr (inr (inr (inr (inr (inl is)))))
among_server port count n (inr (inr (inr never))) = absurd never

loads_status : {I K : Type 0} (old new : Outside I K) (cut : Cut) (e : Ended) → Loads old new (Runs old new cut) e → IsOneOf (status_of e) run_statuses
loads_status old new cut e (inl none) = among_run (status_of e) (not_loaded_status (sides_of old) (sides_of new) e none.1)
loads_status old new cut e (inr run) = run_status old new cut run.ledger e run.ran

tried_status : {I K : Type 0} (old new : Outside I K) (from to : ℕ) (s : State) (e : Ended) → Tries old new from to s e → IsOneOf (status_of e) run_statuses
tried_status old new from to s ended.Done tried = inl refl
tried_status old new from to s ended.Refused tried = inr (inl refl)
tried_status old new from to s ended.Usage tried = absurd tried
tried_status old new from to s ended.Source tried = run_status old new lines s ended.Source tried
tried_status old new from to s ended.Sink tried = inr (inr (inr (inl refl)))
tried_status old new from to s ended.Keeper tried = run_status old new lines s ended.Keeper tried
tried_status old new from to s ended.Memory tried = inr (inr (inr (inr (inr (inl refl)))))
tried_status old new from to s ended.Door tried = absurd tried
tried_status old new from to s ended.Damaged tried = absurd tried
tried_status old new from to s ended.Endless tried = run_status old new lines s ended.Endless tried

trial_status : {I K : Type 0} (old new : Outside I K) (from to : ℕ) (e : Ended) → Loads old new (Tries old new from to) e → IsOneOf (status_of e) run_statuses
trial_status old new from to e (inl none) = among_run (status_of e) (not_loaded_status (sides_of old) (sides_of new) e none.1)
trial_status old new from to e (inr run) = tried_status old new from to run.ledger e run.ran

-- a text that is always there
tells_status : (old new : Option (List ℕ)) (e : Ended) (text : List ℕ) → Tells old new e (Some text) → IsOneOf (status_of e) (statuses_of (Some command.Work))
tells_status old new ended.Done text told = inl refl
tells_status old new ended.Refused text told = absurd told
tells_status old new ended.Usage text told = absurd told
tells_status old new ended.Source text told = absurd told
tells_status old new ended.Sink text told = inr (inl refl)
tells_status old new ended.Keeper text told = absurd told
tells_status old new ended.Memory text told = inr (inr (inr (inl refl)))
tells_status old new ended.Door text told = absurd told
tells_status old new ended.Damaged text told = absurd told
tells_status old new ended.Endless text told = absurd told

work_status : {I K : Type 0} (old new : Outside I K) (e : Ended) → Loads old new (λ s f. Tells old.taken new.taken f (told s ask.Work)) e → IsOneOf (status_of e) (statuses_of (Some command.Work))
unfolding seen told
work_status old new e (inl none) = among_view (status_of e) (not_loaded_status (sides_of old) (sides_of new) e none.1)
work_status old new e (inr run) = tells_status old.taken new.taken e _ run.ran

-- a text that may not be there
among_account : (n : ℕ) → IsOneOf n (5 ∷ 6 ∷ 8 ∷ []) → IsOneOf n account_statuses
among_account n is = inr (inr (inr is))

account_status : (old new : Option (List ℕ)) (e : Ended) (text : Option (List ℕ)) → Tells old new e text → IsOneOf (status_of e) account_statuses
account_status old new ended.Done text told = inl refl
account_status old new ended.Refused text told = inr (inl refl)
account_status old new ended.Usage None told = absurd told
account_status old new ended.Usage (Some t) told = absurd told
account_status old new ended.Source None told = absurd told
account_status old new ended.Source (Some t) told = absurd told
account_status old new ended.Sink text told = inr (inr (inl refl))
account_status old new ended.Keeper text told = inr (inr (inr (inl refl)))
account_status old new ended.Memory text told = inr (inr (inr (inr (inl refl))))
account_status old new ended.Door None told = absurd told
account_status old new ended.Door (Some t) told = absurd told
account_status old new ended.Damaged text told = inr (inr (inr (inr (inr (inl refl)))))
account_status old new ended.Endless None told = absurd told
account_status old new ended.Endless (Some t) told = absurd told

account_view_status : {I K : Type 0} (old new : Outside I K) (text : State → Option (List ℕ)) (e : Ended) → Loads old new (λ s f. Tells old.taken new.taken f (text s)) e → IsOneOf (status_of e) account_statuses
account_view_status old new text e (inl none) = among_account (status_of e) (not_loaded_status (sides_of old) (sides_of new) e none.1)
account_view_status old new text e (inr run) = account_status old.taken new.taken e (text run.ledger) run.ran

-- the text of a demonstration
demo_status : (old new : Option (List ℕ)) (e : Ended) (text : List ℕ) → Tells old new e (Some text) → IsOneOf (status_of e) (0 ∷ 4 ∷ 6 ∷ [])
demo_status old new ended.Done text told = inl refl
demo_status old new ended.Refused text told = absurd told
demo_status old new ended.Usage text told = absurd told
demo_status old new ended.Source text told = absurd told
demo_status old new ended.Sink text told = inr (inl refl)
demo_status old new ended.Keeper text told = absurd told
demo_status old new ended.Memory text told = inr (inr (inl refl))
demo_status old new ended.Door text told = absurd told
demo_status old new ended.Damaged text told = absurd told
demo_status old new ended.Endless text told = absurd told

pub ends_status : {I K : Type 0} (old new : Outside I K) (c : Option Command) (e : Ended) → Ends old new c e → IsOneOf (status_of e) (statuses_of c)
unfolding Ends
ends_status old new None e ends = no_command_status old new e ends.2
ends_status old new (Some command.Apply) e ends = loads_status old new lines e ends
ends_status old new (Some command.Import) e ends = loads_status old new records e ends
ends_status old new (Some (command.Export name)) e ends = account_view_status old new (λ s. told s (ask.Entries name)) e ends.1
ends_status old new (Some command.Work) e ends = work_status old new e ends.1
ends_status old new (Some (command.Statement name cycle)) e ends = account_view_status old new (λ s. told s (ask.Issued name cycle)) e ends.1
ends_status old new (Some (command.Restate name cycle)) e ends = account_view_status old new (λ s. told s (ask.Restated name cycle)) e ends.1
ends_status old new (Some (command.Repay name cycle)) e ends = account_view_status old new (λ s. repaid s (ask.Issued name cycle)) e ends.1
ends_status old new (Some (command.Demo d)) e ends = demo_status old.taken new.taken e _ ends.2
ends_status old new (Some (command.Serve port count)) e ends = among_server port count (status_of e) (not_loaded_status (sides_of old) (sides_of new) e ends.1)
ends_status old new (Some (command.Trial from to)) e ends = trial_status old new from to e ends
