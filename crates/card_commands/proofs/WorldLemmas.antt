-- What a call comes to in the world: without its door, or as a server.
use Rattle.std.proofs.Common.{◌≡◌, inl, inr, ℕ, List, [], ◌∷◌, refl, sym, subst, Option, None, Some}
use Rattle.card_http.specs.Exchanges.{Exchange}
use Rattle.card_model.specs.Machine.{State}
use Rattle.card_ports.specs.Written.{SinkSide, TookPart}
use Rattle.card_ports.specs.declared.source.SinkFault.TheVariants as fault
use Rattle.card_commands.specs.Attended.{Attends, HaveCome, Parties, ServerFailed}
use Rattle.card_commands.specs.Statuses.{IsOneOf, status_of, statuses_of}
use Rattle.card_commands.specs.Outside.{Ends, HasCause, Outcome}
use Rattle.card_commands.specs.Quiet.{IsQuiet, NothingFailed}
use Rattle.card_commands.specs.Said.{TookLine}
use Rattle.card_words.specs.Usage.{usage_line}
use Rattle.card_commands.specs.World.{Comes, IsCalm, MayServe, ServedBy, World, parties_of}
use Rattle.card_words.specs.declared.command.Command.{Command}
use Rattle.card_words.specs.declared.command.Command.TheVariants as command
use Rattle.card_commands.specs.declared.ended.Ended.{Ended}
use Rattle.card_commands.specs.declared.ended.Ended.TheVariants as ended
use Rattle.card_commands.proofs.LoadedLemmas.{unloaded_outcome, untouched_outcome}
use Rattle.card_commands.proofs.QuietLemmas.{NeverDamaged, quiet}
use Rattle.card_commands.proofs.RowLemmas.{keeps_same}
use Rattle.card_commands.proofs.StatusLemmas.{ends_status}

-- ---- commands

-- a command that no door takes part in
pub without_door : {I K D : Type 0} (old new : World I K D) (c : Option Command) (e : Ended) → new.door ≡ old.door → Outcome old.around new.around c e → Comes old new c e
without_door old new c e same outcome = inl (same, outcome)

-- the same command
pub comes_of : {I K D : Type 0} (old new : World I K D) (c d : Option Command) (e : Ended) → c ≡ d → Comes old new c e → Comes old new d e
comes_of old new c d e same comes = subst (λ (x : Option Command). Comes old new x e) same comes

-- memory was wanted before anything was done
pub untouched : {I K D : Type 0} (old : World I K D) (c : Option Command) → Comes old old c ended.Memory
untouched old c = inl (refl, untouched_outcome old.around c)

-- what a sink made of a line
abbrev pub with_sink : {I K D : Type 0} → World I K D → SinkSide → World I K D
with_sink old x = record old { around = record old.around { taken = x.taken; sink_faults = x.faults } }

-- words that are no command: the usage line was said
pub usage_said : {I K D : Type 0} (old : World I K D) (x : SinkSide) → TookLine old.around.taken x.taken old.around.sink_faults x.faults usage_line → Comes old (with_sink old x) None ended.Usage
unfolding Ends HasCause
usage_said old x took = inl (refl, record { ends = (refl, (refl, keeps_same old.around.rows), took); cause = tt })

-- or a front of it, since memory was wanted
pub usage_cut : {I K D : Type 0} (old : World I K D) (x : SinkSide) → TookPart (record { taken = old.around.taken; faults = old.around.sink_faults }) x usage_line fault.Memory → Comes old (with_sink old x) None ended.Memory
unfolding Ends HasCause
usage_cut old x part = inl (refl, record { ends = (refl, (refl, keeps_same old.around.rows), part.took); cause = record { source = refl; sides = record { sink = part.cause; keeper = refl } } })

-- a server, or that it had no ledger
pub server_comes : {I K D : Type 0} (old new : World I K D) (port count : ℕ) (e : Ended) → new.around.input ≡ old.around.input → new.around.source_faults ≡ old.around.source_faults
    → MayServe port count old.door new.door (parties_of old) (parties_of new) e → Comes old new (Some (command.Serve port count)) e
unfolding ServedBy
server_comes old new port count e input source (inl none) = inl (none.0, unloaded_outcome old.around new.around (command.Serve port count) e tt input source none.1)
server_comes old new port count e input source (inr ran) = inr (record { input = input; source = source; ran = ran })

-- ---- statuses

server_status : (Came : List Exchange → Type 0) (port count : ℕ) (s : State) (a b : Parties) (e : Ended) → Attends Came count s a b e → IsOneOf (status_of e) (statuses_of (Some (command.Serve port count)))
server_status Came port count s a b ended.Done at = inl refl
server_status Came port count s a b ended.Sink at = inr (inl refl)
server_status Came port count s a b ended.Memory at = inr (inr (inr (inl refl)))
server_status Came port count s a b ended.Door at = inr (inr (inr (inr (inl refl))))
server_status Came port count s a b ended.Refused at = absurd at
server_status Came port count s a b ended.Usage at = absurd at
server_status Came port count s a b ended.Source at = absurd at
server_status Came port count s a b ended.Keeper at = absurd at
server_status Came port count s a b ended.Damaged at = absurd at
server_status Came port count s a b ended.Endless at = absurd at

served_status : {I K D : Type 0} (old new : World I K D) (c : Option Command) (e : Ended) → ServedBy old new c e → IsOneOf (status_of e) (statuses_of c)
unfolding ServedBy
served_status old new None e by = absurd by
served_status old new (Some command.Apply) e by = absurd by
served_status old new (Some command.Import) e by = absurd by
served_status old new (Some (command.Export name)) e by = absurd by
served_status old new (Some command.Work) e by = absurd by
served_status old new (Some (command.Statement name cycle)) e by = absurd by
served_status old new (Some (command.Restate name cycle)) e by = absurd by
served_status old new (Some (command.Repay name cycle)) e by = absurd by
served_status old new (Some (command.Demo d)) e by = absurd by
served_status old new (Some (command.Trial from to)) e by = absurd by
served_status old new (Some (command.Serve port count)) e by = server_status _ port count by.ran.ledger (parties_of old) (parties_of new) e by.ran.ran.ends

-- an end that is in these words has one of the command's statuses
pub status_comes : {I K D : Type 0} (old new : World I K D) (c : Option Command) (e : Ended) (n : ℕ) → Comes old new c e → n ≡ status_of e → IsOneOf n (statuses_of c)
status_comes old new c e n (inl outcome) is = subst (λ (m : ℕ). IsOneOf m (statuses_of c)) (sym is) (ends_status old.around new.around c e outcome.1.ends)
status_comes old new c e n (inr by) is = subst (λ (m : ℕ). IsOneOf m (statuses_of c)) (sym is) (served_status old new c e by)

-- ---- calls that nothing gets in the way of

calm_server : {I K D : Type 0} (old new : World I K D) (port count : ℕ) (s : State) (e : Ended) → Attends (HaveCome port old.visits new.visits) count s (parties_of old) (parties_of new) e → ServerFailed (parties_of old) (parties_of new) e
    → IsCalm old new (command.Serve port count) → NothingFailed old.around new.around → IsOneOf (status_of e) (0 ∷ 1 ∷ 6 ∷ [])
calm_server old new port count s ended.Done at failed calm none = inl refl
calm_server old new port count s ended.Memory at failed calm none = inr (inr (inl refl))
calm_server old new port count s ended.Sink at failed calm none = absurd (none.sink failed)
calm_server old new port count s ended.Door at failed calm none = absurd (calm.door failed)
calm_server old new port count s ended.Refused at failed calm none = absurd at
calm_server old new port count s ended.Usage at failed calm none = absurd at
calm_server old new port count s ended.Source at failed calm none = absurd at
calm_server old new port count s ended.Keeper at failed calm none = absurd at
calm_server old new port count s ended.Damaged at failed calm none = absurd at
calm_server old new port count s ended.Endless at failed calm none = absurd at

calm_served : {I K D : Type 0} (old new : World I K D) (c : Command) (e : Ended) → ServedBy old new (Some c) e → IsCalm old new c → IsOneOf (status_of e) (0 ∷ 1 ∷ 6 ∷ [])
unfolding ServedBy IsQuiet
calm_served old new command.Apply e by calm = absurd by
calm_served old new command.Import e by calm = absurd by
calm_served old new (command.Export name) e by calm = absurd by
calm_served old new command.Work e by calm = absurd by
calm_served old new (command.Statement name cycle) e by calm = absurd by
calm_served old new (command.Restate name cycle) e by calm = absurd by
calm_served old new (command.Repay name cycle) e by calm = absurd by
calm_served old new (command.Demo d) e by calm = absurd by
calm_served old new (command.Trial from to) e by calm = absurd by
calm_served old new (command.Serve port count) e by calm = calm_server old new port count by.ran.ledger e by.ran.ran.ends by.ran.ran.cause calm calm.quiet.0

pub calm : {I K D : Type 0} (never : NeverDamaged) (old new : World I K D) (c : Command) (e : Ended) → Comes old new (Some c) e → IsCalm old new c → IsOneOf (status_of e) (0 ∷ 1 ∷ 6 ∷ [])
calm never old new c e (inl outcome) is = quiet never old.around new.around c e outcome.1 is.quiet
calm never old new c e (inr by) is = calm_served old new c e by is
