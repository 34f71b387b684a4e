-- How a run ends that has a trial balance behind it.
use Rattle.std.proofs.Common.{◌≡◌, ℕ, inl, inr, Bool, true, false, List, ◌++◌, sym, ◌∙◌, subst}
use Rattle.std.specs.Io.KnownBytes.{Appends}
use Rattle.std.proofs.KnownBytes.{Appends-trans}
use Rattle.card_model.specs.Machine.{State}
use Rattle.card_ports.specs.Counts.{Rose}
use Rattle.card_ports.specs.Written.{SinkSide, TookAll, TookFront, TookPart}
use Rattle.card_ports.specs.declared.source.SinkFault.{SinkFault}
use Rattle.card_ports.specs.declared.source.SinkFault.TheVariants as fault
use Rattle.card_trial.specs.Trial.{trial_text}
use Rattle.card_commands.specs.Input.{all_items, lines}
use Rattle.card_commands.specs.Outside.{HasCause, Outside, ReadAllTo, RunsTo, TriedAll, TriedFront, Tries, Unfailed, sides_of}
use Rattle.card_commands.specs.Run.{text_of}
use Rattle.card_commands.specs.Statuses.{ended_by_sink}
use Rattle.card_commands.specs.Trials.{is_at_end}
use Rattle.card_commands.specs.Written.{TookBetween}
use Rattle.card_commands.specs.declared.ended.Ended.{Ended}
use Rattle.card_commands.specs.declared.ended.Ended.TheVariants as ended
use Rattle.card_commands.proofs.SideLemmas.{took_part}

-- what a sink made of what it took
abbrev pub sunk : {I K : Type 0} → Outside I K → SinkSide → Outside I K
sunk mid x = record mid { taken = x.taken; sink_faults = x.faults }

no_end : {A : Type 0} → false ≡ true → A
no_end e = absurd (cc)

-- ---- a run that was ended early has none
pub tried_early : {I K : Type 0} (old new : Outside I K) (from to : ℕ) (s t : State) (e : Ended) → is_at_end e ≡ false → RunsTo old new lines s t e → Tries old new from to s e
tried_early old new from to s t ended.Done is ran = no_end (sym is)
tried_early old new from to s t ended.Refused is ran = no_end (sym is)
tried_early old new from to s t ended.Usage is ran = absurd ran
tried_early old new from to s t ended.Source is ran = ran
tried_early old new from to s t ended.Sink is ran = inl ran
tried_early old new from to s t ended.Keeper is ran = ran
tried_early old new from to s t ended.Memory is ran = inl ran
tried_early old new from to s t ended.Door is ran = absurd ran
tried_early old new from to s t ended.Damaged is ran = absurd ran
tried_early old new from to s t ended.Endless is ran = ran

-- ---- the input was read to its end
-- and the balance was written
tried_of : {I K : Type 0} (old mid : Outside I K) (x : SinkSide) (from to : ℕ) (s t : State) (refused : Bool) → ReadAllTo old mid lines s t refused → TookAll (sides_of mid).sink x (trial_text from to t) → TriedAll old (sunk mid x) from to s refused
tried_of old mid x from to s t refused ran took = record {
  bytes = ran.bytes;
  read = ran.read;
  stands = (
    ran.stands.0,
    subst (λ (u : State). Appends old.taken x.taken (text_of s (all_items ran.bytes) ++ trial_text from to u)) ran.stands.3
        (Appends-trans old.taken mid.taken x.taken (text_of s (all_items ran.bytes)) (trial_text from to t) ran.stands.1.0 took.written),
    ran.stands.1.1,
    ran.stands.2,
  );
}

pub tried_all : {I K : Type 0} (old mid : Outside I K) (x : SinkSide) (from to : ℕ) (s t : State) (e : Ended) → is_at_end e ≡ true → RunsTo old mid lines s t e → TookAll (sides_of mid).sink x (trial_text from to t) → Tries old (sunk mid x) from to s e
tried_all old mid x from to s t ended.Done is ran took = tried_of old mid x from to s t false ran took
tried_all old mid x from to s t ended.Refused is ran took = tried_of old mid x from to s t true ran took
tried_all old mid x from to s t ended.Usage is ran took = no_end is
tried_all old mid x from to s t ended.Source is ran took = no_end is
tried_all old mid x from to s t ended.Sink is ran took = no_end is
tried_all old mid x from to s t ended.Keeper is ran took = no_end is
tried_all old mid x from to s t ended.Memory is ran took = no_end is
tried_all old mid x from to s t ended.Door is ran took = no_end is
tried_all old mid x from to s t ended.Damaged is ran took = no_end is
tried_all old mid x from to s t ended.Endless is ran took = no_end is

-- or a front of it
front_of : {I K : Type 0} (old mid : Outside I K) (x : SinkSide) (from to : ℕ) (s t : State) (refused : Bool) → ReadAllTo old mid lines s t refused → TookFront mid.taken x.taken (trial_text from to t) → TriedFront old (sunk mid x) from to s
front_of old mid x from to s t refused ran took = record {
  bytes = ran.bytes;
  read = ran.read;
  stands = (
    ran.stands.0,
    subst (λ (u : State). TookBetween old.taken x.taken (text_of s (all_items ran.bytes)) (text_of s (all_items ran.bytes) ++ trial_text from to u)) ran.stands.3
        (took_part old.taken mid.taken x.taken (text_of s (all_items ran.bytes)) (trial_text from to t) ran.stands.1.0 took),
    ran.stands.1.1,
  );
}

front_at_end : {I K : Type 0} (old mid : Outside I K) (x : SinkSide) (from to : ℕ) (s t : State) (e : Ended) → is_at_end e ≡ true → RunsTo old mid lines s t e → TookFront mid.taken x.taken (trial_text from to t) → TriedFront old (sunk mid x) from to s
front_at_end old mid x from to s t ended.Done is ran took = front_of old mid x from to s t false ran took
front_at_end old mid x from to s t ended.Refused is ran took = front_of old mid x from to s t true ran took
front_at_end old mid x from to s t ended.Usage is ran took = no_end is
front_at_end old mid x from to s t ended.Source is ran took = no_end is
front_at_end old mid x from to s t ended.Sink is ran took = no_end is
front_at_end old mid x from to s t ended.Keeper is ran took = no_end is
front_at_end old mid x from to s t ended.Memory is ran took = no_end is
front_at_end old mid x from to s t ended.Door is ran took = no_end is
front_at_end old mid x from to s t ended.Damaged is ran took = no_end is
front_at_end old mid x from to s t ended.Endless is ran took = no_end is

by_fault : {I K : Type 0} (old new : Outside I K) (from to : ℕ) (s : State) (f : SinkFault) → TriedFront old new from to s → Tries old new from to s (ended_by_sink f)
by_fault old new from to s fault.Failed front = inr front
by_fault old new from to s fault.Memory front = inr front

pub tried_front : {I K : Type 0} (old mid : Outside I K) (x : SinkSide) (from to : ℕ) (s t : State) (e : Ended) (f : SinkFault) (z : Ended) → z ≡ ended_by_sink f → is_at_end e ≡ true → RunsTo old mid lines s t e
    → TookPart (sides_of mid).sink x (trial_text from to t) f → Tries old (sunk mid x) from to s z
tried_front old mid x from to s t e f z end is ran part =
    subst (λ (y : Ended). Tries old (sunk mid x) from to s y) (sym end) (by_fault old (sunk mid x) from to s f (front_at_end old mid x from to s t e is ran part.took))

-- ---- what failed
-- nothing did before the balance
unfailed_at_end : {I K : Type 0} (old mid : Outside I K) (e : Ended) → is_at_end e ≡ true → HasCause old mid e → Unfailed old mid
unfolding HasCause
unfailed_at_end old mid ended.Done is cause = cause
unfailed_at_end old mid ended.Refused is cause = cause
unfailed_at_end old mid ended.Usage is cause = no_end is
unfailed_at_end old mid ended.Source is cause = no_end is
unfailed_at_end old mid ended.Sink is cause = no_end is
unfailed_at_end old mid ended.Keeper is cause = no_end is
unfailed_at_end old mid ended.Memory is cause = no_end is
unfailed_at_end old mid ended.Door is cause = no_end is
unfailed_at_end old mid ended.Damaged is cause = no_end is
unfailed_at_end old mid ended.Endless is cause = no_end is

still_unfailed : {I K : Type 0} (old mid : Outside I K) (x : SinkSide) → Unfailed old mid → x.faults ≡ mid.sink_faults → Unfailed old (sunk mid x)
still_unfailed old mid x none same = record { source = none.source; sides = record { sink = same ∙ none.sides.sink; keeper = none.sides.keeper } }

pub tried_cause : {I K : Type 0} (old mid : Outside I K) (x : SinkSide) (e : Ended) → is_at_end e ≡ true → HasCause old mid e → x.faults ≡ mid.sink_faults → HasCause old (sunk mid x) e
unfolding HasCause
tried_cause old mid x ended.Done is cause same = still_unfailed old mid x cause same
tried_cause old mid x ended.Refused is cause same = still_unfailed old mid x cause same
tried_cause old mid x ended.Usage is cause same = no_end is
tried_cause old mid x ended.Source is cause same = no_end is
tried_cause old mid x ended.Sink is cause same = no_end is
tried_cause old mid x ended.Keeper is cause same = no_end is
tried_cause old mid x ended.Memory is cause same = no_end is
tried_cause old mid x ended.Door is cause same = no_end is
tried_cause old mid x ended.Damaged is cause same = no_end is
tried_cause old mid x ended.Endless is cause same = no_end is

fault_cause : {I K : Type 0} (old mid : Outside I K) (x : SinkSide) (text : List ℕ) (f : SinkFault) → Unfailed old mid → TookPart (sides_of mid).sink x text f → HasCause old (sunk mid x) (ended_by_sink f)
unfolding HasCause
fault_cause old mid x text fault.Failed none part = subst (λ (n : ℕ). Rose n x.faults) none.sides.sink part.cause
fault_cause old mid x text fault.Memory none part = still_unfailed old mid x none part.cause

pub front_cause : {I K : Type 0} (old mid : Outside I K) (x : SinkSide) (text : List ℕ) (e : Ended) (f : SinkFault) (z : Ended) → z ≡ ended_by_sink f → is_at_end e ≡ true → HasCause old mid e → TookPart (sides_of mid).sink x text f
    → HasCause old (sunk mid x) z
front_cause old mid x text e f z end is cause part =
    subst (λ (y : Ended). HasCause old (sunk mid x) y) (sym end) (fault_cause old mid x text f (unfailed_at_end old mid e is cause) part)
