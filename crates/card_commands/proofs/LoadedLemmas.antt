-- What a command comes to from the ledger that the kept rows gave.
use Rattle.std.proofs.Common.{◌≡◌, ℕ, Bool, true, false, ◌⊎◌, inl, inr, List, [], refl, ◌∙◌, subst, Option, None, Some}
use Rattle.std.proofs.KnownBytes.{Appends-nil}
use Rattle.card_words.specs.Demonstrations.{Demonstration}
use Rattle.card_demo.specs.Summary.{demo_text}
use Rattle.card_http.specs.Told.{repaid, told}
use Rattle.card_desk.specs.declared.view.Ask.TheVariants as ask
use Rattle.card_ports.specs.Rows.{KeepsRows}
use Rattle.card_model.specs.Machine.{State}
use Rattle.card_ports.specs.Counts.{Rose}
use Rattle.card_commands.specs.Input.{Cut, lines, records}
use Rattle.card_commands.specs.Outside.{Outside, Outcome, Runs, TriedAll, TriedFront, Tries, HasCause, Unfailed, Loads, Views, Ends, sides_of}
use Rattle.card_commands.specs.Views.{GaveLedger, GaveNone, Loaded, NotLoaded, SidesFailed, Tells, Told, Viewed}
use Rattle.card_ports.specs.Written.{SinkSide}
use Rattle.card_commands.specs.Written.{KeeperSide, Sides}
use Rattle.card_words.specs.declared.command.Command.{Command}
use Rattle.card_words.specs.declared.command.Command.TheVariants as command
use Rattle.card_commands.specs.declared.ended.Ended.{Ended}
use Rattle.card_commands.specs.declared.ended.Ended.TheVariants as ended
use Rattle.card_commands.proofs.RowLemmas.{keeps_same, kept_then}
use Rattle.card_commands.proofs.SideLemmas.{counts_refl, front_none}

-- ---- a run from a keeper that was loaded

-- what lies outside after the load
abbrev pub reloaded : {I K : Type 0} → Outside I K → K → Sides → Outside I K
reloaded old k at = record old { taken = at.sink.taken; sink_faults = at.sink.faults; keeper = k; rows = at.keeper.rows; keeper_faults = at.keeper.faults }

-- the sink as it was
abbrev same_sink : {I K : Type 0} → Outside I K → Sides → Sides
same_sink old at = record { sink = (sides_of old).sink; keeper = at.keeper }

loaded_run : {I K : Type 0} (old new : Outside I K) (k : K) (at : Sides) (cut : Cut) (s : State) (e : Ended) → KeepsRows old.rows at.keeper.rows → Runs (reloaded old k (same_sink old at)) new cut s e → Runs old new cut s e
loaded_run old new k at cut s ended.Done keeps ran =
    record { bytes = ran.bytes; read = ran.read; stands = (ran.stands.0, (ran.stands.1.0, kept_then old.rows at.keeper.rows new.rows _ keeps ran.stands.1.1), ran.stands.2) }
loaded_run old new k at cut s ended.Refused keeps ran =
    record { bytes = ran.bytes; read = ran.read; stands = (ran.stands.0, (ran.stands.1.0, kept_then old.rows at.keeper.rows new.rows _ keeps ran.stands.1.1), ran.stands.2) }
loaded_run old new k at cut s ended.Usage keeps ran = absurd ran
loaded_run old new k at cut s ended.Source keeps ran = record { bytes = ran.bytes; read = ran.read; stands = (ran.stands.0, kept_then old.rows at.keeper.rows new.rows _ keeps ran.stands.1) }
loaded_run old new k at cut s ended.Sink keeps ran =
    record { bytes = ran.bytes; read = ran.read; stands = (ran.stands.0, ran.stands.1, (ran.stands.2.0, kept_then old.rows at.keeper.rows new.rows _ keeps ran.stands.2.1)) }
loaded_run old new k at cut s ended.Keeper keeps ran =
    record { bytes = ran.bytes; read = ran.read; stands = (ran.stands.0, ran.stands.1, (ran.stands.2.0, kept_then old.rows at.keeper.rows new.rows _ keeps ran.stands.2.1)) }
loaded_run old new k at cut s ended.Memory keeps ran =
    record { bytes = ran.bytes; read = ran.read; stands = (ran.stands.0, ran.stands.1, (ran.stands.2.0, kept_then old.rows at.keeper.rows new.rows _ keeps ran.stands.2.1)) }
loaded_run old new k at cut s ended.Door keeps ran = absurd ran
loaded_run old new k at cut s ended.Damaged keeps ran = absurd ran
loaded_run old new k at cut s ended.Endless keeps ran =
    record { bytes = ran.bytes; read = ran.read; stands = (ran.stands.0, (ran.stands.1.0, kept_then old.rows at.keeper.rows new.rows _ keeps ran.stands.1.1)) }

loaded_unfailed : {I K : Type 0} (old new : Outside I K) (k : K) (at : Sides) → at.keeper.faults ≡ old.keeper_faults → Unfailed (reloaded old k (same_sink old at)) new → Unfailed old new
loaded_unfailed old new k at same un = record { source = un.source; sides = record { sink = un.sides.sink; keeper = un.sides.keeper ∙ same } }

loaded_cause : {I K : Type 0} (old new : Outside I K) (k : K) (at : Sides) (e : Ended) → at.keeper.faults ≡ old.keeper_faults → HasCause (reloaded old k (same_sink old at)) new e → HasCause old new e
unfolding HasCause
loaded_cause old new k at ended.Done same cause = loaded_unfailed old new k at same cause
loaded_cause old new k at ended.Refused same cause = loaded_unfailed old new k at same cause
loaded_cause old new k at ended.Usage same cause = tt
loaded_cause old new k at ended.Source same cause = cause
loaded_cause old new k at ended.Sink same cause = cause
loaded_cause old new k at ended.Keeper same cause = subst (λ (n : ℕ). Rose n new.keeper_faults) same cause
loaded_cause old new k at ended.Memory same cause = loaded_unfailed old new k at same cause
loaded_cause old new k at ended.Door same cause = loaded_unfailed old new k at same cause
loaded_cause old new k at ended.Damaged same cause = tt
loaded_cause old new k at ended.Endless same cause = loaded_unfailed old new k at same cause

-- a run and its cause, from the load on
pub record RanFrom {I K : Type 0} (old new : Outside I K) (cut : Cut) (s : State) (e : Ended) : Type 0 where
  pub ran : Runs old new cut s e
  pub cause : HasCause old new e

loaded : {I K : Type 0} (old new : Outside I K) (k : K) (at : Sides) (cut : Cut) (s : State) (e : Ended) → GaveLedger (sides_of old) at s → RanFrom (reloaded old k at) new cut s e → Loads old new (Runs old new cut) e × HasCause old new e
loaded old new k at cut s e gave ran =
    let same : RanFrom (reloaded old k (same_sink old at)) new cut s e = subst (λ (x : SinkSide). RanFrom (reloaded old k (record { sink = x; keeper = at.keeper })) new cut s e) gave.sink ran in (
      inr (record { ledger = s; loaded = gave.loaded; ran = loaded_run old new k at cut s e gave.rows same.ran }),
      loaded_cause old new k at e gave.count same.cause,
    )

pub apply_outcome : {I K : Type 0} (old new : Outside I K) (k : K) (at : Sides) (s : State) (e : Ended) → GaveLedger (sides_of old) at s → RanFrom (reloaded old k at) new lines s e → Outcome old new (Some command.Apply) e
unfolding Ends
apply_outcome old new k at s e gave ran = let both = loaded old new k at lines s e gave ran in record { ends = both.0; cause = both.1 }

pub import_outcome : {I K : Type 0} (old new : Outside I K) (k : K) (at : Sides) (s : State) (e : Ended) → GaveLedger (sides_of old) at s → RanFrom (reloaded old k at) new records s e → Outcome old new (Some command.Import) e
unfolding Ends
import_outcome old new k at s e gave ran = let both = loaded old new k at records s e gave ran in record { ends = both.0; cause = both.1 }

-- with a trial balance behind it
loaded_all : {I K : Type 0} (old new : Outside I K) (k : K) (at : Sides) (from to : ℕ) (s : State) (refused : Bool) → KeepsRows old.rows at.keeper.rows → TriedAll (reloaded old k (same_sink old at)) new from to s refused → TriedAll old new from to s refused
loaded_all old new k at from to s refused keeps tried =
    record { bytes = tried.bytes; read = tried.read; stands = (tried.stands.0, tried.stands.1, kept_then old.rows at.keeper.rows new.rows _ keeps tried.stands.2, tried.stands.3) }

loaded_cut : {I K : Type 0} (old new : Outside I K) (k : K) (at : Sides) (from to : ℕ) (s : State) (e : Ended) → KeepsRows old.rows at.keeper.rows
    → Runs (reloaded old k (same_sink old at)) new lines s e ⊎ TriedFront (reloaded old k (same_sink old at)) new from to s → Runs old new lines s e ⊎ TriedFront old new from to s
loaded_cut old new k at from to s e keeps (inl ran) = inl (loaded_run old new k at lines s e keeps ran)
loaded_cut old new k at from to s e keeps (inr tried) =
    inr (record { bytes = tried.bytes; read = tried.read; stands = (tried.stands.0, tried.stands.1, kept_then old.rows at.keeper.rows new.rows _ keeps tried.stands.2) })

loaded_trial : {I K : Type 0} (old new : Outside I K) (k : K) (at : Sides) (from to : ℕ) (s : State) (e : Ended) → KeepsRows old.rows at.keeper.rows → Tries (reloaded old k (same_sink old at)) new from to s e → Tries old new from to s e
loaded_trial old new k at from to s ended.Done keeps tried = loaded_all old new k at from to s false keeps tried
loaded_trial old new k at from to s ended.Refused keeps tried = loaded_all old new k at from to s true keeps tried
loaded_trial old new k at from to s ended.Usage keeps tried = absurd tried
loaded_trial old new k at from to s ended.Source keeps tried = loaded_run old new k at lines s ended.Source keeps tried
loaded_trial old new k at from to s ended.Sink keeps tried = loaded_cut old new k at from to s ended.Sink keeps tried
loaded_trial old new k at from to s ended.Keeper keeps tried = loaded_run old new k at lines s ended.Keeper keeps tried
loaded_trial old new k at from to s ended.Memory keeps tried = loaded_cut old new k at from to s ended.Memory keeps tried
loaded_trial old new k at from to s ended.Door keeps tried = absurd tried
loaded_trial old new k at from to s ended.Damaged keeps tried = absurd tried
loaded_trial old new k at from to s ended.Endless keeps tried = loaded_run old new k at lines s ended.Endless keeps tried

-- and its cause, from the load on
pub record TriedFrom {I K : Type 0} (old new : Outside I K) (from to : ℕ) (s : State) (e : Ended) : Type 0 where
  pub tried : Tries old new from to s e
  pub cause : HasCause old new e

pub trial_outcome : {I K : Type 0} (old new : Outside I K) (k : K) (at : Sides) (from to : ℕ) (s : State) (e : Ended) → GaveLedger (sides_of old) at s → TriedFrom (reloaded old k at) new from to s e → Outcome old new (Some (command.Trial from to)) e
unfolding Ends
trial_outcome old new k at from to s e gave tried =
    let same : TriedFrom (reloaded old k (same_sink old at)) new from to s e = subst (λ (x : SinkSide). TriedFrom (reloaded old k (record { sink = x; keeper = at.keeper })) new from to s e) gave.sink tried in
    record {
      ends = inr (record { ledger = s; loaded = gave.loaded; ran = loaded_trial old new k at from to s e gave.rows same.tried });
      cause = loaded_cause old new k at e gave.count same.cause;
    }

-- ---- no ledger was loaded

unloaded_cause : {I K : Type 0} (old new : Outside I K) (e : Ended) → new.source_faults ≡ old.source_faults → NotLoaded (sides_of old) (sides_of new) e → SidesFailed (sides_of old) (sides_of new) e → HasCause old new e
unfolding HasCause
unloaded_cause old new ended.Done same none cause = absurd none
unloaded_cause old new ended.Refused same none cause = absurd none
unloaded_cause old new ended.Usage same none cause = absurd none
unloaded_cause old new ended.Source same none cause = absurd none
unloaded_cause old new ended.Sink same none cause = absurd none
unloaded_cause old new ended.Keeper same none cause = cause
unloaded_cause old new ended.Memory same none cause = record { source = same; sides = cause }
unloaded_cause old new ended.Door same none cause = absurd none
unloaded_cause old new ended.Damaged same none cause = tt
unloaded_cause old new ended.Endless same none cause = absurd none

-- a command that begins with the kept rows
abbrev pub LoadsRows : Command → Type 0
LoadsRows command.Apply = Unit {0}
LoadsRows command.Import = Unit {0}
LoadsRows (command.Export name) = Unit {0}
LoadsRows command.Work = Unit {0}
LoadsRows (command.Statement name cycle) = Unit {0}
LoadsRows (command.Restate name cycle) = Unit {0}
LoadsRows (command.Repay name cycle) = Unit {0}
LoadsRows (command.Demo d) = ⊥
LoadsRows (command.Serve port count) = Unit {0}
LoadsRows (command.Trial from to) = Unit {0}

unloaded_ends : {I K : Type 0} (old new : Outside I K) (c : Command) (e : Ended) → LoadsRows c → new.input ≡ old.input → GaveNone (sides_of old) (sides_of new) e → Ends old new (Some c) e
unfolding Ends
unloaded_ends old new command.Apply e loads same none = inl ((same, none.rows), none.ends)
unloaded_ends old new command.Import e loads same none = inl ((same, none.rows), none.ends)
unloaded_ends old new (command.Export name) e loads same none = ((same, none.rows), inl ((same, none.rows), none.ends))
unloaded_ends old new command.Work e loads same none = ((same, none.rows), inl ((same, none.rows), none.ends))
unloaded_ends old new (command.Statement name cycle) e loads same none = ((same, none.rows), inl ((same, none.rows), none.ends))
unloaded_ends old new (command.Restate name cycle) e loads same none = ((same, none.rows), inl ((same, none.rows), none.ends))
unloaded_ends old new (command.Repay name cycle) e loads same none = ((same, none.rows), inl ((same, none.rows), none.ends))
unloaded_ends old new (command.Demo d) e loads same none = absurd loads
unloaded_ends old new (command.Serve port count) e loads same none = ((same, none.rows), none.ends)
unloaded_ends old new (command.Trial from to) e loads same none = inl ((same, none.rows), none.ends)

pub unloaded_outcome : {I K : Type 0} (old new : Outside I K) (c : Command) (e : Ended) → LoadsRows c → new.input ≡ old.input → new.source_faults ≡ old.source_faults → GaveNone (sides_of old) (sides_of new) e → Outcome old new (Some c) e
unloaded_outcome old new c e loads same count none = record { ends = unloaded_ends old new c e loads same none; cause = unloaded_cause old new e count none.ends none.cause }

-- memory was wanted before anything was done
unloaded_memory : {I K : Type 0} (old : Outside I K) (c : Command) → LoadsRows c → Outcome old old (Some c) ended.Memory
unloaded_memory old c loads =
    unloaded_outcome old old c ended.Memory loads refl refl (record { ends = inl (Appends-nil old.taken); rows = keeps_same old.rows; cause = counts_refl (sides_of old) })

pub untouched_outcome : {I K : Type 0} (old : Outside I K) (c : Option Command) → Outcome old old c ended.Memory
unfolding Ends HasCause
untouched_outcome old None = record {
  ends = (refl, (refl, keeps_same old.rows), record { bytes = []; taken = Appends-nil old.taken; front = front_none _ });
  cause = record { source = refl; sides = counts_refl (sides_of old) };
}
untouched_outcome old (Some command.Apply) = unloaded_memory old command.Apply tt
untouched_outcome old (Some command.Import) = unloaded_memory old command.Import tt
untouched_outcome old (Some (command.Export name)) = unloaded_memory old (command.Export name) tt
untouched_outcome old (Some command.Work) = unloaded_memory old command.Work tt
untouched_outcome old (Some (command.Statement name cycle)) = unloaded_memory old (command.Statement name cycle) tt
untouched_outcome old (Some (command.Restate name cycle)) = unloaded_memory old (command.Restate name cycle) tt
untouched_outcome old (Some (command.Repay name cycle)) = unloaded_memory old (command.Repay name cycle) tt
untouched_outcome old (Some (command.Serve port count)) = unloaded_memory old (command.Serve port count) tt
untouched_outcome old (Some (command.Trial from to)) = unloaded_memory old (command.Trial from to) tt
untouched_outcome old (Some (command.Demo d)) = record {
  ends = (refl, (refl, keeps_same old.rows), record { bytes = []; taken = Appends-nil old.taken; front = front_none _ });
  cause = record { source = refl; sides = counts_refl (sides_of old) };
}

-- ---- a text of a ledger

told_cause : {I K : Type 0} (old new : Outside I K) (text : Option (List ℕ)) (e : Ended) → new.source_faults ≡ old.source_faults → Tells old.taken new.taken e text → SidesFailed (sides_of old) (sides_of new) e → HasCause old new e
unfolding HasCause
told_cause old new text ended.Done same told cause = record { source = same; sides = cause }
told_cause old new text ended.Refused same told cause = record { source = same; sides = cause }
told_cause old new text ended.Usage same told cause = tt
told_cause old new text ended.Source same told cause = no_text text told
  where
    no_text : (text : Option (List ℕ)) → Tells old.taken new.taken ended.Source text → Rose old.source_faults new.source_faults
    no_text None told = absurd told
    no_text (Some t) told = absurd told
told_cause old new text ended.Sink same told cause = cause
told_cause old new text ended.Keeper same told cause = cause
told_cause old new text ended.Memory same told cause = record { source = same; sides = cause }
told_cause old new text ended.Door same told cause = record { source = same; sides = cause }
told_cause old new text ended.Damaged same told cause = tt
told_cause old new text ended.Endless same told cause = record { source = same; sides = cause }

viewed_cause : {I K : Type 0} (old new : Outside I K) (text : State → Option (List ℕ)) (e : Ended) → new.source_faults ≡ old.source_faults → Viewed (sides_of old) (sides_of new) text e → HasCause old new e
viewed_cause old new text e same viewed = of_end viewed.ends
  where
    of_end : NotLoaded (sides_of old) (sides_of new) e ⊎ Loaded old.rows (λ s. Tells old.taken new.taken e (text s)) → HasCause old new e
    of_end (inl none) = unloaded_cause old new e same none viewed.cause
    of_end (inr some) = told_cause old new (text some.ledger) e same some.ran viewed.cause

viewed_loads : {I K : Type 0} (old new : Outside I K) (text : State → Option (List ℕ)) (e : Ended) → new.input ≡ old.input → KeepsRows old.rows new.rows → NotLoaded (sides_of old) (sides_of new) e ⊎ Loaded old.rows (λ s. Tells old.taken new.taken e (text s))
    → Views old new text e
viewed_loads old new text e same keeps (inl none) = ((same, keeps), inl ((same, keeps), none))
viewed_loads old new text e same keeps (inr some) = ((same, keeps), inr some)

pub work_outcome : {I K : Type 0} (old new : Outside I K) (e : Ended) → new.input ≡ old.input → new.source_faults ≡ old.source_faults → Viewed (sides_of old) (sides_of new) (λ s. told s ask.Work) e → Outcome old new (Some command.Work) e
unfolding Ends
work_outcome old new e same count viewed = record { ends = viewed_loads old new (λ s. told s ask.Work) e same viewed.rows viewed.ends; cause = viewed_cause old new (λ s. told s ask.Work) e count viewed }

pub export_outcome : {I K : Type 0} (old new : Outside I K) (name : List ℕ) (e : Ended) → new.input ≡ old.input → new.source_faults ≡ old.source_faults
    → Viewed (sides_of old) (sides_of new) (λ s. told s (ask.Entries name)) e → Outcome old new (Some (command.Export name)) e
unfolding Ends
export_outcome old new name e same count viewed = record { ends = viewed_loads old new (λ s. told s (ask.Entries name)) e same viewed.rows viewed.ends; cause = viewed_cause old new (λ s. told s (ask.Entries name)) e count viewed }

pub statement_outcome : {I K : Type 0} (old new : Outside I K) (name : List ℕ) (cycle : ℕ) (e : Ended) → new.input ≡ old.input → new.source_faults ≡ old.source_faults
    → Viewed (sides_of old) (sides_of new) (λ s. told s (ask.Issued name cycle)) e → Outcome old new (Some (command.Statement name cycle)) e
unfolding Ends
statement_outcome old new name cycle e same count viewed = record { ends = viewed_loads old new (λ s. told s (ask.Issued name cycle)) e same viewed.rows viewed.ends; cause = viewed_cause old new (λ s. told s (ask.Issued name cycle)) e count viewed }

pub restate_outcome : {I K : Type 0} (old new : Outside I K) (name : List ℕ) (cycle : ℕ) (e : Ended) → new.input ≡ old.input → new.source_faults ≡ old.source_faults
    → Viewed (sides_of old) (sides_of new) (λ s. told s (ask.Restated name cycle)) e → Outcome old new (Some (command.Restate name cycle)) e
unfolding Ends
restate_outcome old new name cycle e same count viewed = record { ends = viewed_loads old new (λ s. told s (ask.Restated name cycle)) e same viewed.rows viewed.ends; cause = viewed_cause old new (λ s. told s (ask.Restated name cycle)) e count viewed }

pub repay_outcome : {I K : Type 0} (old new : Outside I K) (name : List ℕ) (cycle : ℕ) (e : Ended) → new.input ≡ old.input → new.source_faults ≡ old.source_faults
    → Viewed (sides_of old) (sides_of new) (λ s. repaid s (ask.Issued name cycle)) e → Outcome old new (Some (command.Repay name cycle)) e
unfolding Ends
repay_outcome old new name cycle e same count viewed = record { ends = viewed_loads old new (λ s. repaid s (ask.Issued name cycle)) e same viewed.rows viewed.ends; cause = viewed_cause old new (λ s. repaid s (ask.Issued name cycle)) e count viewed }

-- ---- the text of a demonstration

-- where the keeper is as it was, what failed of the sink is all that failed
told_sides : (sink at : SinkSide) (keeper : KeeperSide) (text : List ℕ) (e : Ended) → Told sink at (Some text) e → SidesFailed (record { sink = sink; keeper = keeper }) (record { sink = at; keeper = keeper }) e
told_sides sink at keeper text ended.Done told = record { sink = told.cause; keeper = refl }
told_sides sink at keeper text ended.Refused told = absurd told.ends
told_sides sink at keeper text ended.Usage told = absurd told.ends
told_sides sink at keeper text ended.Source told = absurd told.ends
told_sides sink at keeper text ended.Sink told = told.cause
told_sides sink at keeper text ended.Keeper told = absurd told.ends
told_sides sink at keeper text ended.Door told = absurd told.ends
told_sides sink at keeper text ended.Memory told = record { sink = told.cause; keeper = refl }
told_sides sink at keeper text ended.Damaged told = absurd told.ends
told_sides sink at keeper text ended.Endless told = absurd told.ends

-- the sink alone was touched
pub demo_outcome : {I K : Type 0} (old : Outside I K) (at : SinkSide) (d : Demonstration) (e : Ended) → Told (sides_of old).sink at (Some (demo_text d.start d.accounts d.cycles)) e
    → Outcome old (record old { taken = at.taken; sink_faults = at.faults }) (Some (command.Demo d)) e
unfolding Ends
demo_outcome old at d e told =
    let text = demo_text d.start d.accounts d.cycles in
    let new = record old { taken = at.taken; sink_faults = at.faults } in
    record {
      ends = (refl, (refl, keeps_same old.rows), told.ends);
      cause = told_cause old new (Some text) e refl told.ends (told_sides (sides_of old).sink at (sides_of old).keeper text e told);
    }
