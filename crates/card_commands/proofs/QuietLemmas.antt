-- What a call comes to that nothing outside gets in the way of.
use Rattle.std.proofs.Common.{ℕ, ◌<◌, ◌≤◌, inl, inr, List, [], ◌∷◌, length, refl, ap, subst, arith, length-append, Option, None, Some}
use Rattle.std.specs.Io.KnownBytes.{Consumes}
use Rattle.card_desk.specs.Kept.{AreSound, AreDamaged, AreDamagedAt}
use Rattle.card_events.specs.declared.request.Request.{Request}
use Rattle.card_ports.specs.declared.row.Row.{Row}
use Rattle.card_model.specs.Machine.{State}
use Rattle.card_commands.specs.Statuses.{status_of, IsOneOf}
use Rattle.card_commands.specs.Input.{Cut, lines, records}
use Rattle.card_commands.specs.Outside.{Outside, Outcome, Runs, Tries, HasCause, Loads, Views, Ends, sides_of}
use Rattle.card_commands.specs.Views.{NotLoaded, Tells}
use Rattle.card_commands.specs.Quiet.{NothingFailed, HasSoundRows, HasFewerLeft, IsQuiet}
use Rattle.card_words.specs.declared.command.Command.{Command}
use Rattle.card_words.specs.declared.command.Command.TheVariants as command
use Rattle.card_commands.specs.declared.ended.Ended.{Ended}
use Rattle.card_commands.specs.declared.ended.Ended.TheVariants as ended

-- sound rows are damaged nowhere
abbrev pub NeverDamaged : Type 0
NeverDamaged = (rows : List Row) (requests : List Request) (n : ℕ) → AreSound rows requests → AreDamaged rows n → ⊥

consumed : (input : List ℕ) (new : Option (List ℕ)) (bytes : List ℕ) → Consumes (Some input) new bytes → length bytes ≤ length input
consumed input None bytes read = absurd read
consumed input (Some rest) bytes read = omega (arith, ap length read, length-append bytes rest)

-- no more is read than was left
no_more_read : {I K : Type 0} (old new : Outside I K) (bytes : List ℕ) (limit : ℕ) → HasFewerLeft old limit → Consumes old.left new.left bytes → length bytes < limit
no_more_read old new bytes limit few read = omega (arith, few.few, consumed few.bytes new.left bytes (subst (λ (x : Option (List ℕ)). Consumes x new.left bytes) few.told read))

quiet_run : {I K : Type 0} (old new : Outside I K) (cut : Cut) (s : State) (e : Ended) → Runs old new cut s e → HasCause old new e → NothingFailed old new → HasFewerLeft old cut.limit → IsOneOf (status_of e) (0 ∷ 1 ∷ 6 ∷ [])
unfolding HasCause
quiet_run old new cut s ended.Done ran cause none few = inl refl
quiet_run old new cut s ended.Refused ran cause none few = inr (inl refl)
quiet_run old new cut s ended.Usage ran cause none few = absurd ran
quiet_run old new cut s ended.Source ran cause none few = absurd (none.source cause)
quiet_run old new cut s ended.Sink ran cause none few = absurd (none.sink cause)
quiet_run old new cut s ended.Keeper ran cause none few = absurd (none.keeper cause)
quiet_run old new cut s ended.Memory ran cause none few = inr (inr (inl refl))
quiet_run old new cut s ended.Door ran cause none few = absurd ran
quiet_run old new cut s ended.Damaged ran cause none few = absurd ran
quiet_run old new cut s ended.Endless ran cause none few =
    let all = ran.stands.0 in
    let less = no_more_read old new ran.bytes cut.limit few ran.read in
    absurd (omega (arith, all, less))

quiet_load : {I K : Type 0} (never : NeverDamaged) (old new : Outside I K) (e : Ended) → NotLoaded (sides_of old) (sides_of new) e → HasCause old new e → NothingFailed old new → HasSoundRows old → IsOneOf (status_of e) (0 ∷ 1 ∷ 6 ∷ [])
unfolding HasCause
quiet_load never old new ended.Done not cause none sound = absurd not
quiet_load never old new ended.Refused not cause none sound = absurd not
quiet_load never old new ended.Usage not cause none sound = absurd not
quiet_load never old new ended.Source not cause none sound = absurd not
quiet_load never old new ended.Sink not cause none sound = absurd not
quiet_load never old new ended.Keeper not cause none sound = absurd (none.keeper cause)
quiet_load never old new ended.Memory not cause none sound = inr (inr (inl refl))
quiet_load never old new ended.Door not cause none sound = absurd not
quiet_load never old new ended.Damaged not cause none sound =
    absurd (never sound.rows sound.requests not.number sound.sound (subst (λ (x : Option (List Row)). AreDamagedAt x not.number) sound.told not.damaged))
quiet_load never old new ended.Endless not cause none sound = absurd not

quiet_loads : {I K : Type 0} (never : NeverDamaged) (old new : Outside I K) (cut : Cut) (e : Ended) → Loads old new (Runs old new cut) e → HasCause old new e → NothingFailed old new → HasSoundRows old → HasFewerLeft old cut.limit
    → IsOneOf (status_of e) (0 ∷ 1 ∷ 6 ∷ [])
quiet_loads never old new cut e (inl not) cause none sound few = quiet_load never old new e not.1 cause none sound
quiet_loads never old new cut e (inr run) cause none sound few = quiet_run old new cut run.ledger e run.ran cause none few

-- with a trial balance behind it
quiet_tried : {I K : Type 0} (old new : Outside I K) (from to : ℕ) (s : State) (e : Ended) → Tries old new from to s e → HasCause old new e → NothingFailed old new → HasFewerLeft old lines.limit → IsOneOf (status_of e) (0 ∷ 1 ∷ 6 ∷ [])
unfolding HasCause
quiet_tried old new from to s ended.Done tried cause none few = inl refl
quiet_tried old new from to s ended.Refused tried cause none few = inr (inl refl)
quiet_tried old new from to s ended.Usage tried cause none few = absurd tried
quiet_tried old new from to s ended.Source tried cause none few = absurd (none.source cause)
quiet_tried old new from to s ended.Sink tried cause none few = absurd (none.sink cause)
quiet_tried old new from to s ended.Keeper tried cause none few = absurd (none.keeper cause)
quiet_tried old new from to s ended.Memory tried cause none few = inr (inr (inl refl))
quiet_tried old new from to s ended.Door tried cause none few = absurd tried
quiet_tried old new from to s ended.Damaged tried cause none few = absurd tried
quiet_tried old new from to s ended.Endless tried cause none few = quiet_run old new lines s ended.Endless tried cause none few

quiet_trial : {I K : Type 0} (never : NeverDamaged) (old new : Outside I K) (from to : ℕ) (e : Ended) → Loads old new (Tries old new from to) e → HasCause old new e → NothingFailed old new → HasSoundRows old → HasFewerLeft old lines.limit
    → IsOneOf (status_of e) (0 ∷ 1 ∷ 6 ∷ [])
quiet_trial never old new from to e (inl not) cause none sound few = quiet_load never old new e not.1 cause none sound
quiet_trial never old new from to e (inr run) cause none sound few = quiet_tried old new from to run.ledger e run.ran cause none few

quiet_text : {I K : Type 0} (old new : Outside I K) (text : Option (List ℕ)) (e : Ended) → Tells old.taken new.taken e text → HasCause old new e → NothingFailed old new → IsOneOf (status_of e) (0 ∷ 1 ∷ 6 ∷ [])
unfolding HasCause
quiet_text old new text ended.Done told cause none = inl refl
quiet_text old new text ended.Refused told cause none = inr (inl refl)
quiet_text old new None ended.Usage told cause none = absurd told
quiet_text old new (Some t) ended.Usage told cause none = absurd told
quiet_text old new text ended.Source told cause none = absurd (none.source cause)
quiet_text old new text ended.Sink told cause none = absurd (none.sink cause)
quiet_text old new text ended.Keeper told cause none = absurd (none.keeper cause)
quiet_text old new text ended.Memory told cause none = inr (inr (inl refl))
quiet_text old new None ended.Door told cause none = absurd told
quiet_text old new (Some t) ended.Door told cause none = absurd told
quiet_text old new None ended.Damaged told cause none = absurd told
quiet_text old new (Some t) ended.Damaged told cause none = absurd told
quiet_text old new None ended.Endless told cause none = absurd told
quiet_text old new (Some t) ended.Endless told cause none = absurd told

quiet_view : {I K : Type 0} (never : NeverDamaged) (old new : Outside I K) (text : State → Option (List ℕ)) (e : Ended) → Views old new text e → HasCause old new e → NothingFailed old new → HasSoundRows old → IsOneOf (status_of e) (0 ∷ 1 ∷ 6 ∷ [])
quiet_view never old new text e views cause none sound = elim views.1 [
  | inl not ↦ quiet_load never old new e not.1 cause none sound
  | inr some ↦ quiet_text old new (text some.ledger) e some.ran cause none
]

pub quiet : {I K : Type 0} (never : NeverDamaged) (old new : Outside I K) (c : Command) (e : Ended) → Outcome old new (Some c) e → IsQuiet old new c → IsOneOf (status_of e) (0 ∷ 1 ∷ 6 ∷ [])
unfolding Ends IsQuiet
quiet never old new command.Apply e outcome is = quiet_loads never old new lines e outcome.ends outcome.cause is.0 is.1 is.2
quiet never old new command.Import e outcome is = quiet_loads never old new records e outcome.ends outcome.cause is.0 is.1 is.2
quiet never old new (command.Export name) e outcome is = quiet_view never old new _ e outcome.ends outcome.cause is.0 is.1
quiet never old new command.Work e outcome is = quiet_view never old new _ e outcome.ends outcome.cause is.0 is.1
quiet never old new (command.Statement name cycle) e outcome is = quiet_view never old new _ e outcome.ends outcome.cause is.0 is.1
quiet never old new (command.Restate name cycle) e outcome is = quiet_view never old new _ e outcome.ends outcome.cause is.0 is.1
quiet never old new (command.Repay name cycle) e outcome is = quiet_view never old new _ e outcome.ends outcome.cause is.0 is.1
quiet never old new (command.Demo d) e outcome is = quiet_text old new _ e outcome.ends.2 outcome.cause is
quiet never old new (command.Serve port count) e outcome is = quiet_load never old new e outcome.ends.1 outcome.cause is.0 is.1
quiet never old new (command.Trial from to) e outcome is = quiet_trial never old new from to e outcome.ends outcome.cause is.0 is.1 is.2
