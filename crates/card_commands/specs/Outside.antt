-- What a call finds outside and leaves there, and what the one has to do with the other.
use Rattle.std.specs.Prelude.{◌≡◌, ◌⊎◌, ℕ, ◌-◌, Bool, true, false, List, ◌++◌, length, take, Option, Some, None, ⊤}
use Rattle.std.specs.Io.KnownBytes.{Appends, Consumes, IsAtEnd}
use Rattle.card_demo.specs.Summary.{demo_text}
use Rattle.card_trial.specs.Trial.{trial_text}
use Rattle.card_ports.specs.Rows.{AddsRows, KeepsRows}
use Rattle.card_ports.specs.declared.row.Row.{Row}
use Rattle.card_model.specs.Machine.{State}
use Rattle.card_ports.specs.Counts.{Rose}
use Rattle.card_commands.specs.Input.{Cut, lines, records, all_items}
use Rattle.card_commands.specs.Run.{after, text_of, rows_kept, any_refused}
use Rattle.card_commands.specs.Said.{TookLine}
use Rattle.card_words.specs.Usage.{usage_line}
use Rattle.card_commands.specs.Views.{Loaded, NotLoaded, Tells}
use Rattle.card_ports.specs.Written.{TookFront}
use Rattle.card_desk.specs.declared.view.Ask.TheVariants as ask
use Rattle.card_http.specs.Told.{repaid, told}
use Rattle.card_commands.specs.Written.{Sides, TookBetween, SameCounts}
use Rattle.card_words.specs.declared.command.Command.{Command}
use Rattle.card_words.specs.declared.command.Command.TheVariants as command
use Rattle.card_commands.specs.declared.ended.Ended.{Ended}
use Rattle.card_commands.specs.declared.ended.Ended.TheVariants as ended
use Rattle.card_text.specs.declared.item.Item.{Item}

-- the source and the bytes left in it, the bytes that the sink took, the keeper and its rows; and how often each failed
pub record Outside (I K : Type 0) : Type 0 where
  pub input : I
  pub left : Option (List ℕ)
  pub source_faults : ℕ
  pub taken : Option (List ℕ)
  pub sink_faults : ℕ
  pub keeper : K
  pub rows : Option (List Row)
  pub keeper_faults : ℕ

-- what a source, a sink and a keeper tell of themselves
abbrev pub outside : {I O K : Type 0} → (I → Option (List ℕ)) → (I → ℕ) → (O → Option (List ℕ)) → (O → ℕ) → (K → Option (List Row)) → (K → ℕ) → I → O → K → Outside I K
outside left source_faults taken sink_faults rows keeper_faults input output keeper = record {
  input = input;
  left = left input;
  source_faults = source_faults input;
  taken = taken output;
  sink_faults = sink_faults output;
  keeper = keeper;
  rows = rows keeper;
  keeper_faults = keeper_faults keeper;
}

-- of these the sink and the keeper
abbrev pub sides_of : {I K : Type 0} → Outside I K → Sides
sides_of o = record { sink = record { taken = o.taken; faults = o.sink_faults }; keeper = record { rows = o.rows; faults = o.keeper_faults } }

-- these are the first of all
abbrev pub AreFirst : List Item → List Item → Type 0
AreFirst items all = (others : List Item) × (all ≡ items ++ others)

abbrev pub but_last : List Item → List Item
but_last items = take (length items - 1) items

module _ {I K : Type 0} (old new : Outside I K) where
  -- the replies to these items were written, and their rows kept
  abbrev pub Wrote : State → List Item → Type 0
  Wrote s items = Appends old.taken new.taken (text_of s items) × AddsRows old.rows new.rows (rows_kept s items)

  -- the same, but of the last reply a front was written
  abbrev pub WroteFront : State → List Item → Type 0
  WroteFront s items = TookBetween old.taken new.taken (text_of s (but_last items)) (text_of s items) × AddsRows old.rows new.rows (rows_kept s items)

  -- bytes were read, and P is so of them
  pub record HasRead (P : List ℕ → Type 0) : Type 0 where
    pub bytes : List ℕ
    pub read : Consumes old.left new.left bytes
    pub stands : P bytes

  -- P is so of some first items of what was read; one that only the end of the input ends is among them only there
  abbrev pub ReadFirst : Cut → (List Item → Type 0) → Type 0
  ReadFirst cut P = HasRead (λ bytes. (items : List Item) × (AreFirst items (cut.whole bytes) ⊎ (IsAtEnd new.left × AreFirst items (cut.all bytes))) × P items)

  -- the input was read to its end, and all of its items were handled
  abbrev pub ReadAll : Cut → State → Bool → Type 0
  ReadAll cut s refused = HasRead (λ bytes. IsAtEnd new.left × Wrote s (cut.all bytes) × (any_refused s (cut.all bytes) ≡ refused))

  -- how a run over an input ends
  abbrev pub Runs : Cut → State → Ended → Type 0
  Runs cut s ended.Done = ReadAll cut s false
  Runs cut s ended.Refused = ReadAll cut s true
  Runs cut s ended.Source = HasRead (λ bytes. Wrote s (cut.whole bytes))
  Runs cut s ended.Endless = HasRead (λ bytes. (length bytes ≡ cut.limit) × Wrote s (cut.whole bytes))
  Runs cut s ended.Keeper = ReadFirst cut (Wrote s)
  Runs cut s ended.Sink = ReadFirst cut (WroteFront s)
  Runs cut s ended.Memory = ReadFirst cut (WroteFront s)
  Runs cut s _ = ⊥

  -- the same, and this is the ledger after all items of an input that was read to its end
  abbrev pub ReadAllTo : Cut → State → State → Bool → Type 0
  ReadAllTo cut s t refused = HasRead (λ bytes. IsAtEnd new.left × Wrote s (cut.all bytes) × (any_refused s (cut.all bytes) ≡ refused) × (t ≡ after s (cut.all bytes)))

  abbrev pub RunsTo : Cut → State → State → Ended → Type 0
  RunsTo cut s t ended.Done = ReadAllTo cut s t false
  RunsTo cut s t ended.Refused = ReadAllTo cut s t true
  RunsTo cut s t e = Runs cut s e

  -- the input was read to its end, all of its lines were handled, and the trial balance stands behind the replies
  abbrev pub TriedAll : ℕ → ℕ → State → Bool → Type 0
  TriedAll from to s refused =
      HasRead (λ bytes. IsAtEnd new.left
      × Appends old.taken new.taken (text_of s (all_items bytes) ++ trial_text from to (after s (all_items bytes)))
      × AddsRows old.rows new.rows (rows_kept s (all_items bytes)) × (any_refused s (all_items bytes) ≡ refused))

  -- the same, but of the balance a front was written
  abbrev pub TriedFront : ℕ → ℕ → State → Type 0
  TriedFront from to s =
      HasRead (λ bytes. IsAtEnd new.left
      × TookBetween old.taken new.taken (text_of s (all_items bytes)) (text_of s (all_items bytes) ++ trial_text from to (after s (all_items bytes)))
      × AddsRows old.rows new.rows (rows_kept s (all_items bytes)))

  -- how a run over lines ends that has a trial balance behind it
  abbrev pub Tries : ℕ → ℕ → State → Ended → Type 0
  Tries from to s ended.Done = TriedAll from to s false
  Tries from to s ended.Refused = TriedAll from to s true
  Tries from to s ended.Sink = Runs lines s ended.Sink ⊎ TriedFront from to s
  Tries from to s ended.Memory = Runs lines s ended.Memory ⊎ TriedFront from to s
  Tries from to s e = Runs lines s e

  -- the source wasn't touched, and the rows stay
  abbrev pub Untouched : Type 0
  Untouched = (new.input ≡ old.input) × KeepsRows old.rows new.rows

  -- a ledger was loaded, from which P is so; or none was
  abbrev pub Loads : (State → Ended → Type 0) → Ended → Type 0
  Loads P e = (Untouched × NotLoaded (sides_of old) (sides_of new) e) ⊎ Loaded old.rows (λ s. P s e)

  -- a text of the ledger was told, and nothing else was touched
  abbrev pub Views : (State → Option (List ℕ)) → Ended → Type 0
  Views text e = Untouched × Loads (λ s e. Tells old.taken new.taken e (text s)) e

  -- the usage line was said
  abbrev pub NoCommand : Ended → Type 0
  NoCommand ended.Usage = TookLine old.taken new.taken old.sink_faults new.sink_faults usage_line
  NoCommand ended.Memory = TookFront old.taken new.taken usage_line
  NoCommand _ = ⊥

  -- how a command ends, without a door; and words that are none. A server does nothing without one, but that it may have no
  -- ledger
  unfoldable pub Ends : Option Command → Ended → Type 0
  Ends None e = (new.keeper ≡ old.keeper) × Untouched × NoCommand e
  Ends (Some command.Apply) e = Loads (Runs lines) e
  Ends (Some command.Import) e = Loads (Runs records) e
  Ends (Some (command.Export name)) e = Views (λ s. told s (ask.Entries name)) e
  Ends (Some command.Work) e = Views (λ s. told s ask.Work) e
  Ends (Some (command.Statement name cycle)) e = Views (λ s. told s (ask.Issued name cycle)) e
  Ends (Some (command.Restate name cycle)) e = Views (λ s. told s (ask.Restated name cycle)) e
  Ends (Some (command.Repay name cycle)) e = Views (λ s. repaid s (ask.Issued name cycle)) e
  Ends (Some (command.Demo d)) e = (new.keeper ≡ old.keeper) × Untouched × Tells old.taken new.taken e (Some (demo_text d.start d.accounts d.cycles))
  Ends (Some (command.Serve port count)) e = Untouched × NotLoaded (sides_of old) (sides_of new) e
  Ends (Some (command.Trial from to)) e = Loads (Tries from to) e

  -- nothing failed
  pub record Unfailed : Type 0 where
    pub source : new.source_faults ≡ old.source_faults
    pub sides : SameCounts (sides_of old) (sides_of new)

  -- what failed is what an end names, and where it names nothing outside nothing failed
  unfoldable pub HasCause : Ended → Type 0
  HasCause ended.Source = Rose old.source_faults new.source_faults
  HasCause ended.Sink = Rose old.sink_faults new.sink_faults
  HasCause ended.Keeper = Rose old.keeper_faults new.keeper_faults
  HasCause ended.Usage = ⊤
  HasCause ended.Damaged = ⊤
  HasCause _ = Unfailed

  pub record Outcome (c : Option Command) (e : Ended) : Type 0 where
    pub ends : Ends c e
    pub cause : HasCause e

-- ---- where the bytes of the input are told
-- a run that read it to its end handled all of its lines
abbrev pub HandledAllLines : (I K : Type 0) → Type 0
HandledAllLines I K =
    (old new : Outside I K) (s : State) (refused : Bool) (input : List ℕ) → old.left ≡ Some input
    → ReadAll old new lines s refused → Wrote old new s (all_items input) × (any_refused s (all_items input) ≡ refused)

-- one that its keeper ended handled its first lines
abbrev pub HandledFirstLines : (I K : Type 0) → Type 0
HandledFirstLines I K =
    (old new : Outside I K) (s : State) (input : List ℕ) → old.left ≡ Some input → ReadFirst old new lines (Wrote old new s)
    → (items : List Item) × AreFirst items (all_items input) × Wrote old new s items

-- and so did one that its sink or want of memory ended, which wrote a front of the last reply
abbrev pub HandledFirstLinesInPart : (I K : Type 0) → Type 0
HandledFirstLinesInPart I K =
    (old new : Outside I K) (s : State) (input : List ℕ) → old.left ≡ Some input → ReadFirst old new lines (WroteFront old new s)
    → (items : List Item) × AreFirst items (all_items input) × WroteFront old new s items
