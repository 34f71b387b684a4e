-- What holds of parts that are put back.
use Rattle.std.specs.Prelude.{◌≡◌, ℕ, ◌<◌, List, ◌++◌, length, ℤ}
use Rattle.card_model.specs.Effects.{parts_entries, put_back}
use Rattle.card_model.specs.Entries.{AreBalances, posted}
use Rattle.card_model.specs.declared.entry.Entry.{Entry}
use Rattle.card_model.specs.declared.entry.Note.{Note}
use Rattle.card_segments.specs.Balances.{AreOn, HaveSigns}
use Rattle.card_segments.specs.Parts.{AreParts, AreSettled, back_entries, parts_in}

-- where no segment but Held is above 0 while Credit isn't 0, parts that are put back right after they were taken leave the
-- balances from before
abbrev pub PutBackUndoesTake : Type 0
PutBackUndoesTake =
    (note returned : Note) (newest cents : ℕ) (balances : List ℤ) (parts : List (ℕ × ℕ)) → HaveSigns balances → AreSettled balances → newest < length balances → AreParts balances cents parts
    → posted (back_entries returned newest parts (posted (parts_entries note parts) balances)) (posted (parts_entries note parts) balances) ≡ balances

-- where each balance is the sum of its segment's entries, the parts that a payment's entries tell are put back as the ledger
-- puts those entries back
abbrev pub PutBackIsOfEntries : Type 0
PutBackIsOfEntries =
    (note : Note) (newest : ℕ) (paid entries : List Entry) (balances : List ℤ) → AreBalances entries balances → newest < length balances → AreOn (length balances) paid
    → put_back note newest paid entries ≡ entries ++ back_entries note newest (parts_in paid) balances
