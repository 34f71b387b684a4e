-- The entries of each call are on segments that are there.
use Rattle.std.proofs.Common.{ℕ, ◌<◌, arith, pos}
use Rattle.std.specs.List.{All}
use Rattle.std.proofs.lemmas.List.Elements.{All-append}
use Rattle.card_model.specs.Entries.{debit, holds, lowers, negated, raises, releases}
use Rattle.card_model.specs.declared.entry.Entry.{Entry}
use Rattle.card_model.specs.declared.entry.Note.{Note}
use Rattle.card_model.proofs.Posted.{debit-known, entry_of-known}

pub lowers-known : (note : Note) (s x n : ℕ) → s < n → All (λ (e : Entry). e.segment < n) (lowers note s x)
lowers-known note s x n l = entry_of-known note s (negated x) n l

pub holds-known : (note : Note) (s x n : ℕ) → 1 < n → s < n → All (λ (e : Entry). e.segment < n) (holds note s x)
holds-known note s x n h l =
    All-append (λ (e : Entry). e.segment < n) (lowers note s x) (raises note 1 x) (entry_of-known note s (negated x) n l) (entry_of-known note 1 (pos x) n h)

pub releases-known : (note : Note) (s x credit n : ℕ) → 1 < n → s < n → All (λ (e : Entry). e.segment < n) (releases note s x credit)
releases-known note s x credit n h l =
    All-append (λ (e : Entry). e.segment < n) (lowers note 1 x) (debit note s x credit) (entry_of-known note 1 (negated x) n h) (debit-known note s x credit n (omega arith) l)

pub debit-on : (note : Note) (s x credit n : ℕ) → 1 < n → s < n → All (λ (e : Entry). e.segment < n) (debit note s x credit)
debit-on note s x credit n h l = debit-known note s x credit n (omega arith) l
