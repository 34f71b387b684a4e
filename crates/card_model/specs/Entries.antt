-- Entries, balances and debits: the ledger's own, with the credit balance of 12 CFR 1026.11(a). Cents; a plus raises what
-- is owed.
use Rattle.std.specs.Prelude.{ℕ, zero, suc, ◌-◌, Bool, true, false, ◌==◌, cond, min, List, [], ◌∷◌, ◌++◌, ℤ, pos, negsuc, ◌+ℤ◌, neg_ℤ, slice_set, slice_index_or, length, ◌≡◌, ◌<◌}
use Rattle.std.specs.List.{All}
use Rattle.card_model.specs.declared.entry.Entry.{Entry}
use Rattle.card_model.specs.declared.entry.EntryKind.{EntryKind}
use Rattle.card_model.specs.declared.entry.EntryKind.TheVariants as kind
use Rattle.card_model.specs.declared.entry.Note.{Note}

-- a number where it is at least 0, else 0
abbrev pub at_least_zero : ℤ → ℕ
at_least_zero (pos n) = n
at_least_zero (negsuc n) = 0

-- the number that is so much below 0
abbrev pub negated : ℕ → ℤ
negated zero = pos 0
negated (suc n) = negsuc n

-- the sum of the entries that pass
abbrev pub sum_of : (Entry → Bool) → List Entry → ℤ
sum_of p [] = pos 0
sum_of p (e ∷ es) = cond (p e) e.cents (pos 0) +ℤ sum_of p es

-- the balance of a segment is the sum of its entries
abbrev pub balance : ℕ → List Entry → ℤ
balance s entries = sum_of (λ e. e.segment == s) entries

-- what is owed on an account is the sum of all its entries
abbrev pub owed : List Entry → ℤ
owed entries = sum_of (λ e. true) entries

-- what is owed on a segment, 0 where nothing is
abbrev pub owing : ℕ → List Entry → ℕ
owing s entries = at_least_zero (balance s entries)

-- the credit balance, which segment 0 holds below 0 (12 CFR 1026.11(a))
abbrev pub credit_balance : List Entry → ℕ
credit_balance entries = at_least_zero (neg_ℤ (balance 0 entries))

-- an entry, or none for an amount of 0
abbrev pub entry_of : Note → ℕ → ℤ → List Entry
entry_of note s (pos zero) = []
entry_of note s (pos (suc n)) = record { day = note.day; segment = s; kind = note.kind; post = note.post; cents = pos (suc n) } ∷ []
entry_of note s (negsuc n) = record { day = note.day; segment = s; kind = note.kind; post = note.post; cents = negsuc n } ∷ []

-- an entry that raises what is owed on a segment
abbrev pub raises : Note → ℕ → ℕ → List Entry
raises note s n = entry_of note s (pos n)

-- an entry that lowers it
abbrev pub lowers : Note → ℕ → ℕ → List Entry
lowers note s n = entry_of note s (negated n)

-- a debit first uses up the credit balance given; the rest goes to the segment
unfoldable pub debit : Note → ℕ → ℕ → ℕ → List Entry
debit note s cents credit = raises note 0 (min cents credit) ++ raises note s (cents - credit)

-- cents of a segment to Held, which is segment 1
abbrev pub holds : Note → ℕ → ℕ → List Entry
holds note s cents = lowers note s cents ++ raises note 1 cents

-- cents out of Held, debited to a segment
abbrev pub releases : Note → ℕ → ℕ → ℕ → List Entry
releases note s cents credit = lowers note 1 cents ++ debit note s cents credit

-- the kinds of two entries are the same
abbrev pub is_kind : EntryKind → EntryKind → Bool
is_kind kind.Charge kind.Charge = true
is_kind kind.Credit kind.Credit = true
is_kind kind.Payment kind.Payment = true
is_kind kind.Return kind.Return = true
is_kind kind.Refund kind.Refund = true
is_kind kind.Fee kind.Fee = true
is_kind kind.Interest kind.Interest = true
is_kind kind.Hold kind.Hold = true
is_kind _ _ = false

-- ---- balances kept in a list, by segment
-- the balances after entries
abbrev pub posted : List Entry → List ℤ → List ℤ
posted [] balances = balances
posted (e ∷ es) balances = posted es (slice_set balances e.segment (slice_index_or balances e.segment (pos 0) +ℤ e.cents))

-- the credit balance, of balances in a list
abbrev pub credit_in : List ℤ → ℕ
credit_in balances = at_least_zero (neg_ℤ (slice_index_or balances 0 (pos 0)))

-- each balance in the list is the sum of its segment's entries, and no entry is of another segment
pub record AreBalances (entries : List Entry) (balances : List ℤ) : Type 0 where
  pub each : (s : ℕ) → s < length balances → slice_index_or balances s (pos 0) ≡ balance s entries
  pub known : All (λ e. e.segment < length balances) entries
