-- Sums of entries. Cents.
use Rattle.std.specs.Prelude.{ℕ, cond, List, [], ◌∷◌, pos, ◌+ℤ◌}
use Rattle.card_demo.specs.declared.totals.Totals.{Totals}
use Rattle.card_desk.specs.declared.view.View.{View}
use Rattle.card_desk.specs.declared.view.View.TheVariants as view
use Rattle.card_model.specs.Entries.{is_kind, owed, sum_of}
use Rattle.card_model.specs.declared.entry.Entry.{Entry}
use Rattle.card_model.specs.declared.entry.EntryKind.TheVariants as kind
use Rattle.card_segments.specs.Balances.{IsWithin}

-- what is owed by entries, and of that interest and fees
unfoldable pub totals : List Entry → Totals
totals entries = record {
  owed = owed entries;
  interest = sum_of (λ e. is_kind kind.Interest e.kind) entries;
  fees = sum_of (λ e. is_kind kind.Fee e.kind) entries;
}

-- with one more entry
abbrev pub with_entry : Entry → Totals → Totals
with_entry e t = record {
  owed = t.owed +ℤ e.cents;
  interest = t.interest +ℤ cond (is_kind kind.Interest e.kind) e.cents (pos 0);
  fees = t.fees +ℤ cond (is_kind kind.Fee e.kind) e.cents (pos 0);
}

-- with more entries, one after the other
unfoldable pub with_entries : List Entry → Totals → Totals
with_entries [] t = t
with_entries (e ∷ es) t = with_entries es (with_entry e t)

-- each sum is at most so much in size
pub record AreWithin (n : ℕ) (t : Totals) : Type 0 where
  pub owed : IsWithin n t.owed
  pub interest : IsWithin n t.interest
  pub fees : IsWithin n t.fees

-- the entries that an answer lists
abbrev pub entries_seen : View → List Entry
entries_seen (view.Entries list) = list.entries
entries_seen _ = []
