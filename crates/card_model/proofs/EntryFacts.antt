-- Facts on the entries of one note: their balances, and what holds of each.
use Rattle.std.proofs.Common.{◌≡◌, ℕ, zero, suc, ◌-◌, cond, List, [], ◌∷◌, ◌++◌, ap, ◌∙◌, ℤ, pos, negsuc, ◌+ℤ◌, eqb}
use Rattle.std.specs.List.{All}
use Rattle.std.proofs.lemmas.List.Elements.{All-nil, All-cons, All-append}
use Rattle.std.specs.Prelude.{min}
use Rattle.card_model.specs.Effects.{parts_entries}
use Rattle.card_model.specs.Entries.{balance, debit, entry_of, holds, negated, raises, releases}
use Rattle.card_model.specs.declared.entry.Entry.{Entry}
use Rattle.card_model.specs.declared.entry.EntryKind.{EntryKind}
use Rattle.card_model.specs.declared.entry.Note.{Note}
use Rattle.card_model.specs.declared.entry.EntryKind.TheVariants as kind
use Rattle.card_model.proofs.Posted.{sum_of-append, balance-entry_of}

pub balance-append : (s : ℕ) (xs ys : List Entry) → balance s (xs ++ ys) ≡ balance s xs +ℤ balance s ys
balance-append s xs ys = sum_of-append (λ e. eqb e.segment s) xs ys

pub balance-debit : (note : Note) (g x credit s : ℕ) → balance s (debit note g x credit) ≡ cond (eqb 0 s) (pos (min x credit)) (pos 0) +ℤ cond (eqb g s) (pos (x - credit)) (pos 0)
unfolding debit
balance-debit note g x credit s =
    let first = balance-entry_of note 0 (pos (min x credit)) s in
    let second = balance-entry_of note g (pos (x - credit)) s in
    balance-append s (raises note 0 (min x credit)) (raises note g (x - credit)) ∙ (ap (λ y. y +ℤ balance s (raises note g (x - credit))) first ∙ ap (λ y. cond (eqb 0 s) (pos (min x credit)) (pos 0) +ℤ y) second)

-- entries of one note
abbrev pub Notes : (Entry → Type 0) → ℕ → EntryKind → ℕ → Type 0
Notes p day k n = (s : ℕ) (z : ℤ) → p (record { day = day; segment = s; kind = k; post = n; cents = z })

pub all-entry : (p : Entry → Type 0) (day n s : ℕ) (k : EntryKind) (z : ℤ) → Notes p day k n → All p (entry_of (record { day = day; kind = k; post = n }) s z)
all-entry p day n s k (pos zero) h = All-nil p
all-entry p day n s k (pos (suc a)) h = All-cons p _ [] (h s (pos (suc a))) (All-nil p)
all-entry p day n s k (negsuc a) h = All-cons p _ [] (h s (negsuc a)) (All-nil p)

pub all-debit : (p : Entry → Type 0) (day n s x credit : ℕ) (k : EntryKind) → Notes p day k n → All p (debit (record { day = day; kind = k; post = n }) s x credit)
unfolding debit
all-debit p day n s x credit k h = All-append p _ _ (all-entry p day n 0 k (pos (min x credit)) h) (all-entry p day n s k (pos (x - credit)) h)

pub all-parts : (p : Entry → Type 0) (day n : ℕ) (k : EntryKind) (ps : List (ℕ × ℕ)) → Notes p day k n → All p (parts_entries (record { day = day; kind = k; post = n }) ps)
all-parts p day n k [] h = All-nil p
all-parts p day n k (x ∷ ps) h = All-append p _ _ (all-entry p day n x.0 k (negated x.1) h) (all-parts p day n k ps h)

pub all-holds : (p : Entry → Type 0) (day n s x : ℕ) → Notes p day kind.Hold n → All p (holds (record { day = day; kind = kind.Hold; post = n }) s x)
all-holds p day n s x h = All-append p _ _ (all-entry p day n s kind.Hold (negated x) h) (all-entry p day n 1 kind.Hold (pos x) h)

pub all-releases : (p : Entry → Type 0) (day n s x credit : ℕ) → Notes p day kind.Hold n → All p (releases (record { day = day; kind = kind.Hold; post = n }) s x credit)
all-releases p day n s x credit h = All-append p _ _ (all-entry p day n 1 kind.Hold (negated x) h) (all-debit p day n s x credit kind.Hold h)
