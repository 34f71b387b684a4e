-- The segments of an account with their balances, as clauses see them. Cents.
use Rattle.std.specs.Prelude.{◌≡◌, ℕ, ◌<◌, ◌≤◌, List, [], ◌∷◌, length, None, ℤ, pos, ◌+ℤ◌, ◌≤ℤ◌, neg_ℤ, slice_index_or}
use Rattle.std.specs.List.{All}
use Rattle.card_model.specs.Entries.{posted}
use Rattle.card_model.specs.Limits.{balance_limit}
use Rattle.card_model.specs.Segments.{unbilled}
use Rattle.card_model.specs.declared.entry.Entry.{Entry}
use Rattle.card_model.specs.declared.segment.Segment.{Segment}
use Rattle.card_model.specs.declared.segment.Sort.{Sort}
use Rattle.card_model.specs.declared.segment.Sort.TheVariants as sort

-- the segments by number, and the balance of each
pub record Balances : Type 0 where
  pub segments : List Segment
  pub balances : List ℤ

-- a vintage that stands from the opening day on, without an end; the post that opened the account began it
abbrev pub opening_vintage : Sort → ℕ → Segment
opening_vintage s opened = record { sort = s; post = 1; begins = opened; ends = None }

-- Credit, Held and the opening vintages of purchases, cash advances and balance transfers
abbrev pub opening_segments : ℕ → List Segment
opening_segments opened =
    unbilled sort.Credit opened ∷ unbilled sort.Held opened ∷ opening_vintage sort.Purchase opened ∷ opening_vintage sort.Cash opened ∷ opening_vintage sort.Transfer opened ∷ []

-- after entries: the segments stay, and each balance moves by the entries on its segment
abbrev pub after_entries : List Entry → Balances → Balances
after_entries entries b = record { segments = b.segments; balances = posted entries b.balances }

-- each entry is on one of the first n segments
abbrev pub AreOn : ℕ → List Entry → Type 0
AreOn n entries = All (λ e. e.segment < n) entries

-- the sum of balances
abbrev pub total : List ℤ → ℤ
total [] = pos 0
total (b ∷ bs) = b +ℤ total bs

-- from -n to n
abbrev pub IsWithin : ℕ → ℤ → Type 0
IsWithin n z = (neg_ℤ (pos n) ≤ℤ z) × (z ≤ℤ pos n)

-- each balance is at most n in size
abbrev pub AreWithin : ℕ → List ℤ → Type 0
AreWithin n balances = (s : ℕ) → IsWithin n (slice_index_or balances s (pos 0))

-- Credit isn't above 0, and no other segment is below
pub record HaveSigns (balances : List ℤ) : Type 0 where
  pub credit : slice_index_or balances 0 (pos 0) ≤ℤ pos 0
  pub owing : (s : ℕ) → 1 ≤ s → pos 0 ≤ℤ slice_index_or balances s (pos 0)

-- no balance is ever above it in size, in cents: eleven times what an account can owe
abbrev pub largest_balance : ℕ
largest_balance = 11_000_000_000_000_000

-- balances up to it in size, in cents, stay in their range after a call: ten times what an account can owe
abbrev pub movable_balance : ℕ
movable_balance = 10_000_000_000_000_000

-- what a call may move: 0 to 10^15 cents, with balances of at most n cents in size
pub record MayMoveWithin (n : ℕ) (cents : ℤ) (balances : List ℤ) : Type 0 where
  pub amount : pos 0 ≤ℤ cents
  pub limit : cents ≤ℤ pos balance_limit
  pub small : AreWithin n balances

-- what always holds: each segment has its balance, 5 to 64 there are, and no balance is out of its range
pub record AreKept (segments : List Segment) (balances : List ℤ) : Type 0 where
  pub equal : length segments ≡ length balances
  pub five : 5 ≤ length balances
  pub few : length balances ≤ 64
  pub small : AreWithin largest_balance balances
  pub signs : HaveSigns balances
