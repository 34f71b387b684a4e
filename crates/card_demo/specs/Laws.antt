-- Laws of the generated requests.
use Rattle.std.specs.Prelude.{◌≡◌, ℕ, ◌+◌, ◌*◌, length}
use Rattle.card_demo.specs.Requests.{demo_requests}

-- two, an opening of each account, and in each cycle seven for each account and a roll
abbrev pub RequestsAreCounted : Type 0
RequestsAreCounted = (start accounts count : ℕ) → length (demo_requests start accounts count) ≡ 2 + accounts + count * (7 * accounts + 1)
