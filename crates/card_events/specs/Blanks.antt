-- The blanks that a ledger can be counted in.
use Rattle.std.specs.Prelude.{◌≡◌, ℕ, ◌<◌}

-- a blank with this name and so many parts is the ledger's own, and has a part to lend
pub record IsBlankOf (ledger_name ledger_parts blank_name blank_parts : ℕ) : Type 0 where
  pub named : blank_name ≡ ledger_name
  pub divided : blank_parts ≡ ledger_parts
  pub some : 0 < blank_parts
