-- The generator of the demonstration: a number below 2^64.
use Rattle.std.specs.Prelude.{ℕ, ◌+◌, ◌*◌, ◌/◌, ◌%◌, ◌^◌}

-- the number after x
unfoldable pub stepped : ℕ → ℕ
stepped x = (x * 6364136223846793005 + 1442695040888963407) % 2 ^ 64

-- what is drawn where the generator is at x: the upper 31 bits of the number after it
unfoldable pub drawn : ℕ → ℕ
drawn x = stepped x / 2 ^ 33
