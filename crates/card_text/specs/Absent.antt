-- What is said where what is asked for isn't there.
use Rattle.std.specs.Prelude.{ℕ, List, codes}

unfoldable pub none_line : List ℕ
none_line = codes "none\n"
