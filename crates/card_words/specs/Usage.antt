-- What is said of words that are no command.
use Rattle.std.specs.Prelude.{ℕ, List, [], ◌∷◌, ◌++◌, codes}

unfoldable pub usage_line : List ℕ
usage_line = codes "usage: apply | import | statement ACCOUNT CYCLE | restate ACCOUNT CYCLE | export ACCOUNT | work | demo START ACCOUNTS CYCLES | serve PORT COUNT | repay ACCOUNT CYCLE | trial FROM TO" ++ 10 ∷ []
