-- Which words are a command.
use Rattle.std.specs.Prelude.{◌&&◌, ℕ, nat_le, if◌then◌else◌, List, [], ◌∷◌, Option, Some, None, codes, Bool}
use Rattle.std.specs.Option.{option_map}
use Rattle.std.specs.Str.{bytes_eq}
use Rattle.card_words.specs.Demonstrations.{Demonstration, demonstration}
use Rattle.card_lines.specs.Forms.{day_of, name_of, number_of}
use Rattle.card_words.specs.declared.command.Command.{Command}
use Rattle.card_words.specs.declared.command.Command.TheVariants as command

-- the command of one word
abbrev pub command_of_word : List ℕ → Option Command
command_of_word word =
    if bytes_eq word (codes "apply") then Some command.Apply
    else if bytes_eq word (codes "import") then Some command.Import
    else if bytes_eq word (codes "work") then Some command.Work
    else None

-- the command of a word and the name of the account that it is about
abbrev pub command_of_account : List ℕ → List ℕ → Option Command
command_of_account word account = if bytes_eq word (codes "export") then option_map command.Export (name_of account) else None

-- cycles are numbered from 1 to 1,200
abbrev pub is_cycle : ℕ → Bool
is_cycle n = nat_le 1 n && nat_le n 1200

abbrev pub cycle_among : Option ℕ → Option ℕ
cycle_among None = None
cycle_among (Some n) = if is_cycle n then Some n else None

-- the number of a cycle
unfoldable pub cycle_of : List ℕ → Option ℕ
cycle_of word = cycle_among (number_of word)

-- the command of a word about a cycle of an account with this name
abbrev pub command_about : List ℕ → List ℕ → ℕ → Option Command
command_about word name cycle =
    if bytes_eq word (codes "statement") then Some (command.Statement name cycle)
    else if bytes_eq word (codes "restate") then Some (command.Restate name cycle)
    else if bytes_eq word (codes "repay") then Some (command.Repay name cycle)
    else None

-- where both are there
abbrev pub command_of_cycle : List ℕ → Option (List ℕ) → Option ℕ → Option Command
command_of_cycle word name None = None
command_of_cycle word None (Some cycle) = None
command_of_cycle word (Some name) (Some cycle) = command_about word name cycle

-- a number, where it is one of these
abbrev pub within : ℕ → ℕ → Option ℕ → Option ℕ
within low high None = None
within low high (Some n) = if nat_le low n && nat_le n high then Some n else None

-- a decimal number from low to high
abbrev pub number_between : ℕ → ℕ → List ℕ → Option ℕ
number_between low high text = within low high (number_of text)

-- a server, by its port and how many connections it attends to
abbrev pub server_of : Option ℕ → Option ℕ → Option Command
server_of None count = None
server_of (Some port) None = None
server_of (Some port) (Some count) = Some (command.Serve port count)

-- a trial balance, from one day to another that isn't before it
abbrev pub trial_of : Option ℕ → Option ℕ → Option Command
trial_of None to = None
trial_of (Some from) None = None
trial_of (Some from) (Some to) = if nat_le from to then Some (command.Trial from to) else None

-- the command of a word and two more
abbrev pub command_of_two : List ℕ → List ℕ → List ℕ → Option Command
command_of_two word first second =
    if bytes_eq word (codes "serve") then server_of (number_between 1 65535 first) (number_between 1 1000000 second)
    else if bytes_eq word (codes "trial") then trial_of (day_of first) (day_of second)
    else command_of_cycle word (name_of first) (cycle_of second)

-- the demonstration of three numbers, where all are there and in range
abbrev pub demonstration_of : Option ℕ → Option ℕ → Option ℕ → Option Demonstration
demonstration_of None accounts cycles = None
demonstration_of (Some start) None cycles = None
demonstration_of (Some start) (Some accounts) None = None
demonstration_of (Some start) (Some accounts) (Some cycles) = demonstration start accounts cycles

-- the command of a word and three numbers
abbrev pub command_of_numbers : List ℕ → List ℕ → List ℕ → List ℕ → Option Command
command_of_numbers word start accounts cycles =
    if bytes_eq word (codes "demo") then option_map command.Demo (demonstration_of (number_of start) (number_of accounts) (number_of cycles)) else None

abbrev pub command_of : List (List ℕ) → Option Command
command_of [] = None
command_of (word ∷ []) = command_of_word word
command_of (word ∷ account ∷ []) = command_of_account word account
command_of (word ∷ first ∷ second ∷ []) = command_of_two word first second
command_of (word ∷ start ∷ accounts ∷ cycles ∷ []) = command_of_numbers word start accounts cycles
command_of (word ∷ first ∷ second ∷ third ∷ other ∷ others) = None
