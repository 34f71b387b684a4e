-- What the demonstration comes to. Cents.
use Rattle.std.specs.Prelude.{ℕ, zero, suc, ◌+◌, ◌-◌, List, [], ◌∷◌, ◌++◌, Option, Some, None, length, codes}
use Rattle.std.specs.Fmt.{decimal}
use Rattle.card_demo.specs.Progress.{refusals}
use Rattle.card_demo.specs.Requests.{account, demo_requests}
use Rattle.card_demo.specs.Sums.{totals}
use Rattle.card_demo.specs.declared.totals.Totals.{Totals}
use Rattle.card_model.specs.Machine.{State, lists_of, run, start}
use Rattle.card_model.specs.Refusals.{Lists, book_today}
use Rattle.card_model.specs.Work.{present_in}
use Rattle.card_model.specs.declared.entry.Entry.{Entry}
use Rattle.card_events.specs.Money.{money_text}

-- ---- entries
-- those of an account that has these lists, up to the end of today
abbrev pub entries_in : State → Option Lists → List Entry
entries_in s None = []
entries_in s (Some lists) = (book_today (present_in s lists)).entries

-- those of the first so many accounts
unfoldable pub all_entries : State → ℕ → List Entry
all_entries s zero = []
all_entries s (suc i) = all_entries s i ++ entries_in s (lists_of (account (i + 1)) s.accounts)

-- ---- the text
-- a label, a space and a value
abbrev pub line : List ℕ → List ℕ → List ℕ
line label value = label ++ 32 ∷ value ++ 10 ∷ []

-- how many requests there were, were accepted and were refused
unfoldable pub count_lines : ℕ → ℕ → List ℕ
count_lines count refused =
    line (codes "requests") (decimal count) ++ line (codes "accepted") (decimal (count - refused)) ++ line (codes "refused") (decimal refused)

-- what is owed, and of that interest and fees
unfoldable pub sum_lines : Totals → List ℕ
sum_lines t = line (codes "owed") (money_text t.owed) ++ line (codes "interest") (money_text t.interest) ++ line (codes "fees") (money_text t.fees)

-- six lines
unfoldable pub summary_text : ℕ → ℕ → Totals → List ℕ
summary_text count refused t = count_lines count refused ++ sum_lines t

-- what the generated requests come to over an empty ledger: how many there are, and the sums over all accounts after the last
unfoldable pub demo_text : ℕ → ℕ → ℕ → List ℕ
demo_text seed accounts cycles =
    let requests = demo_requests seed accounts cycles in
    summary_text (length requests) (refusals start requests) (totals (all_entries (run requests) accounts))
