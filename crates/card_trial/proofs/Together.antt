-- All accounts together.
use Rattle.std.proofs.Common.{◌≡◌, ℕ, ◌+◌, ◌≤◌, List, [], ◌∷◌, map, refl, arith, ℤ, pos, ◌+ℤ◌}
use Rattle.std.specs.List.{All}
use Rattle.std.proofs.lemmas.Int.{ints}
use Rattle.std.proofs.lemmas.List.Elements.{All-head, All-tail}
use Rattle.std.proofs.lemmas.List.Sums.{sum_by-cons}
use Rattle.card_events.specs.Range.{first_calendar_day}
use Rattle.card_account.specs.Runs.{AreRunning}
use Rattle.card_desk.proofs.FoldLemmas.{all_running}
use Rattle.card_desk.specs.Recorded.{entries_on}
use Rattle.card_events.specs.SharedRows.{shared_rows}
use Rattle.card_model.specs.Machine.{NamedAccount, State}
use Rattle.card_model.specs.declared.entry.Entry.{Entry}
use Rattle.card_model.specs.declared.entry.EntryKind.{EntryKind}
use Rattle.card_model.specs.declared.entry.EntryKind.TheVariants as kind
use Rattle.card_trial.specs.Sums.{all_between, all_kinds, of_all_kinds, sum_between}
use Rattle.card_trial.specs.declared.side.Side.{Side}
use Rattle.card_trial.specs.declared.side.Side.TheVariants as side
use Rattle.card_trial.proofs.Ranges.{sum_by-nothing, sum_by-parts}
use Rattle.card_trial.specs.Laws.{DebitsAndCredits, all_up_to, owed_on, owed_on_all}
use Rattle.card_trial.proofs.Balanced.{held-even, owed-then}
use Rattle.card_trial.proofs.Sides.{sum_up_to}

between-cons : (s : Side) (from to : ℕ) (k : EntryKind) (es : List Entry) (lists : List (List Entry)) → all_between s from to k (es ∷ lists) ≡ sum_between s from to k es + all_between s from to k lists
unfolding all_between
between-cons s from to k es lists = sum_by-cons (sum_between s from to k) es lists

between-none : (s : Side) (from to : ℕ) (k : EntryKind) → all_between s from to k [] ≡ 0
unfolding all_between
between-none s from to k = refl

up_to-cons : (s : Side) (day : ℕ) (es : List Entry) (lists : List (List Entry)) → all_up_to s day (es ∷ lists) ≡ sum_up_to s day es + all_up_to s day lists
unfolding all_up_to of_all_kinds sum_up_to
up_to-cons s day es lists =
    sum_by-parts (λ k. all_between s first_calendar_day day k (es ∷ lists)) (λ k. sum_between s first_calendar_day day k es) (λ k. all_between s first_calendar_day day k lists)
    (λ k. between-cons s first_calendar_day day k es lists) all_kinds

up_to-none : (s : Side) (day : ℕ) → all_up_to s day [] ≡ 0
unfolding all_up_to of_all_kinds
up_to-none s day = sum_by-nothing (λ k. all_between s first_calendar_day day k []) (λ k. between-none s first_calendar_day day k) all_kinds

-- one account
one-owed : (s : State) (day : ℕ) (a : NamedAccount) → AreRunning s a.lists → day ≤ s.today
    → pos (sum_up_to side.Debits day (entries_on s a.lists s.today)) ≡ owed_on s day a +ℤ pos (sum_up_to side.Credits day (entries_on s a.lists s.today))
unfolding entries_on owed_on
one-owed s day a running h = owed-then a.lists.posts a.lists.issued (shared_rows s.shared) day s.today running.sound.opening.first h

one-held : (s : State) (day : ℕ) (a : NamedAccount)
    → sum_between side.Debits day day kind.Hold (entries_on s a.lists s.today) ≡ sum_between side.Credits day day kind.Hold (entries_on s a.lists s.today)
unfolding entries_on
one-held s day a = held-even a.lists.posts a.lists.issued (shared_rows s.shared) day s.today

added : (d e c f : ℕ) (x y : ℤ) → pos d ≡ x +ℤ pos c → pos e ≡ y +ℤ pos f → pos (d + e) ≡ x +ℤ y +ℤ pos (c + f)
added d e c f x y h g = omega (arith, ints)

-- all of them
abbrev all_of : State → List NamedAccount → List (List Entry)
all_of s accounts = map (λ a. entries_on s a.lists s.today) accounts

owed-all : (s : State) (day : ℕ) (accounts : List NamedAccount) → All (λ (x : NamedAccount). AreRunning s x.lists) accounts → day ≤ s.today
    → pos (all_up_to side.Debits day (all_of s accounts)) ≡ owed_on_all s day accounts +ℤ pos (all_up_to side.Credits day (all_of s accounts))
owed-all s day [] all h = rw (up_to-none side.Debits day, up_to-none side.Credits day) refl
owed-all s day (a ∷ others) all h =
    let es : List Entry = entries_on s a.lists s.today in
    let lists : List (List Entry) = all_of s others in
    rw (up_to-cons side.Debits day es lists, up_to-cons side.Credits day es lists)
    (added (sum_up_to side.Debits day es) (all_up_to side.Debits day lists) (sum_up_to side.Credits day es) (all_up_to side.Credits day lists) (owed_on s day a) (owed_on_all s day others)
    (one-owed s day a (All-head (λ (x : NamedAccount). AreRunning s x.lists) a others all) h) (owed-all s day others (All-tail (λ (x : NamedAccount). AreRunning s x.lists) a others all) h))

holds-all : (s : State) (day : ℕ) (accounts : List NamedAccount) → all_between side.Debits day day kind.Hold (all_of s accounts) ≡ all_between side.Credits day day kind.Hold (all_of s accounts)
holds-all s day [] = rw (between-none side.Debits day day kind.Hold, between-none side.Credits day day kind.Hold) refl
holds-all s day (a ∷ others) =
    let es : List Entry = entries_on s a.lists s.today in
    let lists : List (List Entry) = all_of s others in
    let here : sum_between side.Debits day day kind.Hold es ≡ sum_between side.Credits day day kind.Hold es = one-held s day a in
    let rest : all_between side.Debits day day kind.Hold lists ≡ all_between side.Credits day day kind.Hold lists = holds-all s day others in
    rw (between-cons side.Debits day day kind.Hold es lists, between-cons side.Credits day day kind.Hold es lists) (omega arith)

pub debits_and_credits : DebitsAndCredits
debits_and_credits s ran = record { owed = λ day h. owed-all s day s.accounts (all_running s ran) h; holds = λ day. holds-all s day s.accounts }
