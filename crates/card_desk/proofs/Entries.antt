-- What is recorded of an account is its book at the end of the day that it has reached.
use Rattle.std.proofs.Common.{◌≡◌, ℕ, ◌<◌, ◌≤◌, List, [], ◌∷◌, length, get_or, ap, sym, subst, ◌∙◌, arith}
use Rattle.std.proofs.lemmas.List.{ext_get_or, get_or-map, get_or_default, length-map}
use Rattle.std.proofs.lemmas.List.Elements.{All-get_or}
use Rattle.std.specs.List.{All}
use Rattle.card_account.specs.Accounts.{OpenAccount, replay_of}
use Rattle.card_account.proofs.Recorded.{recorded_book}
use Rattle.card_events.specs.SharedRows.{SharedRows, shared_rows}
use Rattle.card_events.specs.declared.request.Shared.{Shared}
use Rattle.card_model.specs.Books.{Book}
use Rattle.card_model.specs.Machine.{NamedAccount}
use Rattle.card_model.specs.Refusals.{book_today}
use Rattle.card_desk.proofs.FoldLemmas.{account_at, alike_seen, one_book}
use Rattle.card_desk.proofs.Left.{there_is}
use Rattle.card_desk.specs.Desks.{IsDesk, OpenDesk, open_desk, recorded_all, state_of}
use Rattle.card_desk.specs.Recorded.{all_entries, entries_on, entries_there}
use Rattle.card_desk.specs.Steps.{ReachedLists, reached_there}

pub recorded_there : (places : List (List ℕ × ℕ)) (common : SharedRows) (count today : ℕ) (rows : List Shared) (accounts : List OpenAccount) (i : ℕ) (b : OpenAccount) (d : OpenDesk)
    → IsDesk places common count today rows accounts → open_desk today rows accounts ≡ d → i < length accounts → b ≡ get_or accounts i b → b.folding.past.track.entries.items ≡ entries_there d i
unfolding entries_on book_today
recorded_there places common count today rows accounts i b d desk view low is =
    let account = account_at places common count today rows accounts i b desk low is in
    let alike = alike_seen places common count today rows accounts i b desk low is in
    recorded_book common (replay_of b) account.replay
    ∙ (ap (λ (x : Book). x.entries) (one_book b.named.lists b.folding.reached common (shared_rows rows) alike.posts alike.fees alike.index)
    ∙ (ap (λ (a : ReachedLists). entries_on (state_of today rows accounts) a.lists a.reached) (sym (there_is rows today accounts i b low is))
    ∙ ap (λ (x : OpenDesk). entries_there x i) view))

-- that day isn't after today
pub reached_by : (places : List (List ℕ × ℕ)) (common : SharedRows) (count today : ℕ) (rows : List Shared) (accounts : List OpenAccount) (i : ℕ) (b : OpenAccount) (d : OpenDesk)
    → IsDesk places common count today rows accounts → open_desk today rows accounts ≡ d → i < length accounts → b ≡ get_or accounts i b → (reached_there d i).reached ≤ d.state.today
reached_by places common count today rows accounts i b d desk view low is =
    let account = account_at places common count today rows accounts i b desk low is in
    subst (λ (x : OpenDesk). (reached_there x i).reached ≤ x.state.today) view
    (subst (λ (a : ReachedLists). a.reached ≤ today) (sym (there_is rows today accounts i b low is)) account.reach.later)

-- ---- of all accounts
first_of : (xs : List OpenAccount) (i : ℕ) → i < length xs → OpenAccount
first_of [] i low = absurd (omega (arith, low))
first_of (x ∷ xs) i low = x

-- where all have reached today
pub all_today : (places : List (List ℕ × ℕ)) (common : SharedRows) (count today : ℕ) (rows : List Shared) (accounts : List OpenAccount) (d : OpenDesk)
    → IsDesk places common count today rows accounts → open_desk today rows accounts ≡ d → All (λ (n : ℕ). n ≡ d.state.today) d.reached → d.recorded ≡ all_entries d.state
all_today places common count today rows accounts d desk view all = sym (ap (λ (x : OpenDesk). x.recorded) view) ∙ ext_get_or [] (recorded_all accounts) (all_entries d.state) long each
  where
    named : length d.state.accounts ≡ length accounts
    named = ap (λ (x : OpenDesk). length x.state.accounts) (sym view) ∙ length-map accounts (λ (x : OpenAccount). x.named)

    long : length (recorded_all accounts) ≡ length (all_entries d.state)
    long = length-map accounts (λ (x : OpenAccount). x.folding.past.track.entries.items) ∙ (sym named ∙ sym (length-map d.state.accounts (λ (a : NamedAccount). entries_on d.state a.lists d.state.today)))

    days : length d.reached ≡ length accounts
    days = ap (λ (x : OpenDesk). length x.reached) (sym view) ∙ length-map accounts (λ (x : OpenAccount). x.folding.reached)

    each : (i : ℕ) → i < length (recorded_all accounts) → get_or (recorded_all accounts) i [] ≡ get_or (all_entries d.state) i []
    each i l =
        let low : i < length accounts = omega (arith, l, length-map accounts (λ (x : OpenAccount). x.folding.past.track.entries.items)) in
        let e : OpenAccount = first_of accounts i low in
        let b : OpenAccount = get_or accounts i e in
        let none : NamedAccount = record { name = []; lists = record { posts = []; issued = [] } } in
        let reached : get_or d.reached i 0 ≡ d.state.today = All-get_or (λ (n : ℕ). n ≡ d.state.today) d.reached i 0 (omega (arith, low, days)) all in
        get_or-map (λ (x : OpenAccount). x.folding.past.track.entries.items) accounts i e [] low
        ∙ (recorded_there places common count today rows accounts i b d desk view low (get_or_default accounts i e b low)
        ∙ (ap (λ (n : ℕ). entries_on d.state (get_or d.state.accounts i none).lists n) reached
        ∙ sym (get_or-map (λ (a : NamedAccount). entries_on d.state a.lists d.state.today) d.state.accounts i none [] (omega (arith, low, named)))))
