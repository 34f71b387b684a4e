-- The account at a place of a desk, as the desk's state has it.
use Rattle.std.proofs.Common.{◌≡◌, ℕ, ◌<◌, List, length, get_or, set, ap, ◌∙◌, arith}
use Rattle.std.proofs.lemmas.List.{length-map}
use Rattle.card_account.specs.Accounts.{IsTold, OpenAccount, restated_statement}
use Rattle.card_account.specs.Entries.{entries_today}
use Rattle.card_account.specs.Verdicts.{verdict_of}
use Rattle.card_account.specs.declared.verdict.Verdict.{Verdict}
use Rattle.card_desk.proofs.DeskLemmas.{read_at}
use Rattle.card_desk.proofs.FoldLemmas.{alike_seen, book_at, entries_at, same_restated, same_verdict}
use Rattle.card_desk.proofs.KeptLemmas.{roomy_desk}
use Rattle.card_desk.specs.Desks.{IsDesk, now_at, state_of}
use Rattle.card_events.specs.Keys.{with_key}
use Rattle.card_events.specs.SharedRows.{SharedRows, shared_rows}
use Rattle.card_events.specs.declared.post.Post.{Post}
use Rattle.card_events.specs.declared.request.Shared.{Shared}
use Rattle.card_model.specs.Machine.{NamedAccount, State, at_key}
use Rattle.card_model.specs.Refusals.{Present, book_today}
use Rattle.card_model.specs.Work.{present_in}
use Rattle.card_replay.specs.Replays.{present_of}

-- a place of the state is one of the desk
pub low_in : (rows : List Shared) (today : ℕ) (accounts : List OpenAccount) (s : State) (i : ℕ) → state_of today rows accounts ≡ s → i < length s.accounts → i < length accounts
low_in rows today accounts s i state low = omega (arith, low, ap (λ (x : State). length x.accounts) state, length-map accounts (λ (x : OpenAccount). x.named))

-- what is read at it
now_read : (rows : List Shared) (today : ℕ) (accounts : List OpenAccount) (i : ℕ) (b : OpenAccount) (s : State) (e : NamedAccount) → state_of today rows accounts ≡ s → i < length s.accounts → b ≡ get_or accounts i b
    → present_in (state_of today rows accounts) b.named.lists ≡ now_at s i e
now_read rows today accounts i b s e state low is =
    ap (λ (x : State). present_in x b.named.lists) state ∙ ap (λ (x : NamedAccount). present_in s x.lists) (read_at accounts s.accounts i b e is (ap (λ (x : State). x.accounts) state) low)

pub book_read : (places : List (List ℕ × ℕ)) (common : SharedRows) (count today : ℕ) (rows : List Shared) (accounts : List OpenAccount) (i : ℕ) (b : OpenAccount) (s : State) (e : NamedAccount)
    → IsDesk places common count today rows accounts → state_of today rows accounts ≡ s → i < length s.accounts → b ≡ get_or accounts i b
    → book_today (present_of today common b.named.lists) ≡ book_today (now_at s i e)
book_read places common count today rows accounts i b s e desk state low is =
    book_at places common count today rows accounts i b desk (low_in rows today accounts s i state low) is ∙ ap book_today (now_read rows today accounts i b s e state low is)

pub restated_read : (places : List (List ℕ × ℕ)) (common : SharedRows) (count today : ℕ) (rows : List Shared) (accounts : List OpenAccount) (i : ℕ) (b : OpenAccount) (s : State) (e : NamedAccount) (cycle : ℕ)
    → IsDesk places common count today rows accounts → state_of today rows accounts ≡ s → i < length s.accounts → b ≡ get_or accounts i b
    → restated_statement (present_of today common b.named.lists) cycle ≡ restated_statement (now_at s i e) cycle
restated_read places common count today rows accounts i b s e cycle desk state low is =
    same_restated today b.named.lists common (shared_rows rows) cycle (alike_seen places common count today rows accounts i b desk (low_in rows today accounts s i state low) is)
    ∙ ap (λ (n : Present). restated_statement n cycle) (now_read rows today accounts i b s e state low is)

pub entries_read : (places : List (List ℕ × ℕ)) (common : SharedRows) (count today : ℕ) (rows : List Shared) (accounts : List OpenAccount) (i : ℕ) (b : OpenAccount) (s : State) (e : NamedAccount)
    → IsDesk places common count today rows accounts → state_of today rows accounts ≡ s → i < length s.accounts → b ≡ get_or accounts i b
    → entries_today (present_of today common b.named.lists) ≡ entries_today (now_at s i e)
entries_read places common count today rows accounts i b s e desk state low is =
    entries_at places common count today rows accounts i b desk (low_in rows today accounts s i state low) is ∙ ap entries_today (now_read rows today accounts i b s e state low is)

pub verdict_read : (places : List (List ℕ × ℕ)) (common : SharedRows) (count today : ℕ) (rows : List Shared) (accounts : List OpenAccount) (i : ℕ) (b : OpenAccount) (s : State) (e : NamedAccount) (key : List ℕ) (p : Post) (v : Verdict)
    → IsDesk places common count today rows accounts → state_of today rows accounts ≡ s → i < length s.accounts → b ≡ get_or accounts i b
    → v ≡ verdict_of (at_key (present_of today common b.named.lists) key p (with_key key b.named.lists.posts)) → v ≡ verdict_of (at_key (now_at s i e) key p (with_key key (now_at s i e).lists.posts))
verdict_read places common count today rows accounts i b s e key p v desk state low is found =
    same_verdict places common count today rows accounts i b key p v desk (low_in rows today accounts s i state low) is found
    ∙ ap (λ (n : Present). verdict_of (at_key n key p (with_key key n.lists.posts))) (now_read rows today accounts i b s e state low is)

-- ---- after it was told of
-- the desk stands
pub told_desk : (places : List (List ℕ × ℕ)) (common : SharedRows) (count today : ℕ) (rows : List Shared) (accounts : List OpenAccount) (i : ℕ) (a b : OpenAccount) (s : State)
    → IsDesk places common count today rows accounts → state_of today rows accounts ≡ s → i < length s.accounts → b ≡ get_or accounts i b → IsTold today common b a
    → IsDesk places common count today rows (set accounts i a)
told_desk places common count today rows accounts i a b s desk state low is told =
    (roomy_desk places common count today rows accounts i a b desk (low_in rows today accounts s i state low) is told.named told.account).1

-- with the same state
pub told_state : (places : List (List ℕ × ℕ)) (common : SharedRows) (count today : ℕ) (rows : List Shared) (accounts : List OpenAccount) (i : ℕ) (a b : OpenAccount) (s : State)
    → IsDesk places common count today rows accounts → state_of today rows accounts ≡ s → i < length s.accounts → b ≡ get_or accounts i b → IsTold today common b a
    → state_of today rows (set accounts i a) ≡ s
told_state places common count today rows accounts i a b s desk state low is told =
    ap (λ (l : List NamedAccount). record { today = today; shared = rows; accounts = l })
    (roomy_desk places common count today rows accounts i a b desk (low_in rows today accounts s i state low) is told.named told.account).0 ∙ state
