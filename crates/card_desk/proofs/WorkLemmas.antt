-- The open tasks of all accounts are those of the state.
use Rattle.std.proofs.Common.{◌≡◌, ℕ, suc, ◌<◌, List, [], ◌∷◌, ◌++◌, length, get_or, refl, ap, sym, ◌∙◌, subst, arith}
use Rattle.std.proofs.lemmas.List.Elements.{All-cons, All-nil}
use Rattle.std.specs.List.{All, flat_map}
use Rattle.card_account.specs.Accounts.{AreTold, IsAccount, OpenAccount}
use Rattle.card_account.specs.Works.{tasks_of, work_of}
use Rattle.card_desk.proofs.FoldLemmas.{all_running, running_at, same_book}
use Rattle.card_desk.specs.Applied.{are_short}
use Rattle.card_desk.specs.Desks.{AreAccounts, IsDesk, IsRun, named_all, state_of}
use Rattle.card_desk.specs.Kept.{accepted_count}
use Rattle.card_desk.specs.Places.{IsIndex}
use Rattle.card_disputes.proofs.SameHolidays.{tasks-same}
use Rattle.card_events.specs.History.{CorrectedPost, anchor_of, corrected}
use Rattle.card_events.specs.SharedRows.{SharedRows, shared_rows}
use Rattle.card_events.specs.declared.request.Shared.{Shared}
use Rattle.card_model.specs.Books.{Book}
use Rattle.card_model.specs.Deadlines.{credit_since, open_tasks}
use Rattle.card_model.specs.Entries.{credit_balance}
use Rattle.card_model.specs.Machine.{NamedAccount, State}
use Rattle.card_model.specs.Refusals.{book_today}
use Rattle.card_model.specs.Work.{account_tasks, in_work_order, present_in, work}
use Rattle.card_model.specs.declared.task.Task.{Task}
use Rattle.card_posts.proofs.Holidays.{same-corrected}

-- ---- after all accounts were told of
all-at : (P : OpenAccount → Type 0) (xs : List OpenAccount) → ((i : ℕ) (d : OpenAccount) → i < length xs → P (get_or xs i d)) → All P xs
all-at P [] h = All-nil P
all-at P (x ∷ xs) h = All-cons P x xs (h 0 x (omega arith)) (all-at P xs (λ i d l. h (suc i) d (omega (arith, l))))

-- the same accounts, one by one
named-same : (xs ys : List OpenAccount) → length ys ≡ length xs → ((i : ℕ) (d : OpenAccount) → i < length xs → (get_or ys i d).named ≡ (get_or xs i d).named) → named_all ys ≡ named_all xs
named-same [] [] count h = refl
named-same [] (y ∷ ys) count h = absurd (omega (arith, count))
named-same (x ∷ xs) [] count h = absurd (omega (arith, count))
named-same (x ∷ xs) (y ∷ ys) count h =
    ap (λ (a : NamedAccount). a ∷ named_all ys) (h 0 x (omega arith)) ∙ ap (λ (l : List NamedAccount). x.named ∷ l) (named-same xs ys (omega (arith, count)) (λ i d l. h (suc i) d (omega (arith, l))))

all-told : (today : ℕ) (common : SharedRows) (xs ys : List OpenAccount) → AreTold today common xs ys → AreAccounts today common ys
all-told today common xs ys told = all-at (IsAccount today common) ys (λ i d l. let count = told.count in (told.each i d (omega (arith, l, count))).account)

told-names : (today : ℕ) (common : SharedRows) (xs ys : List OpenAccount) → AreTold today common xs ys → named_all ys ≡ named_all xs
told-names today common xs ys told = named-same xs ys told.count (λ i d l. (told.each i d l).named)

pub worked_state : (today : ℕ) (common : SharedRows) (rows : List Shared) (xs ys : List OpenAccount) (s : State) → state_of today rows xs ≡ s → AreTold today common xs ys → state_of today rows ys ≡ s
worked_state today common rows xs ys s state told =
    ap (λ (l : List NamedAccount). record { today = today; shared = rows; accounts = l }) (told-names today common xs ys told) ∙ state

pub worked_desk : (places : List (List ℕ × ℕ)) (common : SharedRows) (count today : ℕ) (rows : List Shared) (xs ys : List OpenAccount) → IsDesk places common count today rows xs → AreTold today common xs ys
    → IsDesk places common count today rows ys
worked_desk places common count today rows xs ys desk told =
    let all = told-names today common xs ys told in
    let state : List NamedAccount → State = λ l. record { today = today; shared = rows; accounts = l } in
    let same = told.count in
    record {
      index = subst (λ (l : List NamedAccount). IsIndex places l) (sym all) desk.index;
      few = omega (arith, same, desk.few);
      short = ap are_short all ∙ desk.short;
      dated = desk.dated;
      holidays = desk.holidays;
      table = desk.table;
      index_rows = desk.index_rows;
      accounts = all-told today common xs ys told;
      counted = desk.counted ∙ ap (λ (l : List NamedAccount). accepted_count (state l)) (sym all);
      ran = subst (λ (l : List NamedAccount). IsRun (state l)) (sym all) desk.ran;
    }

same_tasks : (places : List (List ℕ × ℕ)) (common : SharedRows) (count today : ℕ) (rows : List Shared) (accounts : List OpenAccount) (i : ℕ) (d : OpenAccount)
    → IsDesk places common count today rows accounts → i < length accounts
    → tasks_of today common (get_or accounts i d) ≡ account_tasks (state_of today rows accounts) (get_or accounts i d).named
unfolding account_tasks
same_tasks places common count today rows accounts i d desk low =
    let s = state_of today rows accounts in
    let a = get_or accounts i d in
    let lists = a.named.lists in
    let anchor = anchor_of lists.posts in
    let those = (shared_rows rows).holidays in
    let one = running_at s accounts i d low (all_running s desk.ran) in
    let listed : corrected anchor common.holidays lists.posts ≡ corrected anchor those lists.posts = same-corrected anchor common.holidays those lists.posts one.timely (λ x l. desk.holidays x) in
    let here = book_today (present_in s lists) in
    ap (λ (b : Book). open_tasks a.named.name anchor common.holidays (corrected anchor common.holidays lists.posts) (credit_balance b.entries) (credit_since b.entries anchor.opened today) today) (same_book places common count today rows accounts i d desk low)
    ∙ ap (λ (l : List CorrectedPost). open_tasks a.named.name anchor common.holidays l (credit_balance here.entries) (credit_since here.entries anchor.opened today) today) listed
    ∙ tasks-same common.holidays those desk.holidays a.named.name anchor (corrected anchor those lists.posts) (credit_balance here.entries) (credit_since here.entries anchor.opened today) today

-- ---- of all accounts
flat-same : (f : OpenAccount → List Task) (g : NamedAccount → List Task) (xs : List OpenAccount) → ((i : ℕ) (d : OpenAccount) → i < length xs → f (get_or xs i d) ≡ g (get_or xs i d).named) → flat_map f xs ≡ flat_map g (named_all xs)
flat-same f g [] h = refl
flat-same f g (x ∷ xs) h =
    ap (λ (l : List Task). l ++ flat_map f xs) (h 0 x (omega arith)) ∙ ap (λ (l : List Task). g x.named ++ l) (flat-same f g xs (λ i d l. h (suc i) d (omega (arith, l))))

pub work-is : (places : List (List ℕ × ℕ)) (common : SharedRows) (count today : ℕ) (rows : List Shared) (accounts : List OpenAccount)
    → IsDesk places common count today rows accounts → work_of today common accounts ≡ work (state_of today rows accounts)
unfolding work
work-is places common count today rows accounts desk =
    ap in_work_order (flat-same (tasks_of today common) (account_tasks (state_of today rows accounts)) accounts (λ i d l. same_tasks places common count today rows accounts i d desk l))
