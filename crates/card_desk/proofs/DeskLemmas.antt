-- What a desk's parts say of its state.
use Rattle.std.proofs.Common.{◌≡◌, ℕ, zero, suc, ◌+◌, ◌<◌, List, [], ◌∷◌, ◌++◌, length, get_or, set, Some, None, refl, ap, sym, ◌∙◌, arith, length-append}
use Rattle.card_events.specs.Keys.{with_key}
use Rattle.card_events.specs.declared.post.Post.{Post}
use Rattle.card_events.specs.declared.request.Shared.{Shared}
use Rattle.card_desk.specs.IndexPlaces.{place_of}
use Rattle.card_model.specs.Machine.{State, NamedAccount, lists_of, with_lists, at_key, outcome_in}
use Rattle.card_model.specs.Refusals.{Lists}
use Rattle.card_model.specs.Work.{present_in}
use Rattle.card_desk.specs.Kept.{accepted_count, posts_in}
use Rattle.card_desk.specs.Places.{place_from, IsIndex, IsPlace}
use Rattle.card_account.specs.Verdicts.{verdict_of}
use Rattle.card_account.specs.declared.verdict.Verdict.{Verdict}
use Rattle.card_desk.proofs.CountLemmas.{sum_pushed, sum_set}
use Rattle.card_desk.proofs.OutcomeLemmas.{known_outcome}
use Rattle.card_account.specs.Accounts.{OpenAccount}
use Rattle.card_desk.specs.Desks.{OpenDesk, named_all}
use Rattle.std.proofs.lemmas.List.{get_or-map, length-map}
use Rattle.card_desk.proofs.PlaceLemmas.{is_place, no_place}

-- the state of a desk
abbrev pub state_by : (a b : OpenDesk) → a ≡ b → a.state ≡ b.state
state_by a b is = ap (λ (d : OpenDesk). d.state) is

-- the place that the index gives
pub found_at : (index : List (List ℕ × ℕ)) (accounts : List NamedAccount) (name given : List ℕ) (i : ℕ) → IsIndex index accounts → given ≡ name → Some i ≡ place_of given index → IsPlace name accounts i
found_at index accounts name given i is same found =
    is_place name accounts i (sym (is name) ∙ ap (λ (n : List ℕ). place_of n index) (sym same) ∙ sym found)

-- as the first with that name
pub placed_at : (index : List (List ℕ × ℕ)) (accounts : List NamedAccount) (name given : List ℕ) (i : ℕ) → IsIndex index accounts → given ≡ name → Some i ≡ place_of given index → place_from name 0 accounts ≡ Some i
placed_at index accounts name given i is same found = sym (is name) ∙ ap (λ (n : List ℕ). place_of n index) (sym same) ∙ sym found

-- none
pub found_none : (index : List (List ℕ × ℕ)) (accounts : List NamedAccount) (name given : List ℕ) → IsIndex index accounts → given ≡ name → None ≡ place_of given index → place_from name 0 accounts ≡ None
found_none index accounts name given is same found = sym (is name) ∙ ap (λ (n : List ℕ). place_of n index) (sym same) ∙ sym found

-- one more shared request
pub count_shared : (s t : State) (r : Shared) → t ≡ record { today = t.today; shared = s.shared ++ r ∷ []; accounts = s.accounts } → accepted_count t ≡ accepted_count s + 1
count_shared s t r is =
    ap (λ (x : State). accepted_count x) is ∙ omega (arith, length-append s.shared (r ∷ []))

-- one more account with one post
pub count_opened : (s : State) (t : State) (a : NamedAccount) → t.shared ≡ s.shared → t.accounts ≡ s.accounts ++ a ∷ [] → length a.lists.posts ≡ 1 → accepted_count t ≡ accepted_count s + 1
count_opened s t a shared accounts one =
    let sum = ap posts_in accounts ∙ sum_pushed s.accounts a in
    let rows = ap (λ (l : List Shared). length l) shared in
    omega (arith, sum, rows, one)

-- one more post of an account
pub count_added : (s : State) (t : State) (i : ℕ) (a d : NamedAccount) → t.shared ≡ s.shared → t.accounts ≡ set s.accounts i a → i < length s.accounts → length a.lists.posts ≡ length (get_or s.accounts i d).lists.posts + 1
    → accepted_count t ≡ accepted_count s + 1
count_added s t i a d shared accounts low more =
    let sum = ap posts_in accounts ∙ sum_set s.accounts i a d low more in
    let rows = ap (λ (l : List Shared). length l) shared in
    omega (arith, sum, rows)

-- what is read at a place doesn't depend on what stands for no place
pub same_read : (xs : List NamedAccount) (i : ℕ) (d e : NamedAccount) → i < length xs → get_or xs i d ≡ get_or xs i e
same_read [] i d e low = absurd (omega arith)
same_read (x ∷ xs) zero d e low = refl
same_read (x ∷ xs) (suc i) d e low = same_read xs i d e (omega arith)

-- the account that was read is the one at its place
pub read_at : (xs : List OpenAccount) (ys : List NamedAccount) (i : ℕ) (a : OpenAccount) (d : NamedAccount) → a ≡ get_or xs i a → named_all xs ≡ ys → i < length ys → a.named ≡ get_or ys i d
read_at xs ys i a d is same low =
    let long : length xs ≡ length ys = sym (length-map xs (λ (x : OpenAccount). x.named)) ∙ ap (λ (l : List NamedAccount). length l) same in
    ap (λ (x : OpenAccount). x.named) is ∙ sym (get_or-map (λ (x : OpenAccount). x.named) xs i a d (omega (arith, low, long))) ∙ ap (λ (l : List NamedAccount). get_or l i d) same

-- its lists are those of its name
pub there_at : (xs : List OpenAccount) (name : List ℕ) (i : ℕ) (a : OpenAccount) → IsPlace name (named_all xs) i → a ≡ get_or xs i a → Some a.named.lists ≡ lists_of name (named_all xs)
there_at xs name i a place is = ap (λ (x : NamedAccount). Some x.lists) (read_at xs (named_all xs) i a a.named is refl place.bound) ∙ sym (place.there a.named)

pub outcome_at : (s : State) (name key : List ℕ) (p : Post) (i : ℕ) (d : NamedAccount) (v : Verdict) → IsPlace name s.accounts i
    → v ≡ verdict_of (at_key (present_in s (get_or s.accounts i d).lists) key p (with_key key (get_or s.accounts i d).lists.posts))
    → (v ≡ verdict_of (outcome_in s name key p)) × (outcome_in s name key p ≡ at_key (present_in s (get_or s.accounts i d).lists) key p (with_key key (get_or s.accounts i d).lists.posts))
outcome_at s name key p i d v place is =
    let known = known_outcome s name key p (get_or s.accounts i d).lists (place.there d) in
    (is ∙ ap verdict_of (sym known), known)

-- the state after an account was opened
pub opened_state : (s t : State) (name : List ℕ) (l : Lists) (a : NamedAccount) → t.today ≡ s.today → t.shared ≡ s.shared → t.accounts ≡ s.accounts ++ a ∷ [] → a ≡ record { name = name; lists = l } → place_from name 0 s.accounts ≡ None
    → t ≡ record { today = s.today; shared = s.shared; accounts = with_lists name l s.accounts }
opened_state s t name l a today shared accounts is absent =
    let list : t.accounts ≡ with_lists name l s.accounts = accounts ∙ ap (λ (x : NamedAccount). s.accounts ++ x ∷ []) is ∙ sym ((no_place name 0 s.accounts absent).1 l) in
    ap (λ (n : ℕ). record { today = n; shared = t.shared; accounts = t.accounts }) today ∙ ap (λ (r : List Shared). record { today = s.today; shared = r; accounts = t.accounts }) shared
    ∙ ap (λ (x : List NamedAccount). record { today = s.today; shared = s.shared; accounts = x }) list

-- the state after an account changed
pub changed_state : (s t : State) (name : List ℕ) (l : Lists) (i : ℕ) (a d : NamedAccount) → IsPlace name s.accounts i → t.today ≡ s.today → t.shared ≡ s.shared → t.accounts ≡ set s.accounts i a
    → a.name ≡ (get_or s.accounts i d).name → a.lists ≡ l → t ≡ record { today = s.today; shared = s.shared; accounts = with_lists name l s.accounts }
changed_state s t name l i a d place today shared accounts named lists =
    let is : a ≡ record { name = (get_or s.accounts i d).name; lists = l } = ap (λ (n : List ℕ). record { name = n; lists = a.lists }) named ∙ ap (λ (x : Lists). record { name = (get_or s.accounts i d).name; lists = x }) lists in
    let list : t.accounts ≡ with_lists name l s.accounts = accounts ∙ ap (λ (x : NamedAccount). set s.accounts i x) is ∙ sym (place.change l d) in
    ap (λ (n : ℕ). record { today = n; shared = t.shared; accounts = t.accounts }) today ∙ ap (λ (r : List Shared). record { today = s.today; shared = r; accounts = t.accounts }) shared
    ∙ ap (λ (x : List NamedAccount). record { today = s.today; shared = s.shared; accounts = x }) list
