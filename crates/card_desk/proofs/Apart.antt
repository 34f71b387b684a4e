-- A request concerns one account at most.
use Rattle.std.proofs.Common.{◌≡◌, ℕ, Bool, true, false, cond, List, [], ◌∷◌, refl, ap, ◌∙◌, Option, Some, None}
use Rattle.std.specs.Prelude.{option_map}
use Rattle.std.specs.Str.{bytes_eq}
use Rattle.std.proofs.lemmas.Bool.{eq-eqb}
use Rattle.card_events.specs.declared.post.Post.{Post}
use Rattle.card_events.specs.declared.reply.Reply.{Reply}
use Rattle.card_events.specs.declared.reply.Refusal.{Refusal}
use Rattle.card_events.specs.declared.request.Request.{Request}
use Rattle.card_events.specs.declared.request.Request.TheVariants as request
use Rattle.card_events.specs.declared.request.Shared.{Shared}
use Rattle.card_model.proofs.Isolation.{names-equal}
use Rattle.card_ports.specs.declared.row.Row.{Row}
use Rattle.card_model.specs.Isolated.{Own, own_of}
use Rattle.card_model.specs.Machine.{Accepts, NamedAccount, Outcome, Refuses, Repeats, State, accounts_after, has_accounts, lists_of, outcome_in, reply_to, shared_reason, step, with_lists, with_shared}
use Rattle.card_model.specs.Refusals.{Lists, book_today}
use Rattle.card_model.specs.Work.{present_in}
use Rattle.card_desk.specs.Applied.{Steps}
use Rattle.card_desk.specs.Apart.{IsApart, LooksAlike, RequestsStandApart, lists_after}
use Rattle.card_desk.specs.Views.{issued, restated, seen, shown}

other-lists : (name other : List ℕ) (l : Lists) (xs : List NamedAccount) → bytes_eq other name ≡ false → lists_of name (with_lists other l xs) ≡ lists_of name xs
unfolding lists_of with_lists
other-lists name other l [] n = rw n refl
other-lists name other l (x ∷ xs) n = by (bytes_eq x.name other) refl (other-lists name other l xs n)
  where
    by : (t : Bool) → bytes_eq x.name other ≡ t → lists_of name (with_lists other l xs) ≡ lists_of name xs
        → lists_of name (cond t (record { name = x.name; lists = l } ∷ xs) (x ∷ with_lists other l xs)) ≡ cond (bytes_eq x.name name) (Some x.lists) (lists_of name xs)
    by true e h = let same : bytes_eq x.name name ≡ false = rw (names-equal x.name other e) n in rw same refl
    by false e h = rw h refl

others-stay : (name other : List ℕ) (o : Outcome) (xs : List NamedAccount) → bytes_eq other name ≡ false → lists_of name (accounts_after other o xs) ≡ lists_of name xs
others-stay name other (Refuses r) xs n = refl
others-stay name other (Repeats k) xs n = refl
others-stay name other (Accepts l) xs n = other-lists name other l xs n

names-same : (name : List ℕ) → bytes_eq name name ≡ true
names-same [] = refl
names-same (x ∷ xs) = rw (eq-eqb x x refl) (names-same xs)

own-lists : (name : List ℕ) (l : Lists) (xs : List NamedAccount) → lists_of name (with_lists name l xs) ≡ Some l
unfolding lists_of with_lists
own-lists name l [] = rw (names-same name) refl
own-lists name l (x ∷ xs) = by (bytes_eq x.name name) refl (own-lists name l xs)
  where
    by : (t : Bool) → bytes_eq x.name name ≡ t → lists_of name (with_lists name l xs) ≡ Some l
        → lists_of name (cond t (record { name = x.name; lists = l } ∷ xs) (x ∷ with_lists name l xs)) ≡ Some l
    by true e h = rw e refl
    by false e h = rw e h

own-after : (name other : List ℕ) (o : Outcome) (xs : List NamedAccount) → other ≡ name → lists_of name (accounts_after other o xs) ≡ lists_after o (lists_of name xs)
own-after name other (Refuses r) xs same = refl
own-after name other (Repeats k) xs same = refl
own-after name other (Accepts l) xs same = ap (λ n. lists_of name (with_lists n l xs)) same ∙ own-lists name l xs

shared-stay : (s : State) (r : Shared) (o : Option Refusal) → (with_shared s r o).0.accounts ≡ s.accounts
shared-stay s r (Some e) = refl
shared-stay s r None = refl

pub requests_stand_apart : RequestsStandApart
unfolding step
requests_stand_apart s (request.Shared r) new reply e = record {
  others = λ name i. ap (lists_of name) (ap (λ (x : State × Reply). x.0.accounts) e ∙ shared-stay s r (shared_reason s.today (has_accounts s) r));
  own = λ name key p i. cc;
  lists = λ name key p i. cc;
}
requests_stand_apart s (request.Post other k q) new reply e = record {
  others = λ name i. ap (λ (x : State × Reply). lists_of name x.0.accounts) e ∙ others-stay name other (outcome_in s other k q) s.accounts i;
  own = λ name key p i. ap (λ (x : State × Reply). x.1) e ∙ same name key p i;
  lists = λ name key p i. ap (λ (x : State × Reply). lists_of name x.0.accounts) e ∙ after name key p i;
}
  where
    same : (name key : List ℕ) (p : Post) → request.Post other k q ≡ request.Post name key p
        → reply_to (outcome_in s other k q) ≡ reply_to (outcome_in s name key p)
    same name key p i = cc

    after : (name key : List ℕ) (p : Post) → request.Post other k q ≡ request.Post name key p
        → lists_of name (accounts_after other (outcome_in s other k q) s.accounts) ≡ lists_after (outcome_in s name key p) (lists_of name s.accounts)
    after name key p i =
        let named : other ≡ name = cc in
        let comes : outcome_in s other k q ≡ outcome_in s name key p = cc in
        own-after name other (outcome_in s other k q) s.accounts named ∙ ap (λ (o : Outcome). lists_after o (lists_of name s.accounts)) comes

-- so where a step was made
pub apart_of_step : (before after : Option (List Row)) (s : State) (r : Request) (new : State) (reply : Reply) → Steps before after s r new reply → IsApart s r new reply
apart_of_step before after s r new reply h = requests_stand_apart s r new reply h.step_is

-- ---- what is told of an account depends on today, the shared requests and its own lists
shown-same : (s t : State) (o : Option Lists) → s.today ≡ t.today → s.shared ≡ t.shared → shown s o ≡ shown t o
shown-same s t None e f = refl
shown-same s t (Some l) e f = rw (e, f) refl

restated-same : (s t : State) (cycle : ℕ) (o : Option Lists) → s.today ≡ t.today → s.shared ≡ t.shared → restated s cycle o ≡ restated t cycle o
restated-same s t cycle None e f = refl
restated-same s t cycle (Some l) e f = rw (e, f) refl

cycles-same : (s t : State) (o : Option Lists) → s.today ≡ t.today → s.shared ≡ t.shared
    → option_map (λ (l : Lists). (book_today (present_in s l)).cycles) o ≡ option_map (λ (l : Lists). (book_today (present_in t l)).cycles) o
cycles-same s t None e f = refl
cycles-same s t (Some l) e f = rw (e, f) refl

pub looks-alike : (name : List ℕ) (s t : State) → own_of name s ≡ own_of name t → LooksAlike name s t
unfolding seen
looks-alike name s t e =
    let today : s.today ≡ t.today = ap (λ (o : Own). o.today) e in
    let rows : s.shared ≡ t.shared = ap (λ (o : Own). o.shared) e in
    let lists : lists_of name s.accounts ≡ lists_of name t.accounts = ap (λ (o : Own). o.lists) e in
    record {
      cycles = cycles-same s t (lists_of name s.accounts) today rows ∙ ap (option_map (λ (l : Lists). (book_today (present_in t l)).cycles)) lists;
      shown = shown-same s t (lists_of name s.accounts) today rows ∙ ap (shown t) lists;
      issued = λ cycle. ap (issued cycle) lists;
      restated = λ cycle. restated-same s t cycle (lists_of name s.accounts) today rows ∙ ap (restated t cycle) lists;
    }
