-- Runs of requests, and the rows of the newly accepted ones.
use Rattle.std.proofs.Common.{◌≡◌, ℕ, ◌+◌, ◌≤◌, Bool, true, false, List, [], ◌∷◌, ◌++◌, length, refl, ap, sym, ◌∙◌, arith, append-nil, append_assoc, length-append}
use Rattle.std.specs.Prelude.{if◌then◌else◌}
use Rattle.std.specs.List.{list_all}
use Rattle.std.proofs.lemmas.Bool.{and_parts, and_from}
use Rattle.card_events.specs.declared.request.Request.{Request}
use Rattle.card_ports.specs.declared.row.Row.{Row}
use Rattle.card_model.specs.Machine.{State, start, step, run, run_from, is_new, accepted_from}
use Rattle.card_rows.specs.Held.{is_request}
use Rattle.card_desk.specs.Kept.{accepted_count, row_of, rows_from}
use Rattle.card_desk.proofs.LoadLemmas.{new_count, old_stays}

-- the request, where it is newly accepted
abbrev pub if_new : State → Request → List Request
if_new s r = if is_new s r then r ∷ [] else []

-- ---- one request more
pub run_more : (s : State) (rs : List Request) (r : Request) → run_from s (rs ++ r ∷ []) ≡ (step (run_from s rs) r).0
unfolding run_from
run_more s [] r = refl
run_more s (x ∷ rs) r = run_more (step s x).0 rs r

pub accepted_more : (s : State) (rs : List Request) (r : Request) → accepted_from s (rs ++ r ∷ []) ≡ accepted_from s rs ++ if_new (run_from s rs) r
unfolding accepted_from run_from
accepted_more s [] r = append-nil (if_new s r)
accepted_more s (x ∷ rs) r = ap (λ (l : List Request). if_new s x ++ l) (accepted_more (step s x).0 rs r) ∙ sym (append_assoc (if_new s x) (accepted_from (step s x).0 rs) (if_new (run_from (step s x).0 rs) r))

-- the newly accepted of two lists
pub accepted_both : (s : State) (rs more : List Request) → accepted_from s (rs ++ more) ≡ accepted_from s rs ++ accepted_from (run_from s rs) more
unfolding accepted_from run_from
accepted_both s [] more = refl
accepted_both s (x ∷ rs) more = ap (λ (l : List Request). if_new s x ++ l) (accepted_both (step s x).0 rs more) ∙ sym (append_assoc (if_new s x) (accepted_from (step s x).0 rs) (accepted_from (run_from (step s x).0 rs) more))

pub rows_more : (n : ℕ) (rs more : List Request) → rows_from n (rs ++ more) ≡ rows_from n rs ++ rows_from (n + length rs) more
unfolding rows_from
rows_more n [] more = ap (λ (m : ℕ). rows_from m more) (omega arith)
rows_more n (x ∷ rs) more =
    let place : n + 1 + length rs ≡ n + length (x ∷ rs) = omega arith in
    ap (λ (l : List Row). row_of n x ∷ l) (rows_more (n + 1) rs more ∙ ap (λ (m : ℕ). rows_from (n + 1) rs ++ rows_from m more) place)

pub rows_length : (n : ℕ) (rs : List Request) → length (rows_from n rs) ≡ length rs
unfolding rows_from
rows_length n [] = refl
rows_length n (x ∷ rs) = omega (arith, rows_length (n + 1) rs)

-- ---- the count of accepted requests
if_new_count : (s : State) (r : Request) (b : Bool) → is_new s r ≡ b → accepted_count (step s r).0 ≡ accepted_count s + length (if b then r ∷ [] else [])
if_new_count s r true is = new_count s r is
if_new_count s r false is = ap accepted_count (old_stays s r is) ∙ omega arith

pub count_run : (s : State) (rs : List Request) → accepted_count (run_from s rs) ≡ accepted_count s + length (accepted_from s rs)
unfolding run_from accepted_from
count_run s [] = omega arith
count_run s (x ∷ rs) =
    omega (arith, count_run (step s x).0 rs, if_new_count s x (is_new s x) refl, length-append (if_new s x) (accepted_from (step s x).0 rs))

start_count : accepted_count start ≡ 0
unfolding Rattle.card_desk.specs.Kept.posts_in
start_count = refl

-- where all are newly accepted, the count is theirs
pub count_all : (rs : List Request) → accepted_from start rs ≡ rs → accepted_count (run rs) ≡ length rs
count_all rs all = omega (arith, count_run start rs, start_count, ap (λ (l : List Request). length l) all)

-- ---- newly accepted requests alone
again_at : (s : State) (x : Request) (rest : List Request) (b : Bool) → is_new s x ≡ b → accepted_from (step s x).0 rest ≡ rest → run_from (step s x).0 rest ≡ run_from (step s x).0 rest
    → accepted_from s ((if b then x ∷ [] else []) ++ rest) ≡ (if b then x ∷ [] else []) ++ rest
unfolding accepted_from
again_at s x rest true is same run = ap (λ (t : Bool). (if t then x ∷ [] else []) ++ accepted_from (step s x).0 rest) is ∙ ap (λ (l : List Request). x ∷ l) same
again_at s x rest false is same run = ap (λ (t : State). accepted_from t rest) (sym (old_stays s x is)) ∙ same

-- they are newly accepted again without the others
pub accepted_again : (s : State) (rs : List Request) → accepted_from s (accepted_from s rs) ≡ accepted_from s rs
unfolding accepted_from
accepted_again s [] = refl
accepted_again s (x ∷ rs) = again_at s x (accepted_from (step s x).0 rs) (is_new s x) refl (accepted_again (step s x).0 rs) refl

run_at : (s : State) (x : Request) (rest : List Request) (b : Bool) → is_new s x ≡ b → run_from s ((if b then x ∷ [] else []) ++ rest) ≡ run_from (step s x).0 rest
unfolding run_from
run_at s x rest true is = refl
run_at s x rest false is = ap (λ (t : State). run_from t rest) (sym (old_stays s x is))

-- and they give the same state
pub run_again : (s : State) (rs : List Request) → run_from s (accepted_from s rs) ≡ run_from s rs
unfolding accepted_from run_from
run_again s [] = refl
run_again s (x ∷ rs) = run_at s x (accepted_from (step s x).0 rs) (is_new s x) refl ∙ run_again (step s x).0 rs

taken_at : (x : Request) (rest : List Request) (b : Bool) → is_request x ≡ true → list_all is_request rest ≡ true → list_all is_request ((if b then x ∷ [] else []) ++ rest) ≡ true
taken_at x rest true one all = and_from (is_request x) (list_all is_request rest) one all
taken_at x rest false one all = all

pub taken_again : (s : State) (rs : List Request) → list_all is_request rs ≡ true → list_all is_request (accepted_from s rs) ≡ true
unfolding accepted_from
taken_again s [] all = refl
taken_again s (x ∷ rs) all =
    let both = and_parts (is_request x) (list_all is_request rs) all in
    taken_at x (accepted_from (step s x).0 rs) (is_new s x) both.0 (taken_again (step s x).0 rs both.1)

-- ---- a list of which each is newly accepted
accepted_few : (s : State) (rs : List Request) → length (accepted_from s rs) ≤ length rs
unfolding accepted_from
accepted_few s [] = omega arith
accepted_few s (x ∷ rs) = few_at x (accepted_from (step s x).0 rs) rs (is_new s x) (accepted_few (step s x).0 rs)
  where
    few_at : (x : Request) (some rs : List Request) (b : Bool) → length some ≤ length rs → length ((if b then x ∷ [] else []) ++ some) ≤ length (x ∷ rs)
    few_at x some rs true low = omega (arith, low)
    few_at x some rs false low = omega (arith, low)

first_at : (s next : State) (x : Request) (rest : List Request) (b : Bool) → is_new s x ≡ b → (if b then x ∷ [] else []) ++ accepted_from next rest ≡ x ∷ rest → (is_new s x ≡ true) × (accepted_from next rest ≡ rest)
first_at s next x rest true is all = (is, let e : accepted_from next rest ≡ rest = cc in e)
first_at s next x rest false is all = absurd (omega (arith, accepted_few next rest, ap (λ (l : List Request). length l) all))

pub first_new : (s : State) (x : Request) (rest : List Request) → accepted_from s (x ∷ rest) ≡ x ∷ rest → (is_new s x ≡ true) × (accepted_from (step s x).0 rest ≡ rest)
unfolding accepted_from
first_new s x rest all = first_at s (step s x).0 x rest (is_new s x) refl all

-- those before one of them, and the one
pub front_new : (s : State) (front : List Request) (r : Request) (rest : List Request) → accepted_from s (front ++ r ∷ rest) ≡ front ++ r ∷ rest
    → (accepted_from s front ≡ front) × (is_new (run_from s front) r ≡ true)
unfolding accepted_from run_from
front_new s [] r rest all = (refl, (first_new s r rest all).0)
front_new s (x ∷ front) r rest all =
    let first = first_new s x (front ++ r ∷ rest) all in
    let more = front_new (step s x).0 front r rest first.1 in
    (ap (λ (b : Bool). (if b then x ∷ [] else []) ++ accepted_from (step s x).0 front) first.0 ∙ ap (λ (l : List Request). x ∷ l) more.0, more.1)
