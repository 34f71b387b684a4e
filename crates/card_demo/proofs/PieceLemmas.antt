-- Pieces of requests, one after the other.
use Rattle.std.proofs.Common.{◌≡◌, ℕ, zero, suc, ◌+◌, ◌*◌, ◌≤◌, List, [], ◌∷◌, ◌++◌, length, refl, sym, ap, ◌∙◌, arith, length-append, suc-mul, zero-mul}
use Rattle.std.specs.List.{filter}
use Rattle.std.proofs.lemmas.List.Elements.{filter-append}
use Rattle.card_events.specs.declared.reply.Reply.{Reply}
use Rattle.card_events.specs.declared.request.Request.{Request}
use Rattle.card_model.specs.Machine.{State, step, run_from, replies_from}
use Rattle.card_demo.specs.Laws.{RequestsAreCounted}
use Rattle.card_demo.specs.Progress.{Progress, after, is_refusal, refusals}
use Rattle.card_demo.specs.Requests.{Piece, nothing, one, followed, all_pieces, opening, openings, charge, charges, account_cycle, accounts_cycle, beginning, bill, payment, amend, cycle, cycles, roll_to, twentieth}

-- ---- runs
pub run_from-append : (s : State) (xs ys : List Request) → run_from s (xs ++ ys) ≡ run_from (run_from s xs) ys
unfolding run_from
run_from-append s [] ys = refl
run_from-append s (x ∷ xs) ys = run_from-append (step s x).0 xs ys

replies_from-append : (s : State) (xs ys : List Request) → replies_from s (xs ++ ys) ≡ replies_from s xs ++ replies_from (run_from s xs) ys
unfolding run_from replies_from
replies_from-append s [] ys = refl
replies_from-append s (x ∷ xs) ys = ap (λ (l : List Reply). (step s x).1 ∷ l) (replies_from-append (step s x).0 xs ys)

refusals-append : (s : State) (xs ys : List Request) → refusals s (xs ++ ys) ≡ refusals s xs + refusals (run_from s xs) ys
unfolding refusals
refusals-append s xs ys =
    ap (λ (l : List Reply). length (filter is_refusal l)) (replies_from-append s xs ys)
    ∙ ap (λ (l : List Reply). length l) (filter-append is_refusal (replies_from s xs) (replies_from (run_from s xs) ys))
    ∙ length-append (filter is_refusal (replies_from s xs)) (filter is_refusal (replies_from (run_from s xs) ys))

-- ---- progress
abbrev pub progress_of : (s : State) (x n m : ℕ) → Progress
progress_of s x n m = record { state = s; x = x; count = n; refused = m }

pub parts : (s t : State) (x n k m l : ℕ) → s ≡ t → n ≡ k → m ≡ l → progress_of s x n m ≡ progress_of t x k l
parts s t x n k m l a b c = rw (a, b, c) refl

pub after-nothing : (p : Progress) → after p (nothing p.x) ≡ p
unfolding after refusals run_from replies_from
after-nothing p = parts p.state p.state p.x (p.count + 0) p.count (p.refused + 0) p.refused refl (omega arith) (omega arith)

pub after-followed : (p : Progress) (d : Piece) (q : ℕ → Piece) → after (after p d) (q d.x) ≡ after p (followed d q)
unfolding after
after-followed p d q =
    let more = q d.x in
    parts (run_from (run_from p.state d.requests) more.requests) (run_from p.state (d.requests ++ more.requests)) more.x _ _ _ _
    (sym (run_from-append p.state d.requests more.requests))
    (omega (arith, length-append d.requests more.requests)) (omega (arith, refusals-append p.state d.requests more.requests))

-- the generator moves on before the request is sent
pub after-moved : (p : Progress) (y : ℕ) (d : Piece) → after (record p { x = y }) d ≡ after p d
unfolding after
after-moved p y d = refl

pub count_after : (p : Progress) (d : Piece) → (after p d).count ≡ p.count + length d.requests
unfolding after
count_after p d = refl

pub x_after : (p : Progress) (d : Piece) → (after p d).x ≡ d.x
unfolding after
x_after p d = refl

-- ---- one more of a list
pub one_more : (p q : Progress) (d : Piece) (more : ℕ → Piece) → q ≡ after p d → after q (more q.x) ≡ after p (followed d more)
one_more p q d more is = ap (λ (r : Progress). after r (more r.x)) is ∙ (ap (λ (x : ℕ). after (after p d) (more x)) (x_after p d) ∙ after-followed p d more)

pub openings_more : (i x : ℕ) → openings (i + 1) x ≡ followed (openings i x) (opening (i + 1))
unfolding openings
openings_more i x = let on : i + 1 ≡ suc i = omega arith in ap (λ n. openings n x) on

pub charges_more : (t i j x : ℕ) → charges t i (j + 1) x ≡ followed (charges t i j x) (charge t i (j + 1))
unfolding charges
charges_more t i j x = let on : j + 1 ≡ suc j = omega arith in ap (λ n. charges t i n x) on

pub accounts_more : (t i x : ℕ) → accounts_cycle t (i + 1) x ≡ followed (accounts_cycle t i x) (account_cycle t (i + 1))
unfolding accounts_cycle
accounts_more t i x = let on : i + 1 ≡ suc i = omega arith in ap (λ n. accounts_cycle t n x) on

pub cycles_more : (accounts t x : ℕ) → cycles accounts (t + 1) x ≡ followed (cycles accounts t x) (cycle accounts (t + 1))
unfolding cycles
cycles_more accounts t x = let on : t + 1 ≡ suc t = omega arith in ap (λ n. cycles accounts n x) on

-- ---- how many requests there are
joined : (d : Piece) (q : ℕ → Piece) → length (followed d q).requests ≡ length d.requests + length (q d.x).requests
joined d q = length-append d.requests (q d.x).requests

pub openings_count : (i x : ℕ) → length (openings i x).requests ≡ i
unfolding openings opening
openings_count zero x = refl
openings_count (suc i) x = omega (arith, joined (openings i x) (opening (i + 1)), openings_count i x)

pub charges_count : (t i j x : ℕ) → length (charges t i j x).requests ≡ j
unfolding charges charge
charges_count t i zero x = refl
charges_count t i (suc j) x = omega (arith, joined (charges t i j x) (charge t i (j + 1)), charges_count t i j x)

pub account_count : (t i x : ℕ) → length (account_cycle t i x).requests ≡ 7
unfolding account_cycle bill payment amend
account_count t i x =
    let first = followed (bill t i x) (charges t i 4) in
    let second = followed first (payment t i) in
    omega (arith, joined second (amend t i), joined first (payment t i), joined (bill t i x) (charges t i 4), charges_count t i 4 (bill t i x).x)

pub accounts_count : (t i x : ℕ) → length (accounts_cycle t i x).requests ≡ 7 * i
unfolding accounts_cycle
accounts_count t zero x = refl
accounts_count t (suc i) x = omega (arith, joined (accounts_cycle t i x) (account_cycle t (i + 1)), accounts_count t i x, account_count t (i + 1) (accounts_cycle t i x).x)

pub cycle_count : (accounts t x : ℕ) → length (cycle accounts t x).requests ≡ 7 * accounts + 1
unfolding cycle
cycle_count accounts t x = omega (arith, joined (accounts_cycle t accounts x) (one (roll_to (twentieth t))), accounts_count t accounts x)

-- of at most 1,000 accounts
pub cycles_few : (accounts t x : ℕ) → accounts ≤ 1000 → length (cycles accounts t x).requests ≤ t * 7001
unfolding cycles
cycles_few accounts zero x few = omega arith
cycles_few accounts (suc t) x few =
    omega (arith, joined (cycles accounts t x) (cycle accounts (t + 1)), cycles_few accounts t x few, cycle_count accounts (t + 1) (cycles accounts t x).x)

pub beginning_count : (x : ℕ) → length (beginning x).requests ≡ 2
unfolding beginning
beginning_count x = refl

-- ---- how many there are in all
add_up : (n a b p k s : ℕ) → n ≡ a + b → a ≡ p → b ≡ k → s ≡ p + k → n ≡ s
add_up n a b p k s sum first second all = omega arith

cycles_count : (accounts t x : ℕ) → length (cycles accounts t x).requests ≡ t * (7 * accounts + 1)
unfolding cycles
cycles_count accounts zero x = sym (zero-mul (7 * accounts + 1))
cycles_count accounts (suc t) x =
    add_up _ _ _ (t * (7 * accounts + 1)) (7 * accounts + 1) _ (joined (cycles accounts t x) (cycle accounts (t + 1))) (cycles_count accounts t x)
    (cycle_count accounts (t + 1) (cycles accounts t x).x) (suc-mul t (7 * accounts + 1))

pub requests_are_counted : RequestsAreCounted
unfolding all_pieces
requests_are_counted start accounts count =
    let opened = followed (beginning start) (openings accounts) in
    add_up _ _ _ (2 + accounts) (count * (7 * accounts + 1)) _ (joined opened (cycles accounts count))
    (add_up _ _ _ 2 accounts _ (joined (beginning start) (openings accounts)) (beginning_count start) (openings_count accounts (beginning start).x) refl)
    (cycles_count accounts count opened.x) refl
