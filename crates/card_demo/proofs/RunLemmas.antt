-- Requests that are sent, one piece after the other.
use Rattle.std.proofs.Common.{◌≡◌, ℕ, ◌+◌, ◌≤◌, Bool, [], ◌∷◌, length, refl, sym, ap, ◌∙◌, arith, Result, if◌then◌else◌, OnOk}
use Rattle.std.specs.List.{filter}
use Rattle.std.proofs.lemmas.Result.{on_ok_weaker}
use Rattle.card_events.specs.declared.reply.Reply.{Reply}
use Rattle.card_events.specs.declared.reply.Reply.TheVariants as reply
use Rattle.card_events.specs.declared.request.Request.{Request}
use Rattle.card_model.specs.Machine.{State, step, run_from, replies_from}
use Rattle.card_demo.specs.Progress.{Progress, after, is_refusal, refusals}
use Rattle.card_demo.specs.Requests.{Piece, one, followed, opening, openings, charge, charges, account_cycle, accounts_cycle, beginning, bill, payment, amend, cycle, cycles, all_pieces, fees_from_2011, roll_to, twentieth}
use Rattle.card_demo.proofs.PieceLemmas.{progress_of, parts, after-nothing, after-moved, one_more, count_after, openings_more, charges_more, accounts_more, cycles_more}

-- ---- one request
one_refusal : (x : Reply) → length (filter is_refusal (x ∷ [])) ≡ (if is_refusal x then 1 else 0)
one_refusal reply.Done = refl
one_refusal (reply.Accepted n) = refl
one_refusal (reply.Refused r) = refl

-- the machine took the step, and the request was counted
pub sent : (p : Progress) (r : Request) (s : State) (n m : ℕ) (refused : Bool) → s ≡ (step p.state r).0 → refused ≡ is_refusal (step p.state r).1
    → n ≡ p.count + 1 → m ≡ p.refused + (if refused then 1 else 0) → progress_of s p.x n m ≡ after p (one r p.x)
unfolding after refusals run_from replies_from
sent p r s n m refused state was count more =
    parts s (step p.state r).0 p.x n (p.count + 1) m (p.refused + length (filter is_refusal ((step p.state r).1 ∷ []))) state count
    (more ∙ ap (λ (k : ℕ). p.refused + k) (ap (λ (b : Bool). if b then 1 else 0) was ∙ sym (one_refusal (step p.state r).1)))

-- a request was drawn, which left the generator at y, and then sent
pub drawn_sent : {A E : Type 0} (result : Result A E) (p q new : Progress) (y : ℕ) (r : Request) (piece : ℕ → Piece) → q ≡ p → one r y ≡ piece q.x
    → OnOk result (new ≡ after (record q { x = y }) (one r y)) → OnOk result (new ≡ after p (piece p.x))
drawn_sent result p q new y r piece same is =
    on_ok_weaker result
    (λ (e : new ≡ after (record q { x = y }) (one r y)). e ∙ (after-moved q y (one r y) ∙ (ap (after q) is ∙ ap (λ (z : Progress). after z (piece z.x)) same)))

-- one was made that draws nothing, and then sent
pub made_sent : {A E : Type 0} (result : Result A E) (p new : Progress) (r : Request) (piece : ℕ → Piece) → one r p.x ≡ piece p.x → OnOk result (new ≡ after p (one r p.x)) → OnOk result (new ≡ after p (piece p.x))
made_sent result p new r piece is = on_ok_weaker result (λ (e : new ≡ after p (one r p.x)). e ∙ ap (after p) is)

-- ---- pieces in turn
pub in_turn : (p q new : Progress) (d : Piece) (more : ℕ → Piece) → q ≡ after p d → new ≡ after q (more q.x) → new ≡ after p (followed d more)
in_turn p q new d more first second = second ∙ one_more p q d more first

-- how many requests there were after a piece of n
pub count_is : (p q : Progress) (d : Piece) (n : ℕ) → q ≡ after p d → length d.requests ≡ n → q.count ≡ p.count + n
count_is p q d n is few = ap (λ (z : Progress). z.count) is ∙ (count_after p d ∙ ap (λ (k : ℕ). p.count + k) few)

-- or of at most n
pub count_most : (p q : Progress) (d : Piece) (n : ℕ) → q ≡ after p d → length d.requests ≤ n → q.count ≤ p.count + n
count_most p q d n is few = let count = ap (λ (z : Progress). z.count) is ∙ count_after p d in omega (arith, count, few)

-- ---- the fees and the first day
pub begun : (p q new : Progress) (first second : Request) → first ≡ fees_from_2011 → second ≡ roll_to (twentieth 0) → q ≡ after p (one first p.x) → new ≡ after q (one second q.x)
    → new ≡ after p (beginning p.x)
unfolding beginning
begun p q new first second fees roll before now =
    in_turn p q new (one first p.x) (one second) before now
    ∙ (ap (λ (r : Request). after p (followed (one r p.x) (one second))) fees ∙ ap (λ (r : Request). after p (followed (one fees_from_2011 p.x) (one r))) roll)

-- ---- openings
pub opened_none : (p : Progress) → p ≡ after p (openings 0 p.x)
unfolding openings
opened_none p = sym (after-nothing p)

pub opened_more : (p q new : Progress) (i : ℕ) → q ≡ after p (openings i p.x) → new ≡ after q (opening (i + 1) q.x) → new ≡ after p (openings (i + 1) p.x)
opened_more p q new i before now = in_turn p q new (openings i p.x) (opening (i + 1)) before now ∙ ap (after p) (sym (openings_more i p.x))

-- ---- charges
pub charged_none : (p : Progress) (t i : ℕ) → p ≡ after p (charges t i 0 p.x)
unfolding charges
charged_none p t i = sym (after-nothing p)

pub charged_more : (p q new : Progress) (t i j : ℕ) → q ≡ after p (charges t i j p.x) → new ≡ after q (charge t i (j + 1) q.x) → new ≡ after p (charges t i (j + 1) p.x)
charged_more p q new t i j before now = in_turn p q new (charges t i j p.x) (charge t i (j + 1)) before now ∙ ap (after p) (sym (charges_more t i j p.x))

-- ---- an account's seven requests
pub account_passed : (p a b c new : Progress) (t i : ℕ) → a ≡ after p (bill t i p.x) → b ≡ after a (charges t i 4 a.x) → c ≡ after b (payment t i b.x) → new ≡ after c (amend t i c.x)
    → new ≡ after p (account_cycle t i p.x)
unfolding account_cycle
account_passed p a b c new t i billed charged paid amended =
    let first = in_turn p a b (bill t i p.x) (charges t i 4) billed charged in
    let second = in_turn p b c (followed (bill t i p.x) (charges t i 4)) (payment t i) first paid in
    in_turn p c new (followed (followed (bill t i p.x) (charges t i 4)) (payment t i)) (amend t i) second amended

pub bill_count : (t i x : ℕ) → length (bill t i x).requests ≡ 1
unfolding bill
bill_count t i x = refl

pub payment_count : (t i x : ℕ) → length (payment t i x).requests ≡ 1
unfolding payment
payment_count t i x = refl

-- ---- accounts
pub passed_none : (p : Progress) (t : ℕ) → p ≡ after p (accounts_cycle t 0 p.x)
unfolding accounts_cycle
passed_none p t = sym (after-nothing p)

pub passed_more : (p q new : Progress) (t i : ℕ) → q ≡ after p (accounts_cycle t i p.x) → new ≡ after q (account_cycle t (i + 1) q.x) → new ≡ after p (accounts_cycle t (i + 1) p.x)
passed_more p q new t i before now = in_turn p q new (accounts_cycle t i p.x) (account_cycle t (i + 1)) before now ∙ ap (after p) (sym (accounts_more t i p.x))

-- ---- cycles
pub cycle_passed : (p q new : Progress) (accounts t : ℕ) (r : Request) → r ≡ roll_to (twentieth t) → q ≡ after p (accounts_cycle t accounts p.x) → new ≡ after q (one r q.x)
    → new ≡ after p (cycle accounts t p.x)
unfolding cycle
cycle_passed p q new accounts t r is before now =
    in_turn p q new (accounts_cycle t accounts p.x) (one r) before now ∙ ap (λ (x : Request). after p (followed (accounts_cycle t accounts p.x) (one x))) is

pub cycled_none : (p : Progress) (accounts : ℕ) → p ≡ after p (cycles accounts 0 p.x)
unfolding cycles
cycled_none p accounts = sym (after-nothing p)

pub cycled_more : (p q new : Progress) (accounts t : ℕ) → q ≡ after p (cycles accounts t p.x) → new ≡ after q (cycle accounts (t + 1) q.x) → new ≡ after p (cycles accounts (t + 1) p.x)
cycled_more p q new accounts t before now = in_turn p q new (cycles accounts t p.x) (cycle accounts (t + 1)) before now ∙ ap (after p) (sym (cycles_more accounts t p.x))

-- ---- all
pub all_sent : (p a b new : Progress) (accounts count : ℕ) → a ≡ after p (beginning p.x) → b ≡ after a (openings accounts a.x) → new ≡ after b (cycles accounts count b.x)
    → new ≡ after p (all_pieces p.x accounts count)
unfolding all_pieces
all_sent p a b new accounts count began opened cycled =
    let first = in_turn p a b (beginning p.x) (openings accounts) began opened in
    in_turn p b new (followed (beginning p.x) (openings accounts)) (cycles accounts count) first cycled
