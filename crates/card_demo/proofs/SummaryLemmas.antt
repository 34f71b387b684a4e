-- What a run of the generated requests comes to.
use Rattle.std.proofs.Common.{◌≡◌, ℕ, ◌+◌, length, refl, ap, ◌∙◌, zero-add}
use Rattle.card_demo.specs.Progress.{Progress, after, at_start, refusals}
use Rattle.card_demo.specs.Requests.{all_pieces, demo_requests}
use Rattle.card_demo.specs.Summary.{all_entries, demo_text, summary_text}
use Rattle.card_demo.specs.Sums.{totals}
use Rattle.card_demo.specs.declared.totals.Totals.{Totals}
use Rattle.card_model.specs.Machine.{run, start}

after_all : (seed accounts cycles : ℕ) (t : Totals) → t ≡ totals (all_entries (run (demo_requests seed accounts cycles)) accounts)
    → summary_text (0 + length (demo_requests seed accounts cycles)) (0 + refusals start (demo_requests seed accounts cycles)) t ≡ demo_text seed accounts cycles
unfolding demo_text
after_all seed accounts cycles t sums =
    let requests = demo_requests seed accounts cycles in
    let sum = totals (all_entries (run requests) accounts) in
    ap (summary_text (0 + length requests) (0 + refusals start requests)) sums
    ∙ (ap (λ (n : ℕ). summary_text n (0 + refusals start requests) sum) (zero-add (length requests)) ∙ ap (λ (n : ℕ). summary_text (length requests) n sum) (zero-add (refusals start requests)))

-- from the start of a ledger, and the state after all requests
pub summed_up : (seed accounts cycles : ℕ) (p q : Progress) (t : Totals) → p ≡ at_start seed → q ≡ after p (all_pieces p.x accounts cycles) → t ≡ totals (all_entries q.state accounts)
    → summary_text q.count q.refused t ≡ demo_text seed accounts cycles
unfolding after
summed_up seed accounts cycles p q t begins ran sums =
    let z = after (at_start seed) (all_pieces seed accounts cycles) in
    let is : q ≡ z = ran ∙ ap (λ (x : Progress). after x (all_pieces x.x accounts cycles)) begins in
    ap (λ (x : Progress). summary_text x.count x.refused t) is ∙ after_all seed accounts cycles t (sums ∙ ap (λ (x : Progress). totals (all_entries x.state accounts)) is)

pub same_demo : (seed accounts cycles s a c : ℕ) → seed ≡ s → accounts ≡ a → cycles ≡ c → demo_text seed accounts cycles ≡ demo_text s a c
same_demo seed accounts cycles s a c p q r = rw (p, q, r) refl
