-- Loops over the segments, from segment 2 on.
use Rattle.std.proofs.Common.{◌≡◌, ℕ, suc, ◌+◌, ◌-◌, ◌<◌, ◌≤◌, List, drop, length, sym, ap, ◌∙◌, subst, arith, get_or, Option, None}
use Rattle.std.proofs.lemmas.List.{get_or-drop, length-drop}
use Rattle.card_model.specs.Cycles.{Cycle}
use Rattle.card_model.specs.declared.entry.Entry.{Entry}
use Rattle.card_model.specs.declared.entry.Note.{Note}
use Rattle.card_model.specs.declared.segment.Segment.{Segment}
use Rattle.card_model.specs.declared.segment.Sort.TheVariants as sort
use Rattle.card_closing.specs.Interest.{amounts_of}
use Rattle.card_closing.specs.Turns.{Turn, charge_for, charged, in_turn, of_segment, with_charge}
use Rattle.card_closing.proofs.OfClosing.{amounts_of-at}

-- what stands for a segment that isn't there
abbrev pub no_segment : Segment
no_segment = record { sort = sort.Credit; post = 0; begins = 0; ends = None }

-- the amount of a segment in a list that begins with segment 2
pub amount-at : {A : Type 0} (amount : Segment → A → ℕ) (segments : List Segment) (xs : List A) (id : ℕ) (d : Segment) (e : A) → 2 ≤ id → id < length segments → length xs + 2 ≡ length segments
    → of_segment (amounts_of amount (drop 2 segments) xs) id ≡ amount (get_or segments id d) (get_or xs (id - 2) e)
amount-at amount segments xs id d e low high long =
    let kept : length (drop 2 segments) ≡ length segments - 2 = length-drop 2 segments in
    let place : 2 + (id - 2) ≡ id = omega (arith, low) in
    let here : get_or (drop 2 segments) (id - 2) d ≡ get_or segments id d = get_or-drop 2 segments (id - 2) d ∙ ap (λ k. get_or segments k d) place in
    amounts_of-at amount (drop 2 segments) xs (id - 2) d e (omega (arith, kept, low, high)) (omega (arith, low, high, long)) ∙ ap (λ g. amount g (get_or xs (id - 2) e)) here

-- ---- one segment more
next-at : (issued : Option Cycle) (note : Note) (asked : List Entry → ℕ → ℕ) (n x : ℕ) (t u v : Turn) → u ≡ in_turn issued note asked n t → asked u.entries (n + 2) ≡ x → v ≡ charged issued note (n + 2) x u → v ≡ in_turn issued note asked (suc n) t
unfolding in_turn charged
next-at issued note asked n x t u v h k l =
    l ∙ (ap (λ m. with_charge note (n + 2) (charge_for issued u (n + 2) m) u) (sym k)
    ∙ ap (λ (w : Turn). with_charge note (n + 2) (charge_for issued w (n + 2) (asked w.entries (n + 2))) w) h)

pub turn-next : (issued : Option Cycle) (note : Note) (asked : List Entry → ℕ → ℕ) (id x : ℕ) (t u v : Turn) → 2 ≤ id → u ≡ in_turn issued note asked (id - 2) t → asked u.entries id ≡ x → v ≡ charged issued note id x u
    → v ≡ in_turn issued note asked (id + 1 - 2) t
turn-next issued note asked id x t u v low h k l =
    let here : id ≡ id - 2 + 2 = omega (arith, low) in
    let next : suc (id - 2) ≡ id + 1 - 2 = omega (arith, low) in
    subst (λ n. v ≡ in_turn issued note asked n t) next
    (next-at issued note asked (id - 2) x t u v h (ap (λ i. asked u.entries i) (sym here) ∙ k) (l ∙ ap (λ i. charged issued note i x u) here))

pub turn-all : (issued : Option Cycle) (note : Note) (asked : List Entry → ℕ → ℕ) (segments : List Segment) (id : ℕ) (t u : Turn) → length segments ≤ id → id ≤ length segments → u ≡ in_turn issued note asked (id - 2) t
    → u ≡ in_turn issued note asked (length (drop 2 segments)) t
turn-all issued note asked segments id t u l m h =
    let long : id - 2 ≡ length (drop 2 segments) = omega (arith, l, m, length-drop 2 segments) in
    h ∙ ap (λ n. in_turn issued note asked n t) long
