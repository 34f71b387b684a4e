-- One turn of a loop that pays whole parts.
use Rattle.std.proofs.Common.{◌≡◌, ℕ, zero, suc, ◌+◌, ◌-◌, ◌<◌, ◌≤◌, ◌^◌, List, [], ◌∷◌, length, refl, ap, ◌∙◌, arith, get_or, set, Option, Some, None}
use Rattle.std.specs.List.{All}
use Rattle.std.specs.Option.{option_or}
use Rattle.std.proofs.lemmas.List.Elements.{All-nil, All-cons, All-head, All-tail, All-get_or}
use Rattle.card_model.specs.Allocation.{Ascends, Paying, best, excess_rule, never, paid_at, paid_on, pay, place_rule}
use Rattle.card_model.specs.declared.holding.Holding.{Holding}
use Rattle.card_model.proofs.Signs.{excess-chooses, minimum-chooses, place-chooses}
use Rattle.card_model.proofs.WholeParts.{Lasts, Steady, best-none, best-steady, excess_lasts, minimum_lasts, pay-add, pay_credit, pay_whole}
use Rattle.card_segments.specs.declared.rule.Rule.{Rule}
use Rattle.card_segments.specs.declared.rule.Rule.TheVariants as rule
use Rattle.card_segments.specs.Rules.{rule_of}

-- ---- a rule's choice lasts as long as a cent of it is left
steady-place : Steady (λ (h : Holding). h.of_place) never
steady-place = record { test = λ n h. refl; first = λ n g h. refl; second = λ n g h. refl }

place_lasts : Lasts place_rule
place_lasts n low hs h a e l = by (best (λ (h : Holding). h.of_place) never hs) refl e
  where
    by : (o : Option Holding) → best (λ (h : Holding). h.of_place) never hs ≡ o → option_or o (excess_rule hs) ≡ Some h → place_rule (paid_at h.id n hs) ≡ Some (paid_on n h)
    by None q e = rw (best-none (λ (h : Holding). h.of_place) never steady-place h.id n hs q) (excess_lasts n low hs h a e l)
    by (Some g) q e = rw (best-steady (λ (h : Holding). h.of_place) never steady-place n low hs h a (q ∙ e) l) refl

rule-lasts : (r : Rule) → Lasts (rule_of r)
rule-lasts rule.Minimum = minimum_lasts
rule-lasts rule.Excess = excess_lasts
rule-lasts rule.Place = place_lasts

pub positive : (r : Rule) (hs : List Holding) (h : Holding) → Ascends 0 hs → rule_of r hs ≡ Some h → 0 < h.balance
positive rule.Minimum hs h a e = (minimum-chooses 0 hs h a e).1
positive rule.Excess hs h a e = (excess-chooses 0 hs h a e).1
positive rule.Place hs h a e = (place-chooses 0 hs h a e).1

-- ---- the turn
abbrev pub at : List Holding → ℕ → Paying
at hs credit = record { left = hs; credit = credit }

pub turn : (r : Rule) (hs : List Holding) (h : Holding) (left cents credit : ℕ) → Ascends 0 hs → rule_of r hs ≡ Some h → cents ≤ h.balance → cents ≤ left
    → pay (rule_of r) left (at hs credit) ≡ pay (rule_of r) (left - cents) (at (paid_at h.id cents hs) credit)
turn r hs h left cents credit a e b l =
    let all : left ≡ cents + (left - cents) = omega arith in
    ap (λ n. pay (rule_of r) n (at hs credit)) all
    ∙ (pay-add (rule_of r) cents (left - cents) (at hs credit)
    ∙ ap (pay (rule_of r) (left - cents)) (pay_whole (rule_of r) (rule-lasts r) cents 0 (at hs credit) h a e b))

pub over : (r : Rule) (hs : List Holding) (left credit : ℕ) → rule_of r hs ≡ None → pay (rule_of r) left (at hs credit) ≡ at hs (credit + left)
over r hs left credit e = pay_credit (rule_of r) left (at hs credit) e

-- ---- room
abbrev pub Roomy : Holding → Type 0
Roomy h = h.paid + h.balance < 2 ^ 64

all-set : (P : Holding → Type 0) (xs : List Holding) (i : ℕ) (y : Holding) → All P xs → P y → All P (set xs i y)
all-set P [] i y a h = All-nil P
all-set P (x ∷ xs) zero y a h = All-cons P y xs h (All-tail P x xs a)
all-set P (x ∷ xs) (suc i) y a h = All-cons P x (set xs i y) (All-head P x xs a) (all-set P xs i y (All-tail P x xs a) h)

pub roomy-set : (hs : List Holding) (i cents : ℕ) (d : Holding) → i < length hs → All Roomy hs → cents ≤ (get_or hs i d).balance → All Roomy (set hs i (paid_on cents (get_or hs i d)))
roomy-set hs i cents d l a e =
    let here : Roomy (get_or hs i d) = All-get_or Roomy hs i d l a in
    all-set Roomy hs i (paid_on cents (get_or hs i d)) a (moved (get_or hs i d).paid (get_or hs i d).balance cents (2 ^ 64) here e)
  where
    moved : (p b c n : ℕ) → p + b < n → c ≤ b → (p + c) + (b - c) < n
    moved p b c n h l = omega arith

pub fits : (hs : List Holding) (i cents : ℕ) (d : Holding) → i < length hs → All Roomy hs → cents ≤ (get_or hs i d).balance → (get_or hs i d).paid + cents < 2 ^ 64
fits hs i cents d l a e =
    let here : Roomy (get_or hs i d) = All-get_or Roomy hs i d l a in
    less (get_or hs i d).paid (get_or hs i d).balance cents (2 ^ 64) here e
  where
    less : (p b c n : ℕ) → p + b < n → c ≤ b → p + c < n
    less p b c n h l = omega arith
