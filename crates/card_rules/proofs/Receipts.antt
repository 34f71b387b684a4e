-- A payment is credited as of its day of receipt.
use Rattle.std.proofs.Common.{◌≡◌, ℕ, ◌≤◌, ◌<◌, ◌⊎◌, inl, inr, Bool, true, false, cond, List, refl, sym, ◌∙◌, subst, arith}
use Rattle.std.proofs.lemmas.Bool.{cases_lt}
use Rattle.std.proofs.lemmas.List.Elements.{All-contains}
use Rattle.std.specs.List.{Contains}
use Rattle.card_events.specs.Business.{credit_day, is_mail, mail_day}
use Rattle.card_events.specs.History.{CorrectedPost, amended_day, anchor_of, corrected, last_amend}
use Rattle.card_events.specs.declared.anchor.Anchor.{Anchor}
use Rattle.card_events.specs.declared.anchor.Channel.{Channel}
use Rattle.card_events.specs.declared.kept.Kept.{Kept}
use Rattle.card_events.specs.declared.post.Post.TheVariants as post
use Rattle.card_fees.proofs.Payments.{Stands, all-stand}
use Rattle.card_rules.proofs.Credited.{IsMoved, credited-on, late-credit, mail-is, timely-credit}
use Rattle.card_rules.specs.Receipts.{IsAsOfADueDate, PaymentsAreCreditedOnReceipt}

on-its-day : (history : List Kept) (holidays : List ℕ) (p : CorrectedPost) (by : Channel) (day minute cents : ℕ) → Contains (corrected (anchor_of history) holidays history) p
    → p.post ≡ post.Payment day minute by cents → p.day ≡ credit_day (anchor_of history) holidays (amended_day (last_amend p.number history) day) minute (is_mail by)
on-its-day history holidays p by day minute cents c e =
    let a = anchor_of history in
    credited-on a holidays history p by day minute cents (All-contains (Stands a holidays history) (corrected a holidays history) p (all-stand a holidays history) c) e

-- mail is credited on its day, or as of a due date that it makes up for
moved : (a : Anchor) (holidays : List ℕ) (receipt : ℕ) → IsMoved a holidays receipt → IsAsOfADueDate a holidays true receipt (mail_day a holidays receipt)
moved a holidays receipt m = by (cases_lt 0 receipt)
  where
    by : (0 < receipt) ⊎ (receipt ≤ 0) → IsAsOfADueDate a holidays true receipt (mail_day a holidays receipt)
    by (inl some) =
        let h = m.met in
        let low = h.low in
        record { mail = refl; due = h.due; earlier = omega (arith, low, some); closed = λ d from to. h.closed d from (omega (arith, to)); business = m.business }
    by (inr none) =
        let h = m.met in
        let low = h.low in
        let quiet = h.closed receipt (omega (arith, low, none)) (omega (arith, none)) in
        let works = m.business in
        absurd (cc)

timely : (a : Anchor) (holidays : List ℕ) (receipt : ℕ) (by_mail : Bool) → (cond by_mail (mail_day a holidays receipt) receipt ≡ receipt) ⊎ IsAsOfADueDate a holidays by_mail receipt (cond by_mail (mail_day a holidays receipt) receipt)
timely a holidays receipt false = inl refl
timely a holidays receipt true = by (mail-is a holidays receipt)
  where
    by : (mail_day a holidays receipt ≡ receipt) ⊎ IsMoved a holidays receipt → (mail_day a holidays receipt ≡ receipt) ⊎ IsAsOfADueDate a holidays true receipt (mail_day a holidays receipt)
    by (inl e) = inl e
    by (inr m) = inr (moved a holidays receipt m)

pub payments_are_credited_on_receipt : PaymentsAreCreditedOnReceipt
payments_are_credited_on_receipt = record {
  by_five = λ history holidays p by day minute cents c e l.
      let a = anchor_of history in
      let receipt = amended_day (last_amend p.number history) day in
      early a holidays receipt p.day (is_mail by) (on-its-day history holidays p by day minute cents c e ∙ timely-credit a holidays receipt minute (is_mail by) (omega (arith, l)))
      (timely a holidays receipt (is_mail by));
  after_five = λ history holidays p by day minute cents c e l.
      let a = anchor_of history in
      let receipt = amended_day (last_amend p.number history) day in
      on-its-day history holidays p by day minute cents c e ∙ late-credit a holidays receipt minute (is_mail by) (omega (arith, l));
}
  where
    early : (a : Anchor) (holidays : List ℕ) (receipt credited : ℕ) (by_mail : Bool) → credited ≡ cond by_mail (mail_day a holidays receipt) receipt
        → (cond by_mail (mail_day a holidays receipt) receipt ≡ receipt) ⊎ IsAsOfADueDate a holidays by_mail receipt (cond by_mail (mail_day a holidays receipt) receipt)
        → (credited ≡ receipt) ⊎ IsAsOfADueDate a holidays by_mail receipt credited
    early a holidays receipt credited by_mail e (inl same) = inl (e ∙ same)
    early a holidays receipt credited by_mail e (inr due) = inr (subst (IsAsOfADueDate a holidays by_mail receipt) (sym e) due)
