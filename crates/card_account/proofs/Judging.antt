-- The verdict on a post, by what it comes to.
use Rattle.std.proofs.Common.{◌≡◌, ℕ, Bool, true, false, List, Option, Some, None, refl, ap, sym, ◌∙◌}
use Rattle.std.proofs.lemmas.Bool.{false≢true}
use Rattle.std.specs.Prelude.{if◌then◌else◌}
use Rattle.card_account.specs.Verdicts.{refunds_no_amount, verdict_of}
use Rattle.card_account.specs.declared.verdict.Verdict.{Verdict}
use Rattle.card_account.specs.declared.verdict.Verdict.TheVariants as verdict
use Rattle.card_events.specs.History.{at_number, is_open}
use Rattle.card_events.specs.declared.post.Post.{Post}
use Rattle.card_events.specs.declared.post.Post.TheVariants as post
use Rattle.card_events.specs.declared.reply.Refusal.{Refusal}
use Rattle.card_events.specs.declared.reply.Refusal.TheVariants as refusal
use Rattle.card_model.specs.Machine.{Refuses, Repeats, at_key, is_repeat_of, judged}
use Rattle.card_model.specs.Refusals
use Rattle.card_model.specs.Refusals.{Present, is_no_amount, reason_against}

-- of a key that is there
pub known-verdict : (now : Present) (key : List ℕ) (p : Post) (n : ℕ) (k : Option ℕ) (v : Verdict) → k ≡ Some n
    → v ≡ (if is_repeat_of p (at_number n now.lists.posts) then verdict.Repeat n else verdict.Refused (refusal.KeyReused n)) → v ≡ verdict_of (at_key now key p k)
known-verdict now key p n k v is said = said ∙ (by (is_repeat_of p (at_number n now.lists.posts)) ∙ ap (λ (o : Option ℕ). verdict_of (at_key now key p o)) (sym is))
  where
    by : (b : Bool) → (if b then verdict.Repeat n else verdict.Refused (refusal.KeyReused n)) ≡ verdict_of (if b then Repeats n else Refuses (refusal.KeyReused n))
    by true = refl
    by false = refl

-- of a new one: an Open
pub open-verdict : (now : Present) (key : List ℕ) (p : Post) → is_open p ≡ true → verdict.Refused refusal.AccountExists ≡ verdict_of (at_key now key p None)
open-verdict now key p is = ap (λ (b : Bool). verdict_of (if b then Refuses refusal.AccountExists else judged now key p (reason_against now p))) (sym is)

-- and another post, by the first reason against it
pub reason-verdict : (now : Present) (key : List ℕ) (p : Post) (r : Option Refusal) (v : Verdict) → is_open p ≡ false → r ≡ reason_against now p
    → (r ≡ None → v ≡ verdict.New) → ((q : Refusal) → r ≡ Some q → v ≡ verdict.Refused q) → v ≡ verdict_of (at_key now key p None)
reason-verdict now key p r v closed same none some =
    by r refl
    ∙ (ap (λ (o : Option Refusal). verdict_of (judged now key p o)) same
    ∙ ap (λ (b : Bool). verdict_of (if b then Refuses refusal.AccountExists else judged now key p (reason_against now p))) (sym closed))
  where
    by : (o : Option Refusal) → r ≡ o → v ≡ verdict_of (judged now key p o)
    by None e = none e
    by (Some q) e = some q e

-- a Refund of an amount that is out of its range is refused for that, whatever stands
refund-of-no-amount : (now : Present) (cents : ℕ) → is_no_amount cents ≡ true → reason_against now (post.Refund cents) ≡ Some refusal.AmountRange
unfolding reason_against Refusals.is_out_of_range
refund-of-no-amount now cents is = rw is refl

pub no-amount : (now : Present) (p : Post) → refunds_no_amount p ≡ true → reason_against now p ≡ Some refusal.AmountRange
no-amount now (post.Refund cents) is = refund-of-no-amount now cents is
no-amount now _ is = absurd (false≢true is)

-- a refusal for a reason that is known
pub refused-verdict : (now : Present) (key : List ℕ) (p : Post) (q : Refusal) → is_open p ≡ false → reason_against now p ≡ Some q → verdict.Refused q ≡ verdict_of (at_key now key p None)
refused-verdict now key p q closed is =
    ap (λ (o : Option Refusal). verdict_of (judged now key p o)) (sym is)
    ∙ ap (λ (b : Bool). verdict_of (if b then Refuses refusal.AccountExists else judged now key p (reason_against now p))) (sym closed)
