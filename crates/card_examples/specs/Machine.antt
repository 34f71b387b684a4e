-- Worked values of the machine: replies, keys, and the days on which posts count.
use Rattle.std.specs.Prelude.{ℕ, ◌≡◌, List, [], ◌∷◌, ◌++◌, pos}
use Rattle.card_events.specs.Civil.{day_at}
use Rattle.card_events.specs.declared.anchor.Channel.TheVariants.{Online}
use Rattle.card_events.specs.declared.post.Place.TheVariants as place
use Rattle.card_events.specs.declared.post.Post.TheVariants as post
use Rattle.card_events.specs.declared.reply.Refusal.TheVariants as refusal
use Rattle.card_events.specs.declared.reply.Reply.TheVariants as reply
use Rattle.card_events.specs.declared.request.Request.{Request}
use Rattle.card_model.specs.Entries.{negated}
use Rattle.card_model.specs.Machine.{accepted_from, replies, replies_from, run, start, step}
use Rattle.card_examples.specs.Accounts.{charge_jan10, entries_after, fee_row, open_a, owed_after, pay_online, roll, terms_with, to_a}

-- an account is opened on 2024-03-01, and charged 12.50
abbrev pub first_day : List Request
first_day =
    roll 2024 3 1 ∷ to_a 1 (post.Open (day_at 2024 3 1) (terms_with 2500)) ∷ to_a 2 (post.Charge (day_at 2024 3 1) place.Purchase 1250) ∷ []

-- the same charge again
abbrev pub again : Request
again = to_a 2 (post.Charge (day_at 2024 3 1) place.Purchase 1250)

-- another charge under its key
abbrev pub other : Request
other = to_a 2 (post.Charge (day_at 2024 3 1) place.Purchase 1251)

-- an account that was opened on 2024-01-06; today is 2024-01-10
abbrev pub opened : List Request
opened = fee_row 3000 4100 ∷ roll 2024 1 10 ∷ open_a 2500 ∷ []

-- a charge of these cents and a payment, of earlier days
abbrev pub imported : ℕ → List Request
imported cents = to_a 2 (post.Charge (day_at 2024 1 8) place.Purchase cents) ∷ pay_online 3 (day_at 2024 1 9) 500 ∷ []

-- 50 dollars charged and 70 paid
abbrev pub overpaid : List Request
overpaid = opened ++ charge_jan10 2 place.Purchase 5000 ∷ pay_online 3 (day_at 2024 1 10) 7000 ∷ []

-- then 15 dollars charged
abbrev pub charged_again : List Request
charged_again = overpaid ++ charge_jan10 4 place.Purchase 1500 ∷ []

-- then 5 refunded
abbrev pub refunded : List Request
refunded = charged_again ++ to_a 5 (post.Refund 500) ∷ []

-- 10 dollars charged, and 4 paid at 17:01
abbrev pub paid_after_17 : List Request
paid_after_17 = opened ++ charge_jan10 2 place.Purchase 1000 ∷ to_a 3 (post.Payment (day_at 2024 1 10) 1021 Online 400) ∷ []

-- replies, and what they leave
pub record MachineIsWorked : Type 0 where
  -- posts are numbered in the order in which they are accepted
  pub replies_of_first : replies first_day ≡ reply.Done ∷ reply.Accepted 1 ∷ reply.Accepted 2 ∷ []
  pub owed_of_first : owed_after first_day ≡ pos 1250
  -- a repeat is answered with the old number, and changes nothing
  pub repeated : step (run first_day) again ≡ (run first_day, reply.Accepted 2)
  -- other content under a key that is there is refused
  pub reused : step (run first_day) other ≡ (run first_day, reply.Refused (refusal.KeyReused 2))
  -- what is kept are the requests that were newly accepted
  pub kept : accepted_from start (first_day ++ again ∷ other ∷ []) ≡ first_day
  -- a file that is imported again changes nothing
  pub import : replies_from (run opened) (imported 1100) ≡ reply.Accepted 2 ∷ reply.Accepted 3 ∷ []
  pub import_again : replies_from (run (opened ++ imported 1100)) (imported 1100) ≡ reply.Accepted 2 ∷ reply.Accepted 3 ∷ []
  pub import_changed : replies_from (run (opened ++ imported 1100)) (imported 1101) ≡ reply.Refused (refusal.KeyReused 2) ∷ reply.Accepted 3 ∷ []
  pub import_entries : entries_after (opened ++ imported 1100 ++ imported 1101) ≡ (2, pos 1100) ∷ (2, negated 500) ∷ []
  -- what is paid above all that is owed is a credit balance; charges use it up first, and a refund too
  pub credit : entries_after overpaid ≡ (2, pos 5000) ∷ (0, negated 2000) ∷ (2, negated 5000) ∷ []
  pub credit_used : owed_after charged_again ≡ negated 500
  pub credit_refunded : owed_after refunded ≡ pos 0
  -- a payment that comes in after 17:00 counts from the next day on
  pub after_17 : owed_after paid_after_17 ≡ pos 1000
  pub next_day : owed_after (paid_after_17 ++ roll 2024 1 11 ∷ []) ≡ pos 600
