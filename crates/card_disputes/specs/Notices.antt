-- The day of a charge and the Bills that reflect it, post by post.
use Rattle.std.specs.Prelude.{ℕ, ◌+◌, drop, List, Option, Some, None}
use Rattle.std.specs.List.{find}
use Rattle.std.specs.Option.{option_map}
use Rattle.card_events.specs.History.{amend_of, amended_day, at_number, last_amend}
use Rattle.card_events.specs.declared.kept.Kept.{Kept}
use Rattle.card_events.specs.declared.post.Post.{Post}
use Rattle.card_events.specs.declared.post.Post.TheVariants as post
use Rattle.card_model.specs.Deadlines.{bills_from}

-- the own day of a charge
abbrev pub charge_own : Post → Option ℕ
charge_own (post.Charge day _ _) = Some day
charge_own _ = None

-- the day that a post gives to post n, else this one
abbrev pub amended_at : ℕ → Post → ℕ → ℕ
amended_at n p day = amended_day (amend_of n p) day

-- the day that stands for a charge, by the last Amend of it
abbrev pub charge_in : Option (ℕ × ℕ) → Option Kept → Option ℕ
charge_in amend None = None
charge_in amend (Some k) = option_map (amended_day amend) (charge_own k.post)

-- the day of the charge with a number as it stands, none where no charge has it
abbrev pub charge_day : ℕ → List Kept → Option ℕ
charge_day n history = charge_in (last_amend n history) (at_number n history)

-- the last day for a Dispute of post n, which belongs to this cycle: 60 days after the first later Bill of it or of a later one
abbrev pub notice_end_at : ℕ → ℕ → List Kept → Option ℕ
notice_end_at n cycle history = option_map (λ k. k.accepted + 60) (find (λ k. bills_from cycle k.post) (drop n history))
