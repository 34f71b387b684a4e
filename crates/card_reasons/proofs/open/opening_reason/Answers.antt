use Rattle.std.proofs.Common.{ℕ, List, [], ◌∷◌, Option, sym, ◌∙◌}
use Rattle.std.specs.Prelude.{nat_lt, nat_le}
use Rattle.card_events.specs.declared.reply.Refusal.{Refusal}
use Rattle.card_events.specs.declared.reply.Refusal.TheVariants as refusal
use Rattle.card_model.specs.Refusals.{bad_terms_of, where_true}
use Rattle.card_reasons.proofs.ReasonLemmas.{first_after, first_is}
use Rattle.card_reasons.proofs.open.opening_reason.Goals as goal

-- the reasons behind bad terms
abbrev behind : ℕ → ℕ → ℕ → Option Refusal → List (Option Refusal)
behind today accounts day without = where_true (nat_lt today day) refusal.DayAhead ∷ without ∷ where_true (nat_le 1000000 accounts) refusal.LedgerFull ∷ []

pub returns-in-Some-clause-value : goal.returns-in-Some-clause-value
returns-in-Some-clause-value c =
    first_is (bad_terms_of c.args.terms.now) c.in-Some.refusal (behind c.args.today c.args.accounts c.args.day c.args.without) (sym c.bad_term.ensures.value ∙ c.in-Some.is)

pub returns-in-None-clause-value : goal.returns-in-None-clause-value
returns-in-None-clause-value c =
    c.later_open_reason.ensures.value ∙ first_after (bad_terms_of c.args.terms.now) (behind c.args.today c.args.accounts c.args.day c.args.without) (sym c.bad_term.ensures.value ∙ c.in-None.is)
