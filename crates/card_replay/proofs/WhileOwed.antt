-- An account by the rows that are made, while others are owed.
use Rattle.std.proofs.Common.{◌≡◌, ℕ, zero, suc, ◌-◌, ◌<◌, ◌≤◌, refl, sym, ap, ◌∙◌, subst, arith, Some}
use Rattle.std.proofs.lemmas.List.Elements.{All-weaker}
use Rattle.card_billed.proofs.SheetsStay.{unmade_rows_leave_sheets}
use Rattle.card_book.specs.Statements.{statement_on}
use Rattle.card_daily.specs.Given.{Given, IsSound}
use Rattle.card_daily.specs.declared.track.Statement.{Statement}
use Rattle.card_events.proofs.Cycles.{closing_grows}
use Rattle.card_events.specs.Billing.{closing}
use Rattle.card_events.specs.declared.anchor.Anchor.{Anchor}
use Rattle.card_events.specs.History.{anchor_of}
use Rattle.card_events.specs.SharedRows.{SharedRows}
use Rattle.card_model.proofs.Calendar.{cycles_are_of_the_calendar}
use Rattle.card_model.specs.Cycles.{Cycle, IssuedRow, Sheet}
use Rattle.card_model.specs.Folds.{cycle_at}
use Rattle.card_model.specs.Sheets.{sheet_of}
use Rattle.card_past.proofs.Through.{closed-in, cycles-through}
use Rattle.card_past.proofs.Waiting.{front-sound, unmade_rows_leave_it}
use Rattle.card_replay.specs.Making.{folded_at}
use Rattle.card_replay.specs.Replays.{HasClosings, IsFolding, IsReplay, Replay, given_of}
use Rattle.card_replay.specs.Waiting.{given_by}
use Rattle.card_statement.proofs.AtClosing.{cycles_stand_at_closing}

before-it : (a : Anchor) (n : ℕ) → closing a (n - 1) ≤ closing a n
before-it a zero = omega arith
before-it a (suc n) =
    let up = closing_grows a n in
    let back : suc n - 1 ≡ n = omega arith in
    subst (λ k. closing a k ≤ closing a (suc n)) (sym back) (omega (arith, up))

statement-with : ℕ → Cycle → Sheet → Statement
statement-with issue c s = record { cycle = c; issue = issue; sheet = s }

statement-is : (g : Given) (issue : ℕ) (c : Cycle) → statement_on g issue c ≡ statement-with issue c (sheet_of g.history g.issued g.shared issue c)
unfolding statement-with
statement-is g issue c = refl

module _ (shared : SharedRows) (r : Replay) (h : IsReplay shared r) where
  abbrev pub by_made : Given
  by_made = given_by r.lists.posts r.late.made shared

  pub made-sound : IsSound by_made
  made-sound = front-sound r.lists.posts r.late.made h.late.rest shared (subst (λ rows. IsSound (given_by r.lists.posts rows shared)) h.late.rows h.sound)

  -- what is kept stands with them
  made-folding : IsFolding by_made (folded_at r.folding.reached r.folding.book r.folding.past)
  made-folding =
      let f = folded_at r.folding.reached r.folding.book r.folding.past in
      (unmade_rows_leave_it r.lists.posts r.late.made h.late.rest shared f h.sound.opening h.late.unmade
      (All-weaker (λ (x : IssuedRow). r.folding.reached < x.day) (λ (x : IssuedRow). r.folding.reached ≤ x.day) (λ x l. omega (arith, l)) h.late.rest h.late.ahead)).without
      (subst (λ rows. IsFolding (given_by r.lists.posts rows shared) f) h.late.rows
      (record { day = h.folding.day; whole = h.folding.whole; stands = h.folding.stands; marks = h.folding.marks; eve = tt }))

  pub made-closings : HasClosings by_made r.folding.book r.folding.past
  made-closings = record { stands = made-folding.stands; marks = made-folding.marks }

  -- by them, a closed cycle has the statement that it has by all rows
  pub made-states : (number issue : ℕ) (c : Cycle) → cycle_at number r.folding.past.track.cycles.items ≡ Some c → statement_on by_made issue c ≡ statement_on (given_of r.lists shared) issue c
  made-states number issue c at =
      let a = anchor_of r.lists.posts in
      let f = folded_at r.folding.reached r.folding.book r.folding.past in
      let dated = h.dated in
      let there = ap (cycle_at number) (sym (cycles-through by_made r.folding.book r.folding.past.track r.folding.reached made-folding.stands made-folding.day)) ∙ at in
      let days = cycles_are_of_the_calendar.days r.lists.posts r.late.made shared r.folding.reached number c h.sound.opening (omega (arith, dated)) there in
      let stands = cycles_stand_at_closing r.lists.posts r.late.made shared r.folding.reached number c there in
      let within = closed-in by_made f number c made-folding at in
      let early : closing a (c.number - 1) ≤ c.closing = subst (λ d. closing a (c.number - 1) ≤ d) (ap (closing a) days.number ∙ sym days.closing) (before-it a c.number) in
      let sheets = unmade_rows_leave_sheets r.lists.posts r.late.made h.late.rest shared issue c h.late.unmade
      (All-weaker (λ (x : IssuedRow). r.folding.reached < x.day) (λ (x : IssuedRow). c.closing ≤ x.day) (λ x l. omega (arith, l, within)) h.late.rest h.late.ahead) early stands.previous in
      statement-is by_made issue c
      ∙ (ap (statement-with issue c) (sym sheets ∙ ap (λ rows. sheet_of r.lists.posts rows shared issue c) (sym h.late.rows))
      ∙ sym (statement-is (given_of r.lists shared) issue c))
