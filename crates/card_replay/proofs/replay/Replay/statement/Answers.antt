use Rattle.std.proofs.Common.{◌≡◌, ◌≤◌, List, length, sym, ap, subst, ◌∙◌, Some}
use Rattle.std.specs.Option.{option_map}
use Rattle.card_events.specs.History.{anchor_of, corrected}
use Rattle.card_model.specs.Cycles.{Cycle}
use Rattle.card_model.specs.Folds.{cycle_at}
use Rattle.card_model.specs.Refusals.{book_today}
use Rattle.card_daily.specs.Given.{Given, IsSound}
use Rattle.card_book.specs.Statements.{statement_on}
use Rattle.card_replay.proofs.GivenMade.{given-by-made}
use Rattle.card_replay.proofs.WhileOwed.{made-closings, made-sound, made-states}
use Rattle.card_past.proofs.CycleBefore.{there-is}
use Rattle.card_replay.proofs.Reached.{cycles-today}
use Rattle.card_replay.specs.Replays.{HasClosings, Replay, given_of, present_of}
use Rattle.card_replay.proofs.replay.Replay.statement.Goals as goal

pub new-inputs-requires-clause-stands : goal.new-inputs-requires-clause-stands
new-inputs-requires-clause-stands c =
    subst (λ (x : Replay). x.corrected ≡ corrected (anchor_of x.lists.posts) c.args.shared.now.holidays x.lists.posts) (sym c.self.view_is) c.requires.today.replay.corrected

pub new-inputs-requires-clause-sound : goal.new-inputs-requires-clause-sound
new-inputs-requires-clause-sound c =
    let shared = c.args.shared.now in
    let parts = given-by-made shared c.args.self.now c.self.inside.posts.history c.self.inside.issued.items c.deref.result.now (ap (λ (x : Replay). x.lists.posts) c.self.view_is) c.deref.ensures.value (ap (λ (x : Replay). x.late.made) c.self.view_is) in
    subst IsSound (sym parts) (made-sound shared c.args.self.now c.requires.today.replay)

pub statement_at-requires-clause-closings : goal.statement_at-requires-clause-closings
statement_at-requires-clause-closings c =
    let shared = c.args.shared.now in
    let r = c.args.self.now in
    let parts = given-by-made shared r c.self.inside.posts.history c.self.inside.issued.items c.deref.result.now (ap (λ (x : Replay). x.lists.posts) c.self.view_is) c.deref.ensures.value (ap (λ (x : Replay). x.late.made) c.self.view_is) in
    subst (λ (x : Replay). HasClosings c.new-inputs.result x.folding.book x.folding.past) (sym c.self.view_is)
    (subst (λ (g : Given). HasClosings g r.folding.book r.folding.past) (sym (c.new-inputs.ensures ∙ parts)) (made-closings shared r c.requires.today.replay))

pub statement_at-requires-clause-first : goal.statement_at-requires-clause-first
statement_at-requires-clause-first c = (c.closed_number.ensures.some c.in-Some.number c.in-Some.is).1

pub statement_at-requires-clause-closed : goal.statement_at-requires-clause-closed
statement_at-requires-clause-closed c = subst (λ (cs : List Cycle). c.in-Some.number ≤ length cs) c.deref-2.ensures.value (c.closed_number.ensures.some c.in-Some.number c.in-Some.is).2

pub returns-in_ok-statement_at-in-Some : goal.returns-in_ok-statement_at-in-Some
returns-in_ok-statement_at-in-Some c =
    let shared = c.args.shared.now in
    let r = c.args.self.now in
    let g = given_of r.lists shared in
    let parts = given-by-made shared r c.self.inside.posts.history c.self.inside.issued.items c.deref.result.now (ap (λ (x : Replay). x.lists.posts) c.self.view_is) c.deref.ensures.value (ap (λ (x : Replay). x.late.made) c.self.view_is) in
    let inputs = c.new-inputs.ensures ∙ parts in
    let is = c.closed_number.ensures.some c.in-Some.number c.in-Some.is in
    let mine = c.self.inside.past.track.cycles.items in
    let at = there-is mine c.in-Some.number is.1 (subst (λ (cs : List Cycle). c.in-Some.number ≤ length cs) c.deref-2.ensures.value is.2) in
    let same = ap (λ (x : Replay). x.folding.past.track.cycles.items) c.self.view_is in
    let states = made-states shared r c.requires.today.replay c.in-Some.number c.args.issue at.0 (ap (cycle_at c.in-Some.number) (sym same) ∙ at.1) in
    let cycles = same ∙ cycles-today shared c.args._today r c.requires.today.replay c.requires.today.reached in
    let there : cycle_at c.args.cycle (book_today (present_of c.args._today shared r.lists)).cycles ≡ Some at.0 =
    ap (cycle_at c.args.cycle) (sym cycles) ∙ (ap (λ n. cycle_at n mine) (sym is.0) ∙ at.1) in
    ap Some (c.in_ok-statement_at-in-Some.ensures at.0 at.1 ∙ (ap (λ x. statement_on x c.args.issue at.0) inputs ∙ states)) ∙ ap (option_map (statement_on g c.args.issue)) (sym there)

pub returns-in-None : goal.returns-in-None
returns-in-None c =
    let shared = c.args.shared.now in
    let r = c.args.self.now in
    let g = given_of r.lists shared in
    let cycles = ap (λ (x : Replay). x.folding.past.track.cycles.items) c.self.view_is ∙ cycles-today shared c.args._today r c.requires.today.replay c.requires.today.reached in
    let none = ap (cycle_at c.args.cycle) (sym (c.deref-2.ensures.value ∙ cycles)) ∙ c.closed_number.ensures.none c.in-None.is in
    ap (option_map (statement_on g c.args.issue)) (sym none)
