use Rattle.std.proofs.Common.{◌≡◌, ◌+◌, List, ◌∷◌, ◌++◌, length, take, sym, ap, subst, ◌∙◌, arith}
use Rattle.std.proofs.Math.Seq.{take-append_seam, take-length}
use Rattle.std.specs.Option.{option_copied}
use Rattle.card_book.specs.Stands.{day_to_fold, steps_over}
use Rattle.card_daily.specs.Given.{Given, IsSound}
use Rattle.card_events.specs.declared.kept.Kept.{Kept}
use Rattle.card_model.specs.Cycles.{IssuedRow}
use Rattle.card_past.proofs.NextRow.{bill-there, folds-next, made-sound, next-made, next-row, next-small, next-steps}
use Rattle.card_past.specs.Rows.{issued_as, issued_from}
use Rattle.card_past.specs.Making.{folded_at}
use Rattle.card_past.specs.Foldings.{FoldsOn, IsFolding, day_of}
use Rattle.card_past.specs.Waiting.{given_by}
use Rattle.card_past.proofs.making.make_next.Goals as goal

pub unreachable-requires : goal.unreachable-requires
unreachable-requires g c =
    let n = c.requires.next in
    bill-there c.args.shared.now c.args.posts.now.history c.args._told.now.rows c.args.issued.now.items c.args.bill n.row n.rest (folded_at n.reached c.args.book.now c.args.past.now) n.left n.number (option_copied c.get.result) c.get.ensures (ap option_copied c.in-None.is)

pub new-inputs-requires-clause-sound : goal.new-inputs-requires-clause-sound
new-inputs-requires-clause-sound g c =
    let n = c.requires.next in
    let history = c.args.posts.now.history in
    let shared = c.args.shared.now in
    let e = ap (λ (rows : List IssuedRow). given_by history rows shared) (c.deref.ensures.value ∙ c.make_cycle_room.ensures.items) in
    subst IsSound (sym e) (made-sound shared history c.args._told.now.rows c.args.issued.now.items (n.row ∷ n.rest) (folded_at n.reached c.args.book.now c.args.past.now) n.left c.requires.sound)

pub made_on-requires-clause-folded : goal.made_on-requires-clause-folded
made_on-requires-clause-folded g c =
    let n = c.requires.next in
    let history = c.args.posts.now.history in
    let shared = c.args.shared.now in
    let there = sym c.get.ensures ∙ ap option_copied c.in-Some.is in
    let e = c.new-inputs.ensures ∙ ap (λ (rows : List IssuedRow). given_by history rows shared) (c.deref.ensures.value ∙ c.make_cycle_room.ensures.items) in
    subst (λ (x : Given). FoldsOn x c.in-Some.kept.now.accepted c.args.book.now c.args.past.now) (sym e)
    (folds-next shared history c.args._told.now.rows c.args.issued.now.items c.args.bill n.reached n.row n.rest c.args.book.now c.args.past.now n.left n.number c.in-Some.kept.now there)

pub made_on-requires-clause-small : goal.made_on-requires-clause-small
made_on-requires-clause-small g c =
    let n = c.requires.next in
    let there = sym c.get.ensures ∙ ap option_copied c.in-Some.is in
    next-small c.args.shared.now c.args.posts.now.history c.args._told.now.rows c.args.issued.now.items c.args.bill n.reached n.row n.rest c.args.book.now c.args.past.now n.left n.number c.in-Some.kept.now there

pub returns-in_err-made-clause-most : goal.returns-in_err-made-clause-most
returns-in_err-made-clause-most g c = λ reached r rest left number.
    let history = c.args.posts.now.history in
    let shared = c.args.shared.now in
    let there = sym c.get.ensures ∙ ap option_copied c.in-Some.is in
    let e = c.new-inputs.ensures ∙ ap (λ (rows : List IssuedRow). given_by history rows shared) (c.deref.ensures.value ∙ c.make_cycle_room.ensures.items) in
    let k : Kept = c.in-Some.kept.now in
    let same = ap (λ (x : Given). steps_over x k.accepted (day_to_fold x (day_of c.args.book.now))) e
    ∙ next-steps shared history c.args._told.now.rows c.args.issued.now.items c.args.bill reached r rest c.args.book.now c.args.past.now left number k there in
    omega (arith, c.made_on.ensures.most, same)

pub returns-clause-made : goal.returns-clause-made
returns-clause-made g c = λ reached r rest left number.
    let history = c.args.posts.now.history in
    let shared = c.args.shared.now in
    let all = c.args._told.now.rows in
    let made = c.args.issued.now.items in
    let k : Kept = c.in-Some.kept.now in
    let later = c.in_ok-made.made.book in
    let past = c.made_on.new.past in
    let rows = issued_as c.in_ok-made.made.row in
    let there = sym c.get.ensures ∙ ap option_copied c.in-Some.is in
    let e = c.new-inputs.ensures ∙ ap (λ (rows : List IssuedRow). given_by history rows shared) (c.deref.ensures.value ∙ c.make_cycle_room.ensures.items) in
    let folding = subst (λ (x : Given). IsFolding x (folded_at k.accepted later past)) e c.in_ok-made.ensures.folding in
    let is = subst (λ (x : Given). rows ≡ issued_from x past.track.cycles.items c.args.bill k.accepted k.post) e c.in_ok-made.ensures.row in
    let one = next-row shared history all made c.args.bill reached r rest c.args.book.now c.args.past.now left number k there later past rows folding is in
    let new = c.push_issued.ensures.items ∙ (ap (λ (xs : List IssuedRow). xs ++ rows) c.make_cycle_room.ensures.items ∙ ap (λ (xs : List IssuedRow). made ++ xs) one) in
    next-made shared history all made c.args.bill reached r rest c.args.book.now c.args.past.now left number k there c.requires.sound.opening later past c.push_issued.new.list.items folding new

pub returns-clause-steps : goal.returns-clause-steps
returns-clause-steps g c = λ reached r rest left number.
    let history = c.args.posts.now.history in
    let shared = c.args.shared.now in
    let there = sym c.get.ensures ∙ ap option_copied c.in-Some.is in
    let e = c.new-inputs.ensures ∙ ap (λ (rows : List IssuedRow). given_by history rows shared) (c.deref.ensures.value ∙ c.make_cycle_room.ensures.items) in
    let k : Kept = c.in-Some.kept.now in
    let same = ap (λ (x : Given). steps_over x k.accepted (day_to_fold x (day_of c.args.book.now))) e
    ∙ next-steps shared history c.args._told.now.rows c.args.issued.now.items c.args.bill reached r rest c.args.book.now c.args.past.now left number k there in
    c.in_ok-made.ensures.steps ∙ ap (λ n. c.args.steps.now + n) same

pub returns-clause-most : goal.returns-clause-most
returns-clause-most g c = λ reached r rest left number.
    let history = c.args.posts.now.history in
    let shared = c.args.shared.now in
    let there = sym c.get.ensures ∙ ap option_copied c.in-Some.is in
    let e = c.new-inputs.ensures ∙ ap (λ (rows : List IssuedRow). given_by history rows shared) (c.deref.ensures.value ∙ c.make_cycle_room.ensures.items) in
    let k : Kept = c.in-Some.kept.now in
    let same = ap (λ (x : Given). steps_over x k.accepted (day_to_fold x (day_of c.args.book.now))) e
    ∙ next-steps shared history c.args._told.now.rows c.args.issued.now.items c.args.bill reached r rest c.args.book.now c.args.past.now left number k there in
    omega (arith, c.made_on.ensures.most, same)

-- ---- what was made stays
pub returns-clause-front : goal.returns-clause-front
returns-clause-front g c =
    let old = c.args.issued.now.items in
    ap (take (length old)) (c.push_issued.ensures.items ∙ ap (λ (xs : List IssuedRow). xs ++ issued_as c.in_ok-made.made.row) c.make_cycle_room.ensures.items) ∙ take-append_seam old (issued_as c.in_ok-made.made.row)

pub returns-in_err-make_cycle_room-clause-front : goal.returns-in_err-make_cycle_room-clause-front
returns-in_err-make_cycle_room-clause-front g c = ap (take (length c.args.issued.now.items)) c.make_cycle_room.ensures.items ∙ take-length c.args.issued.now.items

pub returns-in_err-made-clause-front : goal.returns-in_err-made-clause-front
returns-in_err-made-clause-front g c = ap (take (length c.args.issued.now.items)) c.make_cycle_room.ensures.items ∙ take-length c.args.issued.now.items

-- ---- the room
pub returns-clause-capacity : goal.returns-clause-capacity
returns-clause-capacity g c = omega (arith, c.push_issued.ensures.capacity, c.make_cycle_room.ensures.capacity)
