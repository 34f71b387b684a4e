use Rattle.std.proofs.Common.{◌≡◌, List, sym, ap, subst, ◌∙◌, arith}
use Rattle.card_book.specs.Stands.{day_to_fold, steps_over}
use Rattle.card_daily.specs.Given.{Given, IsSound}
use Rattle.card_model.specs.Cycles.{IssuedRow}
use Rattle.card_model.specs.Refusals.{Lists}
use Rattle.card_past.proofs.NoneLeft.{none_is_left}
use Rattle.card_past.specs.Making.{folded_at, steps_on}
use Rattle.card_past.specs.Foldings.{FoldsOn, IsFolding, day_of}
use Rattle.card_past.specs.Waiting.{given_by}
use Rattle.card_past.proofs.making.fold_with_all.Goals as goal

pub new-inputs-requires-clause-sound : goal.new-inputs-requires-clause-sound
new-inputs-requires-clause-sound g c =
    let shared = c.args.shared.now in
    let history = c.args.posts.now.history in
    let lists : Lists = record { posts = history; issued = c.args.told.now.rows } in
    let s = none_is_left shared lists c.make_all.new.issued.items c.args.today (folded_at 0 c.in_ok-made.made c.make_all.new.past) c.in_ok-made.ensures.made in
    let e = ap (λ (rows : List IssuedRow). given_by history rows shared) (c.deref.ensures.value ∙ (c.make_cycle_room.ensures.items ∙ s.rows)) in
    subst IsSound (sym e) c.requires.sound

pub folded_on-requires : goal.folded_on-requires
folded_on-requires g c =
    let shared = c.args.shared.now in
    let history = c.args.posts.now.history in
    let lists : Lists = record { posts = history; issued = c.args.told.now.rows } in
    let s = none_is_left shared lists c.make_all.new.issued.items c.args.today (folded_at 0 c.in_ok-made.made c.make_all.new.past) c.in_ok-made.ensures.made in
    let e = c.new-inputs.ensures ∙ ap (λ (rows : List IssuedRow). given_by history rows shared) (c.deref.ensures.value ∙ (c.make_cycle_room.ensures.items ∙ s.rows)) in
    let within = c.in_ok-made.ensures.within c.requires.later in
    let day = s.folding.day in
    record {
      folded = subst (λ (x : Given). FoldsOn x c.args.today c.in_ok-made.made c.make_all.new.past) (sym e)
          (record { reached = s.reached; folding = s.folding; opened = c.requires.opened; later = omega (arith, within, day); last = c.requires.last });
    }

pub returns-clause-folding : goal.returns-clause-folding
returns-clause-folding g c =
    let shared = c.args.shared.now in
    let history = c.args.posts.now.history in
    let lists : Lists = record { posts = history; issued = c.args.told.now.rows } in
    let s = none_is_left shared lists c.make_all.new.issued.items c.args.today (folded_at 0 c.in_ok-made.made c.make_all.new.past) c.in_ok-made.ensures.made in
    let e = c.new-inputs.ensures ∙ ap (λ (rows : List IssuedRow). given_by history rows shared) (c.deref.ensures.value ∙ (c.make_cycle_room.ensures.items ∙ s.rows)) in
    subst (λ (x : Given). IsFolding x (folded_at c.args.today c.in_ok-later.later c.folded_on.new.past)) e c.in_ok-later.ensures.folding

pub returns-clause-rows : goal.returns-clause-rows
returns-clause-rows g c =
    let shared = c.args.shared.now in
    let lists : Lists = record { posts = c.args.posts.now.history; issued = c.args.told.now.rows } in
    let s = none_is_left shared lists c.make_all.new.issued.items c.args.today (folded_at 0 c.in_ok-made.made c.make_all.new.past) c.in_ok-made.ensures.made in
    c.make_cycle_room.ensures.items ∙ s.rows

pub returns-clause-steps : goal.returns-clause-steps
returns-clause-steps g c =
    let shared = c.args.shared.now in
    let history = c.args.posts.now.history in
    let lists : Lists = record { posts = history; issued = c.args.told.now.rows } in
    let s = none_is_left shared lists c.make_all.new.issued.items c.args.today (folded_at 0 c.in_ok-made.made c.make_all.new.past) c.in_ok-made.ensures.made in
    let e = c.new-inputs.ensures ∙ ap (λ (rows : List IssuedRow). given_by history rows shared) (c.deref.ensures.value ∙ (c.make_cycle_room.ensures.items ∙ s.rows)) in
    let same : steps_over c.new-inputs.result c.args.today (day_to_fold c.new-inputs.result (day_of c.in_ok-made.made)) ≡ steps_on shared history c.args.told.now.rows c.args.today c.in_ok-made.made =
    ap (λ (x : Given). steps_over x c.args.today (day_to_fold x (day_of c.in_ok-made.made))) e in
    let whole = c.in_ok-made.ensures.steps in
    let here = c.in_ok-later.ensures.steps in
    omega (arith, same, whole, here)

pub returns-clause-most : goal.returns-clause-most
returns-clause-most g c =
    let shared = c.args.shared.now in
    let history = c.args.posts.now.history in
    let lists : Lists = record { posts = history; issued = c.args.told.now.rows } in
    let s = none_is_left shared lists c.make_all.new.issued.items c.args.today (folded_at 0 c.in_ok-made.made c.make_all.new.past) c.in_ok-made.ensures.made in
    let e = c.new-inputs.ensures ∙ ap (λ (rows : List IssuedRow). given_by history rows shared) (c.deref.ensures.value ∙ (c.make_cycle_room.ensures.items ∙ s.rows)) in
    let same : steps_over c.new-inputs.result c.args.today (day_to_fold c.new-inputs.result (day_of c.in_ok-made.made)) ≡ steps_on shared history c.args.told.now.rows c.args.today c.in_ok-made.made =
    ap (λ (x : Given). steps_over x c.args.today (day_to_fold x (day_of c.in_ok-made.made))) e in
    let whole = c.in_ok-made.ensures.steps in
    let here = c.folded_on.ensures.most in
    omega (arith, same, whole, here)

pub returns-in_err-later-clause-most : goal.returns-in_err-later-clause-most
returns-in_err-later-clause-most g c =
    let shared = c.args.shared.now in
    let history = c.args.posts.now.history in
    let lists : Lists = record { posts = history; issued = c.args.told.now.rows } in
    let s = none_is_left shared lists c.make_all.new.issued.items c.args.today (folded_at 0 c.in_ok-made.made c.make_all.new.past) c.in_ok-made.ensures.made in
    let e = c.new-inputs.ensures ∙ ap (λ (rows : List IssuedRow). given_by history rows shared) (c.deref.ensures.value ∙ (c.make_cycle_room.ensures.items ∙ s.rows)) in
    let same : steps_over c.new-inputs.result c.args.today (day_to_fold c.new-inputs.result (day_of c.in_ok-made.made)) ≡ steps_on shared history c.args.told.now.rows c.args.today c.in_ok-made.made =
    ap (λ (x : Given). steps_over x c.args.today (day_to_fold x (day_of c.in_ok-made.made))) e in
    let whole = c.in_ok-made.ensures.steps in
    let here = c.folded_on.ensures.most in
    omega (arith, same, whole, here)
