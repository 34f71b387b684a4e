use Rattle.std.proofs.Common.{◌≡◌, ℕ, ◌+◌, ◌<◌, List, [], ◌∷◌, drop, get_or, length, sym, ap, subst, ◌∙◌, arith}
use Rattle.std.proofs.lemmas.List.{drop_more, length-map}
use Rattle.std.proofs.Math.ListN.{drop_of_length-le}
use Rattle.std.proofs.Math.Seq.{take-length}
use Rattle.card_past.proofs.AllRows.{copied, has-first, is-next, most-next, steps-copied, steps-next, to-make-next, within-next}
use Rattle.card_past.proofs.Grown.{list-then, no-longer, past-same, past-then}
use Rattle.card_book.specs.Stands.{day_to_fold}
use Rattle.card_past.specs.Making.{AreToMake}
use Rattle.card_past.specs.Owes.{bills_in}
use Rattle.card_past.specs.Waiting.{given_by}
use Rattle.card_past.specs.declared.owed.Owed.{Owed}
use Rattle.card_past.proofs.making.make_all.Goals as goal

next-bill : (owed : List Owed) (i n : ℕ) → i < length (bills_in owed) → n ≡ get_or (bills_in owed) i 0 → drop i (bills_in owed) ≡ n ∷ drop (i + 1) (bills_in owed)
next-bill owed i n low e = drop_more (bills_in owed) i 0 low ∙ ap (λ x. x ∷ drop (i + 1) (bills_in owed)) (sym e)

pub loop-i-init : goal.loop-i-init
loop-i-init g c =
    let h = c.args.posts.now.history in
    let shared = c.args.shared.now in
    let all = c.args.told.now.rows in
    let is = c.in_ok-later.ensures in
    record {
      left = copied shared h all c.args.issued.now.items (bills_in c.args.owed.now) c.args._today c.args.book.now c.in_ok-later.later c.args.past.now is.stands is.day is.whole c.requires.left;
      steps = ap (λ n. c.args.steps.now + n) (steps-copied shared h all c.args._today c.args.book.now c.in_ok-later.later is.day);
      within = λ low. let same = ap (day_to_fold (given_by h all shared)) is.day in omega (arith, low, same);
      front = take-length c.args.issued.now.items;
      capacity = omega arith;
      begins = past-same c.args.past.now;
    }

pub make_next-requires-clause-next : goal.make_next-requires-clause-next
make_next-requires-clause-next g c =
    let l = c.loop-i in
    let low : l.i < length (bills_in c.args.owed.now) = omega (arith, c.loop-i-test.true, length-map c.args.owed.now (λ (o : Owed). o.bill)) in
    let h = subst (λ (xs : List ℕ). AreToMake c.args.shared.now c.args.posts.now.history c.args.told.now.rows l.issued.items xs c.args._today l.later l.past) (next-bill c.args.owed.now l.i c.bill_at-bill.result low c.bill_at-bill.ensures) l.invariant.left in
    is-next c.args.shared.now c.args.posts.now.history c.args.told.now.rows l.issued.items c.bill_at-bill.result (drop (l.i + 1) (bills_in c.args.owed.now)) c.args._today l.later l.past h

pub returns-in_err-later-2-clause-most : goal.returns-in_err-later-2-clause-most
returns-in_err-later-2-clause-most g c =
    let l = c.loop-i in
    let history = c.args.posts.now.history in
    let shared = c.args.shared.now in
    let all = c.args.told.now.rows in
    let x = c.bill_at-bill.result in
    let xs = drop (l.i + 1) (bills_in c.args.owed.now) in
    let low : l.i < length (bills_in c.args.owed.now) = omega (arith, c.loop-i-test.true, length-map c.args.owed.now (λ (o : Owed). o.bill)) in
    let h = subst (λ (ys : List ℕ). AreToMake shared history all l.issued.items ys c.args._today l.later l.past) (next-bill c.args.owed.now l.i x low c.bill_at-bill.ensures) l.invariant.left in
    let f = has-first shared history all l.issued.items x xs c.args._today l.later l.past h in
    let few = most-next shared history all l.issued.items x xs c.args._today l.later l.past h c.requires.sound.opening c.requires.last l.steps c.make_next.new.steps (c.make_next.ensures.most f.reached f.row f.rest f.left f.number) in
    omega (arith, few, l.invariant.steps)

pub returns-in_err-later-2-clause-begins : goal.returns-in_err-later-2-clause-begins
returns-in_err-later-2-clause-begins g c = past-then c.args.past.now c.loop-i.past c.make_next.new.past c.loop-i.invariant.begins c.make_next.ensures.begins

pub returns-in_err-later-2-clause-front : goal.returns-in_err-later-2-clause-front
returns-in_err-later-2-clause-front g c =
    let l = c.loop-i in
    list-then c.args.issued.now.items l.issued.items c.make_next.new.issued.items l.invariant.front c.make_next.ensures.front (no-longer c.args.issued.now.items l.issued.items l.invariant.front)

pub loop-i-preserved : goal.loop-i-preserved
loop-i-preserved g c =
    let l = c.loop-i in
    let history = c.args.posts.now.history in
    let shared = c.args.shared.now in
    let all = c.args.told.now.rows in
    let x = c.bill_at-bill.result in
    let xs = drop (l.i + 1) (bills_in c.args.owed.now) in
    let low : l.i < length (bills_in c.args.owed.now) = omega (arith, c.loop-i-test.true, length-map c.args.owed.now (λ (o : Owed). o.bill)) in
    let h = subst (λ (ys : List ℕ). AreToMake shared history all l.issued.items ys c.args._today l.later l.past) (next-bill c.args.owed.now l.i x low c.bill_at-bill.ensures) l.invariant.left in
    let f = has-first shared history all l.issued.items x xs c.args._today l.later l.past h in
    let made = c.in_ok-later-2.ensures.made f.reached f.row f.rest f.left f.number in
    let new = c.make_next.new.issued.items in
    let later = c.in_ok-later-2.later in
    let past = c.make_next.new.past in
    let steps = c.in_ok-later-2.ensures.steps f.reached f.row f.rest f.left f.number in
    record {
      left = to-make-next shared history all l.issued.items x xs c.args._today l.later l.past h new later past made;
      steps = steps-next shared history all l.issued.items x xs c.args._today l.later l.past h c.requires.sound.opening c.requires.last new later past made l.steps c.make_next.new.steps steps ∙ l.invariant.steps;
      within = λ _. within-next shared history all l.issued.items x xs c.args._today l.later l.past h new later past made;
      front = list-then c.args.issued.now.items l.issued.items new l.invariant.front c.make_next.ensures.front (no-longer c.args.issued.now.items l.issued.items l.invariant.front);
      capacity = omega (arith, l.invariant.capacity, c.make_next.ensures.capacity);
      begins = past-then c.args.past.now l.past past l.invariant.begins c.make_next.ensures.begins;
    }

pub returns-clause-made : goal.returns-clause-made
returns-clause-made g c =
    let l = c.loop-i in
    let none : drop l.i (bills_in c.args.owed.now) ≡ [] = drop_of_length-le (bills_in c.args.owed.now) (omega (arith, c.loop-i-test.false, length-map c.args.owed.now (λ (o : Owed). o.bill))) in
    subst (λ (xs : List ℕ). AreToMake c.args.shared.now c.args.posts.now.history c.args.told.now.rows l.issued.items xs c.args._today l.later l.past) none l.invariant.left

pub returns-clause-steps : goal.returns-clause-steps
returns-clause-steps g c = c.loop-i.invariant.steps

pub returns-clause-most : goal.returns-clause-most
returns-clause-most g c = omega (arith, c.loop-i.invariant.steps)

pub returns-clause-begins : goal.returns-clause-begins
returns-clause-begins g c = c.loop-i.invariant.begins

pub returns-clause-front : goal.returns-clause-front
returns-clause-front g c = c.loop-i.invariant.front

pub returns-in_err-later-clause-front : goal.returns-in_err-later-clause-front
returns-in_err-later-clause-front g c = take-length c.args.issued.now.items

-- ---- the next Bill
pub bill_at-bill-requires : goal.bill_at-bill-requires
bill_at-bill-requires g c = omega (arith, c.loop-i-test.true)

pub returns-in_err-later-2-clause-capacity : goal.returns-in_err-later-2-clause-capacity
returns-in_err-later-2-clause-capacity g c = omega (arith, c.loop-i.invariant.capacity, c.make_next.ensures.capacity)

pub returns-clause-capacity : goal.returns-clause-capacity
returns-clause-capacity g c = c.loop-i.invariant.capacity

pub returns-clause-within : goal.returns-clause-within
returns-clause-within g c = c.loop-i.invariant.within
