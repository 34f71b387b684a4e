use Rattle.std.proofs.Common.{◌≡◌, ◌⊎◌, ◌+◌, [], true, false, inl, inr, sym, ap, subst, ◌∙◌, arith, None}
use Rattle.card_events.specs.Keys.{with_key}
use Rattle.card_model.specs.Machine.{accepted}
use Rattle.card_model.specs.Refusals.{Lists, reason_against}
use Rattle.card_daily.specs.Given.{IsSound}
use Rattle.card_replay.proofs.Beside.{all-then, any-ok, both-within, makes-none, no-answer, none-then}
use Rattle.card_replay.proofs.Settled.{settled-today}
use Rattle.card_replay.proofs.Reached.{either-same, first-same, ready-same, reach-same, same-lists, within-today}
use Rattle.card_replay.specs.Needs.{needs_today}
use Rattle.card_replay.specs.Replays.{Folding, given_of, present_of}
use Rattle.card_replay.specs.Owes.{Late}
use Rattle.card_replay.specs.Steps.{steps_to}
use Rattle.card_book.specs.Stands.{steps_over}
use Rattle.card_model.specs.Unread.{is_unread}
use Rattle.card_replay.proofs.replay.Replay.prepare.Goals as goal

-- ---- the account where it is asked
pub make_for-requires-clause-replay : goal.make_for-requires-clause-replay
make_for-requires-clause-replay g c = c.reach_for.ensures.replay

pub make_for-requires-clause-reach : goal.make_for-requires-clause-reach
make_for-requires-clause-reach g c =
    let today = c.args.today in
    let old = c.args.self.now in
    let new = c.reach_for.new.self in
    reach-same today old new c.reach_for.ensures.same (within-today today old new c.requires.reach c.reach_for.ensures.reached) c.requires.reach

-- and where it leaves what is owed
pub changed-requires-clause-replay : goal.changed-requires-clause-replay
changed-requires-clause-replay g c = c.make_for.ensures.replay

pub changed-requires-clause-reach : goal.changed-requires-clause-reach
changed-requires-clause-reach g c =
    let today = c.args.today in
    let old = c.args.self.now in
    let new = c.make_for.new.self in
    reach-same today old new (same-lists old c.reach_for.new.self new c.reach_for.ensures.same c.make_for.ensures.same)
    (within-today today old new c.requires.reach (either-same today old c.reach_for.new.self new c.make_for.ensures.folding c.reach_for.ensures.reached)) c.requires.reach

pub changed-requires-clause-ready : goal.changed-requires-clause-ready
changed-requires-clause-ready g c = ready-same c.args.today c.args.post.now c.reach_for.new.self c.make_for.new.self c.make_for.ensures.folding c.in_ok-reach_for.ensures.ready

pub changed-requires-clause-leaves : goal.changed-requires-clause-leaves
changed-requires-clause-leaves g c = c.in_ok-make_for.ensures.leaves

pub changed-requires-clause-fresh : goal.changed-requires-clause-fresh
changed-requires-clause-fresh g c = ap (λ (l : Lists). with_key c.args.key l.posts) (c.make_for.ensures.same.lists ∙ c.reach_for.ensures.same.lists) ∙ c.requires.fresh

pub changed-requires-clause-no_reason : goal.changed-requires-clause-no_reason
changed-requires-clause-no_reason g c =
    subst (λ (l : Lists). reason_against (present_of c.args.today c.args.shared.now l) c.args.post.now ≡ None) (sym (c.make_for.ensures.same.lists ∙ c.reach_for.ensures.same.lists)) c.requires.no_reason

pub changed-requires-clause-first : goal.changed-requires-clause-first
changed-requires-clause-first g c =
    let new = c.make_for.new.self in
    first-same c.args.shared.now c.args.today c.args.post.now c.args.from c.args.self.now new (same-lists c.args.self.now c.reach_for.new.self new c.reach_for.ensures.same c.make_for.ensures.same) c.requires.first

pub changed-requires-clause-sound : goal.changed-requires-clause-sound
changed-requires-clause-sound g c =
    subst (λ (l : Lists). IsSound (given_of (accepted (present_of c.args.today c.args.shared.now l) c.args.key c.args.post.now) c.args.shared.now)) (sym (c.make_for.ensures.same.lists ∙ c.reach_for.ensures.same.lists)) c.requires.sound

-- ---- prepared
pub returns-clause-same : goal.returns-clause-same
returns-clause-same g c =
    same-lists c.args.self.now c.reach_for.new.self c.changed.new.self c.reach_for.ensures.same (same-lists c.reach_for.new.self c.make_for.new.self c.changed.new.self c.make_for.ensures.same c.changed.ensures.same)

pub returns-clause-reached : goal.returns-clause-reached
returns-clause-reached g c = either-same c.args.today c.args.self.now c.reach_for.new.self c.changed.new.self (c.changed.ensures.folding ∙ c.make_for.ensures.folding) c.reach_for.ensures.reached

-- today is reached where the post asks for that
pub returns-clause-ready : goal.returns-clause-ready
returns-clause-ready g c =
    any-ok c.changed.result _ (ready-same c.args.today c.args.post.now c.reach_for.new.self c.changed.new.self (c.changed.ensures.folding ∙ c.make_for.ensures.folding) c.in_ok-reach_for.ensures.ready)

-- nothing is folded but to reach today
pub returns-clause-idle : goal.returns-clause-idle
returns-clause-idle g c = λ not. let was = c.reach_for.ensures.idle not in (c.changed.ensures.folding ∙ (c.make_for.ensures.folding ∙ was.0), was.1)

pub returns-clause-most : goal.returns-clause-most
returns-clause-most g c = λ from first. omega (arith, c.reach_for.ensures.most)

pub returns-clause-all : goal.returns-clause-all
returns-clause-all g c =
    let a = c.args.self.now.late in
    let b = c.reach_for.new.self.late in
    let d = c.make_for.new.self.late in
    all-then a b c.changed.new.self.late c.reach_for.ensures.all (all-then b d c.changed.new.self.late c.make_for.ensures.all (inl c.changed.ensures.late))

-- ---- after want of memory
pub returns-in_err-make_for-clause-all : goal.returns-in_err-make_for-clause-all
returns-in_err-make_for-clause-all g c = all-then c.args.self.now.late c.reach_for.new.self.late c.make_for.new.self.late c.reach_for.ensures.all c.make_for.ensures.all

pub returns-in_err-reach_for-clause-idle : goal.returns-in_err-reach_for-clause-idle
returns-in_err-reach_for-clause-idle g c = c.reach_for.ensures.idle

pub returns-in_err-reach_for-clause-most : goal.returns-in_err-reach_for-clause-most
returns-in_err-reach_for-clause-most g c = λ from first. omega (arith, c.reach_for.ensures.most)

pub returns-in_err-make_for-clause-same : goal.returns-in_err-make_for-clause-same
returns-in_err-make_for-clause-same g c = same-lists c.args.self.now c.reach_for.new.self c.make_for.new.self c.reach_for.ensures.same c.make_for.ensures.same

pub returns-in_err-make_for-clause-reached : goal.returns-in_err-make_for-clause-reached
returns-in_err-make_for-clause-reached g c = either-same c.args.today c.args.self.now c.reach_for.new.self c.make_for.new.self c.make_for.ensures.folding c.reach_for.ensures.reached

pub returns-in_err-make_for-clause-idle : goal.returns-in_err-make_for-clause-idle
returns-in_err-make_for-clause-idle g c = λ not. let was = c.reach_for.ensures.idle not in (c.make_for.ensures.folding ∙ was.0, was.1)

pub returns-in_err-make_for-clause-most : goal.returns-in_err-make_for-clause-most
returns-in_err-make_for-clause-most g c = λ from first. omega (arith, c.reach_for.ensures.most)

-- ---- the two counts
pub returns-clause-both : goal.returns-clause-both
returns-clause-both g c =
    let today = c.args.today in
    let shared = c.args.shared.now in
    let old = c.args.self.now in
    let mid = c.reach_for.new.self in
    let may = reach-same today old mid c.reach_for.ensures.same (within-today today old mid c.requires.reach c.reach_for.ensures.reached) c.requires.reach in
    let none : needs_today c.args.post.now ≡ true → c.make_for.new.put_off ≡ c.args.put_off.now = λ needs. c.make_for.ensures.once.idle (settled-today shared today mid c.reach_for.ensures.replay may (c.in_ok-reach_for.ensures.ready needs)).owed in
    let left : needs_today c.args.post.now ≡ false → steps_to today shared mid ≡ steps_to today shared old = λ needs.
    ap (λ (l : Lists). steps_over (given_of l shared) today (mid.folding.reached + 1)) c.reach_for.ensures.same.lists ∙ ap (λ (f : Folding). steps_over (given_of old.lists shared) today (f.reached + 1)) (c.reach_for.ensures.idle needs).0 in
    let few = both-within (needs_today c.args.post.now) c.args.steps.now c.reach_for.new.steps c.args.put_off.now c.make_for.new.put_off (steps_to today shared old) (steps_to today shared mid)
    c.reach_for.ensures.most c.make_for.ensures.most none (λ needs. (c.reach_for.ensures.idle needs).1) left in
    λ from first. omega (arith, few)

pub returns-clause-put_off : goal.returns-clause-put_off
returns-clause-put_off g c =
    let today = c.args.today in
    let shared = c.args.shared.now in
    let old = c.args.self.now in
    let mid = c.reach_for.new.self in
    let may = reach-same today old mid c.reach_for.ensures.same (within-today today old mid c.requires.reach c.reach_for.ensures.reached) c.requires.reach in
    makes-none (needs_today c.args.post.now) (is_unread c.args.post.now) _
    (λ needs. c.make_for.ensures.once.idle (settled-today shared today mid c.reach_for.ensures.replay may (c.in_ok-reach_for.ensures.ready needs)).owed)
    c.make_for.ensures.skips

pub returns-clause-once : goal.returns-clause-once
returns-clause-once g c = record {
  idle = λ none. c.make_for.ensures.once.idle (none-then c.args.self.now.late c.reach_for.new.self.late c.reach_for.ensures.all none);
  once = any-ok c.changed.result _ (later c.in_ok-make_for.ensures.once.once);
}
  where
    later : (c.make_for.new.put_off ≡ c.args.put_off.now) ⊎ (c.make_for.new.self.late.owed ≡ []) → (c.make_for.new.put_off ≡ c.args.put_off.now) ⊎ (c.changed.new.self.late.owed ≡ [])
    later (inl e) = inl e
    later (inr n) = inr (ap (λ (l : Late). l.owed) c.changed.ensures.late ∙ n)

pub returns-in_err-make_for-clause-both : goal.returns-in_err-make_for-clause-both
returns-in_err-make_for-clause-both g c =
    let today = c.args.today in
    let shared = c.args.shared.now in
    let old = c.args.self.now in
    let mid = c.reach_for.new.self in
    let may = reach-same today old mid c.reach_for.ensures.same (within-today today old mid c.requires.reach c.reach_for.ensures.reached) c.requires.reach in
    let none : needs_today c.args.post.now ≡ true → c.make_for.new.put_off ≡ c.args.put_off.now = λ needs. c.make_for.ensures.once.idle (settled-today shared today mid c.reach_for.ensures.replay may (c.in_ok-reach_for.ensures.ready needs)).owed in
    let left : needs_today c.args.post.now ≡ false → steps_to today shared mid ≡ steps_to today shared old = λ needs.
    ap (λ (l : Lists). steps_over (given_of l shared) today (mid.folding.reached + 1)) c.reach_for.ensures.same.lists ∙ ap (λ (f : Folding). steps_over (given_of old.lists shared) today (f.reached + 1)) (c.reach_for.ensures.idle needs).0 in
    let few = both-within (needs_today c.args.post.now) c.args.steps.now c.reach_for.new.steps c.args.put_off.now c.make_for.new.put_off (steps_to today shared old) (steps_to today shared mid)
    c.reach_for.ensures.most c.make_for.ensures.most none (λ needs. (c.reach_for.ensures.idle needs).1) left in
    λ from first. omega (arith, few)

pub returns-in_err-make_for-clause-put_off : goal.returns-in_err-make_for-clause-put_off
returns-in_err-make_for-clause-put_off g c =
    let today = c.args.today in
    let shared = c.args.shared.now in
    let old = c.args.self.now in
    let mid = c.reach_for.new.self in
    let may = reach-same today old mid c.reach_for.ensures.same (within-today today old mid c.requires.reach c.reach_for.ensures.reached) c.requires.reach in
    makes-none (needs_today c.args.post.now) (is_unread c.args.post.now) _
    (λ needs. c.make_for.ensures.once.idle (settled-today shared today mid c.reach_for.ensures.replay may (c.in_ok-reach_for.ensures.ready needs)).owed)
    c.make_for.ensures.skips

pub returns-in_err-make_for-clause-once : goal.returns-in_err-make_for-clause-once
returns-in_err-make_for-clause-once g c = record { idle = λ none. c.make_for.ensures.once.idle (none-then c.args.self.now.late c.reach_for.new.self.late c.reach_for.ensures.all none); once = no-answer _ _ c.from_residual-in_err-make_for.ensures.0 }

pub returns-in_err-reach_for-clause-both : goal.returns-in_err-reach_for-clause-both
returns-in_err-reach_for-clause-both g c = λ from first. let most = c.reach_for.ensures.most in omega (arith, most)
