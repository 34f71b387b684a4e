use Rattle.std.proofs.Common.{inl, refl, Some, ◌≡◌, ◌+◌, [], true, Ok, None, get_or, sym, ap, subst, ◌∙◌}
use Rattle.card_account.specs.Verdicts.{verdict_of}
use Rattle.card_account.specs.declared.verdict.Verdict.TheVariants as verdict
use Rattle.card_events.specs.Dated.{is_dated}
use Rattle.card_events.specs.Keys.{with_key}
use Rattle.card_events.specs.declared.reply.Reply.TheVariants as reply
use Rattle.card_events.specs.declared.request.Request.{Request}
use Rattle.card_model.specs.Machine.{Accepts, NamedAccount, State, accepted, outcome_in}
use Rattle.card_model.specs.Refusals.{reason_against}
use Rattle.card_model.specs.Work.{present_in}
use Rattle.card_desk.specs.Applied.{Carried, IsAsked, Steps}
use Rattle.card_desk.specs.Desks.{now_at}
use Rattle.card_desk.specs.Places.{IsPlace}
use Rattle.card_desk.specs.Steps.{reached_there, steps_at}
use Rattle.card_desk.proofs.DeskLemmas.{outcome_at}
use Rattle.card_desk.proofs.Left.{few_judged, few_left, idle_judged, idle_kept, left_both, spent_both}
use Rattle.card_desk.proofs.OutcomeLemmas.{fresh_of, new_at_key, none_against}
use Rattle.card_desk.proofs.StepLemmas.{answered, out_of_memory, post_refused, post_repeated, refused_by, repeated_by}
use Rattle.card_desk.proofs.Moves.{done-moves, judged-moves, refused-moves, repeated-moves}
use Rattle.card_desk.proofs.Recording.{changed_twice}
use Rattle.card_desk.proofs.Unmade.{makes-twice, none-still}
use Rattle.card_desk.specs.PutOff.{makes_first}
use Rattle.card_desk.proofs.desk.Desk.post_known.Goals as goal

-- what stands for no account
no_account : NamedAccount
no_account = record { name = []; lists = record { posts = []; issued = [] } }

pub judge_at-requires-clause-dated : goal.judge_at-requires-clause-dated
unfolding is_dated
judge_at-requires-clause-dated g c = subst (λ (x : Request). is_dated x ≡ true) c.requires.request c.requires.asked.dated

pub judge_at-requires-clause-place : goal.judge_at-requires-clause-place
judge_at-requires-clause-place g c = c.requires.place.bound

-- ---- its conditions to be kept, in the state that stayed
pub keep_post-requires-clause-asked : goal.keep_post-requires-clause-asked
keep_post-requires-clause-asked g c = subst (λ (x : State). IsAsked (g.K.Keeper.rows c.args.keeper.now) x c.args.given.now.request.now) (sym c.judge_at.ensures.state) c.requires.asked

pub keep_post-requires-clause-place : goal.keep_post-requires-clause-place
keep_post-requires-clause-place g c = subst (λ (x : State). IsPlace c.args.given.now.account.now x.accounts c.args.at) (sym c.judge_at.ensures.state) c.requires.place

pub keep_post-requires-clause-no_reason : goal.keep_post-requires-clause-no_reason
keep_post-requires-clause-no_reason g c =
    let s = c.args.self.now.state in
    let key = c.args.given.now.key.now in
    let p = c.args.given.now.post.now in
    subst (λ (x : State). (d : NamedAccount) → reason_against (now_at x c.args.at d) p ≡ None) (sym c.judge_at.ensures.state)
    (λ d. none_against (present_in s (get_or s.accounts c.args.at d).lists) key p (with_key key (get_or s.accounts c.args.at d).lists.posts) (sym c.in-Ok-New.field-0-is ∙ c.in-Ok-New.ensures.value d))

pub keep_post-requires-clause-accepted : goal.keep_post-requires-clause-accepted
keep_post-requires-clause-accepted g c =
    let s = c.args.self.now.state in
    let name = c.args.given.now.account.now in
    let key = c.args.given.now.key.now in
    let p = c.args.given.now.post.now in
    subst (λ (x : State). (d : NamedAccount) → outcome_in x name key p ≡ Accepts (accepted (now_at x c.args.at d) key p)) (sym c.judge_at.ensures.state)
    (λ d.
    let a = get_or s.accounts c.args.at d in
    let both = outcome_at s name key p c.args.at d verdict.New c.requires.place (sym c.in-Ok-New.field-0-is ∙ c.in-Ok-New.ensures.value d) in
    both.1 ∙ new_at_key (present_in s a.lists) key p (with_key key a.lists.posts) (both.0 ∙ ap verdict_of both.1))

-- ---- what is left
pub returns-in-Ok-Refused-clause-carried : goal.returns-in-Ok-Refused-clause-carried
returns-in-Ok-Refused-clause-carried g c =
    let s = c.args.self.now.state in
    let key = c.args.given.now.key.now in
    let p = c.args.given.now.post.now in
    let e = no_account in
    let judged = sym c.in-Ok-Refused.field-0-is ∙ c.in-Ok-Refused.ensures.value e in
    let both = outcome_at s c.args.given.now.account.now key p c.args.at e (verdict.Refused c.in-Ok-Refused.refusal) c.requires.place judged in
    subst (λ (x : State). Carried (g.K.Keeper.rows c.args.keeper.now) (g.K.Keeper.rows c.args.keeper.now) (g.K.Keeper.faults c.args.keeper.now) (g.K.Keeper.faults c.args.keeper.now) s c.args.given.now.request.now x (Ok (reply.Refused c.in-Ok-Refused.refusal))) (sym c.judge_at.ensures.state)
    (answered (g.K.Keeper.rows c.args.keeper.now) (g.K.Keeper.faults c.args.keeper.now) s c.args.given.now.request.now (reply.Refused c.in-Ok-Refused.refusal)
    (subst (λ (x : Request). Steps (g.K.Keeper.rows c.args.keeper.now) (g.K.Keeper.rows c.args.keeper.now) s x s (reply.Refused c.in-Ok-Refused.refusal)) (sym c.requires.request)
    (post_refused (g.K.Keeper.rows c.args.keeper.now) s c.args.given.now.account.now key p c.in-Ok-Refused.refusal c.requires.asked.fits (refused_by (outcome_in s c.args.given.now.account.now key p) c.in-Ok-Refused.refusal both.0))))

pub returns-in-Ok-Refused-clause-most : goal.returns-in-Ok-Refused-clause-most
returns-in-Ok-Refused-clause-most g c =
    few_left c.args.self.now.state (reached_there c.args.self.now c.args.at) (outcome_in c.args.self.now.state c.args.given.now.account.now c.args.given.now.key.now c.args.given.now.post.now) c.args.steps.now c.judge_at.new.steps c.judge_at.ensures.most

pub returns-in-Ok-Repeat-clause-carried : goal.returns-in-Ok-Repeat-clause-carried
returns-in-Ok-Repeat-clause-carried g c =
    let s = c.args.self.now.state in
    let key = c.args.given.now.key.now in
    let p = c.args.given.now.post.now in
    let e = no_account in
    let judged = sym c.in-Ok-Repeat.field-0-is ∙ c.in-Ok-Repeat.ensures.value e in
    let both = outcome_at s c.args.given.now.account.now key p c.args.at e (verdict.Repeat c.in-Ok-Repeat.number) c.requires.place judged in
    subst (λ (x : State). Carried (g.K.Keeper.rows c.args.keeper.now) (g.K.Keeper.rows c.args.keeper.now) (g.K.Keeper.faults c.args.keeper.now) (g.K.Keeper.faults c.args.keeper.now) s c.args.given.now.request.now x (Ok (reply.Accepted c.in-Ok-Repeat.number))) (sym c.judge_at.ensures.state)
    (answered (g.K.Keeper.rows c.args.keeper.now) (g.K.Keeper.faults c.args.keeper.now) s c.args.given.now.request.now (reply.Accepted c.in-Ok-Repeat.number)
    (subst (λ (x : Request). Steps (g.K.Keeper.rows c.args.keeper.now) (g.K.Keeper.rows c.args.keeper.now) s x s (reply.Accepted c.in-Ok-Repeat.number)) (sym c.requires.request)
    (post_repeated (g.K.Keeper.rows c.args.keeper.now) s c.args.given.now.account.now key p c.in-Ok-Repeat.number c.requires.asked.fits (repeated_by (outcome_in s c.args.given.now.account.now key p) c.in-Ok-Repeat.number both.0))))

pub returns-in-Ok-Repeat-clause-most : goal.returns-in-Ok-Repeat-clause-most
returns-in-Ok-Repeat-clause-most g c =
    few_left c.args.self.now.state (reached_there c.args.self.now c.args.at) (outcome_in c.args.self.now.state c.args.given.now.account.now c.args.given.now.key.now c.args.given.now.post.now) c.args.steps.now c.judge_at.new.steps c.judge_at.ensures.most

pub returns-in-Ok-New-clause-carried : goal.returns-in-Ok-New-clause-carried
returns-in-Ok-New-clause-carried g c =
    subst (λ (x : State). Carried (g.K.Keeper.rows c.args.keeper.now) (g.K.Keeper.rows c.keep_post.new.keeper) (g.K.Keeper.faults c.args.keeper.now) (g.K.Keeper.faults c.keep_post.new.keeper) x c.args.given.now.request.now c.keep_post.new.self.state c.keep_post.result) c.judge_at.ensures.state
    c.keep_post.ensures.carried

pub returns-in-Ok-New-clause-most : goal.returns-in-Ok-New-clause-most
returns-in-Ok-New-clause-most g c =
    let s = c.args.self.now.state in
    let key = c.args.given.now.key.now in
    let p = c.args.given.now.post.now in
    let e = no_account in
    let judged = sym c.in-Ok-New.field-0-is ∙ c.in-Ok-New.ensures.value e in
    let a = get_or s.accounts c.args.at e in
    let both = outcome_at s c.args.given.now.account.now key p c.args.at e verdict.New c.requires.place judged in
    let accepts = both.1 ∙ new_at_key (present_in s a.lists) key p (with_key key a.lists.posts) (both.0 ∙ ap verdict_of both.1) in
    few_judged c.args.self.now c.judge_at.new.self c.args.given.now.account.now key p c.args.at (accepted (present_in s a.lists) key p) c.args.steps.now c.judge_at.new.steps c.keep_post.new.steps
    c.judge_at.ensures.state accepts c.in-Ok-New.ensures.spent c.keep_post.ensures.most

pub returns-in-Err-clause-carried : goal.returns-in-Err-clause-carried
returns-in-Err-clause-carried g c = out_of_memory (g.K.Keeper.rows c.args.keeper.now) (g.K.Keeper.faults c.args.keeper.now) c.args.self.now.state c.judge_at.new.self.state c.args.given.now.request.now c.judge_at.ensures.state

pub returns-in-Err-clause-most : goal.returns-in-Err-clause-most
returns-in-Err-clause-most g c =
    few_left c.args.self.now.state (reached_there c.args.self.now c.args.at) (outcome_in c.args.self.now.state c.args.given.now.account.now c.args.given.now.key.now c.args.given.now.post.now) c.args.steps.now c.judge_at.new.steps c.judge_at.ensures.most

-- ---- with those that were put off
pub returns-in-Ok-Refused-clause-both : goal.returns-in-Ok-Refused-clause-both
returns-in-Ok-Refused-clause-both g c =
    few_left c.args.self.now.state (reached_there c.args.self.now c.args.at) (outcome_in c.args.self.now.state c.args.given.now.account.now c.args.given.now.key.now c.args.given.now.post.now) (c.args.steps.now + c.args.put_off.now) (c.judge_at.new.steps + c.args.put_off.now)
    (left_both c.args.steps.now c.judge_at.new.steps c.args.put_off.now (steps_at c.args.self.now c.args.at) c.judge_at.ensures.most)

pub returns-in-Ok-Repeat-clause-both : goal.returns-in-Ok-Repeat-clause-both
returns-in-Ok-Repeat-clause-both g c =
    few_left c.args.self.now.state (reached_there c.args.self.now c.args.at) (outcome_in c.args.self.now.state c.args.given.now.account.now c.args.given.now.key.now c.args.given.now.post.now) (c.args.steps.now + c.args.put_off.now) (c.judge_at.new.steps + c.args.put_off.now)
    (left_both c.args.steps.now c.judge_at.new.steps c.args.put_off.now (steps_at c.args.self.now c.args.at) c.judge_at.ensures.most)

pub returns-in-Err-clause-both : goal.returns-in-Err-clause-both
returns-in-Err-clause-both g c =
    few_left c.args.self.now.state (reached_there c.args.self.now c.args.at) (outcome_in c.args.self.now.state c.args.given.now.account.now c.args.given.now.key.now c.args.given.now.post.now) (c.args.steps.now + c.args.put_off.now) (c.judge_at.new.steps + c.args.put_off.now)
    (left_both c.args.steps.now c.judge_at.new.steps c.args.put_off.now (steps_at c.args.self.now c.args.at) c.judge_at.ensures.most)

pub returns-in-Ok-New-clause-both : goal.returns-in-Ok-New-clause-both
returns-in-Ok-New-clause-both g c =
    let s = c.args.self.now.state in
    let key = c.args.given.now.key.now in
    let p = c.args.given.now.post.now in
    let e = no_account in
    let judged = sym c.in-Ok-New.field-0-is ∙ c.in-Ok-New.ensures.value e in
    let a = get_or s.accounts c.args.at e in
    let both = outcome_at s c.args.given.now.account.now key p c.args.at e verdict.New c.requires.place judged in
    let accepts = both.1 ∙ new_at_key (present_in s a.lists) key p (with_key key a.lists.posts) (both.0 ∙ ap verdict_of both.1) in
    few_judged c.args.self.now c.judge_at.new.self c.args.given.now.account.now key p c.args.at (accepted (present_in s a.lists) key p) (c.args.steps.now + c.args.put_off.now) (c.judge_at.new.steps + c.args.put_off.now) (c.keep_post.new.steps + c.keep_post.new.put_off)
    c.judge_at.ensures.state accepts (spent_both c.args.steps.now c.judge_at.new.steps c.args.put_off.now (steps_at c.args.self.now c.args.at) (steps_at c.judge_at.new.self c.args.at) c.in-Ok-New.ensures.spent) c.keep_post.ensures.both

-- ---- no step
pub returns-in-Ok-Refused-clause-idle : goal.returns-in-Ok-Refused-clause-idle
returns-in-Ok-Refused-clause-idle g c =
    let d = c.args.self.now in
    let key = c.args.given.now.key.now in
    let p = c.args.given.now.post.now in
    idle_judged (reached_there d c.args.at) key p (outcome_in d.state c.args.given.now.account.now key p) c.args.steps.now c.judge_at.new.steps c.judge_at.ensures.idle

pub returns-in-Ok-Repeat-clause-idle : goal.returns-in-Ok-Repeat-clause-idle
returns-in-Ok-Repeat-clause-idle g c =
    let d = c.args.self.now in
    let key = c.args.given.now.key.now in
    let p = c.args.given.now.post.now in
    idle_judged (reached_there d c.args.at) key p (outcome_in d.state c.args.given.now.account.now key p) c.args.steps.now c.judge_at.new.steps c.judge_at.ensures.idle

pub returns-in-Err-clause-idle : goal.returns-in-Err-clause-idle
returns-in-Err-clause-idle g c =
    let d = c.args.self.now in
    let key = c.args.given.now.key.now in
    let p = c.args.given.now.post.now in
    idle_judged (reached_there d c.args.at) key p (outcome_in d.state c.args.given.now.account.now key p) c.args.steps.now c.judge_at.new.steps c.judge_at.ensures.idle

pub returns-in-Ok-New-clause-idle : goal.returns-in-Ok-New-clause-idle
returns-in-Ok-New-clause-idle g c =
    let d = c.args.self.now in
    let s = d.state in
    let key = c.args.given.now.key.now in
    let p = c.args.given.now.post.now in
    let e : NamedAccount = record { name = []; lists = record { posts = []; issued = [] } } in
    let judged = sym c.in-Ok-New.field-0-is ∙ c.in-Ok-New.ensures.value e in
    let a = get_or s.accounts c.args.at e in
    let both = outcome_at s c.args.given.now.account.now key p c.args.at e verdict.New c.requires.place judged in
    let new = accepted (present_in s a.lists) key p in
    let known = with_key key a.lists.posts in
    let kept = new_at_key (present_in s a.lists) key p known judged in
    idle_kept (reached_there d c.args.at) key p (outcome_in s c.args.given.now.account.now key p) new c.args.steps.now c.judge_at.new.steps c.keep_post.new.steps
    (both.1 ∙ kept) (fresh_of (present_in s a.lists) key p known new kept) c.judge_at.ensures.idle c.keep_post.ensures.idle

-- ---- the day that it has reached
pub returns-in-Ok-Refused-clause-reached : goal.returns-in-Ok-Refused-clause-reached
returns-in-Ok-Refused-clause-reached g c =
    let d = c.args.self.now in
    let name = c.args.given.now.account.now in
    let key = c.args.given.now.key.now in
    let p = c.args.given.now.post.now in
    let both = outcome_at d.state name key p c.args.at no_account (verdict.Refused c.in-Ok-Refused.refusal) c.requires.place (sym c.in-Ok-Refused.field-0-is ∙ c.in-Ok-Refused.ensures.value no_account) in
    done-moves _ (Some c.args.at) _ _ _
    (refused-moves d c.judge_at.new.self c.args.at (outcome_in d.state name key p) c.in-Ok-Refused.refusal (refused_by (outcome_in d.state name key p) c.in-Ok-Refused.refusal both.0) c.judge_at.ensures.reached)

pub returns-in-Ok-Repeat-clause-reached : goal.returns-in-Ok-Repeat-clause-reached
returns-in-Ok-Repeat-clause-reached g c =
    let d = c.args.self.now in
    let name = c.args.given.now.account.now in
    let key = c.args.given.now.key.now in
    let p = c.args.given.now.post.now in
    let both = outcome_at d.state name key p c.args.at no_account (verdict.Repeat c.in-Ok-Repeat.number) c.requires.place (sym c.in-Ok-Repeat.field-0-is ∙ c.in-Ok-Repeat.ensures.value no_account) in
    done-moves _ (Some c.args.at) _ _ _
    (repeated-moves d c.judge_at.new.self c.args.at (outcome_in d.state name key p) c.in-Ok-Repeat.number (repeated_by (outcome_in d.state name key p) c.in-Ok-Repeat.number both.0) c.judge_at.ensures.reached)

pub returns-in-Ok-New-clause-reached : goal.returns-in-Ok-New-clause-reached
returns-in-Ok-New-clause-reached g c =
    let d = c.args.self.now in
    let s = d.state in
    let name = c.args.given.now.account.now in
    let key = c.args.given.now.key.now in
    let p = c.args.given.now.post.now in
    let both = outcome_at s name key p c.args.at no_account verdict.New c.requires.place (sym c.in-Ok-New.field-0-is ∙ c.in-Ok-New.ensures.value no_account) in
    let a = get_or s.accounts c.args.at no_account in
    let accepts = both.1 ∙ new_at_key (present_in s a.lists) key p (with_key key a.lists.posts) (both.0 ∙ ap verdict_of both.1) in
    judged-moves c.keep_post.result d c.judge_at.new.self c.keep_post.new.self name key p c.args.at (accepted (present_in s a.lists) key p) c.judge_at.ensures.state accepts c.judge_at.ensures.reached c.keep_post.ensures.reached

pub returns-in-Err-clause-reached : goal.returns-in-Err-clause-reached
returns-in-Err-clause-reached g c = record { done = tt; failed = c.judge_at.ensures.reached }

pub returns-in-Ok-New-clause-recorded : goal.returns-in-Ok-New-clause-recorded
returns-in-Ok-New-clause-recorded g c =
    changed_twice c.args.at c.args.self.now.recorded c.judge_at.new.self.recorded c.keep_post.new.self.recorded c.judge_at.ensures.recorded c.keep_post.ensures.recorded

-- ---- what a load put off
pub returns-in-Ok-New-clause-unmade : goal.returns-in-Ok-New-clause-unmade
returns-in-Ok-New-clause-unmade g c = makes-twice c.args.at c.args.self.now c.judge_at.new.self c.keep_post.new.self c.judge_at.ensures.unmade c.keep_post.ensures.unmade

pub returns-in-Ok-New-clause-put_off : goal.returns-in-Ok-New-clause-put_off
returns-in-Ok-New-clause-put_off g c =
    let name = c.args.given.now.account.now in
    let key = c.args.given.now.key.now in
    let p = c.args.given.now.post.now in
    record {
      asked = λ none. c.keep_post.ensures.put_off.asked (ap (λ (x : State). makes_first p (outcome_in x name key p)) c.judge_at.ensures.state ∙ none);
      idle = λ none. c.keep_post.ensures.put_off.idle (none-still c.args.at c.args.self.now c.judge_at.new.self c.judge_at.ensures.unmade none);
      once = c.keep_post.ensures.put_off.once;
    }

pub returns-in-Ok-Refused-clause-put_off : goal.returns-in-Ok-Refused-clause-put_off
returns-in-Ok-Refused-clause-put_off g c = record { asked = λ none. refl; idle = λ none. refl; once = inl refl }

pub returns-in-Ok-Repeat-clause-put_off : goal.returns-in-Ok-Repeat-clause-put_off
returns-in-Ok-Repeat-clause-put_off g c = record { asked = λ none. refl; idle = λ none. refl; once = inl refl }

pub returns-in-Err-clause-put_off : goal.returns-in-Err-clause-put_off
returns-in-Err-clause-put_off g c = record { asked = λ none. refl; idle = λ none. refl; once = tt }
