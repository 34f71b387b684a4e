use Rattle.std.proofs.Common.{◌≡◌, [], true, false, None, get_or, refl, sym, ap, subst, ◌∙◌}
use Rattle.card_account.specs.Verdicts.{verdict_of}
use Rattle.card_account.specs.declared.verdict.Verdict.TheVariants as verdict
use Rattle.card_book.specs.Laws.{is_bill}
use Rattle.card_events.specs.Dated.{is_dated}
use Rattle.card_events.specs.Keys.{with_key}
use Rattle.card_events.specs.declared.reply.Reply.{Reply}
use Rattle.card_events.specs.declared.request.Request.{Request}
use Rattle.card_model.specs.Machine.{Accepts, NamedAccount, Refuses, Repeats, State, accepted, outcome_in, step}
use Rattle.card_model.specs.Refusals.{reason_against}
use Rattle.card_model.specs.Work.{present_in}
use Rattle.card_events.specs.declared.post.Post.{Post}
use Rattle.card_reasons.specs.Reasons.{reads_book}
use Rattle.card_replay.proofs.Loading.{of-bill}
use Rattle.card_desk.specs.Desks.{now_at}
use Rattle.card_desk.specs.Places.{IsPlace}
use Rattle.card_desk.proofs.DeskLemmas.{outcome_at}
use Rattle.card_desk.proofs.OutcomeLemmas.{new_at_key, none_against}
use Rattle.card_desk.proofs.StepLemmas.{post_step, refused_by, repeated_by}
use Rattle.card_desk.proofs.desk.Desk.take_loaded.Goals as goal

-- what stands for no account
no_account : NamedAccount
no_account = record { name = []; lists = record { posts = []; issued = [] } }

pub judge_at-requires-clause-dated : goal.judge_at-requires-clause-dated
unfolding is_dated
judge_at-requires-clause-dated g c = subst (λ (x : Request). is_dated x ≡ true) c.requires.request c.requires.dated

pub judge_at-requires-clause-place : goal.judge_at-requires-clause-place
judge_at-requires-clause-place g c = c.requires.place.bound

-- ---- its conditions to be taken, in the state that stayed
pub add_loaded-requires-clause-place : goal.add_loaded-requires-clause-place
add_loaded-requires-clause-place g c = subst (λ (x : State). IsPlace c.args.given.now.account.now x.accounts c.args.at) (sym c.judge_at.ensures.state) c.requires.place

pub add_loaded-requires-clause-no_reason : goal.add_loaded-requires-clause-no_reason
add_loaded-requires-clause-no_reason g c =
    let s = c.args.self.now.state in
    let key = c.args.given.now.key.now in
    let p = c.args.given.now.post.now in
    subst (λ (x : State). (d : NamedAccount) → reason_against (now_at x c.args.at d) p ≡ None) (sym c.judge_at.ensures.state)
    (λ d. none_against (present_in s (get_or s.accounts c.args.at d).lists) key p (with_key key (get_or s.accounts c.args.at d).lists.posts) (sym c.in-Ok-New.field-0-is ∙ c.in-Ok-New.ensures.value d))

pub add_loaded-requires-clause-accepted : goal.add_loaded-requires-clause-accepted
add_loaded-requires-clause-accepted g c =
    let s = c.args.self.now.state in
    let name = c.args.given.now.account.now in
    let key = c.args.given.now.key.now in
    let p = c.args.given.now.post.now in
    subst (λ (x : State). (d : NamedAccount) → outcome_in x name key p ≡ Accepts (accepted (now_at x c.args.at d) key p)) (sym c.judge_at.ensures.state)
    (λ d.
    let a = get_or s.accounts c.args.at d in
    let both = outcome_at s name key p c.args.at d verdict.New c.requires.place (sym c.in-Ok-New.field-0-is ∙ c.in-Ok-New.ensures.value d) in
    both.1 ∙ new_at_key (present_in s a.lists) key p (with_key key a.lists.posts) (both.0 ∙ ap verdict_of both.1))

-- ---- what changes nothing
pub returns-in-Ok-Refused-clause-state : goal.returns-in-Ok-Refused-clause-state
returns-in-Ok-Refused-clause-state g c =
    let s = c.args.self.now.state in
    let name = c.args.given.now.account.now in
    let key = c.args.given.now.key.now in
    let p = c.args.given.now.post.now in
    let r = c.in-Ok-Refused.field-0-0 in
    let both = outcome_at s name key p c.args.at no_account (verdict.Refused r) c.requires.place (sym c.in-Ok-Refused.field-0-is ∙ c.in-Ok-Refused.ensures.value no_account) in
    let stays : (step s c.args.given.now.request.now).0 ≡ s = ap (λ (x : State × Reply). x.0) (ap (step s) c.requires.request ∙ post_step s name key p (Refuses r) (refused_by (outcome_in s name key p) r both.0)) in
    c.judge_at.ensures.state ∙ sym stays

pub returns-in-Ok-Repeat-clause-state : goal.returns-in-Ok-Repeat-clause-state
returns-in-Ok-Repeat-clause-state g c =
    let s = c.args.self.now.state in
    let name = c.args.given.now.account.now in
    let key = c.args.given.now.key.now in
    let p = c.args.given.now.post.now in
    let n = c.in-Ok-Repeat.field-0-0 in
    let both = outcome_at s name key p c.args.at no_account (verdict.Repeat n) c.requires.place (sym c.in-Ok-Repeat.field-0-is ∙ c.in-Ok-Repeat.ensures.value no_account) in
    let stays : (step s c.args.given.now.request.now).0 ≡ s = ap (λ (x : State × Reply). x.0) (ap (step s) c.requires.request ∙ post_step s name key p (Repeats n) (repeated_by (outcome_in s name key p) n both.0)) in
    c.judge_at.ensures.state ∙ sym stays

-- ---- no step for a Bill, which is judged alone
alone : (p : Post) → is_bill p ≡ true → reads_book p ≡ false
alone p bill = of-bill (λ (q : Post). reads_book q ≡ false) (λ cycle. refl) p bill

pub returns-in-Ok-Refused-clause-idle : goal.returns-in-Ok-Refused-clause-idle
returns-in-Ok-Refused-clause-idle g c = λ bill. c.judge_at.ensures.idle.unread (alone c.args.given.now.post.now bill)

pub returns-in-Ok-Repeat-clause-idle : goal.returns-in-Ok-Repeat-clause-idle
returns-in-Ok-Repeat-clause-idle g c = λ bill. c.judge_at.ensures.idle.unread (alone c.args.given.now.post.now bill)

pub returns-in-Err-clause-idle : goal.returns-in-Err-clause-idle
returns-in-Err-clause-idle g c = λ bill. c.judge_at.ensures.idle.unread (alone c.args.given.now.post.now bill)

pub returns-in-Ok-New-clause-idle : goal.returns-in-Ok-New-clause-idle
returns-in-Ok-New-clause-idle g c = λ bill. c.add_loaded.ensures.idle bill ∙ c.judge_at.ensures.idle.unread (alone c.args.given.now.post.now bill)
