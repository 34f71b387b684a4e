use Rattle.std.proofs.Common.{◌≡◌, ℕ, List, None, refl, ap, sym, ◌∙◌}
use Rattle.std.proofs.lemmas.Result.{IfOk-weaker}
use Rattle.card_account.specs.Accounts.{OpenAccount}
use Rattle.card_account.specs.Verdicts.{verdict_of}
use Rattle.card_account.specs.declared.verdict.Verdict.{Verdict}
use Rattle.card_account.proofs.Judging.{known-verdict}
use Rattle.card_account.proofs.Told.{on-any-err, stays-told}
use Rattle.card_events.specs.Keys.{with_key}
use Rattle.card_events.specs.declared.kept.Kept.{Kept}
use Rattle.card_model.specs.Machine.{at_key}
use Rattle.card_replay.specs.Replays.{present_of}
use Rattle.card_account.proofs.account.Account.judge.Goals as goal

pub returns-in-Some-clause-told : goal.returns-in-Some-clause-told
returns-in-Some-clause-told g c = stays-told c.args.today c.args.shared.now c.args.self.now c.requires.account

pub returns-in-Some-clause-value : goal.returns-in-Some-clause-value
returns-in-Some-clause-value g c =
    let a = c.args.self.now in
    let key = c.args.key.now in
    let listed = c.posts.ensures.history ∙ ap (λ (x : OpenAccount). x.named.lists.posts) c.self.view_is in
    let there = ap (λ (h : List Kept). with_key key h) (sym listed) ∙ (sym c.with_key.ensures ∙ c.in-Some.is) in
    known-verdict (present_of c.args.today c.args.shared.now a.named.lists) key c.args.post.now c.in-Some.number (with_key key a.named.lists.posts) c.compare.result there c.compare.ensures

pub returns-in-None-clause-value : goal.returns-in-None-clause-value
returns-in-None-clause-value g c =
    let a = c.args.self.now in
    let key = c.args.key.now in
    let now = present_of c.args.today c.args.shared.now a.named.lists in
    let p = c.args.post.now in
    let listed = c.posts.ensures.history ∙ ap (λ (x : OpenAccount). x.named.lists.posts) c.self.view_is in
    let none = ap (λ (h : List Kept). with_key key h) (sym listed) ∙ (sym c.with_key.ensures ∙ c.in-None.is) in
    IfOk-weaker c.judge_new.result (λ (v : Verdict). (k : List ℕ) → v ≡ verdict_of (at_key now k p None)) (λ (v : Verdict). v ≡ verdict_of (at_key now key p (with_key key a.named.lists.posts)))
    (λ v h. h key ∙ ap (λ o. verdict_of (at_key now key p o)) (sym none)) c.judge_new.ensures.value

pub returns-in-None-clause-new_key : goal.returns-in-None-clause-new_key
returns-in-None-clause-new_key g c =
    let key = c.args.key.now in
    let listed = c.posts.ensures.history ∙ ap (λ (x : OpenAccount). x.named.lists.posts) c.self.view_is in
    on-any-err c.judge_new.result (with_key key c.args.self.now.named.lists.posts ≡ None) (ap (λ (h : List Kept). with_key key h) (sym listed) ∙ (sym c.with_key.ensures ∙ c.in-None.is))

pub returns-in-Some-clause-repeated : goal.returns-in-Some-clause-repeated
returns-in-Some-clause-repeated g c _ = record { account = refl; steps = refl }

pub returns-in-Some-clause-idle : goal.returns-in-Some-clause-idle
returns-in-Some-clause-idle g c _ = record { account = refl; steps = refl }

pub returns-in-None-clause-repeated : goal.returns-in-None-clause-repeated
returns-in-None-clause-repeated g c known =
    let key = c.args.key.now in
    let listed = c.posts.ensures.history ∙ ap (λ (x : OpenAccount). x.named.lists.posts) c.self.view_is in
    absurd (known (ap (λ (h : List Kept). with_key key h) (sym listed) ∙ (sym c.with_key.ensures ∙ c.in-None.is)))
