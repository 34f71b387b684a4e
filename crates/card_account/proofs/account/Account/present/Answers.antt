use Rattle.std.proofs.Common.{ap, sym, subst, ◌∙◌}
use Rattle.card_account.specs.Accounts.{OpenAccount}
use Rattle.card_account.proofs.Told.{all-made, lists-by, reaches, stands-by}
use Rattle.card_daily.specs.Given.{IsSound, given_today}
use Rattle.card_model.specs.Refusals.{Lists}
use Rattle.card_replay.specs.Replays.{present_of}
use Rattle.card_account.proofs.account.Account.present.Goals as goal

pub new-requires-clause-stands : goal.new-requires-clause-stands
new-requires-clause-stands c =
    stands-by c.args.shared.now.holidays c.posts.result.now c.args.self.now
    (c.posts.ensures.history ∙ ap (λ (a : OpenAccount). a.named.lists.posts) c.self.view_is)
    (c.posts.ensures.corrected ∙ ap (λ (a : OpenAccount). a.corrected) c.self.view_is) c.requires.account.replay.corrected

pub new-requires-clause-sound : goal.new-requires-clause-sound
new-requires-clause-sound c =
    let made = c.made.ensures.value ∙ (ap (λ (a : OpenAccount). a.late.made) c.self.view_is ∙ all-made c.args.today c.args.shared.now c.args.self.now c.requires.account c.requires.today) in
    let lists = lists-by c.posts.result.now.history c.made.result.now c.args.self.now.named.lists
    (c.posts.ensures.history ∙ ap (λ (a : OpenAccount). a.named.lists.posts) c.self.view_is) made in
    subst (λ (l : Lists). IsSound (given_today (present_of c.args.today c.args.shared.now l))) (sym lists) c.requires.account.replay.sound

pub new-requires-clause-today : goal.new-requires-clause-today
new-requires-clause-today c =
    reaches c.args.today c.args.shared.now c.args.self.now (record { posts = c.posts.result.now.history; issued = c.made.result.now })
    (c.posts.ensures.history ∙ ap (λ (a : OpenAccount). a.named.lists.posts) c.self.view_is) c.requires.account

pub returns : goal.returns
returns c =
    let made = c.made.ensures.value ∙ (ap (λ (a : OpenAccount). a.late.made) c.self.view_is ∙ all-made c.args.today c.args.shared.now c.args.self.now c.requires.account c.requires.today) in
    let lists = lists-by c.posts.result.now.history c.made.result.now c.args.self.now.named.lists
    (c.posts.ensures.history ∙ ap (λ (a : OpenAccount). a.named.lists.posts) c.self.view_is) made in
    c.new.ensures ∙ ap (λ (l : Lists). present_of c.args.today c.args.shared.now l) lists
