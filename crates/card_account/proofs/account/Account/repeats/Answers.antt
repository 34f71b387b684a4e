use Rattle.std.proofs.Common.{option_copied, sym, ap, ◌∙◌, List}
use Rattle.card_account.specs.Accounts.{OpenAccount}
use Rattle.card_events.specs.History.{at_number}
use Rattle.card_events.specs.declared.kept.Kept.{Kept}
use Rattle.card_model.specs.Machine.{is_repeat_of}
use Rattle.card_account.proofs.account.Account.repeats.Goals as goal

pub returns-in-Some : goal.returns-in-Some
returns-in-Some c =
    let listed = c.posts.ensures.history ∙ ap (λ (a : OpenAccount). a.named.lists.posts) c.self.view_is in
    let there = sym (ap option_copied c.in-Some.is) ∙ (c.get.ensures ∙ ap (λ (h : List Kept). at_number c.args.number h) listed) in
    c.is_same_as.ensures ∙ ap (is_repeat_of c.args.post.now) there

pub returns-in-None : goal.returns-in-None
returns-in-None c =
    let listed = c.posts.ensures.history ∙ ap (λ (a : OpenAccount). a.named.lists.posts) c.self.view_is in
    let none = sym (ap option_copied c.in-None.is) ∙ (c.get.ensures ∙ ap (λ (h : List Kept). at_number c.args.number h) listed) in
    ap (is_repeat_of c.args.post.now) none
