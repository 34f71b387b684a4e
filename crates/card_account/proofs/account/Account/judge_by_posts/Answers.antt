use Rattle.std.proofs.Common.{ap, ◌∙◌}
use Rattle.card_account.proofs.Judging.{reason-verdict}
use Rattle.card_model.specs.Refusals.{Present, reason_against}
use Rattle.card_reasons.specs.Reasons.{judged_of}
use Rattle.card_replay.specs.Replays.{present_of}
use Rattle.card_account.proofs.account.Account.judge_by_posts.Goals as goal

pub returns : goal.returns
returns c key =
    let now = present_of c.args.today c.args.shared.now c.args.self.now.named.lists in
    let p = c.args.post.now in
    reason-verdict now key p c.reason_by_posts.result c.verdict.result c.requires.not_open
    (c.reason_by_posts.ensures now.lists.issued ∙ ap (λ (x : Present). reason_against (judged_of x.today x.shared now.lists.issued x.lists.posts) p) c.present_by_posts.ensures) c.verdict.ensures.none c.verdict.ensures.some
