use Rattle.std.proofs.Common.{sym, ap, ◌∙◌}
use Rattle.card_account.proofs.Judging.{reason-verdict}
use Rattle.card_model.specs.Refusals.{Present, book_today, reason_against}
use Rattle.card_replay.specs.Replays.{present_of}
use Rattle.card_account.proofs.account.Account.judge_by_book.Goals as goal

pub folded-folded-requires : goal.folded-folded-requires
folded-folded-requires c = record { replay = c.requires.account.replay; reached = c.requires.today; opened = c.requires.account.reach.opened }

pub reason_by_book-requires : goal.reason_by_book-requires
reason_by_book-requires c = record { book = c.folded-folded.ensures.book ∙ ap book_today (sym c.present.ensures) }

pub returns : goal.returns
returns c key =
    let now = present_of c.args.today c.args.shared.now c.args.self.now.named.lists in
    let p = c.args.post.now in
    reason-verdict now key p c.reason_by_book.result c.verdict.result c.requires.not_open
    (c.reason_by_book.ensures c.requires.book ∙ ap (λ (x : Present). reason_against x p) c.present.ensures) c.verdict.ensures.none c.verdict.ensures.some
