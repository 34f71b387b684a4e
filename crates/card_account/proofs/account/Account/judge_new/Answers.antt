use Rattle.std.proofs.Common.{◌≡◌, false, true, None, refl, sym, ap, ◌∙◌}
use Rattle.card_account.specs.Verdicts.{verdict_of}
use Rattle.card_account.proofs.Judging.{no-amount, open-verdict, refused-verdict}
use Rattle.card_account.proofs.Told.{on-any-err, stays-told}
use Rattle.card_events.specs.declared.reply.Refusal.TheVariants as refusal
use Rattle.card_model.specs.Machine.{NamedAccount, at_key}
use Rattle.card_reasons.specs.Reasons.{reads_book}
use Rattle.card_replay.specs.Replays.{present_of}
use Rattle.card_account.proofs.account.Account.judge_new.Goals as goal

pub returns-then-is_open-clause-told : goal.returns-then-is_open-clause-told
returns-then-is_open-clause-told g c = stays-told c.args.today c.args.shared.now c.args.self.now c.requires.account

pub returns-then-is_open-clause-value : goal.returns-then-is_open-clause-value
returns-then-is_open-clause-value g c key =
    open-verdict (present_of c.args.today c.args.shared.now c.args.self.now.named.lists) key c.args.post.now (sym c.is_open.ensures ∙ c.if-is_open.true)

pub returns-then-refunds_no_amount-clause-told : goal.returns-then-refunds_no_amount-clause-told
returns-then-refunds_no_amount-clause-told g c = stays-told c.args.today c.args.shared.now c.args.self.now c.requires.account

pub returns-then-refunds_no_amount-clause-value : goal.returns-then-refunds_no_amount-clause-value
returns-then-refunds_no_amount-clause-value g c key =
    let now = present_of c.args.today c.args.shared.now c.args.self.now.named.lists in
    refused-verdict now key c.args.post.now refusal.AmountRange (sym c.is_open.ensures ∙ c.if-is_open.false) (no-amount now c.args.post.now (sym c.refunds_no_amount.ensures ∙ c.if-refunds_no_amount.true))

pub returns-then-not-reads_book-clause-told : goal.returns-then-not-reads_book-clause-told
returns-then-not-reads_book-clause-told g c = stays-told c.args.today c.args.shared.now c.args.self.now c.requires.account

pub judge_by_posts-requires-clause-not_open : goal.judge_by_posts-requires-clause-not_open
judge_by_posts-requires-clause-not_open g c = sym c.is_open.ensures ∙ c.if-is_open.false

pub judge_by_posts-requires-clause-no_book : goal.judge_by_posts-requires-clause-no_book
judge_by_posts-requires-clause-no_book g c = sym c.reads_book.ensures ∙ c.if-not-reads_book.true

pub judge_by_book-requires-clause-account : goal.judge_by_book-requires-clause-account
judge_by_book-requires-clause-account g c = c.to_day.ensures.told.account

pub judge_by_book-requires-clause-today : goal.judge_by_book-requires-clause-today
judge_by_book-requires-clause-today g c = c.in_ok-to_day.ensures.today.reached

pub judge_by_book-requires-clause-not_open : goal.judge_by_book-requires-clause-not_open
judge_by_book-requires-clause-not_open g c = sym c.is_open.ensures ∙ c.if-is_open.false

pub judge_by_book-requires-clause-book : goal.judge_by_book-requires-clause-book
judge_by_book-requires-clause-book g c = sym c.reads_book.ensures ∙ c.if-not-reads_book.false

pub returns-clause-value : goal.returns-clause-value
returns-clause-value g c key =
    c.judge_by_book.ensures key
    ∙ ap (λ (a : NamedAccount). verdict_of (at_key (present_of c.args.today c.args.shared.now a.lists) key c.args.post.now None)) c.to_day.ensures.told.named

pub returns-in_err-to_day-clause-memory : goal.returns-in_err-to_day-clause-memory
returns-in_err-to_day-clause-memory g c = on-any-err c.from_residual.result (reads_book c.args.post.now ≡ true) (sym c.reads_book.ensures ∙ c.if-not-reads_book.false)

-- ---- only for a post that is judged by the book of today is anything folded
pub returns-then-is_open-clause-idle : goal.returns-then-is_open-clause-idle
returns-then-is_open-clause-idle g c _ = record { account = refl; steps = refl }

pub returns-then-refunds_no_amount-clause-idle : goal.returns-then-refunds_no_amount-clause-idle
returns-then-refunds_no_amount-clause-idle g c _ = record { account = refl; steps = refl }

pub returns-then-not-reads_book-clause-idle : goal.returns-then-not-reads_book-clause-idle
returns-then-not-reads_book-clause-idle g c _ = record { account = refl; steps = refl }

pub returns-clause-idle : goal.returns-clause-idle
returns-clause-idle g c unread =
    let never : true ≡ false = sym (sym c.reads_book.ensures ∙ c.if-not-reads_book.false) ∙ unread in
    absurd (cc)

pub returns-in_err-to_day-clause-idle : goal.returns-in_err-to_day-clause-idle
returns-in_err-to_day-clause-idle g c unread =
    let never : true ≡ false = sym (sym c.reads_book.ensures ∙ c.if-not-reads_book.false) ∙ unread in
    absurd (cc)
