use Rattle.std.proofs.Common.{w64, to_z, of_z, ◌≡◌, ℤ, pos, ap, ◌∙◌}
use Rattle.std.proofs.lemmas.Int.{to_z-of_z}
use Rattle.card_account.specs.Accounts.{owing_in}
use Rattle.card_account.proofs.Told.{is-today}
use Rattle.card_model.specs.Books.{Book}
use Rattle.card_model.specs.Entries.{credit_balance, owed, owing}
use Rattle.card_model.specs.Machine.{NamedAccount}
use Rattle.card_model.specs.Refusals.{book_today}
use Rattle.card_replay.specs.Replays.{present_of}
use Rattle.card_account.proofs.account.Account.show.Goals as goal

owing-by : (a b : Book) (x y z : ℤ) → x ≡ owed a.entries → y ≡ pos (credit_balance a.entries) → z ≡ pos (owing 1 a.entries) → a ≡ b → record { owed = x; credit = y; held = z } ≡ owing_in b
owing-by a b x y z e f h same =
    ap (λ (n : ℤ). record { owed = n; credit = y; held = z }) e
    ∙ (ap (λ (n : ℤ). record { owed = owed a.entries; credit = n; held = z }) f
    ∙ (ap (λ (n : ℤ). record { owed = owed a.entries; credit = pos (credit_balance a.entries); held = n }) h ∙ ap owing_in same))

pub folded-folded-requires : goal.folded-folded-requires
folded-folded-requires g c = is-today c.args.today c.args.shared.now c.args.self.now c.to_day.new.self c.in_ok-to_day.ensures.today

pub returns-clause-value : goal.returns-clause-value
returns-clause-value g c =
    let same = c.folded-folded.ensures.book ∙ ap (λ (a : NamedAccount). book_today (present_of c.args.today c.args.shared.now a.lists)) c.to_day.ensures.told.named in
    owing-by c.folded-folded.result.book (book_today (present_of c.args.today c.args.shared.now c.args.self.now.named.lists))
    (to_z w64 (of_z w64 c.owed.result)) (to_z w64 (of_z w64 c.credit.result)) (to_z w64 (of_z w64 c.held.result))
    (to_z-of_z w64 c.owed.result (record { sfits = c.owed.type_inv }) ∙ c.owed.ensures)
    (to_z-of_z w64 c.credit.result (record { sfits = c.credit.type_inv }) ∙ c.credit.ensures)
    (to_z-of_z w64 c.held.result (record { sfits = c.held.type_inv }) ∙ c.held.ensures) same
