-- Corrections replace what they correct, for all lists of posts: the first day and cents of a charge, a payment or a merchant's credit
-- count for nothing. The ledger has this rule for all corrections; 12 CFR 1026.13(e)(1) has it for errors.
use Rattle.std.specs.Prelude.{ℕ, ◌+◌, ◌≡◌, length, map, List, ◌∷◌, ◌++◌, Some}
use Rattle.card_events.specs.History.{CorrectedPost, anchor_of, folded, is_variable, last_amend, terms_of}
use Rattle.card_events.specs.SharedRows.{SharedRows}
use Rattle.card_events.specs.declared.kept.Kept.{Kept}
use Rattle.card_events.specs.declared.post.Post.{Post}
use Rattle.card_events.specs.declared.post.Post.TheVariants as post
use Rattle.card_model.specs.Cycles.{IssuedRow}
use Rattle.card_model.specs.Folds.{book}

-- a post without the day and the cents that it first said, where an amendment may give others
abbrev pub plain : Post → Post
plain (post.Charge _ place _) = post.Charge 0 place 0
plain (post.Credit _ place _) = post.Credit 0 place 0
plain (post.Payment _ minute by _) = post.Payment 0 minute by 0
plain p = p

-- a corrected post with its corrected day and cents alone
abbrev pub plainly : CorrectedPost → CorrectedPost
plainly p = record { number = p.number; day = p.day; cents = p.cents; accepted = p.accepted; segment = p.segment; post = plain p.post }

-- the lists of two histories of one account say the same once they are corrected
pub record SayTheSame (shared : SharedRows) (history other : List Kept) : Type 0 where
  pub anchor : anchor_of other ≡ anchor_of history
  pub terms : terms_of other ≡ terms_of history
  pub variable : is_variable other ≡ is_variable history
  pub posts : map plainly (folded (anchor_of other) shared.holidays other) ≡ map plainly (folded (anchor_of history) shared.holidays history)

-- then their books are equal on all days, if the issued statements are too: an issued statement bounds what a correction may charge
abbrev pub CorrectedFactsAreEnough : Type 0
CorrectedFactsAreEnough =
    (history other : List Kept) (issued : List IssuedRow) (shared : SharedRows) (day : ℕ) → SayTheSame shared history other
    → book other issued shared day ≡ book history issued shared day

-- ---- an amended post
-- a post with another day and other cents, where an amendment may give them
abbrev pub with_facts : ℕ × ℕ → Post → Post
with_facts own (post.Charge _ place _) = post.Charge own.0 place own.1
with_facts own (post.Credit _ place _) = post.Credit own.0 place own.1
with_facts own (post.Payment _ minute by _) = post.Payment own.0 minute by own.1
with_facts own p = p

abbrev pub entered_with : ℕ × ℕ → Kept → Kept
entered_with own k = record { number = k.number; key = k.key; accepted = k.accepted; post = with_facts own k.post }

-- A post that another one amends may be entered with any day and cents, those of the amendment or others: the books of all days are
-- the same
abbrev pub AmendedAsEntered : Type 0
AmendedAsEntered =
    (before after : List Kept) (k : Kept) (own to : ℕ × ℕ) (issued : List IssuedRow) (shared : SharedRows) (day : ℕ)
    → last_amend (length before + 1) (before ++ k ∷ after) ≡ Some to
    → book (before ++ entered_with own k ∷ after) issued shared day ≡ book (before ++ k ∷ after) issued shared day
