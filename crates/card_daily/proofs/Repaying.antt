-- What was repaid, by which payments are returned.
use Rattle.std.proofs.Common.{◌≡◌, ℕ, Bool, true, false, ◌&&◌, ◌||◌, not, List, [], ◌∷◌, ◌++◌, map, refl, ap, ◌∙◌, append-nil}
use Rattle.std.specs.Prelude.{◌==◌, nat_le}
use Rattle.std.specs.List.{All, filter}
use Rattle.std.proofs.lemmas.List.Elements.{All-head, All-tail}
use Rattle.card_closing.proofs.Growing.{rows_grow}
use Rattle.card_closing.specs.BookRows.{brought, is_brought, repayment_of}
use Rattle.card_model.specs.Entries.{is_kind}
use Rattle.card_model.specs.Interest.{repays}
use Rattle.card_model.specs.declared.entry.Entry.{Entry}
use Rattle.card_model.specs.declared.entry.EntryKind.TheVariants as kind

-- ---- the same payments are returned
same-filter : (s first : ℕ) (f g : ℕ → Bool) → ((n : ℕ) → f n ≡ g n) → (es : List Entry) → filter (is_brought f s first) es ≡ filter (is_brought g s first) es
same-filter s first f g h [] = refl
same-filter s first f g h (e ∷ es) =
    let here = h e.post in
    let rest = same-filter s first f g h es in
    rw (here, rest) refl

pub same-brought : (s first : ℕ) (f g : ℕ → Bool) → ((n : ℕ) → f n ≡ g n) → (es : List Entry) → brought f s first es ≡ brought g s first es
unfolding brought
same-brought s first f g h es = ap (map repayment_of) (same-filter s first f g h es)

-- ---- entries that are no credits and no payments bring nothing
abbrev pub IsOther : Entry → Type 0
IsOther e = (is_kind kind.Credit e.kind || is_kind kind.Payment e.kind) ≡ false

no-repayment : (t u v : Bool) → (t || u) ≡ false → (t || (u && not v)) ≡ false
no-repayment true u v h = cc
no-repayment false true v h = cc
no-repayment false false v h = refl

none-brought : (f : ℕ → Bool) (s first : ℕ) (es : List Entry) → All IsOther es → filter (is_brought f s first) es ≡ []
none-brought f s first [] h = refl
none-brought f s first (e ∷ es) h =
    let here : repays f e.kind e.post ≡ false = no-repayment (is_kind kind.Credit e.kind) (is_kind kind.Payment e.kind) (f e.post) (All-head IsOther e es h) in
    let rest = none-brought f s first es (All-tail IsOther e es h) in
    rw (here, and-false (e.segment == s), rest) refl
  where
    and-false : (t : Bool) → (t && false && nat_le first e.day) ≡ false
    and-false true = refl
    and-false false = refl

nothing-brought : (f : ℕ → Bool) (s first : ℕ) (ys : List Entry) → All IsOther ys → brought f s first ys ≡ []
unfolding brought
nothing-brought f s first ys h = ap (map repayment_of) (none-brought f s first ys h)

pub others-bring : (f : ℕ → Bool) (s first : ℕ) (xs ys : List Entry) → All IsOther ys → brought f s first (xs ++ ys) ≡ brought f s first xs
others-bring f s first xs ys h =
    rows_grow.entries f s first xs ys ∙ (ap (λ l. brought f s first xs ++ l) (nothing-brought f s first ys h) ∙ append-nil (brought f s first xs))
