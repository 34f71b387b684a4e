-- The line of damaged rows, in three pieces.
use Rattle.std.proofs.Common.{◌≡◌, ℕ, List, [], ◌∷◌, ◌++◌, sym, subst, Result, Ok, Err}
use Rattle.std.specs.Prelude.{codes, IfErr, OnOk, IsErrAnd}
use Rattle.std.specs.Fmt.{decimal}
use Rattle.card_ports.specs.declared.source.SinkFault.{SinkFault}
use Rattle.card_commands.specs.Said.{damaged_line}
use Rattle.card_ports.specs.Written.{SinkSide, TookAll, TookPart}
use Rattle.card_commands.proofs.SideLemmas.{all_then, part_then, part_first}

-- an error that is handed on
through : {T E : Type 0} (r : Result T E) (e : E) (P : E → Type 0) → IsErrAnd r (λ f. f ≡ e) → P e → IfErr r P
through (Ok x) e P is p = tt
through (Err f) e P is p = subst P (sym is) p

pub damaged_word : {T : Type 0} (r : Result T SinkFault) (a b : SinkSide) (n : ℕ) (f : SinkFault) → IsErrAnd r (λ x. x ≡ f) → TookPart a b (codes "damaged ") f → IfErr r (TookPart a b (damaged_line n))
unfolding damaged_line
damaged_word r a b n f is took = through r f (TookPart a b (damaged_line n)) is (part_first a b (codes "damaged ") (decimal n ++ 10 ∷ []) f took)

pub damaged_digits : {T : Type 0} (r : Result T SinkFault) (a b c : SinkSide) (n : ℕ) (digits : List ℕ) (f : SinkFault) → IsErrAnd r (λ x. x ≡ f) → digits ≡ decimal n → TookAll a b (codes "damaged ") → TookPart b c digits f
    → IfErr r (TookPart a c (damaged_line n))
unfolding damaged_line
damaged_digits r a b c n digits f is same word took =
    let part : TookPart b c (decimal n) f = subst (λ (t : List ℕ). TookPart b c t f) same took in
    through r f (TookPart a c (damaged_line n)) is (part_then a b c (codes "damaged ") (decimal n ++ 10 ∷ []) f word (part_first b c (decimal n) (10 ∷ []) f part))

damaged_end : (a b c d : SinkSide) (n : ℕ) (f : SinkFault) → TookAll a b (codes "damaged ") → TookAll b c (decimal n) → TookPart c d (10 ∷ []) f → TookPart a d (damaged_line n) f
unfolding damaged_line
damaged_end a b c d n f word digits took = part_then a b d (codes "damaged ") (decimal n ++ 10 ∷ []) f word (part_then b c d (decimal n) (10 ∷ []) f digits took)

damaged_all : (a b c d : SinkSide) (n : ℕ) → TookAll a b (codes "damaged ") → TookAll b c (decimal n) → TookAll c d (10 ∷ []) → TookAll a d (damaged_line n)
unfolding damaged_line
damaged_all a b c d n word digits end = all_then a b d (codes "damaged ") (decimal n ++ 10 ∷ []) word (all_then b c d (decimal n) (10 ∷ []) digits end)

pub damaged_part : {T : Type 0} (r : Result T SinkFault) (a b c d : SinkSide) (n : ℕ) (digits : List ℕ) → digits ≡ decimal n → TookAll a b (codes "damaged ") → TookAll b c digits → IfErr r (TookPart c d (10 ∷ []))
    → IfErr r (TookPart a d (damaged_line n))
damaged_part (Ok x) a b c d n digits same word all took = tt
damaged_part (Err f) a b c d n digits same word all took = damaged_end a b c d n f word (subst (TookAll b c) same all) took

pub damaged_whole : {T : Type 0} (r : Result T SinkFault) (a b c d : SinkSide) (n : ℕ) (digits : List ℕ) → digits ≡ decimal n → TookAll a b (codes "damaged ") → TookAll b c digits → OnOk r (TookAll c d (10 ∷ []))
    → OnOk r (TookAll a d (damaged_line n))
damaged_whole (Ok x) a b c d n digits same word all end = damaged_all a b c d n word (subst (TookAll b c) same all) end
damaged_whole (Err f) a b c d n digits same word all end = tt
