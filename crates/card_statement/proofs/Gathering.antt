-- What is gathered entry by entry are the transactions of the entries.
use Rattle.std.proofs.Common.{◌≡◌, Bool, true, false, cond, not, ◌&&◌, List, [], ◌∷◌, ◌++◌, refl, sym, ap, ◌∙◌, arith, ℤ, ◌+ℤ◌, eqb}
use Rattle.std.specs.List.{filter}
use Rattle.std.proofs.lemmas.Bool.{and_parts, eq-eqb, eqb-true}
use Rattle.std.proofs.lemmas.Int.{ints}
use Rattle.card_model.specs.Entries.{is_kind}
use Rattle.card_model.specs.declared.entry.Entry.{Entry}
use Rattle.card_model.specs.declared.entry.EntryKind.{EntryKind}
use Rattle.card_model.specs.declared.entry.EntryKind.TheVariants as kind
use Rattle.card_statement.specs.Gathering.{raised_by, with_entry}
use Rattle.card_model.specs.Sheets.{begun_move, gathered, is_of_move, moves_sum}
use Rattle.card_model.specs.declared.lines.Move.{Move}

-- ---- kinds
kind-true : (a b : EntryKind) → is_kind a b ≡ true → a ≡ b
kind-true kind.Charge kind.Charge h = refl
kind-true kind.Charge kind.Credit h = cc
kind-true kind.Charge kind.Payment h = cc
kind-true kind.Charge kind.Return h = cc
kind-true kind.Charge kind.Refund h = cc
kind-true kind.Charge kind.Fee h = cc
kind-true kind.Charge kind.Interest h = cc
kind-true kind.Charge kind.Hold h = cc
kind-true kind.Credit kind.Charge h = cc
kind-true kind.Credit kind.Credit h = refl
kind-true kind.Credit kind.Payment h = cc
kind-true kind.Credit kind.Return h = cc
kind-true kind.Credit kind.Refund h = cc
kind-true kind.Credit kind.Fee h = cc
kind-true kind.Credit kind.Interest h = cc
kind-true kind.Credit kind.Hold h = cc
kind-true kind.Payment kind.Charge h = cc
kind-true kind.Payment kind.Credit h = cc
kind-true kind.Payment kind.Payment h = refl
kind-true kind.Payment kind.Return h = cc
kind-true kind.Payment kind.Refund h = cc
kind-true kind.Payment kind.Fee h = cc
kind-true kind.Payment kind.Interest h = cc
kind-true kind.Payment kind.Hold h = cc
kind-true kind.Return kind.Charge h = cc
kind-true kind.Return kind.Credit h = cc
kind-true kind.Return kind.Payment h = cc
kind-true kind.Return kind.Return h = refl
kind-true kind.Return kind.Refund h = cc
kind-true kind.Return kind.Fee h = cc
kind-true kind.Return kind.Interest h = cc
kind-true kind.Return kind.Hold h = cc
kind-true kind.Refund kind.Charge h = cc
kind-true kind.Refund kind.Credit h = cc
kind-true kind.Refund kind.Payment h = cc
kind-true kind.Refund kind.Return h = cc
kind-true kind.Refund kind.Refund h = refl
kind-true kind.Refund kind.Fee h = cc
kind-true kind.Refund kind.Interest h = cc
kind-true kind.Refund kind.Hold h = cc
kind-true kind.Fee kind.Charge h = cc
kind-true kind.Fee kind.Credit h = cc
kind-true kind.Fee kind.Payment h = cc
kind-true kind.Fee kind.Return h = cc
kind-true kind.Fee kind.Refund h = cc
kind-true kind.Fee kind.Fee h = refl
kind-true kind.Fee kind.Interest h = cc
kind-true kind.Fee kind.Hold h = cc
kind-true kind.Interest kind.Charge h = cc
kind-true kind.Interest kind.Credit h = cc
kind-true kind.Interest kind.Payment h = cc
kind-true kind.Interest kind.Return h = cc
kind-true kind.Interest kind.Refund h = cc
kind-true kind.Interest kind.Fee h = cc
kind-true kind.Interest kind.Interest h = refl
kind-true kind.Interest kind.Hold h = cc
kind-true kind.Hold kind.Charge h = cc
kind-true kind.Hold kind.Credit h = cc
kind-true kind.Hold kind.Payment h = cc
kind-true kind.Hold kind.Return h = cc
kind-true kind.Hold kind.Refund h = cc
kind-true kind.Hold kind.Fee h = cc
kind-true kind.Hold kind.Interest h = cc
kind-true kind.Hold kind.Hold h = refl

kind-refl : (a : EntryKind) → is_kind a a ≡ true
kind-refl kind.Charge = refl
kind-refl kind.Credit = refl
kind-refl kind.Payment = refl
kind-refl kind.Return = refl
kind-refl kind.Refund = refl
kind-refl kind.Fee = refl
kind-refl kind.Interest = refl
kind-refl kind.Hold = refl

-- ---- entries of one transaction
-- an entry begins a transaction of its own
own : (e : Entry) (ms : List Move) → is_of_move e (begun_move e ms) ≡ true
own e ms = rw (eq-eqb e.day e.day refl, kind-refl e.kind, eq-eqb e.post e.post refl) refl

record OfMove (e : Entry) (m : Move) : Type 0 where
  pub day : m.day ≡ e.day
  pub kind : m.kind ≡ e.kind
  pub post : m.post ≡ e.post

of-move : (e : Entry) (m : Move) → is_of_move e m ≡ true → OfMove e m
of-move e m h =
    let outer = and_parts (eqb m.day e.day && is_kind m.kind e.kind) (eqb m.post e.post) h in
    let inner = and_parts (eqb m.day e.day) (is_kind m.kind e.kind) outer.0 in
    record { day = eqb-true m.day e.day inner.0; kind = kind-true m.kind e.kind inner.1; post = eqb-true m.post e.post outer.1 }

-- where the one begins a transaction that the other is of, both are of the same
same-moves : (x e : Entry) (ms : List Move) → is_of_move e (begun_move x ms) ≡ true → (m : Move) → is_of_move x m ≡ is_of_move e m
same-moves x e ms h m =
    let k = of-move e (begun_move x ms) h in
    let d : x.day ≡ e.day = k.day in
    let i : x.kind ≡ e.kind = k.kind in
    let p : x.post ≡ e.post = k.post in
    rw (d, i, p) refl

-- and else no transaction is of both
other-move : (x e : Entry) (ms : List Move) → is_of_move e (begun_move x ms) ≡ false → (m : Move) → is_of_move e m ≡ true → is_of_move x m ≡ false
other-move x e ms h m q = by (is_of_move x m) refl
  where
    both : is_of_move x m ≡ true → is_of_move e (begun_move x ms) ≡ true
    both r =
        let k = of-move x m r in
        let l = of-move e m q in
        let d : x.day ≡ e.day = sym k.day ∙ l.day in
        let i : x.kind ≡ e.kind = sym k.kind ∙ l.kind in
        let p : x.post ≡ e.post = sym k.post ∙ l.post in
        rw (d, i, p, eq-eqb e.day e.day refl, kind-refl e.kind, eq-eqb e.post e.post refl) refl

    by : (t : Bool) → is_of_move x m ≡ t → t ≡ false
    by false r = refl
    by true r = let s = both r in let no' : true ≡ false = sym s ∙ h in no'

-- ---- one entry more, of the same transaction
abbrev others : Entry → List Move → List Move
others x ms = filter (λ m. not (is_of_move x m)) ms

same-sum : (x e : Entry) → ((m : Move) → is_of_move x m ≡ is_of_move e m) → (ms : List Move) → moves_sum (filter (is_of_move x) (with_entry e ms)) ≡ moves_sum (filter (is_of_move x) ms) +ℤ e.cents
unfolding with_entry
same-sum x e same [] = let h : is_of_move x (begun_move e []) ≡ true = same (begun_move e []) ∙ own e [] in rw h (omega (arith, ints))
same-sum x e same (m ∷ ms) = by (is_of_move e m) (same m) (same-sum x e same ms)
  where
    sums : (y s z : ℤ) → (y +ℤ z) +ℤ s ≡ (y +ℤ s) +ℤ z
    sums y s z = omega (arith, ints)

    by : (t : Bool) → is_of_move x m ≡ t → moves_sum (filter (is_of_move x) (with_entry e ms)) ≡ moves_sum (filter (is_of_move x) ms) +ℤ e.cents
        → moves_sum (filter (is_of_move x) (cond t (raised_by e m ∷ ms) (m ∷ with_entry e ms))) ≡ moves_sum (filter (is_of_move x) (m ∷ ms)) +ℤ e.cents
    by true h i = rw h (sums m.cents (moves_sum (filter (is_of_move x) ms)) e.cents)
    by false h i = rw h i

same-others : (x e : Entry) → ((m : Move) → is_of_move x m ≡ is_of_move e m) → (ms : List Move) → others x (with_entry e ms) ≡ others x ms
unfolding with_entry
same-others x e same [] = let h : is_of_move x (begun_move e []) ≡ true = same (begun_move e []) ∙ own e [] in rw h refl
same-others x e same (m ∷ ms) = by (is_of_move e m) (same m) (same-others x e same ms)
  where
    by : (t : Bool) → is_of_move x m ≡ t → others x (with_entry e ms) ≡ others x ms → others x (cond t (raised_by e m ∷ ms) (m ∷ with_entry e ms)) ≡ others x (m ∷ ms)
    by true h i = rw h refl
    by false h i = rw h (ap (λ l. m ∷ l) i)

-- ---- one entry more, of another transaction
abbrev Apart : Entry → Entry → Type 0
Apart x e = (m : Move) → is_of_move e m ≡ true → is_of_move x m ≡ false

apart-same : (x e : Entry) → Apart x e → (ms : List Move) → filter (is_of_move x) (with_entry e ms) ≡ filter (is_of_move x) ms
unfolding with_entry
apart-same x e apart [] = let h = apart (begun_move e []) (own e []) in rw h refl
apart-same x e apart (m ∷ ms) = by (is_of_move e m) (apart m) (apart-same x e apart ms)
  where
    by : (t : Bool) → (t ≡ true → is_of_move x m ≡ false) → filter (is_of_move x) (with_entry e ms) ≡ filter (is_of_move x) ms
        → filter (is_of_move x) (cond t (raised_by e m ∷ ms) (m ∷ with_entry e ms)) ≡ filter (is_of_move x) (m ∷ ms)
    by true h i = let n = h refl in rw n refl
    by false h i = both (is_of_move x m) i
      where
        both : (u : Bool) → filter (is_of_move x) (with_entry e ms) ≡ filter (is_of_move x) ms → cond u (m ∷ filter (is_of_move x) (with_entry e ms)) (filter (is_of_move x) (with_entry e ms)) ≡ cond u (m ∷ filter (is_of_move x) ms) (filter (is_of_move x) ms)
        both true j = ap (λ l. m ∷ l) j
        both false j = j

apart-others : (x e : Entry) → Apart x e → (ms : List Move) → others x (with_entry e ms) ≡ with_entry e (others x ms)
unfolding with_entry
apart-others x e apart [] = let h = apart (begun_move e []) (own e []) in rw h refl
apart-others x e apart (m ∷ ms) = by (is_of_move e m) refl (apart m) (apart-others x e apart ms)
  where
    by : (t : Bool) → is_of_move e m ≡ t → (t ≡ true → is_of_move x m ≡ false) → others x (with_entry e ms) ≡ with_entry e (others x ms)
        → others x (cond t (raised_by e m ∷ ms) (m ∷ with_entry e ms)) ≡ with_entry e (others x (m ∷ ms))
    by true q h i = let n = h refl in rw (n, q) refl
    by false q h i = both (is_of_move x m) i
      where
        both : (u : Bool) → others x (with_entry e ms) ≡ with_entry e (others x ms) → cond (not u) (m ∷ others x (with_entry e ms)) (others x (with_entry e ms)) ≡ with_entry e (cond (not u) (m ∷ others x ms) (others x ms))
        both true j = j
        both false j = rw q (ap (λ l. m ∷ l) j)

-- ---- entries in order
begun-same : (x : Entry) (ms ns : List Move) → moves_sum (filter (is_of_move x) ms) ≡ moves_sum (filter (is_of_move x) ns) → begun_move x ms ≡ begun_move x ns
begun-same x ms ns h = ap (λ s. record { day = x.day; kind = x.kind; post = x.post; cents = x.cents +ℤ s }) h

begun-raised : (x e : Entry) (ms ns : List Move) → moves_sum (filter (is_of_move x) ms) ≡ moves_sum (filter (is_of_move x) ns) +ℤ e.cents → begun_move x ms ≡ raised_by e (begun_move x ns)
begun-raised x e ms ns h = ap (λ s. record { day = x.day; kind = x.kind; post = x.post; cents = s }) (sums x.cents _ _ e.cents h)
  where
    sums : (a b c z : ℤ) → b ≡ c +ℤ z → a +ℤ b ≡ (a +ℤ c) +ℤ z
    sums a b c z h = omega (arith, ints)

pair : (m n : Move) (ms ns : List Move) → m ≡ n → ms ≡ ns → m ∷ ms ≡ n ∷ ns
pair m n ms ns e f = ap (λ x. x ∷ ms) e ∙ ap (λ l. n ∷ l) f

pub gathered-push : (es : List Entry) (e : Entry) → gathered (es ++ e ∷ []) ≡ with_entry e (gathered es)
unfolding gathered with_entry
gathered-push [] e = refl
gathered-push (x ∷ xs) e =
    let g = gathered xs in
    ap (λ l. begun_move x l ∷ others x l) (gathered-push xs e) ∙ by (is_of_move e (begun_move x g)) refl
  where
    by : (t : Bool) → is_of_move e (begun_move x (gathered xs)) ≡ t
        → begun_move x (with_entry e (gathered xs)) ∷ others x (with_entry e (gathered xs))
        ≡ cond t (raised_by e (begun_move x (gathered xs)) ∷ others x (gathered xs)) (begun_move x (gathered xs) ∷ with_entry e (others x (gathered xs)))
    by true q =
        let same = same-moves x e (gathered xs) q in
        pair _ _ _ _ (begun-raised x e (with_entry e (gathered xs)) (gathered xs) (same-sum x e same (gathered xs))) (same-others x e same (gathered xs))
    by false q =
        let apart : Apart x e = other-move x e (gathered xs) q in
        pair _ _ _ _ (begun-same x (with_entry e (gathered xs)) (gathered xs) (ap moves_sum (apart-same x e apart (gathered xs)))) (apart-others x e apart (gathered xs))
