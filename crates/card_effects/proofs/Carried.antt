-- What parts bring to the rows of segments.
use Rattle.std.proofs.Common.{◌≡◌, ℕ, zero, suc, ◌+◌, ◌-◌, ◌<◌, ◌≤◌, Bool, true, not, List, [], ◌∷◌, ◌++◌, length, map, take, refl, sym, ap, ◌∙◌, arith, eqb, eq-eqb, leb, get_or, set, inl, inr, ◌⊎◌}
use Rattle.std.proofs.lemmas.Bool.{ne_eqb}
use Rattle.std.proofs.lemmas.Bool.Decides.{nat_tests}
use Rattle.std.proofs.lemmas.List.{append-nil, append_assoc, length-map, map-set, set-get_or, take_more}
use Rattle.std.proofs.lemmas.List.Elements.{filter-append}
use Rattle.card_segments.specs.Parts.{parts_sum}
use Rattle.card_closing.specs.BookRows.{brought}
use Rattle.card_closing.specs.Growth.{with_repaid}
use Rattle.card_closing.specs.Rows.{Rows, others, with_repayment, without_post}
use Rattle.card_closing.specs.declared.rows.Repayment.{Repayment}
use Rattle.card_closing.proofs.Growing.{rows_grow}
use Rattle.card_model.specs.Effects.{parts_entries}
use Rattle.card_model.specs.Entries.{lowers}
use Rattle.card_model.specs.Interest.{repays}
use Rattle.card_model.specs.Segments.{SegmentTerms}
use Rattle.card_model.specs.declared.entry.Entry.{Entry}
use Rattle.card_model.specs.declared.entry.EntryKind.{EntryKind}
use Rattle.card_model.specs.declared.entry.Note.{Note}
use Rattle.card_rates.specs.RateBooks.{AreByNumber}
use Rattle.card_effects.specs.Repaid.{AreRepaid, repaid_rows}

-- ---- what one part brings to one segment
elsewhere : (returned : ℕ → Bool) (s first : ℕ) (note : Note) (to n : ℕ) → (to ≡ s → ⊥) → brought returned s first (lowers note to n) ≡ []
unfolding brought
elsewhere returned s first note to zero h = refl
elsewhere returned s first note to (suc n) h = rw (ne_eqb to s h) refl

here : (returned : ℕ → Bool) (s first : ℕ) (note : Note) (to n : ℕ) → to ≡ s → 0 < n → first ≤ note.day → repays returned note.kind note.post ≡ true
    → brought returned s first (lowers note to n) ≡ record { day = note.day; cents = n; post = note.post } ∷ []
unfolding brought
here returned s first note to zero e l f r = absurd (omega arith)
here returned s first note to (suc n) e l f r =
    let day : leb first note.day ≡ true = grind (arith, nat_tests) in
    rw (eq-eqb to s e, r, day) refl

-- a segment's rows with what entries brought
abbrev brought_to : (ℕ → Bool) → ℕ → (SegmentTerms → Rows) → List Entry → SegmentTerms → Rows
brought_to returned first rows entries g = with_repaid (brought returned g.id first entries) (rows g)

more-brought : (returned : ℕ → Bool) (first : ℕ) (rows : SegmentTerms → Rows) (es ys : List Entry) (g : SegmentTerms) (zs : List Repayment) → brought returned g.id first ys ≡ zs
    → brought_to returned first rows (es ++ ys) g ≡ with_repaid (brought returned g.id first es ++ zs) (rows g)
more-brought returned first rows es ys g zs e =
    ap (λ (us : List Repayment). with_repaid us (rows g)) (rows_grow.entries returned g.id first es ys ∙ ap (λ us. brought returned g.id first es ++ us) e)

-- ---- what it brings to all
all-same : (f h : SegmentTerms → Rows) (s m : ℕ) (gs : List SegmentTerms) → AreByNumber m gs → s < m → ((g : SegmentTerms) → (s ≡ g.id → ⊥) → h g ≡ f g) → map f gs ≡ map h gs
unfolding AreByNumber
all-same f h s m [] n l same = refl
all-same f h s m (g ∷ gs) n l same =
    let i = n.0 in
    ap (λ x. x ∷ map f gs) (sym (same g (λ e. omega (arith, i, e, l)))) ∙ ap (λ us. h g ∷ us) (all-same f h s (suc m) gs n.1 (omega (arith, l)) same)

one-more : (f h : SegmentTerms → Rows) (r : Repayment) (d : Rows) (k m s : ℕ) (gs : List SegmentTerms) → AreByNumber m gs → s ≡ m + k → k < length gs
    → ((g : SegmentTerms) → (s ≡ g.id → ⊥) → h g ≡ f g) → ((g : SegmentTerms) → s ≡ g.id → h g ≡ with_repayment r (f g))
    → set (map f gs) k (with_repayment r (get_or (map f gs) k d)) ≡ map h gs
unfolding AreByNumber
one-more f h r d k m s [] n e l same more = absurd (omega (arith, l))
one-more f h r d zero m s (g ∷ gs) n e l same more =
    let i = n.0 in
    ap (λ x. x ∷ map f gs) (sym (more g (omega (arith, i, e)))) ∙ ap (λ us. h g ∷ us) (all-same f h s (suc m) gs n.1 (omega (arith, e)) same)
one-more f h r d (suc k) m s (g ∷ gs) n e l same more =
    let i = n.0 in
    ap (λ x. x ∷ set (map f gs) k (with_repayment r (get_or (map f gs) k d))) (sym (same g (λ q. omega (arith, i, e, q))))
    ∙ ap (λ us. h g ∷ us) (one-more f h r d k (suc m) s gs n.1 (omega (arith, e)) (omega (arith, l)) same more)

abbrev Noted : ℕ → ℕ → EntryKind → Note
Noted day post k = record { day = day; kind = k; post = post }

one-entry : (es : List Entry) (note : Note) (to n : ℕ) → es ++ parts_entries note ((to, n) ∷ []) ≡ es ++ lowers note to n
one-entry es note to n = ap (λ us. es ++ us) (append-nil (lowers note to n))

-- a part of Credit, or of no cents
pub none-repaid : (day post to n : ℕ) (rows : List Rows) → (n ≡ 0) ⊎ (to < 2) → AreRepaid day post ((to, n) ∷ []) rows rows
none-repaid day post to n rows less k returned gs before first es numbers l r e =
    let note = Noted day post k in
    e ∙ (by less ∙ ap (repaid_rows returned first before gs) (sym (one-entry es note to n)))
  where
    f : SegmentTerms → Rows
    f = brought_to returned first before es

    h : SegmentTerms → Rows
    h = brought_to returned first before (es ++ lowers (Noted day post k) to n)

    same : (g : SegmentTerms) → (to ≡ g.id → ⊥) → h g ≡ f g
    same g q =
        more-brought returned first before es (lowers (Noted day post k) to n) g [] (elsewhere returned g.id first (Noted day post k) to n q)
        ∙ ap (λ (us : List Repayment). with_repaid us (before g)) (append-nil (brought returned g.id first es))

    by : (n ≡ 0) ⊎ (to < 2) → map f gs ≡ map h gs
    by (inl z) = ap (λ us. map (brought_to returned first before us) gs) (sym (append-nil es) ∙ ap (λ (c : ℕ). es ++ lowers (Noted day post k) to c) (sym z))
    by (inr low) = all-same f h to 2 gs numbers low same

-- a part of another segment
pub one-repaid : (day post to n : ℕ) (d : Rows) (old : List Rows) → 2 ≤ to → to < length old + 2 → 0 < n
    → AreRepaid day post ((to, n) ∷ []) old (set old (to - 2) (with_repayment (record { day = day; cents = n; post = post }) (get_or old (to - 2) d)))
one-repaid day post to n d old low known some k returned gs before first es numbers l r e =
    let note = Noted day post k in
    let many : length gs ≡ length old = sym (ap length e ∙ length-map gs f) in
    ap (λ us. set us (to - 2) (with_repayment repayment (get_or us (to - 2) d))) e
    ∙ (one-more f h repayment d (to - 2) 2 to gs numbers (omega (arith, low)) (omega (arith, low, known, many)) same more
    ∙ ap (repaid_rows returned first before gs) (sym (one-entry es note to n)))
  where
    repayment : Repayment
    repayment = record { day = day; cents = n; post = post }

    f : SegmentTerms → Rows
    f = brought_to returned first before es

    h : SegmentTerms → Rows
    h = brought_to returned first before (es ++ lowers (Noted day post k) to n)

    same : (g : SegmentTerms) → (to ≡ g.id → ⊥) → h g ≡ f g
    same g q =
        more-brought returned first before es (lowers (Noted day post k) to n) g [] (elsewhere returned g.id first (Noted day post k) to n q)
        ∙ ap (λ (us : List Repayment). with_repaid us (before g)) (append-nil (brought returned g.id first es))

    more : (g : SegmentTerms) → to ≡ g.id → h g ≡ with_repayment repayment (f g)
    more g q = more-brought returned first before es (lowers (Noted day post k) to n) g (repayment ∷ []) (here returned g.id first (Noted day post k) to n q some l r)

-- ---- parts in turn
parts_entries-append : (note : Note) (ps qs : List (ℕ × ℕ)) → parts_entries note (ps ++ qs) ≡ parts_entries note ps ++ parts_entries note qs
parts_entries-append note [] qs = refl
parts_entries-append note (p ∷ ps) qs = ap (λ us. lowers note p.0 p.1 ++ us) (parts_entries-append note ps qs) ∙ sym (append_assoc (lowers note p.0 p.1) (parts_entries note ps) (parts_entries note qs))

pub no-parts : (day post : ℕ) (rows : List Rows) → AreRepaid day post [] rows rows
no-parts day post rows k returned gs before first es numbers l r e = e ∙ ap (repaid_rows returned first before gs) (sym (append-nil es))

pub next-part : (day post : ℕ) (ps : List (ℕ × ℕ)) (i : ℕ) (d : ℕ × ℕ) (a b c : List Rows) → i < length ps → AreRepaid day post (take i ps) a b → AreRepaid day post (get_or ps i d ∷ []) b c → AreRepaid day post (take (i + 1) ps) a c
next-part day post ps i d a b c in_list first second k returned gs before from es numbers l r e =
    let note = Noted day post k in
    let p = get_or ps i d in
    second k returned gs before from (es ++ parts_entries note (take i ps)) numbers l r (first k returned gs before from es numbers l r e)
    ∙ ap (repaid_rows returned from before gs)
    (append_assoc es (parts_entries note (take i ps)) (parts_entries note (p ∷ []))
    ∙ ap (λ us. es ++ us) (sym (ap (parts_entries note) (take_more ps i d in_list) ∙ parts_entries-append note (take i ps) (p ∷ []))))

-- a part is at most the sum
pub part-within : (ps : List (ℕ × ℕ)) (i : ℕ) (d : ℕ × ℕ) → i < length ps → (get_or ps i d).1 ≤ parts_sum ps
part-within [] i d l = absurd (omega (arith, l))
part-within (p ∷ ps) zero d l = omega arith
part-within (p ∷ ps) (suc i) d l = let rest = part-within ps i d (omega (arith, l)) in omega (arith, rest)

-- ---- without what a post brought
one-less : (post : ℕ) (r : Repayment) (x : Rows) → r.post ≡ post → without_post post (with_repayment r x) ≡ without_post post x
one-less post r x e =
    let same : eqb r.post post ≡ true = eq-eqb r.post post e in
    let last : others post (r ∷ []) ≡ [] = rw same refl in
    ap (λ (us : List Repayment). with_repaid us x) (filter-append (λ (q : Repayment). not (eqb q.post post)) x.repaid (r ∷ []) ∙ (ap (λ us. others post x.repaid ++ us) last ∙ append-nil (others post x.repaid)))

pub others-stay : (post : ℕ) (r : Repayment) (xs : List Rows) (i : ℕ) (d : Rows) → r.post ≡ post
    → map (without_post post) (set xs i (with_repayment r (get_or xs i d))) ≡ map (without_post post) xs
others-stay post r xs i d e =
    map-set (without_post post) xs i (with_repayment r (get_or xs i d))
    ∙ (ap (λ x. set (map (without_post post) xs) i x) (one-less post r (get_or xs i d) e)
    ∙ (sym (map-set (without_post post) xs i (get_or xs i d)) ∙ ap (map (without_post post)) (set-get_or xs i d)))

-- ---- rows one after the other
-- the first so many rows are changed
abbrev pub changed_to : (Rows → Rows) → ℕ → List Rows → List Rows
changed_to f zero xs = xs
changed_to f (suc i) [] = []
changed_to f (suc i) (x ∷ xs) = f x ∷ changed_to f i xs

pub change-next : (f : Rows → Rows) (i : ℕ) (xs : List Rows) (d : Rows) → i < length xs → set (changed_to f i xs) i (f (get_or (changed_to f i xs) i d)) ≡ changed_to f (i + 1) xs
change-next f i [] d l = absurd (omega (arith, l))
change-next f zero (x ∷ xs) d l = refl
change-next f (suc i) (x ∷ xs) d l =
    let next : suc i + 1 ≡ suc (i + 1) = omega arith in
    ap (λ us. f x ∷ us) (change-next f i xs d (omega (arith, l))) ∙ ap (λ n. changed_to f n (x ∷ xs)) (sym next)

pub change-all : (f : Rows → Rows) (i : ℕ) (xs : List Rows) → length xs ≤ i → changed_to f i xs ≡ map f xs
change-all f zero [] l = refl
change-all f zero (x ∷ xs) l = absurd (omega (arith, l))
change-all f (suc i) [] l = refl
change-all f (suc i) (x ∷ xs) l = ap (λ us. f x ∷ us) (change-all f i xs (omega (arith, l)))
