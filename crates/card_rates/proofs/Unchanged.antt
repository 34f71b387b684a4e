-- A vintage that bears its own rate, where no Lower and no penalty is there to change it.
use Rattle.std.proofs.Common.{◌≡◌, ℕ, zero, suc, ◌<◌, Bool, true, false, cond, ◌&&◌, not, leb, List, [], ◌∷◌, refl, ap, ◌∙◌, arith, Option, Some, None}
use Rattle.std.specs.List.{Contains, fold}
use Rattle.std.specs.Option.{option_or}
use Rattle.std.proofs.lemmas.Bool.Decides.{nat_tests}
use Rattle.card_events.specs.SharedRows.{IndexRow}
use Rattle.card_model.specs.Rates.{Lowering, bears_as, bears_in, begun_of, capped, index_for, own, rate_on, rate_with, starts, with_penalty}
use Rattle.card_model.specs.Segments.{SegmentTerms, is_plan, is_sort, last_that}
use Rattle.card_model.specs.declared.segment.Interval.{Interval}
use Rattle.card_model.specs.declared.segment.Sort.{Sort}
use Rattle.card_model.specs.declared.segment.Sort.TheVariants as sort
use Rattle.card_rates.specs.RateBooks.{AreByNumber, Rates, rate_of}
use Rattle.card_rates.proofs.OneMore.{capped-none, raised-none}

pub and-parts : (s t : Bool) → (s && t) ≡ true → (s ≡ true) × (t ≡ true)
and-parts true t e = (refl, e)
and-parts false t e = cc

not-true : (s : Bool) → not s ≡ true → s ≡ false
not-true true e = cc
not-true false e = refl

sort-same : (s : Sort) → is_sort s s ≡ true
sort-same sort.Credit = refl
sort-same sort.Held = refl
sort-same sort.Purchase = refl
sort-same sort.Cash = refl
sort-same sort.Transfer = refl
sort-same sort.Promo = refl
sort-same sort.Deferred = refl

-- ---- it is the newest of its sort that isn't newer than itself
newer-fails : (a b c d : Bool) → b ≡ false → (a && b && c && d) ≡ false
newer-fails true b c d e = rw e refl
newer-fails false b c d e = refl

newer : (n id k : ℕ) → k ≡ n → id < n → leb k id ≡ false
newer n id k e l = grind (arith, nat_tests)

none-newer : (day : ℕ) (s : Sort) (id n : ℕ) (gs : List SegmentTerms) → AreByNumber n gs → id < n → last_that (bears_in day s id) gs ≡ None
unfolding AreByNumber
none-newer day s id n [] h l = refl
none-newer day s id n (x ∷ xs) (i, h) l =
    let rest : last_that (bears_in day s id) xs ≡ None = none-newer day s id (suc n) xs h (omega (arith, l)) in
    let test : bears_in day s id x ≡ false = newer-fails (is_sort s x.sort) (leb x.id id) (leb x.begins day) (leb x.effective day) (newer n id x.id i l) in
    let last : option_or (last_that (bears_in day s id) xs) (cond (bears_in day s id x) (Some x) None) ≡ None = rw (rest, test) refl in
    last

newest-is : (day n : ℕ) (gs : List SegmentTerms) (g : SegmentTerms) → AreByNumber n gs → Contains gs g → bears_in day g.sort g.id g ≡ true → last_that (bears_in day g.sort g.id) gs ≡ Some g
unfolding AreByNumber
newest-is day n [] g h (k, l, e) b = absurd (omega arith)
newest-is day n (x ∷ xs) g (i, h) (zero, l, e) b =
    let same : x.id ≡ g.id = ap (λ (v : SegmentTerms). v.id) e in
    let rest : last_that (bears_in day g.sort g.id) xs ≡ None = none-newer day g.sort g.id (suc n) xs h (omega (arith, i, same)) in
    let test : bears_in day g.sort g.id x ≡ true = ap (bears_in day g.sort g.id) e ∙ b in
    let here : option_or (last_that (bears_in day g.sort g.id) xs) (cond (bears_in day g.sort g.id x) (Some x) None) ≡ Some x = rw (rest, test) refl in
    here ∙ ap Some e
newest-is day n (x ∷ xs) g (i, h) (suc k, l, e) b =
    let rest : last_that (bears_in day g.sort g.id) xs ≡ Some g = newest-is day (suc n) xs g h (k, omega arith, e) b in
    let here : option_or (last_that (bears_in day g.sort g.id) xs) (cond (bears_in day g.sort g.id x) (Some x) None) ≡ Some g = rw rest refl in
    here

-- ---- its rate
own-is : (index : Option ℕ) (day : ℕ) (gs : List SegmentTerms) (g : SegmentTerms) → AreByNumber 2 gs → Contains gs g → is_plan g ≡ false → leb g.begins day ≡ true → leb g.effective day ≡ true
    → (own index gs day g).rate ≡ rate_with index g
own-is index day gs g h c plan begun effective =
    let itself : leb g.id g.id ≡ true = grind (arith, nat_tests) in
    let test : bears_in day g.sort g.id g ≡ true = rw (sort-same g.sort, itself, begun, effective) refl in
    let vintage : own index gs day g ≡ begun_of index (last_that (bears_in day g.sort g.id) gs) = rw plan refl in
    ap (λ b. b.rate) vintage ∙ ap (λ o. (begun_of index o).rate) (newest-is day 2 gs g h c test)

lasting-is : (index : Option ℕ) (lowers : List Lowering) (penalty day : ℕ) (penalties : List Interval) (gs : List SegmentTerms) (g : SegmentTerms) → is_plan g ≡ false
    → rate_on index lowers penalty (starts day penalties) gs day g ≡ fold (with_penalty lowers penalty (bears_as g) day) (capped lowers (bears_as g) day (own index gs day g)) (starts day penalties)
unfolding rate_on
lasting-is index lowers penalty day penalties gs g plan = rw plan refl

-- with the index, where it follows that
pub rate-with-is : (rows : List IndexRow) (r : Rates) (day : ℕ) (g : SegmentTerms) → AreByNumber 2 r.segments → r.lowerings ≡ [] → r.penalties ≡ [] → Contains r.segments g
    → (not (is_plan g) && leb g.effective day && leb g.begins day) ≡ true → rate_of rows r day g ≡ rate_with (index_for r.variable rows day) g
rate-with-is rows r day g h lowers penalties c test =
    let one = and-parts (not (is_plan g) && leb g.effective day) (leb g.begins day) test in
    let two = and-parts (not (is_plan g)) (leb g.effective day) one.0 in
    let plan = not-true (is_plan g) two.0 in
    let s = bears_as g in
    let index = index_for r.variable rows day in
    let b = own index r.segments day g in
    let f = with_penalty r.lowerings r.penalty s day in
    lasting-is index r.lowerings r.penalty day r.penalties r.segments g plan
    ∙ (ap (λ ps. fold f (capped r.lowerings s day b) (starts day ps)) penalties
    ∙ (raised-none f (capped r.lowerings s day b) day
    ∙ (ap (λ ls. capped ls s day b) lowers
    ∙ (capped-none s day b ∙ own-is index day r.segments g h c plan one.1 two.1))))

pub rate-is : (rows : List IndexRow) (r : Rates) (day : ℕ) (g : SegmentTerms) → AreByNumber 2 r.segments → r.variable ≡ false → r.lowerings ≡ [] → r.penalties ≡ [] → Contains r.segments g
    → (not (is_plan g) && leb g.effective day && leb g.begins day) ≡ true → rate_of rows r day g ≡ g.rate
rate-is rows r day g h fixed lowers penalties c test = rate-with-is rows r day g h lowers penalties c test ∙ ap (λ v. rate_with (index_for v rows day) g) fixed
