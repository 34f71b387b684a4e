-- What a router finds whose rows begin with literals.
use Rattle.std.proofs.Common.{◌≡◌, ◌≢◌, ℕ, zero, suc, ◌-◌, ◌<◌, Bool, true, false, cond, ltb, ◌==◌, ◌&&◌, nat_eq, List, [], ◌∷◌, ◌++◌, length, drop, Option, None, Some, codes, refl, ap, sym, ◌∙◌, subst, arith, append-nil}
use Rattle.std.proofs.lemmas.List.{length-append}
use lib.Seq.{drop_at}
use Rattle.std.proofs.lemmas.Bool.Decides.{nat_tests}
use Rattle.std.specs.List.{starts_with}
use Rattle.std.specs.Str.{bytes_eq}
use Rattle.matchit.specs.Rows.{Rows, Seen, prepend, ends, rows_of}
use Rattle.matchit.specs.Seek.{step, or_else, seek, first, param_step, has_slash, after_param, segment, longest_suffix, better}
use Rattle.matchit.specs.Level.{IsText, AllSegment, AreSuffixes}
use Rattle.matchit.proofs.SeekLemmas.{own-append, own-prepend, step-append, step-hit, step-miss, or_else-none, prepend-nil, param_step-empty, seek-empty, first-prefix}
use Rattle.matchit.proofs.LongestLemmas.{longest-kid}
use Rattle.matchit.proofs.ParamLemmas.{after_param-end, after_param-stop, after_param-kid}

-- rows without parameters in front go on with the byte
lit_first : (r : Rows) (b : ℕ) (p : List ℕ) → step 256 r ≡ [] → step 257 r ≡ [] → first r (b ∷ p) ≡ first (step b r) p
unfolding seek
lit_first r b p none last = rw (none, last, param_step-empty (b ∷ p), seek-empty _ p) (or_else-none (seek 0 (step b r) p))

-- rows under a byte, and others under none, are sought one after the other
pub first_split : (x : ℕ) (w : List ℕ) (t B : Rows) (path : List ℕ) → x < 256 → step 256 B ≡ [] → step 257 B ≡ [] → step x B ≡ []
    → first (prepend (x ∷ w) t ++ B) path ≡ or_else (first (prepend (x ∷ w) t) path) (first B path)
unfolding seek
first_split x w t B [] low none last other = own-append (prepend (x ∷ w) t) B
first_split x w t B (b ∷ p) low none last other =
    let n1 : x ≢ 256 = λ e. omega arith in
    let n2 : x ≢ 257 = λ e. omega arith in
    let a1 = step-miss 256 x w t n1 in
    let a2 = step-miss 257 x w t n2 in
    let s1 : step 256 (prepend (x ∷ w) t ++ B) ≡ [] = step-append 256 (prepend (x ∷ w) t) B ∙ rw (a1, none) refl in
    let s2 : step 257 (prepend (x ∷ w) t ++ B) ≡ [] = step-append 257 (prepend (x ∷ w) t) B ∙ rw (a2, last) refl in
    rw (lit_first (prepend (x ∷ w) t ++ B) b p s1 s2, lit_first (prepend (x ∷ w) t) b p a1 a2, lit_first B b p none last, step-append b (prepend (x ∷ w) t) B) (by (x == b) refl)
  where
    by : (v : Bool) → (x == b) ≡ v → first (step b (prepend (x ∷ w) t) ++ step b B) p ≡ or_else (first (step b (prepend (x ∷ w) t)) p) (first (step b B) p)
    by true e =
        let same : x ≡ b = grind (arith, nat_tests) in
        let none_b : step b B ≡ [] = subst (λ (y : ℕ). step y B ≡ []) same other in
        rw (none_b, append-nil (step b (prepend (x ∷ w) t)), seek-empty 0 p) (sym (or_else-none (first (step b (prepend (x ∷ w) t)) p)))
    by false e =
        let n : x ≢ b = λ q. grind (arith, nat_tests) in
        rw (step-miss b x w t n, seek-empty 0 p) refl

-- ---- literals

pub differ : (a b : ℕ) → a ≢ b → nat_eq a b ≡ false
differ a b n = grind (arith, nat_tests)

alike : (a b : ℕ) → a ≡ b → nat_eq a b ≡ true
alike a b e = grind (arith, nat_tests)

-- the bytes of a text without a slash
pub slash_no : (b : ℕ) (bs : List ℕ) → has_slash (b ∷ bs) ≡ false → (b ≢ 47) × (has_slash bs ≡ false)
slash_no b bs h = by (b == 47) refl h
  where
    by : (v : Bool) → (b == 47) ≡ v → cond v true (has_slash bs) ≡ false → (b ≢ 47) × (has_slash bs ≡ false)
    by true e g = absurd (cc g)
    by false e g = (λ q. grind (arith, nat_tests), g)

-- where the rest of the rows goes on after a literal that ends with a slash, in a path by its first part
agree_slash : (F : List ℕ → Option ℕ) (w what rest : List ℕ) → has_slash w ≡ false → has_slash what ≡ false
    → cond (starts_with nat_eq (what ++ 47 ∷ rest) (w ++ 47 ∷ [])) (F (drop (length (w ++ 47 ∷ [])) (what ++ 47 ∷ rest))) None ≡ cond (bytes_eq what w) (F rest) None
agree_slash F [] [] rest hw hp = refl
agree_slash F [] (b ∷ bs) rest hw hp = rw (differ 47 b (λ e. (slash_no b bs hp).0 (sym e))) refl
agree_slash F (x ∷ w) [] rest hw hp = rw (differ x 47 (slash_no x w hw).0) refl
agree_slash F (x ∷ w) (b ∷ bs) rest hw hp = by (x == b) refl (agree_slash F w bs rest (slash_no x w hw).1 (slash_no b bs hp).1)
  where
    by : (v : Bool) → (x == b) ≡ v
        → cond (starts_with nat_eq (bs ++ 47 ∷ rest) (w ++ 47 ∷ [])) (F (drop (length (w ++ 47 ∷ [])) (bs ++ 47 ∷ rest))) None ≡ cond (bytes_eq bs w) (F rest) None
        → cond (nat_eq x b && starts_with nat_eq (bs ++ 47 ∷ rest) (w ++ 47 ∷ [])) (F (drop (length (w ++ 47 ∷ [])) (bs ++ 47 ∷ rest))) None ≡ cond (nat_eq b x && bytes_eq bs w) (F rest) None
    by true e more =
        let same : x ≡ b = grind (arith, nat_tests) in
        rw (alike x b same, alike b x (sym same)) more
    by false e more =
        let n : x ≢ b = λ q. grind (arith, nat_tests) in
        rw (differ x b n, differ b x (λ q. n (sym q))) refl

-- a path of one part doesn't go on after it
agree_none : (w p : List ℕ) → has_slash p ≡ false → starts_with nat_eq p (w ++ 47 ∷ []) ≡ false
agree_none [] [] hp = refl
agree_none [] (b ∷ bs) hp = rw (differ 47 b (λ e. (slash_no b bs hp).0 (sym e))) refl
agree_none (x ∷ w) [] hp = refl
agree_none (x ∷ w) (b ∷ bs) hp = by (nat_eq x b) (agree_none w bs (slash_no b bs hp).1)
  where
    by : (v : Bool) → starts_with nat_eq bs (w ++ 47 ∷ []) ≡ false → (v && starts_with nat_eq bs (w ++ 47 ∷ [])) ≡ false
    by true more = more
    by false more = refl

-- a row that ends here
ends_first : (k : ℕ) (b : ℕ) (p : List ℕ) → first (ends (Some k)) (b ∷ p) ≡ None
ends_first k b p = lit_first (ends (Some k)) b p refl refl ∙ seek-empty 0 p

agree_whole : (w p : List ℕ) (k : ℕ) → cond (starts_with nat_eq p w) (first (ends (Some k)) (drop (length w) p)) None ≡ cond (bytes_eq p w) (Some k) None
unfolding seek
agree_whole [] [] k = refl
agree_whole [] (b ∷ bs) k = ends_first k b bs
agree_whole (x ∷ w) [] k = refl
agree_whole (x ∷ w) (b ∷ bs) k = by (x == b) refl (agree_whole w bs k)
  where
    by : (v : Bool) → (x == b) ≡ v → cond (starts_with nat_eq bs w) (first (ends (Some k)) (drop (length w) bs)) None ≡ cond (bytes_eq bs w) (Some k) None
        → cond (nat_eq x b && starts_with nat_eq bs w) (first (ends (Some k)) (drop (length w) bs)) None ≡ cond (nat_eq b x && bytes_eq bs w) (Some k) None
    by true e more =
        let same : x ≡ b = grind (arith, nat_tests) in
        rw (alike x b same, alike b x (sym same)) more
    by false e more =
        let n : x ≢ b = λ q. grind (arith, nat_tests) in
        rw (differ x b n, differ b x (λ q. n (sym q))) refl

-- a text with a slash is none without
slash_differs : (what rest w : List ℕ) → has_slash w ≡ false → bytes_eq (what ++ 47 ∷ rest) w ≡ false
slash_differs [] rest [] hw = refl
slash_differs [] rest (x ∷ w) hw = rw (differ 47 x (λ e. (slash_no x w hw).0 (sym e))) refl
slash_differs (b ∷ bs) rest [] hw = refl
slash_differs (b ∷ bs) rest (x ∷ w) hw = by (nat_eq b x) (slash_differs bs rest w (slash_no x w hw).1)
  where
    by : (v : Bool) → bytes_eq (bs ++ 47 ∷ rest) w ≡ false → (v && bytes_eq (bs ++ 47 ∷ rest) w) ≡ false
    by true more = more
    by false more = refl

-- ---- a literal and what is behind it, by the first part of a path

pub word_slash : (w : List ℕ) (t : Rows) (what rest : List ℕ) → IsText (w ++ 47 ∷ []) → has_slash w ≡ false → has_slash what ≡ false
    → first (prepend (w ++ 47 ∷ []) t) (what ++ 47 ∷ rest) ≡ cond (bytes_eq what w) (first t rest) None
word_slash w t what rest text hw hp = first-prefix (w ++ 47 ∷ []) t (what ++ 47 ∷ rest) text ∙ agree_slash (first t) w what rest hw hp

pub word_none : (w : List ℕ) (t : Rows) (p : List ℕ) → IsText (w ++ 47 ∷ []) → has_slash p ≡ false → first (prepend (w ++ 47 ∷ []) t) p ≡ None
word_none w t p text hp = first-prefix (w ++ 47 ∷ []) t p text ∙ rw (agree_none w p hp) refl

pub word_whole : (w : List ℕ) (k : ℕ) (p : List ℕ) → IsText w → first (prepend w (ends (Some k))) p ≡ cond (bytes_eq p w) (Some k) None
word_whole w k p text = first-prefix w (ends (Some k)) p text ∙ agree_whole w p k

pub word_beyond : (w : List ℕ) (k : ℕ) (what rest : List ℕ) → IsText w → has_slash w ≡ false → first (prepend w (ends (Some k))) (what ++ 47 ∷ rest) ≡ None
word_beyond w k what rest text hw = word_whole w k (what ++ 47 ∷ rest) text ∙ rw (slash_differs what rest w hw) refl

-- ---- a parameter

-- it is at the front
param_first : (t : Rows) (b : ℕ) (p : List ℕ) → b ≢ 256 → first (prepend (256 ∷ []) t) (b ∷ p) ≡ after_param t (b ∷ p)
unfolding seek
param_first t b p n =
    let n1 : 256 ≢ b = λ e. n (sym e) in
    let n2 : ◌≢◌ {A = ℕ} 256 257 = λ (e : ◌≡◌ {A = ℕ} 256 257). omega (arith, e) in
    rw (step-miss b 256 [] t n1, step-hit 256 [] t, step-miss 257 256 [] t n2, prepend-nil t, seek-empty 0 p) (or_else-none (seek ((param_step t (b ∷ p)).0 - 1) (param_step t (b ∷ p)).1 p))

-- an empty path
pub param_nothing : (t : Rows) → first (prepend (256 ∷ []) t) [] ≡ None
unfolding seek
param_nothing t = own-prepend 256 [] t

-- the last part of a path
pub last_param : (k b : ℕ) (p : List ℕ) → b ≢ 256 → has_slash (b ∷ p) ≡ false → first (prepend (256 ∷ []) (ends (Some k))) (b ∷ p) ≡ Some k
last_param k b p n none = param_first (ends (Some k)) b p n ∙ after_param-end [] (Some k) b p tt refl none

pub last_stop : (k b : ℕ) (p : List ℕ) → b ≢ 256 → has_slash (b ∷ p) ≡ true → first (prepend (256 ∷ []) (ends (Some k))) (b ∷ p) ≡ None
last_stop k b p n some = param_first (ends (Some k)) b p n ∙ after_param-stop [] (Some k) b p refl some

-- ---- segments

segment_none : (p : List ℕ) → has_slash p ≡ false → segment p ≡ p
segment_none [] h = refl
segment_none (b ∷ bs) h = rw (differ b 47 (slash_no b bs h).0) (ap (λ l. b ∷ l) (segment_none bs (slash_no b bs h).1))

pub segment_cut : (a rest : List ℕ) → has_slash a ≡ false → segment (a ++ 47 ∷ rest) ≡ a ++ 47 ∷ []
segment_cut [] rest h = refl
segment_cut (b ∷ bs) rest h = rw (differ b 47 (slash_no b bs h).0) (ap (λ l. b ∷ l) (segment_cut bs rest (slash_no b bs h).1))

pub has_slash_cut : (a rest : List ℕ) → has_slash (a ++ 47 ∷ rest) ≡ true
has_slash_cut [] rest = refl
has_slash_cut (b ∷ bs) rest = by (b == 47) (has_slash_cut bs rest)
  where
    by : (v : Bool) → has_slash (bs ++ 47 ∷ rest) ≡ true → cond v true (has_slash (bs ++ 47 ∷ rest)) ≡ true
    by true more = refl
    by false more = more

-- no suffix of a text without a slash is a slash
no_slash_last : (n : ℕ) (p : List ℕ) → has_slash p ≡ false → bytes_eq (47 ∷ []) (drop n p) ≡ false
no_slash_last zero [] h = refl
no_slash_last (suc n) [] h = refl
no_slash_last zero (b ∷ bs) h = rw (differ 47 b (λ e. (slash_no b bs h).0 (sym e))) refl
no_slash_last (suc n) (b ∷ bs) h = no_slash_last n bs (slash_no b bs h).1

-- a slash is the suffix of a first part
slash_last : (a : List ℕ) → bytes_eq (47 ∷ []) (drop (length (a ++ 47 ∷ []) - 1) (a ++ 47 ∷ [])) ≡ true
slash_last a =
    let long : length (a ++ 47 ∷ []) - 1 ≡ length a = omega (arith, length-append a (47 ∷ [])) in
    rw (long, drop_at a (47 ∷ []) (length a) refl) refl

-- ---- the account, behind which a path ends or goes on with a slash

-- the rows behind a slash, and the one that ends here
abbrev pub behind_part : Rows → ℕ → Rows
behind_part tails k = prepend (256 ∷ []) (prepend (47 ∷ []) tails ++ ends (Some k))

abbrev kid : Rows → Seen
kid tails = record { prefix = 47 ∷ []; tails = tails; height = 0 }

-- each row of these begins with a slash
AllSegment_slash : (tails : Rows) → AllSegment (47 ∷ []) (prepend (47 ∷ []) tails)
AllSegment_slash [] = tt
AllSegment_slash ((t, k) ∷ rest) = (refl, AllSegment_slash rest)

length_prepend : (w : List ℕ) (r : Rows) → length (prepend w r) ≡ length r
length_prepend w [] = refl
length_prepend w ((t, k) ∷ rest) = ap suc (length_prepend w rest)

are_suffixes : (tails : Rows) → 0 < length tails → AreSuffixes (kid tails ∷ [])
are_suffixes tails some = (record { some_prefix = omega arith; some_rows = omega (arith, some, length_prepend (47 ∷ []) tails); all_segment = AllSegment_slash tails }, tt, tt)

-- the rows of that node alone
kid_rows : (tails : Rows) (k : ℕ) → rows_of (kid tails ∷ []) ++ ends (Some k) ≡ prepend (47 ∷ []) tails ++ ends (Some k)
kid_rows tails k = ap (λ (r : Rows). r ++ ends (Some k)) (append-nil (prepend (47 ∷ []) tails))

longest_is : (tails : Rows) (seg : List ℕ) → 0 < length tails → longest_suffix seg (rows_of (kid tails ∷ [])) ≡ better seg [] (47 ∷ [])
longest_is tails seg some =
    ap (longest_suffix seg) (append-nil (prepend (47 ∷ []) tails)) ∙ longest-kid seg [] (47 ∷ []) (prepend (47 ∷ []) tails) (AllSegment_slash tails) (omega (arith, some, length_prepend (47 ∷ []) tails))

-- no suffix of a last part, and the slash of another
better_none : (p : List ℕ) → has_slash p ≡ false → better p [] (47 ∷ []) ≡ []
better_none p h = by (ltb 1 (length p)) (bytes_eq (47 ∷ []) (drop (length p - 1) p)) (no_slash_last (length p - 1) p h)
  where
    by : (u v : Bool) → v ≡ false → cond {A = List ℕ} (u && v) (47 ∷ []) [] ≡ []
    by true v e = rw e refl
    by false v e = refl

better_slash : (b : ℕ) (p : List ℕ) → better (b ∷ p ++ 47 ∷ []) [] (47 ∷ []) ≡ 47 ∷ []
better_slash b p =
    let long : 1 < length (b ∷ p ++ 47 ∷ []) = omega (arith, length-append p (47 ∷ [])) in
    let longer : ltb 1 (length (b ∷ p ++ 47 ∷ [])) ≡ true = grind (arith, nat_tests, long) in
    rw (longer, slash_last (b ∷ p)) refl

-- behind the bytes of a first part is its slash
behind_first : (a rest : List ℕ) → has_slash a ≡ false → drop (length (segment (a ++ 47 ∷ rest)) - 1) (a ++ 47 ∷ rest) ≡ 47 ∷ rest
behind_first a rest none =
    let long : length (segment (a ++ 47 ∷ rest)) - 1 ≡ length a = omega (arith, ap length (segment_cut a rest none), length-append a (47 ∷ [])) in
    rw long (drop_at a (47 ∷ rest) (length a) refl)

pub account_last : (tails : Rows) (k b : ℕ) (p : List ℕ) → 0 < length tails → b ≢ 256 → has_slash (b ∷ p) ≡ false → first (behind_part tails k) (b ∷ p) ≡ Some k
account_last tails k b p some n none =
    let longest : longest_suffix (segment (b ∷ p)) (rows_of (kid tails ∷ [])) ≡ [] = longest_is tails (segment (b ∷ p)) some ∙ ap (λ (s : List ℕ). better s [] (47 ∷ [])) (segment_none (b ∷ p) none) ∙ better_none (b ∷ p) none in
    param_first (prepend (47 ∷ []) tails ++ ends (Some k)) b p n ∙ ap (λ (r : Rows). after_param r (b ∷ p)) (sym (kid_rows tails k)) ∙ after_param-end (kid tails ∷ []) (Some k) b p (are_suffixes tails some) longest none

pub account_none : (tails : Rows) (k : ℕ) (rest : List ℕ) → 0 < length tails → first (behind_part tails k) (47 ∷ rest) ≡ None
account_none tails k rest some =
    let longest : longest_suffix (segment (47 ∷ rest)) (rows_of (kid tails ∷ [])) ≡ [] = longest_is tails (47 ∷ []) some ∙ refl in
    param_first (prepend (47 ∷ []) tails ++ ends (Some k)) 47 rest (λ (e : ◌≡◌ {A = ℕ} 47 256). omega (arith, e)) ∙ ap (λ (r : Rows). after_param r (47 ∷ rest)) (sym (kid_rows tails k)) ∙ after_param-stop (kid tails ∷ []) (Some k) 47 rest longest refl

pub account_more : (tails : Rows) (k b : ℕ) (p rest : List ℕ) → 0 < length tails → b ≢ 256 → has_slash (b ∷ p) ≡ false
    → first (behind_part tails k) (b ∷ p ++ 47 ∷ rest) ≡ first (prepend (47 ∷ []) tails) (47 ∷ rest)
account_more tails k b p rest some n none =
    let seg : segment (b ∷ p ++ 47 ∷ rest) ≡ b ∷ p ++ 47 ∷ [] = segment_cut (b ∷ p) rest none in
    let longest : 47 ∷ [] ≡ longest_suffix (segment (b ∷ p ++ 47 ∷ rest)) (rows_of (kid tails ∷ [])) = sym (longest_is tails (segment (b ∷ p ++ 47 ∷ rest)) some ∙ ap (λ (s : List ℕ). better s [] (47 ∷ [])) seg ∙ better_slash b p) in
    param_first (prepend (47 ∷ []) tails ++ ends (Some k)) b (p ++ 47 ∷ rest) n ∙ ap (λ (r : Rows). after_param r (b ∷ p ++ 47 ∷ rest)) (sym (kid_rows tails k))
    ∙ after_param-kid (kid tails ∷ []) 0 (kid tails) (Some k) b (p ++ 47 ∷ rest) (are_suffixes tails some) (omega arith) longest ∙ ap (first (prepend (47 ∷ []) tails)) (behind_first (b ∷ p) rest none)

-- ---- the six routes

-- by their numbers: posts, an account, its statement, its cycle, its entries, and the tasks
abbrev pub rows_below : Rows
rows_below =
    prepend (codes "cycles/") (prepend (256 ∷ []) (ends (Some 3)))
    ++ (prepend (codes "entries") (ends (Some 4)) ++ prepend (codes "statements/") (prepend (256 ∷ []) (ends (Some 2))))

abbrev pub rows_behind : Rows
rows_behind =
    prepend (codes "accounts/") (behind_part rows_below 1)
    ++ (prepend (codes "posts") (ends (Some 0)) ++ prepend (codes "work") (ends (Some 5)))

abbrev pub six : Rows
six = prepend (47 ∷ []) rows_behind

pub root_first : (p : List ℕ) → first six (47 ∷ p) ≡ or_else (first (prepend (codes "accounts/") (behind_part rows_below 1)) p) (or_else (first (prepend (codes "posts") (ends (Some 0))) p) (first (prepend (codes "work") (ends (Some 5))) p))
root_first p =
    let accounts : first rows_behind p ≡ or_else (first (prepend (codes "accounts/") (behind_part rows_below 1)) p) (first (prepend (codes "posts") (ends (Some 0)) ++ prepend (codes "work") (ends (Some 5))) p) =
    first_split 97 (codes "ccounts/") (behind_part rows_below 1) (prepend (codes "posts") (ends (Some 0)) ++ prepend (codes "work") (ends (Some 5))) p (omega arith) refl refl refl in
    let posts : first (prepend (codes "posts") (ends (Some 0)) ++ prepend (codes "work") (ends (Some 5))) p ≡ or_else (first (prepend (codes "posts") (ends (Some 0))) p) (first (prepend (codes "work") (ends (Some 5))) p) =
    first_split 112 (codes "osts") (ends (Some 0)) (prepend (codes "work") (ends (Some 5))) p (omega arith) refl refl refl in
    first-prefix (47 ∷ []) rows_behind (47 ∷ p) (omega arith, tt) ∙ accounts ∙ ap (or_else (first (prepend (codes "accounts/") (behind_part rows_below 1)) p)) posts

pub account_first : (p : List ℕ) → first rows_below p ≡ or_else (first (prepend (codes "cycles/") (prepend (256 ∷ []) (ends (Some 3)))) p) (or_else (first (prepend (codes "entries") (ends (Some 4))) p) (first (prepend (codes "statements/") (prepend (256 ∷ []) (ends (Some 2)))) p))
account_first p =
    let cycles : first rows_below p ≡ or_else (first (prepend (codes "cycles/") (prepend (256 ∷ []) (ends (Some 3)))) p) (first (prepend (codes "entries") (ends (Some 4)) ++ prepend (codes "statements/") (prepend (256 ∷ []) (ends (Some 2)))) p) =
    first_split 99 (codes "ycles/") (prepend (256 ∷ []) (ends (Some 3))) (prepend (codes "entries") (ends (Some 4)) ++ prepend (codes "statements/") (prepend (256 ∷ []) (ends (Some 2)))) p (omega arith) refl refl refl in
    let entries : first (prepend (codes "entries") (ends (Some 4)) ++ prepend (codes "statements/") (prepend (256 ∷ []) (ends (Some 2)))) p ≡ or_else (first (prepend (codes "entries") (ends (Some 4))) p) (first (prepend (codes "statements/") (prepend (256 ∷ []) (ends (Some 2)))) p) =
    first_split 101 (codes "ntries") (ends (Some 4)) (prepend (codes "statements/") (prepend (256 ∷ []) (ends (Some 2)))) p (omega arith) refl refl refl in
    cycles ∙ ap (or_else (first (prepend (codes "cycles/") (prepend (256 ∷ []) (ends (Some 3)))) p)) entries
