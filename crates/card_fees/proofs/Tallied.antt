-- What is counted of payments and credits goes on from one post to a later one.
use Rattle.std.proofs.Common.{◌≡◌, ℕ, ◌+◌, ◌*◌, ◌<◌, ◌≤◌, inl, inr, Bool, true, false, cond, not, ◌&&◌, nat_le, List, [], ◌∷◌, drop, get_or, length, map, take, refl, sym, ap, ◌∙◌, subst, arith}
use Rattle.std.specs.Prelude.{unsigned_abs}
use Rattle.std.specs.List.{All, sum_by}
use Rattle.std.proofs.lemmas.Bool.Decides.{nat_tests}
use Rattle.std.proofs.lemmas.List.{get_or_read_under}
use Rattle.std.proofs.lemmas.List.Elements.{All-cons, All-head, All-nil, All-tail, All-weaker}
use Rattle.std.proofs.lemmas.List.Sums.{sum_by-cons}
use Rattle.card_events.specs.declared.anchor.Anchor.{Anchor}
use Rattle.card_events.specs.History.{CorrectedPost, at_number, corrected, slot_of}
use Rattle.card_events.specs.declared.kept.Kept.{Kept}
use Rattle.card_events.specs.declared.kept.Slot.{Slot}
use Rattle.card_events.specs.declared.post.Post.{Post}
use Rattle.card_model.specs.Payments.{folded_before, is_before, counted, credited, is_between, is_credit, is_payment, is_returned, returns}
use Rattle.card_posts.specs.Order.{IsAscending}
use Rattle.card_posts.specs.Posted.{folding_order}
use Rattle.card_fees.specs.Counting.{counts, credits, is_credit_at, is_payment_at, is_returned_until, reaches, since}
use Rattle.card_fees.specs.Tallied.{IsBy, Leads, credited_before, credited_since, is_return, is_return_at, not_before, paid_before, paid_since, return_read}
use Rattle.card_fees.specs.declared.returning.Until.{Until}
use Rattle.card_fees.specs.declared.returning.Until.TheVariants as until
use Rattle.card_fees.proofs.Before.{front-by, slots-before}
use Rattle.card_fees.proofs.Payments.{Stands, all-stand, return-shape}
use Rattle.card_fees.proofs.Returned.{returned-corrected}
use Rattle.card_fees.proofs.SlotSums.{front-sum, read-parted}
use Rattle.card_fees.proofs.Slots.{any-filter, any-same, drop-passes, parted-in_front, sum-filter, sum-in_order, sum-map, sum-same}

-- ---- sums
sum-add : {X : Type 0} (f g h : X → ℕ) (xs : List X) → ((x : X) → f x + g x ≡ h x) → sum_by f xs + sum_by g xs ≡ sum_by h xs
sum-add f g h [] e = refl
sum-add f g h (x ∷ xs) e =
    let one = sum_by-cons f x xs in
    let two = sum_by-cons g x xs in
    let three = sum_by-cons h x xs in
    let first = e x in
    let rest = sum-add f g h xs e in
    omega (arith, one, two, three, first, rest)

sum-none : {X : Type 0} (f : X → ℕ) (xs : List X) → ((x : X) → f x ≡ 0) → sum_by f xs ≡ 0
sum-none f [] e = refl
sum-none f (x ∷ xs) e = let one = sum_by-cons f x xs in let first = e x in let rest = sum-none f xs e in omega (arith, one, first, rest)

none-each : {X : Type 0} (f : X → ℕ) (xs : List X) → sum_by f xs ≡ 0 → All (λ x. f x ≡ 0) xs
none-each f [] e = All-nil (λ x. f x ≡ 0)
none-each f (x ∷ xs) e =
    let one = sum_by-cons f x xs in
    All-cons (λ x. f x ≡ 0) x xs (omega (arith, one, e)) (none-each f xs (omega (arith, one, e)))

pub each-two : {X : Type 0} (P Q R : X → Type 0) (xs : List X) → ((x : X) → P x → Q x → R x) → All P xs → All Q xs → All R xs
each-two P Q R [] f p q = All-nil R
each-two P Q R (x ∷ xs) f p q =
    All-cons R x xs (f x (All-head P x xs p) (All-head Q x xs q)) (each-two P Q R xs f (All-tail P x xs p) (All-tail Q x xs q))

-- ---- one post in front of another, or the same
goes-on : (day number later last d n : ℕ) → Leads day number later last → is_before day number d n ≡ true → is_before later last d n ≡ true
goes-on day number later last d n (inl l) e = grind (arith, nat_tests)
goes-on day number later last d n (inr (l, m)) e = grind (arith, nat_tests)

-- a day from which nothing is counted yet
pub begins-by : (day last : ℕ) → day ≤ last + 1 → IsBy last day 0
begins-by day last l = by (nat_le day last) refl
  where
    by : (b : Bool) → nat_le day last ≡ b → IsBy last day 0
    by true e = let low : day ≤ last = grind (arith, nat_tests) in inl low
    by false e = let high : last < day = grind (arith, nat_tests) in let next : day ≡ last + 1 = omega (arith, high, l) in inr (next, refl)

-- ---- what is returned, where no Return comes between
returning : (n : ℕ) (p : Post) → returns n p ≡ true → is_return p ≡ true
returning n p e = let shape = return-shape n p e in ap is_return shape.is

abbrev comes : Bool → Bool → Bool → ℕ
comes B C A = cond (not B) (cond C (cond A 1 0) 0) 0

between : (R B C A : Bool) → (B ≡ true → C ≡ true) → (R ≡ true → A ≡ true) → comes B C A ≡ 0 → (R && B) ≡ (R && C)
between false B C A g h e = refl
between true true C A g h e = sym (g refl)
between true false false A g h e = refl
between true false true true g h e = absurd (omega (arith, e))
between true false true false g h e = let no : false ≡ true = h refl in absurd (cc)

no-return : (a : Anchor) (holidays : List ℕ) (history : List Kept) (day number later last n : ℕ) → Leads day number later last
    → sum_by (return_read (until.Post later last) history) (not_before day number (folding_order (corrected a holidays history))) ≡ 0
    → is_returned_until (until.Post day number) history (corrected a holidays history) n ≡ is_returned_until (until.Post later last) history (corrected a holidays history) n
no-return a holidays history day number later last n l e =
    returned-corrected (until.Post day number) a holidays history n
    ∙ any-same (λ q. returns n q.post && is_before day number q.day q.number) (λ q. returns n q.post && is_before later last q.day q.number) xs
    (each-two (Stands a holidays history) (λ p. read (slot_of p) ≡ 0) (λ q. (returns n q.post && is_before day number q.day q.number) ≡ (returns n q.post && is_before later last q.day q.number)) xs one (all-stand a holidays history) none)
    ∙ sym (returned-corrected (until.Post later last) a holidays history n)
  where
    xs : List CorrectedPost
    xs = corrected a holidays history

    read : Slot → ℕ
    read s = cond (not (is_before day number s.day s.number)) (return_read (until.Post later last) history s) 0

    none : All (λ p. read (slot_of p) ≡ 0) xs
    none =
        none-each (λ p. read (slot_of p)) xs
        (sym (sum-map read slot_of xs) ∙ sym (sum-in_order read (map slot_of xs)) ∙ sym (sum-filter (return_read (until.Post later last) history) (λ s. not (is_before day number s.day s.number)) (folding_order xs)) ∙ e)

    one : (q : CorrectedPost) → Stands a holidays history q → read (slot_of q) ≡ 0 → (returns n q.post && is_before day number q.day q.number) ≡ (returns n q.post && is_before later last q.day q.number)
    one q s z =
        let is : is_return_at (at_number q.number history) ≡ is_return q.post = ap is_return_at s.found ∙ ap is_return (sym s.same) in
        between (returns n q.post) (is_before day number q.day q.number) (is_before later last q.day q.number) (is_return_at (at_number q.number history)) (goes-on day number later last q.day q.number l)
        (λ r. is ∙ returning n q.post r) z

-- ---- payments
pub paid-whole : (a : Anchor) (holidays : List ℕ) (history : List Kept) (from day number : ℕ)
    → sum_by (paid_since (until.Post day number) history (corrected a holidays history) from) (folding_order (corrected a holidays history)) ≡ paid_before (corrected a holidays history) from day number
paid-whole a holidays history from day number =
    sym (sum-filter (λ s. cond (is_before day number s.day s.number) (counts (until.Post day number) history xs s) 0) (λ s. nat_le from s.day) (folding_order xs))
    ∙ sym (sum-filter (counts (until.Post day number) history xs) (λ s. is_before day number s.day s.number) (since from (folding_order xs)))
    ∙ slots-before a holidays history from day number
  where
    xs : List CorrectedPost
    xs = corrected a holidays history

more : (L B C : Bool) (c d : ℕ) → (B ≡ true → C ≡ true) → c ≡ d → cond L (cond B c 0) 0 + cond (not B) (cond L (cond C d 0) 0) 0 ≡ cond L (cond C d 0) 0
more true true true c d g e = omega (arith, e)
more true true false c d g e = let no : false ≡ true = g refl in absurd (cc)
more true false C c d g e = omega arith
more false true C c d g e = refl
more false false C c d g e = refl

pub paid-on : (a : Anchor) (holidays : List ℕ) (history : List Kept) (from day number later last : ℕ) → Leads day number later last
    → sum_by (return_read (until.Post later last) history) (not_before day number (folding_order (corrected a holidays history))) ≡ 0
    → paid_before (corrected a holidays history) from day number + sum_by (paid_since (until.Post later last) history (corrected a holidays history) from) (not_before day number (folding_order (corrected a holidays history)))
    ≡ paid_before (corrected a holidays history) from later last
paid-on a holidays history from day number later last l e =
    ap (λ n. n + sum_by f (not_before day number (folding_order xs))) (sym (paid-whole a holidays history from day number))
    ∙ ap (λ n. sum_by (paid_since (until.Post day number) history xs from) (folding_order xs) + n) (sum-filter f (λ s. not (is_before day number s.day s.number)) (folding_order xs))
    ∙ sum-add (paid_since (until.Post day number) history xs from) (λ s. cond (not (is_before day number s.day s.number)) (f s) 0) f (folding_order xs) one
    ∙ paid-whole a holidays history from later last
  where
    xs : List CorrectedPost
    xs = corrected a holidays history

    f : Slot → ℕ
    f s = paid_since (until.Post later last) history xs from s

    one : (s : Slot) → paid_since (until.Post day number) history xs from s + cond (not (is_before day number s.day s.number)) (f s) 0 ≡ f s
    one s =
        more (nat_le from s.day) (is_before day number s.day s.number) (is_before later last s.day s.number) (counts (until.Post day number) history xs s) (counts (until.Post later last) history xs s)
        (goes-on day number later last s.day s.number l)
        (ap (λ r. cond (is_payment_at (at_number s.number history) && not r) (unsigned_abs s.cents) 0) (no-return a holidays history day number later last s.number l e))

-- ---- credits
five : (A B F D : Bool) (c : ℕ) → (F ≡ true → D ≡ true) → cond B (cond F (cond A c 0) 0) 0 ≡ cond F (cond (A && (B && D)) c 0) 0
five true true true true c g = refl
five true true true false c g = let no : false ≡ true = g refl in absurd (cc)
five true true false D c g = refl
five true false true D c g = refl
five true false false D c g = refl
five false true true D c g = refl
five false true false D c g = refl
five false false true D c g = refl
five false false false D c g = refl

pub credited-whole : (a : Anchor) (holidays : List ℕ) (history : List Kept) (from day number : ℕ)
    → sum_by (credited_since (until.Post day number) history from) (folding_order (corrected a holidays history)) ≡ credited_before (corrected a holidays history) from day number
unfolding credited
credited-whole a holidays history from day number =
    sum-in_order (credited_since (until.Post day number) history from) (map slot_of xs)
    ∙ sum-map (credited_since (until.Post day number) history from) slot_of xs
    ∙ sum-same (λ p. credited_since (until.Post day number) history from (slot_of p)) (λ p. cond (is_before day number p.day p.number) (worth p) 0) xs
    (All-weaker (Stands a holidays history) (λ p. credited_since (until.Post day number) history from (slot_of p) ≡ cond (is_before day number p.day p.number) (worth p) 0) one xs (all-stand a holidays history))
    ∙ sym (sum-filter worth (λ p. is_before day number p.day p.number) xs)
  where
    xs : List CorrectedPost
    xs = corrected a holidays history

    worth : CorrectedPost → ℕ
    worth p = cond (is_credit p.post && is_between from day p) p.cents 0

    one : (p : CorrectedPost) → Stands a holidays history p → credited_since (until.Post day number) history from (slot_of p) ≡ cond (is_before day number p.day p.number) (worth p) 0
    one p s =
        let is : is_credit_at (at_number p.number history) ≡ is_credit p.post = ap is_credit_at s.found ∙ ap is_credit (sym s.same) in
        ap (λ b. cond (nat_le from p.day) (cond (is_before day number p.day p.number) (cond b p.cents 0) 0) 0) is
        ∙ five (is_credit p.post) (nat_le from p.day) (is_before day number p.day p.number) (nat_le p.day day) p.cents (front-by day number p.day p.number)

pub credited-on : (a : Anchor) (holidays : List ℕ) (history : List Kept) (from day number later last : ℕ) → Leads day number later last
    → credited_before (corrected a holidays history) from day number + sum_by (credited_since (until.Post later last) history from) (not_before day number (folding_order (corrected a holidays history)))
    ≡ credited_before (corrected a holidays history) from later last
credited-on a holidays history from day number later last l =
    ap (λ n. n + sum_by f (not_before day number (folding_order xs))) (sym (credited-whole a holidays history from day number))
    ∙ ap (λ n. sum_by (credited_since (until.Post day number) history from) (folding_order xs) + n) (sum-filter f (λ s. not (is_before day number s.day s.number)) (folding_order xs))
    ∙ sum-add (credited_since (until.Post day number) history from) (λ s. cond (not (is_before day number s.day s.number)) (f s) 0) f (folding_order xs) one
    ∙ credited-whole a holidays history from later last
  where
    xs : List CorrectedPost
    xs = corrected a holidays history

    f : Slot → ℕ
    f s = credited_since (until.Post later last) history from s

    one : (s : Slot) → credited_since (until.Post day number) history from s + cond (not (is_before day number s.day s.number)) (f s) 0 ≡ f s
    one s = more (nat_le from s.day) (is_before day number s.day s.number) (is_before later last s.day s.number) (credits history s) (credits history s) (goes-on day number later last s.day s.number l) refl

-- ---- where nothing is counted yet
early : (from day number d n : ℕ) → day ≤ from → is_before day 0 d n ≡ true → nat_le from d ≡ false
early from day number d n l e = grind (arith, nat_tests)

nothing : (F A L D S : Bool) (c : ℕ) → (F ≡ true → L ≡ false) → cond F (cond (A && (L && D) && not S) c 0) 0 ≡ 0
nothing false A L D S c g = refl
nothing true true true D S c g = let no : true ≡ false = g refl in absurd (cc)
nothing true true false D S c g = refl
nothing true false L D S c g = refl

pub none-paid : (posts : List CorrectedPost) (from day : ℕ) → day ≤ from → paid_before posts from day 0 ≡ 0
unfolding counted
none-paid posts from day l =
    sum-filter worth (λ p. is_before day 0 p.day p.number) posts
    ∙ sum-none (λ p. cond (is_before day 0 p.day p.number) (worth p) 0) posts
    (λ p. nothing (is_before day 0 p.day p.number) (is_payment p.post) (nat_le from p.day) (nat_le p.day day) (is_returned (folded_before day 0 posts) day p.number) p.cents (early from day 0 p.day p.number l))
  where
    worth : CorrectedPost → ℕ
    worth p = cond (is_payment p.post && is_between from day p && not (is_returned (folded_before day 0 posts) day p.number)) p.cents 0

nothing-credited : (F A L D : Bool) (c : ℕ) → (F ≡ true → L ≡ false) → cond F (cond (A && (L && D)) c 0) 0 ≡ 0
nothing-credited false A L D c g = refl
nothing-credited true true true D c g = let no : true ≡ false = g refl in absurd (cc)
nothing-credited true true false D c g = refl
nothing-credited true false L D c g = refl

pub none-credited : (posts : List CorrectedPost) (from day : ℕ) → day ≤ from → credited_before posts from day 0 ≡ 0
unfolding credited
none-credited posts from day l =
    sum-filter worth (λ p. is_before day 0 p.day p.number) posts
    ∙ sum-none (λ p. cond (is_before day 0 p.day p.number) (worth p) 0) posts
    (λ p. nothing-credited (is_before day 0 p.day p.number) (is_credit p.post) (nat_le from p.day) (nat_le p.day day) p.cents (early from day 0 p.day p.number l))
  where
    worth : CorrectedPost → ℕ
    worth p = cond (is_credit p.post && is_between from day p) p.cents 0

-- ---- whole days
pub by-next : (to d n : ℕ) → is_before (to + 1) 0 d n ≡ nat_le d to
by-next to d n = grind (arith, nat_tests)

within : (F D : Bool) → (F ≡ true → D ≡ true) → (F && D) ≡ F
within true true g = refl
within true false g = let no : false ≡ true = g refl in absurd (cc)
within false D g = refl

pub returned-days : (posts : List CorrectedPost) (to n : ℕ) → is_returned (folded_before (to + 1) 0 posts) (to + 1) n ≡ is_returned posts to n
returned-days posts to n =
    any-filter (λ p. returns n p.post && nat_le p.day (to + 1)) (λ p. is_before (to + 1) 0 p.day p.number) posts
    ∙ any-same (λ p. is_before (to + 1) 0 p.day p.number && (returns n p.post && nat_le p.day (to + 1))) (λ p. returns n p.post && nat_le p.day to) posts (all posts)
  where
    one : (p : CorrectedPost) → (is_before (to + 1) 0 p.day p.number && (returns n p.post && nat_le p.day (to + 1))) ≡ (returns n p.post && nat_le p.day to)
    one p = ap (λ b. b && (returns n p.post && nat_le p.day (to + 1))) (by-next to p.day p.number) ∙ at (nat_le p.day to) (returns n p.post) (nat_le p.day (to + 1)) (λ e. grind (arith, nat_tests, e))
      where
        at : (D R E : Bool) → (D ≡ true → E ≡ true) → (D && (R && E)) ≡ (R && D)
        at true true true g = refl
        at true true false g = let no : false ≡ true = g refl in absurd (cc)
        at true false E g = refl
        at false true E g = refl
        at false false E g = refl

    all : (ps : List CorrectedPost) → All (λ p. (is_before (to + 1) 0 p.day p.number && (returns n p.post && nat_le p.day (to + 1))) ≡ (returns n p.post && nat_le p.day to)) ps
    all [] = All-nil (λ p. (is_before (to + 1) 0 p.day p.number && (returns n p.post && nat_le p.day (to + 1))) ≡ (returns n p.post && nat_le p.day to))
    all (p ∷ ps) = All-cons (λ p. (is_before (to + 1) 0 p.day p.number && (returns n p.post && nat_le p.day (to + 1))) ≡ (returns n p.post && nat_le p.day to)) p ps (one p) (all ps)

-- ---- the bound of what is counted
pub sum-most : (f : Slot → ℕ) (xs : List Slot) → ((s : Slot) → f s ≤ unsigned_abs s.cents) → All (λ (s : Slot). unsigned_abs s.cents ≤ 999_999_999_999) xs → sum_by f xs ≤ length xs * 999_999_999_999
sum-most f [] h b = omega arith
sum-most f (x ∷ xs) h b =
    let one = sum_by-cons f x xs in
    let this = h x in
    let most = All-head (λ (s : Slot). unsigned_abs s.cents ≤ 999_999_999_999) x xs b in
    let rest = sum-most f xs h (All-tail (λ (s : Slot). unsigned_abs s.cents ≤ 999_999_999_999) x xs b) in
    omega (arith, one, this, most, rest)

-- ---- slots that aren't read
-- behind the first slot that isn't read none brings anything
pub read-rest : (f : Slot → ℕ) (u : Until) (slots : List Slot) (i : ℕ) (s : Slot) → ((x : Slot) → reaches u x.day x.number ≡ false → f x ≡ 0)
    → IsAscending slots → s ≡ get_or slots i s → reaches u s.day s.number ≡ false → sum_by f (take i slots) ≡ sum_by f slots
read-rest f u slots i s zero order at is = front-sum f slots i none
  where
    one : (x : Slot) (b : Bool) → reaches u x.day x.number ≡ b → (reaches u x.day x.number ≡ true → false ≡ true) → f x ≡ 0
    one x true e other = let never : false ≡ true = other e in absurd (cc)
    one x false e other = zero x e

    none : (k : ℕ) (d : Slot) → i ≤ k → k < length slots → f (get_or slots k d) ≡ 0
    none k d low less =
        one (get_or slots k d) (reaches u (get_or slots k d).day (get_or slots k d).number) refl
        (λ e.
        let same : s ≡ get_or slots i d = get_or_read_under slots i (length slots) s d at (omega (arith, low, less)) refl in
        sym is ∙ (ap (λ (x : Slot). reaches u x.day x.number) same ∙ read-parted u slots order i k d low less e))

-- ---- a place
-- from a place on, where the slot in front of it is read and the one at it isn't, stand those that aren't in front of a post
pub cut-drop : (day number : ℕ) (slots : List Slot) (place : ℕ) → IsAscending slots
    → ((k : ℕ) (d : Slot) → k < place → k < length slots → is_before day number (get_or slots k d).day (get_or slots k d).number ≡ true)
    → ((k : ℕ) (d : Slot) → place ≤ k → k < length slots → is_before day number (get_or slots k d).day (get_or slots k d).number ≡ false)
    → drop place slots ≡ not_before day number slots
cut-drop day number slots place order front back = drop-passes (λ (s : Slot). is_before day number s.day s.number) (λ (s : Slot). not (is_before day number s.day s.number)) slots place (λ s. refl) front back

unread : (L R : Bool) (c : ℕ) → R ≡ false → cond L (cond R c 0) 0 ≡ 0
unread true false c e = refl
unread false false c e = refl
unread true true c e = absurd (cc)
unread false true c e = absurd (cc)

pub paid-unread : (u : Until) (history : List Kept) (posts : List CorrectedPost) (from : ℕ) (x : Slot) → reaches u x.day x.number ≡ false → paid_since u history posts from x ≡ 0
paid-unread u history posts from x e = unread (nat_le from x.day) (reaches u x.day x.number) (counts u history posts x) e

pub credited-unread : (u : Until) (history : List Kept) (from : ℕ) (x : Slot) → reaches u x.day x.number ≡ false → credited_since u history from x ≡ 0
credited-unread u history from x e = unread (nat_le from x.day) (reaches u x.day x.number) (credits history x) e

pub return-unread : (u : Until) (history : List Kept) (x : Slot) → reaches u x.day x.number ≡ false → return_read u history x ≡ 0
return-unread u history x e = ap (λ b. cond b (cond (is_return_at (at_number x.number history)) 1 0) 0) e

-- the slots in front of one that is read are read
pub front-at : (u : Until) (day number : ℕ) (slots : List Slot) (i : ℕ) (s : Slot) → IsAscending slots → u ≡ until.Post day number → i < length slots → s ≡ get_or slots i s
    → reaches u s.day s.number ≡ true → (k : ℕ) (d : Slot) → k ≤ i → is_before day number (get_or slots k d).day (get_or slots k d).number ≡ true
front-at u day number slots i s order e less at is k d low =
    let same : s ≡ get_or slots i d = get_or_read_under slots i (length slots) s d at less refl in
    let here : is_before day number s.day s.number ≡ true = subst (λ v. reaches v s.day s.number ≡ true) e is in
    parted-in_front day number slots order k i d low less (sym (ap (λ (x : Slot). is_before day number x.day x.number) same) ∙ here)

-- and those behind one that isn't read aren't
pub back-at : (u : Until) (day number : ℕ) (slots : List Slot) (i : ℕ) (s : Slot) → IsAscending slots → u ≡ until.Post day number → s ≡ get_or slots i s
    → reaches u s.day s.number ≡ false → (k : ℕ) (d : Slot) → i ≤ k → k < length slots → is_before day number (get_or slots k d).day (get_or slots k d).number ≡ false
back-at u day number slots i s order e at is k d low less = by (is_before day number (get_or slots k d).day (get_or slots k d).number) refl
  where
    here : is_before day number s.day s.number ≡ false
    here = subst (λ v. reaches v s.day s.number ≡ false) e is

    by : (b : Bool) → is_before day number (get_or slots k d).day (get_or slots k d).number ≡ b → b ≡ false
    by false f = refl
    by true f =
        let same : s ≡ get_or slots i d = get_or_read_under slots i (length slots) s d at (omega (arith, low, less)) refl in
        let read = parted-in_front day number slots order i k d low less f in
        sym (sym here ∙ (ap (λ (x : Slot). is_before day number x.day x.number) same ∙ read))

pub not-true : (b : Bool) → not b ≡ true → b ≡ false
not-true false e = refl
not-true true e = absurd (cc)
