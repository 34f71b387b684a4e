-- The last day for a dispute is that of the first statement that shows the charge.
use Rattle.std.proofs.Common.{◌≡◌, ℕ, zero, suc, ◌+◌, ◌≤◌, ◌<◌, ◌⊎◌, inl, inr, Bool, true, false, cond, ◌&&◌, List, [], ◌∷◌, ◌++◌, length, map, eqb, leb, ltb, refl, sym, ap, ap₂, ◌∙◌, arith, Option, Some, None}
use Rattle.std.specs.Prelude.{is_some}
use Rattle.std.proofs.lemmas.Bool.{cases_lt, eq-eqb, ne_eqb}
use Rattle.std.proofs.lemmas.Bool.Decides.{nat_tests}
use Rattle.std.proofs.lemmas.List.Elements.{All-weaker}
use Rattle.std.specs.List.{Contains, cons_option, find}
use Rattle.std.specs.Option.{option_map}
use Rattle.card_events.specs.Billing.{IsCloseDay, closing, cycle_of}
use Rattle.card_events.specs.History.{CorrectedPost, anchor_of, corrected, corrected_from, corrected_post, is_open, next_segment}
use Rattle.card_events.specs.Range.{last_calendar_day}
use Rattle.card_events.specs.SharedRows.{SharedRows}
use Rattle.card_events.specs.declared.anchor.Anchor.{Anchor}
use Rattle.card_events.specs.declared.kept.Kept.{Kept}
use Rattle.card_events.specs.declared.post.Post.{Post}
use Rattle.card_events.specs.declared.post.Post.TheVariants as post
use Rattle.card_model.specs.CycleDays.{IsOpening}
use Rattle.card_model.specs.Cycles.{Cycle, IssuedRow, Sheet}
use Rattle.card_model.specs.Deadlines.{bills_from, last_notice_day, notice_end, notice_end_of, reflects}
use Rattle.card_model.specs.Effects.{charge_at, is_charge}
use Rattle.card_model.specs.Folds.{cycle_at, row_of_cycle}
use Rattle.card_model.specs.Machine.{NamedAccount, accepted, issues, kept_as, next_number, run}
use Rattle.card_model.specs.Refusals.{Lists, Present, anchor_now, book_today, reason_against, reason_to_open}
use Rattle.card_model.specs.Sheets.{issued_sheet_of}
use Rattle.card_rules.proofs.Bills.{HasIssued, NoReason, accepts-bills, bill-closed, no-reason, opens-bills}
use Rattle.card_rules.proofs.CycleDays.{by-closing, past-closing}
use Rattle.card_rules.proofs.EveryRun.{of_every_run}
use Rattle.card_rules.specs.DisputeDays.{DisputesEndInSixtyDays, HasItsDisputeDays, shows}

-- ---- the Bills among posts, and the rows that they issue
-- the number of a Bill, its cycle and the day on which it was accepted
record Issue : Type 0 where
  bill : ℕ
  cycle : ℕ
  day : ℕ

abbrev issue_by : ℕ → ℕ → Post → Option Issue
issue_by n accepted (post.Bill cycle) = Some (record { bill = n; cycle = cycle; day = accepted })
issue_by n accepted _ = None

abbrev issues_from : ℕ → List Kept → List Issue
issues_from n [] = []
issues_from n (k ∷ ks) = cons_option (issue_by n k.accepted k.post) (issues_from (suc n) ks)

abbrev issue_of : IssuedRow → Issue
issue_of r = record { bill = r.bill; cycle = r.cycle; day = r.day }

option-append : (o : Option Issue) (xs ys : List Issue) → cons_option o xs ++ ys ≡ cons_option o (xs ++ ys)
option-append None xs ys = refl
option-append (Some x) xs ys = refl

issues-append : (n : ℕ) (ks : List Kept) (k : Kept) → issues_from n (ks ++ k ∷ []) ≡ issues_from n ks ++ cons_option (issue_by (n + length ks) k.accepted k.post) []
issues-append n [] k = let same : n ≡ n + 0 = omega arith in ap (λ m. cons_option (issue_by m k.accepted k.post) []) same
issues-append n (x ∷ ks) k =
    let rest = issues-append (suc n) ks k in
    let same : suc n + length ks ≡ n + suc (length ks) = omega arith in
    ap (cons_option (issue_by n x.accepted x.post)) (rest ∙ ap (λ m. issues_from (suc n) ks ++ cons_option (issue_by m k.accepted k.post) []) same)
    ∙ sym (option-append (issue_by n x.accepted x.post) (issues_from (suc n) ks) (cons_option (issue_by (n + suc (length ks)) k.accepted k.post) []))

map-append : (xs ys : List IssuedRow) → map issue_of (xs ++ ys) ≡ map issue_of xs ++ map issue_of ys
map-append [] ys = refl
map-append (x ∷ xs) ys = ap (λ (zs : List Issue). issue_of x ∷ zs) (map-append xs ys)

row-issue : (c bill today : ℕ) (sheet : Cycle → Sheet) (o : Option Cycle) → is_some o ≡ true → map issue_of (row_of_cycle c bill today sheet o) ≡ record { bill = bill; cycle = c; day = today } ∷ []
row-issue c bill today sheet (Some x) e = refl
row-issue c bill today sheet None e = absurd (cc)

post-issue : (now : Present) (p : Post) → IsCloseDay (anchor_now now).close_day → NoReason now p → map issue_of (issues now p) ≡ cons_option (issue_by (next_number now) now.today p) []
post-issue now (post.Bill c) on h = row-issue c (next_number now) now.today (issued_sheet_of now) (cycle_at c (book_today now).cycles) (bill-closed now c on h)
post-issue now (post.Open d t) on h = refl
post-issue now (post.OpenVariable d t) on h = refl
post-issue now (post.Charge d a z) on h = refl
post-issue now (post.Credit d a z) on h = refl
post-issue now (post.Payment d m y z) on h = refl
post-issue now (post.Return d t) on h = refl
post-issue now (post.Plan d k r f a) on h = refl
post-issue now (post.Notice d c r f) on h = refl
post-issue now (post.Lower d y r) on h = refl
post-issue now post.Penalty on h = refl
post-issue now (post.Review d f) on h = refl
post-issue now (post.Dispute d t z) on h = refl
post-issue now (post.Ack d t) on h = refl
post-issue now (post.Resolve d t z) on h = refl
post-issue now (post.AskRefund d) on h = refl
post-issue now (post.Refund z) on h = refl
post-issue now (post.Amend t d z) on h = refl

-- ---- every run
record TellsItsBills (l : Lists) : Type 0 where
  has : HasIssued l
  rows : map issue_of l.issued ≡ issues_from 1 l.posts

rows-after : (now : Present) (key : List ℕ) (p : Post) → reason_against now p ≡ None → TellsItsBills now.lists → map issue_of (accepted now key p).issued ≡ issues_from 1 (accepted now key p).posts
unfolding accepted
rows-after now key p e h =
    let none = no-reason now p e in
    let next : next_number now ≡ 1 + length now.lists.posts = omega arith in
    map-append now.lists.issued (issues now p)
    ∙ (ap₂ (λ (xs ys : List Issue). xs ++ ys) h.rows (post-issue now p h.has.close_day none ∙ ap (λ n. cons_option (issue_by n now.today p) []) next)
    ∙ sym (issues-append 1 now.lists.posts (kept_as (next_number now) key now.today p)))

accepts : (now : Present) (key : List ℕ) (p : Post) → is_open p ≡ false → reason_against now p ≡ None → TellsItsBills now.lists → TellsItsBills (accepted now key p)
accepts now key p o e h = record { has = accepts-bills now key p o e h.has; rows = rows-after now key p e h }

opens-none : (key : List ℕ) (today : ℕ) (p : Post) → is_open p ≡ true → issues_from 1 (kept_as 1 key today p ∷ []) ≡ []
opens-none key today (post.Open d t) o = refl
opens-none key today (post.OpenVariable d t) o = refl
opens-none key today (post.Charge d a z) o = refl
opens-none key today (post.Credit d a z) o = refl
opens-none key today (post.Payment d m y z) o = refl
opens-none key today (post.Return d t) o = refl
opens-none key today (post.Plan d k r f a) o = refl
opens-none key today (post.Notice d c r f) o = refl
opens-none key today (post.Lower d y r) o = refl
opens-none key today post.Penalty o = refl
opens-none key today (post.Review d f) o = refl
opens-none key today (post.Dispute d t z) o = refl
opens-none key today (post.Ack d t) o = refl
opens-none key today (post.Resolve d t z) o = refl
opens-none key today (post.AskRefund d) o = refl
opens-none key today (post.Refund z) o = refl
opens-none key today (post.Amend t d z) o = refl
opens-none key today (post.Bill z) o = absurd (cc)

opens : (key : List ℕ) (today accounts : ℕ) (shared : SharedRows) (p : Post) → is_open p ≡ true → reason_to_open today accounts shared p ≡ None → TellsItsBills (record { posts = kept_as 1 key today p ∷ []; issued = [] })
opens key today accounts shared p o e = record { has = opens-bills key today accounts shared p o e; rows = sym (opens-none key today p o) }

-- ---- the first of them that shows a charge
abbrev is_after : ℕ → ℕ → Issue → Bool
is_after n cycle i = ltb n i.bill && leb cycle i.cycle

abbrev sixty : Option Issue → Option ℕ
sixty o = option_map (λ (i : Issue). i.day + 60) o

none-and : (b : Bool) → (b && false) ≡ false
none-and true = refl
none-and false = refl

first-bill : (n cycle w : ℕ) (accepted : ℕ) (p : Post) (q : CorrectedPost) (rest : Option CorrectedPost) (later : List Issue) → q.number ≡ w → q.accepted ≡ accepted → q.post ≡ p
    → option_map notice_end rest ≡ sixty (find (is_after n cycle) later)
    → option_map notice_end (cond (ltb n q.number && bills_from cycle q.post) (Some q) rest) ≡ sixty (find (is_after n cycle) (cons_option (issue_by w accepted p) later))
first-bill n cycle w accepted (post.Bill c) q rest later e1 e2 e3 e4 = by (ltb n w && leb cycle c) refl
  where
    by : (t : Bool) → (ltb n w && leb cycle c) ≡ t → option_map notice_end (cond (ltb n q.number && bills_from cycle q.post) (Some q) rest) ≡ sixty (cond (ltb n w && leb cycle c) (Some (record { bill = w; cycle = c; day = accepted })) (find (is_after n cycle) later))
    by true f = rw (e1, e3, f) (ap (λ (x : ℕ). Some (x + 60)) e2)
    by false f = rw (e1, e3, f) e4
first-bill n cycle w accepted (post.Open d t) q rest later e1 e2 e3 e4 = rw (e3, none-and (ltb n q.number)) e4
first-bill n cycle w accepted (post.OpenVariable d t) q rest later e1 e2 e3 e4 = rw (e3, none-and (ltb n q.number)) e4
first-bill n cycle w accepted (post.Charge d a z) q rest later e1 e2 e3 e4 = rw (e3, none-and (ltb n q.number)) e4
first-bill n cycle w accepted (post.Credit d a z) q rest later e1 e2 e3 e4 = rw (e3, none-and (ltb n q.number)) e4
first-bill n cycle w accepted (post.Payment d m y z) q rest later e1 e2 e3 e4 = rw (e3, none-and (ltb n q.number)) e4
first-bill n cycle w accepted (post.Return d t) q rest later e1 e2 e3 e4 = rw (e3, none-and (ltb n q.number)) e4
first-bill n cycle w accepted (post.Plan d k r f a) q rest later e1 e2 e3 e4 = rw (e3, none-and (ltb n q.number)) e4
first-bill n cycle w accepted (post.Notice d c r f) q rest later e1 e2 e3 e4 = rw (e3, none-and (ltb n q.number)) e4
first-bill n cycle w accepted (post.Lower d y r) q rest later e1 e2 e3 e4 = rw (e3, none-and (ltb n q.number)) e4
first-bill n cycle w accepted post.Penalty q rest later e1 e2 e3 e4 = rw (e3, none-and (ltb n q.number)) e4
first-bill n cycle w accepted (post.Review d f) q rest later e1 e2 e3 e4 = rw (e3, none-and (ltb n q.number)) e4
first-bill n cycle w accepted (post.Dispute d t z) q rest later e1 e2 e3 e4 = rw (e3, none-and (ltb n q.number)) e4
first-bill n cycle w accepted (post.Ack d t) q rest later e1 e2 e3 e4 = rw (e3, none-and (ltb n q.number)) e4
first-bill n cycle w accepted (post.Resolve d t z) q rest later e1 e2 e3 e4 = rw (e3, none-and (ltb n q.number)) e4
first-bill n cycle w accepted (post.AskRefund d) q rest later e1 e2 e3 e4 = rw (e3, none-and (ltb n q.number)) e4
first-bill n cycle w accepted (post.Refund z) q rest later e1 e2 e3 e4 = rw (e3, none-and (ltb n q.number)) e4
first-bill n cycle w accepted (post.Amend t d z) q rest later e1 e2 e3 e4 = rw (e3, none-and (ltb n q.number)) e4

first-of : (n cycle : ℕ) (a : Anchor) (holidays : List ℕ) (history : List Kept) (m s : ℕ) (ks : List Kept)
    → option_map notice_end (find (reflects n cycle) (corrected_from a holidays history m s ks)) ≡ sixty (find (is_after n cycle) (issues_from m ks))
unfolding corrected_from corrected_post
first-of n cycle a holidays history m s [] = refl
first-of n cycle a holidays history m s (k ∷ ks) =
    first-bill n cycle m k.accepted k.post (corrected_post a holidays history m s k) (find (reflects n cycle) (corrected_from a holidays history (suc m) (next_segment s k.post) ks)) (issues_from (suc m) ks) refl refl refl
    (first-of n cycle a holidays history (suc m) (next_segment s k.post) ks)

same-test : (a : Anchor) (day c : ℕ) → IsOpening a → a.opened ≤ day → day ≤ last_calendar_day → leb day (closing a c) ≡ leb (cycle_of a day) c
same-test a day c h low high = by (cases_lt c (cycle_of a day))
  where
    low-both : (x y z w : ℕ) → x ≤ y → z ≤ w → leb x y ≡ leb z w
    low-both x y z w l m = grind (arith, nat_tests)

    high-both : (x y z w : ℕ) → y < x → w < z → leb x y ≡ leb z w
    high-both x y z w l m = grind (arith, nat_tests)

    by : (c < cycle_of a day) ⊎ (cycle_of a day ≤ c) → leb day (closing a c) ≡ leb (cycle_of a day) c
    by (inl l) = high-both day (closing a c) (cycle_of a day) c (past-closing a day c h low high l) l
    by (inr l) = low-both day (closing a c) (cycle_of a day) c (by-closing a day c h low high l) l

first-row : (a : Anchor) (charge : CorrectedPost) → IsOpening a → a.opened ≤ charge.day → charge.day ≤ last_calendar_day → (rows : List IssuedRow)
    → option_map (λ (r : IssuedRow). r.day + 60) (find (shows a charge) rows) ≡ sixty (find (is_after charge.number (cycle_of a charge.day)) (map issue_of rows))
first-row a charge h low high [] = refl
first-row a charge h low high (r ∷ rs) = by (ltb charge.number r.bill && leb charge.day (closing a r.cycle)) refl (first-row a charge h low high rs)
  where
    test : (ltb charge.number r.bill && leb charge.day (closing a r.cycle)) ≡ (ltb charge.number r.bill && leb (cycle_of a charge.day) r.cycle)
    test = ap (λ b. ltb charge.number r.bill && b) (same-test a charge.day r.cycle h low high)

    by : (t : Bool) → (ltb charge.number r.bill && leb charge.day (closing a r.cycle)) ≡ t
        → option_map (λ (r : IssuedRow). r.day + 60) (find (shows a charge) rs) ≡ sixty (find (is_after charge.number (cycle_of a charge.day)) (map issue_of rs))
        → option_map (λ (r : IssuedRow). r.day + 60) (cond (ltb charge.number r.bill && leb charge.day (closing a r.cycle)) (Some r) (find (shows a charge) rs))
        ≡ sixty (cond (ltb charge.number r.bill && leb (cycle_of a charge.day) r.cycle) (Some (issue_of r)) (find (is_after charge.number (cycle_of a charge.day)) (map issue_of rs)))
    by true e rest = rw (e, sym test ∙ e) refl
    by false e rest = rw (e, sym test ∙ e) rest

-- ---- the charge with a number
numbered : (a : Anchor) (holidays : List ℕ) (history : List Kept) (m s : ℕ) (ks : List Kept) (p : CorrectedPost) → Contains (corrected_from a holidays history m s ks) p → m ≤ p.number
unfolding corrected_from corrected_post
numbered a holidays history m s [] p (k, l, e) = absurd (omega arith)
numbered a holidays history m s (x ∷ ks) p (zero, l, e) = let same = ap (λ (q : CorrectedPost). q.number) e in omega (arith, same)
numbered a holidays history m s (x ∷ ks) p (suc k, l, e) = let rest = numbered a holidays history (suc m) (next_segment s x.post) ks p (k, omega arith, e) in omega (arith, rest)

charge-found : (a : Anchor) (holidays : List ℕ) (history : List Kept) (m s : ℕ) (ks : List Kept) (p : CorrectedPost) → Contains (corrected_from a holidays history m s ks) p → is_charge p.post ≡ true
    → charge_at p.number (corrected_from a holidays history m s ks) ≡ Some p
unfolding corrected_from corrected_post
charge-found a holidays history m s [] p (k, l, e) is = absurd (omega arith)
charge-found a holidays history m s (x ∷ ks) p (zero, l, e) is =
    let here : (eqb p.number p.number && is_charge p.post) ≡ true = rw (eq-eqb p.number p.number refl, is) refl in
    let test = ap (λ (q : CorrectedPost). eqb q.number p.number && is_charge q.post) e ∙ here in
    rw test (ap (λ (q : CorrectedPost). Some q) e)
charge-found a holidays history m s (x ∷ ks) p (suc k, l, e) is =
    let more = numbered a holidays history (suc m) (next_segment s x.post) ks p (k, omega arith, e) in
    let out : eqb m p.number ≡ false = ne_eqb m p.number (λ i. omega (arith, more, i)) in
    rw out (charge-found a holidays history (suc m) (next_segment s x.post) ks p (k, omega arith, e) is)

has-days : (l : Lists) → TellsItsBills l → HasItsDisputeDays l
unfolding last_notice_day
has-days l t holidays charge day cents place h there is low high =
    let a = anchor_of l.posts in
    let posts = corrected (anchor_of l.posts) holidays l.posts in
    let found = charge-found a holidays l.posts 1 5 l.posts charge there (ap is_charge is) in
    ap (notice_end_of a posts) found
    ∙ (first-of charge.number (cycle_of a charge.day) a holidays l.posts 1 5 l.posts
    ∙ (ap (λ xs. sixty (find (is_after charge.number (cycle_of a charge.day)) xs)) (sym t.rows)
    ∙ sym (first-row a charge h low high l.issued)))

pub disputes_end_in_sixty_days : DisputesEndInSixtyDays
disputes_end_in_sixty_days requests =
    All-weaker (λ (x : NamedAccount). TellsItsBills x.lists) (λ (x : NamedAccount). HasItsDisputeDays x.lists) (λ x t. has-days x.lists t) (run requests).accounts
    (of_every_run TellsItsBills (record { opens = opens; accepts = accepts }) requests)
