-- What an account owes behind one more post.
use Rattle.std.proofs.Common.{◌≡◌, ℕ, zero, suc, ◌+◌, ◌<◌, ◌≤◌, ◌⊎◌, inl, inr, true, false, List, [], ◌∷◌, ◌++◌, append-nil, length, sym, ap, ◌∙◌, subst, arith, Some, None}
use Rattle.std.specs.Prelude.{◌==◌}
use Rattle.std.specs.List.{All}
use Rattle.std.proofs.lemmas.Bool.{cases_lt}
use Rattle.card_events.specs.Billing.{closing}
use Rattle.card_events.specs.declared.anchor.Anchor.{Anchor}
use Rattle.card_events.proofs.Cycles.{closing_grows, cycle_around}
use Rattle.card_events.specs.History.{anchor_of}
use Rattle.card_events.specs.Range.{last_request_day}
use Rattle.card_events.specs.SharedRows.{SharedRows}
use Rattle.card_events.specs.declared.kept.Kept.{Kept}
use Rattle.card_events.specs.declared.post.Post.{Post}
use Rattle.card_events.specs.declared.post.Post.TheVariants as post
use Rattle.card_model.specs.CycleDays.{IsOpening}
use Rattle.card_model.specs.Cycles.{IssuedRow}
use Rattle.card_model.specs.Folds.{book, row_of_cycle, rows_issued}
use Rattle.card_model.specs.Laws.{HistoriesAgree, bill_of}
use Rattle.card_model.specs.Machine.{accepted, issues, kept_as}
use Rattle.card_model.specs.Refusals.{Lists, book_today, reason_against}
use Rattle.card_model.specs.Sheets.{sheet_of}
use Rattle.card_model.specs.Unread.{is_unread}
use Rattle.card_model.proofs.Calendar.{cycles_are_of_the_calendar, is-anchor}
use Rattle.card_reasons.proofs.Accepted.{shut, some_cycle}
use Rattle.card_replay.proofs.Committing.{StaysLate}
use Rattle.card_past.proofs.CycleBefore.{there-is}
use Rattle.card_replay.proofs.LaterRows.{some-posts}
use Rattle.card_replay.proofs.Lates.{late_rows_grow, late_rows_stay}
use Rattle.card_replay.proofs.Settled.{IsSettledOn, all-made, late-earlier}
use Rattle.card_replay.specs.Changes.{IsOwedFor, issued_as, late_with}
use Rattle.card_replay.specs.Owes.{AreLate, Late, owed_as}
use Rattle.card_replay.specs.Replays.{IsReplay, MayReach, Replay, present_of}
use Rattle.card_replay.specs.declared.change.Change.{Change}
use Rattle.card_past.specs.declared.owed.Owed.{Owed}

-- ---- the row of a Bill that is accepted
-- closings come in the order of their numbers
in-turn : (a : Anchor) (i j : ℕ) → i ≤ j → closing a i ≤ closing a j
in-turn a i zero l = let none : i ≡ zero = omega arith in let same = ap (closing a) none in omega (arith, same)
in-turn a i (suc j) l = by (cases_lt i (suc j)) (in-turn a i j)
  where
    by : (i < suc j) ⊎ (suc j ≤ i) → (i ≤ j → closing a i ≤ closing a j) → closing a i ≤ closing a (suc j)
    by (inl less) before = let to = before (omega arith) in let more = closing_grows a j in omega (arith, to, more)
    by (inr more) before = let here : i ≡ suc j = omega arith in let same = ap (closing a) here in omega (arith, same)

-- so a cycle that closes before another has a smaller number
pub earlier-cycle : (a : Anchor) (i j : ℕ) → closing a i < closing a j → i < j
earlier-cycle a i j l = by (cases_lt i j)
  where
    by : (i < j) ⊎ (j ≤ i) → i < j
    by (inl less) = less
    by (inr more) = let turn = in-turn a j i more in absurd (omega (arith, l, turn))

-- a cycle that is closed before today is in the book of today
pub closed-there : (lists : Lists) (shared : SharedRows) (today cycle : ℕ) → IsOpening (anchor_of lists.posts) → (anchor_of lists.posts).opened ≤ today → today ≤ last_request_day → closing (anchor_of lists.posts) cycle < today
    → cycle ≤ length (book lists.posts lists.issued shared today).cycles
closed-there lists shared today cycle open' low dated early =
    let a = anchor_of lists.posts in
    let b = book lists.posts lists.issued shared today in
    let count = cycles_are_of_the_calendar.count lists.posts lists.issued shared today in
    let around = cycle_around a (is-anchor a open') (today + 1) (length b.cycles + 1) (omega (arith, low)) (omega (arith, dated)) count in
    let next = around.1 in
    let less = earlier-cycle a cycle (length b.cycles + 1) (omega (arith, early, next)) in
    omega (arith, less)

pub some-number : (n : ℕ) → (n == 0) ≡ false → 1 ≤ n
some-number zero e = let no : true ≡ false = e in absurd (cc)
some-number (suc n) e = omega arith

-- the row that it issues
pub bill-row : (lists : Lists) (shared : SharedRows) (today cycle : ℕ) → IsOpening (anchor_of lists.posts) → (anchor_of lists.posts).opened ≤ today → today ≤ last_request_day → 1 ≤ cycle → closing (anchor_of lists.posts) cycle < today
    → (r : IssuedRow) × (rows_issued cycle (length lists.posts + 1) today (sheet_of lists.posts lists.issued shared today) (book lists.posts lists.issued shared today) ≡ r ∷ [])
bill-row lists shared today cycle open' low dated some early =
    let b = book lists.posts lists.issued shared today in
    let at = there-is b.cycles cycle some (closed-there lists shared today cycle open' low dated early) in (
      record { cycle = cycle; bill = length lists.posts + 1; day = today; statement = at.0; sheet = sheet_of lists.posts lists.issued shared today at.0 },
      ap (row_of_cycle cycle (length lists.posts + 1) today (sheet_of lists.posts lists.issued shared today)) at.1,
    )

-- ---- behind a Bill that owes its row
abbrev lists_by : List Kept → List IssuedRow → Lists
lists_by posts rows = record { posts = posts; issued = rows }

pub bill-owes : (shared : SharedRows) (today : ℕ) (key : List ℕ) (p : Post) (c : Change) (r : Replay) (o : Owed) → IsReplay shared r → MayReach today r → reason_against (present_of today shared r.lists) p ≡ None
    → IsOwedFor today p r o → c.issued ≡ None → c.owes ≡ Some o → StaysLate shared key today p c r
unfolding accepted book_today bill-row
bill-owes shared today key p c r o h may none is made owes reached l =
    let a = anchor_of r.lists.posts in
    let n = length r.lists.posts + 1 in
    let b = is.bill in
    let no = subst (λ (q : Post). reason_against (present_of today shared r.lists) q ≡ None) b.post none in
    let some = some-number b.cycle (some_cycle (present_of today shared r.lists) b.cycle no) in
    let early : closing a b.cycle < today = shut (present_of today shared r.lists) b.cycle no in
    let at = bill-row r.lists shared today b.cycle h.sound.opening may.opened may.last some early in
    let row = at.0 in
    let grown = late_rows_grow shared r.lists r.late key today b.cycle r.folding.reached row (some-posts r.lists.posts h.sound.opening) h.sound.opening h.late may.opened is.behind may.accepted may.last early at.1 in
    let with : Lists = record { posts = r.lists.posts ++ bill_of n key today b.cycle ∷ []; issued = r.lists.issued ++ row ∷ [] } in
    let more : Late = record { made = r.late.made; owed = r.late.owed ++ record { bill = row.bill; closing = closing a row.cycle } ∷ [] } in
    let back = late-earlier shared with r.folding.reached reached more l grown in
    let one : owed_as c.owes ≡ record { bill = row.bill; closing = closing a row.cycle } ∷ [] =
    ap owed_as owes ∙ (ap (λ x. record { bill = x; closing = o.closing } ∷ []) b.number ∙ ap (λ x. record { bill = n; closing = x } ∷ []) b.shut) in
    let late : late_with c r.late ≡ more =
    ap (λ x. record { made = r.late.made ++ issued_as x; owed = r.late.owed ++ owed_as c.owes }) made
    ∙ (ap (λ x. record { made = x; owed = r.late.owed ++ owed_as c.owes }) (append-nil r.late.made) ∙ ap (λ x. record { made = r.late.made; owed = r.late.owed ++ x }) one) in
    let lists : accepted (present_of today shared r.lists) key p ≡ with =
    ap (λ (q : Post). lists_by (r.lists.posts ++ kept_as n key today q ∷ []) (r.lists.issued ++ issues (present_of today shared r.lists) q)) b.post
    ∙ ap (λ rows. lists_by (r.lists.posts ++ bill_of n key today b.cycle ∷ []) (r.lists.issued ++ rows)) at.1 in
    subst (λ (x : Lists). AreLate shared x reached (late_with c r.late)) (sym lists) (subst (λ (x : Late). AreLate shared with reached x) (sym late) back)

-- ---- behind another post
-- where nothing is owed, and the row is made
pub nothing-owed : (shared : SharedRows) (today : ℕ) (key : List ℕ) (p : Post) (c : Change) (r : Replay) → IsSettledOn r.lists r.late → issued_as c.issued ≡ issues (present_of today shared r.lists) p → c.owes ≡ None → StaysLate shared key today p c r
unfolding accepted
nothing-owed shared today key p c r settled made owes reached l =
    all-made shared (accepted (present_of today shared r.lists) key p) reached (late_with c r.late) (ap (λ (rows : List IssuedRow). rows ++ issued_as c.issued) settled.made ∙ ap (λ rows. r.lists.issued ++ rows) made)
    (ap (λ (os : List Owed). os ++ owed_as c.owes) settled.owed ∙ ap owed_as owes)

-- where it issues nothing, and changes no day up to the closing of what is owed
pub still-owed : (shared : SharedRows) (today : ℕ) (key : List ℕ) (p : Post) (c : Change) (r : Replay) → IsReplay shared r → issues (present_of today shared r.lists) p ≡ [] → issued_as c.issued ≡ [] → c.owes ≡ None
    → All (λ o. HistoriesAgree o.closing shared shared r.lists.posts (r.lists.posts ++ kept_as (length r.lists.posts + 1) key today p ∷ [])) r.late.owed → StaysLate shared key today p c r
unfolding accepted
still-owed shared today key p c r h nothing made owes agree reached l =
    let k = kept_as (length r.lists.posts + 1) key today p in
    let stays = late_rows_stay shared r.lists r.late k r.folding.reached reached (some-posts r.lists.posts h.sound.opening) h.late l agree in
    let late : late_with c r.late ≡ r.late =
    ap (λ rows. record { made = r.late.made ++ rows; owed = r.late.owed ++ owed_as c.owes }) made
    ∙ (ap (λ rows. record { made = rows; owed = r.late.owed ++ owed_as c.owes }) (append-nil r.late.made)
    ∙ (ap (λ x. record { made = r.late.made; owed = r.late.owed ++ owed_as x }) owes ∙ ap (λ os. record { made = r.late.made; owed = os }) (append-nil r.late.owed))) in
    let rows : r.lists.issued ++ issues (present_of today shared r.lists) p ≡ r.lists.issued = ap (λ rows. r.lists.issued ++ rows) nothing ∙ append-nil r.lists.issued in
    subst (λ (x : List IssuedRow). AreLate shared (lists_by (r.lists.posts ++ k ∷ []) x) reached (late_with c r.late)) (sym rows)
    (subst (λ (x : Late). AreLate shared (lists_by (r.lists.posts ++ k ∷ []) r.lists.issued) reached x) (sym late) stays)

pub bill-unread : (p : Post) (cycle : ℕ) → p ≡ post.Bill cycle → is_unread p ≡ true
bill-unread p cycle e = ap is_unread e
