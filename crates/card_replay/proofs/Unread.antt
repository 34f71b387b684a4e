-- A post that no fold reads leaves what was folded.
use Rattle.std.proofs.Common.{◌≡◌, ℕ, ◌+◌, ◌≤◌, true, false, List, [], ◌∷◌, ◌++◌, append-nil, length, refl, sym, ap, ◌∙◌, subst, arith, Some, None}
use Rattle.std.proofs.lemmas.List.Elements.{All-cons, All-nil}
use Rattle.std.specs.Prelude.{IfSome}
use Rattle.card_events.specs.declared.anchor.Anchor.{Anchor}
use Rattle.card_events.specs.History.{anchor_of}
use Rattle.card_events.specs.SharedRows.{SharedRows}
use Rattle.card_events.specs.declared.kept.Kept.{Kept}
use Rattle.card_events.specs.declared.post.Post.{Post}
use Rattle.card_events.specs.declared.post.Post.TheVariants as post
use Rattle.card_model.specs.Cycles.{Cycle}
use Rattle.card_model.specs.Folds.{cycle_at}
use Rattle.card_model.specs.Machine.{accepted, issues, kept_as}
use Rattle.card_model.specs.Refusals.{Lists, book_today}
use Rattle.card_model.specs.Sheets.{issued_sheet_of}
use Rattle.card_model.specs.Unread.{is_unread}
use Rattle.card_model.proofs.Unread.{unfolded_posts_agree}
use Rattle.card_daily.specs.Given.{Given, IsSound, opened_in}
use Rattle.card_book.proofs.Closings.{none-closed}
use Rattle.card_book.proofs.GoingOn.{agreement_goes_on, bills_go_on}
use Rattle.card_book.proofs.MarksGoOn.{marks_go_on}
use Rattle.card_book.proofs.RatesGoOn.{rates_go_on}
use Rattle.card_book.specs.GoingOn.{Continues, HaveSameRates, sets_rates}
use Rattle.card_book.specs.Stands.{book_through, day_to_fold}
use Rattle.card_replay.proofs.Changed.{continues-none, same-anchor}
use Rattle.card_past.proofs.Eves.{eve-goes-on, eve_folding, if-some}
use Rattle.card_replay.proofs.LaterRows.{some-posts}
use Rattle.card_past.proofs.Through.{closed-in, continues-through, recorded, same-first, stands-on}
use Rattle.card_replay.specs.Replays.{Folding, IsEve, IsFolding, day_of, given_of, present_of}
use Rattle.card_past.specs.declared.eve.Eve.{Eve}
use Rattle.card_past.specs.declared.past.Past.{Past}

-- ---- it changes no book up to today
continues-plain : (today : ℕ) (shared : SharedRows) (lists : Lists) (key : List ℕ) (p : Post) (x : ℕ) → issues (present_of today shared lists) p ≡ [] → is_unread p ≡ true
    → Continues (given_of lists shared) (given_of (accepted (present_of today shared lists) key p) shared) (Some x)
unfolding accepted
continues-plain today shared lists key p x none unread =
    agreement_goes_on (given_of lists shared) (given_of (accepted (present_of today shared lists) key p) shared) x (ap (λ rows. lists.issued ++ rows) none ∙ append-nil lists.issued)
    (unfolded_posts_agree lists.posts (kept_as (length lists.posts + 1) key today p) shared x unread)

pub continues-unread : (today : ℕ) (shared : SharedRows) (lists : Lists) (key : List ℕ) (p : Post) (x : ℕ) → is_unread p ≡ true → x ≤ today
    → Continues (given_of lists shared) (given_of (accepted (present_of today shared lists) key p) shared) (Some x)
unfolding accepted book_today
continues-unread today shared lists key (post.Bill cycle) x u l = bills_go_on (given_of lists shared) (length lists.posts + 1) key today cycle x (issued_sheet_of (present_of today shared lists)) l
continues-unread today shared lists key (post.Review d f) x u l = continues-plain today shared lists key (post.Review d f) x refl refl
continues-unread today shared lists key (post.Ack d t) x u l = continues-plain today shared lists key (post.Ack d t) x refl refl
continues-unread today shared lists key (post.AskRefund d) x u l = continues-plain today shared lists key (post.AskRefund d) x refl refl
continues-unread today shared lists key (post.Open d t) x u l = let no : false ≡ true = u in absurd (cc)
continues-unread today shared lists key (post.OpenVariable d t) x u l = let no : false ≡ true = u in absurd (cc)
continues-unread today shared lists key (post.Charge d q c) x u l = let no : false ≡ true = u in absurd (cc)
continues-unread today shared lists key (post.Credit d q c) x u l = let no : false ≡ true = u in absurd (cc)
continues-unread today shared lists key (post.Payment d m y c) x u l = let no : false ≡ true = u in absurd (cc)
continues-unread today shared lists key (post.Return d t) x u l = let no : false ≡ true = u in absurd (cc)
continues-unread today shared lists key (post.Plan d k r w f) x u l = let no : false ≡ true = u in absurd (cc)
continues-unread today shared lists key (post.Notice d y r w) x u l = let no : false ≡ true = u in absurd (cc)
continues-unread today shared lists key (post.Lower d y r) x u l = let no : false ≡ true = u in absurd (cc)
continues-unread today shared lists key post.Penalty x u l = let no : false ≡ true = u in absurd (cc)
continues-unread today shared lists key (post.Dispute d t c) x u l = let no : false ≡ true = u in absurd (cc)
continues-unread today shared lists key (post.Resolve d t c) x u l = let no : false ≡ true = u in absurd (cc)
continues-unread today shared lists key (post.Refund c) x u l = let no : false ≡ true = u in absurd (cc)
continues-unread today shared lists key (post.Amend t d c) x u l = let no : false ≡ true = u in absurd (cc)

unread-plain : (p : Post) → is_unread p ≡ true → sets_rates p ≡ false
unread-plain (post.Bill cycle) u = refl
unread-plain (post.Review d f) u = refl
unread-plain (post.Ack d t) u = refl
unread-plain (post.AskRefund d) u = refl
unread-plain (post.Open d t) u = refl
unread-plain (post.OpenVariable d t) u = refl
unread-plain (post.Charge d q c) u = refl
unread-plain (post.Credit d q c) u = refl
unread-plain (post.Payment d m y c) u = refl
unread-plain (post.Return d t) u = refl
unread-plain (post.Plan d k r w f) u = let no : false ≡ true = u in absurd (cc)
unread-plain (post.Notice d y r w) u = let no : false ≡ true = u in absurd (cc)
unread-plain (post.Lower d y r) u = let no : false ≡ true = u in absurd (cc)
unread-plain post.Penalty u = refl
unread-plain (post.Dispute d t c) u = refl
unread-plain (post.Resolve d t c) u = refl
unread-plain (post.Refund c) u = refl
unread-plain (post.Amend t d c) u = refl

-- any other post issues nothing
pub issues-nothing : (today : ℕ) (shared : SharedRows) (lists : Lists) (p : Post) → is_unread p ≡ false → issues (present_of today shared lists) p ≡ []
issues-nothing today shared lists (post.Bill cycle) u = let no : true ≡ false = u in absurd (cc)
issues-nothing today shared lists (post.Review d f) u = refl
issues-nothing today shared lists (post.Ack d t) u = refl
issues-nothing today shared lists (post.AskRefund d) u = refl
issues-nothing today shared lists (post.Open d t) u = refl
issues-nothing today shared lists (post.OpenVariable d t) u = refl
issues-nothing today shared lists (post.Charge d q c) u = refl
issues-nothing today shared lists (post.Credit d q c) u = refl
issues-nothing today shared lists (post.Payment d m y c) u = refl
issues-nothing today shared lists (post.Return d t) u = refl
issues-nothing today shared lists (post.Plan d k r w f) u = refl
issues-nothing today shared lists (post.Notice d y r w) u = refl
issues-nothing today shared lists (post.Lower d y r) u = refl
issues-nothing today shared lists post.Penalty u = refl
issues-nothing today shared lists (post.Dispute d t c) u = refl
issues-nothing today shared lists (post.Resolve d t c) u = refl
issues-nothing today shared lists (post.Refund c) u = refl
issues-nothing today shared lists (post.Amend t d c) u = refl

-- ---- a folding over one post more
-- which adds no segment and sets no rate
pub same-rates : (old g : Given) (k : Kept) → IsSound old → g.history ≡ old.history ++ k ∷ [] → sets_rates k.post ≡ false → HaveSameRates old g
same-rates old g k before history plain =
    rates_go_on old g (k ∷ []) history (some-posts old.history before.opening) (All-cons (λ (x : Kept). sets_rates x.post ≡ false) k [] plain (All-nil (λ (x : Kept). sets_rates x.post ≡ false)))

-- where the account goes on up to each closing and the last day folded, and the eve stands
more-on : (old g : Given) (f : Folding) (k : Kept) → IsSound old → IsSound g → g.history ≡ old.history ++ k ∷ [] → sets_rates k.post ≡ false → Continues old g (day_of f.book)
    → ((n : ℕ) (c : Cycle) → cycle_at n f.past.track.cycles.items ≡ Some c → Continues old g (Some c.closing)) → IfSome f.eve (IsEve g f.reached f.past) → IsFolding old f → IsFolding g f
more-on old g f k before sound history plain continues closings stood h =
    let same = same-anchor old.history k (some-posts old.history before.opening) in
    let opened : opened_in g ≡ opened_in old = ap (λ (a : Anchor). a.opened) (ap anchor_of history ∙ same) in
    record {
      day = same-first g old (day_of f.book) opened ∙ h.day;
      whole = h.whole;
      stands = stands-on old g f.book f.past.track sound.opening h.stands continues (same-rates old g k before history plain);
      marks = marks_go_on old g f.past.track.cycles.items f.past.since.items f.past.accrued.items
          (record { new = k ∷ []; history = history; anchor = ap anchor_of history ∙ same; terms = continues.terms; continues = closings }) h.marks;
      eve = stood;
    }

book-on : (old g : Given) (f : Folding) (k : Kept) → IsSound old → IsSound g → g.history ≡ old.history ++ k ∷ [] → sets_rates k.post ≡ false
    → ((x : ℕ) → x ≤ f.reached → Continues old g (Some x)) → IfSome f.eve (IsEve g f.reached f.past) → IsFolding old f → IsFolding g f
book-on old g f k before sound history plain continues stood h =
    more-on old g f k before sound history plain (continues-through old g (day_of f.book) f.reached h.day (continues f.reached (omega arith))) (λ n c at. continues c.closing (closed-in old f n c h at)) stood h

-- and where no day is folded
pub begun-on : (old g : Given) (f : Folding) (k : Kept) → IsSound old → IsSound g → g.history ≡ old.history ++ k ∷ [] → sets_rates k.post ≡ false → day_of f.book ≡ None → IsFolding old f → IsFolding g f
begun-on old g f k before sound history plain begun h =
    let here : day_to_fold old (day_of f.book) ≡ opened_in old = ap (day_to_fold old) begun in
    let first = h.day in
    let none : f.past.track.cycles.items ≡ [] = (recorded old f.book f.past.track h.stands).cycles ∙ ap (λ d. (book_through old d).cycles) begun in
    more-on old g f k before sound history plain (subst (Continues old g) (sym begun) (continues-none old g k (some-posts old.history before.opening) history)) (λ n c at. absurd (none-closed n f.past.track.cycles.items c none at))
    (if-some f.eve (IsEve old f.reached f.past) (IsEve g f.reached f.past) (λ e was. let low = was.opened in let high = was.earlier in absurd (omega (arith, here, first, low, high))) h.eve)
    h

-- the eve does where the account goes on up to its day
pub eve-on : (old g : Given) (reached : ℕ) (past : Past) (e : Eve) (k : Kept) → IsSound old → IsSound g → g.history ≡ old.history ++ k ∷ [] → sets_rates k.post ≡ false
    → ((x : ℕ) → x ≤ e.day → Continues old g (Some x)) → IsEve old reached past e → IsEve g reached past e
eve-on old g reached past e k before sound history plain continues h =
    let opened : opened_in g ≡ opened_in old = ap (λ (a : Anchor). a.opened) (ap anchor_of history ∙ same-anchor old.history k (some-posts old.history before.opening)) in
    eve-goes-on old g reached past e h opened (λ front is stands. book-on old g (eve_folding e front) k before sound history plain continues tt stands)

pub folding-on : (old g : Given) (f : Folding) (k : Kept) → IsSound old → IsSound g → g.history ≡ old.history ++ k ∷ [] → sets_rates k.post ≡ false
    → ((x : ℕ) → x ≤ f.reached → Continues old g (Some x)) → IsFolding old f → IsFolding g f
folding-on old g f k before sound history plain continues h =
    book-on old g f k before sound history plain continues
    (if-some f.eve (IsEve old f.reached f.past) (IsEve g f.reached f.past)
    (λ e was. eve-on old g f.reached f.past e k before sound history plain (λ x l. let earlier = was.earlier in continues x (omega (arith, l, earlier))) was) h.eve)
    h

pub unread-stands : (today : ℕ) (shared : SharedRows) (lists : Lists) (key : List ℕ) (p : Post) (f : Folding) → is_unread p ≡ true → f.reached ≤ today → IsSound (given_of lists shared)
    → IsSound (given_of (accepted (present_of today shared lists) key p) shared) → IsFolding (given_of lists shared) f → IsFolding (given_of (accepted (present_of today shared lists) key p) shared) f
unfolding accepted
unread-stands today shared lists key p f u reached before sound h =
    folding-on (given_of lists shared) (given_of (accepted (present_of today shared lists) key p) shared) f (kept_as (length lists.posts + 1) key today p) before sound refl (unread-plain p u)
    (λ x l. continues-unread today shared lists key p x u (omega (arith, l, reached))) h
