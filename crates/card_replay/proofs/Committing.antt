-- A prepared post, and the account that takes it.
use Rattle.std.proofs.Common.{◌≡◌, ℕ, ◌+◌, ◌≤◌, true, false, List, [], ◌∷◌, ◌++◌, append-nil, length, min, sym, ap, ◌∙◌, subst, arith, Option, Some, None}
use Rattle.std.specs.Prelude.{IfSome}
use Rattle.card_events.specs.declared.anchor.Anchor.{Anchor}
use Rattle.card_events.specs.History.{anchor_of}
use Rattle.card_events.specs.SharedRows.{SharedRows}
use Rattle.card_events.specs.declared.kept.Kept.{Kept}
use Rattle.card_events.specs.declared.post.Post.{Post}
use Rattle.card_model.specs.Cycles.{IssuedRow}
use Rattle.card_model.specs.Machine.{accepted, issues, kept_as}
use Rattle.card_model.specs.Refusals.{Lists, reason_against}
use Rattle.card_model.specs.Unread.{is_unread}
use Rattle.card_posts.proofs.DayLemmas.{timely-append}
use Rattle.card_posts.specs.Posted.{IsReceived, last_accepted, target_of}
use Rattle.card_posts.specs.Stored.{AreTimely}
use Rattle.card_reasons.proofs.Accepted.{few, received, target_there}
use Rattle.card_model.specs.CycleDays.{IsOpening}
use Rattle.card_daily.specs.Given.{Given, IsSound, opened_in}
use Rattle.card_book.specs.Stands.{Summary, day_to_fold}
use Rattle.card_replay.proofs.Changed.{same-anchor}
use Rattle.card_replay.proofs.LaterRows.{some-posts}
use Rattle.card_past.proofs.Through.{opened-through, reached-is}
use Rattle.card_replay.proofs.Unread.{issues-nothing, unread-stands}
use Rattle.card_replay.specs.Changes.{IsChangeOf, IsCommitted, IsPrepared, HasRewound, IsRewoundBy, IsTaken, Takes, issued_as, late_with, lists_with}
use Rattle.card_replay.specs.Owes.{AreLate}
use Rattle.card_replay.specs.Rewinds.{IsAgain}
use Rattle.card_replay.specs.Replays.{Folding, HasClosings, IsEve, IsFolding, IsReplay, IsWhole, MayReach, Replay, Stands, day_of, given_of, present_of}
use Rattle.card_replay.specs.Steps.{IsFirstBetween, IsNear, first_in_cycle}
use Rattle.card_replay.specs.declared.change.Change.{Change}
use Rattle.card_replay.specs.declared.change.TakenBack.{TakenBack}

-- ---- the folding after it
-- the day that is then reached
taken-day : (g : Given) (opened : ℕ) (x : TakenBack) (old new : Folding) → opened_in g ≡ opened → 1 ≤ opened → HasRewound opened x old new → day_to_fold g (day_of x.book) ≡ new.reached + 1
taken-day g opened x old new same some taken = reached-is g opened (day_of x.book) same some ∙ ap (λ n. n + 1) (sym taken.reached)

rewound-folding : (g : Given) (opened : ℕ) (x : TakenBack) (old new : Folding) → opened_in g ≡ opened → 1 ≤ opened → HasRewound opened x old new → IsWhole x.book → HasClosings g x.book new.past → IsFolding g new
rewound-folding g opened x old new same some taken whole h = record {
  day = ap (λ (s : Option Summary). day_to_fold g (day_of s)) taken.book ∙ taken-day g opened x old new same some taken;
  whole = subst IsWhole (sym taken.book) whole;
  stands = subst (λ (s : Option Summary). Stands g s new.past.track) (sym taken.book) h.stands;
  marks = h.marks;
  eve = subst (λ o. IfSome o (IsEve g new.reached new.past)) (sym taken.eve) tt;
}

-- ---- what it is taken back to
least-left : (x y z : ℕ) → x ≤ z → min x y ≤ z
least-left x y z l = omega (arith, l)

least-right : (x y z : ℕ) → y ≤ z → min x y ≤ z
least-right x y z l = omega (arith, l)

-- it stays
not-rewound : (shared : SharedRows) (today : ℕ) (key : List ℕ) (p : Post) (r : Replay) → IsFolding (given_of (accepted (present_of today shared r.lists) key p) shared) r.folding → IsRewoundBy shared today key p None r
not-rewound shared today key p r h = record {
  earlier = λ f taken. let same = ap (λ (x : Folding). x.reached) taken in omega (arith, same);
  near = λ f taken from first.
      let same = ap (λ (x : Folding). x.reached) taken in
      least-right (first_in_cycle (anchor_of r.lists.posts) from) (r.folding.reached + 1) (f.reached + 1) (omega (arith, same));
  next = λ f taken. subst (λ (x : Folding). IsFolding (given_of (accepted (present_of today shared r.lists) key p) shared) x) (sym taken) h;
}

-- a post that no fold reads
pub unread-rewound : (shared : SharedRows) (today : ℕ) (key : List ℕ) (p : Post) (r : Replay) → is_unread p ≡ true → IsReplay shared r → MayReach today r → IsSound (given_of (accepted (present_of today shared r.lists) key p) shared)
    → IsRewoundBy shared today key p None r
unread-rewound shared today key p r u h may sound = not-rewound shared today key p r (unread-stands today shared r.lists key p r.folding u may.later h.sound sound h.folding)

-- with no row the lists are those with the post alone
abbrev pub with_post : Lists → List ℕ → ℕ → Post → SharedRows → Given
with_post l key today p shared = record { history = l.posts ++ kept_as (length l.posts + 1) key today p ∷ []; issued = l.issued; shared = shared }

abbrev pub given_with : List Kept → List IssuedRow → SharedRows → Given
given_with posts rows shared = record { history = posts; issued = rows; shared = shared }

pub with-post : (shared : SharedRows) (today : ℕ) (key : List ℕ) (p : Post) (l : Lists) → is_unread p ≡ false → given_of (accepted (present_of today shared l) key p) shared ≡ with_post l key today p shared
unfolding accepted
with-post shared today key p l u =
    let none : l.issued ++ issues (present_of today shared l) p ≡ l.issued = ap (λ rows. l.issued ++ rows) (issues-nothing today shared l p u) ∙ append-nil l.issued in
    ap (λ rows. given_with (l.posts ++ kept_as (length l.posts + 1) key today p ∷ []) rows shared) none

pub late-rewound : (shared : SharedRows) (today : ℕ) (key : List ℕ) (p : Post) (r : Replay) → is_unread p ≡ false → IsFolding (with_post r.lists key today p shared) r.folding → IsRewoundBy shared today key p None r
late-rewound shared today key p r u h = not-rewound shared today key p r (subst (λ g. IsFolding g r.folding) (sym (with-post shared today key p r.lists u)) h)

pub again-rewound : (shared : SharedRows) (today : ℕ) (key : List ℕ) (p : Post) (r : Replay) (from : ℕ) (x : TakenBack) → is_unread p ≡ false → IsOpening (anchor_of r.lists.posts)
    → IsAgain (with_post r.lists key today p shared) from r.folding.reached r.folding.past x
    → ((day : ℕ) → IsFirstBetween shared r.lists (accepted (present_of today shared r.lists) key p) day → first_in_cycle (anchor_of r.lists.posts) day ≤ day_to_fold (with_post r.lists key today p shared) (day_of x.book))
    → IsRewoundBy shared today key p (Some x) r
again-rewound shared today key p r from x u open' again near = record {
  earlier = λ f taken. let is = at f taken in let low = again.earlier in omega (arith, is, low);
  near = λ f taken day first.
      let is = at f taken in
      let low = near day first in
      least-left (first_in_cycle (anchor_of r.lists.posts) day) (r.folding.reached + 1) (f.reached + 1) (omega (arith, low, is));
  next = λ f taken. subst (λ g. IsFolding g f) (sym (with-post shared today key p r.lists u)) (rewound-folding now opened x r.folding f same some taken again.whole (again.closings f.past taken.past));
}
  where
    now : Given
    now = with_post r.lists key today p shared

    opened : ℕ
    opened = (anchor_of r.lists.posts).opened

    some : 1 ≤ opened
    some = let first = open'.first in omega (arith, first)

    same : opened_in now ≡ opened
    same = ap (λ (a : Anchor). a.opened) (same-anchor r.lists.posts (kept_as (length r.lists.posts + 1) key today p) (some-posts r.lists.posts open'))

    at : (f : Folding) → HasRewound opened x r.folding f → day_to_fold now (day_of x.book) ≡ f.reached + 1
    at f taken = taken-day now opened x r.folding f same some taken

-- it is so for an account with the same lists and folding
pub rewound-same : (shared : SharedRows) (today : ℕ) (key : List ℕ) (p : Post) (made : Option TakenBack) (old new : Replay) → new.lists ≡ old.lists → new.folding ≡ old.folding → IsRewoundBy shared today key p made old → IsRewoundBy shared today key p made new
rewound-same shared today key p made old new lists folding h = record {
  earlier = λ f taken. let low = h.earlier f (before f taken) in let same = ap (λ (x : Folding). x.reached) folding in omega (arith, low, same);
  near = λ f taken.
      subst (λ (l : Lists). IsNear shared l (accepted (present_of today shared l) key p) new.folding.reached f.reached) (sym lists)
      (subst (λ (x : Folding). IsNear shared old.lists (accepted (present_of today shared old.lists) key p) x.reached f.reached) (sym folding) (h.near f (before f taken)));
  next = λ f taken. subst (λ (l : Lists). IsFolding (given_of (accepted (present_of today shared l) key p) shared) f) (sym lists) (h.next f (before f taken));
}
  where
    before : (f : Folding) → Takes made new f → Takes made old f
    before f taken =
        subst (λ (l : Lists). IsTaken (anchor_of l.posts).opened made old.folding f) lists (subst (λ (x : Folding). IsTaken (anchor_of new.lists.posts).opened made x f) folding taken)

-- ---- the account after it
accepted-most : (ks : List Kept) (k : Kept) (n : ℕ) → last_accepted ks ≤ n → k.accepted ≤ n → last_accepted (ks ++ k ∷ []) ≤ n
unfolding last_accepted
accepted-most [] k n all last = omega (arith, last)
accepted-most (x ∷ xs) k n all last = let rest = accepted-most xs k n (omega (arith, all)) last in omega (arith, all, rest)

kept-same : (n : ℕ) (c : Change) (key : List ℕ) (today : ℕ) (p : Post) → IsChangeOf key today p c → kept_as n c.key c.today c.post ≡ kept_as n key today p
kept-same n c key today p h = ap (λ k. kept_as n k c.today c.post) h.key ∙ (ap (λ d. kept_as n key d c.post) h.today ∙ ap (kept_as n key today) h.post)

abbrev pub lists_by : List Kept → List IssuedRow → Lists
lists_by posts rows = record { posts = posts; issued = rows }

-- and so is what it issues
pub issues-same : (shared : SharedRows) (today : ℕ) (key : List ℕ) (p : Post) (c : Change) (l : Lists) → IsChangeOf key today p c → issues (present_of c.today shared l) c.post ≡ issues (present_of today shared l) p
issues-same shared today key p c l h = ap (λ d. issues (present_of d shared l) c.post) h.today ∙ ap (issues (present_of today shared l)) h.post

lists-are : (shared : SharedRows) (today : ℕ) (key : List ℕ) (p : Post) (c : Change) (l : Lists) → IsChangeOf key today p c → lists_with shared c l ≡ accepted (present_of today shared l) key p
unfolding accepted
lists-are shared today key p c l h =
    ap (λ k. lists_by (l.posts ++ k ∷ []) (l.issued ++ issues (present_of c.today shared l) c.post)) (kept-same (length l.posts + 1) c key today p h)
    ∙ ap (λ rows. lists_by (l.posts ++ kept_as (length l.posts + 1) key today p ∷ []) (l.issued ++ rows)) (issues-same shared today key p c l h)

pub record Accepts (n : ℕ) (l : Lists) : Type 0 where
  pub opened : (anchor_of l.posts).opened ≤ n
  pub timely : AreTimely (anchor_of l.posts).opened l.posts
  pub last : last_accepted l.posts ≤ n

pub accepts : (shared : SharedRows) (today : ℕ) (key : List ℕ) (p : Post) (r : Replay) → IsReplay shared r → MayReach today r → IsReceived (anchor_of r.lists.posts).opened today p
    → Accepts today (accepted (present_of today shared r.lists) key p)
unfolding accepted
accepts shared today key p r h may came =
    let posts = r.lists.posts in
    let k = kept_as (length posts + 1) key today p in
    let same = same-anchor posts k (some-posts posts h.sound.opening) in
    record {
      opened = subst (λ (a : Anchor). a.opened ≤ today) (sym same) may.opened;
      timely = subst (λ (a : Anchor). AreTimely a.opened (posts ++ k ∷ [])) (sym same) (timely-append (anchor_of posts).opened posts k h.timely (record { dated = may.last; received = came }));
      last = accepted-most posts k today may.accepted (omega arith);
    }

-- it stands, and may be brought to today
record IsNext (shared : SharedRows) (today : ℕ) (new : Replay) : Type 0 where
  pub replay : IsReplay shared new
  pub reach : MayReach today new

-- its lists are those with the post
pub committed-lists : (shared : SharedRows) (today : ℕ) (key : List ℕ) (p : Post) (c : Change) (r new : Replay) → IsChangeOf key today p c → IsCommitted shared c r new
    → new.lists ≡ accepted (present_of today shared r.lists) key p
committed-lists shared today key p c r new is committed = committed.lists ∙ lists-are shared today key p c r.lists is

-- what is owed of it then
abbrev pub StaysLate : SharedRows → List ℕ → ℕ → Post → Change → Replay → Type 0
StaysLate shared key today p c r = (reached : ℕ) → reached ≤ r.folding.reached → AreLate shared (accepted (present_of today shared r.lists) key p) reached (late_with c r.late)

committed-stands : (shared : SharedRows) (today : ℕ) (key : List ℕ) (p : Post) (c : Change) (r new : Replay) → IsReplay shared r → MayReach today r → IsChangeOf key today p c
    → StaysLate shared key today p c r → reason_against (present_of today shared r.lists) p ≡ None → IsSound (given_of (accepted (present_of today shared r.lists) key p) shared)
    → IsRewoundBy shared today key p c.rewound r → IsCommitted shared c r new → IsNext shared today new
committed-stands shared today key p c r new h may is owes none sound rewound committed =
    let lists : new.lists ≡ accepted (present_of today shared r.lists) key p = committed-lists shared today key p c r new is committed in
    let all = accepts shared today key p r h may (received (present_of today shared r.lists) p none) in
    let folding : IsFolding (given_of (accepted (present_of today shared r.lists) key p) shared) new.folding = rewound.next new.folding committed.folding in
    let reached = rewound.earlier new.folding committed.folding in
    let later = may.later in
    let dated = h.dated in
    let low : (anchor_of (accepted (present_of today shared r.lists) key p).posts).opened ≤ new.folding.reached + 1 = opened-through (given_of (accepted (present_of today shared r.lists) key p) shared) new.folding.book new.folding.past.track new.folding.reached folding.stands folding.day in
    record {
      replay = record {
        corrected = committed.corrected;
        sound = subst (λ (l : Lists). IsSound (given_of l shared)) (sym lists) sound;
        timely = subst (λ (l : Lists). AreTimely (anchor_of l.posts).opened l.posts) (sym lists) all.timely;
        opened = subst (λ (l : Lists). (anchor_of l.posts).opened ≤ new.folding.reached + 1) (sym lists) low;
        dated = omega (arith, dated, reached);
        late = subst (λ (l : Lists). AreLate shared l new.folding.reached new.late) (sym lists)
            (subst (AreLate shared (accepted (present_of today shared r.lists) key p) new.folding.reached) (sym committed.late) (owes new.folding.reached reached));
        folding = subst (λ (l : Lists). IsFolding (given_of l shared) new.folding) (sym lists) folding;
      };
      reach = record {
        opened = subst (λ (l : Lists). (anchor_of l.posts).opened ≤ today) (sym lists) all.opened;
        later = omega (arith, reached, later);
        accepted = subst (λ (l : Lists). last_accepted l.posts ≤ today) (sym lists) all.last;
        last = may.last;
      };
    }

-- ---- prepared
pub is-prepared : (shared : SharedRows) (today : ℕ) (key : List ℕ) (p : Post) (c : Change) (r : Replay) → IsReplay shared r → MayReach today r → r.has_room ≡ true → IsChangeOf key today p c
    → (c.owes ≡ None → issued_as c.issued ≡ issues (present_of today shared r.lists) p) → StaysLate shared key today p c r → reason_against (present_of today shared r.lists) p ≡ None
    → IsSound (given_of (accepted (present_of today shared r.lists) key p) shared) → IsRewoundBy shared today key p c.rewound r → IsPrepared shared c r
is-prepared shared today key p c r h may room is issued owes none sound rewound =
    let now = present_of today shared r.lists in
    let last = may.last in
    let day = is.today in
    record {
      replay = h;
      reach = subst (λ d. MayReach d r) (sym day) may;
      added = record {
        room = room;
        few = few now p none;
        target = subst (λ (q : Post). target_of q ≤ length r.lists.posts) (sym is.post) (target_there now p none);
        dated = omega (arith, last, day);
        received = subst (λ (q : Post). IsReceived (anchor_of r.lists.posts).opened c.today q) (sym is.post) (subst (λ d. IsReceived (anchor_of r.lists.posts).opened d p) (sym day) (received now p none));
      };
      issued = λ made. issued made ∙ sym (issues-same shared today key p c r.lists is);
      next = λ new committed. (committed-stands shared today key p c r new h may is owes none sound rewound committed).replay;
      reach_next = λ new committed. subst (λ d. MayReach d new) (sym day) (committed-stands shared today key p c r new h may is owes none sound rewound committed).reach;
      near = λ new committed.
          subst (λ (l : Lists). IsNear shared r.lists l r.folding.reached new.folding.reached) (sym (committed-lists shared today key p c r new is committed))
          (rewound.near new.folding committed.folding);
    }
