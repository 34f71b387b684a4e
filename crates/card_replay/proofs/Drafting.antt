-- Going back behind a post that is entered for a while.
use Rattle.std.proofs.Common.{◌≡◌, ℕ, ◌+◌, ◌<◌, ◌≤◌, ◌⊎◌, inl, inr, Bool, true, false, cond, nat_le, List, [], ◌∷◌, ◌++◌, length, refl, sym, ap, ◌∙◌, subst, arith, Option, Some, None, Result, Ok, Err}
use Rattle.std.specs.Prelude.{◌-◌, ◌==◌, ◌||◌, IfOk}
use Rattle.std.proofs.lemmas.Bool.{cases_lt, eqb-true, leb-false}
use Rattle.card_events.specs.Billing.{cycle_of}
use Rattle.card_events.specs.declared.anchor.Anchor.{Anchor}
use Rattle.card_events.specs.History.{CorrectedPost, anchor_of, corrected}
use Rattle.card_events.specs.SharedRows.{SharedRows}
use Rattle.card_events.specs.declared.kept.Kept.{Kept}
use Rattle.card_events.specs.declared.post.Post.{Post}
use Rattle.card_model.specs.Cycles.{IssuedRow}
use Rattle.card_model.specs.Machine.{accepted, kept_as}
use Rattle.card_model.specs.Unread.{is_unread}
use Rattle.card_posts.specs.Change.{IsFirstChange, on, up_to}
use Rattle.card_posts.specs.Draft.{IsDraft, IsFirstWith}
use Rattle.card_posts.specs.Posted.{Posted, StandsFor}
use Rattle.card_posts.specs.declared.draft.Draft.{Draft}
use Rattle.card_book.specs.GoingOn.{sets_rates}
use Rattle.card_book.specs.Stands.{Summary, day_to_fold}
use Rattle.card_daily.specs.Given.{Given, IsSound, opened_in}
use Rattle.card_book.specs.Rewound.{AreFolded}
use Rattle.card_replay.proofs.Again.{closed-at, folded-before, number-is}
use Rattle.card_replay.proofs.Changed.{anchor-stays, same-anchor}
use Rattle.card_replay.proofs.Committing.{again-rewound, given_with, late-rewound, with-post, with_post}
use Rattle.card_replay.proofs.LateChange.{late-stands}
use Rattle.card_replay.proofs.LaterRows.{some-posts}
use Rattle.card_past.proofs.Through.{last-is}
use Rattle.card_replay.proofs.Unread.{begun-on}
use Rattle.card_replay.specs.Changes.{IsRewoundBy, MayPrepare}
use Rattle.card_replay.specs.Rewinds.{IsAgain, IsBeforeChange, IsOneMore, MayGoBackOn, cycle_before}
use Rattle.card_book.specs.Laws.{is_bill}
use Rattle.card_replay.specs.Needs.{needs_today}
use Rattle.card_replay.specs.Replays.{IsFolding, IsReplay, IsWhole, Replay, Stands, day_of, given_of, posted_of, present_of}
use Rattle.card_replay.specs.Steps.{IsFirstBetween, first_in_cycle}
use Rattle.card_replay.specs.declared.change.TakenBack.{TakenBack}

-- ---- the account with the post among the others
-- the draft, its first changed day, and the inputs with it
pub record IsDrafted (shared : SharedRows) (today : ℕ) (key : List ℕ) (p : Post) (r : Replay) (old new : Posted) (rows : List IssuedRow) (d : Draft) : Type 0 where
  pub draft : IsDraft (kept_as (length r.lists.posts + 1) key today p) old new d
  pub inputs : given_with new.history rows shared ≡ with_post r.lists key today p shared
  pub more : IsOneMore (given_of r.lists shared) (with_post r.lists key today p shared) p d.from

pub drafted : (shared : SharedRows) (today : ℕ) (key name : List ℕ) (p : Post) (r : Replay) (old new : Posted) (rows : List IssuedRow) (d : Draft) → IsReplay shared r → is_unread p ≡ false
    → IsSound (given_of (accepted (present_of today shared r.lists) key p) shared) → old.history ≡ r.lists.posts → old.corrected ≡ r.corrected → rows ≡ r.lists.issued → name ≡ key
    → IsDraft (kept_as (length old.history + 1) name today p) old new d → StandsFor shared.holidays new → IsDrafted shared today key p r old new rows d
drafted shared today key name p r old new rows d h u sound posts kept issued named is stands =
    let k = kept_as (length r.lists.posts + 1) key today p in
    let same : kept_as (length old.history + 1) name today p ≡ k =
    ap (λ (hs : List Kept). kept_as (length hs + 1) name today p) posts ∙ ap (λ n. kept_as (length r.lists.posts + 1) n today p) named in
    let draft = subst (λ kept. IsDraft kept old new d) same is in
    let before : old.corrected ≡ corrected (anchor_of r.lists.posts) shared.holidays r.lists.posts = kept ∙ h.corrected in
    let history : new.history ≡ r.lists.posts ++ k ∷ [] = draft.history ∙ ap (λ hs. hs ++ k ∷ []) posts in
    let after : new.corrected ≡ corrected (anchor_of (r.lists.posts ++ k ∷ [])) shared.holidays (r.lists.posts ++ k ∷ []) = stands ∙ ap (λ hs. corrected (anchor_of hs) shared.holidays hs) history in
    record {
      draft = draft;
      inputs = ap (λ hs. given_with hs rows shared) history ∙ ap (λ is. given_with (r.lists.posts ++ k ∷ []) is shared) issued;
      more = record {
        kept = k;
        post = refl;
        history = refl;
        issued = refl;
        shared = refl;
        sound_before = h.sound;
        sound = subst IsSound (with-post shared today key p r.lists u) sound;
        first = subst (λ cs. IsFirstChange d.from cs (corrected (anchor_of (r.lists.posts ++ k ∷ [])) shared.holidays (r.lists.posts ++ k ∷ []))) before (subst (λ cs. IsFirstChange d.from old.corrected cs) after draft.from);
      };
    }

pub before-change : (shared : SharedRows) (today : ℕ) (key : List ℕ) (p : Post) (r : Replay) (from : ℕ) (b : Summary) → IsReplay shared r → IsOneMore (given_of r.lists shared) (with_post r.lists key today p shared) p from → from ≤ r.folding.reached → r.folding.book ≡ Some b
    → IsBeforeChange (given_of r.lists shared) (with_post r.lists key today p shared) p from r.folding.reached b r.folding.past
before-change shared today key p r from b h more l is =
    let g = given_of r.lists shared in
    let folding = h.folding in
    record {
      changes = record { more = more; within = l; last = h.dated };
      folding = record {
        day = subst (λ o. day_to_fold g (day_of o) ≡ r.folding.reached + 1) is folding.day;
        whole = subst IsWhole is folding.whole;
        stands = subst (λ o. Stands g o r.folding.past.track) is folding.stands;
        marks = folding.marks;
        eve = tt;
      };
    }

-- ---- the account with a post whose first changed day is told
pub first-with : (shared : SharedRows) (today : ℕ) (key : List ℕ) (p : Post) (r : Replay) (from : ℕ) → IsReplay shared r → IsFirstWith shared.holidays today p (posted_of r) from
    → IsFirstChange from (corrected (anchor_of r.lists.posts) shared.holidays r.lists.posts) (corrected (anchor_of (with_post r.lists key today p shared).history) shared.holidays (with_post r.lists key today p shared).history)
first-with shared today key p r from h first =
    let posts = r.lists.posts in
    let k = kept_as (length posts + 1) key today p in
    let same = same-anchor posts k (some-posts posts h.sound.opening) in
    subst (λ (a : Anchor). IsFirstChange from (corrected (anchor_of posts) shared.holidays posts) (corrected a shared.holidays (posts ++ k ∷ []))) (sym same)
    (subst (λ cs. IsFirstChange from cs (corrected (anchor_of posts) shared.holidays (posts ++ k ∷ []))) h.corrected (first key))

pub more-told : (shared : SharedRows) (today : ℕ) (key : List ℕ) (p : Post) (r : Replay) (from : ℕ) → MayPrepare shared today key p r → IsFirstWith shared.holidays today p (posted_of r) from
    → IsOneMore (given_of r.lists shared) (with_post r.lists key today p shared) p from
more-told shared today key p r from h first =
    record {
      kept = kept_as (length r.lists.posts + 1) key today p;
      post = refl;
      history = refl;
      issued = refl;
      shared = refl;
      sound_before = h.replay.sound;
      sound = subst IsSound (with-post shared today key p r.lists h.read) h.sound;
      first = first-with shared today key p r from h.replay first;
    }

-- before it, where it isn't after the day reached, and behind which closing it lies
pub record IsTold (shared : SharedRows) (today : ℕ) (key : List ℕ) (p : Post) (r : Replay) (from cycle : ℕ) (b : Summary) : Type 0 where
  pub more : IsOneMore (given_of r.lists shared) (with_post r.lists key today p shared) p from
  pub before : IsBeforeChange (given_of r.lists shared) (with_post r.lists key today p shared) p from r.folding.reached b r.folding.past
  pub number : cycle ≡ cycle_before (with_post r.lists key today p shared) from
  pub folded : AreFolded b r.folding.past.track
  pub closed : cycle ≤ length r.folding.past.track.cycles.items
  pub marked : length r.folding.past.since.items ≡ length r.folding.past.track.cycles.items

pub told : (shared : SharedRows) (today : ℕ) (key : List ℕ) (p : Post) (r : Replay) (from : ℕ) (b : Summary) {cycle : ℕ} {a : Anchor} → MayPrepare shared today key p r → IsFirstWith shared.holidays today p (posted_of r) from
    → from ≤ r.folding.reached → r.folding.book ≡ Some b → cycle ≡ cycle_of a from - 1 → a ≡ anchor_of r.lists.posts → IsTold shared today key p r from cycle b
told shared today key p r from b h first l is number anchor =
    let g = with_post r.lists key today p shared in
    let more = more-told shared today key p r from h first in
    let before = before-change shared today key p r from b h.replay more l is in
    let same = number-is g from number (anchor ∙ sym (anchor-stays (given_of r.lists shared) g p from more)) in
    record {
      more = more;
      before = before;
      number = same;
      folded = folded-before before;
      closed = closed-at before same;
      marked = before.folding.marks.count;
    }

-- ---- the first changed day
-- the posts of a day are among those up to it
on-up-to : (day : ℕ) (xs : List CorrectedPost) → on day (up_to day xs) ≡ on day xs
on-up-to day [] = refl
on-up-to day (x ∷ xs) = by (nat_le x.day day) refl (x.day == day) refl (on-up-to day xs)
  where
    by : (s : Bool) → nat_le x.day day ≡ s → (t : Bool) → (x.day == day) ≡ t → on day (up_to day xs) ≡ on day xs
        → on day (cond s (x ∷ up_to day xs) (up_to day xs)) ≡ cond t (x ∷ on day xs) (on day xs)
    by true e true f h = rw f (ap (λ l. x ∷ l) h)
    by true e false f h = rw f h
    by false e true f h = let late = leb-false x.day day e in let same = eqb-true x.day day f in absurd (omega (arith, late, same))
    by false e false f h = h

-- there is one
same-first : (a b : ℕ) (old new : List CorrectedPost) → IsFirstChange a old new → IsFirstChange b old new → b ≤ a
same-first a b old new h k = by (cases_lt a b)
  where
    by : (a < b) ⊎ (b ≤ a) → b ≤ a
    by (inr l) = l
    by (inl l) = absurd (h.differs (sym (on-up-to a new) ∙ (ap (on a) (k.before a l) ∙ on-up-to a old)))

one-first : (a b : ℕ) (old new : List CorrectedPost) → IsFirstChange a old new → IsFirstChange b old new → a ≡ b
one-first a b old new h k = let low = same-first a b old new h k in let high = same-first b a old new k h in omega (arith, low, high)

-- so the last closing before it is the one that was meant
near-first : (shared : SharedRows) (today : ℕ) (key : List ℕ) (p : Post) (r : Replay) (from day : ℕ) (x : TakenBack) → is_unread p ≡ false → IsOneMore (given_of r.lists shared) (with_post r.lists key today p shared) p from
    → IsAgain (with_post r.lists key today p shared) from r.folding.reached r.folding.past x → IsFirstBetween shared r.lists (accepted (present_of today shared r.lists) key p) day
    → first_in_cycle (anchor_of r.lists.posts) day ≤ day_to_fold (with_post r.lists key today p shared) (day_of x.book)
near-first shared today key p r from day x u more again first =
    let g = with_post r.lists key today p shared in
    let there = subst (λ y. IsFirstChange day (corrected (anchor_of r.lists.posts) shared.holidays r.lists.posts) (corrected (anchor_of y.history) shared.holidays y.history)) (with-post shared today key p r.lists u) first in
    let is : from ≡ day = one-first from day _ _ more.first there in
    subst (λ d. first_in_cycle (anchor_of r.lists.posts) d ≤ day_to_fold g (day_of x.book)) is
    (subst (λ (a : Anchor). first_in_cycle a from ≤ day_to_fold g (day_of x.book)) (anchor-stays (given_of r.lists shared) g p from more) again.near)

-- ---- what it is taken back to
pub made-rewound : (shared : SharedRows) (today : ℕ) (key : List ℕ) (p : Post) (r : Replay) (from : ℕ) (x : TakenBack) → MayPrepare shared today key p r → IsOneMore (given_of r.lists shared) (with_post r.lists key today p shared) p from
    → IsAgain (with_post r.lists key today p shared) from r.folding.reached r.folding.past x → IsRewoundBy shared today key p (Some x) r
made-rewound shared today key p r from x h more again =
    again-rewound shared today key p r from x h.read h.replay.sound.opening again (λ day first. near-first shared today key p r from day x h.read more again first)

pub result-rewound : {E : Type 0} (shared : SharedRows) (today : ℕ) (key : List ℕ) (p : Post) (r : Replay) (from : ℕ) (result : Result TakenBack E) → MayPrepare shared today key p r
    → IsOneMore (given_of r.lists shared) (with_post r.lists key today p shared) p from → IfOk result (IsAgain (with_post r.lists key today p shared) from r.folding.reached r.folding.past)
    → IfOk result (λ made. IsRewoundBy shared today key p (Some made) r)
result-rewound shared today key p r from (Ok made) h more again = made-rewound shared today key p r from made h more again
result-rewound shared today key p r from (Err e) h more again = tt

-- with no post entered
pub back-rewound : (shared : SharedRows) (today : ℕ) (key : List ℕ) (p : Post) (r : Replay) (from cycle : ℕ) (b : Summary) (x : TakenBack) → MayPrepare shared today key p r → sets_rates p ≡ false → IsTold shared today key p r from cycle b
    → ((old g : Given) (q : Post) (reached : ℕ) → MayGoBackOn old g q from cycle reached b r.folding.past r.folding.eve → IsAgain g from reached r.folding.past x) → IsRewoundBy shared today key p (Some x) r
back-rewound shared today key p r from cycle b x h plain is again =
    made-rewound shared today key p r from x h is.more
    (again (given_of r.lists shared) (with_post r.lists key today p shared) p r.folding.reached (record { before = is.before; stood = h.replay.folding.eve; number = is.number; plain = plain }))

-- to nothing, where it changes only days that aren't folded
late-rewound-by : (shared : SharedRows) (today : ℕ) (key : List ℕ) (p : Post) (r : Replay) (from : ℕ) (o : Option ℕ) → day_of r.folding.book ≡ o → MayPrepare shared today key p r → IsFirstWith shared.holidays today p (posted_of r) from
    → ((day : ℕ) → day_of r.folding.book ≡ Some day → day < from) → IsFolding (with_post r.lists key today p shared) r.folding
late-rewound-by shared today key p r from (Some day) is h first late =
    let g = given_of r.lists shared in
    let same = last-is g (day_of r.folding.book) r.folding.reached day h.replay.folding.day is in
    let l = late day is in
    late-stands (present_of today shared r.lists) g (with_post r.lists key today p shared) p from r.folding h.no_reason (omega (arith, same, l)) h.ready (more-told shared today key p r from h first) h.replay.folding
late-rewound-by shared today key p r from None is h first late =
    let g = given_of r.lists shared in
    let more = more-told shared today key p r from h first in
    let here : day_to_fold g (day_of r.folding.book) ≡ opened_in g = ap (day_to_fold g) is in
    let day = h.replay.folding.day in
    let opened = h.reach.opened in
    begun-on g (with_post r.lists key today p shared) r.folding more.kept more.sound_before more.sound more.history
    (ap sets_rates more.post ∙ plain-by p (λ needs. let ready = h.ready needs in omega (arith, here, day, opened, ready)) (sets_rates p) refl) is h.replay.folding
  where
    plain-by : (p : Post) → (needs_today p ≡ true → ⊥) → (s : Bool) → sets_rates p ≡ s → sets_rates p ≡ false
    plain-by p never false e = e
    plain-by p never true e = absurd (never (ap (λ b. b || is_bill p) e))

pub later-rewound : (shared : SharedRows) (today : ℕ) (key : List ℕ) (p : Post) (r : Replay) (from : ℕ) → MayPrepare shared today key p r → IsFirstWith shared.holidays today p (posted_of r) from
    → ((day : ℕ) → day_of r.folding.book ≡ Some day → day < from) → IsRewoundBy shared today key p None r
later-rewound shared today key p r from h first late = late-rewound shared today key p r h.read (late-rewound-by shared today key p r from (day_of r.folding.book) refl h first late)
