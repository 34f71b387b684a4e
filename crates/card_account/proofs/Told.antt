-- An account that is told of: what its fold asks for, what it has after its replay was folded on, and the steps that are left.
use Rattle.std.proofs.Common.{◌≡◌, ℕ, ◌+◌, ◌≤◌, ◌⊎◌, inl, inr, List, Result, Ok, Err, refl, ap, sym, subst, ◌∙◌, arith}
use Rattle.std.specs.Prelude.{OnOk, OnErr}
use Rattle.card_account.specs.Accounts.{HasTold, IsAccount, IsTold, MayBeFolded, OpenAccount, replay_of, steps_of}
use Rattle.card_book.specs.Stands.{breaks_of}
use Rattle.card_daily.specs.Given.{IsSound, ReachesToday}
use Rattle.card_events.specs.History.{anchor_of, corrected}
use Rattle.card_events.specs.SharedRows.{SharedRows}
use Rattle.card_events.specs.declared.kept.Kept.{Kept}
use Rattle.card_model.proofs.Spans.{spans_are_steps}
use Rattle.card_model.specs.Cycles.{IssuedRow}
use Rattle.card_model.specs.Refusals.{Lists}
use Rattle.card_posts.specs.Posted.{Posted, StandsFor, last_accepted}
use Rattle.card_replay.proofs.Reached.{reach-same}
use Rattle.card_replay.proofs.Settled.{settled-today}
use Rattle.card_past.proofs.Waiting.{front-sound}
use Rattle.card_replay.specs.Replays.{Folding, IsReplay, IsToday, MakesAllOrNone, MayReach, Replay, SameLists, given_of, present_of}

pub may-be-folded : (today : ℕ) (shared : SharedRows) (a : OpenAccount) → IsAccount today shared a → MayBeFolded today shared a
may-be-folded today shared a h = record {
  stands = h.replay.corrected;
  sound = h.replay.sound;
  reached = record { opened = h.reach.opened; accepted = h.reach.accepted; dated = h.reach.last };
}

-- ---- results
pub on-both : {T E : Type 0} (r : Result T E) (P Q R : Type 0) → (P → Q → R) → OnOk r P → OnOk r Q → OnOk r R
on-both (Ok x) P Q R f p q = f p q
on-both (Err e) P Q R f p q = tt

pub on-any : {T E : Type 0} (r : Result T E) (P : Type 0) → P → OnOk r P
on-any (Ok x) P p = p
on-any (Err e) P p = tt

pub on-any-err : {T E : Type 0} (r : Result T E) (P : Type 0) → P → OnErr r P
on-any-err (Ok x) P p = tt
on-any-err (Err e) P p = p

pub turned : (P Q : Type 0) → P ⊎ Q → Q ⊎ P
turned P Q (inl p) = inr p
turned P Q (inr q) = inl q

pub either-of : {T E : Type 0} (r : Result T E) (P Q R : Type 0) → (P → R) → (Q → R) → OnOk r P → OnErr r Q → R
either-of (Ok x) P Q R f g p q = f p
either-of (Err e) P Q R f g p q = g q

-- ---- its parts
-- the lists, by their parts
pub lists-by : (posts : List Kept) (issued : List IssuedRow) (l : Lists) → posts ≡ l.posts → issued ≡ l.issued → record { posts = posts; issued = issued } ≡ l
lists-by posts issued l e f =
    ap (λ (p : List Kept). record { posts = p; issued = issued }) e ∙ ap (λ (i : List IssuedRow). record { posts = l.posts; issued = i }) f

-- the posts stand for their corrected list
pub stands-by : (holidays : List ℕ) (p : Posted) (a : OpenAccount) → p.history ≡ a.named.lists.posts → p.corrected ≡ a.corrected
    → a.corrected ≡ corrected (anchor_of a.named.lists.posts) holidays a.named.lists.posts → StandsFor holidays p
stands-by holidays p a history same h = same ∙ (h ∙ ap (λ (l : List Kept). corrected (anchor_of l) holidays l) (sym history))

-- the account with a name that has a replay
abbrev pub with_replay : List ℕ → Replay → OpenAccount
with_replay name r = record { named = record { name = name; lists = r.lists }; corrected = r.corrected; has_room = r.has_room; late = r.late; folding = r.folding }

-- ---- its rows
-- where it has reached today, all that was issued is made
pub all-made : (today : ℕ) (shared : SharedRows) (a : OpenAccount) → IsAccount today shared a → a.folding.reached ≡ today → a.late.made ≡ a.named.lists.issued
all-made today shared a h reached = (settled-today shared today (replay_of a) h.replay h.reach reached).made

-- a fold of what is made asks for no more
pub made-sound : (today : ℕ) (shared : SharedRows) (a : OpenAccount) → IsAccount today shared a → IsSound (given_of (record { posts = a.named.lists.posts; issued = a.late.made }) shared)
made-sound today shared a h =
    front-sound a.named.lists.posts a.late.made h.replay.late.rest shared
    (subst (λ (rows : List IssuedRow). IsSound (given_of (record { posts = a.named.lists.posts; issued = rows }) shared)) h.replay.late.rows h.replay.sound)

-- whatever the rows are, these posts may be folded to today
pub reaches : (today : ℕ) (shared : SharedRows) (a : OpenAccount) (l : Lists) → l.posts ≡ a.named.lists.posts → IsAccount today shared a → ReachesToday (present_of today shared l)
reaches today shared a l same h = record {
  opened = subst (λ (ks : List Kept). (anchor_of ks).opened ≤ today) (sym same) h.reach.opened;
  accepted = subst (λ (ks : List Kept). last_accepted ks ≤ today) (sym same) h.reach.accepted;
  dated = h.reach.last;
}

-- ---- to tell of it
-- nothing was folded
pub stays-told : (today : ℕ) (shared : SharedRows) (a : OpenAccount) → IsAccount today shared a → IsTold today shared a a
stays-told today shared a h = record { named = refl; corrected = refl; account = h; reached = inr refl; made = inl refl }

-- its replay was folded on, to today if at all
pub told-by : (today : ℕ) (shared : SharedRows) (name : List ℕ) (old new : Replay) → MayReach today old → SameLists old new → IsReplay shared new
    → (new.folding.reached ≡ today) ⊎ (new.folding.reached ≡ old.folding.reached) → MakesAllOrNone old.late new.late
    → IsTold today shared (with_replay name old) (with_replay name new)
told-by today shared name old new reach same replay reached made = record {
  named = ap (λ (l : Lists). record { name = name; lists = l }) same.lists;
  corrected = same.corrected;
  account = record {
    replay = replay;
    reach = record {
      opened = subst (λ (l : Lists). (anchor_of l.posts).opened ≤ today) (sym same.lists) reach.opened;
      later = later reached;
      accepted = subst (λ (l : Lists). last_accepted l.posts ≤ today) (sym same.lists) reach.accepted;
      last = reach.last;
    };
  };
  reached = reached;
  made = made;
}
  where
    later : (new.folding.reached ≡ today) ⊎ (new.folding.reached ≡ old.folding.reached) → new.folding.reached ≤ today
    later (inl e) = omega (arith, e)
    later (inr e) = let low = reach.later in omega (arith, e, low)

-- what it owed was made, and its folding stays
pub told-made : (today : ℕ) (shared : SharedRows) (name : List ℕ) (old new : Replay) → MayReach today old → SameLists old new → IsReplay shared new → new.folding ≡ old.folding
    → MakesAllOrNone old.late new.late → IsTold today shared (with_replay name old) (with_replay name new)
told-made today shared name old new reach same replay folding made = told-by today shared name old new reach same replay (inr (ap (λ (f : Folding). f.reached) folding)) made

-- all that it owed is made where today is reached; after a want of memory what is made and owed is as it was
pub all-or-none : {T E : Type 0} (r : Result T E) (today : ℕ) (shared : SharedRows) (old new : Replay) → MayReach today old → SameLists old new → IsReplay shared new
    → OnOk r (new.folding.reached ≡ today) → OnErr r (new.late ≡ old.late) → MakesAllOrNone old.late new.late
all-or-none r today shared old new reach same replay = either-of r (new.folding.reached ≡ today) (new.late ≡ old.late) (MakesAllOrNone old.late new.late)
    (λ reached. inr (settled-today shared today new replay (reach-same today old new same (omega (arith, reached)) reach) reached).owed) (λ e. inl e)

pub has-told : (today : ℕ) (shared : SharedRows) (old new : OpenAccount) → IsTold today shared old new → new.folding.reached ≡ today → HasTold today shared old new
has-told today shared old new told reached = record { told = told; reached = reached }

-- what has reached today, as its replay says it
pub is-today : (today : ℕ) (shared : SharedRows) (old new : OpenAccount) → HasTold today shared old new → IsToday today shared (replay_of new)
is-today today shared old new h = record { replay = h.told.account.replay; reached = h.reached; opened = h.told.account.reach.opened }

-- ---- steps
no-more : (before after x y : ℕ) → after ≡ before + x → y ≡ 0 → after + y ≤ before + x
no-more before after x y e f = omega (arith, e, f)

-- none are left where it has reached today
pub none-left : (today : ℕ) (shared : SharedRows) (a : OpenAccount) → a.folding.reached ≡ today → steps_of today shared a ≡ 0
none-left today shared a is = spans_are_steps.none (breaks_of (given_of a.named.lists shared) today) (a.folding.reached + 1) today (omega (arith, is))

-- so those that were left are spent
pub spent-by : (today : ℕ) (shared : SharedRows) (old new : OpenAccount) (before after : ℕ) → after ≡ before + steps_of today shared old → new.folding.reached ≡ today
    → after + steps_of today shared new ≤ before + steps_of today shared old
spent-by today shared old new before after e reached = no-more before after (steps_of today shared old) (steps_of today shared new) e (none-left today shared new reached)
