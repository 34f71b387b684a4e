-- The rows that are owed are left to make for a copy of what is recorded.
use Rattle.std.proofs.Common.{◌≡◌, Bool, true, false, ℕ, ◌+◌, ◌≤◌, inl, inr, [], refl, ap, ◌∙◌, arith, not, ◌&&◌, Result, Ok, Err}
use Rattle.std.specs.Prelude.{IsErr, OnErr, OnOk}
use Rattle.card_events.specs.SharedRows.{SharedRows}
use Rattle.card_replay.proofs.Lates.{late_rows_can_be_made}
use Rattle.card_replay.proofs.Reached.{folding-back, past_back}
use Rattle.card_replay.specs.Making.{AreToMakeBeside}
use Rattle.card_replay.specs.Owes.{Late, bills_in}
use Rattle.card_replay.specs.Replays.{IsReplay, MakesAllOrNone, MayReach, Replay, given_of}

pub left-beside : (shared : SharedRows) (r : Replay) (today : ℕ) → IsReplay shared r → MayReach today r
    → AreToMakeBeside shared r.lists.posts r.lists.issued r.late.made (bills_in r.late.owed) today r.folding.book r.folding.past
left-beside shared r today h may copied same =
    late_rows_can_be_made shared r.lists r.late (past_back r.folding copied) today h.sound.opening h.late
    (folding-back (given_of r.lists shared) r.folding copied same h.folding) may.accepted

-- ---- results
pub any-ok : {T E : Type 0} (r : Result T E) (P : Type 0) → P → OnOk r P
any-ok (Ok x) P p = p
any-ok (Err e) P p = tt

pub any-err : {T E : Type 0} (r : Result T E) (P : Type 0) → P → OnErr r P
any-err (Ok x) P p = tt
any-err (Err e) P p = p

pub no-answer : {T E : Type 0} (r : Result T E) (P : Type 0) → IsErr r → OnOk r P
no-answer (Ok x) P is = absurd (cc)
no-answer (Err e) P is = tt

-- ---- all or none
-- all that was owed is made where the answer is there; after a want of memory what is made and owed is as it was
pub all-or-none : {T E : Type 0} (r : Result T E) (old new : Late) → OnOk r (new.owed ≡ []) → OnErr r (new ≡ old) → MakesAllOrNone old new
all-or-none (Ok x) old new none same = inr none
all-or-none (Err e) old new none same = inl same

-- one after the other
pub all-then : (a b c : Late) → MakesAllOrNone a b → MakesAllOrNone b c → MakesAllOrNone a c
all-then a b c (inl e) (inl f) = inl (f ∙ e)
all-then a b c (inl e) (inr n) = inr n
all-then a b c (inr m) (inl f) = inr (ap (λ (l : Late). l.owed) f ∙ m)
all-then a b c (inr m) (inr n) = inr n

-- if nothing was owed, nothing is
pub none-then : (a b : Late) → MakesAllOrNone a b → a.owed ≡ [] → b.owed ≡ []
none-then a b (inl e) n = ap (λ (l : Late). l.owed) e ∙ n
none-then a b (inr m) n = m

-- ---- the two counts together
-- of a post that asks for today none is put off; else none is its own
pub both-within : (needs : Bool) (before after from to left mid : ℕ) → after ≤ before + left → to ≤ from + mid → (needs ≡ true → to ≡ from) → (needs ≡ false → after ≡ before) → (needs ≡ false → mid ≡ left)
    → after + to ≤ before + from + left
both-within true before after from to left mid l m none same is = let e = none refl in omega (arith, l, e)
both-within false before after from to left mid l m none same is = let e = same refl in let f = is refl in omega (arith, m, e, f)

pub makes-none : (needs unread : Bool) (P : Type 0) → (needs ≡ true → P) → (unread ≡ true → P) → not needs && not unread ≡ false → P
makes-none true unread P now skips e = now refl
makes-none false true P now skips e = skips refl
makes-none false false P now skips e = absurd (cc)
