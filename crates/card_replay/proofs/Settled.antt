-- Where no statement is owed, what is made is all that was issued.
use Rattle.std.proofs.Common.{◌≡◌, ℕ, ◌<◌, ◌≤◌, true, false, List, [], ◌∷◌, ◌++◌, append-nil, length, refl, sym, ap, ◌∙◌, arith}
use Rattle.std.specs.Global.{Vec}
use Rattle.std.specs.Prelude.{map, ◌==◌}
use Rattle.std.specs.Vec.{vec_len}
use Rattle.std.proofs.lemmas.Bool.{eqb-true, false≢true}
use Rattle.std.specs.List.{All}
use Rattle.std.proofs.lemmas.List.Elements.{All-head, All-nil, All-weaker}
use Rattle.card_billed.specs.Unmade.{AreUnmade}
use Rattle.card_events.specs.History.{anchor_of}
use Rattle.card_events.specs.SharedRows.{SharedRows}
use Rattle.card_events.specs.declared.anchor.Anchor.{Anchor}
use Rattle.card_model.specs.Cycles.{IssuedRow}
use Rattle.card_model.specs.Refusals.{Lists}
use Rattle.card_posts.specs.Posted.{last_accepted}
use Rattle.card_replay.proofs.Lates.{earlier-day}
use Rattle.card_replay.specs.Owes.{AreLate, AreLater, Late, owed_by}
use Rattle.card_replay.specs.Replays.{IsReplay, MayReach, Replay}
use Rattle.card_past.specs.declared.owed.Owed.{Owed}

none-behind : (reached : ℕ) (rest : List IssuedRow) → All (λ r. reached < r.day) rest → All (λ r. r.day ≤ reached) rest → rest ≡ []
none-behind reached [] ahead within = refl
none-behind reached (r ∷ rest) ahead within =
    let above = All-head (λ (x : IssuedRow). reached < x.day) r rest ahead in
    let below = All-head (λ (x : IssuedRow). x.day ≤ reached) r rest within in
    absurd (omega (arith, above, below))

none-owed : (a : Anchor) (rest : List IssuedRow) → [] ≡ map (owed_by a) rest → rest ≡ []
none-owed a [] e = refl
none-owed a (r ∷ rest) e = let no : [] ≡ owed_by a r ∷ map (owed_by a) rest = e in absurd (cc)

pub record IsSettledOn (lists : Lists) (late : Late) : Type 0 where
  pub made : late.made ≡ lists.issued
  pub owed : late.owed ≡ []

without-rest : (shared : SharedRows) (lists : Lists) (reached : ℕ) (late : Late) → (h : AreLate shared lists reached late) → h.rest ≡ [] → IsSettledOn lists late
without-rest shared lists reached late h none = record {
  made = sym (h.rows ∙ (ap (λ rest. late.made ++ rest) none ∙ append-nil late.made));
  owed = h.bills ∙ ap (map (owed_by (anchor_of lists.posts))) none;
}

-- no Bill owes one that isn't of a later day than the one reached
pub settled-by-day : (shared : SharedRows) (lists : Lists) (reached : ℕ) (late : Late) → last_accepted lists.posts ≤ reached → AreLate shared lists reached late → IsSettledOn lists late
settled-by-day shared lists reached late last h =
    without-rest shared lists reached late h
    (none-behind reached h.rest h.ahead (All-weaker (λ (r : IssuedRow). r.day ≤ last_accepted lists.posts) (λ (r : IssuedRow). r.day ≤ reached) (λ r l. omega (arith, l, last)) h.rest h.accepted))

pub settled-today : (shared : SharedRows) (today : ℕ) (r : Replay) → IsReplay shared r → MayReach today r → r.folding.reached ≡ today → IsSettledOn r.lists r.late
settled-today shared today r h may reached = let last = may.accepted in settled-by-day shared r.lists r.folding.reached r.late (omega (arith, last, reached)) h.late

-- nor where none is in the list
pub settled-by-list : (shared : SharedRows) (lists : Lists) (reached : ℕ) (late : Late) → late.owed ≡ [] → AreLate shared lists reached late → IsSettledOn lists late
settled-by-list shared lists reached late none h = without-rest shared lists reached late h (none-owed (anchor_of lists.posts) h.rest (sym none ∙ h.bills))

-- ---- and the other way round
pub all-made : (shared : SharedRows) (lists : Lists) (reached : ℕ) (late : Late) → late.made ≡ lists.issued → late.owed ≡ [] → AreLate shared lists reached late
unfolding AreUnmade AreLater
all-made shared lists reached late made none = record {
  rest = [];
  rows = sym made ∙ sym (append-nil late.made);
  bills = none;
  unmade = tt;
  later = tt;
  ahead = All-nil (λ (r : IssuedRow). reached < r.day);
  accepted = All-nil (λ (r : IssuedRow). r.day ≤ last_accepted lists.posts);
}

-- they stay late where the account goes back
pub late-earlier : (shared : SharedRows) (lists : Lists) (before after : ℕ) (late : Late) → after ≤ before → AreLate shared lists before late → AreLate shared lists after late
late-earlier shared lists before after late l h = record {
  rest = h.rest;
  rows = h.rows;
  bills = h.bills;
  unmade = h.unmade;
  later = earlier-day (anchor_of lists.posts).opened before after h.rest l h.later;
  ahead = All-weaker (λ (r : IssuedRow). before < r.day) (λ (r : IssuedRow). after < r.day) (λ r m. omega (arith, l, m)) h.rest h.ahead;
  accepted = h.accepted;
}

-- ---- the list
no-items : {A : Type 0} (xs : List A) → length xs ≡ 0 → xs ≡ []
no-items [] e = refl
no-items (x ∷ xs) e = absurd (omega (arith, e))

pub none-listed : (owed : Vec Owed) → (vec_len owed == 0) ≡ true → owed.items ≡ []
none-listed owed e =
    let ok = owed.ok.0 in
    let none = eqb-true (vec_len owed) 0 e in
    no-items owed.items (omega (arith, ok, none))

pub empty-list : (owed : Vec Owed) → owed.items ≡ [] → (vec_len owed == 0) ≡ false → ⊥
empty-list owed none e =
    let ok = owed.ok.0 in
    let count = ap (λ (os : List Owed). length os) none in
    let zero : vec_len owed ≡ 0 = omega (arith, ok, count) in
    false≢true (sym e ∙ ap (λ n. n == 0) zero)
