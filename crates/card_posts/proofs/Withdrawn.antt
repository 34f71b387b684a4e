-- A post that is entered for a while, and taken back.
use Rattle.std.proofs.Common.{◌≡◌, ℕ, ◌+◌, ◌-◌, ◌≤◌, Bool, true, false, List, [], ◌∷◌, take, length, length-append, Option, Some, None, refl, sym, ap, ◌∙◌, subst, arith}
use Rattle.card_events.specs.declared.anchor.Anchor.{Anchor}
use Rattle.card_events.specs.History.{CorrectedPost, anchor_of, corrected}
use Rattle.card_events.specs.Keys.{with_key}
use Rattle.card_events.specs.declared.kept.Kept.{Kept}
use Rattle.card_events.specs.declared.kept.Slot.{Slot}
use Rattle.card_posts.specs.Change.{IsFirstChange}
use Rattle.card_posts.specs.Draft.{HasSpareIfNone, IsCopyIfAny, IsDraft, IsRoomyIfAny, StoodIfAny, corrections_before, effects_before, slots_before}
use Rattle.card_posts.specs.Corrections.{corrects}
use Rattle.card_posts.specs.Effect.{corrected_with}
use Rattle.card_posts.specs.Later.{HasSpare, Later}
use Rattle.card_posts.specs.Posted.{Posted, StandsFor, target_of}
use Rattle.card_posts.specs.Stored.{AreBeside, IsKept, NameEarlier, ends_correcting}
use Rattle.card_posts.specs.declared.correction.Correction.{Correction}
use Rattle.card_posts.specs.declared.draft.Beside.{Beside}
use Rattle.card_posts.specs.declared.draft.Draft.{Draft}
use Rattle.card_posts.specs.declared.effect.Effect.{Effect}
use Rattle.card_posts.proofs.Following.{same-anchor}
use Rattle.card_posts.proofs.Fronts.{beside-front, kept-front, plain-corrected, pop-front, with-front}
use Rattle.card_events.proofs.OneMore.{more}

-- what clauses see of posts that are stored
abbrev pub posted_of : List Kept → List Effect → Bool → Posted
posted_of h es room = record { history = h; corrected = corrected_with 1 5 h es; has_room = room }

-- the last post is one that corrects others, or not
pub ends-more : (h : List Kept) (k : Kept) → ends_correcting (more h k) ≡ corrects k.post
unfolding ends_correcting
ends-more [] k = refl
ends-more (q ∷ []) k = refl
ends-more (q ∷ p ∷ h) k = ends-more (p ∷ h) k

-- ---- entered
stood-if-any : (holidays : List ℕ) (k : Kept) (old new : Posted) (cs : List Correction) (es : List Effect) (slots : List Slot) (o : Option Beside)
    → 1 ≤ length old.history → NameEarlier 1 old.history → target_of k.post ≤ length old.history → AreBeside old.history cs es slots → old.corrected ≡ corrected_with 1 5 old.history es
    → StandsFor holidays old → StandsFor holidays new → new.history ≡ more old.history k → IsCopyIfAny k.post cs es slots o → StoodIfAny k old new o
stood-if-any holidays k old new cs es slots None some names target b is stood stands added made =
    let h : List Kept = old.history in
    let all : new.corrected ≡ corrected (anchor_of h) holidays (more h k) = stands ∙ (ap (λ u. corrected (anchor_of u) holidays u) added ∙ ap (λ a. corrected a holidays (more h k)) (sym (same-anchor h k some))) in
    record {
      plain = made;
      others = ap (take (length h)) all ∙ (plain-corrected (anchor_of h) holidays h k names target made ∙ sym stood);
    }
stood-if-any holidays k old new cs es slots (Some c) some names target b is stood stands added made = record {
  beside = rw (made.correction_items, made.effect_items, made.slot_items) b;
  corrected = is ∙ ap (corrected_with 1 5 old.history) (sym made.effect_items);
  room = made.room;
}

pub drafted : (a : Anchor) (holidays : List ℕ) (k : Kept) (old new : Posted) (d : Draft) (g : List Kept) (cs ds : List Correction) (es fs : List Effect) (slots rows : List Slot) (room : Bool)
    → posted_of g es room ≡ old → IsKept a g → AreBeside g cs es slots → old.has_room ≡ true → with_key k.key old.history ≡ None → target_of k.post ≤ length old.history
    → StandsFor holidays old → StandsFor holidays new → new.history ≡ more old.history k → IsFirstChange d.from old.corrected new.corrected
    → ds ≡ cs → fs ≡ es → rows ≡ slots → IsCopyIfAny k.post ds fs rows d.before → IsDraft k old new d
drafted a holidays k old new d g cs ds es fs slots rows room view kept b roomy fresh target stood stands added from corrections_are effects_are slots_are made =
    let same : g ≡ old.history = ap (λ (p : Posted). p.history) view in
    let is : old.corrected ≡ corrected_with 1 5 old.history es = sym (ap (λ (p : Posted). p.corrected) view) ∙ ap (λ u. corrected_with 1 5 u es) same in
    let some : 1 ≤ length old.history = subst (λ (u : List Kept). 1 ≤ length u) same kept.some in
    let names : NameEarlier 1 old.history = subst (λ u. NameEarlier 1 u) same kept.names in
    let beside : AreBeside old.history ds fs rows = rw (corrections_are, effects_are, slots_are) (subst (λ u. AreBeside u cs es slots) same b) in
    let counts : old.corrected ≡ corrected_with 1 5 old.history fs = is ∙ ap (corrected_with 1 5 old.history) (sym effects_are) in
    record {
      some = some;
      room = roomy;
      fresh = fresh;
      history = added;
      stood = stood-if-any holidays k old new ds fs rows d.before some names target beside counts stood stands added made;
      from = from;
    }

-- ---- taken back
pub roomy_if_any : (k : Kept) (old new : Posted) (o : Option Beside) → StoodIfAny k old new o → IsRoomyIfAny o
roomy_if_any k old new None s = tt
roomy_if_any k old new (Some b) s = s.room

history-back : (g h old : List Kept) (k : Kept) (n : ℕ) → g ≡ more old k → n ≡ length g → h ≡ take (n - 1) g → h ≡ old
history-back g h old k n added count is = is ∙ (ap (take (n - 1)) added ∙ pop-front old k n (count ∙ ap length added))

-- the corrected list is as it was
corrected-back : (k : Kept) (old new : Posted) (es : List Effect) (o : Option Beside) → new.history ≡ more old.history k → new.corrected ≡ corrected_with 1 5 new.history es → length es ≡ length new.history → StoodIfAny k old new o
    → corrected_with 1 5 old.history (effects_before o es) ≡ old.corrected
corrected-back k old new es None added is long s =
    let longer : length (more old.history k) ≡ length old.history + 1 = length-append old.history (k ∷ []) in
    let all : length new.history ≡ length (more old.history k) = ap length added in
    let count : length es - 1 ≡ length old.history = omega (arith, longer, all, long) in
    ap (λ n. corrected_with 1 5 old.history (take n es)) count
    ∙ (sym (with-front 1 5 old.history k es)
    ∙ (ap (λ h. take (length old.history) (corrected_with 1 5 h es)) (sym added) ∙ (ap (take (length old.history)) (sym is) ∙ s.others)))
corrected-back k old new es (Some b) added is long s = sym s.corrected

beside-back : (k : Kept) (old new : Posted) (cs : List Correction) (es : List Effect) (slots : List Slot) (o : Option Beside)
    → NameEarlier 1 (more old.history k) → AreBeside (more old.history k) cs es slots → StoodIfAny k old new o → AreBeside old.history (corrections_before o cs) (effects_before o es) (slots_before o es)
beside-back k old new cs es slots None names b s = beside-front old.history k cs es slots names s.plain b
beside-back k old new cs es slots (Some c) names b s = s.beside

pub posted-back : (k : Kept) (old new : Posted) (d : Draft) (g h : List Kept) (es fs : List Effect) (room : Bool) (n : ℕ)
    → IsDraft k old new d → posted_of g es room ≡ new → length es ≡ length g → n ≡ length g → h ≡ take (n - 1) g → fs ≡ effects_before d.before es → posted_of h fs true ≡ old
posted-back k old new d g h es fs room n draft view long count h_is fs_is =
    let same : g ≡ new.history = ap (λ (p : Posted). p.history) view in
    let is : new.corrected ≡ corrected_with 1 5 new.history es = sym (ap (λ (p : Posted). p.corrected) view) ∙ ap (λ u. corrected_with 1 5 u es) same in
    let front : h ≡ old.history = history-back g h old.history k n (same ∙ draft.history) count h_is in
    let back : corrected_with 1 5 h fs ≡ old.corrected =
    ap (λ u. corrected_with 1 5 u fs) front ∙ (ap (corrected_with 1 5 old.history) fs_is ∙ corrected-back k old new es d.before draft.history is (long ∙ ap length same) draft.stood) in
    parts h old.history (corrected_with 1 5 h fs) old.corrected true old.has_room front back (sym draft.room)
  where
    make : List Kept → List CorrectedPost → Bool → Posted
    make h c r = record { history = h; corrected = c; has_room = r }

    parts : (h x : List Kept) (c y : List CorrectedPost) (r z : Bool) → h ≡ x → c ≡ y → r ≡ z → make h c r ≡ make x y z
    parts h x c y r z p q s = rw (p, q, s) refl

-- where nothing was kept the last post corrects no other, so there is room
pub spare-if-none : (k : Kept) (old new : Posted) (d : Draft) (g : List Kept) (later : Later) → IsDraft k old new d → g ≡ new.history → (ends_correcting g ≡ false → HasSpare later) → HasSpareIfNone d.before later
spare-if-none k old new d g later draft same spare = by d.before draft.stood
  where
    by : (o : Option Beside) → StoodIfAny k old new o → HasSpareIfNone o later
    by None s = spare (ap ends_correcting (same ∙ draft.history) ∙ (ends-more old.history k ∙ s.plain))
    by (Some b) s = tt

-- what is stored once the last post is taken back
pub record AreBack (a : Anchor) (h : List Kept) (cs : List Correction) (es : List Effect) (slots : List Slot) : Type 0 where
  pub kept : IsKept a h
  pub beside : AreBeside h cs es slots

pub lists-back : (a : Anchor) (k : Kept) (old new : Posted) (d : Draft) (g h : List Kept) (cs ds : List Correction) (es fs : List Effect) (slots rows : List Slot) (n : ℕ)
    → IsDraft k old new d → g ≡ new.history → IsKept a g → AreBeside g cs es slots → n ≡ length g → h ≡ take (n - 1) g
    → ds ≡ corrections_before d.before cs → fs ≡ effects_before d.before es → rows ≡ slots_before d.before es → AreBack a h ds fs rows
lists-back a k old new d g h cs ds es fs slots rows n draft same kept b count h_is ds_is fs_is rows_is =
    let added : g ≡ more old.history k = same ∙ draft.history in
    let front : h ≡ old.history = history-back g h old.history k n added count h_is in
    let all_kept : IsKept a (more old.history k) = subst (λ u. IsKept a u) added kept in
    let all_beside : AreBeside (more old.history k) cs es slots = subst (λ u. AreBeside u cs es slots) added b in
    rw (front, ds_is, fs_is, rows_is)
    (record {
      kept = kept-front a old.history k draft.some all_kept;
      beside = beside-back k old new cs es slots d.before all_kept.names all_beside draft.stood;
    })
