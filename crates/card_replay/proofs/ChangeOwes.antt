-- What an account owes behind a post that was prepared, and for which nothing is put off.
use Rattle.std.proofs.Common.{◌≡◌, ℕ, ◌+◌, ◌<◌, ◌≤◌, Bool, true, false, List, [], ◌∷◌, ◌++◌, length, refl, ◌∙◌, subst, None}
use Rattle.std.specs.Prelude.{◌||◌}
use Rattle.std.specs.List.{All}
use Rattle.std.proofs.lemmas.List.Elements.{All-cons, All-nil, All-weaker}
use Rattle.card_book.proofs.Agreement.{later_changes_agree}
use Rattle.card_book.specs.GoingOn.{sets_rates}
use Rattle.card_book.specs.Laws.{is_bill}
use Rattle.card_events.specs.declared.anchor.Anchor.{Anchor}
use Rattle.card_events.specs.History.{anchor_of, corrected}
use Rattle.card_events.specs.SharedRows.{SharedRows}
use Rattle.card_events.specs.declared.kept.Kept.{Kept}
use Rattle.card_events.specs.declared.post.Post.{Post}
use Rattle.card_events.specs.declared.post.Post.TheVariants as post
use Rattle.card_model.specs.Laws.{HistoriesAgree}
use Rattle.card_model.specs.Machine.{issues, kept_as}
use Rattle.card_model.specs.Refusals.{Lists}
use Rattle.card_model.specs.Unread.{is_unread}
use Rattle.card_model.proofs.Unread.{unfolded_posts_agree}
use Rattle.card_posts.specs.Change.{IsFirstChange}
use Rattle.card_posts.specs.Draft.{IsFirstWith}
use Rattle.card_replay.proofs.Changed.{same-anchor}
use Rattle.card_replay.proofs.Committing.{StaysLate}
use Rattle.card_replay.proofs.Drafting.{first-with}
use Rattle.card_replay.proofs.LaterRows.{some-posts}
use Rattle.card_replay.proofs.Owing.{nothing-owed, still-owed}
use Rattle.card_replay.proofs.Settled.{settled-today}
use Rattle.card_replay.specs.Changes.{IsReadyFor, LeavesOwed, issued_as}
use Rattle.card_replay.specs.Replays.{IsReplay, MayReach, Replay, posted_of, present_of}
use Rattle.card_replay.specs.declared.change.Change.{Change}
use Rattle.card_past.specs.declared.owed.Owed.{Owed}

-- only a Bill issues
pub others-issue-nothing : (today : ℕ) (shared : SharedRows) (lists : Lists) (p : Post) → is_bill p ≡ false → issues (present_of today shared lists) p ≡ []
others-issue-nothing today shared lists (post.Bill cycle) u = let no : true ≡ false = u in absurd (cc)
others-issue-nothing today shared lists (post.Open d t) u = refl
others-issue-nothing today shared lists (post.OpenVariable d t) u = refl
others-issue-nothing today shared lists (post.Charge d q c) u = refl
others-issue-nothing today shared lists (post.Credit d q c) u = refl
others-issue-nothing today shared lists (post.Payment d m y c) u = refl
others-issue-nothing today shared lists (post.Return d t) u = refl
others-issue-nothing today shared lists (post.Plan d k r w f) u = refl
others-issue-nothing today shared lists (post.Notice d y r w) u = refl
others-issue-nothing today shared lists (post.Lower d y r) u = refl
others-issue-nothing today shared lists post.Penalty u = refl
others-issue-nothing today shared lists (post.Review d f) u = refl
others-issue-nothing today shared lists (post.Dispute d t c) u = refl
others-issue-nothing today shared lists (post.Ack d t) u = refl
others-issue-nothing today shared lists (post.Resolve d t c) u = refl
others-issue-nothing today shared lists (post.AskRefund d) u = refl
others-issue-nothing today shared lists (post.Refund c) u = refl
others-issue-nothing today shared lists (post.Amend t d c) u = refl

all-of : {A : Type 0} (P : A → Type 0) (xs : List A) → ((x : A) → P x) → All P xs
all-of P [] each = All-nil P
all-of P (x ∷ xs) each = All-cons P x xs (each x) (all-of P xs each)

module _ (shared : SharedRows) (today : ℕ) (key : List ℕ) (p : Post) (from : ℕ) (r : Replay) (h : IsReplay shared r) (first : IsFirstWith shared.holidays today p (posted_of r) from) where
  abbrev posts : List Kept
  posts = r.lists.posts

  abbrev k : Kept
  k = kept_as (length posts + 1) key today p

  some : 1 ≤ length posts
  some = some-posts posts h.sound.opening

  change : IsFirstChange from (corrected (anchor_of posts) shared.holidays posts) (corrected (anchor_of posts) shared.holidays (posts ++ k ∷ []))
  change = subst (λ (a : Anchor). IsFirstChange from (corrected (anchor_of posts) shared.holidays posts) (corrected a shared.holidays (posts ++ k ∷ []))) (same-anchor posts k some) (first-with shared today key p r from h first)

  agrees : LeavesOwed p from r → (u : Bool) → is_unread p ≡ u → All (λ (o : Owed). HistoriesAgree o.closing shared shared posts (posts ++ k ∷ [])) r.late.owed
  agrees leaves true e = all-of (λ (o : Owed). HistoriesAgree o.closing shared shared posts (posts ++ k ∷ [])) r.late.owed (λ o. unfolded_posts_agree posts k shared o.closing e)
  agrees leaves false e =
      All-weaker (λ (o : Owed). o.closing < from) (λ (o : Owed). HistoriesAgree o.closing shared shared posts (posts ++ k ∷ [])) (λ o l. later_changes_agree posts k shared from o.closing some change l) r.late.owed (leaves e)

pub right-false : (s b : Bool) → (s || b) ≡ false → b ≡ false
right-false true b e = let no : true ≡ false = e in absurd (cc)
right-false false b e = e

needs-is : (s b : Bool) → b ≡ true → (s || b) ≡ true
needs-is true b e = refl
needs-is false b e = e

pub change-owes : (shared : SharedRows) (today : ℕ) (key : List ℕ) (p : Post) (from : ℕ) (c : Change) (r : Replay) → IsReplay shared r → MayReach today r → IsReadyFor today p r → LeavesOwed p from r → IsFirstWith shared.holidays today p (posted_of r) from
    → issued_as c.issued ≡ issues (present_of today shared r.lists) p → c.owes ≡ None → StaysLate shared key today p c r
change-owes shared today key p from c r h may ready leaves first made owes = by (is_bill p) refl
  where
    by : (b : Bool) → is_bill p ≡ b → StaysLate shared key today p c r
    by true e = nothing-owed shared today key p c r (settled-today shared today r h may (ready (needs-is (sets_rates p) (is_bill p) e))) made owes
    by false e =
        let nothing = others-issue-nothing today shared r.lists p e in
        still-owed shared today key p c r h nothing (made ∙ nothing) owes (agrees shared today key p from r h first leaves (is_unread p) refl)
