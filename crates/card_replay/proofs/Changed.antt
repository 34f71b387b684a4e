-- Up to each day before the first that a post changes, the account goes on.
use Rattle.std.proofs.Common.{◌≡◌, ℕ, ◌<◌, ◌≤◌, false, List, [], ◌∷◌, ◌++◌, length, refl, sym, ap, ◌∙◌, subst, arith, Some, None}
use Rattle.std.proofs.lemmas.List.Elements.{All-cons, All-nil}
use Rattle.card_events.specs.declared.anchor.Anchor.{Anchor}
use Rattle.card_events.specs.History.{anchor_of, corrected, is_variable, terms_of}
use Rattle.card_events.specs.SharedRows.{SharedRows}
use Rattle.card_events.specs.declared.kept.Kept.{Kept}
use Rattle.card_events.specs.declared.post.Post.{Post}
use Rattle.card_model.specs.Laws.{HistoriesAgree}
use Rattle.card_posts.specs.Change.{IsFirstChange}
use Rattle.card_daily.specs.Given.{Given}
use Rattle.card_daily.specs.declared.track.Track.{Track}
use Rattle.card_book.proofs.Agreement.{later_changes_agree}
use Rattle.card_book.proofs.GoingOn.{agreement_goes_on, books_go_on}
use Rattle.card_book.proofs.RatesGoOn.{rates_go_on}
use Rattle.card_book.specs.GoingOn.{Continues, sets_rates}
use Rattle.card_book.specs.Stands.{StandsFor, Summary}
use Rattle.card_replay.proofs.LaterRows.{some-posts}
use Rattle.card_replay.specs.Rewinds.{IsOneMore}

pub same-anchor : (ks : List Kept) (k : Kept) → 1 ≤ length ks → anchor_of (ks ++ k ∷ []) ≡ anchor_of ks
same-anchor [] k some = absurd (omega (arith, some))
same-anchor (x ∷ xs) k some = refl

same-terms : (ks : List Kept) (k : Kept) → 1 ≤ length ks → terms_of (ks ++ k ∷ []) ≡ terms_of ks
same-terms [] k some = absurd (omega (arith, some))
same-terms (x ∷ xs) k some = refl

same-variable : (ks : List Kept) (k : Kept) → 1 ≤ length ks → is_variable (ks ++ k ∷ []) ≡ is_variable ks
same-variable [] k some = absurd (omega (arith, some))
same-variable (x ∷ xs) k some = refl

-- before the opening nothing has changed
pub continues-none : (old g : Given) (k : Kept) → 1 ≤ length old.history → g.history ≡ old.history ++ k ∷ [] → Continues old g None
continues-none old g k some history = record {
  anchor = ap anchor_of history ∙ same-anchor old.history k some;
  terms = ap terms_of history ∙ same-terms old.history k some;
  variable = ap is_variable history ∙ same-variable old.history k some;
  agree = λ d is. let no : None ≡ Some d = is in absurd (cc);
  books = λ d y is l. let no : None ≡ Some d = is in absurd (cc);
}

-- the account is opened as before
pub anchor-stays : (old g : Given) (p : Post) (from : ℕ) → IsOneMore old g p from → anchor_of g.history ≡ anchor_of old.history
anchor-stays old g p from h = ap anchor_of h.history ∙ same-anchor old.history h.kept (some-posts old.history h.sound_before.opening)

pub terms-stay : (old g : Given) (p : Post) (from : ℕ) → IsOneMore old g p from → terms_of g.history ≡ terms_of old.history
terms-stay old g p from h = ap terms_of h.history ∙ same-terms old.history h.kept (some-posts old.history h.sound_before.opening)

pub continues-first : (old g : Given) (k : Kept) (from day : ℕ) → 1 ≤ length old.history → g.history ≡ old.history ++ k ∷ [] → g.issued ≡ old.issued → g.shared ≡ old.shared
    → IsFirstChange from (corrected (anchor_of old.history) old.shared.holidays old.history) (corrected (anchor_of g.history) g.shared.holidays g.history) → day < from → Continues old g (Some day)
continues-first old g k from day some history issued shared change l =
    let more : List Kept = old.history ++ k ∷ [] in
    let a = anchor_of old.history in
    let new : corrected (anchor_of g.history) g.shared.holidays g.history ≡ corrected a old.shared.holidays more =
    ap (λ (s : SharedRows). corrected (anchor_of g.history) s.holidays g.history) shared
    ∙ (ap (λ hs. corrected (anchor_of hs) old.shared.holidays hs) history ∙ ap (λ (b : Anchor). corrected b old.shared.holidays more) (same-anchor old.history k some)) in
    let first = subst (IsFirstChange from (corrected a old.shared.holidays old.history)) new change in
    let agree = later_changes_agree old.history k old.shared from day some first l in
    let there = subst (λ hs. HistoriesAgree day old.shared old.shared old.history hs) (sym history) agree in
    agreement_goes_on old g day issued (subst (λ (s : SharedRows). HistoriesAgree day old.shared s old.history g.history) (sym shared) there)

pub continues-before : (old g : Given) (p : Post) (from : ℕ) → IsOneMore old g p from → (day : ℕ) → day < from → Continues old g (Some day)
continues-before old g p from h day l = continues-first old g h.kept from day (some-posts old.history h.sound_before.opening) h.history h.issued h.shared h.first l

-- a Book at the end of such a day stands on, where the post sets no rate
pub plain-stands : (old g : Given) (p : Post) (from day : ℕ) (b : Summary) (t : Track) → IsOneMore old g p from → sets_rates p ≡ false → b.day ≡ Some day → day < from → StandsFor old b t → StandsFor g b t
plain-stands old g p from day b t h plain dated l stands =
    let some = some-posts old.history h.sound_before.opening in
    let one : sets_rates h.kept.post ≡ false = ap sets_rates h.post ∙ plain in
    let all = All-cons (λ (k : Kept). sets_rates k.post ≡ false) h.kept [] one (All-nil (λ (k : Kept). sets_rates k.post ≡ false)) in
    books_go_on old g b t h.sound.opening stands (subst (Continues old g) (sym dated) (continues-before old g p from h day l)) (rates_go_on old g (h.kept ∷ []) h.history some all)
