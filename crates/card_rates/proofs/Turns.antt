-- What the posts of a day do, one after the other.
use Rattle.std.proofs.Common.{◌≡◌, ℕ, Bool, true, false, cond, ◌==◌, nat_le, List, [], ◌∷◌, ◌++◌, length, take, get_or, refl, sym, ap, ◌∙◌, arith, Option}
use Rattle.std.specs.List.{filter}
use Rattle.std.proofs.lemmas.List.{take_all, take_more}
use Rattle.std.proofs.lemmas.Bool.Decides.{nat_tests}
use Rattle.card_events.specs.History.{CorrectedPost, anchor_of, corrected, is_folded}
use Rattle.card_events.specs.SharedRows.{SharedRows}
use Rattle.card_events.specs.declared.kept.Kept.{Kept}
use Rattle.card_events.specs.declared.post.Post.{Post}
use Rattle.card_events.specs.declared.post.Post.TheVariants as post
use Rattle.card_model.specs.Books.{Account, Book}
use Rattle.card_model.specs.Cycles.{IssuedRow, Seen, posts_on, seen_on}
use Rattle.card_model.specs.Effects.{after_posts, effect}
use Rattle.card_model.proofs.Past.{filter_implied}
use Rattle.card_posts.specs.Change.{on}
use Rattle.card_rates.specs.SlotLaws.{PostsInTurn, PostsOfADay, day_posts}

-- ---- one post more
append : (issued : Option IssuedRow) (a : Account) (seen : Seen) (ps qs : List CorrectedPost) (b : Book) → after_posts issued a seen (ps ++ qs) b ≡ after_posts issued a seen qs (after_posts issued a seen ps b)
unfolding after_posts
append issued a seen [] qs b = refl
append issued a seen (p ∷ ps) qs b = append issued a seen ps qs (effect issued a seen p p.post b)

one : (issued : Option IssuedRow) (a : Account) (seen : Seen) (p : CorrectedPost) (b : Book) → after_posts issued a seen (p ∷ []) b ≡ effect issued a seen p p.post b
unfolding after_posts
one issued a seen p b = refl

pub in_turn : PostsInTurn
in_turn = record {
  next = λ issued a seen ps i d b l.
      ap (λ qs. after_posts issued a seen qs b) (take_more ps i d l)
      ∙ (append issued a seen (take i ps) (get_or ps i d ∷ []) b ∙ one issued a seen (get_or ps i d) (after_posts issued a seen (take i ps) b));
  all = λ issued a seen ps b. ap (λ qs. after_posts issued a seen qs b) (take_all (length ps) ps (omega arith));
}

-- ---- kinds that aren't folded
idle-post : (issued : Option IssuedRow) (a : Account) (seen : Seen) (p : CorrectedPost) (q : Post) (b : Book) → is_folded q ≡ false → effect issued a seen p q b ≡ b
unfolding effect
idle-post issued a seen p (post.Open _ _) b h = refl
idle-post issued a seen p (post.OpenVariable _ _) b h = refl
idle-post issued a seen p (post.Review _ _) b h = refl
idle-post issued a seen p (post.Ack _ _) b h = refl
idle-post issued a seen p (post.AskRefund _) b h = refl
idle-post issued a seen p (post.Amend _ _ _) b h = refl
idle-post issued a seen p (post.Bill _) b h = refl
idle-post issued a seen p (post.Charge _ _ _) b h = absurd (cc)
idle-post issued a seen p (post.Credit _ _ _) b h = absurd (cc)
idle-post issued a seen p (post.Payment _ _ _ _) b h = absurd (cc)
idle-post issued a seen p (post.Return _ _) b h = absurd (cc)
idle-post issued a seen p (post.Plan _ _ _ _ _) b h = absurd (cc)
idle-post issued a seen p (post.Notice _ _ _ _) b h = absurd (cc)
idle-post issued a seen p (post.Lower _ _ _) b h = absurd (cc)
idle-post issued a seen p post.Penalty b h = absurd (cc)
idle-post issued a seen p (post.Dispute _ _ _) b h = absurd (cc)
idle-post issued a seen p (post.Resolve _ _ _) b h = absurd (cc)
idle-post issued a seen p (post.Refund _) b h = absurd (cc)

without-idle : (issued : Option IssuedRow) (a : Account) (seen : Seen) (ps : List CorrectedPost) (b : Book) → after_posts issued a seen (filter (λ p. is_folded p.post) ps) b ≡ after_posts issued a seen ps b
unfolding after_posts
without-idle issued a seen [] b = refl
without-idle issued a seen (p ∷ ps) b = by (is_folded p.post) refl (without-idle issued a seen ps)
  where
    by : (t : Bool) → is_folded p.post ≡ t → ((c : Book) → after_posts issued a seen (filter (λ q. is_folded q.post) ps) c ≡ after_posts issued a seen ps c) → after_posts issued a seen (cond t (p ∷ filter (λ q. is_folded q.post) ps) (filter (λ q. is_folded q.post) ps)) b ≡ after_posts issued a seen ps (effect issued a seen p p.post b)
    by true e ih = ih (effect issued a seen p p.post b)
    by false e ih = ih b ∙ ap (after_posts issued a seen ps) (sym (idle-post issued a seen p p.post b e))

-- ---- what the fold of a day reads
-- tests in another order
swap : {X : Type 0} (p q : X → Bool) (xs : List X) → filter p (filter q xs) ≡ filter q (filter p xs)
swap p q [] = refl
swap p q (x ∷ xs) = by (p x) (q x) refl refl (swap p q xs)
  where
    by : (t u : Bool) → p x ≡ t → q x ≡ u → filter p (filter q xs) ≡ filter q (filter p xs) → filter p (cond u (x ∷ filter q xs) (filter q xs)) ≡ filter q (cond t (x ∷ filter p xs) (filter p xs))
    by true true e f ih = rw (e, f) (ap (λ u. x ∷ u) ih)
    by true false e f ih = rw f ih
    by false true e f ih = rw e ih
    by false false e f ih = ih

up_to-on : (day d : ℕ) → (d == day) ≡ true → nat_le d day ≡ true
up_to-on day d e = grind (arith, nat_tests)

on-seen : (day : ℕ) (ps : List CorrectedPost) → filter (λ p. p.day == day) (filter (λ p. nat_le p.day day) (filter (λ p. is_folded p.post) ps)) ≡ filter (λ p. is_folded p.post) (on day ps)
on-seen day ps =
    filter_implied (λ (p : CorrectedPost). p.day == day) (λ p. nat_le p.day day) (λ p. up_to-on day p.day) (filter (λ p. is_folded p.post) ps)
    ∙ swap (λ (p : CorrectedPost). p.day == day) (λ p. is_folded p.post) ps

pub listed : (history : List Kept) (issued : List IssuedRow) (shared : SharedRows) (day : ℕ) → posts_on (seen_on (anchor_of history) shared history issued day) ≡ filter (λ p. is_folded p.post) (day_posts history shared day)
listed history issued shared day = on-seen day (corrected (anchor_of history) shared.holidays history)

pub of_a_day : PostsOfADay
of_a_day = record {
  listed = listed;
  idle = λ issued a seen p b h. idle-post issued a seen p p.post b h;
  same = λ row a seen b history issued shared day. ap (λ ps. after_posts row a seen ps b) (listed history issued shared day) ∙ without-idle row a seen (day_posts history shared day) b;
}
