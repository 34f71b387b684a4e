-- Disputes and their resolutions, among the posts of a day.
use Rattle.std.proofs.Common.{◌≡◌, ℕ, ◌+◌, ◌-◌, ◌<◌, ◌≤◌, Bool, true, List, ◌∷◌, ◌++◌, length, map, take, drop, get_or, refl, sym, ap, ◌∙◌, subst, arith, Option, ℤ, pos}
use Rattle.std.specs.Prelude.{◌≤ℤ◌}
use Rattle.std.proofs.lemmas.List.{drop_more, take-append-drop}
use Rattle.std.proofs.lemmas.List.Elements.{filter-append}
use Rattle.card_bounds.proofs.Points.{small_at_each_step}
use Rattle.card_bounds.specs.Bounds.{IsLimited, IsOrderly, moved}
use Rattle.card_events.specs.Range.{last_request_day}
use Rattle.card_effects.specs.Standing.{StandsAt}
use Rattle.card_events.specs.History.{CorrectedPost, anchor_of, is_folded, terms_of}
use Rattle.card_events.specs.Limits.{post_limit}
use Rattle.card_events.specs.declared.kept.Kept.{Kept}
use Rattle.card_events.specs.declared.post.Post.TheVariants as post
use Rattle.card_closing.specs.Rows.{Rows}
use Rattle.card_effects.proofs.Covers.{held_covers_releases}
use Rattle.card_effects.specs.Accounts.{AreOf}
use Rattle.card_model.proofs.EntryFacts.{all-holds, all-releases}
use Rattle.card_model.specs.Books.{Account, Book, note_of}
use Rattle.card_model.specs.Cycles.{IssuedRow, Seen, post_at, posts_on}
use Rattle.card_model.specs.Deadlines.{resolves}
use Rattle.card_model.specs.Effects.{disputed_cents, disputed_charge, disputed_segment, effect, moved_by}
use Rattle.card_model.specs.Entries.{AreBalances, balance, credit_balance, holds, releases}
use Rattle.card_model.specs.Limits.{balance_limit}
use Rattle.card_model.specs.Segments.{SegmentTerms, kept_segment, unbilled}
use Rattle.card_model.specs.declared.entry.Entry.{Entry}
use Rattle.card_model.specs.declared.entry.EntryKind.TheVariants as kind
use Rattle.card_model.specs.declared.segment.Sort.TheVariants as sort
use Rattle.card_rates.proofs.Added.{segments-are}
use Rattle.card_rates.specs.RateBooks.{Rates}
use Rattle.card_rates.proofs.Turns.{of_a_day}
use Rattle.card_rates.specs.declared.day.DayPost.{DayPost}
use Rattle.card_daily.proofs.Books.{day-is}
use Rattle.card_daily.proofs.Fronts.{due_left, without-idle}
use Rattle.card_daily.proofs.PostDay.{IsAtPlace, any_post}
use Rattle.card_daily.proofs.Posting.{others-stand}
use Rattle.card_daily.proofs.Repaying.{IsOther}
use Rattle.card_daily.specs.Given.{Given, IsSound, account_in, opened_in, row_in, seen_in}
use Rattle.card_daily.specs.Posts.{StandWith, done_by, place_in}
use Rattle.card_daily.specs.Stands.{StandFor, amid, only_folded, posts_of}
use Rattle.card_daily.specs.declared.state.State.{State}
use Rattle.card_daily.specs.declared.track.Track.{Track}

-- ---- segments and rates of a state are of the account
pub of-account : (g : Given) (rows_by : SegmentTerms → Rows) (b : Book) (s : State) (t : Track) → StandFor g rows_by b s t → AreOf g.history s.segments.segments s.rates
of-account g rows_by b s t h =
    let a = anchor_of g.history in
    let terms = terms_of g.history in
    let same = λ (holidays : List ℕ). segments-are a terms g.shared.holidays g.history ∙ sym (segments-are a terms holidays g.history) in
    record {
      segments = λ holidays. h.segments ∙ ap (λ (gs : List SegmentTerms). unbilled sort.Credit a.opened ∷ unbilled sort.Held a.opened ∷ map kept_segment gs) (same holidays);
      rates = λ holidays. ap (λ (r : Rates). r.segments) h.rates ∙ same holidays;
    }

-- ---- the fronts of a day's posts
day-parts : (g : Given) (day : ℕ) (xs ys : List CorrectedPost) → opened_in g ≤ day → posts_of g day ≡ xs ++ ys → posts_on (seen_in g (opened_in g + (day - opened_in g))) ≡ only_folded xs ++ only_folded ys
day-parts g day xs ys o e =
    ap (λ d. posts_on (seen_in g d)) (day-is (opened_in g) day o)
    ∙ (of_a_day.listed g.history g.issued g.shared day ∙ (ap only_folded e ∙ filter-append (λ (p : CorrectedPost). is_folded p.post) xs ys))

-- what the entries move together
pub front-moves : (g : Given) (day i : ℕ) → IsSound g → opened_in g ≤ day → day ≤ last_request_day → moved (amid g day (take i (posts_of g day))).entries ≤ balance_limit
front-moves g day i s o l =
    let ps = posts_of g day in
    let n = day - opened_in g in
    let e = day-is (opened_in g) day o in
    let limits : IsLimited post_limit g.history g.shared day = record { count = s.accepted.count; cents = s.accepted.cents; fees = s.fees; days = let first = s.opening.first in omega (arith, first, l) } in
    let room = small_at_each_step.posts post_limit g.history g.issued g.shared day n limits (omega (arith, e)) (only_folded (take i ps)) (only_folded (drop i ps)) (day-parts g day (take i ps) (drop i ps) o (sym (take-append-drop i ps))) in
    let most = room.moved in
    let few : moved (amid g day (only_folded (take i ps))).entries ≤ balance_limit = omega (arith, most) in
    subst (λ (b : Book). moved b.entries ≤ balance_limit) (without-idle (row_in g n) (account_in g) (seen_in g (opened_in g + n)) (take i ps) (due_left g day)) few

-- Held has what a Resolve takes out of it
front-holds : (g : Given) (day i n : ℕ) (d : CorrectedPost) → IsSound g → opened_in g ≤ day → i < length (posts_of g day) → is_folded (get_or (posts_of g day) i d).post ≡ true → resolves n (get_or (posts_of g day) i d).post ≡ true
    → pos (moved_by n (amid g day (take i (posts_of g day))).entries) ≤ℤ balance 1 (amid g day (take i (posts_of g day))).entries
front-holds g day i n d s o l folds gives =
    let ps = posts_of g day in
    let p = get_or ps i d in
    let k = day - opened_in g in
    let orderly : IsOrderly g.history g.shared = record { cents = s.accepted.cents; fees = s.fees; resolved = s.accepted.resolved } in
    let first : only_folded (p ∷ drop (i + 1) ps) ≡ p ∷ only_folded (drop (i + 1) ps) = rw folds refl in
    let parts = day-parts g day (take i ps) (p ∷ drop (i + 1) ps) o (sym (ap (λ us. take i ps ++ us) (sym (drop_more ps i d l)) ∙ take-append-drop i ps)) ∙ ap (λ us. only_folded (take i ps) ++ us) first in
    let covered = held_covers_releases g.history g.issued g.shared k orderly (only_folded (take i ps)) (only_folded (drop (i + 1) ps)) p n parts gives in
    subst (λ (b : Book). pos (moved_by n b.entries) ≤ℤ balance 1 b.entries) (without-idle (row_in g k) (account_in g) (seen_in g (opened_in g + k)) (take i ps) (due_left g day)) covered

pub place-held : (g : Given) (day place n : ℕ) (x : DayPost) (bs : List ℤ) (es : List Entry) → IsSound g → opened_in g ≤ day → place_in g day ≤ place → place < place_in g day + length (posts_of g day) → IsAtPlace g day place x
    → resolves n x.post ≡ true → es ≡ (amid g day (done_by g day place)).entries → AreBalances (amid g day (done_by g day place)).entries bs → 1 < length bs
    → pos (moved_by n es) ≤ℤ get_or bs 1 (pos 0)
place-held g day place n x bs es s o low high h gives same sums l =
    let i = place - place_in g day in
    let held = front-holds g day i n any_post s o (omega (arith, low, high)) h.folded (ap (λ (d : DayPost). resolves n d.post) (sym h.same) ∙ gives) in
    subst (λ (us : List Entry). pos (moved_by n us) ≤ℤ get_or bs 1 (pos 0)) (sym same)
    (subst (λ z. pos (moved_by n (amid g day (done_by g day place)).entries) ≤ℤ z) (sym (sums.each 1 l)) held)

-- ---- state and track
-- what stands for the posts of an account, of the same history
pub same-history : (h k : List Kept) (P : List Kept → Type 0) → h ≡ k → P h → P k
same-history h k P e p = subst P e p

dispute-grown : (issued : Option IssuedRow) (a : Account) (seen : Seen) (p : CorrectedPost) (b : Book) (on target claim : ℕ)
    → (effect issued a seen p (post.Dispute on target claim) b).entries ≡ b.entries ++ holds (note_of seen kind.Hold p.number) (disputed_segment a seen target) (disputed_cents a seen target claim b)
unfolding effect
dispute-grown issued a seen p b on target claim = refl

pub dispute-stand : (issued : Option IssuedRow) (a : Account) (seen : Seen) (first : ℕ) (returned : ℕ → Bool) (rows_by : SegmentTerms → Rows) (p : CorrectedPost) (b : Book) (on target claim : ℕ) (s new : State) (t after : Track)
    → StandWith a seen first returned rows_by b s t → StandsAt a seen (effect issued a seen p (post.Dispute on target claim) b) new.rates new.segments.balances after.entries.items → new.rates ≡ s.rates → new.rows.items ≡ s.rows.items → after.fees.items ≡ t.fees.items
    → StandWith a seen first returned rows_by (effect issued a seen p (post.Dispute on target claim) b) new after
unfolding effect
dispute-stand issued a seen first returned rows_by p b on target claim s new t after h at rates rows fees =
    others-stand a seen first returned rows_by b (effect issued a seen p (post.Dispute on target claim) b) s new t after _ h at rates rows fees refl (dispute-grown issued a seen p b on target claim)
    (all-holds IsOther seen.day p.number (disputed_segment a seen target) (disputed_cents a seen target claim b) (λ s z. refl))

resolve-grown : (issued : Option IssuedRow) (a : Account) (seen : Seen) (p : CorrectedPost) (b : Book) (on target cents : ℕ)
    → (effect issued a seen p (post.Resolve on target cents) b).entries
    ≡ b.entries ++ releases (note_of seen kind.Hold p.number) (disputed_segment a seen (disputed_charge (post_at target seen.posts))) (moved_by target b.entries) (credit_balance b.entries)
unfolding effect
resolve-grown issued a seen p b on target cents = refl

pub resolve-stand : (issued : Option IssuedRow) (a : Account) (seen : Seen) (first : ℕ) (returned : ℕ → Bool) (rows_by : SegmentTerms → Rows) (p : CorrectedPost) (b : Book) (on target cents : ℕ) (s new : State) (t after : Track)
    → StandWith a seen first returned rows_by b s t → StandsAt a seen (effect issued a seen p (post.Resolve on target cents) b) new.rates new.segments.balances after.entries.items → new.rates ≡ s.rates → new.rows.items ≡ s.rows.items → after.fees.items ≡ t.fees.items
    → StandWith a seen first returned rows_by (effect issued a seen p (post.Resolve on target cents) b) new after
unfolding effect
resolve-stand issued a seen first returned rows_by p b on target cents s new t after h at rates rows fees =
    others-stand a seen first returned rows_by b (effect issued a seen p (post.Resolve on target cents) b) s new t after _ h at rates rows fees refl (resolve-grown issued a seen p b on target cents)
    (all-releases IsOther seen.day p.number (disputed_segment a seen (disputed_charge (post_at target seen.posts))) (moved_by target b.entries) (credit_balance b.entries) (λ s z. refl))
