-- The posts of a day in turn: the book after each, and what stands for it.
use Rattle.std.proofs.Common.{◌≡◌, ℕ, eqb, ◌+◌, ◌-◌, ◌≤◌, ◌<◌, Bool, true, false, cond, ◌||◌, List, [], ◌∷◌, ◌++◌, map, take, drop, length, refl, sym, ap, ◌∙◌, subst, arith, get_or, Option, Some, None, Result, Ok, Err, pos, ◌⊎◌, inl, inr}
use Rattle.std.specs.Prelude.{◌≤ℤ◌, OnOk, OnErr}
use Rattle.std.specs.List.{All, Contains, filter}
use Rattle.std.proofs.lemmas.Bool.{cases_lt, eqb-true, false≢true}
use Rattle.std.proofs.lemmas.Int.{ints}
use Rattle.std.proofs.lemmas.List.{append_assoc, length-drop, length-map, take-append-drop, take_all}
use Rattle.std.proofs.lemmas.List.Elements.{All-cons, All-filter, All-get_or, All-head, All-nil, All-tail, filter_passes}
use Rattle.card_bounds.proofs.OnDays.{cycles_begin_in_turn}
use Rattle.card_bounds.proofs.Whole.{folded-few}
use Rattle.card_events.specs.Billing.{closing, cycle_of}
use Rattle.card_events.specs.Range.{last_request_day}
use Rattle.card_effects.specs.Returned.{AreOfThose}
use Rattle.card_effects.specs.Standing.{StandsAt}
use Rattle.card_events.specs.History.{CorrectedPost, anchor_of, corrected, is_folded}
use Rattle.card_events.specs.Limits.{post_limit}
use Rattle.card_events.specs.declared.kept.Slot.{Slot}
use Rattle.card_events.specs.declared.post.Post.{Post}
use Rattle.card_events.specs.declared.post.Post.TheVariants as post
use Rattle.card_closing.specs.Accruals.{Accrued, nothing_accrued}
use Rattle.card_closing.specs.Growth.{with_repaid}
use Rattle.card_closing.specs.Rows.{Rows}
use Rattle.card_model.specs.Books.{Book, with_penalties}
use Rattle.card_model.specs.Effects.{effect}
use Rattle.card_model.specs.Limits.{balance_limit}
use Rattle.card_model.specs.Payments.{returns}
use Rattle.card_model.specs.Segments.{SegmentTerms, kept_segment}
use Rattle.card_model.specs.declared.segment.Segment.{Segment}
use Rattle.card_posts.specs.Change.{on}
use Rattle.card_posts.specs.Posted.{Posted, StandsFor, folding_order}
use Rattle.card_rates.specs.RateBooks.{Rates, rates_of}
use Rattle.card_rates.proofs.Places.{of_days}
use Rattle.card_rates.proofs.Turns.{in_turn, of_a_day}
use Rattle.card_rates.specs.Days.{day_post, folded_post, place_of}
use Rattle.card_rates.specs.SlotLaws.{IsCut}
use Rattle.card_rates.specs.declared.day.DayPost.{DayPost}
use Rattle.card_daily.proofs.Books.{day-is}
use Rattle.card_daily.proofs.Following.{begun-by}
use Rattle.card_daily.proofs.Posting.{IsAdded, begins-more, each-same, effect-adds, same-returned}
use Rattle.card_daily.proofs.Fronts.{are-those, due_left, no-credit}
use Rattle.card_daily.proofs.Repaying.{same-brought}
use Rattle.card_daily.proofs.Penalized.{IsWithPenalties, accrued-with, penalty-is, penalty-none, stand-with}
use Rattle.card_daily.proofs.Returning.{not-returned, returned-next, sees-payment}
use Rattle.card_daily.proofs.Standing.{amid-lies, begins-with, rated, stands}
use Rattle.card_daily.specs.Given.{Given, IsSound, account_in, opened_in, row_in, seen_in}
use Rattle.card_daily.specs.Penalties.{begun_on}
use Rattle.card_daily.specs.Posts.{EntersPost, IsRestKept, MayFollow, StandWith, done_by, is_penalty, place_in, returned_after}
use Rattle.card_daily.specs.Returns.{SeesPayment}
use Rattle.card_daily.specs.Stands.{AreAmid, Begins, StandFor, amid, before, first_in, posts_of, returned_by, rows_amid, rows_through}
use Rattle.card_daily.specs.declared.state.State.{State}
use Rattle.card_daily.specs.declared.track.Track.{Track}

-- ---- the book after a front of the day's posts
pub amid-next : (g : Given) (day i : ℕ) (d : CorrectedPost) → opened_in g ≤ day → i < length (posts_of g day)
    → amid g day (take (i + 1) (posts_of g day)) ≡ effect (row_in g (day - opened_in g)) (account_in g) (seen_in g day) (get_or (posts_of g day) i d) (get_or (posts_of g day) i d).post (amid g day (take i (posts_of g day)))
amid-next g day i d o l =
    let q = get_or (posts_of g day) i d in
    let n = day - opened_in g in
    in_turn.next (row_in g n) (account_in g) (seen_in g (opened_in g + n)) (posts_of g day) i d (due_left g day) l
    ∙ ap (λ x. effect (row_in g n) (account_in g) (seen_in g x) q q.post (amid g day (take i (posts_of g day)))) (day-is (opened_in g) day o)

pub cycles-before : (g : Given) (day : ℕ) (done : List CorrectedPost) → (amid g day done).cycles ≡ (before g day).cycles
cycles-before g day done = cycles_begin_in_turn.posts g.history g.issued g.shared (day - opened_in g) done

-- the cycle of a day has begun
pub first-by : (g : Given) (day : ℕ) → IsSound g → opened_in g ≤ day → day ≤ last_request_day → first_in g day ≤ day
first-by g day s o l =
    let e = day-is (opened_in g) day o in
    let is = cycles_begin_in_turn.before g.history g.issued g.shared (day - opened_in g) s.opening (omega arith) in
    let same = ap (λ x. closing (anchor_of g.history) (cycle_of (anchor_of g.history) x - 1) + 1) e in
    let begun = begun-by (anchor_of g.history) day s.opening o l in
    omega (arith, is, same, begun)

-- ---- the post at a place
pub record IsOfDay (today : ℕ) (p : CorrectedPost) : Type 0 where
  pub few : is_folded p.post ≡ true → p.cents ≤ 1000000000
  pub day : p.day ≡ today

among : (P : CorrectedPost → Type 0) (f : CorrectedPost → Bool) (xs : List CorrectedPost) → All P (filter f xs) → All (λ x. f x ≡ true → P x) xs
among P f [] h = All-nil (λ x. f x ≡ true → P x)
among P f (x ∷ xs) h = by (f x) refl h (among P f xs)
  where
    by : (t : Bool) → f x ≡ t → All P (cond t (x ∷ filter f xs) (filter f xs)) → (All P (filter f xs) → All (λ y. f y ≡ true → P y) xs) → All (λ y. f y ≡ true → P y) (x ∷ xs)
    by true e h rest = All-cons (λ y. f y ≡ true → P y) x xs (λ m. All-head P x (filter f xs) h) (rest (All-tail P x (filter f xs) h))
    by false e h rest = All-cons (λ y. f y ≡ true → P y) x xs (λ m. absurd (false≢true (sym e ∙ m))) (rest h)

pub of-day : (g : Given) (day i : ℕ) (d : CorrectedPost) → IsSound g → i < length (posts_of g day) → IsOfDay day (get_or (posts_of g day) i d)
of-day g day i d s l =
    let all = corrected (anchor_of g.history) g.shared.holidays g.history in
    let few = among (λ (p : CorrectedPost). p.cents ≤ 1000000000) (λ (p : CorrectedPost). is_folded p.post) all (folded-few (anchor_of g.history) g.shared.holidays g.history s.accepted.cents) in
    record {
      few = All-get_or (λ (p : CorrectedPost). is_folded p.post ≡ true → p.cents ≤ 1000000000) (posts_of g day) i d l (All-filter (λ (p : CorrectedPost). eqb p.day day) (λ (p : CorrectedPost). is_folded p.post ≡ true → p.cents ≤ 1000000000) all few);
      day = eqb-true (get_or (posts_of g day) i d).day day (All-get_or (λ (p : CorrectedPost). eqb p.day day ≡ true) (posts_of g day) i d l (filter_passes (λ (p : CorrectedPost). eqb p.day day) all));
    }

-- any post
abbrev pub any_post : CorrectedPost
any_post = record { number = 0; day = 0; cents = 0; accepted = 0; segment = 0; post = post.Penalty }

-- the post of a day that stands at a place
abbrev pub post_at_place : Given → ℕ → ℕ → CorrectedPost
post_at_place g day place = get_or (posts_of g day) (place - place_in g day) any_post

pub found-there : (g : Given) (day place : ℕ) (cs : List CorrectedPost) (o : Option DayPost) → cs ≡ corrected (anchor_of g.history) g.shared.holidays g.history
    → place_in g day ≤ place → place < place_in g day + length (posts_of g day)
    → (place ≡ place_of day cs + (place - place_in g day) → place - place_in g day < length (on day cs) → o ≡ folded_post (get_or (on day cs) (place - place_in g day) any_post))
    → o ≡ folded_post (post_at_place g day place)
found-there g day place cs o e low high h =
    subst (λ us. (place ≡ place_of day us + (place - place_in g day) → place - place_in g day < length (on day us) → o ≡ folded_post (get_or (on day us) (place - place_in g day) any_post))) e h
    (omega (arith, low)) (omega (arith, low, high))

pub is-found : (q : CorrectedPost) (x : DayPost) → folded_post q ≡ Some x → (x ≡ day_post q) × (is_folded q.post ≡ true)
is-found q x e = by (is_folded q.post) refl e
  where
    by : (t : Bool) → is_folded q.post ≡ t → cond t (Some (day_post q)) None ≡ Some x → (x ≡ day_post q) × (is_folded q.post ≡ true)
    by true h e = ((let same : x ≡ day_post q = cc in same), h)
    by false h e = absurd (no e)
      where
        no : None ≡ Some x → ⊥
        no e = cc

pub none-found : (q : CorrectedPost) → folded_post q ≡ None → is_folded q.post ≡ false
none-found q e = by (is_folded q.post) refl e
  where
    by : (t : Bool) → is_folded q.post ≡ t → cond t (Some (day_post q)) None ≡ None → is_folded q.post ≡ false
    by false h e = h
    by true h e = absurd (no e)
      where
        no : Some (day_post q) ≡ None → ⊥
        no e = cc

-- ---- state and track
pub with-rows : (g : Given) (day : ℕ) (done : List CorrectedPost) (s : State) (t : Track) → opened_in g ≤ day → AreAmid g day done s t
    → StandWith (account_in g) (seen_in g day) (first_in g day) (returned_by g day done) (rows_through g (first_in g day) (day - 1) (before g day)) (amid g day done) s t
with-rows g day done s t o h =
    let b = amid g day done in
    let at = stands g day b s.segments.balances o (amid-lies g day done o) h.stand.sums in
    record {
      at = subst (λ r. StandsAt (account_in g) (seen_in g day) b r s.segments.balances t.entries.items) (sym h.stand.rates)
          (subst (λ es. StandsAt (account_in g) (seen_in g day) b (rates_of g.shared.holidays g.history b.penalties) s.segments.balances es) (sym h.stand.entries) at);
      fees = h.stand.fees;
      rows = h.stand.rows;
    }

pub amid-with : (g : Given) (day : ℕ) (done next : List CorrectedPost) (c : Book) (s new : State) (t after : Track) → AreAmid g day done s t → IsRestKept s new t after → IsAdded (amid g day done) c → c ≡ amid g day next
    → StandWith (account_in g) (seen_in g day) (first_in g day) (returned_by g day next) (rows_through g (first_in g day) (day - 1) (before g day)) c new after → AreAmid g day next new after
amid-with g day done next c s new t after h k adds is w =
    let stand : StandFor g (rows_amid g day next c) c new after = record {
      entries = w.at.same;
      cycles = k.cycles ∙ (h.stand.cycles ∙ sym adds.cycles);
      fees = w.fees;
      rates = k.rates ∙ (h.stand.rates ∙ ap (λ ps. rates_of g.shared.holidays g.history ps) (sym adds.penalties));
      segments = k.segments ∙ h.stand.segments;
      sums = w.at.sums;
      rows = w.rows;
      accruals = ap (λ (xs : List Accrued). length xs) k.accruals ∙ (h.stand.accruals ∙ ap (λ (r : Rates). length r.segments) (sym k.rates));
    } in
    record {
      stand = subst (λ (b : Book). StandFor g (rows_amid g day next b) b new after) is stand;
      accrued = record {
        sums = λ x there deferred over.
            ap (λ (xs : List Accrued). (get_or xs (x.id - 2) nothing_accrued).sum) k.accruals ∙ h.accrued.sums x (subst (λ (r : Rates). Contains r.segments x) k.rates there) deferred over;
        days = subst (λ (xs : List Accrued). All (λ a. a.days ≤ day - 1 + 1 - opened_in g) xs) (sym k.accruals) h.accrued.days;
      };
    }

-- ---- the post at a place
pub record IsAtPlace (g : Given) (day place : ℕ) (x : DayPost) : Type 0 where
  pub same : x ≡ day_post (post_at_place g day place)
  pub folded : is_folded (post_at_place g day place).post ≡ true
  pub of_day : IsOfDay day (post_at_place g day place)

-- what the posts tell of a place
abbrev pub Told : Posted → ℕ → Option DayPost → Type 0
Told posts place o =
    (holidays : List ℕ) (day i : ℕ) (p : CorrectedPost) → StandsFor holidays posts → place ≡ place_of day posts.corrected + i → i < length (on day posts.corrected)
    → o ≡ folded_post (get_or (on day posts.corrected) i p)

pub told-here : (g : Given) (day place : ℕ) (posts : Posted) (o : Option DayPost) → StandsFor g.shared.holidays posts → posts.history ≡ g.history
    → place_in g day ≤ place → place < place_in g day + length (posts_of g day) → Told posts place o → o ≡ folded_post (post_at_place g day place)
told-here g day place posts o stands history low high told =
    found-there g day place posts.corrected o (stands ∙ ap (λ h. corrected (anchor_of h) g.shared.holidays h) history) low high
    (λ at l. told g.shared.holidays day (place - place_in g day) any_post stands at l)

pub at-place : (g : Given) (day place : ℕ) (o : Option DayPost) (x : DayPost) → IsSound g → place_in g day ≤ place → place < place_in g day + length (posts_of g day)
    → o ≡ folded_post (post_at_place g day place) → o ≡ Some x → IsAtPlace g day place x
at-place g day place o x s low high e is =
    let found = is-found (post_at_place g day place) x (sym e ∙ is) in
    record { same = found.0; folded = found.1; of_day = of-day g day (place - place_in g day) any_post s (omega (arith, low, high)) }

pub place-day : (g : Given) (day place : ℕ) (x : DayPost) → IsAtPlace g day place x → x.slot.day ≡ day
place-day g day place x h = ap (λ (d : DayPost). d.slot.day) h.same ∙ h.of_day.day

pub place-low : (g : Given) (day place : ℕ) (x : DayPost) → IsAtPlace g day place x → pos 0 ≤ℤ x.slot.cents
place-low g day place x h = let low : pos 0 ≤ℤ pos (post_at_place g day place).cents = omega (arith, ints) in subst (λ (d : DayPost). pos 0 ≤ℤ d.slot.cents) (sym h.same) low

pub place-high : (g : Given) (day place : ℕ) (x : DayPost) → IsAtPlace g day place x → x.slot.cents ≤ℤ pos balance_limit
place-high g day place x h =
    let few = h.of_day.few h.folded in
    let high : pos (post_at_place g day place).cents ≤ℤ pos balance_limit = omega (arith, ints, few) in
    subst (λ (d : DayPost). d.slot.cents ≤ℤ pos balance_limit) (sym h.same) high

-- a post that is no Penalty
no-penalty : (p : Post) → (p ≡ post.Penalty → ⊥) → is_penalty p ≡ false
no-penalty post.Penalty other = absurd (other refl)
no-penalty (post.Charge d p c) other = refl
no-penalty (post.Payment d m c x) other = refl
no-penalty (post.Credit d p c) other = refl
no-penalty (post.Return d t) other = refl
no-penalty (post.Dispute d t c) other = refl
no-penalty (post.Resolve d t c) other = refl
no-penalty (post.Refund c) other = refl
no-penalty (post.Open d t) other = refl
no-penalty (post.OpenVariable d t) other = refl
no-penalty (post.Plan d k r x f) other = refl
no-penalty (post.Notice d c r x) other = refl
no-penalty (post.Lower d c r) other = refl
no-penalty (post.Review d f) other = refl
no-penalty (post.Ack d t) other = refl
no-penalty (post.AskRefund d) other = refl
no-penalty (post.Amend t d c) other = refl
no-penalty (post.Bill c) other = refl

pub place-kind : (g : Given) (day place : ℕ) (x : DayPost) → IsAtPlace g day place x → (x.post ≡ post.Penalty → ⊥) → is_penalty x.post ≡ false
place-kind g day place x h other = no-penalty x.post other

-- the same of the corrected post
post-kind : (g : Given) (day place : ℕ) (x : DayPost) → IsAtPlace g day place x → is_penalty x.post ≡ false → is_penalty (post_at_place g day place).post ≡ false
post-kind g day place x h e = ap (λ (d : DayPost). is_penalty d.post) (sym h.same) ∙ e

pub place-cycles : (g : Given) (day place : ℕ) (x : DayPost) (done : List CorrectedPost) (s : State) (t : Track) → IsAtPlace g day place x → AreAmid g day done s t → t.cycles.items ≡ (before g x.slot.day).cycles
place-cycles g day place x done s t p h = h.stand.cycles ∙ (cycles-before g day done ∙ ap (λ d. (before g d).cycles) (sym (place-day g day place x p)))

-- a Return names an earlier payment, which the fold of its day sees
pub place-named : (g : Given) (day place n : ℕ) (x : DayPost) → IsSound g → place_in g day ≤ place → place < place_in g day + length (posts_of g day) → IsAtPlace g day place x → returns n x.post ≡ true
    → (n ≤ post_limit) × SeesPayment g x.slot.day n
place-named g day place n x s low high h gives =
    let there = sees-payment g day (place - place_in g day) n any_post s (omega (arith, low, high)) (ap (λ (d : DayPost). returns n d.post) (sym h.same) ∙ gives) in
    (there.0, subst (λ d. SeesPayment g d n) (sym (place-day g day place x h)) there.1)

-- the book after the post at a place
abbrev after_place : Given → ℕ → ℕ → Book
after_place g day place =
    effect (row_in g (day - opened_in g)) (account_in g) (seen_in g day) (post_at_place g day place) (post_at_place g day place).post (amid g day (done_by g day place))

next-place : (g : Given) (day place : ℕ) → opened_in g ≤ day → place_in g day ≤ place → place < place_in g day + length (posts_of g day) → after_place g day place ≡ amid g day (done_by g day (place + 1))
next-place g day place o low high =
    let next : place - place_in g day + 1 ≡ place + 1 - place_in g day = omega (arith, low) in
    sym (amid-next g day (place - place_in g day) any_post o (omega (arith, low, high))) ∙ ap (λ k. amid g day (take k (posts_of g day))) next

-- the payments that are returned after it
returned-place : (g : Given) (day place n : ℕ) → place_in g day ≤ place → place < place_in g day + length (posts_of g day)
    → returned_after (returned_by g day (done_by g day place)) (post_at_place g day place).post n ≡ returned_by g day (done_by g day (place + 1)) n
returned-place g day place n low high =
    let next : place - place_in g day + 1 ≡ place + 1 - place_in g day = omega (arith, low) in
    sym (returned-next g day (place - place_in g day) n any_post (omega (arith, low, high))) ∙ ap (λ k. returned_by g day (take k (posts_of g day)) n) next

-- what it may rely on
pub may-follow : (g : Given) (day place : ℕ) (s : State) (t : Track) → IsSound g → opened_in g ≤ day → place_in g day ≤ place → place < place_in g day + length (posts_of g day) → AreAmid g day (done_by g day place) s t
    → MayFollow day s.rates (returned_by g day (done_by g day place)) (post_at_place g day place) (amid g day (done_by g day place))
may-follow g day place s t sound o low high h =
    let i = place - place_in g day in
    let within : i < length (posts_of g day) = omega (arith, low, high) in
    let one = sound.opening.first in
    record {
      stands = λ pays. not-returned g day i any_post sound (omega (arith, one, o)) within pays;
      paid = λ n gives. no-credit g day i n any_post sound o within gives;
      those = subst (λ (r : Rates). AreOfThose day r (amid g day (done_by g day place)).entries) (sym h.stand.rates) (are-those g day (amid g day (done_by g day place)) o (amid-lies g day (done_by g day place) o));
    }

-- the same of another day that is this one
moved : (g : Given) (from day : ℕ) (x : DayPost) (s new : State) (t after : Track) (first : ℕ) (returned : ℕ → Bool) (held : SegmentTerms → Rows) (p : CorrectedPost) (b : Book) → x.slot.day ≡ day → EntersPost g x s new t after
    → first ≤ day → b.cycles ≡ (before g day).cycles → MayFollow day s.rates returned p b → x ≡ day_post p → StandWith (account_in g) (seen_in g day) first returned held b s t
    → StandWith (account_in g) (seen_in g day) first (returned_after returned p.post) held (effect (row_in g (day - opened_in g)) (account_in g) (seen_in g day) p p.post b) new after
moved g from day x s new t after first returned held p b e did =
    subst (λ d. first ≤ d → b.cycles ≡ (before g d).cycles → MayFollow d s.rates returned p b → x ≡ day_post p → StandWith (account_in g) (seen_in g d) first returned held b s t
    → StandWith (account_in g) (seen_in g d) first (returned_after returned p.post) held (effect (row_in g (d - opened_in g)) (account_in g) (seen_in g d) p p.post b) new after) e (did first returned held p b)

pub after-post : (g : Given) (day place : ℕ) (x : DayPost) (s new : State) (t after : Track) → IsSound g → opened_in g ≤ day → day ≤ last_request_day → place_in g day ≤ place → place < place_in g day + length (posts_of g day)
    → IsAtPlace g day place x → AreAmid g day (done_by g day place) s t → EntersPost g x s new t after
    → StandWith (account_in g) (seen_in g day) (first_in g day) (returned_by g day (done_by g day (place + 1))) (rows_through g (first_in g day) (day - 1) (before g day)) (after_place g day place) new after
after-post g day place x s new t after sound o l low high p h did =
    let q = post_at_place g day place in
    let done = done_by g day place in
    let held = rows_through g (first_in g day) (day - 1) (before g day) in
    same-returned (account_in g) (seen_in g day) (first_in g day) (returned_after (returned_by g day done) q.post) (returned_by g day (done_by g day (place + 1))) held (after_place g day place) new after
    (λ n. returned-place g day place n low high)
    (moved g day day x s new t after (first_in g day) (returned_by g day done) held q (amid g day done) (place-day g day place x p) did
    (first-by g day sound o l) (cycles-before g day done) (may-follow g day place s t sound o low high h) p.same (with-rows g day done s t o h))

pub next-amid : (g : Given) (day place : ℕ) (x : DayPost) (s new : State) (t after : Track) → IsSound g → opened_in g ≤ day → day ≤ last_request_day → place_in g day ≤ place → place < place_in g day + length (posts_of g day)
    → IsAtPlace g day place x → is_penalty x.post ≡ false → AreAmid g day (done_by g day place) s t → IsRestKept s new t after → EntersPost g x s new t after → AreAmid g day (done_by g day (place + 1)) new after
next-amid g day place x s new t after sound o l low high p kind h k did =
    let adds = effect-adds (row_in g (day - opened_in g)) (account_in g) (seen_in g day) (post_at_place g day place) (post_at_place g day place).post (amid g day (done_by g day place)) (post-kind g day place x p kind) in
    amid-with g day (done_by g day place) (done_by g day (place + 1)) (after_place g day place) s new t after h k adds (next-place g day place o low high) (after-post g day place x s new t after sound o l low high p h did)

pub next-begins : (g : Given) (day place : ℕ) (x : DayPost) (s new : State) (t after : Track) → IsSound g → opened_in g ≤ day → day ≤ last_request_day → place_in g day ≤ place → place < place_in g day + length (posts_of g day)
    → IsAtPlace g day place x → is_penalty x.post ≡ false → AreAmid g day (done_by g day place) s t → IsRestKept s new t after → EntersPost g x s new t after → Begins t after
next-begins g day place x s new t after sound o l low high p kind h k did =
    let adds = effect-adds (row_in g (day - opened_in g)) (account_in g) (seen_in g day) (post_at_place g day place) (post_at_place g day place).post (amid g day (done_by g day place)) (post-kind g day place x p kind) in
    let w = after-post g day place x s new t after sound o l low high p h did in
    begins-more t after adds.more adds.charged (w.at.same ∙ (adds.entries ∙ ap (λ es. es ++ adds.more) (sym h.stand.entries))) k.cycles
    (w.fees ∙ (adds.fees ∙ ap (λ fs. fs ++ adds.charged) (sym h.stand.fees)))

-- a post of a kind that isn't folded returns nothing
idle-none : (n : ℕ) (q : Post) → is_folded q ≡ false → returns n q ≡ false
idle-none n (post.Return d t) e = absurd (cc)
idle-none n post.Penalty e = refl
idle-none n (post.Charge d p c) e = refl
idle-none n (post.Payment d m c x) e = refl
idle-none n (post.Credit d p c) e = refl
idle-none n (post.Dispute d t c) e = refl
idle-none n (post.Resolve d t c) e = refl
idle-none n (post.Refund c) e = refl
idle-none n (post.Open d t) e = refl
idle-none n (post.OpenVariable d t) e = refl
idle-none n (post.Plan d k r x f) e = refl
idle-none n (post.Notice d c r x) e = refl
idle-none n (post.Lower d c r) e = refl
idle-none n (post.Review d f) e = refl
idle-none n (post.Ack d t) e = refl
idle-none n (post.AskRefund d) e = refl
idle-none n (post.Amend t d c) e = refl
idle-none n (post.Bill c) e = refl

or-false : (t : Bool) → (t || false) ≡ t
or-false true = refl
or-false false = refl

pub next-idle : (g : Given) (day place : ℕ) (s : State) (t : Track) → opened_in g ≤ day → place_in g day ≤ place → place < place_in g day + length (posts_of g day)
    → is_folded (post_at_place g day place).post ≡ false → AreAmid g day (done_by g day place) s t → AreAmid g day (done_by g day (place + 1)) s t
next-idle g day place s t o low high idle h =
    let done = done_by g day place in
    let next = done_by g day (place + 1) in
    let b = amid g day done in
    let q = post_at_place g day place in
    let same : b ≡ amid g day next = sym (of_a_day.idle (row_in g (day - opened_in g)) (account_in g) (seen_in g day) q b idle) ∙ next-place g day place o low high in
    let returned : (n : ℕ) → returned_by g day done n ≡ returned_by g day next n =
    λ n. sym (ap (λ u. returned_by g day done n || u) (idle-none n q.post idle) ∙ or-false (returned_by g day done n)) ∙ returned-place g day place n low high in
    let rows : s.rows.items ≡ map (rows_amid g day next b) s.rates.segments =
    h.stand.rows ∙ each-same (rows_amid g day done b) (rows_amid g day next b)
    (λ x. ap (λ r. with_repaid r (rows_through g (first_in g day) (day - 1) (before g day) x)) (same-brought x.id (first_in g day) (returned_by g day done) (returned_by g day next) returned b.entries)) s.rates.segments in
    let stand : StandFor g (rows_amid g day next b) b s t = record {
      entries = h.stand.entries;
      cycles = h.stand.cycles;
      fees = h.stand.fees;
      rates = h.stand.rates;
      segments = h.stand.segments;
      sums = h.stand.sums;
      rows = rows;
      accruals = h.stand.accruals;
    } in
    record { stand = subst (λ (c : Book). StandFor g (rows_amid g day next c) c s t) same stand; accrued = h.accrued }

-- a Penalty changes the rates alone
pub next-penalty : (g : Given) (day place : ℕ) (x : DayPost) (s new : State) (t : Track) → opened_in g ≤ day → place_in g day ≤ place → place < place_in g day + length (posts_of g day)
    → IsAtPlace g day place x → x.post ≡ post.Penalty → AreAmid g day (done_by g day place) s t → IsWithPenalties (begun_on (seen_in g day) (before g day).cycles (amid g day (done_by g day place)).penalties) s new → AreAmid g day (done_by g day (place + 1)) new t
next-penalty g day place x s new t o low high p is h k =
    let done = done_by g day place in
    let next = done_by g day (place + 1) in
    let b = amid g day done in
    let q = post_at_place g day place in
    let c = with_penalties (begun_on (seen_in g day) (before g day).cycles b.penalties) b in
    let kind : q.post ≡ post.Penalty = ap (λ (d : DayPost). d.post) (sym p.same) ∙ is in
    let same : c ≡ amid g day next = ap (λ cs. with_penalties (begun_on (seen_in g day) cs b.penalties) b) (sym (cycles-before g day done))
    ∙ (sym (penalty-is (row_in g (day - opened_in g)) (account_in g) (seen_in g day) q q.post b kind) ∙ next-place g day place o low high) in
    let returned : (n : ℕ) → returned_by g day done n ≡ returned_by g day next n =
    λ n. sym (ap (λ u. returned_by g day done n || u) (penalty-none n q.post kind) ∙ or-false (returned_by g day done n)) ∙ returned-place g day place n low high in
    let stand = stand-with g (rows_amid g day done b) (rows_amid g day next c) (begun_on (seen_in g day) (before g day).cycles b.penalties) b s new t h.stand
    (λ x. ap (λ r. with_repaid r (rows_through g (first_in g day) (day - 1) (before g day) x)) (same-brought x.id (first_in g day) (returned_by g day done) (returned_by g day next) returned b.entries)) k in
    record { stand = subst (λ (c : Book). StandFor g (rows_amid g day next c) c new t) same stand; accrued = accrued-with g (day - 1) (before g day) _ s new h.accrued k }

-- ---- rows of each segment but Credit and Held
pub rows-count : (g : Given) (rows_by : SegmentTerms → Rows) (b : Book) (s : State) (t : Track) → StandFor g rows_by b s t → length s.segments.segments ≡ length s.segments.balances → 5 ≤ length s.segments.balances
    → length s.rows.items + 2 ≡ length s.segments.balances
rows-count g rows_by b s t h equal five =
    let kept = (rated g rows_by b s t h).kept in
    let drops = length-drop 2 s.segments.segments in
    let many = length-map s.rates.segments kept_segment in
    let rows = length-map s.rates.segments rows_by in
    omega (arith, equal, five, drops, many, rows, ap (λ (xs : List Segment). length xs) kept, ap (λ (xs : List Rows). length xs) h.rows)

-- ---- either way
pub either-way : {A E : Type 0} (r : Result A E) (P : Type 0) → OnOk r P → OnErr r P → P
either-way (Ok x) P h k = h
either-way (Err e) P h k = k

-- ---- all places of a day
pub place-found : (g : Given) (day place : ℕ) (posts : Posted) (o : Option DayPost) (x : DayPost) → IsSound g → StandsFor g.shared.holidays posts → posts.history ≡ g.history
    → place_in g day ≤ place → place < place_in g day + length (posts_of g day) → Told posts place o → o ≡ Some x → IsAtPlace g day place x
place-found g day place posts o x s stands history low high told is = at-place g day place o x s low high (told-here g day place posts o stands history low high told) is

pub place-is : (g : Given) (day r : ℕ) (posts : Posted) → StandsFor g.shared.holidays posts → posts.history ≡ g.history → r ≡ place_of day posts.corrected → r ≡ place_in g day
place-is g day r posts stands history e = e ∙ ap (place_of day) (stands ∙ ap (λ h. corrected (anchor_of h) g.shared.holidays h) history)

pub end-is : (g : Given) (day : ℕ) → place_in g (day + 1) ≡ place_in g day + length (posts_of g day)
end-is g day = of_days.next (corrected (anchor_of g.history) g.shared.holidays g.history) day

-- a slot of a later day, behind slots that aren't, has the place of the next day; where there is none, that is behind all
pub end-later : (slots : List Slot) (day place end : ℕ) (s : Slot) → IsCut slots (day + 1) end → place ≤ end → place < length slots → s ≡ get_or slots place s → day < s.day → place ≡ end
end-later slots day place end s h l within at later = by (cases_lt place end)
  where
    by : (place < end) ⊎ (end ≤ place) → place ≡ end
    by (inl m) =
        let front = h.front place s m within in
        let same = ap (λ (t : Slot). t.day) at in
        absurd (omega (arith, front, same, later))
    by (inr m) = omega (arith, l, m)

-- the place that is found so is that of the next day
pub end-found : (g : Given) (day first found : ℕ) (posts : Posted) (slots : List Slot) → StandsFor g.shared.holidays posts → posts.history ≡ g.history → first ≡ place_of day posts.corrected
    → slots ≡ folding_order posts.corrected → ((end : ℕ) → IsCut slots (day + 1) end → first ≤ end → found ≡ end) → found ≡ place_in g (day + 1)
end-found g day first found posts slots stands history e order h =
    let a = anchor_of g.history in
    let cs = corrected a g.shared.holidays g.history in
    let list : posts.corrected ≡ cs = stands ∙ ap (λ h. corrected (anchor_of h) g.shared.holidays h) history in
    let start = place-is g day first posts stands history e in
    let next = end-is g day in
    h (place_in g (day + 1)) (subst (λ (xs : List Slot). IsCut xs (day + 1) (place_in g (day + 1))) (sym (order ∙ ap folding_order list)) (of_days.cut a g.shared.holidays g.history (day + 1)))
    (omega (arith, start, next))

pub done-none : (g : Given) (day place : ℕ) → place ≡ place_in g day → [] ≡ done_by g day place
done-none g day place e = let none : 0 ≡ place - place_in g day = omega (arith, e) in ap (λ n. take n (posts_of g day)) none

pub done-all : (g : Given) (day place : ℕ) → place_in g day + length (posts_of g day) ≤ place → done_by g day place ≡ posts_of g day
done-all g day place l = take_all (place - place_in g day) (posts_of g day) (omega (arith, l))

-- ---- a track that grew twice
grown : {A : Type 0} (xs ys : List A) → take (length xs) ys ≡ xs → ys ≡ xs ++ drop (length xs) ys
grown xs ys e = sym (take-append-drop (length xs) ys) ∙ ap (λ l. l ++ drop (length xs) ys) e

grown-twice : {A : Type 0} (xs ys zs : List A) → take (length xs) ys ≡ xs → take (length ys) zs ≡ ys → take (length xs) zs ≡ xs
grown-twice xs ys zs e f =
    begins-with xs zs (drop (length xs) ys ++ drop (length ys) zs)
    (grown ys zs f ∙ (ap (λ l. l ++ drop (length ys) zs) (grown xs ys e) ∙ append_assoc xs (drop (length xs) ys) (drop (length ys) zs)))

pub begins-twice : (t mid after : Track) → Begins t mid → Begins mid after → Begins t after
begins-twice t mid after h k = record {
  entries = grown-twice t.entries.items mid.entries.items after.entries.items h.entries k.entries;
  cycles = grown-twice t.cycles.items mid.cycles.items after.cycles.items h.cycles k.cycles;
  fees = grown-twice t.fees.items mid.fees.items after.fees.items h.fees k.fees;
}
