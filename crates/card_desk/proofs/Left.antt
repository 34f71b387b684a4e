-- The steps that are left on the accounts of a desk, by its state.
use Rattle.std.proofs.Common.{◌≡◌, ℕ, suc, ◌+◌, ◌-◌, ◌*◌, ◌<◌, ◌≤◌, min, Option, Some, None, List, [], ◌∷◌, length, get_or, set, refl, false, ap, sym, ◌∙◌, subst, arith, zip, ◌||◌}
use Rattle.std.proofs.lemmas.List.{get_or-map, get_or-set_same, length-set}
use Rattle.std.proofs.lemmas.List.Sums.{sum_by-cons}
use Rattle.std.specs.List.{sum_by}
use Rattle.card_account.specs.Accounts.{OpenAccount, steps_of}
use Rattle.card_book.proofs.StepCounts.{steps_add_up}
use Rattle.card_book.specs.StepCounts.{breaks_from, breaks_with}
use Rattle.card_book.specs.Stands.{steps_over}
use Rattle.card_posts.specs.Change.{IsFirstChange}
use Rattle.card_desk.proofs.FoldLemmas.{alike_at}
use Rattle.card_desk.specs.Desks.{IsDesk, OpenDesk, named_all, open_desk, reached_all, state_of}
use Rattle.card_desk.specs.Steps.{AreFewOn, AreFewToApply, AreFewToKeep, AreFewToPost, AreFewToTell, IsIdleOn, IsIdleToApply, IsIdleToJudge, IsIdleToPost, ReachedLists, breaks_left, most_for_all, reached_at, reached_of, reached_there, steps_at, steps_left}
use Rattle.card_desk.specs.Places.{place_from}
use Rattle.card_events.specs.History.{CorrectedPost, anchor_of, corrected}
use Rattle.card_events.specs.Keys.{with_key}
use Rattle.card_events.specs.SharedRows.{IndexRow, SharedRows, shared_rows}
use Rattle.card_events.specs.declared.post.Post.{Post}
use Rattle.card_events.specs.declared.request.Request.TheVariants as request
use Rattle.card_events.specs.declared.request.Shared.{Shared}
use Rattle.card_model.specs.Books.{Book, account_of}
use Rattle.card_model.specs.Breaks.{breaks_among, is_break}
use Rattle.card_model.specs.Machine.{Accepts, NamedAccount, Outcome, Refuses, Repeats, State, outcome_in}
use Rattle.card_model.specs.Refusals.{Lists, book_today}
use Rattle.card_model.specs.Spans.{steps_among}
use Rattle.card_reasons.proofs.SameReasons.{AreAlike}
use Rattle.card_reasons.specs.Reasons.{reads_book}
use Rattle.card_replay.specs.Needs.{needs_today}
use Rattle.card_replay.specs.Replays.{given_of, present_of}
use Rattle.card_replay.specs.Steps.{AreFewSteps, IsFirstBetween, first_in_cycle}

-- ---- numbers alone
one-more : (before after x b : ℕ) → after ≤ before + x → x ≤ b + 1 → after ≤ before + (b + 1)
one-more before after x b l m = omega (arith, l, m)

twice-more : (before after x b : ℕ) → after ≤ before + x → x ≤ b + 1 → after ≤ before + (2 * b + 2)
twice-more before after x b l m = omega (arith, l, m)

both-more : (before now after x y f b : ℕ) → now + y ≤ before + x → after ≤ now + y + (f + 1) → x ≤ b + 1 → f ≤ b → after ≤ before + (2 * b + 2)
both-more before now after x y f b l m h k = omega (arith, l, m, h, k)

least-left : (x y : ℕ) → min x y ≤ x
least-left x y = omega arith

least-next : (x y : ℕ) → min x y ≤ y + 1
least-next x y = omega arith

then-one : (x y z : ℕ) → x ≤ y + 1 → y ≤ z → x ≤ z + 1
then-one x y z l m = omega (arith, l, m)

no-less : (n m : ℕ) → n ≤ n + m
no-less n m = omega arith

-- ---- under the same rows
-- one corrected list and one book have one count of steps
pub same_steps : (today : ℕ) (lists : Lists) (a b : SharedRows) (first : ℕ) → AreAlike today lists a b → steps_over (given_of lists a) today first ≡ steps_over (given_of lists b) today first
unfolding book_today
same_steps today lists a b first alike =
    ap (λ (posts : List CorrectedPost). steps_among (λ day. is_break (account_of lists.posts) posts lists.issued a.index (book_today (present_of today a lists)).penalties day) first today) alike.posts
    ∙ (ap (λ (x : Book). steps_among (λ day. is_break (account_of lists.posts) (corrected (anchor_of lists.posts) b.holidays lists.posts) lists.issued a.index x.penalties day) first today) alike.books
    ∙ ap (λ (rows : List IndexRow). steps_among (λ day. is_break (account_of lists.posts) (corrected (anchor_of lists.posts) b.holidays lists.posts) lists.issued rows (book_today (present_of today b lists)).penalties day) first today) alike.index)

-- with either of two lists
same_either : (today : ℕ) (old new : Lists) (a b : SharedRows) (first : ℕ) → AreAlike today old a b → AreAlike today new a b
    → breaks_with (given_of old a) (given_of new a) first today ≡ breaks_with (given_of old b) (given_of new b) first today
unfolding book_today
same_either today old new a b first one two =
    ap (λ (posts : List CorrectedPost). between posts (corrected (anchor_of new.posts) a.holidays new.posts) a.index (book_today (present_of today a old)) (book_today (present_of today a new))) one.posts
    ∙ (ap (λ (x : Book). between (corrected (anchor_of old.posts) b.holidays old.posts) (corrected (anchor_of new.posts) a.holidays new.posts) a.index x (book_today (present_of today a new))) one.books
    ∙ (ap (λ (posts : List CorrectedPost). between (corrected (anchor_of old.posts) b.holidays old.posts) posts a.index (book_today (present_of today b old)) (book_today (present_of today a new))) two.posts
    ∙ (ap (λ (x : Book). between (corrected (anchor_of old.posts) b.holidays old.posts) (corrected (anchor_of new.posts) b.holidays new.posts) a.index (book_today (present_of today b old)) x) two.books
    ∙ ap (λ (rows : List IndexRow). between (corrected (anchor_of old.posts) b.holidays old.posts) (corrected (anchor_of new.posts) b.holidays new.posts) rows (book_today (present_of today b old)) (book_today (present_of today b new))) one.index)))
  where
    between : List CorrectedPost → List CorrectedPost → List IndexRow → Book → Book → ℕ
    between these those rows x y =
        breaks_among (λ day. is_break (account_of old.posts) these old.issued rows x.penalties day || is_break (account_of new.posts) those new.issued rows y.penalties day) first (today + 1 - first)

-- the first day that differs is one under both
pub same_first : (today : ℕ) (old new : Lists) (a b : SharedRows) (from : ℕ) → AreAlike today old a b → AreAlike today new a b → IsFirstBetween b old new from → IsFirstBetween a old new from
same_first today old new a b from one two is =
    subst (λ (posts : List CorrectedPost). IsFirstChange from posts (corrected (anchor_of new.posts) a.holidays new.posts)) (sym one.posts)
    (subst (λ (posts : List CorrectedPost). IsFirstChange from (corrected (anchor_of old.posts) b.holidays old.posts) posts) (sym two.posts) is)

few-under : (before after x y f h : ℕ) → after ≤ before + x + (f + 1) → x ≡ y → f ≡ h → after ≤ before + y + (h + 1)
few-under before after x y f h l e d = omega (arith, l, e, d)

-- so are the steps to prepare a post
pub few_same : (today : ℕ) (old new : Lists) (a b : SharedRows) (reached before after : ℕ) → AreAlike today old a b → AreAlike today new a b
    → AreFewSteps today a old new reached before after → AreFewSteps today b old new reached before after
few_same today old new a b reached before after one two few = λ from is.
    few-under before after (steps_over (given_of old a) today (reached + 1)) (steps_over (given_of old b) today (reached + 1)) (breaks_with (given_of old a) (given_of new a) (first_in_cycle (anchor_of old.posts) from) today)
    (breaks_with (given_of old b) (given_of new b) (first_in_cycle (anchor_of old.posts) from) today) (few from (same_first today old new a b from one two is)) (same_steps today old a b (reached + 1) one)
    (same_either today old new a b (first_in_cycle (anchor_of old.posts) from) one two)

-- ---- the account at a place
-- what it has and has reached
pub there_is : (rows : List Shared) (today : ℕ) (accounts : List OpenAccount) (i : ℕ) (b : OpenAccount) → i < length accounts → b ≡ get_or accounts i b
    → reached_there (open_desk today rows accounts) i ≡ record { lists = b.named.lists; reached = b.folding.reached }
there_is rows today accounts i b low is =
    let none : NamedAccount = record { name = []; lists = record { posts = []; issued = [] } } in
    let named : get_or (named_all accounts) i none ≡ b.named = get_or-map (λ (x : OpenAccount). x.named) accounts i b none low ∙ ap (λ (x : OpenAccount). x.named) (sym is) in
    let day : get_or (reached_all accounts) i 0 ≡ b.folding.reached = get_or-map (λ (x : OpenAccount). x.folding.reached) accounts i b 0 low ∙ ap (λ (x : OpenAccount). x.folding.reached) (sym is) in
    ap (λ (x : NamedAccount). record { lists = x.lists; reached = get_or (reached_all accounts) i 0 }) named ∙ ap (λ (n : ℕ). record { lists = b.named.lists; reached = n }) day

-- the steps that are left on it are those of the desk's state
pub steps_there : (places : List (List ℕ × ℕ)) (common : SharedRows) (count today : ℕ) (rows : List Shared) (accounts : List OpenAccount) (i : ℕ) (b : OpenAccount) (d : OpenDesk)
    → IsDesk places common count today rows accounts → open_desk today rows accounts ≡ d → i < length accounts → b ≡ get_or accounts i b
    → steps_of today common b ≡ steps_at d i
steps_there places common count today rows accounts i b d desk view low is =
    let alike = subst (λ (x : OpenAccount). AreAlike today x.named.lists common (shared_rows rows)) (sym is) (alike_at places common count today rows accounts i b desk low) in
    same_steps today b.named.lists common (shared_rows rows) (b.folding.reached + 1) alike
    ∙ (ap (λ (x : ReachedLists). steps_left (state_of today rows accounts) x) (sym (there_is rows today accounts i b low is)) ∙ ap (λ (x : OpenDesk). steps_at x i) view)

-- and so are those that are left after it was judged
spend : (before after x y u v : ℕ) → after + x ≤ before + y → x ≡ u → y ≡ v → after + u ≤ before + v
spend before after x y u v l e f = omega (arith, l, e, f)

pub spent_there : (places : List (List ℕ × ℕ)) (common : SharedRows) (count today : ℕ) (rows : List Shared) (accounts : List OpenAccount) (i : ℕ) (a b : OpenAccount) (d new : OpenDesk) (before after : ℕ)
    → IsDesk places common count today rows accounts → IsDesk places common count today rows (set accounts i a) → open_desk today rows accounts ≡ d
    → open_desk today rows (set accounts i a) ≡ new → i < length accounts → b ≡ get_or accounts i b
    → after + steps_of today common a ≤ before + steps_of today common b → after + steps_at new i ≤ before + steps_at d i
spent_there places common count today rows accounts i a b d new before after desk next view made low is l =
    let here : i < length (set accounts i a) = omega (arith, low, length-set accounts i a) in
    spend before after (steps_of today common a) (steps_of today common b) (steps_at new i) (steps_at d i) l
    (steps_there places common count today rows (set accounts i a) i a new next made here (sym (get_or-set_same accounts i a a low)))
    (steps_there places common count today rows accounts i b d desk view low is)

-- ---- to ask
-- at most one more than break days are left
left-few : (s : State) (a : ReachedLists) → steps_left s a ≤ breaks_left s a + 1
left-few s a = steps_add_up.few (given_of a.lists (shared_rows s.shared)) a.reached (a.reached + 1) s.today (no-less a.reached 1)

pub few_to_tell : (d : OpenDesk) (name : List ℕ) (i before after : ℕ) → place_from name 0 d.state.accounts ≡ Some i → after ≤ before + steps_at d i → AreFewToTell d.state (reached_of name d) before after
few_to_tell d name i before after place l =
    subst (λ (o : Option ℕ). AreFewToTell d.state (reached_at d o) before after) (sym place)
    (one-more before after (steps_at d i) (breaks_left d.state (reached_there d i)) l (left-few d.state (reached_there d i)))

pub none_to_tell : (d : OpenDesk) (name : List ℕ) (n : ℕ) → place_from name 0 d.state.accounts ≡ None → AreFewToTell d.state (reached_of name d) n n
none_to_tell d name n absent = subst (λ (o : Option ℕ). AreFewToTell d.state (reached_at d o) n n) (sym absent) refl

-- of all accounts
each-left : (s : State) (f : OpenAccount → ℕ) (xs : List OpenAccount) → ((i : ℕ) (e : OpenAccount) → i < length xs → f (get_or xs i e) ≤ breaks_left s (record { lists = (get_or xs i e).named.lists; reached = (get_or xs i e).folding.reached }) + 1)
    → sum_by f xs ≤ sum_by (λ (x : NamedAccount × ℕ). breaks_left s (record { lists = x.0.lists; reached = x.1 }) + 1) (zip (named_all xs) (reached_all xs))
each-left s f [] h = omega arith
each-left s f (x ∷ xs) h =
    let g : NamedAccount × ℕ → ℕ = λ y. breaks_left s (record { lists = y.0.lists; reached = y.1 }) + 1 in
    sums (f x) (g (x.named, x.folding.reached)) (sum_by f xs) (sum_by g (zip (named_all xs) (reached_all xs))) (sum_by f (x ∷ xs)) (sum_by g (zip (named_all (x ∷ xs)) (reached_all (x ∷ xs))))
    (sum_by-cons f x xs) (sum_by-cons g (x.named, x.folding.reached) (zip (named_all xs) (reached_all xs))) (h 0 x (omega arith)) (each-left s f xs (λ i e l. h (suc i) e (omega (arith, l))))
  where
    sums : (a b c d u v : ℕ) → u ≡ a + c → v ≡ b + d → a ≤ b → c ≤ d → u ≤ v
    sums a b c d u v e f l m = omega (arith, e, f, l, m)

pub few_for_all : (places : List (List ℕ × ℕ)) (common : SharedRows) (count today : ℕ) (rows : List Shared) (accounts : List OpenAccount) (d : OpenDesk) (before after : ℕ)
    → IsDesk places common count today rows accounts → open_desk today rows accounts ≡ d
    → after ≤ before + sum_by (steps_of today common) accounts → after ≤ before + most_for_all d
few_for_all places common count today rows accounts d before after desk view l =
    subst (λ (x : OpenDesk). after ≤ before + most_for_all x) view
    (within before after (sum_by (steps_of today common) accounts) (most_for_all (open_desk today rows accounts)) l
    (each-left (state_of today rows accounts) (steps_of today common) accounts (λ i e low. each i e low)))
  where
    within : (before after x y : ℕ) → after ≤ before + x → x ≤ y → after ≤ before + y
    within before after x y l m = omega (arith, l, m)

    each : (i : ℕ) (e : OpenAccount) → i < length accounts
        → steps_of today common (get_or accounts i e) ≤ breaks_left (state_of today rows accounts) (record { lists = (get_or accounts i e).named.lists; reached = (get_or accounts i e).folding.reached }) + 1
    each i e low =
        let a = get_or accounts i e in
        subst (λ (n : ℕ). n ≤ breaks_left (state_of today rows accounts) (record { lists = a.named.lists; reached = a.folding.reached }) + 1)
        (sym (same_steps today a.named.lists common (shared_rows rows) (a.folding.reached + 1) (alike_at places common count today rows accounts i e desk low)))
        (left-few (state_of today rows accounts) (record { lists = a.named.lists; reached = a.folding.reached }))

-- ---- to carry out a post
-- of an account that is there, whatever it comes to: where only what is left was taken
pub few_left : (s : State) (a : ReachedLists) (o : Outcome) (before after : ℕ) → after ≤ before + steps_left s a → AreFewToPost s a o before after
few_left s a (Refuses r) before after l = twice-more before after (steps_left s a) (breaks_left s a) l (left-few s a)
few_left s a (Repeats n) before after l = twice-more before after (steps_left s a) (breaks_left s a) l (left-few s a)
few_left s a (Accepts new) before after l = λ from is.
    let old = given_of a.lists (shared_rows s.shared) in
    let other = given_of new (shared_rows s.shared) in
    let low = min (first_in_cycle (anchor_of a.lists.posts) from) a.reached in
    twice-more before after (steps_left s a) (breaks_with old other low s.today) l
    (then-one (steps_left s a) (breaks_from old low s.today) (breaks_with old other low s.today)
    (steps_add_up.few old low (a.reached + 1) s.today (least-next (first_in_cycle (anchor_of a.lists.posts) from) a.reached)) (steps_add_up.before old other low s.today))

-- and where an accepted post was kept after it was judged
pub few_kept : (s : State) (a mid : ReachedLists) (new : Lists) (before now after : ℕ) → mid.lists ≡ a.lists → now + steps_left s mid ≤ before + steps_left s a
    → AreFewSteps s.today (shared_rows s.shared) mid.lists new mid.reached now after → AreFewToPost s a (Accepts new) before after
few_kept s a mid new before now after same spent few = λ from is.
    let old = given_of a.lists (shared_rows s.shared) in
    let other = given_of new (shared_rows s.shared) in
    let first = first_in_cycle (anchor_of a.lists.posts) from in
    let low = min first a.reached in
    let most = subst (λ (l : Lists). after ≤ now + steps_over (given_of l (shared_rows s.shared)) s.today (mid.reached + 1) + (breaks_with (given_of l (shared_rows s.shared)) other (first_in_cycle (anchor_of l.posts) from) s.today + 1)) same
    (few from (subst (λ (l : Lists). IsFirstBetween (shared_rows s.shared) l new from) (sym same) is)) in
    let left = subst (λ (l : Lists). now + steps_over (given_of l (shared_rows s.shared)) s.today (mid.reached + 1) ≤ before + steps_left s a) same spent in
    both-more before now after (steps_left s a) (steps_over old s.today (mid.reached + 1)) (breaks_with old other first s.today) (breaks_with old other low s.today) left most
    (then-one (steps_left s a) (breaks_from old low s.today) (breaks_with old other low s.today)
    (steps_add_up.few old low (a.reached + 1) s.today (least-next first a.reached)) (steps_add_up.before old other low s.today))
    (steps_add_up.wider old other low first s.today (least-left first a.reached))

-- of one that is kept: what is left, and what is folded again
pub none_to_keep : (s : State) (r : Option ReachedLists) (o : Outcome) (n : ℕ) → AreFewToKeep s r o n n
none_to_keep s None o n = tt
none_to_keep s (Some a) (Refuses r) n = tt
none_to_keep s (Some a) (Repeats m) n = tt
none_to_keep s (Some a) (Accepts new) n = λ from is. omega arith

pub few_to_keep : (d : OpenDesk) (i : ℕ) (o : Outcome) (a : ReachedLists) (new : Lists) (common : SharedRows) (before after : ℕ) → reached_there d i ≡ a → o ≡ Accepts new
    → AreAlike d.state.today a.lists common (shared_rows d.state.shared) → AreAlike d.state.today new common (shared_rows d.state.shared)
    → AreFewSteps d.state.today common a.lists new a.reached before after → AreFewToKeep d.state (reached_at d (Some i)) o before after
few_to_keep d i o a new common before after there is one two few =
    subst (λ (x : Outcome). AreFewToKeep d.state (reached_at d (Some i)) x before after) (sym is)
    (subst (λ (x : ReachedLists). AreFewToKeep d.state (Some x) (Accepts new) before after) (sym there)
    (few_same d.state.today a.lists new common (shared_rows d.state.shared) a.reached before after one two few))

-- and of one that was judged before
pub few_judged : (d mid : OpenDesk) (name key : List ℕ) (p : Post) (i : ℕ) (new : Lists) (before now after : ℕ) → mid.state ≡ d.state → outcome_in d.state name key p ≡ Accepts new
    → now + steps_at mid i ≤ before + steps_at d i → AreFewToKeep mid.state (reached_at mid (Some i)) (outcome_in mid.state name key p) now after
    → AreFewOn d.state (reached_at d (Some i)) (outcome_in d.state name key p) before after
few_judged d mid name key p i new before now after state accepts spent few =
    let none : NamedAccount = record { name = []; lists = record { posts = []; issued = [] } } in
    let there = reached_there mid i in
    let same : there.lists ≡ (reached_there d i).lists = ap (λ (x : State). (get_or x.accounts i none).lists) state in
    let left = subst (λ (x : State). now + steps_left x there ≤ before + steps_at d i) state spent in
    let most = subst (λ (o : Outcome). AreFewToKeep d.state (Some there) o now after) accepts (subst (λ (x : State). AreFewToKeep x (Some there) (outcome_in x name key p) now after) state few) in
    subst (λ (o : Outcome). AreFewOn d.state (reached_at d (Some i)) o before after) (sym accepts) (few_kept d.state (reached_there d i) there new before now after same left most)

-- by the account's name
pub few_on_there : (d : OpenDesk) (name key : List ℕ) (p : Post) (i before after : ℕ) → place_from name 0 d.state.accounts ≡ Some i → AreFewOn d.state (reached_at d (Some i)) (outcome_in d.state name key p) before after
    → AreFewToApply d (request.Post name key p) before after
unfolding AreFewToApply
few_on_there d name key p i before after place few = subst (λ (o : Option ℕ). AreFewOn d.state (reached_at d o) (outcome_in d.state name key p) before after) (sym place) few

-- where it isn't there
pub none_on_absent : (d : OpenDesk) (name key : List ℕ) (p : Post) (n : ℕ) → place_from name 0 d.state.accounts ≡ None → AreFewToApply d (request.Post name key p) n n
unfolding AreFewToApply
none_on_absent d name key p n absent = subst (λ (o : Option ℕ). AreFewOn d.state (reached_at d o) (outcome_in d.state name key p) n n) (sym absent) refl

-- ---- with as many that were put off
pub left_both : (before after n left : ℕ) → after ≤ before + left → after + n ≤ before + n + left
left_both before after n left l = omega (arith, l)

pub spent_both : (before after n was left : ℕ) → after + left ≤ before + was → after + n + left ≤ before + n + was
spent_both before after n was left l = omega (arith, l)

-- ---- to carry out a post without a step
-- what is said of the account is said of the desk
pub idle_there : (rows : List Shared) (today : ℕ) (accounts : List OpenAccount) (i : ℕ) (b : OpenAccount) (d : OpenDesk) (key : List ℕ) (p : Post) (before after : ℕ)
    → open_desk today rows accounts ≡ d → i < length accounts → b ≡ get_or accounts i b
    → ((with_key key b.named.lists.posts ≡ None → ⊥) → after ≡ before) → (reads_book p ≡ false → after ≡ before)
    → IsIdleToJudge (reached_there d i) key p before after
idle_there rows today accounts i b d key p before after view low is used unread =
    subst (λ (x : OpenDesk). IsIdleToJudge (reached_there x i) key p before after) view
    (subst (λ (a : ReachedLists). IsIdleToJudge a key p before after) (sym (there_is rows today accounts i b low is)) (record { used = used; unread = unread }))

-- a post that is judged alone, whatever it comes to
pub idle_judged : (a : ReachedLists) (key : List ℕ) (p : Post) (o : Outcome) (before after : ℕ) → IsIdleToJudge a key p before after → IsIdleToPost a key p o before after
idle_judged a key p o before after judged = record { used = judged.used; unread = λ alone asks. judged.unread alone }

-- an accepted post, which is judged and then kept: its key is new
pub idle_kept : (a : ReachedLists) (key : List ℕ) (p : Post) (o : Outcome) (new : Lists) (before now after : ℕ) → o ≡ Accepts new → with_key key a.lists.posts ≡ None
    → IsIdleToJudge a key p before now → (needs_today p ≡ false → after ≡ now) → IsIdleToPost a key p o before after
idle_kept a key p o new before now after is fresh judged kept =
    subst (λ (x : Outcome). IsIdleToPost a key p x before after) (sym is)
    (record { used = λ known. absurd (known fresh); unread = λ alone asks. kept asks ∙ judged.unread alone })

-- by the account's name
pub idle_on_there : (d : OpenDesk) (name key : List ℕ) (p : Post) (i before after : ℕ) → place_from name 0 d.state.accounts ≡ Some i
    → IsIdleToPost (reached_there d i) key p (outcome_in d.state name key p) before after → IsIdleToApply d (request.Post name key p) before after
unfolding IsIdleToApply
idle_on_there d name key p i before after place idle =
    subst (λ (o : Option ℕ). IsIdleOn (reached_at d o) key p (outcome_in d.state name key p) before after) (sym place) idle

-- where it isn't there
pub idle_on_absent : (d : OpenDesk) (name key : List ℕ) (p : Post) (n : ℕ) → place_from name 0 d.state.accounts ≡ None → IsIdleToApply d (request.Post name key p) n n
unfolding IsIdleToApply
idle_on_absent d name key p n absent = subst (λ (o : Option ℕ). IsIdleOn (reached_at d o) key p (outcome_in d.state name key p) n n) (sym absent) refl
