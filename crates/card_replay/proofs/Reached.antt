-- An account at the day that it has reached.
use Rattle.std.proofs.Common.{◌≡◌, ℕ, ◌+◌, ◌-◌, ◌≤◌, ◌⊎◌, inl, inr, Bool, true, false, List, [], ◌∷◌, sym, ap, ◌∙◌, subst, arith, Option, Some, None}
use Rattle.std.specs.Prelude.{IfSome}
use Rattle.card_events.specs.Range.{last_request_day}
use Rattle.card_events.specs.History.{CorrectedPost, anchor_of, corrected, is_open, opening_in}
use Rattle.card_events.specs.SharedRows.{SharedRows}
use Rattle.card_events.specs.declared.post.Post.{Post}
use Rattle.card_events.specs.declared.post.Post.TheVariants as post
use Rattle.card_events.specs.declared.kept.Kept.{Kept}
use Rattle.card_model.specs.Cycles.{IssuedRow}
use Rattle.card_model.specs.Machine.{kept_as}
use Rattle.card_model.proofs.Spans.{spans_are_steps}
use Rattle.card_model.specs.Refusals.{Lists, book_today}
use Rattle.card_posts.specs.Draft.{IsFirstWith}
use Rattle.card_posts.specs.Posted.{IsReceived, Posted, last_accepted}
use Rattle.card_posts.specs.Stored.{AreTimely}
use Rattle.card_daily.specs.Given.{Given, IsSound, book_on, opened_in}
use Rattle.card_book.specs.Stands.{Summary, breaks_of, steps_over}
use Rattle.card_past.proofs.Eves.{if-some}
use Rattle.card_past.proofs.Parts.{begins-same, begins-within, same-front}
use Rattle.card_replay.proofs.Putback.{kept-same, marks-same, within-same}
use Rattle.card_past.proofs.Reaching.{none-marked, none-recorded}
use Rattle.card_replay.proofs.Settled.{all-made}
use Rattle.card_past.proofs.Through.{cycles-through, last-is, opened-on, reached-is, some-book, some-day}
use Rattle.card_replay.specs.Changes.{IsReadyFor}
use Rattle.card_replay.specs.Owes.{AreLate, Late}
use Rattle.card_replay.specs.Pasts.{AreEnds, AreSame, IsEmpty, PastBegins}
use Rattle.card_replay.specs.Replays.{Folding, FoldsOn, IsEve, IsFolding, HasClosings, IsReplay, IsToday, IsWhole, MayReach, Replay, SameLists, Stands, day_of, day_reached, given_of, opened_lists, posted_of, present_of}
use Rattle.card_past.specs.declared.eve.Eve.{Eve}
use Rattle.card_past.specs.declared.past.Ends.{Ends}
use Rattle.card_past.specs.declared.past.Past.{Past}

-- no day lies behind the last
pub no-steps : (g : Given) (to : ℕ) → steps_over g to (to + 1) ≡ 0
no-steps g to = spans_are_steps.none (breaks_of g to) (to + 1) to (omega arith)

-- the account by its parts
abbrev pub seen : List Kept → List IssuedRow → List CorrectedPost → Bool → Late → Folding → Replay
seen posts rows corrected has_room late f = record { lists = record { posts = posts; issued = rows }; corrected = corrected; has_room = has_room; late = late; folding = f }

-- its folding by its parts
abbrev pub folding_of : List Kept → Option Summary → Past → Option Eve → Folding
folding_of posts b p eve = record { reached = day_reached (anchor_of posts).opened (day_of b); book = b; past = p; eve = eve }

-- with another folding of a day that isn't before the one reached, and other rows made
pub later-replay : (shared : SharedRows) (r : Replay) (late : Late) (f : Folding) → IsReplay shared r → r.folding.reached ≤ f.reached → f.reached ≤ last_request_day → AreLate shared r.lists f.reached late → IsFolding (given_of r.lists shared) f
    → IsReplay shared (record r { late = late; folding = f })
later-replay shared r late f h later last owes folding =
    let opened = h.opened in
    record {
      corrected = h.corrected;
      sound = h.sound;
      timely = h.timely;
      opened = omega (arith, opened, later);
      dated = last;
      late = owes;
      folding = folding;
    }

-- a folding to today
pub day-is : (g : Given) (opened : ℕ) (b : Option Summary) (today : ℕ) (p : Past) → opened_in g ≡ opened → 1 ≤ opened → IsFolding g (record { reached = today; book = b; past = p; eve = None }) → day_reached opened (day_of b) ≡ today
day-is g opened b today p same some h =
    let is = reached-is g opened (day_of b) same some in
    let at = h.day in
    omega (arith, is, at)

-- where its past was put back
abbrev pub past_back : Folding → Past → Folding
past_back f p = record { reached = f.reached; book = f.book; past = p; eve = f.eve }

pub folding-back : (g : Given) (f : Folding) (p : Past) → AreSame f.past p → IsFolding g f → IsFolding g (past_back f p)
folding-back g f p same h = record {
  day = h.day;
  whole = h.whole;
  stands = kept-same g f.book f.past.track p.track (record { entries = same.entries; cycles = same.cycles; fees = same.fees }) h.stands;
  marks = marks-same g f.past p same h.marks;
  eve = if-some f.eve (IsEve g f.reached f.past) (IsEve g f.reached p) (λ e stood. back e stood) h.eve;
}
  where
    back : (e : Eve) → IsEve g f.reached f.past e → IsEve g f.reached p e
    back e stood = record {
      folded = stood.folded;
      opened = stood.opened;
      earlier = stood.earlier;
      begins = record {
        within = within-same e.ends f.past p same stood.begins.within;
        whole = stood.begins.whole;
        stands = λ front is. stood.begins.stands front (same-front e.ends f.past p front same is);
        marks = λ front is. stood.begins.marks front (same-front e.ends f.past p front same is);
      };
    }

pub same-replay : (shared : SharedRows) (r : Replay) (p : Past) → AreSame r.folding.past p → IsReplay shared r → IsReplay shared (record r { folding = past_back r.folding p })
same-replay shared r p same h = record {
  corrected = h.corrected;
  sound = h.sound;
  timely = h.timely;
  opened = h.opened;
  dated = h.dated;
  late = h.late;
  folding = folding-back (given_of r.lists shared) r.folding p same h.folding;
}

pub replay-put-back : (shared : SharedRows) (r : Replay) (late : Late) (p : Past) → late ≡ r.late → AreSame r.folding.past p → IsReplay shared r → IsReplay shared (record r { late = late; folding = past_back r.folding p })
replay-put-back shared r late p e same h = later-replay shared r late (past_back r.folding p) h (omega arith) h.dated (subst (AreLate shared r.lists r.folding.reached) (sym e) h.late) (folding-back (given_of r.lists shared) r.folding p same h.folding)

pub folds-on : (shared : SharedRows) (r : Replay) (today : ℕ) → IsReplay shared r → MayReach today r → FoldsOn (given_of r.lists shared) today r.folding.book r.folding.past
folds-on shared r today h may = record {
  reached = r.folding.reached;
  folding = record { day = h.folding.day; whole = h.folding.whole; stands = h.folding.stands; marks = h.folding.marks; eve = tt };
  opened = may.opened;
  later = may.later;
  last = may.last;
}

-- the Book that it had before it was folded on is the eve, where it had folded a day
last-eve : (shared : SharedRows) (r : Replay) (today : ℕ) (p : Past) (e : Ends) (day : ℕ) → IsReplay shared r → MayReach today r → AreEnds e r.folding.past → PastBegins r.folding.past p → day_of r.folding.book ≡ Some day
    → IsEve (given_of r.lists shared) today p (record { book = r.folding.book; day = day; ends = e })
last-eve shared r today p e day h may ends begins is = record {
  folded = is;
  opened = opened-on (given_of r.lists shared) r.folding.book r.folding.past.track day h.folding.stands is;
  earlier = let same = last-is (given_of r.lists shared) (day_of r.folding.book) r.folding.reached day h.folding.day is in let later = may.later in omega (arith, same, later);
  begins = record {
    within = begins-within e r.folding.past p ends begins;
    whole = h.folding.whole;
    stands = λ front is. let same = begins-same e r.folding.past p front ends begins is in kept-same (given_of r.lists shared) r.folding.book r.folding.past.track front.track (record { entries = same.entries; cycles = same.cycles; fees = same.fees }) h.folding.stands;
    marks = λ front is. marks-same (given_of r.lists shared) r.folding.past front (begins-same e r.folding.past p front ends begins is) h.folding.marks;
  };
}

abbrev pub IsEveOf : Option Summary → Ends → Eve → Type 0
IsEveOf b ends e = (e.book ≡ b) × (day_of b ≡ Some e.day) × (e.ends ≡ ends)

pub eve-stands : (shared : SharedRows) (r : Replay) (today : ℕ) (p : Past) (ends : Ends) (o : Option Eve) → IsReplay shared r → MayReach today r → AreEnds ends r.folding.past → PastBegins r.folding.past p
    → IfSome o (IsEveOf r.folding.book ends) → IfSome o (IsEve (given_of r.lists shared) today p)
eve-stands shared r today p ends o h may are begins is = if-some o (IsEveOf r.folding.book ends) (IsEve (given_of r.lists shared) today p) one is
  where
    one : (e : Eve) → IsEveOf r.folding.book ends e → IsEve (given_of r.lists shared) today p e
    one e (book, day, same) =
        subst (λ (b : Option Summary). IsEve (given_of r.lists shared) today p (record { book = b; day = e.day; ends = e.ends })) (sym book)
        (subst (λ (x : Ends). IsEve (given_of r.lists shared) today p (record { book = r.folding.book; day = e.day; ends = x })) (sym same) (last-eve shared r today p ends e.day h may are begins day))

-- it has it as its eve
pub with-eve : (g : Given) (today : ℕ) (b : Option Summary) (p : Past) (o : Option Eve) → IfSome o (IsEve g today p) → IsFolding g (record { reached = today; book = b; past = p; eve = None }) → IsFolding g (record { reached = today; book = b; past = p; eve = o })
with-eve g today b p o stood h = record { day = h.day; whole = h.whole; stands = h.stands; marks = h.marks; eve = stood }

-- ---- an account that was just opened
-- its post asks for no day by which it came
comes-anyway : (opened today : ℕ) (p : Post) → is_open p ≡ true → IsReceived opened today p
comes-anyway opened today (post.Open d t) o = tt
comes-anyway opened today (post.OpenVariable d t) o = tt
comes-anyway opened today (post.Payment d m y c) o = let no : false ≡ true = o in absurd (cc)
comes-anyway opened today (post.Amend t d c) o = let no : false ≡ true = o in absurd (cc)
comes-anyway opened today (post.Charge d q c) o = tt
comes-anyway opened today (post.Credit d q c) o = tt
comes-anyway opened today (post.Return d t) o = tt
comes-anyway opened today (post.Plan d k r w f) o = tt
comes-anyway opened today (post.Notice d y r w) o = tt
comes-anyway opened today (post.Lower d y r) o = tt
comes-anyway opened today post.Penalty o = tt
comes-anyway opened today (post.Review d f) o = tt
comes-anyway opened today (post.Dispute d t c) o = tt
comes-anyway opened today (post.Ack d t) o = tt
comes-anyway opened today (post.Resolve d t c) o = tt
comes-anyway opened today (post.AskRefund d) o = tt
comes-anyway opened today (post.Refund c) o = tt
comes-anyway opened today (post.Bill c) o = tt

first-timely : (opened today : ℕ) (key : List ℕ) (p : Post) → is_open p ≡ true → today ≤ last_request_day → AreTimely opened (kept_as 1 key today p ∷ [])
unfolding AreTimely
first-timely opened today key p o l = (record { dated = l; received = comes-anyway opened today p o }, tt)

first-last : (today : ℕ) (key : List ℕ) (p : Post) → last_accepted (kept_as 1 key today p ∷ []) ≤ today
unfolding last_accepted
first-last today key p = omega arith

-- nothing is folded
pub begun : (g : Given) (opened : ℕ) (b : Option Summary) (p : Past) → opened_in g ≡ opened → 1 ≤ opened → b ≡ None → IsEmpty p
    → IsFolding g (record { reached = day_reached opened (day_of b); book = b; past = p; eve = None })
begun g opened b p same some none empty = record {
  day = reached-is g opened (day_of b) same some;
  whole = subst IsWhole (sym none) tt;
  stands = subst (λ o. Stands g o p.track) (sym none) (none-recorded p empty);
  marks = none-marked g p empty;
  eve = tt;
}

pub begun-before : (opened : ℕ) (b : Option Summary) → 1 ≤ opened → b ≡ None → day_reached opened (day_of b) + 1 ≡ opened
begun-before opened b some none = let same : day_reached opened (day_of b) ≡ opened - 1 = ap (λ o. day_reached opened (day_of o)) none in omega (arith, some, same)

pub started : (shared : SharedRows) (key : List ℕ) (today : ℕ) (p : Post) (cs : List CorrectedPost) (room : Bool) (late : Late) (f : Folding) → late.made ≡ [] → late.owed ≡ [] → is_open p ≡ true → opening_in p ≤ today → today ≤ last_request_day
    → IsSound (given_of (opened_lists key today p) shared) → cs ≡ corrected (anchor_of (kept_as 1 key today p ∷ [])) shared.holidays (kept_as 1 key today p ∷ []) → f.reached + 1 ≡ opening_in p
    → IsFolding (given_of (opened_lists key today p) shared) f → IsReplay shared (record { lists = opened_lists key today p; corrected = cs; has_room = room; late = late; folding = f })
started shared key today p cs room late f made none o opened l sound is reached folding = record {
  corrected = is;
  sound = sound;
  timely = first-timely (opening_in p) today key p o l;
  opened = omega (arith, reached);
  dated = omega (arith, reached, opened, l);
  late = all-made shared (opened_lists key today p) f.reached late made none;
  folding = folding;
}

pub started-reach : (key : List ℕ) (today : ℕ) (p : Post) (cs : List CorrectedPost) (room : Bool) (late : Late) (f : Folding) → opening_in p ≤ today → today ≤ last_request_day → f.reached + 1 ≡ opening_in p → MayReach today (record { lists = opened_lists key today p; corrected = cs; has_room = room; late = late; folding = f })
started-reach key today p cs room late f opened l reached = record { opened = opened; later = omega (arith, reached, opened); accepted = first-last today key p; last = l }

-- ---- an account whose lists stay
pub same-lists : (a b c : Replay) → SameLists a b → SameLists b c → SameLists a c
same-lists a b c h k = record { lists = k.lists ∙ h.lists; corrected = k.corrected ∙ h.corrected; room = λ e. k.room (h.room e) }

-- no post is later
pub reach-same : (today : ℕ) (old new : Replay) → SameLists old new → new.folding.reached ≤ today → MayReach today old → MayReach today new
reach-same today old new same later may = record {
  opened = subst (λ (l : Lists). (anchor_of l.posts).opened ≤ today) (sym same.lists) may.opened;
  later = later;
  accepted = subst (λ (l : Lists). last_accepted l.posts ≤ today) (sym same.lists) may.accepted;
  last = may.last;
}

-- it has reached today, or the day that it had reached
pub within-today : (today : ℕ) (old new : Replay) → MayReach today old → (new.folding.reached ≡ old.folding.reached) ⊎ (new.folding.reached ≡ today) → new.folding.reached ≤ today
within-today today old new may (inl e) = let low = may.later in omega (arith, e, low)
within-today today old new may (inr e) = omega (arith, e)

pub either-same : (today : ℕ) (old mid new : Replay) → new.folding ≡ mid.folding → (mid.folding.reached ≡ old.folding.reached) ⊎ (mid.folding.reached ≡ today) → (new.folding.reached ≡ old.folding.reached) ⊎ (new.folding.reached ≡ today)
either-same today old mid new same (inl e) = inl (ap (λ (f : Folding). f.reached) same ∙ e)
either-same today old mid new same (inr e) = inr (ap (λ (f : Folding). f.reached) same ∙ e)

pub ready-same : (today : ℕ) (p : Post) (old new : Replay) → new.folding ≡ old.folding → IsReadyFor today p old → IsReadyFor today p new
ready-same today p old new same ready = λ needs. ap (λ (f : Folding). f.reached) same ∙ ready needs

pub replay-same : (shared : SharedRows) (old new : Replay) → SameLists old new → new.late ≡ old.late → new.folding ≡ old.folding → IsReplay shared old → IsReplay shared new
replay-same shared old new same late folding h =
    by-parts shared old.lists new.lists old.corrected new.corrected old.late new.late old.folding new.folding old.has_room new.has_room (sym same.lists) (sym same.corrected) (sym late) (sym folding) h
  where
    by-parts : (shared : SharedRows) (l m : Lists) (cs ds : List CorrectedPost) (x y : Late) (f g : Folding) (a b : Bool) → l ≡ m → cs ≡ ds → x ≡ y → f ≡ g → IsReplay shared (record { lists = l; corrected = cs; has_room = a; late = x; folding = f })
        → IsReplay shared (record { lists = m; corrected = ds; has_room = b; late = y; folding = g })
    by-parts shared l m cs ds x y f g a b e i n j k =
        subst (λ (z : Lists). IsReplay shared (record { lists = z; corrected = ds; has_room = b; late = y; folding = g })) e
        (subst (λ (z : List CorrectedPost). IsReplay shared (record { lists = l; corrected = z; has_room = b; late = y; folding = g })) i
        (subst (λ (z : Late). IsReplay shared (record { lists = l; corrected = cs; has_room = b; late = z; folding = g })) n
        (subst (λ (z : Folding). IsReplay shared (record { lists = l; corrected = cs; has_room = b; late = x; folding = z })) j (roomy shared l cs x f a b k))))
      where
        roomy : (shared : SharedRows) (l : Lists) (cs : List CorrectedPost) (x : Late) (f : Folding) (a b : Bool) → IsReplay shared (record { lists = l; corrected = cs; has_room = a; late = x; folding = f })
            → IsReplay shared (record { lists = l; corrected = cs; has_room = b; late = x; folding = f })
        roomy shared l cs x f a b h = record { corrected = h.corrected; sound = h.sound; timely = h.timely; opened = h.opened; dated = h.dated; late = h.late; folding = h.folding }

-- ---- its closings, over inputs that are its lists
pub has-closings : (g : Given) (shared : SharedRows) (r : Replay) → g ≡ given_of r.lists shared → IsReplay shared r → HasClosings g r.folding.book r.folding.past
has-closings g shared r e h = subst (λ x. HasClosings x r.folding.book r.folding.past) (sym e) (record { stands = h.folding.stands; marks = h.folding.marks })

-- its closed cycles are those of the book of today
pub cycles-today : (shared : SharedRows) (today : ℕ) (r : Replay) → IsReplay shared r → r.folding.reached ≡ today → r.folding.past.track.cycles.items ≡ (book_today (present_of today shared r.lists)).cycles
unfolding book_today
cycles-today shared today r h reached =
    let g = given_of r.lists shared in
    cycles-through g r.folding.book r.folding.past.track r.folding.reached h.folding.stands h.folding.day ∙ ap (λ d. (book_on g d).cycles) reached

-- and today is the last day folded
pub folded-today : (shared : SharedRows) (today : ℕ) (r : Replay) → IsToday today shared r → day_of r.folding.book ≡ Some today
folded-today shared today r h =
    let reached = h.reached in
    let opened = h.opened in
    some-day (given_of r.lists shared) (day_of r.folding.book) r.folding.reached h.replay.folding.day (omega (arith, reached, opened)) ∙ ap Some reached

-- so there is a Book
pub book-today : (shared : SharedRows) (today : ℕ) (r : Replay) → IsToday today shared r → r.folding.book ≡ None → ⊥
book-today shared today r h = some-book r.folding.book today (folded-today shared today r h)

-- and the first day that a post changes
pub first-same : (shared : SharedRows) (today : ℕ) (p : Post) (from : ℕ) (old new : Replay) → SameLists old new → IsFirstWith shared.holidays today p (posted_of old) from → IsFirstWith shared.holidays today p (posted_of new) from
first-same shared today p from old new same first =
    subst (λ (l : Lists). IsFirstWith shared.holidays today p (posted_in l new.corrected new.has_room) from) (sym same.lists)
    (subst (λ (cs : List CorrectedPost). IsFirstWith shared.holidays today p (posted_in old.lists cs new.has_room) from) (sym same.corrected) first)
  where
    posted_in : Lists → List CorrectedPost → Bool → Posted
    posted_in l cs has_room = record { history = l.posts; corrected = cs; has_room = has_room }
