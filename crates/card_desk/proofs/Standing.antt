-- What stays of the entries of an account when it takes a post.
use Rattle.std.proofs.Common.{◌≡◌, ℕ, zero, suc, ◌<◌, ◌≤◌, List, min, take, length, get_or, refl, ap, sym, ◌∙◌, subst, arith}
use Rattle.card_account.specs.Accounts.{OpenAccount, replay_of}
use Rattle.card_account.specs.Reached.{StaysNear}
use Rattle.card_desk.proofs.Entries.{recorded_there}
use Rattle.card_desk.proofs.FoldLemmas.{account_at, alike_seen, alike_timely, one_book, same_accepted}
use Rattle.card_desk.proofs.Left.{same_first, there_is}
use Rattle.card_desk.specs.Desks.{IsDesk, OpenDesk, open_desk, state_of}
use Rattle.card_desk.specs.Recorded.{AreStanding, entries_on}
use Rattle.card_desk.specs.Steps.{ReachedLists, reached_there}
use Rattle.card_events.specs.History.{anchor_of}
use Rattle.card_events.specs.SharedRows.{SharedRows, shared_rows}
use Rattle.card_events.specs.declared.post.Post.{Post}
use Rattle.card_events.specs.declared.request.Shared.{Shared}
use Rattle.card_model.specs.Books.{Book}
use Rattle.card_model.specs.Machine.{accepted}
use Rattle.card_model.specs.Refusals.{Lists, book_today}
use Rattle.card_model.specs.Work.{present_in}
use Rattle.card_model.specs.declared.entry.Entry.{Entry}
use Rattle.card_daily.specs.Given.{book_on}
use Rattle.card_posts.specs.Stored.{AreTimely}
use Rattle.card_reasons.proofs.SameReasons.{AreAlike}
use Rattle.card_replay.proofs.Committing.{accepts}
use Rattle.card_replay.specs.Replays.{given_of, present_of}
use Rattle.card_replay.specs.Standing as replay
use Rattle.card_replay.specs.Steps.{IsFirstBetween, IsNear}

alike-back : (today : ℕ) (l : Lists) (a b : SharedRows) → AreAlike today l a b → AreAlike today l b a
alike-back today l a b h = record { posts = sym h.posts; books = sym h.books; fees = sym h.fees; index = sym h.index }

-- by the parts of a desk
standing_by : (places : List (List ℕ × ℕ)) (common : SharedRows) (count today : ℕ) (rows : List Shared) (accounts : List OpenAccount) (i : ℕ) (b : OpenAccount) (n : ℕ) (p : Post)
    → IsDesk places common count today rows accounts → i < length accounts → b ≡ get_or accounts i b → replay.AreStanding (suc n) today common p (replay_of b) → AreStanding (suc n) i p (open_desk today rows accounts)
unfolding entries_on book_today
standing_by places common count today rows accounts i b n p desk low is h =
    let account = account_at places common count today rows accounts i b desk low is in
    let one = alike_seen places common count today rows accounts i b desk low is in
    let there = there_is rows today accounts i b low is in
    let recorded = recorded_there places common count today rows accounts i b (open_desk today rows accounts) desk refl low is in
    let old = b.named.lists in
    record {
      within = subst (λ (es : List Entry). suc n ≤ length es) recorded h.within;
      stay = λ key lists day taken near.
          let taken_here : lists ≡ accepted (present_in (state_of today rows accounts) old) key p = taken ∙ ap (λ (a : ReachedLists). accepted (present_in (state_of today rows accounts) a.lists) key p) there in
          let near_here = subst (λ (a : ReachedLists). StaysNear today (shared_rows rows) a.lists lists a.reached day) there near in
          let same : replay.lists_after today common key p (replay_of b) ≡ lists = same_accepted today old common (shared_rows rows) key p one ∙ sym taken_here in
          let all = accepts common today key p (replay_of b) account.replay account.reach (h.received (omega arith)) in
          let timely = subst (λ (l : Lists). AreTimely (anchor_of l.posts).opened l.posts) same all.timely in
          let two = alike_timely today lists common (shared_rows rows) timely desk.holidays desk.table desk.index_rows in
          let nearby : IsNear common old lists b.folding.reached day = λ from first. near_here.near from (same_first today old lists (shared_rows rows) common from (alike-back today old common (shared_rows rows) one) (alike-back today lists common (shared_rows rows) two) first) in
          let stays = h.stay key day (subst (λ (l : Lists). IsNear common old l b.folding.reached day) (sym same) nearby) in
          ap (λ (x : Book). take (suc n) x.entries) (sym (one_book lists day common (shared_rows rows) two.posts two.fees two.index))
          ∙ (subst (λ (l : Lists). take (suc n) (book_on (given_of l common) day).entries ≡ take (suc n) b.folding.past.track.entries.items) same stays
          ∙ ap (take (suc n)) recorded);
    }

pub standing_at : (places : List (List ℕ × ℕ)) (common : SharedRows) (count today : ℕ) (rows : List Shared) (accounts : List OpenAccount) (i : ℕ) (b : OpenAccount) (d : OpenDesk) (n : ℕ) (p : Post)
    → IsDesk places common count today rows accounts → open_desk today rows accounts ≡ d → i < length accounts → b ≡ get_or accounts i b → replay.AreStanding n today common p (replay_of b) → AreStanding n i p d
standing_at places common count today rows accounts i b d zero p desk view low is h = record { within = omega arith; stay = λ key lists day taken near. refl }
standing_at places common count today rows accounts i b d (suc n) p desk view low is h = subst (AreStanding (suc n) i p) view (standing_by places common count today rows accounts i b n p desk low is h)

-- ---- how many they are
-- by the parts of a desk
counted_by : (places : List (List ℕ × ℕ)) (common : SharedRows) (count today : ℕ) (rows : List Shared) (accounts : List OpenAccount) (i : ℕ) (b : OpenAccount) (n : ℕ) (p : Post)
    → IsDesk places common count today rows accounts → i < length accounts → b ≡ get_or accounts i b → replay.IsStandingCount n today common p b.named.lists b.folding.reached
    → replay.IsStandingCount n today (shared_rows rows) p b.named.lists b.folding.reached
unfolding book_today
counted_by places common count today rows accounts i b n p desk low is h =
    let account = account_at places common count today rows accounts i b desk low is in
    let one = alike_seen places common count today rows accounts i b desk low is in
    let old = b.named.lists in
    record {
      some = λ may.
          let up = h.some may in
          record {
            from = up.from;
            first = λ key.
                let new = accepted (present_of today common old) key p in
                let all = accepts common today key p (replay_of b) account.replay account.reach may.received in
                let two = alike_timely today new common (shared_rows rows) all.timely desk.holidays desk.table desk.index_rows in
                subst (λ (l : Lists). IsFirstBetween (shared_rows rows) old l up.from) (same_accepted today old common (shared_rows rows) key p one)
                (same_first today old new (shared_rows rows) common up.from (alike-back today old common (shared_rows rows) one) (alike-back today new common (shared_rows rows) two) (up.first key));
            entries = up.entries
                ∙ ap (λ (x : Book). length x.entries) (one_book old (replay.closing_before old.posts (min up.from b.folding.reached)) common (shared_rows rows) one.posts one.fees one.index);
          };
      none = h.none;
    }

pub counted_at : (places : List (List ℕ × ℕ)) (common : SharedRows) (count today : ℕ) (rows : List Shared) (accounts : List OpenAccount) (i : ℕ) (b : OpenAccount) (d : OpenDesk) (n : ℕ) (p : Post)
    → IsDesk places common count today rows accounts → open_desk today rows accounts ≡ d → i < length accounts → b ≡ get_or accounts i b → replay.IsStandingCount n today common p b.named.lists b.folding.reached
    → replay.IsStandingCount n d.state.today (shared_rows d.state.shared) p (reached_there d i).lists (reached_there d i).reached
counted_at places common count today rows accounts i b d n p desk view low is h =
    subst (λ (x : OpenDesk). replay.IsStandingCount n x.state.today (shared_rows x.state.shared) p (reached_there x i).lists (reached_there x i).reached) view
    (subst (λ (a : ReachedLists). replay.IsStandingCount n today (shared_rows rows) p a.lists a.reached) (sym (there_is rows today accounts i b low is))
    (counted_by places common count today rows accounts i b n p desk low is h))
