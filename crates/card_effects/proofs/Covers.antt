-- Held has at least what a Resolve takes out of it: without that it would be below 0 after it.
use Rattle.std.proofs.Common.{◌≡◌, ℕ, zero, suc, ◌+◌, ◌≤◌, true, false, eqb, List, [], ◌∷◌, ◌++◌, refl, sym, ap, ◌∙◌, subst, arith, Option, ℤ, pos, ◌+ℤ◌}
use Rattle.std.specs.Prelude.{◌≤ℤ◌}
use Rattle.std.proofs.lemmas.Bool.{eqb-true, ne_eqb}
use Rattle.std.proofs.lemmas.Int.{ints}
use Rattle.std.proofs.lemmas.List.{append_assoc}
use Rattle.card_bounds.proofs.HeldDays.{held_is_never_below}
use Rattle.card_bounds.proofs.Whole.{folded-few, limits-on}
use Rattle.card_bounds.specs.Bounds.{book_amid}
use Rattle.card_events.specs.History.{CorrectedPost, anchor_of}
use Rattle.card_events.specs.declared.post.Post.{Post}
use Rattle.card_events.specs.declared.post.Post.TheVariants as post
use Rattle.card_model.proofs.EntryFacts.{balance-append, balance-debit}
use Rattle.card_model.proofs.PartsSum.{Rises}
use Rattle.card_model.proofs.Posted.{balance-entry_of}
use Rattle.card_model.proofs.Sound.{charge-high, highs}
use Rattle.card_model.specs.Books.{Account, Book, account_of, all_segments, note_of, present_cycle}
use Rattle.card_model.specs.Caps.{row_for}
use Rattle.card_model.specs.Cycles.{IssuedRow, Seen, last_cycle, post_at, seen_on}
use Rattle.card_model.specs.Deadlines.{resolves}
use Rattle.card_model.specs.DueDates.{on_due}
use Rattle.card_model.specs.Effects.{after_posts, charge_at, disputed_charge, effect, moved_by}
use Rattle.card_model.specs.Entries.{balance, credit_balance, debit, lowers, negated, releases}
use Rattle.card_model.specs.Folds.{book_after}
use Rattle.card_model.specs.declared.entry.Note.{Note}
use Rattle.card_model.specs.declared.entry.EntryKind.TheVariants as kind
use Rattle.card_effects.specs.HoldLaws.{HeldCoversReleases}

-- ---- the balance of Held
plus-none : (x y : ℤ) → y ≡ pos 0 → x +ℤ y ≡ x
plus-none x y e = omega (arith, ints, e)

held-debit : (note : Note) (g x credit : ℕ) → 2 ≤ g → balance 1 (debit note g x credit) ≡ pos 0
held-debit note g x credit l =
    let other : eqb g 1 ≡ false = ne_eqb g 1 (λ e. omega (arith, e, l)) in
    balance-debit note g x credit 1 ∙ rw other refl

held-release : (note : Note) (g x credit : ℕ) → 2 ≤ g → balance 1 (releases note g x credit) ≡ negated x
held-release note g x credit l =
    balance-append 1 (lowers note 1 x) (debit note g x credit)
    ∙ (plus-none (balance 1 (lowers note 1 x)) (balance 1 (debit note g x credit)) (held-debit note g x credit l) ∙ balance-entry_of note 1 (negated x) 1)

resolve-lowers : (row : Option IssuedRow) (a : Account) (seen : Seen) (p : CorrectedPost) (q : Post) (n : ℕ) (b : Book) → Rises 5 seen.posts → resolves n q ≡ true
    → balance 1 (effect row a seen p q b).entries ≡ balance 1 b.entries +ℤ negated (moved_by n b.entries)
unfolding effect
resolve-lowers row a seen p (post.Resolve d t c) n b r e =
    let charge = charge_at (disputed_charge (post_at t seen.posts)) seen.posts in
    balance-append 1 b.entries _
    ∙ (ap (λ z. balance 1 b.entries +ℤ z) (held-release (note_of seen kind.Hold p.number) _ (moved_by t b.entries) (credit_balance b.entries) (charge-high (all_segments a seen) charge (highs a seen r)))
    ∙ ap (λ (k : ℕ). balance 1 b.entries +ℤ negated (moved_by k b.entries)) (eqb-true t n e))
resolve-lowers row a seen p (post.Charge d pl c) n b r e = absurd (cc)
resolve-lowers row a seen p (post.Credit d pl c) n b r e = absurd (cc)
resolve-lowers row a seen p (post.Payment d m y c) n b r e = absurd (cc)
resolve-lowers row a seen p (post.Return d t) n b r e = absurd (cc)
resolve-lowers row a seen p (post.Plan d k g x f) n b r e = absurd (cc)
resolve-lowers row a seen p (post.Notice d c g x) n b r e = absurd (cc)
resolve-lowers row a seen p (post.Lower d c g) n b r e = absurd (cc)
resolve-lowers row a seen p post.Penalty n b r e = absurd (cc)
resolve-lowers row a seen p (post.Review d f) n b r e = absurd (cc)
resolve-lowers row a seen p (post.Dispute d t c) n b r e = absurd (cc)
resolve-lowers row a seen p (post.Ack d t) n b r e = absurd (cc)
resolve-lowers row a seen p (post.AskRefund d) n b r e = absurd (cc)
resolve-lowers row a seen p (post.Refund c) n b r e = absurd (cc)
resolve-lowers row a seen p (post.Open d t) n b r e = absurd (cc)
resolve-lowers row a seen p (post.OpenVariable d t) n b r e = absurd (cc)
resolve-lowers row a seen p (post.Amend t d c) n b r e = absurd (cc)
resolve-lowers row a seen p (post.Bill c) n b r e = absurd (cc)

-- ---- a post behind others
posts-then : (row : Option IssuedRow) (a : Account) (seen : Seen) (xs : List CorrectedPost) (p : CorrectedPost) (b : Book) → after_posts row a seen (xs ++ p ∷ []) b ≡ effect row a seen p p.post (after_posts row a seen xs b)
unfolding after_posts
posts-then row a seen [] p b = refl
posts-then row a seen (x ∷ xs) p b = posts-then row a seen xs p (effect row a seen x x.post b)

covers : (m : ℕ) (z : ℤ) → pos 0 ≤ℤ (z +ℤ negated m) → pos m ≤ℤ z
covers zero z h = omega (arith, ints, h)
covers (suc m) z h = omega (arith, ints, h)

-- ---- the law
pub held_covers_releases : HeldCoversReleases
held_covers_releases history issued shared n h done rest p dispute parts is =
    let a = anchor_of history in
    let seen = seen_on a shared history issued (a.opened + n) in
    let before = book_after issued (account_of history) (seen_on a shared history issued) n in
    let row = row_for (present_cycle before) issued in
    let limits = limits-on a shared history issued (a.opened + n) (folded-few a shared.holidays history h.cents) h.fees in
    let b = book_amid history issued shared n done in
    let whole = held_is_never_below.posts history issued shared n h (done ++ p ∷ []) rest (parts ∙ sym (append_assoc done (p ∷ []) rest)) in
    let next = posts-then row (account_of history) seen done p (on_due row (account_of history) seen before (last_cycle before.cycles)) in
    let lowered = resolve-lowers row (account_of history) seen p p.post dispute b limits.ids is in
    covers (moved_by dispute b.entries) (balance 1 b.entries)
    (subst (λ z. pos 0 ≤ℤ z) lowered (subst (λ (c : Book). pos 0 ≤ℤ balance 1 c.entries) next whole))
