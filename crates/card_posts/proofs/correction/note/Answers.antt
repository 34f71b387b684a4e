use Rattle.std.proofs.Common.{◌≡◌, ℕ, ◌-◌, ◌<◌, ◌≤◌, List, length, get_or, set, arith, sym, ap, ◌∙◌, subst, None}
use Rattle.card_events.specs.declared.kept.Kept.{Kept}
use Rattle.card_events.specs.declared.post.Post.{Post}
use Rattle.card_posts.specs.Corrections.{changed_by, corrections_from, with_post}
use Rattle.card_posts.specs.Posted.{target_of}
use Rattle.card_posts.specs.Stored.{NameEarlier}
use Rattle.card_posts.specs.declared.correction.Correction.{Correction}
use Rattle.card_events.proofs.OneMore.{more}
use Rattle.card_posts.proofs.Noted.{by_parts, changed-within, corrections-length, noted-none, noted-one, plain-changed}
use Rattle.card_posts.proofs.correction.note.Goals as goal

pub say-requires-clause-known : goal.say-requires-clause-known
say-requires-clause-known c =
    let long = ap length c.requires.corrections ∙ corrections-length c.args.history.now 1 c.args.history.now in
    let within = changed-within c.args.history.now c.args.post.now c.requires.names c.requires.earlier in
    omega (arith, long, within, c.changed_by-number.ensures, c.if-number-gt0.true)

same-target : (h : List Kept) (k : Kept) (p : Post) → k.post ≡ p → target_of p ≤ length h → target_of k.post ≤ length h
same-target h k p same l = subst (λ q. target_of q ≤ length h) (sym same) l

none : (h : List Kept) (k : Kept) (p : Post) (cs : List Correction) (n : ℕ) → NameEarlier 1 h → target_of p ≤ length h → k.post ≡ p → cs ≡ corrections_from h 1 h → n ≡ changed_by h p → n ≡ 0 → cs ≡ corrections_from (more h k) 1 h
none h k p cs n e l same are is z = are ∙ sym (noted-none h k e (same-target h k p same l) (ap (changed_by h) same ∙ (sym is ∙ z)))

one : (h : List Kept) (k : Kept) (p : Post) (cs new : List Correction) (n : ℕ) → NameEarlier 1 h → target_of p ≤ length h → k.post ≡ p → cs ≡ corrections_from h 1 h → n ≡ changed_by h p → 0 < n
    → ((d : Correction) → new ≡ set cs (n - 1) (with_post p (get_or cs (n - 1) d))) → new ≡ corrections_from (more h k) 1 h
one h k p cs new n e l same are is z said =
    let d : Correction = by_parts None 0 in
    let number : n ≡ changed_by h k.post = is ∙ ap (changed_by h) (sym same) in
    said d ∙ (ap (λ q. set cs (n - 1) (with_post q (get_or cs (n - 1) d))) (sym same) ∙ (ap (λ u. set u (n - 1) (with_post k.post (get_or u (n - 1) d))) are
    ∙ (ap (λ m. set (corrections_from h 1 h) (m - 1) (with_post k.post (get_or (corrections_from h 1 h) (m - 1) d))) number
    ∙ sym (noted-one h k d e (same-target h k p same l) (subst (λ m. 0 < m) number z)))))

pub returns-then-number-gt0-clause-each : goal.returns-then-number-gt0-clause-each
returns-then-number-gt0-clause-each c k same =
    one c.args.history.now k c.args.post.now c.args.corrections.now.each c.say.new.self.each c.changed_by-number.result c.requires.names c.requires.earlier same c.requires.corrections c.changed_by-number.ensures (omega (arith, c.if-number-gt0.true)) c.say.ensures

pub returns-else-number-gt0-clause-each : goal.returns-else-number-gt0-clause-each
returns-else-number-gt0-clause-each c k same =
    none c.args.history.now k c.args.post.now c.args.corrections.now.each c.changed_by-number.result c.requires.names c.requires.earlier same c.requires.corrections c.changed_by-number.ensures (omega (arith, c.if-number-gt0.false))

pub returns-then-number-gt0-clause-spare : goal.returns-then-number-gt0-clause-spare
returns-then-number-gt0-clause-spare c plain =
    let no_number = plain-changed c.args.history.now c.args.post.now plain in
    absurd (omega (arith, c.if-number-gt0.true, c.changed_by-number.ensures, no_number))

pub returns-else-number-gt0-clause-spare : goal.returns-else-number-gt0-clause-spare
returns-else-number-gt0-clause-spare c plain = c.requires.room
