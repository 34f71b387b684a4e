use Rattle.std.proofs.Common.{◌≡◌, ℕ, ◌+◌, ◌-◌, ◌<◌, ◌≤◌, max, unwrap_or, List, [], length, get_or, take, sym, ap, subst, ◌∙◌, refl, arith}
use Rattle.std.proofs.lemmas.List.{get_or_default}
use Rattle.card_events.specs.History.{amend_of, at_number, effective_day, last_amend}
use Rattle.card_events.specs.declared.kept.Kept.{Kept}
use Rattle.card_events.specs.declared.anchor.Anchor.{Anchor}
use Rattle.card_events.specs.declared.post.Post.{Post}
use Rattle.card_posts.specs.Corrections.{changed_by, correction_of, corrections_from, with_post}
use Rattle.card_posts.specs.Effect.{IsAmendDated, awaited_day, day_alone, effect_of}
use Rattle.card_posts.specs.Posted.{target_of}
use Rattle.card_posts.specs.Stored.{AreTimely, IsTimely, NameEarlier}
use Rattle.card_posts.specs.declared.correction.Correction.{Correction}
use Rattle.card_posts.specs.declared.effect.Effect.{Effect}
use Rattle.card_posts.proofs.Awaited.{awaited-below}
use Rattle.card_posts.proofs.DayLemmas.{amend-dated, day-by-later, either-dated, names-at, timely-at}
use Rattle.card_posts.proofs.Noted.{changed-within, corrections-at, corrections-length, said-this}
use Rattle.card_events.proofs.OneMore.{more}
use Rattle.card_posts.proofs.OneMore.{effects-length, last_amend-more}
use Rattle.card_posts.proofs.effect.effect_with.Goals as goal

within : (n m : ℕ) → 0 < n → n ≤ m → n - 1 < m
within n m z l = omega (arith, z, l)

pub at-before-requires : goal.at-before-requires
at-before-requires c = let l = corrections-length c.args.history.now 1 c.args.history.now in rw (c.requires.corrections, l) (within c.args.number (length c.args.history.now) c.requires.some c.requires.known)

timely-here : (opened i : ℕ) (h : List Kept) (k : Kept) → k ≡ get_or h i k → i < length h → AreTimely opened h → IsTimely opened k
timely-here opened i h k is l t = subst (λ (q : Kept). IsTimely opened q) (sym is) (timely-at opened i h k t l)

pub day_alone-alone-requires-clause-dated : goal.day_alone-alone-requires-clause-dated
day_alone-alone-requires-clause-dated c =
    (timely-here c.args.anchor.now.opened (c.args.number - 1) c.args.history.now c.index-history-i.result c.index-history-i.is
    (within c.args.number (length c.args.history.now) c.requires.some c.requires.known) c.requires.kept.timely).dated

pub day_alone-alone-requires-clause-received : goal.day_alone-alone-requires-clause-received
day_alone-alone-requires-clause-received c =
    (timely-here c.args.anchor.now.opened (c.args.number - 1) c.args.history.now c.index-history-i.result c.index-history-i.is
    (within c.args.number (length c.args.history.now) c.requires.some c.requires.known) c.requires.kept.timely).received

-- what is said of it with the post
said : (h : List Kept) (k : Kept) (p : Post) (cs : List Correction) (before now : Correction) (n : ℕ) → NameEarlier 1 h → target_of p ≤ length h → k.post ≡ p → cs ≡ corrections_from h 1 h → n ≡ changed_by h p → 0 < n
    → before ≡ get_or cs (n - 1) before → now ≡ with_post p before → now ≡ correction_of (more h k) n
said h k p cs before now n e l same are is z there made =
    let low : n - 1 < length h = omega (arith, is, z, changed-within h p e l) in
    let number : 1 + (n - 1) ≡ n = omega (arith, z) in
    let by : n ≡ changed_by h k.post = is ∙ ap (changed_by h) (sym same) in
    let was : before ≡ correction_of h n = there ∙ (ap (λ u. get_or u (n - 1) before) are ∙ (corrections-at h 1 (n - 1) h before low ∙ ap (correction_of h) number)) in
    let this = said-this h k e (subst (λ q. target_of q ≤ length h) (sym same) l) (subst (λ m. 0 < m) by z) in
    made ∙ (ap (λ q. with_post q before) (sym same) ∙ (ap (with_post k.post) (was ∙ ap (correction_of h) by) ∙ (sym this ∙ ap (correction_of (more h k)) (sym by))))

dated : (opened n : ℕ) (h : List Kept) (k : Kept) (o : Correction) → AreTimely opened h → IsAmendDated opened (amend_of n k.post) → o ≡ correction_of (more h k) n → IsAmendDated opened o.amend
dated opened n h k o t d is =
    subst (IsAmendDated opened) (sym (ap (λ (u : Correction). u.amend) is ∙ last_amend-more n h k)) (either-dated opened (amend_of n k.post) (last_amend n h) d (amend-dated opened n h t))

pub day_alone-alone-requires-clause-amend : goal.day_alone-alone-requires-clause-amend
day_alone-alone-requires-clause-amend c =
    let k : Kept = record { number = 0; key = []; accepted = 0; post = c.args.post.now } in
    dated c.args.anchor.now.opened c.args.number c.args.history.now k c.with_post-correction.result c.requires.kept.timely c.requires.dated
    (said c.args.history.now k c.args.post.now c.args.corrections.now.each c.at-before.result c.with_post-correction.result c.args.number c.requires.kept.names c.requires.target refl c.requires.corrections c.requires.number c.requires.some
    (c.at-before.ensures c.at-before.result) c.with_post-correction.ensures)

pub awaited_day-requires-clause-earlier : goal.awaited_day-requires-clause-earlier
awaited_day-requires-clause-earlier c =
    let l = within c.args.number (length c.args.history.now) c.requires.some c.requires.known in
    let below = subst (λ (k : Kept). target_of k.post < 1 + (c.args.number - 1)) (sym c.index-history-i.is) (names-at 1 (c.args.number - 1) c.args.history.now c.index-history-i.result c.requires.kept.names l) in
    omega (arith, below)

pub awaited_day-requires-clause-length : goal.awaited_day-requires-clause-length
awaited_day-requires-clause-length c =
    let l = within c.args.number (length c.args.history.now) c.requires.some c.requires.known in
    let long = ap length c.requires.effects ∙ effects-length c.args.anchor.now c.args.calendar.now c.args.history.now 1 c.args.history.now in
    omega (arith, l, long)

abbrev effect_by : ℕ → ℕ → Effect
effect_by d c = record { day = d; cents = c }

parts : (d c m b : ℕ) → d ≡ m → c ≡ b → effect_by d c ≡ effect_by m b
parts d c m b e f = rw (e, f) refl

-- its effective day
day-with : (a : Anchor) (holidays : List ℕ) (h : List Kept) (k q : Kept) (p : Post) (o : Correction) (n alone other day : ℕ) → NameEarlier 1 h → target_of p ≤ length h → k.post ≡ p → n ≡ changed_by h p → target_of q.post < n → n ≤ length h
    → o ≡ correction_of (more h k) n → alone ≡ day_alone a holidays o.amend q.accepted q.post → other ≡ awaited_day a holidays h q.post (at_number (target_of q.post) h) → day ≡ max alone other → day ≡ effective_day a holidays (more h k) n q.accepted q.post
day-with a holidays h k q p o n alone other day e l same is below within said_is alone_is other_is day_is =
    let target : target_of k.post ≤ length h = subst (λ u. target_of u ≤ length h) (sym same) l in
    let by : n ≡ changed_by h k.post = is ∙ ap (changed_by h) (sym same) in
    let waits = awaited-below a holidays h k q.post e target (omega (arith, below, within)) (subst (λ m. target_of q.post < m) by below) in
    let amend : o.amend ≡ last_amend n (more h k) = ap (λ (u : Correction). u.amend) said_is in
    day_is ∙ (ap (λ x. max x other) (alone_is ∙ ap (λ u. day_alone a holidays u q.accepted q.post) amend)
    ∙ (ap (max (day_alone a holidays (last_amend n (more h k)) q.accepted q.post)) (other_is ∙ sym waits) ∙ sym (day-by-later a holidays (more h k) n q.accepted q.post)))

pub returns : goal.returns
returns c k d named =
    let l = within c.args.number (length c.args.history.now) c.requires.some c.requires.known in
    let is = said c.args.history.now k c.args.post.now c.args.corrections.now.each c.at-before.result c.with_post-correction.result c.args.number c.requires.kept.names c.requires.target named c.requires.corrections c.requires.number c.requires.some
    (c.at-before.ensures c.at-before.result) c.with_post-correction.ensures in
    let same : get_or c.args.history.now (c.args.number - 1) d ≡ c.index-history-i.result = get_or_default c.args.history.now (c.args.number - 1) d c.index-history-i.result l ∙ sym c.index-history-i.is in
    let below = subst (λ (q : Kept). target_of q.post < 1 + (c.args.number - 1)) (sym c.index-history-i.is) (names-at 1 (c.args.number - 1) c.args.history.now c.index-history-i.result c.requires.kept.names l) in
    let day = day-with c.args.anchor.now c.args.calendar.now c.args.history.now k c.index-history-i.result c.args.post.now c.with_post-correction.result c.args.number c.day_alone-alone.result (unwrap_or c.awaited_day.result 0) c.later.result
    c.requires.kept.names c.requires.target named c.requires.number (omega (arith, below, c.requires.some)) (omega (arith, l)) is c.day_alone-alone.ensures
    (c.awaited_day.ensures c.args.anchor.now c.args.calendar.now (ap (take (c.args.number - 1)) c.requires.effects)) c.later.ensures in
    parts _ _ _ _ day (c.cents_now.ensures (more c.args.history.now k) c.args.number is)
    ∙ ap (effect_of c.args.anchor.now c.args.calendar.now (more c.args.history.now k) c.args.number) (sym same)
