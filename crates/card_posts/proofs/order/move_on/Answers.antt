use Rattle.std.proofs.Common.{◌≡◌, ℕ, suc, ◌+◌, ◌-◌, ◌<◌, ◌≤◌, List, ◌∷◌, ◌++◌, take, drop, length, set, refl, sym, ap, ◌∙◌, arith}
use Rattle.std.specs.List.{insert, remove}
use Rattle.card_events.specs.declared.kept.Slot.{Slot}
use Rattle.card_posts.proofs.Moved.{rest, turned-on}
use Rattle.card_posts.proofs.order.move_on.Goals as goal

moved : (from to k : ℕ) (xs ys : List Slot) (s : Slot) → from ≤ to → to < length xs → k ≡ to + 1 - from → ys ≡ drop 1 (take k (drop from xs)) ++ take 1 (take k (drop from xs))
    → set (take from xs ++ (ys ++ drop k (drop from xs))) to s ≡ insert (remove xs from) to s
moved from to k xs ys s l m count is =
    let all : k ≡ suc (to - from) = omega (arith, count, l) in
    let there : from + (to - from) ≡ to = omega (arith, l) in
    let turned : ys ≡ drop 1 (take (suc (to - from)) (drop from xs)) ++ take 1 (take (suc (to - from)) (drop from xs)) = is ∙ ap (λ n. drop 1 (take n (drop from xs)) ++ take 1 (take n (drop from xs))) all in
    ap (λ n. set (take from xs ++ (ys ++ drop n (drop from xs))) to s) all
    ∙ (ap (λ n. set (take from xs ++ (ys ++ drop (suc (to - from)) (drop from xs))) n s) (sym there)
    ∙ (turned-on from (to - from) xs ys s (omega (arith, there, m)) turned ∙ ap (λ n. take n (rest from xs) ++ s ∷ drop n (rest from xs)) there))

pub returns : goal.returns
returns c = moved c.args.from c.args.to (c.args.to + 1 - c.args.from) c.args.order.now c.rotate_left.new.self c.args.slot c.requires.later c.requires.known refl c.rotate_left.ensures.after
