use Rattle.std.proofs.Common.{◌≡◌, ℕ, zero, suc, ◌+◌, ◌-◌, ◌<◌, ◌≤◌, List, [], ◌∷◌, ◌++◌, take, drop, length, set, refl, ap, ◌∙◌, arith}
use Rattle.std.specs.List.{insert, remove}
use Rattle.std.proofs.lemmas.List.{length-take-le}
use Rattle.card_events.specs.declared.kept.Slot.{Slot}
use Rattle.card_posts.proofs.Moved.{rest, turned-back}
use Rattle.card_posts.proofs.order.move_back.Goals as goal

drop-length : (p : ℕ) (xs : List Slot) → length (drop p xs) ≡ length xs - p
drop-length zero xs = omega arith
drop-length (suc p) [] = omega arith
drop-length (suc p) (x ∷ xs) = let r = drop-length p xs in omega (arith, r)

moved : (from to k : ℕ) (xs ys : List Slot) (s : Slot) → to ≤ from → from < length xs → k ≡ from + 1 - to → ys ≡ drop (length (take k (drop to xs)) - 1) (take k (drop to xs)) ++ take (length (take k (drop to xs)) - 1) (take k (drop to xs))
    → set (take to xs ++ (ys ++ drop k (drop to xs))) to s ≡ insert (remove xs from) to s
moved from to k xs ys s l m count is =
    let j : ℕ = from - to in
    let all : k ≡ suc (from - to) = omega (arith, count, l) in
    let there : to + (from - to) ≡ from = omega (arith, l) in
    let rest-long = drop-length to xs in
    let long : length (take k (drop to xs)) - 1 ≡ from - to = ap (λ n. n - 1) (length-take-le k (drop to xs) (omega (arith, all, rest-long, l, m))) ∙ (omega (arith, all)) in
    let turned : ys ≡ drop (from - to) (take (suc (from - to)) (drop to xs)) ++ take (from - to) (take (suc (from - to)) (drop to xs)) =
    is ∙ (ap (λ n. drop n (take k (drop to xs)) ++ take n (take k (drop to xs))) long ∙ ap (λ n. drop (from - to) (take n (drop to xs)) ++ take (from - to) (take n (drop to xs))) all) in
    ap (λ n. set (take to xs ++ (ys ++ drop n (drop to xs))) to s) all
    ∙ (turned-back to (from - to) xs ys s (omega (arith, there, m)) turned ∙ ap (λ n. take to (rest n xs) ++ s ∷ drop to (rest n xs)) there)

pub returns : goal.returns
returns c = moved c.args.from c.args.to (c.args.from + 1 - c.args.to) c.args.order.now c.rotate_right.new.self c.args.slot c.requires.earlier c.requires.known refl c.rotate_right.ensures.after
