-- The payments that Returns name, as a history grows.
use Rattle.std.proofs.Common.{◌≡◌, ℕ, suc, ◌+◌, List, [], ◌∷◌, ◌++◌, length, ap, ◌∙◌, subst, arith}
use Rattle.card_events.specs.declared.kept.Kept.{Kept}
use Rattle.card_events.specs.declared.post.Post.{Post}
use Rattle.card_events.specs.declared.post.Post.TheVariants as post
use Rattle.card_fees.specs.Counting.{is_payment_at}
use Rattle.card_events.proofs.OneMore.{number-more}
use Rattle.card_daily.proofs.Returning.{at-most}
use Rattle.card_daily.specs.Given.{NamePayments, NamesAPayment}

-- a post names what it named once there is one more behind
still-names : (h : List Kept) (k : Kept) (n : ℕ) (p : Post) → NamesAPayment h n p → NamesAPayment (h ++ k ∷ []) n p
still-names h k n (post.Return d t) names = (names.0, ap is_payment_at (number-more t h k (at-most t h names.1)) ∙ names.1)
still-names h k n (post.Charge d p c) names = tt
still-names h k n (post.Credit d p c) names = tt
still-names h k n (post.Payment d m b c) names = tt
still-names h k n (post.Plan d v r x f) names = tt
still-names h k n (post.Notice d c r x) names = tt
still-names h k n (post.Lower d c r) names = tt
still-names h k n post.Penalty names = tt
still-names h k n (post.Dispute d t c) names = tt
still-names h k n (post.Resolve d t c) names = tt
still-names h k n (post.Refund c) names = tt
still-names h k n (post.Open d t) names = tt
still-names h k n (post.OpenVariable d t) names = tt
still-names h k n (post.Review d f) names = tt
still-names h k n (post.Ack d t) names = tt
still-names h k n (post.AskRefund d) names = tt
still-names h k n (post.Amend t d c) names = tt
still-names h k n (post.Bill c) names = tt

still-name : (h : List Kept) (k : Kept) (n : ℕ) (ks : List Kept) → NamePayments h n ks → NamePayments (h ++ k ∷ []) n ks
unfolding NamePayments
still-name h k n [] names = tt
still-name h k n (x ∷ xs) names = (still-names h k n x.post names.0, still-name h k (suc n) xs names.1)

-- these posts and one behind them
and-last : (h : List Kept) (n : ℕ) (ks : List Kept) (k : Kept) → NamePayments h n ks → NamesAPayment h (n + length ks) k.post → NamePayments h n (ks ++ k ∷ [])
unfolding NamePayments
and-last h n [] k names last = let here : n + 0 ≡ n = omega arith in (subst (λ (m : ℕ). NamesAPayment h m k.post) here last, tt)
and-last h n (x ∷ xs) k names last =
    let there : n + suc (length xs) ≡ suc n + length xs = omega arith in
    (names.0, and-last h (suc n) xs k names.1 (subst (λ (m : ℕ). NamesAPayment h m k.post) there last))

-- a post that names a payment of the history, where it names one, may be added to it
pub names-more : (h : List Kept) (k : Kept) → NamePayments h 1 h → NamesAPayment h (1 + length h) k.post → NamePayments (h ++ k ∷ []) 1 (h ++ k ∷ [])
names-more h k all last = still-name h k 1 (h ++ k ∷ []) (and-last h 1 h k all last)
