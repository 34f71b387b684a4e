-- Posts at the end of a history that the fold doesn't read, and a correction that is taken back.
use Rattle.std.proofs.Common.{◌≡◌, ℕ, zero, suc, ◌+◌, Bool, true, false, cond, List, [], ◌∷◌, ◌++◌, refl, sym, ap, ◌∙◌, subst, arith, Option, Some, None, eqb, leb}
use Rattle.std.specs.List.{filter, sum_by}
use Rattle.std.proofs.lemmas.List.{append-nil}
use Rattle.std.proofs.lemmas.List.Sums.{sum_by-append, sum_by-cons}
use Rattle.std.proofs.lemmas.List.Elements.{filter-append}
use Rattle.std.proofs.lemmas.Bool.{eqb-true}
use Rattle.std.specs.Prelude.{max}
use Rattle.std.specs.Prelude.{unwrap_or}
use Rattle.std.specs.Option.{option_or}
use Rattle.std.specs.Prelude.{slice_get}
use Rattle.card_events.specs.Business.{credit_day, is_mail}
use Rattle.card_events.specs.declared.anchor.Anchor.{Anchor}
use Rattle.card_events.specs.History.{CorrectedPost, amend_of, amended, amended_cents, amended_day, anchor_of, at_number, cents_of, charge_day, confirmed, confirms, corrected_from, corrected_post, dispute_day, dispute_names, effective_day, folded, is_folded, is_variable, last_amend, next_segment, own_at, own_of, payment_day, standing, terms_of}
use Rattle.card_events.specs.SharedRows.{SharedRows}
use Rattle.card_events.specs.declared.kept.Kept.{Kept}
use Rattle.card_events.specs.declared.post.Post.{Post}
use Rattle.card_model.specs.Cycles.{IssuedRow}
use Rattle.card_model.specs.Folds.{book}
use Rattle.card_model.specs.Laws.{CorrectionBack, HistoriesAgree, amend_by, bill_of}
use Rattle.card_model.specs.Rates.{own}
use Rattle.card_events.specs.declared.post.Post.TheVariants as post
use Rattle.card_model.proofs.Past.{past_is_enough}

-- a word that sees no difference between these posts and none
abbrev pub Blind : {B : Type 0} → (Option Kept → B) → List Kept → Type 0
Blind f [] = Unit {0}
Blind f (x ∷ xs) = (f (Some x) ≡ f None) × Blind f xs

blind-none : {B : Type 0} (f : Option Kept → B) (xs : List Kept) (n : ℕ) → Blind f xs → f (slice_get xs n) ≡ f None
blind-none f [] n h = refl
blind-none f (x ∷ xs) zero h = h.0
blind-none f (x ∷ xs) (suc n) h = blind-none f xs n h.1

place-blind : {B : Type 0} (f : Option Kept → B) (hs xs : List Kept) (n : ℕ) → Blind f xs → f (slice_get (hs ++ xs) n) ≡ f (slice_get hs n)
place-blind f [] xs n h = blind-none f xs n h
place-blind f (k ∷ hs) xs zero h = refl
place-blind f (k ∷ hs) xs (suc n) h = place-blind f hs xs n h

number-blind : {B : Type 0} (f : Option Kept → B) (hs xs : List Kept) (n : ℕ) → Blind f xs → f (at_number n (hs ++ xs)) ≡ f (at_number n hs)
number-blind f hs xs zero h = refl
number-blind f hs xs (suc n) h = place-blind f hs xs n h

-- later posts that are read by none of the words on posts, and leave what stands
pub record Leaves (history new : List Kept) : Type 0 where
  pub amends : (n : ℕ) (own : ℕ × ℕ) → own_at (at_number n history) ≡ Some own → unwrap_or (last_amend n (history ++ new)) own ≡ unwrap_or (last_amend n history) own
  pub confirms : (n : ℕ) → confirmed n (history ++ new) ≡ confirmed n history
  pub charges : (hs : List Kept) (n : ℕ) → Blind (charge_day hs n) new
  pub payments : (a : Anchor) (holidays : List ℕ) (hs : List Kept) (n : ℕ) → Blind (payment_day a holidays hs n) new
  pub disputes : (hs : List Kept) → Blind (dispute_day hs) new

same_day : (o u : Option (ℕ × ℕ)) (d c : ℕ) → unwrap_or o (d, c) ≡ unwrap_or u (d, c) → amended_day o d ≡ amended_day u d
same_day o u d c h = day_of o d c ∙ (ap (λ (x : ℕ × ℕ). x.0) h ∙ sym (day_of u d c))
  where
    day_of : (o : Option (ℕ × ℕ)) (d c : ℕ) → amended_day o d ≡ (unwrap_or o (d, c)).0
    day_of None d c = refl
    day_of (Some x) d c = refl

same_cents : (o u : Option (ℕ × ℕ)) (d c : ℕ) → unwrap_or o (d, c) ≡ unwrap_or u (d, c) → amended_cents o c ≡ amended_cents u c
same_cents o u d c h = cents_at o d c ∙ (ap (λ (x : ℕ × ℕ). x.1) h ∙ sym (cents_at u d c))
  where
    cents_at : (o : Option (ℕ × ℕ)) (d c : ℕ) → amended_cents o c ≡ (unwrap_or o (d, c)).1
    cents_at None d c = refl
    cents_at (Some x) d c = refl

charge-of : (history new : List Kept) → Leaves history new → (n : ℕ) (o : Option Kept) → at_number n history ≡ o → charge_day (history ++ new) n o ≡ charge_day history n o
charge-of history new r n None e = refl
charge-of history new r n (Some k) e = by k.post (λ own h. r.amends n own (ap own_at e ∙ h))
  where
    by : (p : Post) → ((own : ℕ × ℕ) → own_of p ≡ Some own → unwrap_or (last_amend n (history ++ new)) own ≡ unwrap_or (last_amend n history) own)
        → charge_day (history ++ new) n (Some (record { number = k.number; key = k.key; accepted = k.accepted; post = p })) ≡ charge_day history n (Some (record { number = k.number; key = k.key; accepted = k.accepted; post = p }))
    by (post.Charge d p c) h = same_day (last_amend n (history ++ new)) (last_amend n history) d c (h (d, c) refl)
    by (post.Open d t) h = refl
    by (post.OpenVariable d t) h = refl
    by (post.Credit d p c) h = refl
    by (post.Payment d m y c) h = refl
    by (post.Return d t) h = refl
    by (post.Plan d k r e f) h = refl
    by (post.Notice d c r e) h = refl
    by (post.Lower d c r) h = refl
    by post.Penalty h = refl
    by (post.Review d f) h = refl
    by (post.Dispute d t c) h = refl
    by (post.Ack d t) h = refl
    by (post.Resolve d t c) h = refl
    by (post.AskRefund d) h = refl
    by (post.Refund c) h = refl
    by (post.Amend t d c) h = refl
    by (post.Bill c) h = refl

charge-same : (history new : List Kept) → Leaves history new → (n : ℕ) → charge_day (history ++ new) n (at_number n (history ++ new)) ≡ charge_day history n (at_number n history)
charge-same history new r n = number-blind (charge_day (history ++ new) n) history new n (r.charges (history ++ new) n) ∙ charge-of history new r n (at_number n history) refl

payment-of : (a : Anchor) (holidays : List ℕ) (history new : List Kept) → Leaves history new → (n : ℕ) (o : Option Kept) → at_number n history ≡ o → payment_day a holidays (history ++ new) n o ≡ payment_day a holidays history n o
payment-of a holidays history new r n None e = refl
payment-of a holidays history new r n (Some k) e = by k.post (λ own h. r.amends n own (ap own_at e ∙ h))
  where
    by : (p : Post) → ((own : ℕ × ℕ) → own_of p ≡ Some own → unwrap_or (last_amend n (history ++ new)) own ≡ unwrap_or (last_amend n history) own)
        → payment_day a holidays (history ++ new) n (Some (record { number = k.number; key = k.key; accepted = k.accepted; post = p })) ≡ payment_day a holidays history n (Some (record { number = k.number; key = k.key; accepted = k.accepted; post = p }))
    by (post.Payment d m y c) h = ap (λ x. credit_day a holidays x m (is_mail y)) (same_day (last_amend n (history ++ new)) (last_amend n history) d c (h (d, c) refl))
    by (post.Open d t) h = refl
    by (post.OpenVariable d t) h = refl
    by (post.Charge d p c) h = refl
    by (post.Credit d p c) h = refl
    by (post.Return d t) h = refl
    by (post.Plan d k r e f) h = refl
    by (post.Notice d c r e) h = refl
    by (post.Lower d c r) h = refl
    by post.Penalty h = refl
    by (post.Review d f) h = refl
    by (post.Dispute d t c) h = refl
    by (post.Ack d t) h = refl
    by (post.Resolve d t c) h = refl
    by (post.AskRefund d) h = refl
    by (post.Refund c) h = refl
    by (post.Amend t d c) h = refl
    by (post.Bill c) h = refl

payment-same : (a : Anchor) (holidays : List ℕ) (history new : List Kept) → Leaves history new → (n : ℕ) → payment_day a holidays (history ++ new) n (at_number n (history ++ new)) ≡ payment_day a holidays history n (at_number n history)
payment-same a holidays history new r n =
    number-blind (payment_day a holidays (history ++ new) n) history new n (r.payments a holidays (history ++ new) n) ∙ payment-of a holidays history new r n (at_number n history) refl

dispute-of : (history new : List Kept) → Leaves history new → (o : Option Kept) → dispute_day (history ++ new) o ≡ dispute_day history o
dispute-of history new r None = refl
dispute-of history new r (Some k) = by k.post
  where
    by : (p : Post) → dispute_day (history ++ new) (Some (record { number = k.number; key = k.key; accepted = k.accepted; post = p })) ≡ dispute_day history (Some (record { number = k.number; key = k.key; accepted = k.accepted; post = p }))
    by (post.Dispute d t c) = ap (λ x. max d x) (charge-same history new r t)
    by (post.Open d t) = refl
    by (post.OpenVariable d t) = refl
    by (post.Charge d p c) = refl
    by (post.Credit d p c) = refl
    by (post.Payment d m y c) = refl
    by (post.Return d t) = refl
    by (post.Plan d k r e f) = refl
    by (post.Notice d c r e) = refl
    by (post.Lower d c r) = refl
    by post.Penalty = refl
    by (post.Review d f) = refl
    by (post.Ack d t) = refl
    by (post.Resolve d t c) = refl
    by (post.AskRefund d) = refl
    by (post.Refund c) = refl
    by (post.Amend t d c) = refl
    by (post.Bill c) = refl

dispute-same : (history new : List Kept) → Leaves history new → (n : ℕ) → dispute_day (history ++ new) (at_number n (history ++ new)) ≡ dispute_day history (at_number n history)
dispute-same history new r n = number-blind (dispute_day (history ++ new)) history new n (r.disputes (history ++ new)) ∙ dispute-of history new r (at_number n history)

-- ---- a post as corrected
abbrev Stands : List Kept → List Kept → ℕ → Post → Type 0
Stands history new n p = (own : ℕ × ℕ) → own_of p ≡ Some own → unwrap_or (last_amend n (history ++ new)) own ≡ unwrap_or (last_amend n history) own

cents-same : (history new : List Kept) → Leaves history new → (n : ℕ) (p : Post) → Stands history new n p → cents_of (history ++ new) n p ≡ cents_of history n p
unfolding cents_of
cents-same history new r n (post.Charge d p c) h = let amounts = same_cents (last_amend n (history ++ new)) (last_amend n history) d c (h (d, c) refl) in rw (amounts, r.confirms n) refl
cents-same history new r n (post.Credit d p c) h = same_cents (last_amend n (history ++ new)) (last_amend n history) d c (h (d, c) refl)
cents-same history new r n (post.Payment d m y c) h = same_cents (last_amend n (history ++ new)) (last_amend n history) d c (h (d, c) refl)
cents-same history new r n (post.Open d t) h = refl
cents-same history new r n (post.OpenVariable d t) h = refl
cents-same history new r n (post.Return d t) h = refl
cents-same history new r n (post.Plan d k g e f) h = refl
cents-same history new r n (post.Notice d c g e) h = refl
cents-same history new r n (post.Lower d c g) h = refl
cents-same history new r n post.Penalty h = refl
cents-same history new r n (post.Review d f) h = refl
cents-same history new r n (post.Dispute d t c) h = refl
cents-same history new r n (post.Ack d t) h = refl
cents-same history new r n (post.Resolve d t c) h = refl
cents-same history new r n (post.AskRefund d) h = refl
cents-same history new r n (post.Refund c) h = refl
cents-same history new r n (post.Amend t d c) h = refl
cents-same history new r n (post.Bill c) h = refl

day-same : (a : Anchor) (holidays : List ℕ) (history new : List Kept) → Leaves history new → (n accepted : ℕ) (p : Post) → Stands history new n p → effective_day a holidays (history ++ new) n accepted p ≡ effective_day a holidays history n accepted p
unfolding effective_day
day-same a holidays history new r n accepted (post.Charge d p c) h = same_day (last_amend n (history ++ new)) (last_amend n history) d c (h (d, c) refl)
day-same a holidays history new r n accepted (post.Credit d p c) h = same_day (last_amend n (history ++ new)) (last_amend n history) d c (h (d, c) refl)
day-same a holidays history new r n accepted (post.Payment d m y c) h = ap (λ x. credit_day a holidays x m (is_mail y)) (same_day (last_amend n (history ++ new)) (last_amend n history) d c (h (d, c) refl))
day-same a holidays history new r n accepted (post.Return d t) h = ap (λ x. max d x) (payment-same a holidays history new r t)
day-same a holidays history new r n accepted (post.Dispute d t c) h = ap (λ x. max d x) (charge-same history new r t)
day-same a holidays history new r n accepted (post.Resolve d t c) h = ap (λ x. max d x) (dispute-same history new r t)
day-same a holidays history new r n accepted (post.Open d t) h = refl
day-same a holidays history new r n accepted (post.OpenVariable d t) h = refl
day-same a holidays history new r n accepted (post.Plan d k g e f) h = refl
day-same a holidays history new r n accepted (post.Notice d c g e) h = refl
day-same a holidays history new r n accepted (post.Lower d c g) h = refl
day-same a holidays history new r n accepted post.Penalty h = refl
day-same a holidays history new r n accepted (post.Review d f) h = refl
day-same a holidays history new r n accepted (post.Ack d t) h = refl
day-same a holidays history new r n accepted (post.AskRefund d) h = refl
day-same a holidays history new r n accepted (post.Refund c) h = refl
day-same a holidays history new r n accepted (post.Amend t d c) h = refl
day-same a holidays history new r n accepted (post.Bill c) h = refl

slot-same : (a : Anchor) (holidays : List ℕ) (history new : List Kept) → Leaves history new → (n id : ℕ) (k : Kept) → at_number n history ≡ Some k → corrected_post a holidays (history ++ new) n id k ≡ corrected_post a holidays history n id k
unfolding corrected_post
slot-same a holidays history new r n id k at =
    let stands : Stands history new n k.post = λ own h. r.amends n own (ap own_at at ∙ h) in
    let day = day-same a holidays history new r n k.accepted k.post stands in
    let cents = cents-same history new r n k.post stands in
    cc

-- the slots of the posts from one on, where these are the rest of the history
slots-same : (a : Anchor) (holidays : List ℕ) (history new : List Kept) → Leaves history new → (n id : ℕ) (ks : List Kept) → ((i : ℕ) (k : Kept) → slice_get ks i ≡ Some k → at_number (n + i) history ≡ Some k)
    → corrected_from a holidays (history ++ new) n id ks ≡ corrected_from a holidays history n id ks
unfolding corrected_from
slots-same a holidays history new r n id [] at = refl
slots-same a holidays history new r n id (k ∷ ks) at =
    let zeroed : n + 0 ≡ n = omega arith in
    let here = slot-same a holidays history new r n id k (ap (λ m. at_number m history) (sym zeroed) ∙ at 0 k refl) in
    let later = slots-same a holidays history new r (suc n) (next_segment id k.post) ks (λ i x e. let m : suc n + i ≡ n + suc i = omega arith in ap (λ m. at_number m history) m ∙ at (suc i) x e) in
    cc

slots-append : (a : Anchor) (holidays : List ℕ) (history : List Kept) (n id : ℕ) (xs ys : List Kept) → (m : ℕ) × (i : ℕ) × (corrected_from a holidays history n id (xs ++ ys) ≡ corrected_from a holidays history n id xs ++ corrected_from a holidays history m i ys)
unfolding corrected_from
slots-append a holidays history n id [] ys = (n, id, refl)
slots-append a holidays history n id (k ∷ ks) ys =
    let r = slots-append a holidays history (suc n) (next_segment id k.post) ks ys in
    (r.0, r.1, ap (λ l. corrected_post a holidays history n id k ∷ l) r.2)

-- none of them is folded
abbrev pub AreNotFolded : List Kept → Type 0
AreNotFolded [] = Unit {0}
AreNotFolded (k ∷ ks) = (is_folded k.post ≡ false) × AreNotFolded ks

not_folded : (a : Anchor) (holidays : List ℕ) (history : List Kept) (n id : ℕ) (ks : List Kept) → AreNotFolded ks → filter (λ s. is_folded s.post) (corrected_from a holidays history n id ks) ≡ []
unfolding corrected_from corrected_post
not_folded a holidays history n id [] h = refl
not_folded a holidays history n id (k ∷ ks) h = rw h.0 (not_folded a holidays history (suc n) (next_segment id k.post) ks h.1)

pub folded-same : (a : Anchor) (holidays : List ℕ) (history new : List Kept) → Leaves history new → AreNotFolded new → folded a holidays (history ++ new) ≡ folded a holidays history
folded-same a holidays history new r h =
    let split = slots-append a holidays (history ++ new) 1 5 history new in
    let same = slots-same a holidays history new r 1 5 history (λ i k e. let m : 1 + i ≡ suc i = omega arith in ap (λ m. at_number m history) m ∙ e) in
    ap (filter (λ (s : CorrectedPost). is_folded s.post)) split.2
    ∙ (filter-append (λ (s : CorrectedPost). is_folded s.post) (corrected_from a holidays (history ++ new) 1 5 history) (corrected_from a holidays (history ++ new) split.0 split.1 new)
    ∙ rw (not_folded a holidays (history ++ new) split.0 split.1 new h, same) (append-nil (folded a holidays history)))

-- ---- what stands after more posts
sum_agree : (f g : Kept → ℕ) → ((k : Kept) → f k ≡ g k) → (ks : List Kept) → sum_by f ks ≡ sum_by g ks
sum_agree f g h [] = refl
sum_agree f g h (k ∷ ks) = sum_by-cons f k ks ∙ (rw (h k, sum_agree f g h ks) (sym (sum_by-cons g k ks)))

confirms-same : (n : ℕ) (history new : List Kept) → Blind (dispute_names n) new → (p : Post) → confirms n (history ++ new) p ≡ confirms n history p
confirms-same n history new h (post.Resolve d t c) = ap (λ b. cond b c 0) (number-blind (dispute_names n) history new t h)
confirms-same n history new h (post.Open d t) = refl
confirms-same n history new h (post.OpenVariable d t) = refl
confirms-same n history new h (post.Charge d p c) = refl
confirms-same n history new h (post.Credit d p c) = refl
confirms-same n history new h (post.Payment d m y c) = refl
confirms-same n history new h (post.Return d t) = refl
confirms-same n history new h (post.Plan d k g e f) = refl
confirms-same n history new h (post.Notice d c g e) = refl
confirms-same n history new h (post.Lower d c g) = refl
confirms-same n history new h post.Penalty = refl
confirms-same n history new h (post.Review d f) = refl
confirms-same n history new h (post.Dispute d t c) = refl
confirms-same n history new h (post.Ack d t) = refl
confirms-same n history new h (post.AskRefund d) = refl
confirms-same n history new h (post.Refund c) = refl
confirms-same n history new h (post.Amend t d c) = refl
confirms-same n history new h (post.Bill c) = refl

pub confirmed-same : (n : ℕ) (history new : List Kept) → Blind (dispute_names n) new → ((hs : List Kept) → sum_by (λ k. confirms n hs k.post) new ≡ 0) → confirmed n (history ++ new) ≡ confirmed n history
unfolding confirmed
confirmed-same n history new h none =
    let parts = sum_by-append (λ (k : Kept). confirms n (history ++ new) k.post) history new in
    let same = sum_agree (λ k. confirms n (history ++ new) k.post) (λ k. confirms n history k.post) (λ k. confirms-same n history new h k.post) history in
    parts ∙ rw (none (history ++ new), same) (omega arith)

first-append : {A : Type 0} (a b c : Option A) → option_or (option_or a b) c ≡ option_or a (option_or b c)
first-append None b c = refl
first-append (Some x) b c = refl

first-none : {A : Type 0} (a : Option A) → option_or a None ≡ a
first-none None = refl
first-none (Some x) = refl

pub last_amend-append : (n : ℕ) (xs ys : List Kept) → last_amend n (xs ++ ys) ≡ option_or (last_amend n ys) (last_amend n xs)
unfolding last_amend
last_amend-append n [] ys = sym (first-none (last_amend n ys))
last_amend-append n (x ∷ xs) ys = ap (λ o. option_or o (amend_of n x.post)) (last_amend-append n xs ys) ∙ first-append (last_amend n ys) (last_amend n xs) (amend_of n x.post)

-- ---- a Bill
leaves-bill : (history : List Kept) (m : ℕ) (key : List ℕ) (today cycle : ℕ) → Leaves history (bill_of m key today cycle ∷ [])
unfolding last_amend
leaves-bill history m key today cycle = record {
  amends = λ n own e. ap (λ o. unwrap_or o own) (last_amend-append n history (bill_of m key today cycle ∷ []));
  confirms = λ n. confirmed-same n history (bill_of m key today cycle ∷ []) (refl, tt) (λ hs. refl);
  charges = λ hs n. (refl, tt);
  payments = λ a holidays hs n. (refl, tt);
  disputes = λ hs. (refl, tt);
}

-- ---- two Amends of one post
or_else-some : (o : Option (ℕ × ℕ)) (own before : ℕ × ℕ) → Some (unwrap_or o own) ≡ Some before → unwrap_or o own ≡ before
or_else-some o own before h = cc

leaves-back : (history : List Kept) (i j : ℕ) (key other : List ℕ) (accepted later target : ℕ) (to before : ℕ × ℕ) → standing target history ≡ Some before
    → Leaves history (amend_by i key accepted target to ∷ amend_by j other later target before ∷ [])
unfolding last_amend
leaves-back history i j key other accepted later target to before stood = record {
  amends = λ n own e. ap (λ o. unwrap_or o own) (last_amend-append n history (amend_by i key accepted target to ∷ amend_by j other later target before ∷ [])) ∙ by n own e (eqb target n) refl;
  confirms = λ n. confirmed-same n history (amend_by i key accepted target to ∷ amend_by j other later target before ∷ []) (refl, (refl, tt)) (λ hs. refl);
  charges = λ hs n. (refl, (refl, tt));
  payments = λ a holidays hs n. (refl, (refl, tt));
  disputes = λ hs. (refl, (refl, tt));
}
  where
    at_target : (n : ℕ) (own : ℕ × ℕ) → own_at (at_number n history) ≡ Some own → target ≡ n → before ≡ unwrap_or (last_amend n history) own
    at_target n own e same =
        let stood' = subst (λ m. amended (last_amend m history) (own_at (at_number m history)) ≡ Some before) same stood in
        let there = ap (amended (last_amend n history)) e in
        sym (or_else-some (last_amend n history) own before (sym there ∙ stood'))

    by : (n : ℕ) (own : ℕ × ℕ) → own_at (at_number n history) ≡ Some own → (t : Bool) → eqb target n ≡ t
        → unwrap_or (option_or (option_or (cond t (Some (before.0, before.1)) None) (cond t (Some (to.0, to.1)) None)) (last_amend n history)) own ≡ unwrap_or (last_amend n history) own
    by n own e true q = at_target n own e (eqb-true target n q)
    by n own e false q = refl

-- ---- the laws
pub agree : (day : ℕ) (shared : SharedRows) (history new : List Kept) → Leaves history new → AreNotFolded new → anchor_of (history ++ new) ≡ anchor_of history → terms_of (history ++ new) ≡ terms_of history
    → is_variable (history ++ new) ≡ is_variable history → HistoriesAgree day shared shared history (history ++ new)
agree day shared history new r h anchor terms variable =
    let same : folded (anchor_of (history ++ new)) shared.holidays (history ++ new) ≡ folded (anchor_of history) shared.holidays history =
    ap (λ a. folded a shared.holidays (history ++ new)) anchor ∙ folded-same (anchor_of history) shared.holidays history new r h in
    record { anchor = anchor; terms = terms; variable = variable; posts = ap (filter (λ (s : CorrectedPost). leb s.day day)) same; fees = refl; index = λ follows. refl }

stood_nowhere : (amend : Option (ℕ × ℕ)) (o : Option Kept) (before : ℕ × ℕ) → o ≡ None → amended amend (own_at o) ≡ Some before → ⊥
stood_nowhere amend None before e h = cc
stood_nowhere amend (Some k) before e h = cc

pub correction_back : CorrectionBack
correction_back [] issued shared i j key other accepted later zero to before stood day = absurd (stood_nowhere (last_amend 0 []) None before refl stood)
correction_back [] issued shared i j key other accepted later (suc target) to before stood day = absurd (stood_nowhere (last_amend (suc target) []) (slice_get [] target) before refl stood)
correction_back (first ∷ history) issued shared i j key other accepted later target to before stood day =
    past_is_enough day shared shared (first ∷ history) (first ∷ history ++ amend_by i key accepted target to ∷ amend_by j other later target before ∷ []) issued
    (agree day shared (first ∷ history) _ (leaves-back (first ∷ history) i j key other accepted later target to before stood) (refl, (refl, tt)) refl refl refl) day (omega arith)

-- a Bill changes the book of no day, for the same issued rows
pub bill-same : (history : List Kept) (issued : List IssuedRow) (shared : SharedRows) (m : ℕ) (key : List ℕ) (today cycle day : ℕ) → book (history ++ bill_of m key today cycle ∷ []) issued shared day ≡ book history issued shared day
bill-same [] issued shared m key today cycle day =
    past_is_enough day shared shared [] (bill_of m key today cycle ∷ []) issued (agree day shared [] _ (leaves-bill [] m key today cycle) (refl, tt) refl refl refl) day (omega arith)
bill-same (first ∷ history) issued shared m key today cycle day =
    past_is_enough day shared shared (first ∷ history) (first ∷ history ++ bill_of m key today cycle ∷ []) issued
    (agree day shared (first ∷ history) _ (leaves-bill (first ∷ history) m key today cycle) (refl, tt) refl refl refl) day (omega arith)
