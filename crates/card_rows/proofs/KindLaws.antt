-- Each kind of request is read from its spelling, and from nothing else.
use Rattle.std.proofs.Common.{◌≡◌, ℕ, true, ◌&&◌, List, ◌++◌, Option, Some, IfSome, refl, sym, subst, append_assoc}
use Rattle.card_events.specs.declared.anchor.Channel.{Channel}
use Rattle.card_events.specs.declared.post.Category.{Category}
use Rattle.card_events.specs.declared.post.Finding.{Finding}
use Rattle.card_events.specs.declared.post.Place.{Place}
use Rattle.card_events.specs.declared.post.PlanKind.{PlanKind}
use Rattle.card_events.specs.declared.post.Post.{Post}
use Rattle.card_events.specs.declared.post.Post.TheVariants as post
use Rattle.card_events.specs.declared.post.Terms.{Terms}
use Rattle.card_events.specs.declared.request.Shared.{Shared}
use Rattle.card_events.specs.declared.request.Shared.TheVariants as shared
use Rattle.card_rows.specs.Held.{is_day, is_number, is_place, are_terms, is_post, is_shared}
use Rattle.card_rows.specs.declared.format.Format.{Format}
use Rattle.card_rows.specs.Spelling.{day_bytes, number_bytes, category_bytes, place_bytes, channel_bytes, plan_kind_bytes, finding_bytes, terms_bytes, post_code, post_bytes, shared_code, shared_bytes}
use Rattle.card_rows.specs.Reading.{◌>>=◌, read_day, read_number, read_category, read_place, read_channel, read_plan_kind, read_finding, read_terms, read_open, read_open_variable, read_charge, read_credit, read_payment, read_return, read_plan, read_notice, read_lower, read_penalty, read_review, read_dispute, read_ack, read_resolve, read_ask_refund, read_refund, read_amend, read_bill, read_roll, read_holiday, read_fee_row, read_index, read_post, read_shared}
use Rattle.card_rows.proofs.ReadingLemmas.{Spells, IsSpelled, IsCut, some_then, both, parts, joined, some_at}
use Rattle.card_rows.proofs.FieldLaws.{day_sound, day_complete, number_sound, number_complete, category_sound, category_complete, place_sound, place_complete, channel_sound, channel_complete, plan_kind_sound, plan_kind_complete, finding_sound, finding_complete}

-- ---- one field, and then the rest

on_day : (f : Format) {B : Type 0} (P : B → Type 0) (bs : List ℕ) (k : ℕ × List ℕ → Option B) → ((x : ℕ × List ℕ) → Spells (day_bytes f) is_day bs x → IfSome (k x) P) → IfSome (read_day f bs >>= k) P
on_day f P bs k h = some_then (Spells (day_bytes f) is_day bs) P (read_day f bs) k (day_sound f bs) h

on_number : (f : Format) {B : Type 0} (P : B → Type 0) (bs : List ℕ) (k : ℕ × List ℕ → Option B) → ((x : ℕ × List ℕ) → Spells (number_bytes f) is_number bs x → IfSome (k x) P) → IfSome (read_number f bs >>= k) P
on_number f P bs k h = some_then (Spells (number_bytes f) is_number bs) P (read_number f bs) k (number_sound f bs) h

on_place : (f : Format) {B : Type 0} (P : B → Type 0) (bs : List ℕ) (k : Place × List ℕ → Option B) → ((x : Place × List ℕ) → Spells (place_bytes f) is_place bs x → IfSome (k x) P) → IfSome (read_place f bs >>= k) P
on_place f P bs k h = some_then (Spells (place_bytes f) is_place bs) P (read_place f bs) k (place_sound f bs) h

on_category : {B : Type 0} (P : B → Type 0) (bs : List ℕ) (k : Category × List ℕ → Option B) → ((x : Category × List ℕ) → IsSpelled category_bytes bs x → IfSome (k x) P) → IfSome (read_category bs >>= k) P
on_category P bs k h = some_then (IsSpelled category_bytes bs) P (read_category bs) k (category_sound bs) h

on_channel : {B : Type 0} (P : B → Type 0) (bs : List ℕ) (k : Channel × List ℕ → Option B) → ((x : Channel × List ℕ) → IsSpelled channel_bytes bs x → IfSome (k x) P) → IfSome (read_channel bs >>= k) P
on_channel P bs k h = some_then (IsSpelled channel_bytes bs) P (read_channel bs) k (channel_sound bs) h

on_plan_kind : {B : Type 0} (P : B → Type 0) (bs : List ℕ) (k : PlanKind × List ℕ → Option B) → ((x : PlanKind × List ℕ) → IsSpelled plan_kind_bytes bs x → IfSome (k x) P) → IfSome (read_plan_kind bs >>= k) P
on_plan_kind P bs k h = some_then (IsSpelled plan_kind_bytes bs) P (read_plan_kind bs) k (plan_kind_sound bs) h

on_finding : {B : Type 0} (P : B → Type 0) (bs : List ℕ) (k : Finding × List ℕ → Option B) → ((x : Finding × List ℕ) → IsSpelled finding_bytes bs x → IfSome (k x) P) → IfSome (read_finding bs >>= k) P
on_finding P bs k h = some_then (IsSpelled finding_bytes bs) P (read_finding bs) k (finding_sound bs) h

-- ---- terms

terms_sound : (f : Format) (bs : List ℕ) → IfSome (read_terms f bs) (Spells (terms_bytes f) are_terms bs)
unfolding read_terms terms_bytes are_terms
terms_sound f bs =
    on_number f (Spells (terms_bytes f) are_terms bs) bs _ (λ close the_close. on_number f (Spells (terms_bytes f) are_terms bs) close.1 _ (λ purchase the_purchase. on_number f (Spells (terms_bytes f) are_terms bs) purchase.1 _ (λ cash the_cash. on_number f (Spells (terms_bytes f) are_terms bs) cash.1 _ (λ transfer the_transfer. on_number f (Spells (terms_bytes f) are_terms bs) transfer.1 _ (λ penalty the_penalty. on_number f (Spells (terms_bytes f) are_terms bs) penalty.1 _ (λ floor the_floor. on_number f (Spells (terms_bytes f) are_terms bs) floor.1 _ (λ pct the_pct. (joined (joined (joined (joined (joined (joined the_close.0 the_purchase.0) the_cash.0) the_transfer.0) the_penalty.0) the_floor.0) the_pct.0, both the_close.1 (both the_purchase.1 (both the_cash.1 (both the_transfer.1 (both the_penalty.1 (both the_floor.1 the_pct.1)))))))))))))

seven_complete : (f : Format) (close : ℕ) (purchase : ℕ) (cash : ℕ) (transfer : ℕ) (penalty : ℕ) (floor : ℕ) (pct : ℕ) (rest : List ℕ) → (is_number close && (is_number purchase && (is_number cash && (is_number transfer && (is_number penalty && (is_number floor && is_number pct)))))) ≡ true → read_terms f ((number_bytes f close ++ number_bytes f purchase ++ number_bytes f cash ++ number_bytes f transfer ++ number_bytes f penalty ++ number_bytes f floor ++ number_bytes f pct) ++ rest) ≡ Some (record { close = close; purchase = purchase; cash = cash; transfer = transfer; penalty = penalty; floor = floor; pct = pct }, rest)
unfolding read_terms
seven_complete f close purchase cash transfer penalty floor pct rest held =
    let parts_close = parts (is_number close) (is_number purchase && (is_number cash && (is_number transfer && (is_number penalty && (is_number floor && is_number pct))))) held in
    let holds_close : is_number close ≡ true = parts_close.0 in
    let parts_purchase = parts (is_number purchase) (is_number cash && (is_number transfer && (is_number penalty && (is_number floor && is_number pct)))) parts_close.1 in
    let holds_purchase : is_number purchase ≡ true = parts_purchase.0 in
    let parts_cash = parts (is_number cash) (is_number transfer && (is_number penalty && (is_number floor && is_number pct))) parts_purchase.1 in
    let holds_cash : is_number cash ≡ true = parts_cash.0 in
    let parts_transfer = parts (is_number transfer) (is_number penalty && (is_number floor && is_number pct)) parts_cash.1 in
    let holds_transfer : is_number transfer ≡ true = parts_transfer.0 in
    let parts_penalty = parts (is_number penalty) (is_number floor && is_number pct) parts_transfer.1 in
    let holds_penalty : is_number penalty ≡ true = parts_penalty.0 in
    let parts_floor = parts (is_number floor) (is_number pct) parts_penalty.1 in
    let holds_floor : is_number floor ≡ true = parts_floor.0 in
    let holds_pct : is_number pct ≡ true = parts_floor.1 in
    simp append_assoc (rw (number_complete f close (number_bytes f purchase ++ (number_bytes f cash ++ (number_bytes f transfer ++ (number_bytes f penalty ++ (number_bytes f floor ++ (number_bytes f pct ++ rest)))))) holds_close, number_complete f purchase (number_bytes f cash ++ (number_bytes f transfer ++ (number_bytes f penalty ++ (number_bytes f floor ++ (number_bytes f pct ++ rest))))) holds_purchase, number_complete f cash (number_bytes f transfer ++ (number_bytes f penalty ++ (number_bytes f floor ++ (number_bytes f pct ++ rest)))) holds_cash, number_complete f transfer (number_bytes f penalty ++ (number_bytes f floor ++ (number_bytes f pct ++ rest))) holds_transfer, number_complete f penalty (number_bytes f floor ++ (number_bytes f pct ++ rest)) holds_penalty, number_complete f floor (number_bytes f pct ++ rest) holds_floor, number_complete f pct rest holds_pct) refl)

terms_complete : (f : Format) (t : Terms) (rest : List ℕ) → are_terms t ≡ true → read_terms f (terms_bytes f t ++ rest) ≡ Some (t, rest)
unfolding terms_bytes are_terms
terms_complete f t rest held = seven_complete f t.close t.purchase t.cash t.transfer t.penalty t.floor t.pct rest held

on_terms : (f : Format) {B : Type 0} (P : B → Type 0) (bs : List ℕ) (k : Terms × List ℕ → Option B) → ((x : Terms × List ℕ) → Spells (terms_bytes f) are_terms bs x → IfSome (k x) P) → IfSome (read_terms f bs >>= k) P
on_terms f P bs k h = some_then (Spells (terms_bytes f) are_terms bs) P (read_terms f bs) k (terms_sound f bs) h

-- ---- posts

-- the spelling of a post with this code, and then the rest
abbrev pub IsPostAt : Format → ℕ → List ℕ → Post × List ℕ → Type 0
IsPostAt f code bs x = IsCut bs (post_bytes f x.0) x.1 × (is_post x.0 ≡ true) × (post_code x.0 ≡ code)

open_sound : (f : Format) (bs : List ℕ) → IfSome (read_open f bs) (IsPostAt f 4 bs)
unfolding read_open post_bytes is_post
open_sound f bs = on_day f (IsPostAt f 4 bs) bs _ (λ day the_day. on_terms f (IsPostAt f 4 bs) day.1 _ (λ terms the_terms. (joined the_day.0 the_terms.0, both the_day.1 the_terms.1, refl)))

open_complete : (f : Format) (day : ℕ) (terms : Terms) (rest : List ℕ) → (is_day day && are_terms terms) ≡ true → read_open f ((day_bytes f day ++ terms_bytes f terms) ++ rest) ≡ Some (post.Open day terms, rest)
unfolding read_open
open_complete f day terms rest held =
    let parts_day = parts (is_day day) (are_terms terms) held in
    let holds_day : is_day day ≡ true = parts_day.0 in
    let holds_terms : are_terms terms ≡ true = parts_day.1 in
    simp append_assoc (rw (day_complete f day (terms_bytes f terms ++ rest) holds_day, terms_complete f terms rest holds_terms) refl)

open_variable_sound : (f : Format) (bs : List ℕ) → IfSome (read_open_variable f bs) (IsPostAt f 22 bs)
unfolding read_open_variable post_bytes is_post
open_variable_sound f bs = on_day f (IsPostAt f 22 bs) bs _ (λ day the_day. on_terms f (IsPostAt f 22 bs) day.1 _ (λ terms the_terms. (joined the_day.0 the_terms.0, both the_day.1 the_terms.1, refl)))

open_variable_complete : (f : Format) (day : ℕ) (terms : Terms) (rest : List ℕ) → (is_day day && are_terms terms) ≡ true → read_open_variable f ((day_bytes f day ++ terms_bytes f terms) ++ rest) ≡ Some (post.OpenVariable day terms, rest)
unfolding read_open_variable
open_variable_complete f day terms rest held =
    let parts_day = parts (is_day day) (are_terms terms) held in
    let holds_day : is_day day ≡ true = parts_day.0 in
    let holds_terms : are_terms terms ≡ true = parts_day.1 in
    simp append_assoc (rw (day_complete f day (terms_bytes f terms ++ rest) holds_day, terms_complete f terms rest holds_terms) refl)

charge_sound : (f : Format) (bs : List ℕ) → IfSome (read_charge f bs) (IsPostAt f 5 bs)
unfolding read_charge post_bytes is_post
charge_sound f bs = on_day f (IsPostAt f 5 bs) bs _ (λ day the_day. on_place f (IsPostAt f 5 bs) day.1 _ (λ place the_place. on_number f (IsPostAt f 5 bs) place.1 _ (λ cents the_cents. (joined (joined the_day.0 the_place.0) the_cents.0, both the_day.1 (both the_place.1 the_cents.1), refl))))

charge_complete : (f : Format) (day : ℕ) (place : Place) (cents : ℕ) (rest : List ℕ) → (is_day day && (is_place place && is_number cents)) ≡ true → read_charge f ((day_bytes f day ++ place_bytes f place ++ number_bytes f cents) ++ rest) ≡ Some (post.Charge day place cents, rest)
unfolding read_charge
charge_complete f day place cents rest held =
    let parts_day = parts (is_day day) (is_place place && is_number cents) held in
    let holds_day : is_day day ≡ true = parts_day.0 in
    let parts_place = parts (is_place place) (is_number cents) parts_day.1 in
    let holds_place : is_place place ≡ true = parts_place.0 in
    let holds_cents : is_number cents ≡ true = parts_place.1 in
    simp append_assoc (rw (day_complete f day (place_bytes f place ++ (number_bytes f cents ++ rest)) holds_day, place_complete f place (number_bytes f cents ++ rest) holds_place, number_complete f cents rest holds_cents) refl)

credit_sound : (f : Format) (bs : List ℕ) → IfSome (read_credit f bs) (IsPostAt f 6 bs)
unfolding read_credit post_bytes is_post
credit_sound f bs = on_day f (IsPostAt f 6 bs) bs _ (λ day the_day. on_place f (IsPostAt f 6 bs) day.1 _ (λ place the_place. on_number f (IsPostAt f 6 bs) place.1 _ (λ cents the_cents. (joined (joined the_day.0 the_place.0) the_cents.0, both the_day.1 (both the_place.1 the_cents.1), refl))))

credit_complete : (f : Format) (day : ℕ) (place : Place) (cents : ℕ) (rest : List ℕ) → (is_day day && (is_place place && is_number cents)) ≡ true → read_credit f ((day_bytes f day ++ place_bytes f place ++ number_bytes f cents) ++ rest) ≡ Some (post.Credit day place cents, rest)
unfolding read_credit
credit_complete f day place cents rest held =
    let parts_day = parts (is_day day) (is_place place && is_number cents) held in
    let holds_day : is_day day ≡ true = parts_day.0 in
    let parts_place = parts (is_place place) (is_number cents) parts_day.1 in
    let holds_place : is_place place ≡ true = parts_place.0 in
    let holds_cents : is_number cents ≡ true = parts_place.1 in
    simp append_assoc (rw (day_complete f day (place_bytes f place ++ (number_bytes f cents ++ rest)) holds_day, place_complete f place (number_bytes f cents ++ rest) holds_place, number_complete f cents rest holds_cents) refl)

payment_sound : (f : Format) (bs : List ℕ) → IfSome (read_payment f bs) (IsPostAt f 7 bs)
unfolding read_payment post_bytes is_post
payment_sound f bs = on_day f (IsPostAt f 7 bs) bs _ (λ day the_day. on_number f (IsPostAt f 7 bs) day.1 _ (λ minute the_minute. on_channel (IsPostAt f 7 bs) minute.1 _ (λ channel the_channel. on_number f (IsPostAt f 7 bs) channel.1 _ (λ cents the_cents. (joined (joined (joined the_day.0 the_minute.0) the_channel) the_cents.0, both the_day.1 (both the_minute.1 the_cents.1), refl)))))

payment_complete : (f : Format) (day : ℕ) (minute : ℕ) (channel : Channel) (cents : ℕ) (rest : List ℕ) → (is_day day && (is_number minute && is_number cents)) ≡ true → read_payment f ((day_bytes f day ++ number_bytes f minute ++ channel_bytes channel ++ number_bytes f cents) ++ rest) ≡ Some (post.Payment day minute channel cents, rest)
unfolding read_payment
payment_complete f day minute channel cents rest held =
    let parts_day = parts (is_day day) (is_number minute && is_number cents) held in
    let holds_day : is_day day ≡ true = parts_day.0 in
    let parts_minute = parts (is_number minute) (is_number cents) parts_day.1 in
    let holds_minute : is_number minute ≡ true = parts_minute.0 in
    let holds_cents : is_number cents ≡ true = parts_minute.1 in
    simp append_assoc (rw (day_complete f day (number_bytes f minute ++ (channel_bytes channel ++ (number_bytes f cents ++ rest))) holds_day, number_complete f minute (channel_bytes channel ++ (number_bytes f cents ++ rest)) holds_minute, channel_complete channel (number_bytes f cents ++ rest), number_complete f cents rest holds_cents) refl)

return_sound : (f : Format) (bs : List ℕ) → IfSome (read_return f bs) (IsPostAt f 8 bs)
unfolding read_return post_bytes is_post
return_sound f bs = on_day f (IsPostAt f 8 bs) bs _ (λ day the_day. on_number f (IsPostAt f 8 bs) day.1 _ (λ target the_target. (joined the_day.0 the_target.0, both the_day.1 the_target.1, refl)))

return_complete : (f : Format) (day : ℕ) (target : ℕ) (rest : List ℕ) → (is_day day && is_number target) ≡ true → read_return f ((day_bytes f day ++ number_bytes f target) ++ rest) ≡ Some (post.Return day target, rest)
unfolding read_return
return_complete f day target rest held =
    let parts_day = parts (is_day day) (is_number target) held in
    let holds_day : is_day day ≡ true = parts_day.0 in
    let holds_target : is_number target ≡ true = parts_day.1 in
    simp append_assoc (rw (day_complete f day (number_bytes f target ++ rest) holds_day, number_complete f target rest holds_target) refl)

plan_sound : (f : Format) (bs : List ℕ) → IfSome (read_plan f bs) (IsPostAt f 9 bs)
unfolding read_plan post_bytes is_post
plan_sound f bs = on_day f (IsPostAt f 9 bs) bs _ (λ day the_day. on_plan_kind (IsPostAt f 9 bs) day.1 _ (λ kind the_kind. on_number f (IsPostAt f 9 bs) kind.1 _ (λ rate the_rate. on_day f (IsPostAt f 9 bs) rate.1 _ (λ end the_end. on_number f (IsPostAt f 9 bs) end.1 _ (λ after the_after. (joined (joined (joined (joined the_day.0 the_kind) the_rate.0) the_end.0) the_after.0, both the_day.1 (both the_rate.1 (both the_end.1 the_after.1)), refl))))))

plan_complete : (f : Format) (day : ℕ) (kind : PlanKind) (rate : ℕ) (end : ℕ) (after : ℕ) (rest : List ℕ) → (is_day day && (is_number rate && (is_day end && is_number after))) ≡ true → read_plan f ((day_bytes f day ++ plan_kind_bytes kind ++ number_bytes f rate ++ day_bytes f end ++ number_bytes f after) ++ rest) ≡ Some (post.Plan day kind rate end after, rest)
unfolding read_plan
plan_complete f day kind rate end after rest held =
    let parts_day = parts (is_day day) (is_number rate && (is_day end && is_number after)) held in
    let holds_day : is_day day ≡ true = parts_day.0 in
    let parts_rate = parts (is_number rate) (is_day end && is_number after) parts_day.1 in
    let holds_rate : is_number rate ≡ true = parts_rate.0 in
    let parts_end = parts (is_day end) (is_number after) parts_rate.1 in
    let holds_end : is_day end ≡ true = parts_end.0 in
    let holds_after : is_number after ≡ true = parts_end.1 in
    simp append_assoc (rw (day_complete f day (plan_kind_bytes kind ++ (number_bytes f rate ++ (day_bytes f end ++ (number_bytes f after ++ rest)))) holds_day, plan_kind_complete kind (number_bytes f rate ++ (day_bytes f end ++ (number_bytes f after ++ rest))), number_complete f rate (day_bytes f end ++ (number_bytes f after ++ rest)) holds_rate, day_complete f end (number_bytes f after ++ rest) holds_end, number_complete f after rest holds_after) refl)

notice_sound : (f : Format) (bs : List ℕ) → IfSome (read_notice f bs) (IsPostAt f 10 bs)
unfolding read_notice post_bytes is_post
notice_sound f bs = on_day f (IsPostAt f 10 bs) bs _ (λ day the_day. on_category (IsPostAt f 10 bs) day.1 _ (λ category the_category. on_number f (IsPostAt f 10 bs) category.1 _ (λ rate the_rate. on_day f (IsPostAt f 10 bs) rate.1 _ (λ effective the_effective. (joined (joined (joined the_day.0 the_category) the_rate.0) the_effective.0, both the_day.1 (both the_rate.1 the_effective.1), refl)))))

notice_complete : (f : Format) (day : ℕ) (category : Category) (rate : ℕ) (effective : ℕ) (rest : List ℕ) → (is_day day && (is_number rate && is_day effective)) ≡ true → read_notice f ((day_bytes f day ++ category_bytes category ++ number_bytes f rate ++ day_bytes f effective) ++ rest) ≡ Some (post.Notice day category rate effective, rest)
unfolding read_notice
notice_complete f day category rate effective rest held =
    let parts_day = parts (is_day day) (is_number rate && is_day effective) held in
    let holds_day : is_day day ≡ true = parts_day.0 in
    let parts_rate = parts (is_number rate) (is_day effective) parts_day.1 in
    let holds_rate : is_number rate ≡ true = parts_rate.0 in
    let holds_effective : is_day effective ≡ true = parts_rate.1 in
    simp append_assoc (rw (day_complete f day (category_bytes category ++ (number_bytes f rate ++ (day_bytes f effective ++ rest))) holds_day, category_complete category (number_bytes f rate ++ (day_bytes f effective ++ rest)), number_complete f rate (day_bytes f effective ++ rest) holds_rate, day_complete f effective rest holds_effective) refl)

lower_sound : (f : Format) (bs : List ℕ) → IfSome (read_lower f bs) (IsPostAt f 11 bs)
unfolding read_lower post_bytes is_post
lower_sound f bs = on_day f (IsPostAt f 11 bs) bs _ (λ day the_day. on_category (IsPostAt f 11 bs) day.1 _ (λ category the_category. on_number f (IsPostAt f 11 bs) category.1 _ (λ rate the_rate. (joined (joined the_day.0 the_category) the_rate.0, both the_day.1 the_rate.1, refl))))

lower_complete : (f : Format) (day : ℕ) (category : Category) (rate : ℕ) (rest : List ℕ) → (is_day day && is_number rate) ≡ true → read_lower f ((day_bytes f day ++ category_bytes category ++ number_bytes f rate) ++ rest) ≡ Some (post.Lower day category rate, rest)
unfolding read_lower
lower_complete f day category rate rest held =
    let parts_day = parts (is_day day) (is_number rate) held in
    let holds_day : is_day day ≡ true = parts_day.0 in
    let holds_rate : is_number rate ≡ true = parts_day.1 in
    simp append_assoc (rw (day_complete f day (category_bytes category ++ (number_bytes f rate ++ rest)) holds_day, category_complete category (number_bytes f rate ++ rest), number_complete f rate rest holds_rate) refl)

penalty_sound : (f : Format) (bs : List ℕ) → IfSome (read_penalty bs) (IsPostAt f 12 bs)
unfolding read_penalty post_bytes is_post
penalty_sound f bs = (record { parts = refl }, refl, refl)

review_sound : (f : Format) (bs : List ℕ) → IfSome (read_review f bs) (IsPostAt f 13 bs)
unfolding read_review post_bytes is_post
review_sound f bs = on_day f (IsPostAt f 13 bs) bs _ (λ day the_day. on_finding (IsPostAt f 13 bs) day.1 _ (λ finding the_finding. (joined the_day.0 the_finding, the_day.1, refl)))

review_complete : (f : Format) (day : ℕ) (finding : Finding) (rest : List ℕ) → (is_day day) ≡ true → read_review f ((day_bytes f day ++ finding_bytes finding) ++ rest) ≡ Some (post.Review day finding, rest)
unfolding read_review
review_complete f day finding rest held =
    let holds_day : is_day day ≡ true = held in
    simp append_assoc (rw (day_complete f day (finding_bytes finding ++ rest) holds_day, finding_complete finding rest) refl)

dispute_sound : (f : Format) (bs : List ℕ) → IfSome (read_dispute f bs) (IsPostAt f 14 bs)
unfolding read_dispute post_bytes is_post
dispute_sound f bs = on_day f (IsPostAt f 14 bs) bs _ (λ day the_day. on_number f (IsPostAt f 14 bs) day.1 _ (λ target the_target. on_number f (IsPostAt f 14 bs) target.1 _ (λ cents the_cents. (joined (joined the_day.0 the_target.0) the_cents.0, both the_day.1 (both the_target.1 the_cents.1), refl))))

dispute_complete : (f : Format) (day : ℕ) (target : ℕ) (cents : ℕ) (rest : List ℕ) → (is_day day && (is_number target && is_number cents)) ≡ true → read_dispute f ((day_bytes f day ++ number_bytes f target ++ number_bytes f cents) ++ rest) ≡ Some (post.Dispute day target cents, rest)
unfolding read_dispute
dispute_complete f day target cents rest held =
    let parts_day = parts (is_day day) (is_number target && is_number cents) held in
    let holds_day : is_day day ≡ true = parts_day.0 in
    let parts_target = parts (is_number target) (is_number cents) parts_day.1 in
    let holds_target : is_number target ≡ true = parts_target.0 in
    let holds_cents : is_number cents ≡ true = parts_target.1 in
    simp append_assoc (rw (day_complete f day (number_bytes f target ++ (number_bytes f cents ++ rest)) holds_day, number_complete f target (number_bytes f cents ++ rest) holds_target, number_complete f cents rest holds_cents) refl)

ack_sound : (f : Format) (bs : List ℕ) → IfSome (read_ack f bs) (IsPostAt f 15 bs)
unfolding read_ack post_bytes is_post
ack_sound f bs = on_day f (IsPostAt f 15 bs) bs _ (λ day the_day. on_number f (IsPostAt f 15 bs) day.1 _ (λ target the_target. (joined the_day.0 the_target.0, both the_day.1 the_target.1, refl)))

ack_complete : (f : Format) (day : ℕ) (target : ℕ) (rest : List ℕ) → (is_day day && is_number target) ≡ true → read_ack f ((day_bytes f day ++ number_bytes f target) ++ rest) ≡ Some (post.Ack day target, rest)
unfolding read_ack
ack_complete f day target rest held =
    let parts_day = parts (is_day day) (is_number target) held in
    let holds_day : is_day day ≡ true = parts_day.0 in
    let holds_target : is_number target ≡ true = parts_day.1 in
    simp append_assoc (rw (day_complete f day (number_bytes f target ++ rest) holds_day, number_complete f target rest holds_target) refl)

resolve_sound : (f : Format) (bs : List ℕ) → IfSome (read_resolve f bs) (IsPostAt f 16 bs)
unfolding read_resolve post_bytes is_post
resolve_sound f bs = on_day f (IsPostAt f 16 bs) bs _ (λ day the_day. on_number f (IsPostAt f 16 bs) day.1 _ (λ target the_target. on_number f (IsPostAt f 16 bs) target.1 _ (λ cents the_cents. (joined (joined the_day.0 the_target.0) the_cents.0, both the_day.1 (both the_target.1 the_cents.1), refl))))

resolve_complete : (f : Format) (day : ℕ) (target : ℕ) (cents : ℕ) (rest : List ℕ) → (is_day day && (is_number target && is_number cents)) ≡ true → read_resolve f ((day_bytes f day ++ number_bytes f target ++ number_bytes f cents) ++ rest) ≡ Some (post.Resolve day target cents, rest)
unfolding read_resolve
resolve_complete f day target cents rest held =
    let parts_day = parts (is_day day) (is_number target && is_number cents) held in
    let holds_day : is_day day ≡ true = parts_day.0 in
    let parts_target = parts (is_number target) (is_number cents) parts_day.1 in
    let holds_target : is_number target ≡ true = parts_target.0 in
    let holds_cents : is_number cents ≡ true = parts_target.1 in
    simp append_assoc (rw (day_complete f day (number_bytes f target ++ (number_bytes f cents ++ rest)) holds_day, number_complete f target (number_bytes f cents ++ rest) holds_target, number_complete f cents rest holds_cents) refl)

ask_refund_sound : (f : Format) (bs : List ℕ) → IfSome (read_ask_refund f bs) (IsPostAt f 17 bs)
unfolding read_ask_refund post_bytes is_post
ask_refund_sound f bs = on_day f (IsPostAt f 17 bs) bs _ (λ day the_day. (the_day.0, the_day.1, refl))

ask_refund_complete : (f : Format) (day : ℕ) (rest : List ℕ) → (is_day day) ≡ true → read_ask_refund f ((day_bytes f day) ++ rest) ≡ Some (post.AskRefund day, rest)
unfolding read_ask_refund
ask_refund_complete f day rest held =
    let holds_day : is_day day ≡ true = held in
    rw (day_complete f day rest holds_day) refl

refund_sound : (f : Format) (bs : List ℕ) → IfSome (read_refund f bs) (IsPostAt f 18 bs)
unfolding read_refund post_bytes is_post
refund_sound f bs = on_number f (IsPostAt f 18 bs) bs _ (λ cents the_cents. (the_cents.0, the_cents.1, refl))

refund_complete : (f : Format) (cents : ℕ) (rest : List ℕ) → (is_number cents) ≡ true → read_refund f ((number_bytes f cents) ++ rest) ≡ Some (post.Refund cents, rest)
unfolding read_refund
refund_complete f cents rest held =
    let holds_cents : is_number cents ≡ true = held in
    rw (number_complete f cents rest holds_cents) refl

amend_sound : (f : Format) (bs : List ℕ) → IfSome (read_amend f bs) (IsPostAt f 19 bs)
unfolding read_amend post_bytes is_post
amend_sound f bs = on_number f (IsPostAt f 19 bs) bs _ (λ target the_target. on_day f (IsPostAt f 19 bs) target.1 _ (λ day the_day. on_number f (IsPostAt f 19 bs) day.1 _ (λ cents the_cents. (joined (joined the_target.0 the_day.0) the_cents.0, both the_target.1 (both the_day.1 the_cents.1), refl))))

amend_complete : (f : Format) (target : ℕ) (day : ℕ) (cents : ℕ) (rest : List ℕ) → (is_number target && (is_day day && is_number cents)) ≡ true → read_amend f ((number_bytes f target ++ day_bytes f day ++ number_bytes f cents) ++ rest) ≡ Some (post.Amend target day cents, rest)
unfolding read_amend
amend_complete f target day cents rest held =
    let parts_target = parts (is_number target) (is_day day && is_number cents) held in
    let holds_target : is_number target ≡ true = parts_target.0 in
    let parts_day = parts (is_day day) (is_number cents) parts_target.1 in
    let holds_day : is_day day ≡ true = parts_day.0 in
    let holds_cents : is_number cents ≡ true = parts_day.1 in
    simp append_assoc (rw (number_complete f target (day_bytes f day ++ (number_bytes f cents ++ rest)) holds_target, day_complete f day (number_bytes f cents ++ rest) holds_day, number_complete f cents rest holds_cents) refl)

bill_sound : (f : Format) (bs : List ℕ) → IfSome (read_bill f bs) (IsPostAt f 20 bs)
unfolding read_bill post_bytes is_post
bill_sound f bs = on_number f (IsPostAt f 20 bs) bs _ (λ cycle the_cycle. (the_cycle.0, the_cycle.1, refl))

bill_complete : (f : Format) (cycle : ℕ) (rest : List ℕ) → (is_number cycle) ≡ true → read_bill f ((number_bytes f cycle) ++ rest) ≡ Some (post.Bill cycle, rest)
unfolding read_bill
bill_complete f cycle rest held =
    let holds_cycle : is_number cycle ≡ true = held in
    rw (number_complete f cycle rest holds_cycle) refl

penalty_complete : (rest : List ℕ) → read_penalty rest ≡ Some (post.Penalty, rest)
unfolding read_penalty
penalty_complete rest = refl

along : (P : ℕ → Type 0) (a b : ℕ) → a ≡ b → P b → P a
along P a b e h = subst P (sym e) h

post_at : (f : Format) (code k : ℕ) (bs : List ℕ) (o : Option (Post × List ℕ)) → IfSome o (IsPostAt f k bs) → code ≡ k → IfSome o (IsPostAt f code bs)
post_at f code k bs o is e = along (λ n. IfSome o (IsPostAt f n bs)) code k e is

pub post_sound : (f : Format) (code : ℕ) (bs : List ℕ) → IfSome (read_post f code bs) (IsPostAt f code bs)
unfolding read_post
post_sound f code bs =
    some_at (IsPostAt f code bs) code 4 _ _ (λ e. post_at f code 4 bs _ (open_sound f bs) e) (some_at (IsPostAt f code bs) code 5 _ _ (λ e. post_at f code 5 bs _ (charge_sound f bs) e) (some_at (IsPostAt f code bs) code 6 _ _ (λ e. post_at f code 6 bs _ (credit_sound f bs) e) (some_at (IsPostAt f code bs) code 7 _ _ (λ e. post_at f code 7 bs _ (payment_sound f bs) e) (some_at (IsPostAt f code bs) code 8 _ _ (λ e. post_at f code 8 bs _ (return_sound f bs) e) (some_at (IsPostAt f code bs) code 9 _ _ (λ e. post_at f code 9 bs _ (plan_sound f bs) e) (some_at (IsPostAt f code bs) code 10 _ _ (λ e. post_at f code 10 bs _ (notice_sound f bs) e) (some_at (IsPostAt f code bs) code 11 _ _ (λ e. post_at f code 11 bs _ (lower_sound f bs) e) (some_at (IsPostAt f code bs) code 12 _ _ (λ e. post_at f code 12 bs _ (penalty_sound f bs) e) (some_at (IsPostAt f code bs) code 13 _ _ (λ e. post_at f code 13 bs _ (review_sound f bs) e) (some_at (IsPostAt f code bs) code 14 _ _ (λ e. post_at f code 14 bs _ (dispute_sound f bs) e) (some_at (IsPostAt f code bs) code 15 _ _ (λ e. post_at f code 15 bs _ (ack_sound f bs) e) (some_at (IsPostAt f code bs) code 16 _ _ (λ e. post_at f code 16 bs _ (resolve_sound f bs) e) (some_at (IsPostAt f code bs) code 17 _ _ (λ e. post_at f code 17 bs _ (ask_refund_sound f bs) e) (some_at (IsPostAt f code bs) code 18 _ _ (λ e. post_at f code 18 bs _ (refund_sound f bs) e) (some_at (IsPostAt f code bs) code 19 _ _ (λ e. post_at f code 19 bs _ (amend_sound f bs) e) (some_at (IsPostAt f code bs) code 20 _ _ (λ e. post_at f code 20 bs _ (bill_sound f bs) e) (some_at (IsPostAt f code bs) code 22 _ _ (λ e. post_at f code 22 bs _ (open_variable_sound f bs) e) tt)))))))))))))))))

pub post_complete : (f : Format) (p : Post) (rest : List ℕ) → is_post p ≡ true → read_post f (post_code p) (post_bytes f p ++ rest) ≡ Some (p, rest)
unfolding read_post post_bytes is_post
post_complete f (post.Open day terms) rest held = open_complete f day terms rest held
post_complete f (post.OpenVariable day terms) rest held = open_variable_complete f day terms rest held
post_complete f (post.Charge day place cents) rest held = charge_complete f day place cents rest held
post_complete f (post.Credit day place cents) rest held = credit_complete f day place cents rest held
post_complete f (post.Payment day minute channel cents) rest held = payment_complete f day minute channel cents rest held
post_complete f (post.Return day target) rest held = return_complete f day target rest held
post_complete f (post.Plan day kind rate end after) rest held = plan_complete f day kind rate end after rest held
post_complete f (post.Notice day category rate effective) rest held = notice_complete f day category rate effective rest held
post_complete f (post.Lower day category rate) rest held = lower_complete f day category rate rest held
post_complete f post.Penalty rest held = penalty_complete rest
post_complete f (post.Review day finding) rest held = review_complete f day finding rest held
post_complete f (post.Dispute day target cents) rest held = dispute_complete f day target cents rest held
post_complete f (post.Ack day target) rest held = ack_complete f day target rest held
post_complete f (post.Resolve day target cents) rest held = resolve_complete f day target cents rest held
post_complete f (post.AskRefund day) rest held = ask_refund_complete f day rest held
post_complete f (post.Refund cents) rest held = refund_complete f cents rest held
post_complete f (post.Amend target day cents) rest held = amend_complete f target day cents rest held
post_complete f (post.Bill cycle) rest held = bill_complete f cycle rest held

-- ---- shared requests

-- the spelling of a shared request with this code, and then the rest
abbrev pub IsSharedAt : Format → ℕ → List ℕ → Shared × List ℕ → Type 0
IsSharedAt f code bs x = IsCut bs (shared_bytes f x.0) x.1 × (is_shared x.0 ≡ true) × (shared_code x.0 ≡ code)

roll_sound : (f : Format) (bs : List ℕ) → IfSome (read_roll f bs) (IsSharedAt f 1 bs)
unfolding read_roll shared_bytes is_shared
roll_sound f bs = on_day f (IsSharedAt f 1 bs) bs _ (λ day the_day. (the_day.0, the_day.1, refl))

roll_complete : (f : Format) (day : ℕ) (rest : List ℕ) → (is_day day) ≡ true → read_roll f ((day_bytes f day) ++ rest) ≡ Some (shared.Roll day, rest)
unfolding read_roll
roll_complete f day rest held =
    let holds_day : is_day day ≡ true = held in
    rw (day_complete f day rest holds_day) refl

holiday_sound : (f : Format) (bs : List ℕ) → IfSome (read_holiday f bs) (IsSharedAt f 2 bs)
unfolding read_holiday shared_bytes is_shared
holiday_sound f bs = on_day f (IsSharedAt f 2 bs) bs _ (λ day the_day. (the_day.0, the_day.1, refl))

holiday_complete : (f : Format) (day : ℕ) (rest : List ℕ) → (is_day day) ≡ true → read_holiday f ((day_bytes f day) ++ rest) ≡ Some (shared.Holiday day, rest)
unfolding read_holiday
holiday_complete f day rest held =
    let holds_day : is_day day ≡ true = held in
    rw (day_complete f day rest holds_day) refl

fee_row_sound : (f : Format) (bs : List ℕ) → IfSome (read_fee_row f bs) (IsSharedAt f 3 bs)
unfolding read_fee_row shared_bytes is_shared
fee_row_sound f bs = on_day f (IsSharedAt f 3 bs) bs _ (λ day the_day. on_number f (IsSharedAt f 3 bs) day.1 _ (λ first the_first. on_number f (IsSharedAt f 3 bs) first.1 _ (λ repeat the_repeat. (joined (joined the_day.0 the_first.0) the_repeat.0, both the_day.1 (both the_first.1 the_repeat.1), refl))))

fee_row_complete : (f : Format) (day : ℕ) (first : ℕ) (repeat : ℕ) (rest : List ℕ) → (is_day day && (is_number first && is_number repeat)) ≡ true → read_fee_row f ((day_bytes f day ++ number_bytes f first ++ number_bytes f repeat) ++ rest) ≡ Some (shared.FeeRow day first repeat, rest)
unfolding read_fee_row
fee_row_complete f day first repeat rest held =
    let parts_day = parts (is_day day) (is_number first && is_number repeat) held in
    let holds_day : is_day day ≡ true = parts_day.0 in
    let parts_first = parts (is_number first) (is_number repeat) parts_day.1 in
    let holds_first : is_number first ≡ true = parts_first.0 in
    let holds_repeat : is_number repeat ≡ true = parts_first.1 in
    simp append_assoc (rw (day_complete f day (number_bytes f first ++ (number_bytes f repeat ++ rest)) holds_day, number_complete f first (number_bytes f repeat ++ rest) holds_first, number_complete f repeat rest holds_repeat) refl)

index_sound : (f : Format) (bs : List ℕ) → IfSome (read_index f bs) (IsSharedAt f 21 bs)
unfolding read_index shared_bytes is_shared
index_sound f bs = on_day f (IsSharedAt f 21 bs) bs _ (λ day the_day. on_number f (IsSharedAt f 21 bs) day.1 _ (λ rate the_rate. (joined the_day.0 the_rate.0, both the_day.1 the_rate.1, refl)))

index_complete : (f : Format) (day : ℕ) (rate : ℕ) (rest : List ℕ) → (is_day day && is_number rate) ≡ true → read_index f ((day_bytes f day ++ number_bytes f rate) ++ rest) ≡ Some (shared.Index day rate, rest)
unfolding read_index
index_complete f day rate rest held =
    let parts_day = parts (is_day day) (is_number rate) held in
    let holds_day : is_day day ≡ true = parts_day.0 in
    let holds_rate : is_number rate ≡ true = parts_day.1 in
    simp append_assoc (rw (day_complete f day (number_bytes f rate ++ rest) holds_day, number_complete f rate rest holds_rate) refl)

shared_at : (f : Format) (code k : ℕ) (bs : List ℕ) (o : Option (Shared × List ℕ)) → IfSome o (IsSharedAt f k bs) → code ≡ k → IfSome o (IsSharedAt f code bs)
shared_at f code k bs o is e = along (λ n. IfSome o (IsSharedAt f n bs)) code k e is

pub shared_sound : (f : Format) (code : ℕ) (bs : List ℕ) → IfSome (read_shared f code bs) (IsSharedAt f code bs)
unfolding read_shared
shared_sound f code bs =
    some_at (IsSharedAt f code bs) code 1 _ _ (λ e. shared_at f code 1 bs _ (roll_sound f bs) e) (some_at (IsSharedAt f code bs) code 2 _ _ (λ e. shared_at f code 2 bs _ (holiday_sound f bs) e) (some_at (IsSharedAt f code bs) code 3 _ _ (λ e. shared_at f code 3 bs _ (fee_row_sound f bs) e) (some_at (IsSharedAt f code bs) code 21 _ _ (λ e. shared_at f code 21 bs _ (index_sound f bs) e) tt)))

pub shared_complete : (f : Format) (s : Shared) (rest : List ℕ) → is_shared s ≡ true → read_shared f (shared_code s) (shared_bytes f s ++ rest) ≡ Some (s, rest)
unfolding read_shared shared_bytes is_shared
shared_complete f (shared.Roll day) rest held = roll_complete f day rest held
shared_complete f (shared.Holiday day) rest held = holiday_complete f day rest held
shared_complete f (shared.FeeRow day first repeat) rest held = fee_row_complete f day first repeat rest held
shared_complete f (shared.Index day rate) rest held = index_complete f day rate rest held
