-- A request is read from its spelling, and from nothing else.
use Rattle.std.proofs.Common.{◌≡◌, ℕ, Bool, true, false, ◌&&◌, nat_le, List, [], ◌∷◌, ◌++◌, Option, None, Some, IfSome, IfNone, IfOk, get_or, Result, Ok, Err, ◌↔◌, refl, ap, sym, ◌∙◌, subst, arith, append_assoc, append-nil}
use Rattle.card_events.specs.Range.{first_calendar_day}
use Rattle.card_events.specs.Dated.{is_request_day, is_dated_post, is_dated_shared, is_dated}
use Rattle.card_events.specs.Names.{is_name}
use Rattle.card_events.specs.declared.post.Post.{Post}
use Rattle.card_events.specs.declared.post.Post.TheVariants as post
use Rattle.card_events.specs.declared.request.Request.{Request}
use Rattle.card_events.specs.declared.request.Request.TheVariants as request
use Rattle.card_events.specs.declared.request.Shared.{Shared}
use Rattle.card_events.specs.declared.request.Shared.TheVariants as shared
use Rattle.card_rows.specs.Held.{is_day, is_number, is_place, are_terms, is_post, is_shared, is_request}
use Rattle.card_rows.specs.declared.format.Format.{Format}
use Rattle.card_rows.specs.declared.format.Format.TheVariants as format
use Rattle.card_rows.specs.Spelling.{format_byte, is_code, name_bytes, post_code, post_bytes, shared_code, shared_bytes, request_code, spelling, has_spelling, IsSpelling, IsSomeSpelling}
use Rattle.card_rows.specs.Reading.{read_byte, read_name, read_post, read_shared, read_for_all, read_posted, is_shared_code, read_coded, format_in, code_in, read_format, read_code, read_request, whole, request_in}
use Rattle.card_rows.proofs.ReadingLemmas.{Spells, IsCut, some_then, some_before, some_if, byte_sound, both, parts, joined, some_at}
use Rattle.card_rows.proofs.FieldLaws.{name_sound, name_complete}
use Rattle.card_rows.proofs.KindLaws.{IsPostAt, IsSharedAt, post_sound, post_complete, shared_sound, shared_complete}

-- ---- what is read is spelled so

-- behind the format and the code, the fields of a request with that code and then the rest
abbrev IsRequestAt : Format → ℕ → List ℕ → Request × List ℕ → Type 0
IsRequestAt f code bs x = IsCut (format_byte f ∷ code ∷ bs) (spelling f x.0) x.1 × (is_request x.0 ≡ true) × (request_code x.0 ≡ code)

for_all_cut : (f : Format) (code : ℕ) (bs : List ℕ) (it : Shared × List ℕ) → IsSharedAt f code bs it → IsRequestAt f code bs (request.Shared it.0, it.1)
unfolding spelling is_request
for_all_cut f code bs it is =
    (record { parts = ap (λ k. format_byte f ∷ k ∷ bs) (sym is.2) ∙ ap (λ l. format_byte f ∷ shared_code it.0 ∷ l) is.0.parts }, is.1, is.2)

for_all_sound : (f : Format) (code : ℕ) (bs : List ℕ) → IfSome (read_for_all f code bs) (IsRequestAt f code bs)
unfolding read_for_all
for_all_sound f code bs = some_then (IsSharedAt f code bs) (IsRequestAt f code bs) (read_shared f code bs) _ (shared_sound f code bs) (λ it is. for_all_cut f code bs it is)

posted_cut : (f : Format) (code : ℕ) (bs rest : List ℕ) (account key : List ℕ) (p : Post) → IsCut bs (name_bytes account ++ name_bytes key ++ post_bytes f p) rest → is_name account ≡ true → is_name key ≡ true
    → is_post p ≡ true → post_code p ≡ code → IsRequestAt f code bs (request.Post account key p, rest)
unfolding spelling is_request
posted_cut f code bs rest account key p cut first second third same =
    (record { parts = ap (λ k. format_byte f ∷ k ∷ bs) (sym same) ∙ ap (λ l. format_byte f ∷ post_code p ∷ l) cut.parts }, both first (both second third), same)

posted_sound : (f : Format) (code : ℕ) (bs : List ℕ) → IfSome (read_posted f code bs) (IsRequestAt f code bs)
unfolding read_posted
posted_sound f code bs =
    some_then (Spells name_bytes is_name bs) (IsRequestAt f code bs) (read_name bs) _ (name_sound bs) (λ account a.
    some_then (Spells name_bytes is_name account.1) (IsRequestAt f code bs) (read_name account.1) _ (name_sound account.1) (λ key k.
    some_then (IsPostAt f code key.1) (IsRequestAt f code bs) (read_post f code key.1) _ (post_sound f code key.1) (λ it p.
    posted_cut f code bs it.1 account.0 key.0 it.0 (joined (joined a.0 k.0) p.0) a.1 k.1 p.1 p.2)))

coded_sound : (f : Format) (code : ℕ) (bs : List ℕ) → IfSome (read_coded f code bs) (IsRequestAt f code bs)
unfolding read_coded
coded_sound f code bs = some_if (IsRequestAt f code bs) (is_shared_code code) _ _ (λ _. for_all_sound f code bs) (posted_sound f code bs)

-- the spelling of a request in the format, and then the rest
pub record IsRequestOf (f : Format) (bs : List ℕ) (x : Request × List ℕ) : Type 0 where
  pub cut : IsCut bs (spelling f x.0) x.1
  pub held : is_request x.0 ≡ true
  pub known : has_spelling f x.0 ≡ true

-- and in one of them
pub record IsRequestIn (bs : List ℕ) (x : Request × List ℕ) : Type 0 where
  pub by : Format
  pub is : IsRequestOf by bs x

some_of_all : {A : Type 0} (P Q : A → Type 0) (o : Option A) → ((x : A) → P x → Q x) → IfSome o P → IfSome o Q
some_of_all P Q None h is = tt
some_of_all P Q (Some x) h is = h x is

-- a format, and then the rest
abbrev IsFormatOf : List ℕ → Format × List ℕ → Type 0
IsFormatOf bs x = bs ≡ format_byte x.0 ∷ x.1

format_in_sound : (b : ℕ) → IfSome (format_in b) (λ f. b ≡ format_byte f)
unfolding format_in
format_in_sound b = some_at (λ f. b ≡ format_byte f) b 1 _ _ (λ e. e) (some_at (λ f. b ≡ format_byte f) b 2 _ _ (λ e. e) tt)

format_sound : (bs : List ℕ) → IfSome (read_format bs) (IsFormatOf bs)
unfolding read_format
format_sound bs =
    some_then (λ x. bs ≡ x.0 ∷ x.1) (IsFormatOf bs) (read_byte bs) _ (byte_sound bs) (λ tag first.
    some_before (λ f. tag.0 ≡ format_byte f) (IsFormatOf bs) tag.1 (format_in tag.0) (format_in_sound tag.0) (λ f it.
    first ∙ ap (λ k. k ∷ tag.1) it))

-- a code of the format, and then the rest
abbrev IsCodeOf : Format → List ℕ → ℕ × List ℕ → Type 0
IsCodeOf f bs x = (bs ≡ x.0 ∷ x.1) × (is_code f x.0 ≡ true)

code_in_sound : (f : Format) (b : ℕ) → IfSome (code_in f b) (λ c. (b ≡ c) × (is_code f c ≡ true))
unfolding code_in
code_in_sound f b = some_if (λ c. (b ≡ c) × (is_code f c ≡ true)) (is_code f b) (Some b) None (λ t. (refl, t)) tt

code_sound : (f : Format) (bs : List ℕ) → IfSome (read_code f bs) (IsCodeOf f bs)
unfolding read_code
code_sound f bs =
    some_then (λ x. bs ≡ x.0 ∷ x.1) (IsCodeOf f bs) (read_byte bs) _ (byte_sound bs) (λ tag first.
    some_before (λ c. (tag.0 ≡ c) × (is_code f c ≡ true)) (IsCodeOf f bs) tag.1 (code_in f tag.0) (code_in_sound f tag.0) (λ c it.
    (first ∙ ap (λ k. k ∷ tag.1) it.0, it.1)))

request_cut : (bs : List ℕ) (it : Format × List ℕ) (code : ℕ × List ℕ) (x : Request × List ℕ) → IsFormatOf bs it → IsCodeOf it.0 it.1 code → IsRequestAt it.0 code.0 code.1 x → IsRequestIn bs x
request_cut bs it code x front second is = record {
  by = it.0;
  is = record {
    cut = record { parts = front ∙ ap (λ l. format_byte it.0 ∷ l) second.0 ∙ is.0.parts };
    held = is.1;
    known = ap (is_code it.0) is.2 ∙ second.1;
  };
}

pub request_sound : (bs : List ℕ) → IfSome (read_request bs) (IsRequestIn bs)
unfolding read_request
request_sound bs =
    some_then (IsFormatOf bs) (IsRequestIn bs) (read_format bs) _ (format_sound bs) (λ it front.
    some_then (IsCodeOf it.0 it.1) (IsRequestIn bs) (read_code it.0 it.1) _ (code_sound it.0 it.1) (λ code second.
    some_of_all (IsRequestAt it.0 code.0 code.1) (IsRequestIn bs) (read_coded it.0 code.0 code.1) (λ x is. request_cut bs it code x front second is) (coded_sound it.0 code.0 code.1)))

-- ---- a spelling is read

shared_is_low : (s : Shared) → is_shared_code (shared_code s) ≡ true
shared_is_low (shared.Roll day) = refl
shared_is_low (shared.Holiday day) = refl
shared_is_low (shared.FeeRow day first repeat) = refl
shared_is_low (shared.Index day rate) = refl

post_is_high : (p : Post) → is_shared_code (post_code p) ≡ false
post_is_high (post.Open day terms) = refl
post_is_high (post.OpenVariable day terms) = refl
post_is_high (post.Charge day place cents) = refl
post_is_high (post.Credit day place cents) = refl
post_is_high (post.Payment day minute channel cents) = refl
post_is_high (post.Return day target) = refl
post_is_high (post.Plan day kind rate end after) = refl
post_is_high (post.Notice day category rate effective) = refl
post_is_high (post.Lower day category rate) = refl
post_is_high post.Penalty = refl
post_is_high (post.Review day finding) = refl
post_is_high (post.Dispute day target cents) = refl
post_is_high (post.Ack day target) = refl
post_is_high (post.Resolve day target cents) = refl
post_is_high (post.AskRefund day) = refl
post_is_high (post.Refund cents) = refl
post_is_high (post.Amend target day cents) = refl
post_is_high (post.Bill cycle) = refl

for_all_complete : (f : Format) (s : Shared) (rest : List ℕ) → is_shared s ≡ true → read_coded f (shared_code s) (shared_bytes f s ++ rest) ≡ Some (request.Shared s, rest)
unfolding read_coded read_for_all
for_all_complete f s rest held = rw (shared_is_low s, shared_complete f s rest held) refl

posted_complete : (f : Format) (account key : List ℕ) (p : Post) (rest : List ℕ) → is_name account ≡ true → is_name key ≡ true → is_post p ≡ true
    → read_coded f (post_code p) ((name_bytes account ++ name_bytes key ++ post_bytes f p) ++ rest) ≡ Some (request.Post account key p, rest)
unfolding read_coded read_posted
posted_complete f account key p rest first second third =
    simp append_assoc (rw (post_is_high p, name_complete account (name_bytes key ++ (post_bytes f p ++ rest)) first, name_complete key (post_bytes f p ++ rest) second, post_complete f p rest third) refl)

format_complete : (f : Format) (rest : List ℕ) → read_format (format_byte f ∷ rest) ≡ Some (f, rest)
unfolding read_format format_in
format_complete format.First rest = refl
format_complete format.Second rest = refl

code_in_complete : (f : Format) (code : ℕ) → is_code f code ≡ true → code_in f code ≡ Some code
unfolding code_in
code_in_complete f code known = rw known refl

code_complete : (f : Format) (code : ℕ) (rest : List ℕ) → is_code f code ≡ true → read_code f (code ∷ rest) ≡ Some (code, rest)
unfolding read_code
code_complete f code rest known = rw (code_in_complete f code known) refl

-- the format, a code and what stands behind them
coded_complete : (f : Format) (code : ℕ) (bs : List ℕ) → is_code f code ≡ true → read_request (format_byte f ∷ code ∷ bs) ≡ read_coded f code bs
unfolding read_request
coded_complete f code bs known = rw (format_complete f (code ∷ bs), code_complete f code bs known) refl

pub request_complete : (f : Format) (r : Request) (rest : List ℕ) → is_request r ≡ true → has_spelling f r ≡ true → read_request (spelling f r ++ rest) ≡ Some (r, rest)
unfolding spelling is_request
request_complete f (request.Shared s) rest held known = coded_complete f (shared_code s) (shared_bytes f s ++ rest) known ∙ for_all_complete f s rest held
request_complete f (request.Post account key p) rest held known =
    let names = parts (is_name account) (is_name key && is_post p) held in
    let last = parts (is_name key) (is_post p) names.1 in
    coded_complete f (post_code p) ((name_bytes account ++ name_bytes key ++ post_bytes f p) ++ rest) known ∙ posted_complete f account key p rest names.0 last.0 last.1

-- ---- all the bytes

whole_sound : (bs : List ℕ) (x : Request × List ℕ) → IsRequestIn bs x → IfSome (whole x) (IsSomeSpelling bs)
whole_sound bs (r, []) it = record { format = it.by; spells = record { spelled = it.is.cut.parts ∙ append-nil (spelling it.by r); held = it.is.held; known = it.is.known } }
whole_sound bs (r, b ∷ rest) it = tt

pub request_in_sound : (bs : List ℕ) → IfSome (request_in bs) (IsSomeSpelling bs)
unfolding request_in
request_in_sound bs = some_then (IsRequestIn bs) (IsSomeSpelling bs) (read_request bs) _ (request_sound bs) (λ x is. whole_sound bs x is)

pub request_in_complete : (f : Format) (bs : List ℕ) (r : Request) → IsSpelling f bs r → request_in bs ≡ Some r
unfolding request_in
request_in_complete f bs r is =
    let read : read_request bs ≡ Some (r, []) = ap read_request (is.spelled ∙ sym (append-nil (spelling f r))) ∙ request_complete f r [] is.held is.known in
    rw read refl

none_of : (o : Option Request) (bs : List ℕ) → request_in bs ≡ o → IfNone o ((f : Format) (r : Request) → IsSpelling f bs r → ⊥)
none_of None bs none = λ f r is. let some : request_in bs ≡ Some r = request_in_complete f bs r is in cc
none_of (Some x) bs some = tt

-- nothing is read only where the bytes spell no request
pub request_in_none : (bs : List ℕ) → IfNone (request_in bs) ((f : Format) (r : Request) → IsSpelling f bs r → ⊥)
request_in_none bs = none_of (request_in bs) bs refl

-- ---- laws

same_request : (r s : Request) → Some r ≡ Some s → r ≡ s
same_request r s e = cc

spelled_of : (o : Option Request) (bytes : List ℕ) (r : Request) → o ≡ Some r → IfSome o (IsSomeSpelling bytes) → IsSomeSpelling bytes r
spelled_of None bytes r e is = absurd (cc)
spelled_of (Some x) bytes r e is = subst (IsSomeSpelling bytes) (same_request x r e) is

same_some : (x y : Request × List ℕ) → Some x ≡ Some y → x ≡ y
same_some x y e = cc

two_readings : (f g : Format) (r s : Request) (front more rest : List ℕ) → IsSpelling f front r → IsSpelling g more s → front ++ rest ≡ more → (r ≡ s) × (rest ≡ [])
two_readings f g r s front more rest one other same =
    let first : spelling f r ++ rest ≡ spelling g s ++ [] = ap (λ l. l ++ rest) (sym one.spelled) ∙ same ∙ other.spelled ∙ sym (append-nil (spelling g s)) in
    let read = same_some (r, rest) (s, []) (sym (request_complete f r rest one.held one.known) ∙ ap read_request first ∙ request_complete g s [] other.held other.known) in
    (ap (λ (x : Request × List ℕ). x.0) read, ap (λ (x : Request × List ℕ). x.1) read)

first_byte : (f : Format) (r : Request) (rest : List ℕ) → get_or (spelling f r ++ rest) 0 0 ≡ format_byte f
unfolding spelling
first_byte f (request.Shared s) rest = refl
first_byte f (request.Post account key p) rest = refl

same_format : (f g : Format) → format_byte f ≡ format_byte g → f ≡ g
same_format format.First format.First e = refl
same_format format.Second format.Second e = refl
same_format format.First format.Second e = absurd (omega (arith, e))
same_format format.Second format.First e = absurd (omega (arith, e))

-- the first byte tells the format
one_format : (f g : Format) (r s : Request) (front more : List ℕ) → IsSpelling f front r → IsSpelling g (front ++ more) s → f ≡ g
one_format f g r s front more one other =
    let first : spelling f r ++ more ≡ spelling g s ++ [] = ap (λ l. l ++ more) (sym one.spelled) ∙ other.spelled ∙ sym (append-nil (spelling g s)) in
    same_format f g (sym (first_byte f r more) ∙ ap (λ l. get_or l 0 0) first ∙ first_byte g s [])

pub prefix_law : (f g : Format) (r s : Request) (front more : List ℕ) → IsSpelling f front r → IsSpelling g (front ++ more) s → (f ≡ g) × (r ≡ s) × (more ≡ [])
prefix_law f g r s front more one other =
    let same = two_readings f g r s front (front ++ more) more one other refl in
    (one_format f g r s front more one other, same.0, same.1)

pub one_request : (f g : Format) (r s : Request) (bytes : List ℕ) → IsSpelling f bytes r → IsSpelling g bytes s → r ≡ s
one_request f g r s bytes one other = same_request r s (sym (request_in_complete f bytes r one) ∙ request_in_complete g bytes s other)

pub one_spelling : (f : Format) (r : Request) (bytes more : List ℕ) → IsSpelling f bytes r → IsSpelling f more r → bytes ≡ more
one_spelling f r bytes more one other = one.spelled ∙ sym other.spelled

pub second_spelling : (r : Request) → is_request r ≡ true → IsSpelling format.Second (spelling format.Second r) r
second_spelling r held = record { spelled = refl; held = held; known = refl }

pub reading_law : (bytes : List ℕ) (r : Request) → (request_in bytes ≡ Some r) ↔ IsSomeSpelling bytes r
reading_law bytes r = ((λ e. spelled_of (request_in bytes) bytes r e (request_in_sound bytes)), (λ is. request_in_complete is.format bytes r is.spells))

-- ---- spellings of no format in particular

pub some_request : (bytes : List ℕ) (r s : Request) → IsSomeSpelling bytes r → IsSomeSpelling bytes s → r ≡ s
some_request bytes r s one other = one_request one.format other.format r s bytes one.spells other.spells

pub second_some : (r : Request) → is_request r ≡ true → IsSomeSpelling (spelling format.Second r) r
second_some r held = record { format = format.Second; spells = second_spelling r held }

pub none_some : (bytes : List ℕ) (r : Request) → ((f : Format) (r : Request) → IsSpelling f bytes r → ⊥) → IsSomeSpelling bytes r → ⊥
none_some bytes r none is = none is.format r is.spells

-- ---- what is read is dated

day_dated : (d : ℕ) (b : Bool) → (is_day d && b) ≡ true → is_request_day d ≡ true
day_dated d b held = (parts (nat_le first_calendar_day d) (is_request_day d) (parts (is_day d) b held).0).1

only_day_dated : (d : ℕ) → is_day d ≡ true → is_request_day d ≡ true
only_day_dated d held = (parts (nat_le first_calendar_day d) (is_request_day d) held).1

post_dated : (p : Post) → is_post p ≡ true → is_dated_post p ≡ true
unfolding is_post is_dated_post
post_dated (post.Open day terms) held = day_dated day (are_terms terms) held
post_dated (post.OpenVariable day terms) held = day_dated day (are_terms terms) held
post_dated (post.Charge day place cents) held = day_dated day (is_place place && is_number cents) held
post_dated (post.Credit day place cents) held = day_dated day (is_place place && is_number cents) held
post_dated (post.Payment day minute channel cents) held = day_dated day (is_number minute && is_number cents) held
post_dated (post.Return day target) held = day_dated day (is_number target) held
post_dated (post.Plan day kind rate end after) held = both (day_dated day (is_number rate && (is_day end && is_number after)) held) (day_dated end (is_number after) (parts (is_number rate) (is_day end && is_number after) (parts (is_day day) (is_number rate && (is_day end && is_number after)) held).1).1)
post_dated (post.Notice day category rate effective) held = both (day_dated day (is_number rate && is_day effective) held) (only_day_dated effective (parts (is_number rate) (is_day effective) (parts (is_day day) (is_number rate && is_day effective) held).1).1)
post_dated (post.Lower day category rate) held = day_dated day (is_number rate) held
post_dated post.Penalty held = refl
post_dated (post.Review day finding) held = only_day_dated day held
post_dated (post.Dispute day target cents) held = day_dated day (is_number target && is_number cents) held
post_dated (post.Ack day target) held = day_dated day (is_number target) held
post_dated (post.Resolve day target cents) held = day_dated day (is_number target && is_number cents) held
post_dated (post.AskRefund day) held = only_day_dated day held
post_dated (post.Refund cents) held = refl
post_dated (post.Amend target day cents) held = day_dated day (is_number cents) (parts (is_number target) (is_day day && is_number cents) held).1
post_dated (post.Bill cycle) held = refl

shared_dated : (s : Shared) → is_shared s ≡ true → is_dated_shared s ≡ true
unfolding is_shared is_dated_shared
shared_dated (shared.Roll day) held = only_day_dated day held
shared_dated (shared.Holiday day) held = only_day_dated day held
shared_dated (shared.FeeRow day first repeat) held = day_dated day (is_number first && is_number repeat) held
shared_dated (shared.Index day rate) held = day_dated day (is_number rate) held

request_dated : (r : Request) → is_request r ≡ true → is_dated r ≡ true
unfolding is_request is_dated
request_dated (request.Shared s) held = shared_dated s held
request_dated (request.Post account key p) held = post_dated p (parts (is_name key) (is_post p) (parts (is_name account) (is_name key && is_post p) held).1).1

some_dated : (bytes : List ℕ) → IfSome (request_in bytes) (λ r. is_dated r ≡ true)
some_dated bytes = some_of_all (IsSomeSpelling bytes) (λ r. is_dated r ≡ true) (request_in bytes) (λ r is. request_dated r is.spells.held) (request_in_sound bytes)

-- ---- what the code read

pub read_some : (bytes : List ℕ) (found : Option Request) → found ≡ request_in bytes → IfSome found (IsSomeSpelling bytes)
read_some bytes found is = subst (λ o. IfSome o (IsSomeSpelling bytes)) (sym is) (request_in_sound bytes)

pub read_none : (bytes : List ℕ) (found : Option Request) → found ≡ request_in bytes → IfNone found ((f : Format) (r : Request) → IsSpelling f bytes r → ⊥)
read_none bytes found is = subst (λ o. IfNone o ((f : Format) (r : Request) → IsSpelling f bytes r → ⊥)) (sym is) (request_in_none bytes)

pub read_dated : (bytes : List ℕ) (found : Option Request) → found ≡ request_in bytes → IfSome found (λ r. is_dated r ≡ true)
read_dated bytes found is = subst (λ o. IfSome o (λ r. is_dated r ≡ true)) (sym is) (some_dated bytes)
