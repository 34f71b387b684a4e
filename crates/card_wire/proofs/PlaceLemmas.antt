-- Bytes of which it is known where in a head they end.
use Rattle.std.proofs.Common.{◌≡◌, inl, inr, ℕ, Some, suc, ◌+◌, ◌<◌, Bool, true, List, [], ◌∷◌, ◌++◌, length, get_or, take, drop, codes, ◌-◌, take-append-drop, refl, ap, sym, ◌∙◌, subst, arith, append-nil, append_assoc}
use Rattle.std.specs.Prelude.{IsTrue, IsUtf8}
use Rattle.std.specs.Cmp.Lexicographic.{bytes_decides}
use Rattle.std.specs.Str.{bytes_eq}
use Rattle.std.specs.List.{flat_map}
use Rattle.httparse.specs.Grammar.{LineEnd, crlf, lf, print_end, print_blank, print_field, print_request, print_version, Field, IsField, IsToken, AllPass, is_token_byte, is_uri_byte, is_value_byte, RequestHead, IsRequestHead, HasNoRequest}
use Rattle.httparse.proofs.GrammarLemmas.{request_unique, print_request-append}
use Rattle.std.proofs.lemmas.List.Elements.{All-cons, All-nil, All-push}
use lib.Utf8.{encode}
use Rattle.httparse.specs.declared.spans.HeaderSpan.{HeaderSpan}
use Rattle.httparse.specs.declared.spans.RequestSpans.{RequestSpans}
use Rattle.card_wire.proofs.HeadLemmas.{head_at, pending_more}
use Rattle.card_wire.specs.Heads.{IsPendingBefore, Parses, Pending}
use Rattle.card_wire.specs.declared.heading.HeadEnd.TheVariants as head_end
use Rattle.std.proofs.lemmas.Bool.Decides.{nat_tests}
use Rattle.std.proofs.lemmas.List.{get_or-append-add, get_or_at, length-append, take_at}
use Rattle.card_wire.specs.Places.{EndsLine, Front, IsAt, Targets, front_bytes, is_followed}
use Rattle.card_wire.specs.declared.place.Place.{Place}
use Rattle.card_wire.specs.declared.place.Place.TheVariants as place

-- a head with more bytes than these is pending
pending_by : (got : List ℕ) (b : ℕ) (more : List ℕ) (h : RequestHead) → IsRequestHead h → got ++ b ∷ more ≡ print_request h ++ [] → Pending got
pending_by got b more h is whole = record {
  none = λ k rest reads.
      let same = request_unique (got ++ b ∷ more) k h (rest ++ b ∷ more) [] (reads.0, ap (λ l. l ++ b ∷ more) reads.1 ∙ append_assoc (print_request k) rest (b ∷ more)) (is, whole) in
      behind rest same.1;
  more = inl (b ∷ more, h, (is, whole));
}
  where
    behind : (rest : List ℕ) → rest ++ b ∷ more ≡ [] → ⊥
    behind [] e = absurd (cc e)
    behind (x ∷ rest) e = absurd (cc e)

-- ---- the start line

letter : AllPass is_token_byte (97 ∷ [])
unfolding is_token_byte
letter = All-cons (λ b. IsTrue (is_token_byte b)) 97 [] refl (All-nil (λ b. IsTrue (is_token_byte b)))

root : AllPass is_uri_byte (47 ∷ [])
root = All-cons (λ b. IsTrue (is_uri_byte b)) 47 [] refl (All-nil (λ b. IsTrue (is_uri_byte b)))

root_text : IsUtf8 (47 ∷ [])
unfolding encode
root_text = (47 ∷ [], (refl, refl))

abbrev started : List LineEnd → List ℕ → List ℕ → RequestHead
started es m t = record { blank = es; method = m; target = t; minor = 1; line_end = lf; fields = []; last = lf }

is_started : (es : List LineEnd) (m : List ℕ) → IsToken m → IsRequestHead (started es m (47 ∷ []))
is_started es m token = record { method = token; target = (omega arith, root); target_text = root_text; minor = omega arith; fields = All-nil _ }

-- behind empty lines
blank_pending : (es : List LineEnd) → Pending (print_blank es)
blank_pending es = pending_by (print_blank es) 97 (codes " / HTTP/1.1" ++ 10 ∷ 10 ∷ []) (started es (97 ∷ []) (47 ∷ [])) (is_started es (97 ∷ []) (omega arith, letter)) (sym (print_request-append (started es (97 ∷ []) (47 ∷ [])) []))

blank_more : (es : List LineEnd) (e : LineEnd) → print_blank (es ++ e ∷ []) ≡ print_blank es ++ print_end e
blank_more [] e = append-nil (print_end e)
blank_more (x ∷ es) e = ap (λ l. print_end x ++ l) (blank_more es e) ∙ sym (append_assoc (print_end x) (print_blank es) (print_end e))

-- in the method
method_pending : (es : List LineEnd) (m : List ℕ) → IsToken m → Pending (print_blank es ++ m)
method_pending es m token =
    pending_by (print_blank es ++ m) 32 (codes "/ HTTP/1.1" ++ 10 ∷ 10 ∷ []) (started es m (47 ∷ [])) (is_started es m token)
    (append_assoc (print_blank es) m (32 ∷ (codes "/ HTTP/1.1" ++ 10 ∷ 10 ∷ [])) ∙ sym (print_request-append (started es m (47 ∷ [])) []))

-- ---- header lines

cons_append : (x : ℕ) (a b : List ℕ) → (x ∷ a) ++ b ≡ x ∷ (a ++ b)
cons_append x a b = refl

front_end : (h : RequestHead) (rest : List ℕ) → print_request h ++ rest ≡ front_bytes h ++ (print_end h.last ++ rest)
front_end h rest = print_request-append h rest ∙ regroup (print_blank h.blank) h.method h.target (print_version h.minor) (print_end h.line_end) (flat_map print_field h.fields) (print_end h.last) rest
  where
    regroup : (a b c d e f g r : List ℕ) → a ++ (b ++ 32 ∷ (c ++ 32 ∷ (d ++ (e ++ ((f ++ g) ++ r))))) ≡ (a ++ (b ++ 32 ∷ (c ++ 32 ∷ (d ++ (e ++ f))))) ++ (g ++ r)
    regroup a b c d e f g r = simp append_assoc

-- with another line behind it
abbrev with_field : RequestHead → Field → RequestHead
with_field h f = record h { fields = h.fields ++ f ∷ [] }

fields_more : (fs : List Field) (f : Field) → flat_map print_field (fs ++ f ∷ []) ≡ flat_map print_field fs ++ print_field f
fields_more [] f = append-nil (print_field f)
fields_more (x ∷ fs) f = ap (λ l. print_field x ++ l) (fields_more fs f) ∙ sym (append_assoc (print_field x) (flat_map print_field fs) (print_field f))

front_with : (h : RequestHead) (f : Field) → front_bytes (with_field h f) ≡ front_bytes h ++ print_field f
front_with h f = rw (fields_more h.fields f) (regroup (print_blank h.blank) h.method h.target (print_version h.minor) (print_end h.line_end) (flat_map print_field h.fields) (print_field f))
  where
    regroup : (a b c d e f g : List ℕ) → a ++ (b ++ 32 ∷ (c ++ 32 ∷ (d ++ (e ++ (f ++ g))))) ≡ (a ++ (b ++ 32 ∷ (c ++ 32 ∷ (d ++ (e ++ f))))) ++ g
    regroup a b c d e f g = simp append_assoc

is_with : (h : RequestHead) (f : Field) → IsRequestHead h → IsField f → IsRequestHead (with_field h f)
is_with h f is field = record { method = is.method; target = is.target; target_text = is.target_text; minor = is.minor; fields = All-push IsField h.fields f is.fields field }

front_more : (got : List ℕ) → Front got → (f : Field) → IsField f → Front (got ++ print_field f)
front_more got x f field = record { head = with_field x.head f; form = is_with x.head f x.form field; whole = ap (λ l. l ++ print_field f) x.whole ∙ sym (front_with x.head f) }

-- with LF for its last line
abbrev ended : RequestHead → RequestHead
ended h = record h { last = lf }

is_ended : (h : RequestHead) → IsRequestHead h → IsRequestHead (ended h)
is_ended h is = record { method = is.method; target = is.target; target_text = is.target_text; minor = is.minor; fields = is.fields }

-- bytes that a front begins with are pending
front_pending : (got : List ℕ) (b : ℕ) (more front : List ℕ) → Front front → got ++ b ∷ more ≡ front ++ 10 ∷ [] → Pending got
front_pending got b more front x whole = pending_by got b more (ended x.head) (is_ended x.head x.form) (whole ∙ ap (λ l. l ++ 10 ∷ []) x.whole ∙ sym (front_end (ended x.head) []))

-- at the start of a header line
line_pending : (got : List ℕ) → Front got → Pending got
line_pending got x = front_pending got 10 [] got x refl

-- in a name, and in a value
name_pending : (front name : List ℕ) → Front front → IsToken name → Pending (front ++ name)
name_pending front name x token =
    let f : Field = record { name = name; raw = []; end = lf } in
    front_pending (front ++ name) 58 (10 ∷ 10 ∷ []) (front ++ print_field f) (front_more front x f (record { name = token; raw = All-nil (λ b. IsTrue (is_value_byte b)) })) (simp (append_assoc, cons_append))

value_pending : (front name raw : List ℕ) → Front front → IsToken name → AllPass is_value_byte raw → Pending (front ++ (name ++ 58 ∷ raw))
value_pending front name raw x token value =
    let f : Field = record { name = name; raw = raw; end = lf } in
    front_pending (front ++ (name ++ 58 ∷ raw)) 10 (10 ∷ []) (front ++ print_field f) (front_more front x f (record { name = token; raw = value })) (simp (append_assoc, cons_append))

-- ---- a byte more

pub behind_lf : (got : List ℕ) (byte : ℕ) → byte ≡ 10 → IsAt place.Blank got → IsAt place.Blank (got ++ byte ∷ [])
behind_lf got byte is at = (at.0 ++ lf ∷ [], ap (λ (b : ℕ). got ++ b ∷ []) is ∙ ap (λ (l : List ℕ). l ++ 10 ∷ []) at.1 ∙ sym (blank_more at.0 lf))

pub behind_crlf : (got : List ℕ) (byte : ℕ) → byte ≡ 10 → IsAt place.BlankEnd got → IsAt place.Blank (got ++ byte ∷ [])
behind_crlf got byte is at =
    (at.0 ++ crlf ∷ [], ap (λ (b : ℕ). got ++ b ∷ []) is ∙ ap (λ (l : List ℕ). l ++ 10 ∷ []) at.1 ∙ append_assoc (print_blank at.0) (13 ∷ []) (10 ∷ []) ∙ sym (blank_more at.0 crlf))

-- ---- where it is followed, the bytes are pending

return_pending : (es : List LineEnd) → Pending (print_blank es ++ 13 ∷ [])
return_pending es =
    pending_by (print_blank es ++ 13 ∷ []) 10 (codes "a / HTTP/1.1" ++ 10 ∷ 10 ∷ []) (started (es ++ crlf ∷ []) (97 ∷ []) (47 ∷ [])) (is_started (es ++ crlf ∷ []) (97 ∷ []) (omega arith, letter))
    (append_assoc (print_blank es) (13 ∷ []) (10 ∷ (codes "a / HTTP/1.1" ++ 10 ∷ 10 ∷ [])) ∙ sym (append_assoc (print_blank es) (13 ∷ 10 ∷ []) (codes "a / HTTP/1.1" ++ 10 ∷ 10 ∷ []))
    ∙ ap (λ (l : List ℕ). l ++ (codes "a / HTTP/1.1" ++ 10 ∷ 10 ∷ [])) (sym (blank_more es crlf)) ∙ sym (print_request-append (started (es ++ crlf ∷ []) (97 ∷ []) (47 ∷ [])) []))

-- the last byte of a target, or the space before it
target_last : (xs t : List ℕ) → AllPass is_uri_byte t → 31 < get_or (xs ++ 32 ∷ t) (length xs + length t) 0
target_last xs [] visible = rw (get_or-append-add xs (32 ∷ []) 0 0) (omega arith)
target_last xs (b ∷ bs) visible =
    let here : is_uri_byte (get_or (b ∷ bs) (length bs) 0) ≡ true = visible (length bs) 0 (omega arith) in
    let high : 31 < get_or (b ∷ bs) (length bs) 0 = grind (arith, nat_tests, here) in
    rw (get_or-append-add xs (32 ∷ b ∷ bs) (suc (length bs)) 0) high

-- a head ends with LF
head_last : (h : RequestHead) → (front : List ℕ) × (print_request h ++ [] ≡ front ++ 10 ∷ [])
head_last h = by h.last (front_end h [])
  where
    by : (e : LineEnd) → print_request h ++ [] ≡ front_bytes h ++ (print_end e ++ []) → (front : List ℕ) × (print_request h ++ [] ≡ front ++ 10 ∷ [])
    by lf whole = (front_bytes h, whole)
    by crlf whole = (front_bytes h ++ 13 ∷ [], whole ∙ sym (append_assoc (front_bytes h) (13 ∷ []) (10 ∷ [])))

-- no head ends inside a target
target_none : (xs t : List ℕ) → AllPass is_uri_byte t → IsPendingBefore (xs ++ 32 ∷ t) → HasNoRequest (xs ++ 32 ∷ t)
target_none xs t visible before k [] reads =
    let end = head_last k in
    let same : xs ++ 32 ∷ t ≡ end.0 ++ 10 ∷ [] = reads.1 ∙ end.1 in
    let long : length end.0 ≡ length xs + length t = omega (arith, ap length same, length-append xs (32 ∷ t), length-append end.0 (10 ∷ [])) in
    let ten : get_or (end.0 ++ 10 ∷ []) (length xs + length t) 0 ≡ 10 = get_or_at end.0 10 [] 0 (length xs + length t) long in
    let high : 31 < get_or (end.0 ++ 10 ∷ []) (length xs + length t) 0 = subst (λ (l : List ℕ). 31 < get_or l (length xs + length t) 0) same (target_last xs t visible) in
    absurd (omega (arith, ten, high))
target_none xs t visible before k (x ∷ rest) reads =
    let n = length (print_request k) in
    let less : n < length (xs ++ 32 ∷ t) = omega (arith, ap length reads.1, length-append (print_request k) (x ∷ rest)) in
    let front : take n (xs ++ 32 ∷ t) ≡ print_request k ++ [] = ap (take n) reads.1 ∙ take_at (print_request k) (x ∷ rest) n refl ∙ sym (append-nil (print_request k)) in
    absurd ((before n less).none k [] (reads.0, front))

target_pending : (got : List ℕ) → IsPendingBefore got → Targets got → Pending got
target_pending got before x =
    let regroup : got ≡ (print_blank x.blank ++ x.method) ++ 32 ∷ x.target = x.whole ∙ sym (append_assoc (print_blank x.blank) x.method (32 ∷ x.target)) in record {
      none = subst HasNoRequest (sym regroup) (target_none (print_blank x.blank ++ x.method) x.target x.visible (subst IsPendingBefore regroup before));
      more = inr (x.blank, x.method, x.target, x.token, x.visible, regroup);
    }

pub pending_at : (p : Place) (got : List ℕ) → is_followed p ≡ true → IsPendingBefore got → IsAt p got → Pending got
pending_at place.Blank got known before at = subst Pending (sym at.1) (blank_pending at.0)
pending_at place.BlankEnd got known before at = subst Pending (sym at.1) (return_pending at.0)
pending_at place.Method got known before at = subst Pending (sym at.whole) (method_pending at.blank at.method at.token)
pending_at place.Target got known before at = target_pending got before at
pending_at place.Line got known before at = line_pending got at
pending_at place.Name got known before at = subst Pending (sym at.whole) (name_pending at.front at.name at.is at.token)
pending_at place.Value got known before at = subst Pending (sym at.whole) (value_pending at.front at.name at.raw at.is at.token at.value)
pending_at place.Elsewhere got known before at = absurd (cc known)

-- ---- a line that ended

-- bytes behind which an empty line makes a head are a start line and header lines
pub front_of : (got : List ℕ) (h : RequestHead) → IsRequestHead h → (front : List ℕ) → got ≡ front ++ 10 ∷ [] → got ++ 10 ∷ [] ≡ print_request h → Front got
front_of got h is front last whole = by h.last (whole ∙ sym (append-nil (print_request h)) ∙ front_end h [])
  where
    cancel : (xs ys : List ℕ) → xs ++ 10 ∷ [] ≡ ys ++ 10 ∷ [] → xs ≡ ys
    cancel xs ys e =
        let n : length ys ≡ length xs = omega (arith, ap length e, length-append xs (10 ∷ []), length-append ys (10 ∷ [])) in
        sym (take_at xs (10 ∷ []) (length xs) refl) ∙ ap (take (length xs)) e ∙ take_at ys (10 ∷ []) (length xs) n

    by : (e : LineEnd) → got ++ 10 ∷ [] ≡ front_bytes h ++ (print_end e ++ []) → Front got
    by lf e = record { head = h; form = is; whole = cancel got (front_bytes h) e }
    by crlf e =
        let ends : got ≡ front_bytes h ++ 13 ∷ [] = cancel got (front_bytes h ++ 13 ∷ []) (e ∙ sym (append_assoc (front_bytes h) (13 ∷ []) (10 ∷ []))) in
        let same : front ++ 10 ∷ [] ≡ front_bytes h ++ 13 ∷ [] = sym last ∙ ends in
        let n : length (front_bytes h) ≡ length front = omega (arith, ap length same, length-append front (10 ∷ []), length-append (front_bytes h) (13 ∷ [])) in
        let ten = get_or_at front 10 [] 0 (length front) refl in
        let other = get_or_at (front_bytes h) 13 [] 0 (length front) n in
        absurd (omega (arith, ten, other, ap (λ (l : List ℕ). get_or l (length front) 0) same))

-- so they are at the start of a header line
pub line_starts : (got : List ℕ) (spans : List HeaderSpan) (r : RequestSpans) → EndsLine got spans → Parses (got ++ 10 ∷ []) spans (Some (head_end.Whole r)) → Front got
line_starts got spans r ends parsed =
    let head = head_at (got ++ 10 ∷ []) spans r parsed.0.0 (pending_more got 10 ends.before ends.pending) ends.room parsed.1 parsed.0.1 in
    front_of got parsed.0.0 head.at.reads.0 ends.line.0 ends.line.1 head.whole

-- bytes whose last one is LF, as the test for it says
pub ends_line : (got xs need : List ℕ) (b : Bool) → b ≡ true → b ≡ bytes_eq need (drop (length xs - length need) xs) → xs ≡ got → need ≡ 10 ∷ [] → (front : List ℕ) × (got ≡ front ++ 10 ∷ [])
ends_line got xs need b holds value at is =
    let n = length xs - length need in
    let same : need ≡ drop n xs = (bytes_decides need (drop n xs)).0 (sym value ∙ holds) in
    (take n xs, sym at ∙ sym (take-append-drop n xs) ∙ ap (λ (l : List ℕ). take n xs ++ l) (sym same ∙ is))

-- a byte behind them, taken away again
pub taken_away : (got old new : List ℕ) → new ≡ take (length old - 1) old → old ≡ got ++ 10 ∷ [] → new ≡ got
taken_away got old new rest pushed =
    let long : length old - 1 ≡ length got = omega (arith, ap length pushed, length-append got (10 ∷ [])) in
    rest ∙ ap (λ (k : ℕ). take k old) long ∙ ap (take (length got)) pushed ∙ take_at got (10 ∷ []) (length got) refl
