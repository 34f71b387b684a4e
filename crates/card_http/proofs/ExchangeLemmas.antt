-- What is read and written for a connection.
use Rattle.std.proofs.Common.{◌≡◌, ◌⊎◌, inl, inr, ℕ, ◌<◌, Bool, List, [], ◌++◌, length, refl, ap, sym, ◌∙◌, subst, arith, Option, None}
use Rattle.std.specs.Prelude.{Result, Ok, Err}
use Rattle.std.specs.Io.KnownBytes.{Appends, Consumes, IsAtEnd}
use Rattle.std.proofs.KnownBytes.{Appends-nil, Consumes-trans}
use Rattle.card_desk.specs.Kept.{Fits}
use Rattle.card_events.specs.declared.request.Request.{Request}
use Rattle.card_ports.specs.Counts.{Rose}
use Rattle.card_ports.specs.Visits.{Wire}
use Rattle.card_ports.specs.Written.{TookFront}
use Rattle.httparse.specs.Grammar.{RequestHead}
use Rattle.httparse.specs.Spans.{RequestOverflows}
use Rattle.httparse.specs.declared.spans.HeaderSpan.{HeaderSpan}
use Rattle.httparse.specs.declared.spans.RequestSpans.{RequestSpans}
use Rattle.card_wire.proofs.HeadLemmas.{parts_are}
use Rattle.card_wire.proofs.LinkLemmas.{read_none}
use Rattle.card_wire.specs.Heads.{Before, HeadParts, IsHeadAt, Pending, field_limit, head_limit, parts_at}
use Rattle.card_wire.specs.Links.{Read, Stopped}
use Rattle.card_wire.specs.Wants.{length_wanted, wanted}
use Rattle.card_wire.specs.declared.stop.Stop.{Stop}
use Rattle.card_wire.specs.declared.stop.Stop.TheVariants as stop
use Rattle.card_wire.specs.declared.wanted.Early.{Early}
use Rattle.card_wire.specs.declared.wanted.Early.TheVariants as early
use Rattle.card_wire.specs.declared.wanted.Wanted.{Wanted}
use Rattle.card_http.proofs.LedgerLemmas.{acted_none, count_same}
use Rattle.card_http.specs.Answers.{answer_text, early_status, early_text}
use Rattle.card_http.specs.Exchanges.{Answering, EndsAs, EndsBehind, KeeperCounts, Makes, MakesBehind, Moment, Sends, ServesBy, ToldFront, Unheard}
use Rattle.card_http.specs.Heard.{BadHead, EndsInside, IsHeadOf, LongHead, Whole, is_json, is_json_head}
use Rattle.card_http.specs.Outcomes.{Acted, Answer, Comes, IsFaultJudged, IsFaultOf, IsJudged, IsRouted, KeeperCount, KeeperTold, Ledger, bad_request, idle, long_text, outcome_body, outcome_status}
use Rattle.card_http.specs.declared.outcome.Outcome.{Outcome}
use Rattle.card_http.specs.declared.served.Served.{Served}
use Rattle.card_http.specs.declared.served.Served.TheVariants as served
use Rattle.card_http.specs.declared.status.Status.{Status}
use Rattle.card_http.specs.declared.status.Status.TheVariants as status
use Rattle.card_model.specs.Machine.{State}

-- ---- writing

-- nothing was written, since memory was wanted for the text
pub sent_none : (w : Wire) (text : List ℕ) (s : Status) → Sends w w text s served.Memory
sent_none w text s = record { left = refl; taken = record { bytes = []; taken = Appends-nil w.taken; front = (text, refl) }; cause = refl }

-- the same text, for the same status
pub sent_same : (w v : Wire) (text other : List ℕ) (s t : Status) (e : Served) → text ≡ other → s ≡ t → Sends w v text s e → Sends w v other t e
sent_same w v text other s t e texts statuses sent = subst (λ (x : Status). Sends w v other x e) statuses (subst (λ (x : List ℕ). Sends w v x s e) texts sent)

-- the same status, and the same body
pub sent_text : (w v : Wire) (s t : Status) (json : Bool) (body other : List ℕ) (e : Served) → s ≡ t → body ≡ other → Sends w v (answer_text s json body) s e → Sends w v (answer_text t json other) t e
sent_text w v s t json body other e statuses bodies sent =
    sent_same w v (answer_text s json body) (answer_text t json other) s t e (ap (λ (x : Status). answer_text x json body) statuses ∙ ap (λ (b : List ℕ). answer_text t json b) bodies) statuses sent

-- ---- how an exchange ends

-- the bytes were read before the answer was written
read_before : (w u v : Wire) (got : List ℕ) → Read w u got → v.left ≡ u.left → Consumes w.left v.left got
read_before w u v got read same = subst (λ (l : Option (List ℕ)). Consumes w.left l got) (sym same) read.left

-- a front of the answer was written
front_ends : (M : List ℕ → Answer → List ℕ → Type 0) (w u v : Wire) (got : List ℕ) (a : Answer) (text : List ℕ) (e : Served) → Read w u got → M got a text → v.left ≡ u.left → TookFront u.taken v.taken text
    → ToldFront M (record { opened = w; closed = v; acted = a.acted; finish = e })
front_ends M w u v got a text e read makes left took = record {
  made = record { got = got; answer = a; text = text; read = read_before w u v got read left; makes = makes; carried = refl };
  took = subst (λ (t : Option (List ℕ)). TookFront t v.taken text) read.taken took;
}

-- an answer was written, or a front of it
sent_ends : (M : List ℕ → Answer → List ℕ → Type 0) (P : List ℕ → Type 0) (w u v : Wire) (got : List ℕ) (a : Answer) (text : List ℕ) (s : Status) (e : Served)
    → Read w u got → M got a text → s ≡ a.status → Sends u v text s e → EndsAs M P (record { opened = w; closed = v; acted = a.acted; finish = e }) e
sent_ends M P w u v got a text s (served.Answered n) read makes same sent = record {
  made = record { got = got; answer = a; text = text; read = read_before w u v got read sent.0.left; makes = makes; carried = refl };
  status_is = sent.1 ∙ same;
  taken = subst (λ (t : Option (List ℕ)). Appends t v.taken text) read.taken sent.0.taken;
  faults = sent.0.faults ∙ read.faults;
}
sent_ends M P w u v got a text s served.Cut read makes same sent =
    inr (front_ends M w u v got a text served.Cut read makes sent.left sent.taken, subst (λ (n : ℕ). Rose n v.faults) read.faults sent.cause)
sent_ends M P w u v got a text s served.Memory read makes same sent = (front_ends M w u v got a text served.Memory read makes sent.left sent.taken, sent.cause ∙ read.faults)

-- no further byte came
stopped_ends : (M : List ℕ → Answer → List ℕ → Type 0) (P : List ℕ → Type 0) (w v : Wire) (got : List ℕ) (why : Stop) → P got → Stopped w v got why
    → EndsAs M P (record { opened = w; closed = v; acted = None; finish = served.Cut }) served.Cut
stopped_ends M P w v got stop.Ended inside stopped = inl (record { got = got; read = stopped.0.left; inside = inside; taken = stopped.0.taken; idle = refl; stops = inl (stopped.1, stopped.0.faults) })
stopped_ends M P w v got stop.Failed inside stopped = inl (record { got = got; read = stopped.left; inside = inside; taken = stopped.taken; idle = refl; stops = inr stopped.rose })

-- the keeper's count, by how the exchange ends
counts_ends : (old new : ℕ) (w v : Wire) (text : List ℕ) (s : Status) (e : Served) → KeeperCount old new s → Sends w v text s e → KeeperCounts old new e
counts_ends old new w v text s (served.Answered n) counts sent = record { count = counts.count; told = subst (KeeperTold old new) (sym sent.1) counts.told }
counts_ends old new w v text s served.Cut counts sent = record { count = counts.count; told = tt }
counts_ends old new w v text s served.Memory counts sent = record { count = counts.count; told = tt }

-- ---- a connection

-- bytes were read, the ledger did what the answer says, and the answer was written
pub answered : (M : State → List ℕ → Answer → List ℕ → Type 0) (P : List ℕ → Type 0) (old new : Moment) (u : Wire) (got : List ℕ) (a : Answer) (text : List ℕ) (s : Status) (e : Served)
    → Read old.link u got → M old.desk.state got a text → s ≡ a.status → Sends u new.link text s e → Acted old.desk new.desk a.acted → KeeperCount old.desk.faults new.desk.faults s → ServesBy M P old new e
answered M P old new u got a text s e read makes same sent did counts = record {
  acted = a.acted;
  ends = sent_ends (M old.desk.state) P old.link u new.link got a text s e read makes same sent;
  did = did;
  counts = counts_ends old.desk.faults new.desk.faults u new.link text s e counts sent;
}

-- the input ended inside a request, or the connection failed
pub unheard : (M : State → List ℕ → Answer → List ℕ → Type 0) (P : List ℕ → Type 0) (l : Ledger) (w v : Wire) (got : List ℕ) (why : Stop) → Acted l l None → P got → Stopped w v got why
    → ServesBy M P (record { link = w; desk = l }) (record { link = v; desk = l }) served.Cut
unheard M P l w v got why did inside stopped =
    record { acted = None; ends = stopped_ends (M l.state) P w v got why inside stopped; did = did; counts = record { count = omega arith; told = tt } }

-- ---- behind a head

-- an answer that is made of what is behind bytes
abbrev answering_after : (M N : List ℕ → Answer → List ℕ → Type 0) (w u v : Wire) (first : List ℕ) (r : Option Request) (e : Served) → Read w u first
    → ((got : List ℕ) (a : Answer) (text : List ℕ) → M got a text → N (first ++ got) a text)
    → Answering M (record { opened = u; closed = v; acted = r; finish = e }) → Answering N (record { opened = w; closed = v; acted = r; finish = e })
answering_after M N w u v first r e read makes made = record {
  got = first ++ made.got;
  answer = made.answer;
  text = made.text;
  read = Consumes-trans w.left u.left v.left first made.got read.left made.read;
  makes = makes made.got made.answer made.text made.makes;
  carried = made.carried;
}

front_after : (M N : List ℕ → Answer → List ℕ → Type 0) (w u v : Wire) (first : List ℕ) (r : Option Request) (e : Served) → Read w u first
    → ((got : List ℕ) (a : Answer) (text : List ℕ) → M got a text → N (first ++ got) a text)
    → ToldFront M (record { opened = u; closed = v; acted = r; finish = e }) → ToldFront N (record { opened = w; closed = v; acted = r; finish = e })
front_after M N w u v first r e read makes told = record {
  made = answering_after M N w u v first r e read makes told.made;
  took = subst (λ (t : Option (List ℕ)). TookFront t v.taken told.made.text) read.taken told.took;
}

unheard_after : (P Q : List ℕ → Type 0) (w u v : Wire) (first : List ℕ) (r : Option Request) (e : Served) → Read w u first → ((got : List ℕ) → P got → Q (first ++ got))
    → Unheard P (record { opened = u; closed = v; acted = r; finish = e }) → Unheard Q (record { opened = w; closed = v; acted = r; finish = e })
unheard_after P Q w u v first r e read inside un = record {
  got = first ++ un.got;
  read = Consumes-trans w.left u.left v.left first un.got read.left un.read;
  inside = inside un.got un.inside;
  taken = un.taken ∙ read.taken;
  idle = un.idle;
  stops = subst (λ (n : ℕ). (IsAtEnd v.left × (v.faults ≡ n)) ⊎ Rose n v.faults) read.faults un.stops;
}

ends_after : (M N : List ℕ → Answer → List ℕ → Type 0) (P Q : List ℕ → Type 0) (w u v : Wire) (first : List ℕ) (r : Option Request) (e : Served) → Read w u first
    → ((got : List ℕ) (a : Answer) (text : List ℕ) → M got a text → N (first ++ got) a text) → ((got : List ℕ) → P got → Q (first ++ got))
    → EndsAs M P (record { opened = u; closed = v; acted = r; finish = e }) e → EndsAs N Q (record { opened = w; closed = v; acted = r; finish = e }) e
ends_after M N P Q w u v first r (served.Answered s) read makes inside told = record {
  made = answering_after M N w u v first r (served.Answered s) read makes told.made;
  status_is = told.status_is;
  taken = subst (λ (t : Option (List ℕ)). Appends t v.taken told.made.text) read.taken told.taken;
  faults = told.faults ∙ read.faults;
}
ends_after M N P Q w u v first r served.Cut read makes inside (inl un) = inl (unheard_after P Q w u v first r served.Cut read inside un)
ends_after M N P Q w u v first r served.Cut read makes inside (inr told) =
    inr (front_after M N w u v first r served.Cut read makes told.0, subst (λ (n : ℕ). Rose n v.faults) read.faults told.1)
ends_after M N P Q w u v first r served.Memory read makes inside told = (front_after M N w u v first r served.Memory read makes told.0, told.1 ∙ read.faults)

-- what is made of a body is made of the head and the body
makes_whole : (s : State) (first : List ℕ) (parts : HeadParts) → IsHeadOf first parts → (body : List ℕ) (a : Answer) (text : List ℕ) → MakesBehind parts s body a text → Makes s (first ++ body) a text
makes_whole s first parts head body a text made =
    record { heard = Whole parts body; hears = record { first = first; joined = refl; head = head; whole = made.whole }; answers = made.answers; text_is = made.text_is }

-- a part of a body ends inside a request
inside_whole : (first : List ℕ) (parts : HeadParts) → IsHeadOf first parts → (body : List ℕ) → EndsBehind parts body → EndsInside (first ++ body)
inside_whole first parts head body part = inr (record { first = first; body = body; parts = parts; joined = refl; head = head; part = part })

-- a connection was served behind its head, and so it was from its first byte on
pub served_whole : (w : Wire) (mid new : Moment) (first : List ℕ) (parts : HeadParts) (e : Served) → Read w mid.link first → IsHeadOf first parts → ServesBy (MakesBehind parts) (EndsBehind parts) mid new e
    → ServesBy Makes EndsInside (record { link = w; desk = mid.desk }) new e
served_whole w mid new first parts e read head by = record {
  acted = by.acted;
  ends = ends_after (MakesBehind parts mid.desk.state) (Makes mid.desk.state) (EndsBehind parts) EndsInside w mid.link new.link first by.acted e read (makes_whole mid.desk.state first parts head) (inside_whole first parts head) by.ends;
  did = by.did;
  counts = by.counts;
}

-- ---- heads

-- a head that was read, by its parts
pub head_of : (got : List ℕ) (fields : List HeaderSpan) (spans : RequestSpans) (h : RequestHead) → Before got → IsHeadAt got fields spans h → IsHeadOf got (parts_at got fields spans)
head_of got fields spans h before is = record { head = h; form = is.at.reads.0; bytes = is.whole; short = before.few; few = is.few; named = parts_are got fields spans h is }

-- a bad head, and one that is too long
pub makes_bad : (s : State) (got : List ℕ) → Before got → RequestOverflows field_limit got → Makes s got bad_request (answer_text bad_request.status (is_json BadHead) bad_request.body)
makes_bad s got before overflows = record { heard = BadHead; hears = (before, overflows); answers = inl refl; text_is = refl }

pub makes_long : (s : State) (got : List ℕ) → Before got → Pending got → length got ≡ head_limit → Makes s got (idle status.LongHead long_text) (answer_text status.LongHead (is_json LongHead) long_text)
makes_long s got before pending long = record { heard = LongHead; hears = (before, pending, long); answers = inl refl; text_is = refl }

-- ---- by what was read of a connection

-- bytes that begin no head
pub bad_head : (l : Ledger) (w u v : Wire) (got : List ℕ) (e : Served) → Read w u got → Before got → RequestOverflows field_limit got → Fits l.rows l.state
    → Sends u v (answer_text bad_request.status (is_json BadHead) bad_request.body) status.BadRequest e → ServesBy Makes EndsInside (record { link = w; desk = l }) (record { link = v; desk = l }) e
bad_head l w u v got e read before overflows fits sent =
    answered Makes EndsInside (record { link = w; desk = l }) (record { link = v; desk = l }) u got bad_request _ status.BadRequest e read (makes_bad l.state got before overflows) refl sent (acted_none l fits) (count_same l.faults status.BadRequest refl)

-- a head that doesn't end in time
pub long_head : (l : Ledger) (w u v : Wire) (got : List ℕ) (e : Served) → Read w u got → Before got → Pending got → length got ≡ head_limit → Fits l.rows l.state
    → Sends u v (answer_text status.LongHead (is_json LongHead) long_text) status.LongHead e → ServesBy Makes EndsInside (record { link = w; desk = l }) (record { link = v; desk = l }) e
long_head l w u v got e read before pending long fits sent =
    answered Makes EndsInside (record { link = w; desk = l }) (record { link = v; desk = l }) u got (idle status.LongHead long_text) _ status.LongHead e read (makes_long l.state got before pending long) refl sent (acted_none l fits) (count_same l.faults status.LongHead refl)

-- no early answer says that the keeper failed
early_told : (n : ℕ) (x : Early) → KeeperTold n n (early_status x)
early_told n early.BadRequest = refl
early_told n early.NotFound = refl
early_told n early.BadMethod = refl
early_told n early.TooLarge = refl

-- a head that is answered without its body
pub answered_early : (parts : HeadParts) (l : Ledger) (w v : Wire) (x : Early) (json : Bool) (e : Served) → wanted parts ≡ Err x → json ≡ is_json_head parts → Fits l.rows l.state
    → Sends w v (answer_text (early_status x) json (early_text x)) (early_status x) e → ServesBy (MakesBehind parts) (EndsBehind parts) (record { link = w; desk = l }) (record { link = v; desk = l }) e
answered_early parts l w v x json e judged same fits sent =
    let a : Answer = idle (early_status x) (early_text x) in
    let made : MakesBehind parts l.state [] a (answer_text (early_status x) json (early_text x)) = record {
      whole = subst (λ (r : Result Wanted Early). 0 ≡ length_wanted r) (sym judged) refl;
      answers = inl (subst (λ (r : Result Wanted Early). IsJudged l.state parts [] r a) (sym judged) refl);
      text_is = ap (λ (j : Bool). answer_text (early_status x) j (early_text x)) same;
    } in
    answered (MakesBehind parts) (EndsBehind parts) (record { link = w; desk = l }) (record { link = v; desk = l }) w [] a _ (early_status x) e (read_none w) made refl sent (acted_none l fits) (count_same l.faults (early_status x) (early_told l.faults x))

-- a request that was read whole came to an outcome, which was answered
pub answered_whole : (parts : HeadParts) (old new : Moment) (u : Wire) (body : List ℕ) (x : Wanted) (json : Bool) (o : Outcome) (e : Served) → wanted parts ≡ Ok x → json ≡ is_json_head parts → Read old.link u body → length body ≡ x.length
    → Comes (λ a. IsRouted old.desk.state x.route body a ⊎ IsFaultOf x.route a) old.desk new.desk o
    → Sends u new.link (answer_text (outcome_status o) json (outcome_body o)) (outcome_status o) e → ServesBy (MakesBehind parts) (EndsBehind parts) old new e
answered_whole parts old new u body x json o e judged same read long comes sent =
    let a = comes.answer in
    let text = answer_text (outcome_status o) json (outcome_body o) in
    let told : text ≡ answer_text a.status (is_json_head parts) a.body = ap (λ (s : Status). answer_text s json (outcome_body o)) comes.status_is ∙ ap (λ (b : List ℕ). answer_text a.status json b) comes.body_is ∙ ap (λ (j : Bool). answer_text a.status j a.body) same in
    let made : MakesBehind parts old.desk.state body a text = record {
      whole = subst (λ (r : Result Wanted Early). length body ≡ length_wanted r) (sym judged) long;
      answers = subst (λ (r : Result Wanted Early). IsJudged old.desk.state parts body r a ⊎ IsFaultJudged r a) (sym judged) comes.stands;
      text_is = told;
    } in
    let counts : KeeperCount old.desk.faults new.desk.faults (outcome_status o) = subst (KeeperCount old.desk.faults new.desk.faults) (sym comes.status_is) comes.counts in
    answered (MakesBehind parts) (EndsBehind parts) old new u body a text (outcome_status o) e read made comes.status_is sent comes.did counts

-- the body ended before it was whole
pub body_ended : (parts : HeadParts) (l : Ledger) (w v : Wire) (body : List ℕ) (x : Wanted) (why : Stop) → wanted parts ≡ Ok x → length body < x.length → Fits l.rows l.state → Stopped w v body why
    → ServesBy (MakesBehind parts) (EndsBehind parts) (record { link = w; desk = l }) (record { link = v; desk = l }) served.Cut
body_ended parts l w v body x why judged short fits stopped =
    unheard (MakesBehind parts) (EndsBehind parts) l w v body why (acted_none l fits) (subst (λ (r : Result Wanted Early). length body < length_wanted r) (sym judged) short) stopped
