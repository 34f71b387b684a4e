use Rattle.std.proofs.Common.{◌≡◌, ℕ, List, inl, refl, ap, sym, ◌∙◌, subst}
use Rattle.std.specs.Prelude.{IsUtf8}
use Rattle.httparse.specs.Spans.{IsRequestWithin, span_bytes}
use Rattle.card_ports.specs.Visits.{wire}
use Rattle.card_wire.specs.Heads.{EndsHead, HeadParts, parts_at}
use Rattle.card_http.specs.Exchanges.{Makes, ServesHead, moment}
use Rattle.card_http.specs.Heard.{EndsInside}
use Rattle.card_http.specs.Outcomes.{ledger, long_text}
use Rattle.card_http.proofs.ExchangeLemmas.{bad_head, head_of, long_head, sent_text, served_whole, unheard}
use Rattle.card_http.proofs.LedgerLemmas.{acted_none}
use Rattle.card_http.proofs.serving.serve_one.Goals as goal

-- the bytes that were read stopped inside the head
pub returns-in-Err : goal.returns-in-Err
returns-in-Err g c =
    let l = ledger g.K.Keeper.rows g.K.Keeper.faults c.args.desk.now.state c.args.keeper.now in
    let at = wire g.C.Source.left g.C.Sink.taken g.C.Source.faults in
    unheard Makes EndsInside l (at c.args.link.now) (at c.read_head.new.link) c.read_head.new.got.items _ (acted_none l c.requires.fits) (inl (c.read_head.ensures.before, c.in-Err.ensures.pending)) c.in-Err.ensures.err

-- the head is whole
pub returns-in-Whole : goal.returns-in-Whole
returns-in-Whole g c =
    let at = moment g.C.Source.left g.C.Sink.taken g.C.Source.faults g.K.Keeper.rows g.K.Keeper.faults in
    let got = c.read_head.new.got.items in
    let fields = c.read_head.new.fields in
    let ended = subst (EndsHead got fields) c.in-Whole.is c.in-Ok.ensures.ok in
    let head = head_of got fields c.in-Whole.spans ended.0 c.read_head.ensures.before ended.1 in
    let mid = at c.read_head.new.link c.args.desk.now.state c.args.keeper.now in
    let new = at c.serve_head.new.link c.serve_head.new.desk.state c.serve_head.new.keeper in
    let parts : c.of-head.result ≡ parts_at got fields c.in-Whole.spans = c.of-head.ensures ∙ ap (λ (bytes : List ℕ). parts_at bytes fields c.in-Whole.spans) c.as_slice.ensures.value in
    let by = subst (λ (p : HeadParts). ServesHead p mid new c.serve_head.result) parts c.serve_head.ensures in
    served_whole (wire g.C.Source.left g.C.Sink.taken g.C.Source.faults c.args.link.now) mid new got (parts_at got fields c.in-Whole.spans) c.serve_head.result c.in-Ok.ensures.read head by

pub returns-in-Bad : goal.returns-in-Bad
returns-in-Bad g c =
    let l = ledger g.K.Keeper.rows g.K.Keeper.faults c.args.desk.now.state c.args.keeper.now in
    let ended = subst (EndsHead c.read_head.new.got.items c.read_head.new.fields) c.in-Bad.is c.in-Ok.ensures.ok in
    let at = wire g.C.Source.left g.C.Sink.taken g.C.Source.faults in
    bad_head l (at c.args.link.now) (at c.read_head.new.link) (at c.send_answer.new.link) c.read_head.new.got.items c.send_answer.result c.in-Ok.ensures.read c.read_head.ensures.before ended c.requires.fits
    (sent_text (at c.read_head.new.link) (at c.send_answer.new.link) _ _ _ _ _ c.send_answer.result refl c.early_text-text.ensures c.send_answer.ensures)

pub returns-in-Long : goal.returns-in-Long
unfolding long_text
returns-in-Long g c =
    let l = ledger g.K.Keeper.rows g.K.Keeper.faults c.args.desk.now.state c.args.keeper.now in
    let ended = subst (EndsHead c.read_head.new.got.items c.read_head.new.fields) c.in-Long.is c.in-Ok.ensures.ok in
    let at = wire g.C.Source.left g.C.Sink.taken g.C.Source.faults in
    long_head l (at c.args.link.now) (at c.read_head.new.link) (at c.send_answer-in-Long.new.link) c.read_head.new.got.items _ c.in-Ok.ensures.read c.read_head.ensures.before ended.0 ended.1 c.requires.fits c.send_answer-in-Long.ensures

-- the target is text
pub of-head-requires : goal.of-head-requires
of-head-requires g c =
    let got = c.read_head.new.got.items in
    let ended = subst (EndsHead got c.read_head.new.fields) c.in-Whole.is c.in-Ok.ensures.ok in
    let bytes = c.as_slice.ensures.value in record {
      within = subst (λ (b : List ℕ). IsRequestWithin b c.read_head.new.fields c.in-Whole.spans) (sym bytes) ended.1.within;
      text = subst (λ (b : List ℕ). IsUtf8 (span_bytes b c.in-Whole.spans.path)) (sym bytes) (subst IsUtf8 (sym ended.1.at.path) ended.1.at.reads.0.target_text);
    }
