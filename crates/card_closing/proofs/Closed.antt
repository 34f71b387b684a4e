-- What a call of `close` does is what the definition says.
use Rattle.std.proofs.Common.{◌≡◌, ℕ, ◌+◌, ◌≤◌, Bool, List, [], ◌∷◌, ◌++◌, drop, length, sym, ap, ◌∙◌, subst, arith, Option}
use Rattle.std.proofs.lemmas.List.{length-map}
use Rattle.card_closing.specs.Accruals.{Accrued}
use Rattle.card_closing.specs.BookRows.{rows_of}
use Rattle.card_closing.specs.Rows.{Rows}
use Rattle.card_model.specs.Books.{Account, Book}
use Rattle.card_model.specs.Closing.{close, first_day_of, purchase_case_in}
use Rattle.card_model.specs.Cycles.{Amounts, Cycle, IssuedRow, Seen, amount_at}
use Rattle.card_model.specs.Entries.{AreBalances}
use Rattle.card_model.specs.Segments.{SegmentTerms}
use Rattle.card_model.specs.declared.entry.Entry.{Entry}
use Rattle.card_model.specs.declared.fee.Fee.{Fee}
use Rattle.card_model.specs.declared.grace.GraceCase.{GraceCase}
use Rattle.card_model.specs.declared.segment.Segment.{Segment}
use Rattle.card_segments.specs.Balances.{Balances}
use Rattle.card_closing.specs.Closes.{IsGivenFor}
use Rattle.card_closing.specs.Interest.{accrual_charge, accruals_turn, amounts_of, cycle_charge, interest_turn, note_on, statement_of}
use Rattle.card_closing.specs.Record.{recorded}
use Rattle.card_closing.specs.Turns.{Turn, asked_of, asked_where_owed}
use Rattle.card_closing.specs.declared.closing.Closing.{Closing}
use Rattle.card_closing.proofs.ByNumber.{charged-little}
use Rattle.card_closing.proofs.Recorded.{ended, recorded-is, tied}

-- both loops
abbrev pub both : Option Cycle → ℕ → GraceCase → List Segment → List Rows → List Accrued → List Entry → Turn
both issued day purchase gs rows accruals entries = accruals_turn issued day gs accruals (interest_turn issued day purchase gs rows (record { amounts = []; entries = entries }))

pub both-turns : (issued : Option Cycle) (day : ℕ) (purchase : GraceCase) (rows : List Rows) (accruals : List Accrued) (before between : List Segment) (none : Amounts) (entries : List Entry) (t u : Turn) → none ≡ []
    → t ≡ interest_turn issued day purchase (drop 2 before) rows (record { amounts = none; entries = entries }) → between ≡ before → u ≡ accruals_turn issued day (drop 2 between) accruals t
    → u ≡ both issued day purchase (drop 2 before) rows accruals entries
both-turns issued day purchase rows accruals before between none entries t u z h s k =
    k ∙ (ap (λ gs. accruals_turn issued day (drop 2 gs) accruals t) s
    ∙ (ap (accruals_turn issued day (drop 2 before) accruals) h
    ∙ ap (λ (us : Amounts). accruals_turn issued day (drop 2 before) accruals (interest_turn issued day purchase (drop 2 before) rows (record { amounts = us; entries = entries }))) z))

pub few-charged : (issued : Option Cycle) (day : ℕ) (purchase : GraceCase) (rows : List Rows) (accruals : List Accrued) (gs : List Segment) (entries : List Entry) (u : Turn) → length gs ≤ 64
    → u ≡ both issued day purchase gs rows accruals entries → (s : ℕ) → amount_at s u.amounts ≤ 10_000_000_000_000_000
unfolding interest_turn accruals_turn
few-charged issued day purchase rows accruals gs entries u few e s =
    let t = interest_turn issued day purchase gs rows (record { amounts = []; entries = entries }) in
    let first = charged-little issued (note_on day) (asked_of (amounts_of (cycle_charge purchase day) gs rows)) s (length gs) (record { amounts = []; entries = entries }) in
    let second = charged-little issued (note_on day) (asked_where_owed (amounts_of (accrual_charge day) gs accruals)) s (length gs) t in
    subst (λ (v : Turn). amount_at s v.amounts ≤ 10_000_000_000_000_000) (sym e) (omega (arith, few, first, second))

pub closes : (c : Closing) (issued : Option Cycle) (before after : Balances) (rows : List Rows) (accruals : List Accrued) (fees : List Fee) (entries : List Entry) (u : Turn) (cycle : Cycle) (count : ℕ)
    (row : Option IssuedRow) (all : List SegmentTerms) (sees : SegmentTerms → Bool) (a : Account) (seen : Seen) (b : Book)
    → u ≡ both issued c.closing c.purchase (drop 2 before.segments) rows accruals entries → after.segments ≡ before.segments → length rows + 2 ≡ length after.balances → AreBalances u.entries after.balances
    → count ≡ length u.entries → cycle ≡ recorded c issued u.amounts rows fees after count → IsGivenFor c issued before rows accruals fees entries row all sees a seen b
    → (u.entries ≡ (close row a seen b).entries) × (b.cycles ++ cycle ∷ [] ≡ (close row a seen b).cycles)
unfolding close
closes c issued before after rows accruals fees entries u cycle count row all sees a seen b h s long sums n k g =
    let gs = drop 2 before.segments in
    let v = ended row all sees a seen b gs rows accruals g.stand in
    let same : u ≡ v =
    h ∙ (ap (λ i. both i c.closing c.purchase gs rows accruals entries) g.statement
    ∙ (ap (λ d. both (statement_of row) d c.purchase gs rows accruals entries) g.of_book.today
    ∙ (ap (λ p. both (statement_of row) seen.day p gs rows accruals entries) g.of_book.grace
    ∙ ap (λ es. both (statement_of row) seen.day (purchase_case_in seen b) gs rows accruals es) g.same_entries))) in
    let many : length rows ≡ length all = ap length g.stand.same_rows ∙ length-map all (rows_of a seen b (first_day_of a b)) in
    let mine : AreBalances v.entries after.balances = subst (λ (t : Turn). AreBalances t.entries after.balances) same sums in (
      ap (λ (t : Turn). t.entries) same ∙ (tied row all sees a seen b gs rows accruals g.stand).entries,
      ap (λ x. b.cycles ++ x ∷ [])
          (k ∙ (ap (recorded c issued u.amounts rows fees after) n ∙ (ap (λ i. recorded c i u.amounts rows fees after (length u.entries)) g.statement
          ∙ (ap (λ (t : Turn). recorded c (statement_of row) t.amounts rows fees after (length t.entries)) same
          ∙ recorded-is row all sees a seen b gs rows accruals g.stand after (ap (drop 2) s) (omega (arith, many, long)) mine c fees g.of_book g.same_fees)))),
    )
