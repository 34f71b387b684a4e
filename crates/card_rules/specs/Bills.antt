-- The statement of a cycle is issued exactly where a Bill of it was accepted (12 CFR 1026.5(b)(2)(i)): for all lists of
-- requests. Cycles are counted from 1 on.
use Rattle.std.specs.Prelude.{ℕ, ◌==◌, ◌≡◌, Bool, List}
use Rattle.std.specs.List.{All, list_any}
use Rattle.card_events.specs.declared.kept.Kept.{Kept}
use Rattle.card_events.specs.declared.request.Request.{Request}
use Rattle.card_model.specs.Cycles.{IssuedRow}
use Rattle.card_model.specs.Machine.{NamedAccount, run}
use Rattle.card_model.specs.Refusals.{bills}

-- the statement of a cycle is among the issued rows
abbrev pub is_issued : ℕ → List IssuedRow → Bool
is_issued cycle rows = list_any (λ r. r.cycle == cycle) rows

-- a Bill of a cycle is among the accepted posts
abbrev pub is_billed : ℕ → List Kept → Bool
is_billed cycle posts = list_any (λ k. bills cycle k.post) posts

-- after every list of requests, in every account: the one exactly where the other
abbrev pub BillsIssue : Type 0
BillsIssue =
    (requests : List Request) → All (λ (x : NamedAccount). (cycle : ℕ) → is_issued cycle x.lists.issued ≡ is_billed cycle x.lists.posts) (run requests).accounts
