use Rattle.std.proofs.Common.{◌≡◌, ◌++◌, ◌+◌, ℕ, take, drop, ap, sym, ◌∙◌, arith, take-append-drop}
use Rattle.std.proofs.lemmas.List.{drop-drop}
use Rattle.card_ports.specs.Forms.{Line}
use Rattle.card_ports.proofs.Pieces.{tail_is}
use Rattle.card_ports.proofs.memory_link.MemoryLinkSource.read.Goals as goal

pub returns-clause-bytes : goal.returns-clause-bytes
returns-clause-bytes c =
    let at = c.self.inside.at in
    let xs = c.self.inside.bytes.items in
    let n = c.copy_front-n.result in
    let given = tail_is at c.deref.result.now ∙ ap (drop at) c.deref.ensures.value in
    let front = c.copy_front-n.ensures.front ∙ ap (take n) given in
    let all = ap (λ (s : Line). s.left) (sym c.self.view_is) in (
      all ∙ sym (take-append-drop n (drop at xs)) ∙ ap (λ l. l ++ drop n (drop at xs)) (sym front)
          ∙ ap (λ l. take n c.copy_front-n.new.buf ++ l) (drop-drop n at xs),
      λ none room.
          let same : at + n ≡ at = omega (arith, none) in
          ap (λ (k : ℕ). drop k xs) same ∙ sym given ∙ c.copy_front-n.ensures.end none room,
    )
