use Rattle.std.proofs.Common.{◌≡◌, ℕ, ◌+◌, ◌-◌, ◌≤◌, Bool, eqb, not, List, length, take, drop, sym, arith, inl, inr}
use Rattle.std.specs.List.{position_or_len, prefix_len}
use Rattle.std.proofs.lemmas.Bool.{cases_lt}
use Rattle.std.proofs.lemmas.List.Sums.{position_or_len_is}
use Rattle.std.proofs.lemmas.Simd.{run_in_chunk_le, run_in_chunk_fails, run_in_chunk_stops}
use Rattle.card_lines.proofs.fields.space_at.Goals as goal

abbrev is_space : ℕ → Bool
is_space b = eqb b 32

-- where the first eight bytes have none, the first one is the first of the last eight
by_halves : (xs : List ℕ) (first second : ℕ) → 8 ≤ length xs → length xs ≤ 16
    → first ≡ prefix_len (λ b. not (is_space b)) (take 8 (drop 0 xs)) → 8 ≤ first
    → second ≡ prefix_len (λ b. not (is_space b)) (take 8 (drop (length xs - 8) xs))
    → length xs - 8 + second ≡ position_or_len is_space xs
by_halves xs first second low high one none two =
    let most : second ≤ 8 = run_in_chunk_le is_space xs (length xs - 8) 8 second 0 (omega arith) two in
    sym (position_or_len_is is_space xs (length xs - 8 + second) 0 (omega arith)
    (λ k h. elim (cases_lt k 8) [
      | inl early ↦ run_in_chunk_fails is_space xs 0 8 first 0 (omega arith) one k (omega arith) (omega arith)
      | inr late ↦ run_in_chunk_fails is_space xs (length xs - 8) 8 second 0 (omega arith) two k (omega arith) (omega arith)
    ])
    (λ h. run_in_chunk_stops is_space xs (length xs - 8) 8 second 0 (omega arith) two (omega arith)))

pub returns-then-length-ge8-clause-value : goal.returns-then-length-ge8-clause-value
returns-then-length-ge8-clause-value c =
    by_halves c.args.text.now c.space_of_8-at.result c.space_of_8.result (omega arith) (omega arith) c.space_of_8-at.ensures (omega arith) c.space_of_8.ensures
