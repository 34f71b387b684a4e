-- Increases in the corrected list are those in the history.
use Rattle.std.proofs.Common.{◌≡◌, ℕ, suc, Bool, true, false, cond, nat_le, ◌==◌, List, [], ◌∷◌, length, refl, sym, ap, ◌∙◌, Option, Some, None, arith}
use Rattle.std.specs.Prelude.{not, ◌||◌}
use Rattle.std.specs.List.{cons_option, filter, filter_map, list_any}
use Rattle.std.proofs.lemmas.Bool.Decides.{nat_tests}
use Rattle.card_events.specs.declared.anchor.Anchor.{Anchor}
use Rattle.card_disputes.specs.Increases.{is_by, is_increase_by}
use Rattle.card_events.specs.History.{corrected, corrected_from, corrected_post, next_segment}
use Rattle.card_events.specs.declared.kept.Kept.{Kept}
use Rattle.card_model.specs.Deadlines.{increase_of, increases}
use Rattle.card_model.specs.Refusals.{is_empty}

-- the days of the increases that have taken effect, post by post
abbrev days_of : ℕ → List Kept → List ℕ
days_of day ks = filter (λ d. nat_le d day) (filter_map (λ k. increase_of k.accepted k.post) ks)

pub days-corrected : (a : Anchor) (holidays : List ℕ) (history : List Kept) (n segment day : ℕ) (ks : List Kept) → increases (corrected_from a holidays history n segment ks) day ≡ days_of day ks
unfolding increases corrected_from corrected_post
days-corrected a holidays history n segment day [] = refl
days-corrected a holidays history n segment day (k ∷ ks) = at (days-corrected a holidays history (suc n) (next_segment segment k.post) day ks) (increase_of k.accepted k.post)
  where
    at : filter (λ d. nat_le d day) (filter_map (λ p. increase_of p.accepted p.post) (corrected_from a holidays history (suc n) (next_segment segment k.post) ks)) ≡ days_of day ks
        → (o : Option ℕ) → filter (λ d. nat_le d day) (cons_option o (filter_map (λ p. increase_of p.accepted p.post) (corrected_from a holidays history (suc n) (next_segment segment k.post) ks))) ≡ filter (λ d. nat_le d day) (cons_option o (filter_map (λ q. increase_of q.accepted q.post) ks))
    at rest None = rest
    at rest (Some d) = ap (λ l. cond (nat_le d day) (d ∷ l) l) rest

some-day : (day : ℕ) (ks : List Kept) → list_any (is_increase_by day) ks ≡ not (is_empty (days_of day ks))
some-day day [] = refl
some-day day (k ∷ ks) = at (some-day day ks) (increase_of k.accepted k.post)
  where
    test : list_any (is_increase_by day) ks ≡ not (is_empty (days_of day ks)) → (b : Bool) (d : ℕ) → (b || list_any (is_increase_by day) ks) ≡ not (is_empty (cond b (d ∷ days_of day ks) (days_of day ks)))
    test rest true d =
        let some : (length (d ∷ days_of day ks) == 0) ≡ false = grind (arith, nat_tests) in
        ap not (sym some)
    test rest false d = rest

    at : list_any (is_increase_by day) ks ≡ not (is_empty (days_of day ks)) → (o : Option ℕ) → (is_by day o || list_any (is_increase_by day) ks) ≡ not (is_empty (filter (λ d. nat_le d day) (cons_option o (filter_map (λ q. increase_of q.accepted q.post) ks))))
    at rest None = rest
    at rest (Some d) = test rest (nat_le d day) d

pub any-increase : (a : Anchor) (holidays : List ℕ) (history : List Kept) (day : ℕ) → list_any (is_increase_by day) history ≡ not (is_empty (increases (corrected a holidays history) day))
any-increase a holidays history day = some-day day history ∙ ap (λ (l : List ℕ). not (is_empty l)) (sym (days-corrected a holidays history 1 5 day history))
