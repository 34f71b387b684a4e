use Rattle.std.proofs.Common.{◌+◌, ◌++◌, length, refl, sym, ap, ◌∙◌, subst}
use Rattle.card_events.specs.History.{anchor_of, opening_in, terms_in, terms_of}
use Rattle.std.specs.List.{filter_map}
use Rattle.card_events.specs.declared.kept.Kept.{Kept}
use Rattle.card_model.specs.Rates.{lowering_of}
use Rattle.card_events.specs.declared.post.Terms.{Terms}
use Rattle.card_model.specs.Segments.{opening_vintages}
use Rattle.card_rates.specs.Added.{added_from}
use Rattle.card_rates.specs.RateBooks.{AreByNumber}
use Rattle.card_rates.proofs.Added.{all-by-number, first-opening, first-terms, first-variable, lowered-is, same-rates, segments-are}
use Rattle.card_rates.proofs.Settling.{kept-first}
use Rattle.card_rates.proofs.book.RateBook.raised_by.Goals as goal

pub invariant_of-result : goal.invariant_of-result
invariant_of-result c =
    let k = c.post_of.result.now in
    let history = c.args.posts.now.history in
    let whole = c.in_ok-add_all.ensures.segments ∙ ap (λ gs. gs ++ added_from 1 (length gs + 2) history) c.in_ok-segments.ensures in
    let numbers = subst (AreByNumber 2) (sym whole) (all-by-number (opening_in k.post) (terms_in k.post) history) in
    kept-first c.settled_from-settled.result c.has_deferred-may_accrue.result c.add_all.new.segments.items c.deref.result.now c.deref-4.result.now c.add_all.new.caps.items c.deref-2.result.now c.args.penalties.items c.deref-3.result.now
    numbers c.settled_from-settled.ensures c.deref.ensures.value c.deref-2.ensures.value c.deref-3.ensures.value c.has_deferred-may_accrue.ensures c.deref-4.ensures.value

pub returns : goal.returns
returns c holidays =
    let k = c.post_of.result.now in
    let history = c.args.posts.now.history in
    let terms = first-terms history k c.post_of.ensures in
    let opened = first-opening history k c.post_of.ensures in
    let whole = c.in_ok-add_all.ensures.segments ∙ ap (λ gs. gs ++ added_from 1 (length gs + 2) history) c.in_ok-segments.ensures in
    let dated =
    ap (λ d. opening_vintages d (terms_in k.post) ++ added_from 1 5 history) opened
    ∙ ap (λ (t : Terms). opening_vintages (anchor_of history).opened t ++ added_from 1 5 history) terms in
    same-rates (c.opens_variable.ensures ∙ first-variable history k c.post_of.ensures) (c.penalty_rate_in.ensures ∙ ap (λ (t : Terms). t.penalty) terms)
    (whole ∙ (dated ∙ sym (segments-are (anchor_of history) (terms_of history) holidays history)))
    (c.in_ok-add_all.ensures.caps ∙ (ap (λ ls. ls ++ filter_map (λ (x : Kept). lowering_of x.post) history) c.new-caps.ensures.items ∙ sym (lowered-is (anchor_of history) holidays history 1 5 history)))
    refl
