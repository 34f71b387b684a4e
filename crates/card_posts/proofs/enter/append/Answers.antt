use Rattle.std.proofs.Common.{◌≡◌, ◌+◌, [], ◌∷◌, ◌++◌, length, arith, sym, ap, subst, ◌∙◌, refl, None, List}
use Rattle.card_events.specs.declared.kept.Kept.{Kept}
use Rattle.card_posts.specs.Corrections.{correction_of, corrections_from}
use Rattle.card_posts.specs.Stored.{IsKept}
use Rattle.card_posts.proofs.Following.{kept-more}
use Rattle.card_posts.proofs.Noted.{by_parts, corrections-append, corrections-length, new-kept}
use Rattle.card_events.proofs.OneMore.{more}
use Rattle.card_posts.proofs.enter.append.Goals as goal

pub returns-clause-kept : goal.returns-clause-kept
returns-clause-kept c =
    let items : c.push_reserved.new.self.items ≡ more c.args.history.now.items c.args.kept = c.push_reserved.ensures.items in
    subst (λ (h : List Kept). IsKept c.args.anchor.now h) (sym items) (kept-more c.args.anchor.now c.args.history.now.items c.args.kept c.requires.kept c.requires.few c.requires.number c.requires.earlier c.requires.timely)

pub returns-clause-corrections : goal.returns-clause-corrections
returns-clause-corrections c =
    let h : List Kept = c.args.history.now.items in
    let items : c.push_reserved.new.self.items ≡ more h c.args.kept = c.push_reserved.ensures.items in
    let noted : c.note.new.corrections.each ≡ corrections_from (more h c.args.kept) 1 h = c.note.ensures.each c.args.kept refl ∙ ap (λ u. corrections_from (more u c.args.kept) 1 u) c.deref.ensures.value in
    let last : correction_of (more h c.args.kept) (1 + length h) ≡ by_parts None 0 = new-kept h c.args.kept c.requires.kept.names c.requires.earlier in
    let all : c.note.new.corrections.each ++ by_parts None 0 ∷ [] ≡ corrections_from (more h c.args.kept) 1 (more h c.args.kept) =
    rw (noted, ← last) (sym (corrections-append (more h c.args.kept) 1 h c.args.kept)) in
    c.push.ensures.each ∙ (all ∙ ap (λ u. corrections_from u 1 u) (sym items))

pub push-requires : goal.push-requires
push-requires c =
    let h : List Kept = c.args.history.now.items in
    let noted : c.note.new.corrections.each ≡ corrections_from (more h c.args.kept) 1 h = c.note.ensures.each c.args.kept refl ∙ ap (λ u. corrections_from (more u c.args.kept) 1 u) c.deref.ensures.value in
    let long = ap length noted ∙ corrections-length (more h c.args.kept) 1 h in
    omega (arith, long, c.requires.few)

pub returns-clause-spare : goal.returns-clause-spare
returns-clause-spare c = λ e. c.push.ensures.spare (c.note.ensures.spare e)
