use Rattle.std.proofs.Common.{◌≡◌, ◌-◌, drop, length, arith, ap, ◌∙◌, refl, sym, subst}
use Rattle.card_posts.specs.Posted.{Posted, SetNoRates}
use Rattle.card_posts.proofs.Noted.{corrections-length}
use Rattle.card_posts.proofs.Withdrawn.{AreBack, lists-back, posted-back, roomy_if_any, spare-if-none}
use Rattle.card_posts.proofs.Unrated.{none-front}
use Rattle.card_posts.proofs.posts.Posts.withdraw.Goals as goal

pub put_back-requires-clause-room : goal.put_back-requires-clause-room
put_back-requires-clause-room c = roomy_if_any c.requires.draft.kept c.requires.draft.old c.args.self.now c.args.draft.before c.requires.draft.draft.stood

pub put_back-requires-clause-spare : goal.put_back-requires-clause-spare
put_back-requires-clause-spare c =
    spare-if-none c.requires.draft.kept c.requires.draft.old c.args.self.now c.args.draft c.self.inside.history.items c.self.inside.corrections c.requires.draft.draft (ap (λ (p : Posted). p.history) c.self.view_is) c.self.invariant.6

pub put_back-requires-clause-corrections : goal.put_back-requires-clause-corrections
put_back-requires-clause-corrections c =
    let long : length c.self.inside.corrections.each ≡ length c.self.inside.history.items = ap length c.self.invariant.3.corrections ∙ corrections-length c.self.inside.history.items 1 c.self.inside.history.items in
    omega (arith, long, c.self.invariant.0.some)

pub returns : goal.returns
returns c kept before draft =
    posted-back kept before c.args.self.now c.args.draft c.self.inside.history.items c.take_last.new.history.items c.self.inside.effects.items c.put_back.new.effects.items c.self.inside.has_room _
    draft c.self.view_is c.self.invariant.3.effects refl c.take_last.ensures.history c.put_back.ensures.effects

pub invariant_of-self : goal.invariant_of-self
invariant_of-self c =
    let back : AreBack c.self.inside.anchor c.take_last.new.history.items c.put_back.new.corrections.each c.put_back.new.effects.items c.put_back.new.order.items =
    lists-back c.self.inside.anchor c.requires.draft.kept c.requires.draft.old c.args.self.now c.args.draft c.self.inside.history.items c.take_last.new.history.items
    c.self.inside.corrections.each c.put_back.new.corrections.each c.self.inside.effects.items c.put_back.new.effects.items c.self.inside.order.items c.put_back.new.order.items _
    c.requires.draft.draft (ap (λ (p : Posted). p.history) c.self.view_is) c.self.invariant.0 c.self.invariant.3 refl c.take_last.ensures.history
    c.put_back.ensures.corrections c.put_back.ensures.effects c.put_back.ensures.order in (
      back.kept,
      c.take_last.ensures.index,
      c.take_last.ensures.waits,
      back.beside,
      λ e. record {
        history_room = c.take_last.ensures.history_room;
        index_room = c.take_last.ensures.index_room;
        wait_room = c.take_last.ensures.wait_room;
        correction_room = c.put_back.ensures.correction_room;
        effect_room = c.put_back.ensures.effect_room;
        slot_room = c.put_back.ensures.slot_room;
      },
      subst (λ ks. SetNoRates (drop c.self.inside.rated ks)) (sym c.take_last.ensures.history) (none-front c.self.inside.rated (length c.self.inside.history.items - 1) c.self.inside.history.items c.self.invariant.5),
      λ e. c.put_back.ensures.correction_room,
    )
