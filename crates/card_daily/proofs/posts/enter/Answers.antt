use Rattle.std.proofs.Common.{◌≡◌, ◌-◌, ◌≤◌, List, length, refl, sym, ap, ◌∙◌, arith, subst}
use Rattle.card_daily.proofs.Fronts.{front-small, returnable}
use Rattle.card_daily.proofs.Holding.{front-moves, of-account, place-held}
use Rattle.card_daily.proofs.PostDay.{cycles-before, either-way, next-amid, next-begins, next-idle, next-penalty, none-found, place-cycles, post_at_place, place-day, place-found, place-high, place-kind, place-low, place-named, rows-count, told-here}
use Rattle.card_daily.proofs.Posting.{on-ok}
use Rattle.card_daily.proofs.Standing.{rated, within}
use Rattle.card_bounds.specs.Bounds.{moved}
use Rattle.card_effects.specs.Returned.{AreReturnable, parts_of}
use Rattle.card_daily.specs.Given.{Tallies, seen_in}
use Rattle.card_daily.specs.Penalties.{begun_on}
use Rattle.card_daily.specs.Posts.{done_by, place_in}
use Rattle.card_daily.specs.Stands.{amid, before}
use Rattle.card_model.specs.Cycles.{Cycle}
use Rattle.card_model.specs.Limits.{balance_limit}
use Rattle.card_model.specs.declared.segment.Interval.{Interval}
use Rattle.card_rates.specs.RateBooks.{Rates, with_penalties}
use Rattle.card_daily.proofs.posts.enter.Goals as goal

pub enter_post-requires-clause-closed : goal.enter_post-requires-clause-closed
enter_post-requires-clause-closed c =
    let g = c.args.inputs.now in
    let day = c.args.day in
    let place = c.args.place in
    let x = c.in-Some.post in
    let sound = c.anchor-anchor.ensures.sound in
    let here = place-found g day place c.posts.result.now c.folded_at.result x sound c.posts.ensures.stands c.posts.ensures.history c.requires.from c.requires.within c.folded_at.ensures c.in-Some.is in
    let on = place-day g day place x here in
    let opened = c.requires.dated.opened in
    let last = c.requires.dated.last in
    record {
      dated = record { opened = omega (arith, on, opened); last = omega (arith, on, last) };
      cycles = place-cycles g day place x (done_by g day place) c.args.state.now c.args.track.now here c.requires.amid;
    }

pub enter_post-requires-clause-asked : goal.enter_post-requires-clause-asked
enter_post-requires-clause-asked c =
    let g = c.args.inputs.now in
    let day = c.args.day in
    let place = c.args.place in
    let x = c.in-Some.post in
    let sound = c.anchor-anchor.ensures.sound in
    let here = place-found g day place c.posts.result.now c.folded_at.result x sound c.posts.ensures.stands c.posts.ensures.history c.requires.from c.requires.within c.folded_at.ensures c.in-Some.is in
    record {
      rated = rated g _ (amid g day (done_by g day place)) c.args.state.now c.args.track.now c.requires.amid.stand;
      amount = place-low g day place x here;
      limit = place-high g day place x here;
      small = within (amid g day (done_by g day place)).entries c.args.state.now.segments.balances c.requires.amid.stand.sums (front-small g day (place - place_in g day) sound c.requires.dated.opened c.requires.dated.last);
    }

pub enter_post-requires-clause-rows : goal.enter_post-requires-clause-rows
enter_post-requires-clause-rows c =
    let g = c.args.inputs.now in
    let day = c.args.day in
    let place = c.args.place in
    rows-count g _ (amid g day (done_by g day place)) c.args.state.now c.args.track.now c.requires.amid.stand (sym c.len-count.ensures.segments ∙ c.len-count.ensures.balances) (let five = c.len-count.ensures.five in omega (arith, five, c.len-count.ensures.balances))

pub enter_post-requires-clause-parts : goal.enter_post-requires-clause-parts
enter_post-requires-clause-parts c n =
    let g = c.args.inputs.now in
    let day = c.args.day in
    let balances = c.args.state.now.segments.balances in
    subst (λ es. AreReturnable (length balances) (parts_of n es)) (sym c.requires.amid.stand.entries) (returnable g day (c.args.place - place_in g day) n balances c.anchor-anchor.ensures.sound c.requires.dated.opened c.requires.amid.stand.sums)

pub enter_post-requires-clause-named : goal.enter_post-requires-clause-named
enter_post-requires-clause-named c n gives =
    let g = c.args.inputs.now in
    let day = c.args.day in
    let place = c.args.place in
    let x = c.in-Some.post in
    let sound = c.anchor-anchor.ensures.sound in
    let here = place-found g day place c.posts.result.now c.folded_at.result x sound c.posts.ensures.stands c.posts.ensures.history c.requires.from c.requires.within c.folded_at.ensures c.in-Some.is in
    place-named g day place n x sound c.requires.from c.requires.within here gives

pub enter_post-requires-clause-kind : goal.enter_post-requires-clause-kind
enter_post-requires-clause-kind c =
    let g = c.args.inputs.now in
    let day = c.args.day in
    let place = c.args.place in
    let x = c.in-Some.post in
    let sound = c.anchor-anchor.ensures.sound in
    let here = place-found g day place c.posts.result.now c.folded_at.result x sound c.posts.ensures.stands c.posts.ensures.history c.requires.from c.requires.within c.folded_at.ensures c.in-Some.is in
    place-kind g day place x here c.in_default.not-Penalty

pub enter_post-requires-clause-tally : goal.enter_post-requires-clause-tally
enter_post-requires-clause-tally c =
    let g = c.args.inputs.now in
    let day = c.args.day in
    let place = c.args.place in
    let x = c.in-Some.post in
    let sound = c.anchor-anchor.ensures.sound in
    let here = place-found g day place c.posts.result.now c.folded_at.result x sound c.posts.ensures.stands c.posts.ensures.history c.requires.from c.requires.within c.folded_at.ensures c.in-Some.is in
    subst (λ d. Tallies g d c.args.tally.now) (sym (place-day g day place x here)) c.requires.tally

pub returns-in_default : goal.returns-in_default
returns-in_default c =
    let g = c.args.inputs.now in
    let day = c.args.day in
    let place = c.args.place in
    let x = c.in-Some.post in
    let sound = c.anchor-anchor.ensures.sound in
    let here = place-found g day place c.posts.result.now c.folded_at.result x sound c.posts.ensures.stands c.posts.ensures.history c.requires.from c.requires.within c.folded_at.ensures c.in-Some.is in
    let kind = place-kind g day place x here c.in_default.not-Penalty in
    record {
      amid = on-ok c.enter_post.result _ _ c.enter_post.ensures.stands (λ did. next-amid g day place x c.args.state.now c.enter_post.new.state c.args.track.now c.enter_post.new.track sound c.requires.dated.opened c.requires.dated.last c.requires.from c.requires.within here kind c.requires.amid c.enter_post.ensures.left.rest did);
      begins = either-way c.enter_post.result _ (on-ok c.enter_post.result _ _ c.enter_post.ensures.stands (λ did. next-begins g day place x c.args.state.now c.enter_post.new.state c.args.track.now c.enter_post.new.track sound c.requires.dated.opened c.requires.dated.last c.requires.from c.requires.within here kind c.requires.amid c.enter_post.ensures.left.rest did)) c.enter_post.ensures.left.err;
      room = c.enter_post.ensures.room;
      tally = subst (λ d. Tallies g d c.enter_post.new.tally) (place-day g day place x here) c.enter_post.ensures.tally;
    }

pub begin_penalty-requires : goal.begin_penalty-requires
begin_penalty-requires c =
    let g = c.args.inputs.now in
    let cycles = c.deref.ensures.value ∙ (c.requires.amid.stand.cycles ∙ cycles-before g c.args.day (done_by g c.args.day c.args.place)) in
    record { closed = record { dated = c.requires.dated; cycles = cycles } }

pub returns-in-Penalty-clause-amid : goal.returns-in-Penalty-clause-amid
returns-in-Penalty-clause-amid c =
    let g = c.args.inputs.now in
    let day = c.args.day in
    let place = c.args.place in
    let x = c.in-Some.post in
    let s = c.args.state.now in
    let h = c.requires.amid in
    let done = done_by g day place in
    let here = place-found g day place c.posts.result.now c.folded_at.result x c.anchor-anchor.ensures.sound c.posts.ensures.stands c.posts.ensures.history c.requires.from c.requires.within c.folded_at.ensures c.in-Some.is in
    let cycles = c.deref.ensures.value ∙ (h.stand.cycles ∙ cycles-before g day done) in
    let alike : (ps : List Interval) → ps ≡ (amid g day done).penalties → begun_on (seen_in g day) c.deref.result.now ps ≡ begun_on (seen_in g day) (before g day).cycles (amid g day done).penalties =
    λ ps e. ap (λ (cs : List Cycle). begun_on (seen_in g day) cs ps) cycles ∙ ap (begun_on (seen_in g day) (before g day).cycles) e in
    on-ok c.begin_penalty.result _ _ c.begin_penalty.ensures
    (λ rates. next-penalty g day place x s _ c.args.track.now c.requires.dated.opened c.requires.from c.requires.within here c.in-Penalty.is h
    (record {
      segments = refl;
      rates = rates ∙ ap (λ (is : List Interval). with_penalties is s.rates) (alike s.rates.penalties (ap (λ (r : Rates). r.penalties) h.stand.rates));
      rows = refl;
      accruals = refl;
    }))

pub returns-in-None-clause-amid : goal.returns-in-None-clause-amid
returns-in-None-clause-amid c =
    let g = c.args.inputs.now in
    let day = c.args.day in
    let place = c.args.place in
    next-idle g day place c.args.state.now c.args.track.now c.requires.dated.opened c.requires.from c.requires.within
    (none-found (post_at_place g day place) (sym (told-here g day place c.posts.result.now c.folded_at.result c.posts.ensures.stands c.posts.ensures.history c.requires.from c.requires.within c.folded_at.ensures) ∙ c.in-None.is)) c.requires.amid

pub enter_post-requires-clause-account : goal.enter_post-requires-clause-account
enter_post-requires-clause-account c =
    of-account c.args.inputs.now _ (amid c.args.inputs.now c.args.day (done_by c.args.inputs.now c.args.day c.args.place)) c.args.state.now c.args.track.now c.requires.amid.stand

pub enter_post-requires-clause-moved : goal.enter_post-requires-clause-moved
enter_post-requires-clause-moved c =
    let g = c.args.inputs.now in
    let day = c.args.day in
    subst (λ es. moved es ≤ balance_limit) (sym c.requires.amid.stand.entries) (front-moves g day (c.args.place - place_in g day) c.anchor-anchor.ensures.sound c.requires.dated.opened c.requires.dated.last)

pub enter_post-requires-clause-held : goal.enter_post-requires-clause-held
enter_post-requires-clause-held c n gives =
    let g = c.args.inputs.now in
    let day = c.args.day in
    let place = c.args.place in
    let x = c.in-Some.post in
    let sound = c.anchor-anchor.ensures.sound in
    let here = place-found g day place c.posts.result.now c.folded_at.result x sound c.posts.ensures.stands c.posts.ensures.history c.requires.from c.requires.within c.folded_at.ensures c.in-Some.is in
    place-held g day place n x c.args.state.now.segments.balances c.args.track.now.entries.items sound c.requires.dated.opened c.requires.from c.requires.within here gives c.requires.amid.stand.entries c.requires.amid.stand.sums
    (let five = c.len-count.ensures.five in omega (arith, five, c.len-count.ensures.balances))
