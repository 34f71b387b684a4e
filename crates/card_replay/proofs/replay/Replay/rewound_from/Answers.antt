use Rattle.std.proofs.Common.{◌≡◌, ℕ, ◌<◌, sym, ap, subst, ◌∙◌, Some}
use Rattle.card_events.specs.History.{anchor_of}
use Rattle.card_replay.proofs.Drafting.{later-rewound}
use Rattle.card_past.proofs.Through.{some-book}
use Rattle.card_replay.specs.Replays.{Replay, day_of, day_reached}
use Rattle.card_replay.proofs.replay.Replay.rewound_from.Goals as goal

pub rewound_to-requires-clause-reached : goal.rewound_to-requires-clause-reached
rewound_to-requires-clause-reached c =
    let opened = (anchor_of c.self.inside.posts.history).opened in
    let is = c.folded_since.ensures.some c.in-Some.reached c.in-Some.is in
    sym (ap (λ (x : Replay). x.folding.reached) c.self.view_is) ∙ ap (day_reached opened) is.0

pub rewound_to-requires-clause-there : goal.rewound_to-requires-clause-there
rewound_to-requires-clause-there c = λ none.
    some-book c.self.inside.book c.in-Some.reached (c.folded_since.ensures.some c.in-Some.reached c.in-Some.is).0 (ap (λ (x : Replay). x.folding.book) c.self.view_is ∙ none)

pub rewound_to-requires-clause-within : goal.rewound_to-requires-clause-within
rewound_to-requires-clause-within c = (c.folded_since.ensures.some c.in-Some.reached c.in-Some.is).1

-- ---- what changes only days that aren't folded
pub returns-in-None-clause-rewound : goal.returns-in-None-clause-rewound
returns-in-None-clause-rewound c =
    let late = subst (λ (x : Replay). (day : ℕ) → day_of x.folding.book ≡ Some day → day < c.args.from) c.self.view_is (c.folded_since.ensures.none c.in-None.is) in
    later-rewound c.args.shared.now c.args.today c.args.key.now c.args.post.now c.args.self.now c.args.from c.requires.may c.requires.first late
