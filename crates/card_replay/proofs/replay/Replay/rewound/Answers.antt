use Rattle.std.proofs.Common.{refl, sym, ◌∙◌}
use Rattle.card_replay.proofs.Committing.{unread-rewound}
use Rattle.card_replay.proofs.replay.Replay.rewound.Goals as goal

-- ---- what no fold reads
pub returns-then-is_unread-clause-rewound : goal.returns-then-is_unread-clause-rewound
returns-then-is_unread-clause-rewound c =
    unread-rewound c.args.shared.now c.args.today c.args.key.now c.args.post.now c.args.self.now (sym c.is_unread.ensures ∙ c.if-is_unread.true) c.requires.replay c.requires.reach c.requires.sound

pub returns-then-is_unread-clause-folding : goal.returns-then-is_unread-clause-folding
returns-then-is_unread-clause-folding c = refl

pub returns-then-is_unread-clause-late : goal.returns-then-is_unread-clause-late
returns-then-is_unread-clause-late c = refl

pub returns-then-is_unread-clause-same : goal.returns-then-is_unread-clause-same
returns-then-is_unread-clause-same c = record { lists = refl; corrected = refl; room = λ e. e }

pub rewound_from-requires-clause-may : goal.rewound_from-requires-clause-may
rewound_from-requires-clause-may c = record {
  replay = c.requires.replay;
  reach = c.requires.reach;
  ready = c.requires.ready;
  room = c.requires.room;
  fresh = c.requires.fresh;
  no_reason = c.requires.no_reason;
  sound = c.requires.sound;
  read = sym c.is_unread.ensures ∙ c.if-is_unread.false;
}
