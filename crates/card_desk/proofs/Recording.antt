-- What is recorded after calls.
use Rattle.std.proofs.Common.{◌≡◌, ℕ, List, [], ◌∷◌, ◌++◌, get_or, set, inl, inr, ap, sym, ◌∙◌}
use Rattle.std.proofs.lemmas.List.{map-append, map-set, set-get_or, set-set}
use Rattle.card_account.specs.Accounts.{OpenAccount}
use Rattle.card_events.specs.declared.request.Shared.{Shared}
use Rattle.card_model.specs.declared.entry.Entry.{Entry}
use Rattle.card_desk.specs.Desks.{OpenDesk, open_desk, recorded_all}
use Rattle.card_desk.specs.Recorded.{ChangesAt, MayGrow}

-- what is recorded of one
abbrev own : OpenAccount → List Entry
own a = a.folding.past.track.entries.items

pub changed_at : (today : ℕ) (rows : List Shared) (accounts : List OpenAccount) (i : ℕ) (a : OpenAccount) (d : OpenDesk) → open_desk today rows accounts ≡ d
    → ChangesAt i d.recorded (recorded_all (set accounts i a))
changed_at today rows accounts i a d view =
    record { entries = own a; changed = map-set own accounts i a ∙ ap (λ (x : OpenDesk). set x.recorded i (own a)) view }

pub changed_twice : (i : ℕ) (old mid new : List (List Entry)) → ChangesAt i old mid → ChangesAt i mid new → ChangesAt i old new
changed_twice i old mid new h g =
    record { entries = g.entries; changed = g.changed ∙ (ap (λ (x : List (List Entry)). set x i g.entries) h.changed ∙ set-set old i h.entries g.entries) }

pub grown_by : (today : ℕ) (rows : List Shared) (accounts : List OpenAccount) (a : OpenAccount) (d : OpenDesk) → open_desk today rows accounts ≡ d
    → MayGrow d.recorded (recorded_all (accounts ++ a ∷ []))
grown_by today rows accounts a d view =
    inr (own a, map-append own accounts (a ∷ []) ∙ ap (λ (x : OpenDesk). x.recorded ++ own a ∷ []) view)

pub grown_none : (today : ℕ) (rows : List Shared) (accounts : List OpenAccount) (d : OpenDesk) → open_desk today rows accounts ≡ d → MayGrow d.recorded (recorded_all accounts)
grown_none today rows accounts d view = inl (ap (λ (x : OpenDesk). x.recorded) view)

pub unchanged : (i : ℕ) (old : List (List Entry)) → ChangesAt i old old
unchanged i old = record { entries = get_or old i []; changed = sym (set-get_or old i []) }
