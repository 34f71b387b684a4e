-- What a load put off, after calls.
use Rattle.std.proofs.Common.{◌≡◌, ℕ, zero, suc, ◌<◌, ◌⊎◌, inl, inr, Option, Some, None, Result, Ok, Err, List, [], ◌∷◌, ◌++◌, append-nil, length, get_or, set, refl, ap, sym, ◌∙◌, subst, arith}
use Rattle.std.proofs.lemmas.List.{get_or-map, get_or-set_same, length-map, length-set, map-append, map-set, set-get_or, set-set}
use Rattle.std.proofs.lemmas.List.Elements.{All-cons, All-head, All-nil, All-tail}
use Rattle.std.proofs.lemmas.Result.{on_ok_weaker}
use Rattle.std.specs.List.{All}
use Rattle.std.specs.Prelude.{IsErr, OnOk}
use Rattle.card_account.specs.Accounts.{AreTold, HasTold, IsAccount, IsTold, OpenAccount, replay_of}
use Rattle.card_account.proofs.Told.{on-any}
use Rattle.card_desk.specs.Desks.{OpenDesk, open_desk, unmade_all}
use Rattle.card_desk.specs.Places.{place_from}
use Rattle.card_desk.specs.PutOff.{AllOrNone, HasNoneAt, MakesAt, MakesForAll, MakesNamed, MakesOn, MakesThere, MakesToTell, unmade_there}
use Rattle.card_events.specs.SharedRows.{SharedRows}
use Rattle.card_events.specs.declared.request.Shared.{Shared}
use Rattle.card_replay.proofs.Settled.{settled-today}
use Rattle.card_replay.specs.Changes.{late_with}
use Rattle.card_replay.specs.Owes.{Late, owed_as}
use Rattle.card_replay.specs.Replays.{MakesAllOrNone}
use Rattle.card_replay.specs.declared.change.Change.{Change}

-- ---- one account
abbrev own : OpenAccount → ℕ
own a = length a.late.owed

is-empty : {T : Type 0} (xs : List T) → length xs ≡ 0 → xs ≡ []
is-empty [] e = refl
is-empty (x ∷ xs) e = absurd (omega (arith, e))

own-left : (b a : OpenAccount) → MakesAllOrNone b.late a.late → (own a ≡ own b) ⊎ (own a ≡ 0)
own-left b a (inl e) = inl (ap (λ (l : Late). length l.owed) e)
own-left b a (inr n) = inr (ap (λ os. length os) n)

after-is : (rows : List Shared) (today : ℕ) (accounts : List OpenAccount) (i : ℕ) (a : OpenAccount) → i < length accounts → unmade_there (open_desk today rows (set accounts i a)) i ≡ own a
after-is rows today accounts i a low =
    let here : i < length (set accounts i a) = omega (arith, low, length-set accounts i a) in
    get_or-map own (set accounts i a) i a 0 here ∙ ap own (get_or-set_same accounts i a a low)

before-is : (rows : List Shared) (today : ℕ) (accounts : List OpenAccount) (i : ℕ) (b : OpenAccount) (d : OpenDesk) → open_desk today rows accounts ≡ d → i < length accounts → b ≡ get_or accounts i b → unmade_there d i ≡ own b
before-is rows today accounts i b d view low is =
    ap (λ (x : OpenDesk). unmade_there x i) (sym view) ∙ (get_or-map own accounts i b 0 low ∙ ap own (sym is))

-- where it has none to make
pub none-there : (rows : List Shared) (today : ℕ) (accounts : List OpenAccount) (i : ℕ) (b : OpenAccount) (d : OpenDesk) → open_desk today rows accounts ≡ d → i < length accounts → b ≡ get_or accounts i b → unmade_there d i ≡ 0 → b.late.owed ≡ []
none-there rows today accounts i b d view low is none = is-empty b.late.owed (sym (before-is rows today accounts i b d view low is) ∙ none)

pub none-after : (rows : List Shared) (today : ℕ) (accounts : List OpenAccount) (i : ℕ) (a : OpenAccount) → i < length accounts → a.late.owed ≡ [] → unmade_there (open_desk today rows (set accounts i a)) i ≡ 0
none-after rows today accounts i a low none = after-is rows today accounts i a low ∙ ap (λ os. length os) none

made-by : (rows : List Shared) (today : ℕ) (accounts : List OpenAccount) (i : ℕ) (a b : OpenAccount) (d : OpenDesk) → open_desk today rows accounts ≡ d → i < length accounts → b ≡ get_or accounts i b → (own a ≡ own b) ⊎ (own a ≡ 0)
    → MakesThere i d (open_desk today rows (set accounts i a))
made-by rows today accounts i a b d view low is made = record {
  own = either made;
  others = map-set own accounts i a ∙ (ap (λ (x : OpenDesk). set x.unmade i (own a)) view ∙ ap (λ (n : ℕ). set d.unmade i n) (sym after));
}
  where
    after : unmade_there (open_desk today rows (set accounts i a)) i ≡ own a
    after = after-is rows today accounts i a low

    either : (own a ≡ own b) ⊎ (own a ≡ 0) → AllOrNone i d (open_desk today rows (set accounts i a))
    either (inl e) = inl (after ∙ (e ∙ sym (before-is rows today accounts i b d view low is)))
    either (inr n) = inr (after ∙ n)

-- it was told of
pub told-made : (rows : List Shared) (common : SharedRows) (today : ℕ) (accounts : List OpenAccount) (i : ℕ) (a b : OpenAccount) (d : OpenDesk) → open_desk today rows accounts ≡ d → i < length accounts → b ≡ get_or accounts i b → IsTold today common b a
    → MakesThere i d (open_desk today rows (set accounts i a))
told-made rows common today accounts i a b d view low is told = made-by rows today accounts i a b d view low is (own-left b a told.made)

-- where it has reached today, none is left
settled : (common : SharedRows) (today : ℕ) (a : OpenAccount) → IsAccount today common a → a.folding.reached ≡ today → a.late.owed ≡ []
settled common today a h reached = (settled-today common today (replay_of a) h.replay h.reach reached).owed

pub tells-made : {T E : Type 0} (result : Result T E) (rows : List Shared) (common : SharedRows) (today : ℕ) (accounts : List OpenAccount) (i : ℕ) (a b : OpenAccount) (d : OpenDesk) → open_desk today rows accounts ≡ d → i < length accounts → b ≡ get_or accounts i b
    → IsTold today common b a → OnOk result (HasTold today common b a) → MakesToTell (Some i) result d (open_desk today rows (set accounts i a))
tells-made result rows common today accounts i a b d view low is told has = record {
  made = told-made rows common today accounts i a b d view low is told;
  answered = on_ok_weaker result (λ (h : HasTold today common b a). none-after rows today accounts i a low (settled common today a h.told.account h.reached)) has;
}

-- its issued statement was told
pub issues-made : {T E : Type 0} (result : Result T E) (rows : List Shared) (common : SharedRows) (today : ℕ) (accounts : List OpenAccount) (i : ℕ) (a b : OpenAccount) (d : OpenDesk) → open_desk today rows accounts ≡ d → i < length accounts → b ≡ get_or accounts i b
    → IsTold today common b a → OnOk result (a.late.owed ≡ []) → MakesToTell (Some i) result d (open_desk today rows (set accounts i a))
issues-made result rows common today accounts i a b d view low is told none = record {
  made = told-made rows common today accounts i a b d view low is told;
  answered = on_ok_weaker result (λ (n : a.late.owed ≡ []). none-after rows today accounts i a low n) none;
}

-- it was told of, and then took a post that owes nothing
pub same-owed : (c : Change) (x a : Late) → a ≡ late_with c x → c.owes ≡ None → a.owed ≡ x.owed
same-owed c x a is none = ap (λ (l : Late). l.owed) is ∙ (ap (λ o. x.owed ++ owed_as o) none ∙ append-nil x.owed)

pub posted-made : (rows : List Shared) (common : SharedRows) (today : ℕ) (accounts : List OpenAccount) (i : ℕ) (a x b : OpenAccount) (d : OpenDesk) → open_desk today rows accounts ≡ d → i < length accounts → b ≡ get_or accounts i b → IsTold today common b x → a.late.owed ≡ x.late.owed
    → MakesThere i d (open_desk today rows (set accounts i a))
posted-made rows common today accounts i a x b d view low is told same = made-by rows today accounts i a b d view low is (both (own-left b x told.made))
  where
    both : (own x ≡ own b) ⊎ (own x ≡ 0) → (own a ≡ own b) ⊎ (own a ≡ 0)
    both (inl e) = inl (ap (λ os. length os) same ∙ e)
    both (inr n) = inr (ap (λ os. length os) same ∙ n)

-- ---- one call after the other on the account at a place
pub makes-none : (d : OpenDesk) (i : ℕ) → MakesThere i d d
makes-none d i = record { own = inl refl; others = sym (set-get_or d.unmade i 0) }

pub makes-twice : (i : ℕ) (d mid new : OpenDesk) → MakesThere i d mid → MakesThere i mid new → MakesThere i d new
makes-twice i d mid new h g = record {
  own = both h.own g.own;
  others = g.others ∙ (ap (λ (l : List ℕ). set l i (unmade_there new i)) h.others ∙ set-set d.unmade i (unmade_there mid i) (unmade_there new i));
}
  where
    both : AllOrNone i d mid → AllOrNone i mid new → AllOrNone i d new
    both m (inr n) = inr n
    both (inl e) (inl f) = inl (f ∙ e)
    both (inr z) (inl f) = inr (f ∙ z)

pub none-still : (i : ℕ) (d mid : OpenDesk) → MakesThere i d mid → unmade_there d i ≡ 0 → unmade_there mid i ≡ 0
none-still i d mid h none = still h.own
  where
    still : AllOrNone i d mid → unmade_there mid i ≡ 0
    still (inl e) = e ∙ none
    still (inr n) = n

-- ---- by the account's name
pub named-made : {T E : Type 0} (result : Result T E) (d new : OpenDesk) (name : List ℕ) (i : ℕ) → place_from name 0 d.state.accounts ≡ Some i → MakesToTell (Some i) result d new → MakesNamed name result d new
named-made result d new name i place h = subst (λ (o : Option ℕ). MakesToTell o result d new) (sym place) h

pub absent-made : {T E : Type 0} (result : Result T E) (d new : OpenDesk) (name : List ℕ) → place_from name 0 d.state.accounts ≡ None → new.unmade ≡ d.unmade → MakesNamed name result d new
absent-made result d new name absent same =
    subst (λ (o : Option ℕ). MakesToTell o result d new) (sym absent) (record { made = same; answered = on-any result (HasNoneAt None new) tt })

-- no answer came
pub wanting-made : {T E U F : Type 0} (x : Result T E) (result : Result U F) (place : Option ℕ) (d new : OpenDesk) → IsErr result → MakesToTell place x d new → MakesToTell place result d new
wanting-made x (Ok y) place d new is h = absurd (cc)
wanting-made x (Err e) place d new is h = record { made = h.made; answered = tt }

pub answered-made : {T E : Type 0} (x : T) (place : Option ℕ) (d new : OpenDesk) → MakesAt place d new → HasNoneAt place new → MakesToTell {T = T} {E = E} place (Ok x) d new
answered-made x place d new h none = record { made = h; answered = none }

-- ---- all accounts
all-none : (common : SharedRows) (today : ℕ) (xs : List OpenAccount) → All (IsAccount today common) xs → All (λ (a : OpenAccount). a.folding.reached ≡ today) xs → All (λ (n : ℕ). n ≡ 0) (unmade_all xs)
all-none common today [] h reached = All-nil (λ (n : ℕ). n ≡ 0)
all-none common today (a ∷ rest) h reached =
    All-cons (λ (n : ℕ). n ≡ 0) (own a) (unmade_all rest)
    (ap (λ os. length os) (settled common today a (All-head (IsAccount today common) a rest h) (All-head (λ (x : OpenAccount). x.folding.reached ≡ today) a rest reached)))
    (all-none common today rest (All-tail (IsAccount today common) a rest h) (All-tail (λ (x : OpenAccount). x.folding.reached ≡ today) a rest reached))

each-made : (common : SharedRows) (today : ℕ) (xs ys : List OpenAccount) → length ys ≡ length xs → ((i : ℕ) (d : OpenAccount) → i < length xs → IsTold today common (get_or xs i d) (get_or ys i d))
    → (i : ℕ) → i < length xs → (get_or (unmade_all ys) i 0 ≡ get_or (unmade_all xs) i 0) ⊎ (get_or (unmade_all ys) i 0 ≡ 0)
each-made common today [] ys count h i low = absurd (omega (arith, low))
each-made common today (x ∷ xs) [] count h i low = absurd (omega (arith, count))
each-made common today (x ∷ xs) (y ∷ ys) count h zero low = own-left x y (h 0 x low).made
each-made common today (x ∷ xs) (y ∷ ys) count h (suc i) low = each-made common today xs ys (omega (arith, count)) (λ k d l. h (suc k) d (omega (arith, l))) i (omega (arith, low))

pub all-made : {T E : Type 0} (result : Result T E) (common : SharedRows) (today : ℕ) (rows : List Shared) (xs ys : List OpenAccount) (d : OpenDesk) → open_desk today rows xs ≡ d → AreTold today common xs ys → OnOk result (All (λ (a : OpenAccount). a.folding.reached ≡ today) ys)
    → MakesForAll result d (open_desk today rows ys)
all-made result common today rows xs ys d view told has =
    let new = open_desk today rows ys in
    let count = told.count in
    let stand : All (IsAccount today common) ys = λ k a l. (told.each k a (omega (arith, l, count))).account in
    subst (λ (x : OpenDesk). MakesForAll result x new) view (record {
      answered = on_ok_weaker result (λ (h : All (λ (a : OpenAccount). a.folding.reached ≡ today) ys). all-none common today ys stand h) has;
      count = length-map ys own ∙ (count ∙ sym (length-map xs own));
      each = λ i l. each-made common today xs ys count told.each i (let long = length-map xs own in omega (arith, l, long));
    })

pub all-made-wanting : {T E U F : Type 0} (x : Result T E) (result : Result U F) (d new : OpenDesk) → IsErr result → MakesForAll x d new → MakesForAll result d new
all-made-wanting x (Ok y) d new is h = absurd (cc)
all-made-wanting x (Err e) d new is h = record { answered = tt; count = h.count; each = h.each }

-- ---- an account that is opened
pub opened-made : (rows : List Shared) (today : ℕ) (accounts list : List OpenAccount) (a : OpenAccount) (d : OpenDesk) → open_desk today rows accounts ≡ d → list ≡ accounts ++ a ∷ [] → a.late.owed ≡ [] → MakesOn None d (open_desk today rows list)
opened-made rows today accounts list a d view is none =
    inr (ap unmade_all is ∙ (map-append own accounts (a ∷ []) ∙ (ap (λ os. unmade_all accounts ++ length os ∷ []) none ∙ ap (λ (x : OpenDesk). x.unmade ++ 0 ∷ []) view)))

-- ---- steps before an accepted post
pub after-post : (rows : List Shared) (today : ℕ) (accounts : List OpenAccount) (i : ℕ) (a : OpenAccount) (before after : ℕ) → i < length accounts → (x : Late) → a.late.owed ≡ x.owed → (after ≡ before) ⊎ (x.owed ≡ [])
    → (after ≡ before) ⊎ (unmade_there (open_desk today rows (set accounts i a)) i ≡ 0)
after-post rows today accounts i a before after low x same (inl e) = inl e
after-post rows today accounts i a before after low x same (inr n) = inr (none-after rows today accounts i a low (same ∙ n))
