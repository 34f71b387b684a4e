-- The connection that a keeper over a file goes on with.
use Rattle.std.specs.Prelude.{Option, None, Some, Result, Ok, Err, option_map, ⊤}
use Rattle.sqlite.specs.declared.error.Error.{Error}
use Rattle.sqlite.specs.Held.{Held}
use Rattle.card_sqlite.specs.declared.store.StoreKeeper.{StoreKeeper}

-- the connection at hand, if there is one
abbrev pub conn_of : {S : Type 0} → Option (StoreKeeper S) → Option (Held S)
conn_of store = option_map (λ k. k.conn) store

-- the one that a call goes over: that which was made, or else the one at hand
abbrev pub connected : {S : Type 0} → Option (StoreKeeper S) → Result (Option (Held S)) Error → Option (Held S)
connected store (Ok (Some conn)) = Some conn
connected store (Ok None) = conn_of store
connected store (Err e) = None

-- P of the connection before and after the call, where there is one
abbrev pub Between : {S : Type 0} → Option (Held S) → Option (Held S) → (Held S → Held S → Type 0) → Type 0
Between None new P = ⊤
Between (Some old) None P = ⊥
Between (Some old) (Some new) P = P old new
