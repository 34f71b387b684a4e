-- The requests of the demonstration, in pieces: what each draws from the generator, and where it leaves it. Accounts, cycles
-- and charges count from 1. Cents, basis points and minutes of the day.
use Rattle.std.specs.Prelude.{ℕ, zero, suc, ◌+◌, ◌-◌, ◌/◌, ◌%◌, ◌==◌, if◌then◌else◌, List, [], ◌∷◌, ◌++◌, codes}
use Rattle.std.specs.Fmt.{decimal}
use Rattle.card_events.specs.Civil.{day_at}
use Rattle.card_events.specs.declared.anchor.Channel.TheVariants as channel
use Rattle.card_events.specs.declared.post.Place.{Place}
use Rattle.card_events.specs.declared.post.Place.TheVariants as place
use Rattle.card_events.specs.declared.post.Post.TheVariants as post
use Rattle.card_events.specs.declared.post.Terms.{Terms}
use Rattle.card_events.specs.declared.request.Request.{Request}
use Rattle.card_events.specs.declared.request.Request.TheVariants as request
use Rattle.card_events.specs.declared.request.Shared.TheVariants as shared
use Rattle.card_demo.specs.Generator.{stepped, drawn}

-- requests, and where the generator is after them
pub record Piece : Type 0 where
  pub requests : List Request
  pub x : ℕ

abbrev pub nothing : ℕ → Piece
nothing x = record { requests = []; x = x }

abbrev pub one : Request → ℕ → Piece
one r x = record { requests = r ∷ []; x = x }

-- a piece, and another one that draws from where the first leaves the generator
abbrev pub followed : Piece → (ℕ → Piece) → Piece
followed p q = record { requests = p.requests ++ (q p.x).requests; x = (q p.x).x }

-- ---- names and days
-- the i-th account
abbrev pub account : ℕ → List ℕ
account i = codes "d" ++ decimal i

-- the keys of cycle t
abbrev pub bill_key : ℕ → List ℕ
bill_key t = codes "b" ++ decimal t

abbrev pub charge_key : ℕ → ℕ → List ℕ
charge_key t j = codes "c" ++ decimal t ++ codes "-" ++ decimal j

abbrev pub payment_key : ℕ → List ℕ
payment_key t = codes "p" ++ decimal t

abbrev pub amend_key : ℕ → List ℕ
amend_key t = codes "a" ++ decimal t

-- the 20th of the month that lies n months after January 2024
unfoldable pub twentieth : ℕ → ℕ
twentieth n = day_at (2024 + n / 12) (n % 12 + 1) 20

-- ---- requests
-- the fees from 2011-01-02 on, and the first day
abbrev pub fees_from_2011 : Request
fees_from_2011 = request.Shared (shared.FeeRow (day_at 2011 1 2) 3000 4100)

abbrev pub roll_to : ℕ → Request
roll_to day = request.Shared (shared.Roll day)

-- an account's opening on 2024-01-05; its cycles close on the 16th to the 19th
abbrev pub terms_closing : ℕ → Terms
terms_closing close = record { close = close; purchase = 1999; cash = 2499; transfer = 2199; penalty = 2999; floor = 2500; pct = 100 }

unfoldable pub opening : ℕ → ℕ → Piece
opening i x = one (request.Post (account i) (codes "o") (post.Open (day_at 2024 1 5) (terms_closing (16 + drawn x % 4)))) (stepped x)

-- purchases, cash advances or balance transfers
abbrev pub place_at : ℕ → Place
place_at n = if n == 0 then place.Purchase else if n == 1 then place.Cash else place.Transfer

-- the j-th charge of account i in cycle t, up to nine days before today
unfoldable pub charge : ℕ → ℕ → ℕ → ℕ → Piece
charge t i j x =
    let y = stepped x in
    let z = stepped y in
    one (request.Post (account i) (charge_key t j) (post.Charge (twentieth (t - 1) - drawn x % 10) (place_at (drawn y % 3)) (100 + drawn z % 20000))) (stepped z)

-- the first so many of them
unfoldable pub charges : ℕ → ℕ → ℕ → ℕ → Piece
charges t i zero x = nothing x
charges t i (suc j) x = followed (charges t i j x) (charge t i (j + 1))

-- account i pays in cycle t
unfoldable pub payment : ℕ → ℕ → ℕ → Piece
payment t i x =
    let y = stepped x in
    let z = stepped y in
    one (request.Post (account i) (payment_key t) (post.Payment (twentieth (t - 1) - drawn x % 10) (drawn y % 1440) channel.Online (100 + drawn z % 30000))) (stepped z)

-- its third post, the first charge, gets another amount
unfoldable pub amend : ℕ → ℕ → ℕ → Piece
amend t i x = one (request.Post (account i) (amend_key t) (post.Amend 3 (day_at 2024 1 10) (drawn x % 5000))) (stepped x)

-- the bill of cycle t, which draws nothing
unfoldable pub bill : ℕ → ℕ → ℕ → Piece
bill t i x = one (request.Post (account i) (bill_key t) (post.Bill t)) x

-- an account's seven requests of a cycle
unfoldable pub account_cycle : ℕ → ℕ → ℕ → Piece
account_cycle t i x = followed (followed (followed (bill t i x) (charges t i 4)) (payment t i)) (amend t i)

-- those of the first so many accounts
unfoldable pub accounts_cycle : ℕ → ℕ → ℕ → Piece
accounts_cycle t zero x = nothing x
accounts_cycle t (suc i) x = followed (accounts_cycle t i x) (account_cycle t (i + 1))

-- a cycle of all accounts, and the roll to the 20th of the next month
unfoldable pub cycle : ℕ → ℕ → ℕ → Piece
cycle accounts t x = followed (accounts_cycle t accounts x) (one (roll_to (twentieth t)))

-- the first so many cycles
unfoldable pub cycles : ℕ → ℕ → ℕ → Piece
cycles accounts zero x = nothing x
cycles accounts (suc t) x = followed (cycles accounts t x) (cycle accounts (t + 1))

-- the openings of the first so many accounts
unfoldable pub openings : ℕ → ℕ → Piece
openings zero x = nothing x
openings (suc i) x = followed (openings i x) (opening (i + 1))

-- the fees and the first day
unfoldable pub beginning : ℕ → Piece
beginning x = record { requests = fees_from_2011 ∷ roll_to (twentieth 0) ∷ []; x = x }

-- all of them
unfoldable pub all_pieces : ℕ → ℕ → ℕ → Piece
all_pieces start accounts count = followed (followed (beginning start) (openings accounts)) (cycles accounts count)

abbrev pub demo_requests : ℕ → ℕ → ℕ → List Request
demo_requests start accounts count = (all_pieces start accounts count).requests
