-- Reading the records of bytes, one after the other.
use Rattle.std.proofs.Common.{◌≡◌, ℕ, zero, suc, ◌+◌, ◌<◌, ◌≤◌, ◌==◌, Bool, true, false, cond, List, [], ◌∷◌, length, Option, Some, None, IfSome, IsSome, inl, refl, sym, ap, subst, arith, add-one, ◌∙◌}
use Rattle.std.proofs.lemmas.Bool.{false≢true}
use Rattle.csv.specs.Machine.{Read, ends_at_end, ends_with, after_end, carriage_return, in_field, start_field, start_record, is_end, next_record, step}
use Rattle.csv.specs.Reading.{NextIs, ReadRecord, ReadsNext, default_config, is_bom, is_flexible, pending_of, took_first, records, records_from, records_next, strip_bom}
use Rattle.csv.specs.declared.parser.Action.{Action}
use Rattle.csv.specs.declared.parser.Action.TheVariants as act
use Rattle.csv.specs.declared.parser.State.{State}
use Rattle.csv.specs.declared.parser.State.TheVariants as st
use Rattle.csv.specs.declared.parser.Terminator.TheVariants as term
use Rattle.card_text.specs.Reading.{BytesReader, IsReading, bytes_left, records_in, records_left}

-- a byte that ends a record leaves the reader between two records
unfoldable EndsBetween : State × Action → Type 0
EndsBetween x = is_end x.1 ≡ true → ends_at_end x.0 ≡ false

either : (b : Bool) (x y : State × Action) → EndsBetween x → EndsBetween y → EndsBetween (cond b x y)
either true x y one other = one
either false x y one other = other

no_end : (s : State) (a : Action) → is_end a ≡ false → EndsBetween (s, a)
unfolding EndsBetween
no_end s a none e = absurd (false≢true (sym none ∙ e))

either_end : (b : Bool) → ends_at_end (cond b st.AfterCr st.StartRecord) ≡ false
either_end true = refl
either_end false = refl

after_ends : (c : ℕ) → EndsBetween (after_end term.CRLF c, act.EndRecord)
unfolding EndsBetween
after_ends c = λ _. either_end (c == carriage_return)

in_field_ends : (c : ℕ) → EndsBetween (in_field default_config c)
in_field_ends c =
    either (c == 44) (st.StartField, act.EndField) (cond (ends_with term.CRLF c) (after_end term.CRLF c, act.EndRecord) (st.InField, act.Copy)) (no_end st.StartField act.EndField refl)
    (either (ends_with term.CRLF c) (after_end term.CRLF c, act.EndRecord) (st.InField, act.Copy) (after_ends c) (no_end st.InField act.Copy refl))

start_field_ends : (c : ℕ) → EndsBetween (start_field default_config c)
start_field_ends c = either (c == 34) (st.InQuoted, act.Skip) (in_field default_config c) (no_end st.InQuoted act.Skip refl) (in_field_ends c)

start_record_ends : (c : ℕ) → EndsBetween (start_record default_config c)
start_record_ends c = either (ends_with term.CRLF c) (st.StartRecord, act.Skip) (start_field default_config c) (no_end st.StartRecord act.Skip refl) (start_field_ends c)

step_ends : (s : State) (c : ℕ) → EndsBetween (step default_config s c)
step_ends st.StartRecord c = start_record_ends c
step_ends st.StartField c = start_field_ends c
step_ends st.InField c = in_field_ends c
step_ends st.InQuoted c = either (c == 34) (st.AfterQuote, act.Skip) (st.InQuoted, act.Copy) (no_end st.AfterQuote act.Skip refl) (no_end st.InQuoted act.Copy refl)
step_ends st.InEscape c = no_end st.InQuoted act.Copy refl
step_ends st.AfterQuote c = either (c == 34) (st.InQuoted, act.Copy) (in_field default_config c) (no_end st.InQuoted act.Copy refl) (in_field_ends c)
step_ends st.InComment c = either (c == 10) (st.StartRecord, act.Skip) (st.InComment, act.Skip) (no_end st.StartRecord act.Skip refl) (no_end st.InComment act.Skip refl)
step_ends st.AfterCr c = either (c == 10) (st.StartRecord, act.Skip) (start_record default_config c) (no_end st.StartRecord act.Skip refl) (start_record_ends c)

ends_between : (s : State) (c : ℕ) → is_end (step default_config s c).1 ≡ true → ends_at_end (step default_config s c).0 ≡ false
unfolding EndsBetween
ends_between s c = step_ends s c

-- a record ends between two records; fewer bytes are left than the n before it, where it also began there
abbrev IsShorter : ℕ → State → Read → Type 0
IsShorter n s p = (ends_at_end p.1 ≡ false) × (length p.2 ≤ n) × (ends_at_end s ≡ false → length p.2 < n)

at_end : (s : State) (fs : List (List ℕ)) (b : Bool) → ends_at_end s ≡ b → IfSome (cond b (Some (fs, st.StartRecord, [])) None) (IsShorter 0 s)
at_end s fs true is = (refl, omega arith, λ e. absurd (false≢true (sym e ∙ is)))
at_end s fs false is = tt

one_longer : (n : ℕ) (s s2 : State) (o : Option Read) → IfSome o (IsShorter n s2) → IfSome o (IsShorter (suc n) s)
one_longer n s s2 None is = tt
one_longer n s s2 (Some p) is = let most = is.1 in (is.0, omega (arith, most), λ _. omega (arith, most))

at_byte : (s s2 : State) (rest : List ℕ) (fs : List (List ℕ)) (o : Option Read) (b : Bool) → (b ≡ true → ends_at_end s2 ≡ false) → IfSome o (IsShorter (length rest) s2)
    → IfSome (cond b (Some (fs, s2, rest)) o) (IsShorter (suc (length rest)) s)
at_byte s s2 rest fs o true between is = (between refl, omega arith, λ _. omega arith)
at_byte s s2 rest fs o false between is = one_longer (length rest) s s2 o is

shorter : (s : State) (fs : List (List ℕ)) (f xs : List ℕ) → IfSome (next_record default_config s fs f xs) (IsShorter (length xs) s)
unfolding next_record
shorter s fs f [] = at_end s _ (ends_at_end s) refl
shorter s fs f (c ∷ rest) =
    at_byte s (step default_config s c).0 rest _ _ (is_end (step default_config s c).1) (ends_between s c) (shorter (step default_config s c).0 _ _ rest)

-- as many turns as bytes, and one more, are enough
same_next : (n m k : ℕ) (o : Option Read) (s : State) → ends_at_end s ≡ false → k < suc n → k < suc m → IfSome o (IsShorter k s)
    → ((s2 : State) (ys : List ℕ) → ends_at_end s2 ≡ false → length ys < n → length ys < m → records_from default_config n s2 ys ≡ records_from default_config m s2 ys)
    → records_next (records_from default_config n) o ≡ records_next (records_from default_config m) o
same_next n m k None s between one other is more = refl
same_next n m k (Some p) s between one other is more = let less = is.2 between in ap (λ rs. p.0 ∷ rs) (more p.1 p.2 is.0 (omega (arith, less)) (omega (arith, less)))

enough : (n m : ℕ) (s : State) (xs : List ℕ) → ends_at_end s ≡ false → length xs < n → length xs < m → records_from default_config n s xs ≡ records_from default_config m s xs
unfolding records_from
enough zero m s xs between one other = absurd (omega arith)
enough (suc n) zero s xs between one other = absurd (omega arith)
enough (suc n) (suc m) s xs between one other =
    same_next n m (length xs) (next_record default_config s [] [] xs) s between one other (shorter s [] [] xs) (enough n m)

from_next : (xs : List ℕ) (s : State) → records_from default_config (length xs + 1) s xs ≡ records_next (records_from default_config (length xs)) (next_record default_config s [] [] xs)
unfolding records_from
from_next xs s = rw add-one refl

-- a record was read: it is the first of those that were left, and the others are left
abbrev Took : State → Option (List ℕ) → State → Option (List ℕ) → List (List ℕ) → Type 0
Took s src s2 after f = (records_in s src ≡ f ∷ records_in s2 after) × IsSome after × (ends_at_end s2 ≡ false)

took_next : (s s2 : State) (xs ys : List ℕ) (f : List (List ℕ)) (o : Option Read) → NextIs o true f s2 ys → IfSome o (IsShorter (length xs) s) → ends_at_end s ≡ false
    → (records_next (records_from default_config (length xs)) o ≡ f ∷ records_from default_config (length ys + 1) s2 ys) × (ends_at_end s2 ≡ false)
took_next s s2 xs ys f None is shorter between = cc is
took_next s s2 xs ys f (Some p) is shorter between =
    let less = shorter.2 between in
    rw (is.1, is.2, is.3) (ap (λ rs. p.0 ∷ rs) (enough (length xs) (length p.2 + 1) p.1 p.2 shorter.0 less (omega arith)), shorter.0)

pub took : (s s2 : State) (src after : Option (List ℕ)) (f : List (List ℕ)) → ReadsNext default_config s src after true f s2 → IsSome src → ends_at_end s ≡ false → Took s src s2 after f
took s s2 None after f is told between = cc told
took s s2 (Some xs) None f is told between = absurd is
took s s2 (Some xs) (Some ys) f is told between =
    let next = took_next s s2 xs ys f (next_record default_config s [] [] xs) is (shorter s [] [] xs) between in
    (from_next xs s ∙ next.0, refl, next.1)

none_next : (n : ℕ) (f : List (List ℕ)) (s2 : State) (ys : List ℕ) (o : Option Read) → NextIs o false f s2 ys → records_next (records_from default_config n) o ≡ []
none_next n f s2 ys None is = refl
none_next n f s2 ys (Some p) is = absurd (false≢true is.0)

-- no record was read: none was left
pub took_none : (s s2 : State) (src after : Option (List ℕ)) (f : List (List ℕ)) → ReadsNext default_config s src after false f s2 → records_in s src ≡ []
took_none s s2 None after f is = refl
took_none s s2 (Some xs) None f is = absurd is
took_none s s2 (Some xs) (Some ys) f is = from_next xs s ∙ none_next (length xs) f s2 ys (next_record default_config s [] [] xs) is

few_next : (n : ℕ) (o : Option Read) → ((s : State) (xs : List ℕ) → length (records_from default_config n s xs) ≤ n) → length (records_next (records_from default_config n) o) ≤ suc n
few_next n None more = omega arith
few_next n (Some p) more = let most = more p.1 p.2 in omega (arith, most)

few_from : (n : ℕ) (s : State) (xs : List ℕ) → length (records_from default_config n s xs) ≤ n
unfolding records_from
few_from zero s xs = omega arith
few_from (suc n) s xs = few_next n (next_record default_config s [] [] xs) (few_from n)

three : (b : Bool) (x y : List ℕ) → length x ≤ length y → length (cond b x y) ≤ length y
three true x y most = most
three false x y most = omega arith

strip_shorter : (xs : List ℕ) → length (strip_bom xs) ≤ length xs
unfolding strip_bom
strip_shorter [] = omega arith
strip_shorter (a ∷ []) = omega arith
strip_shorter (a ∷ b ∷ []) = omega arith
strip_shorter (a ∷ b ∷ c ∷ rest) = three (is_bom a b c) rest (a ∷ b ∷ c ∷ rest) (omega arith)

-- no more records than bytes, and one
pub few : (xs : List ℕ) → length (records default_config (strip_bom xs)) ≤ length xs + 1
few xs =
    let most = few_from (length (strip_bom xs) + 1) st.StartRecord (strip_bom xs) in
    let bytes = strip_shorter xs in
    omega (arith, most, bytes)

-- a record was read, and the reader goes on
pub read_on : (a b : BytesReader) (f : List (List ℕ)) → IsReading a → ReadRecord (λ s. Some s.now) a b true f → took_first b ≡ true → is_flexible b ≡ is_flexible a
    → IsReading b × (records_left a ≡ f ∷ records_left b)
read_on a b f reads read first flexible =
    let same : bytes_left b ≡ pending_of (Some b.rdr.now) b = rw read.1 refl in
    let step = took a.state b.state (bytes_left a) (pending_of (Some b.rdr.now) b) f (rw reads.config at read.0) reads.told reads.between in (
      record {
        config = read.2 ∙ reads.config;
        trim = read.3 ∙ reads.trim;
        flexible = flexible ∙ reads.flexible;
        ready = inl first;
        told = subst IsSome (sym same) step.1;
        between = step.2;
      },
      step.0 ∙ ap (λ bytes. f ∷ records_in b.state bytes) (sym same),
    )

-- no record was read
pub read_end : (a b : BytesReader) (f : List (List ℕ)) → IsReading a → ReadRecord (λ s. Some s.now) a b false f → records_left a ≡ []
read_end a b f reads read = took_none a.state b.state (bytes_left a) (pending_of (Some b.rdr.now) b) f (rw reads.config at read.0)
