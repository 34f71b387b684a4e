-- A Book in memory of its own, where there is one.
use Rattle.std.proofs.Common.{◌≡◌, sym, ap, ◌∙◌, subst, Option, Some, None, Result, Ok, Err}
use Rattle.std.specs.Option.{option_map}
use Rattle.std.specs.Prelude.{IfOk}
use Rattle.card_book.specs.Stands.{StandsFor, Summary}
use Rattle.card_daily.specs.Given.{Given}
use Rattle.card_daily.specs.Stands.{IsBlank}
use Rattle.card_daily.specs.declared.track.Track.{Track}
use Rattle.card_past.specs.Foldings.{Stands}

-- what lies there
pub some-value : {A B : Type 0} (f : B → A) {o : Option B} {now : Option A} {b : B} {x : A} → option_map f o ≡ now → o ≡ Some b → x ≡ f b → now ≡ Some x
some-value f view is same = sym view ∙ (ap (option_map f) is ∙ ap Some (sym same))

pub none-value : {A B : Type 0} (f : B → A) {o : Option B} {now : Option A} → option_map f o ≡ now → o ≡ None → now ≡ None
none-value f view is = sym view ∙ ap (option_map f) is

-- a copy in memory of its own
pub copy-stands : {E : Type 0} (o : Option Summary) (was copy : Summary) (result : Result (Option Summary) E) → o ≡ Some was → IfOk result (λ b. b ≡ Some copy) → ((g : Given) (t : Track) → StandsFor g was t → StandsFor g copy t)
    → IfOk result (λ b. (g : Given) (t : Track) → Stands g o t → Stands g b t)
copy-stands o was copy (Ok b) is same goes = λ g t h. subst (λ x. Stands g x t) (sym same) (goes g t (subst (λ x. Stands g x t) is h))
copy-stands o was copy (Err e) is same goes = tt

-- to be folded on
pub copy-to-fold : {E : Type 0} (g : Given) (o : Option Summary) (was : Summary) (result : Result Summary E) → o ≡ Some was → IfOk result (λ b. (h : Given) (t : Track) → StandsFor h was t → StandsFor h b t)
    → IfOk result (λ b. (t : Track) → Stands g o t → StandsFor g b t)
copy-to-fold g o was (Ok b) is goes = λ t h. goes g t (subst (λ x. Stands g x t) is h)
copy-to-fold g o was (Err e) is goes = tt

pub start-to-fold : {E : Type 0} (g : Given) (o : Option Summary) (result : Result Summary E) → o ≡ None → IfOk result (λ b. (t : Track) → IsBlank t → StandsFor g b t) → IfOk result (λ b. (t : Track) → Stands g o t → StandsFor g b t)
start-to-fold g o (Ok b) none begins = λ t h. begins t (subst (λ x. Stands g x t) none h)
start-to-fold g o (Err e) none begins = tt
