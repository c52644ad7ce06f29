-- Words that a number may be printed as. Only contracts inside the crate cite this.
use Rattle.std.specs.Prelude.{◌≡◌, ◌≢◌, ℕ, ◌⊎◌, List, [], ◌∷◌, Ok, Err, Result, slice_index}
use Rattle.std.specs.Int.{IsInRange}
use Rattle.std.specs.Str.{IsUtf8}

-- it is `0`, or begins with another digit, before which a `-` may stand
abbrev pub Plain : List ℕ → Type 0
Plain word = (word ≡ 48 ∷ []) ⊎ (IsInRange 49 57 (slice_index word 0) ⊎ ((slice_index word 0 ≡ 45) × IsInRange 49 57 (slice_index word 1)))

-- what parsing answers for a word
abbrev pub Parsed : {A E : Type 0} → (A → Type 0) → (A → List ℕ) → List ℕ → Result A E → Type 0
Parsed Allowed write word (Ok n) = Allowed n × (word ≡ write n)
Parsed {A = A} Allowed write word (Err e) = (n : A) → Allowed n → word ≢ write n

-- what is known of a printed number
abbrev pub Printed : List ℕ → Type 0
Printed word = Plain word × IsUtf8 word
