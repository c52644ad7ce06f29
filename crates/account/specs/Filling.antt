-- A table of costs: what stands in it, by place.
use Rattle.std.specs.Prelude.{◌≡◌, ℕ, ◌<◌, ◌≤◌, List, length, ℤ, pos, Ok, Err, Result, slice_index_or}
use Rattle.composition.specs.Counts.{Inside, place, size}
use Rattle.cost_rules.specs.Meanings.{Meaning}
use Rattle.cost_rules.specs.declared.fault.Fault.{Fault}
use Rattle.account.specs.declared.refusals.DraftRefusal.{DraftRefusal}
use Rattle.account.specs.declared.refusals.DraftRefusal.TheVariants.{NoHomes, TableTooShort, NumbersUsedUp, Faulty}

-- a table before and after it is filled as far as a place, with the costs that f gives to the compositions inside the counts
pub record FilledTo (f : Meaning) (counts : List ℕ) (p : ℕ) (before after : List ℤ) : Type 0 where
  pub costs : (n : List ℕ) → Inside n counts → place counts n < p → f n ≡ Ok (slice_index_or after (place counts n) (pos 0))
  pub others : (q : ℕ) → p ≤ q → slice_index_or after q (pos 0) ≡ slice_index_or before q (pos 0)
  pub same_length : length after ≡ length before

-- the composition at a place inside the counts has this fault
pub record FaultAt (f : Meaning) (counts : List ℕ) (p : ℕ) (fault : Fault) : Type 0 where
  pub at : List ℕ
  pub inside : Inside at counts
  pub stands : place counts at ≡ p
  pub faulty : f at ≡ Err fault

-- how filling a table ends: all of it filled, or as far as the lowest place with a fault
abbrev pub FillEnds : Meaning → List ℕ → List ℤ → Result (Unit {0}) DraftRefusal → List ℤ → Type 0
FillEnds f counts before (Ok done) after = FilledTo f counts (size counts) before after
FillEnds f counts before (Err NoHomes) after = ⊥
FillEnds f counts before (Err TableTooShort) after = ⊥
FillEnds f counts before (Err NumbersUsedUp) after = ⊥
FillEnds f counts before (Err (Faulty p fault)) after = FaultAt f counts p fault × FilledTo f counts p before after
