-- Making a composition.
use Rattle.std.specs.Prelude.{◌≡◌, ℕ, ◌<◌, List, Some, None, Ok, Err, Option, Result}
use Rattle.composition.specs.Counts.{most, total, count, lowered}
use Rattle.composition.specs.declared.composition.Composition.{Composition}
use Rattle.composition.specs.declared.refusals.TooManyHomes.{TooManyHomes}

-- counts of at most 24 homes in all make a composition that has them; any others are refused
abbrev pub Made : List ℕ → Result Composition TooManyHomes → Type 0
Made ns (Ok c) = c.counts ≡ ns
Made ns (Err e) = most < total ns

-- taking one home of a type away: the group with one fewer, or nothing if there is none to take
abbrev pub Without : ℕ → List ℕ → Option Composition → Type 0
Without i ns (Some c) = (0 < count i ns) × (c.counts ≡ lowered i ns)
Without i ns None = count i ns ≡ 0
