-- The listed rule: one cost for each composition inside a box, by place, and none outside it.
use Rattle.std.specs.Prelude.{ℕ, cond, List, ℤ, pos, Ok, Err, slice_index_or}
use Rattle.composition.specs.Counts.{fits, place}
use Rattle.cost_rules.specs.Faults.{above_box}
use Rattle.cost_rules.specs.Meanings.{Meaning}

-- what a box and its table of costs mean
abbrev pub listed : List ℕ → List ℤ → Meaning
listed box table n = cond (fits n box) (Ok (slice_index_or table (place box n) (pos 0))) (Err above_box)
