-- What the rules of a book mean. Each means what its definition says, out of what the earlier ones mean.
use Rattle.std.specs.Prelude.{◌≡◌, ℕ, List, [], ◌∷◌, ◌++◌, pos, Some, Ok, slice_get, slice_index_or}
use Rattle.cost_rules.specs.Heads.{headed}
use Rattle.cost_rules.specs.Listed.{listed}
use Rattle.cost_rules.specs.Meanings.{Meaning}
use Rattle.cost_rules.specs.Sums.{sum_of}
use Rattle.metering.specs.Grid.{grid_cost}
use Rattle.metering.specs.Metered.{metered}
use Rattle.metering.specs.Peak.{peak_cost}
use Rattle.period.specs.Filled.{page}
use Rattle.rule_book.specs.declared.definition.Definition.{Definition}
use Rattle.rule_book.specs.declared.definition.Definition.TheVariants.{Listed, Head, Grid, Peak, Sum}

-- what a definition means, where a sum takes its parts from these
abbrev pub meaning_of : (ℕ → Meaning) → Definition → Meaning
meaning_of by (Listed r) = listed r.largest.counts r.table.now
meaning_of by (Head r) = headed r.fees
meaning_of by (Grid r) = metered grid_cost (page r.period)
meaning_of by (Peak r) = metered (peak_cost r.tally.price.value) (page r.period)
meaning_of by (Sum left right) = sum_of (by left) (by right)

-- nothing costs anything: what stands for a number that no rule has
abbrev pub costless : Meaning
costless n = Ok (pos 0)

-- the meaning with a number
abbrev pub numbered : List Meaning → ℕ → Meaning
numbered fs i = slice_index_or fs i costless

-- these meanings, and then what further definitions mean
abbrev pub continued : List Meaning → List Definition → List Meaning
continued fs [] = fs
continued fs (d ∷ ds) = continued (fs ++ meaning_of (numbered fs) d ∷ []) ds

-- what all definitions mean, from the first on
abbrev pub meanings : List Definition → List Meaning
meanings = continued []

-- what the rule with a number means
abbrev pub means : List Definition → ℕ → Meaning
means ds = numbered (meanings ds)

-- every rule means what its definition says; a sum, what the two that it names mean together
abbrev pub AsDefined : List Definition → Type 0
AsDefined ds = (i : ℕ) (d : Definition) → slice_get ds i ≡ Some d → means ds i ≡ meaning_of (means ds) d
