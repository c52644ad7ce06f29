-- A sum names earlier rules only.
use Rattle.std.specs.Prelude.{◌≡◌, ℕ, ◌≤◌, ◌⊎◌, List, Some, slice_get}
use Rattle.rule_book.specs.declared.definition.Definition.{Definition}
use Rattle.rule_book.specs.declared.definition.Definition.TheVariants.{Listed, Head, Grid, Peak, Sum}

-- a sum of a rule that is not among the first so many
abbrev pub NamesLater : ℕ → Definition → Type 0
NamesLater rules (Sum left right) = (rules ≤ left) ⊎ (rules ≤ right)
NamesLater rules (Listed r) = ⊥
NamesLater rules (Head r) = ⊥
NamesLater rules (Grid r) = ⊥
NamesLater rules (Peak r) = ⊥

-- no definition names a rule that is not among those before it
abbrev pub Ordered : List Definition → Type 0
Ordered ds = (i : ℕ) (d : Definition) → slice_get ds i ≡ Some d → NamesLater i d → ⊥
