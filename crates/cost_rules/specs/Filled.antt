-- Filling a listed rule: the refusals with their grounds and their order, and what a rule holds afterwards.
use Rattle.std.specs.Prelude.{◌≡◌, ℕ, ◌<◌, ◌≤◌, List, [], ◌∷◌, length, ℤ, pos, Some, None, Ok, Err, Option, Result, ◌≢◌, slice_index_or}
use Rattle.composition.specs.Counts.{most, total, size, nobody}
use Rattle.cost_rules.specs.Limits.{Within}
use Rattle.cost_rules.specs.declared.listed.ListedRule.{ListedRule}
use Rattle.cost_rules.specs.declared.refusals.ListedRefusal.{ListedRefusal}
use Rattle.cost_rules.specs.declared.refusals.ListedRefusal.TheVariants.{BoxTooLarge, WrongLength, FirstNotZero, OutsideLimits}

-- every entry before a place lies within the limits
abbrev pub WithinBefore : List ℤ → ℕ → Type 0
WithinBefore table p = (q : ℕ) → q < p → Within (slice_index_or table q (pos 0))

-- the place of the first entry outside the limits, if there is one
abbrev pub FirstOutside : List ℤ → Option ℕ → Type 0
FirstOutside table (Some p) = (p < length table) × (Within (slice_index_or table p (pos 0)) → ⊥) × WithinBefore table p
FirstOutside table None = WithinBefore table (length table)

-- the ground of a refusal; none of those that go before it holds
abbrev pub Ground : List ℕ → List ℤ → ListedRefusal → Type 0
Ground box table BoxTooLarge = most < total box
Ground box table WrongLength = (total box ≤ most) × (length table ≢ size box)
Ground box table FirstNotZero = (total box ≤ most) × (length table ≡ size box) × (slice_index_or table 0 (pos 0) ≢ pos 0)
Ground box table (OutsideLimits p) = (total box ≤ most) × (length table ≡ size box) × (slice_index_or table 0 (pos 0) ≡ pos 0) × FirstOutside table (Some p)

-- the rule holds this box and this table
pub record Holds (rule : ListedRule) (box : List ℕ) (table : List ℤ) : Type 0 where
  pub box_is : rule.largest.counts ≡ box
  pub table_is : rule.table.now ≡ table

-- the rule to begin with: nobody costs nothing, and nobody else has a cost
abbrev pub BuiltIn : ListedRule → Type 0
BuiltIn rule = Holds rule nobody (pos 0 ∷ [])

-- filled, it holds the box and the table, which made a rule; refused, it is as it was
abbrev pub Filled : List ℕ → List ℤ → ListedRule → Result (Unit {0}) ListedRefusal → ListedRule → Type 0
Filled box table old (Ok done) new = Holds new box table
Filled box table old (Err e) new = Ground box table e × (new ≡ old)
