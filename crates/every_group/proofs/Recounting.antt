-- The share by all groups is the Shapley value, and the one in a draft's line.
use Rattle.std.proofs.Common.{◌≡◌, ℕ, suc, ◌^◌, ◌<◌, ◌≤◌, List, ◌∷◌, length, slice_index_or, ℤ, pos, ◌*ℤ◌, Some, None, Option, sym, ap, ◌∙◌, subst, subst₂, arith}
use Rattle.composition.proofs.Changes.{lowered_raised}
use Rattle.composition.proofs.Places.{place_below}
use Rattle.composition.specs.Counts.{count, total, size, lowered, place, Inside}
use Rattle.composition.specs.Types.{position}
use Rattle.composition.specs.declared.demand_type.DemandType.{DemandType}
use Rattle.cost_rules.specs.Meanings.{Meaning}
use Rattle.shapley.proofs.Shapley.{homes_list, share_cong, share_is_shapley}
use Rattle.shapley.proofs.SubsetsToCounts.{length_is_total}
use Rattle.shapley.specs.Combinations.{factorial}
use Rattle.shapley.specs.CommonMultiple.{lcm_to}
use Rattle.shapley.specs.CostTables.{cost_in}
use Rattle.shapley.specs.Shares.{share}
use Rattle.shapley.specs.Subsets.{shapley_sum, counts_of}
use Rattle.shapley.specs.declared.cost_table.CostTable.{CostTable}
use Rattle.account.specs.Bills.{cost_by, cost_of, line_of, Line}
use Rattle.account.specs.Calls.{Accepted}
use Rattle.account.specs.Terms.{Terms}
use Rattle.account.specs.declared.account.Account.{Account}
use Rattle.account.specs.declared.draft.Draft.{Draft}
use Rattle.every_group.specs.ByGroups.{FromSubsets, OfTheOthers, SameShare}
use Rattle.every_group.specs.Going.{FromAll}
use Rattle.every_group.specs.declared.newcomer.Newcomer.{Newcomer}
use Rattle.every_group.specs.declared.by_groups.ByGroups.{ByGroups}

pub from_subsets : (t : CostTable) (k : DemandType) (r : ByGroups) → 0 < count (position k) t.homes.counts → FromAll t k r → OfTheOthers t.homes.counts k (FromSubsets t k r)
from_subsets t k r some from = record { a_list = homes_list t.homes.counts t.homes.four k some; of_each = of_each }
  where
    of_each : (others : List DemandType) → counts_of (k ∷ others) ≡ t.homes.counts → FromSubsets t k r others
    of_each others are =
        let n = suc (length others) in
        let fewer : lowered (position k) t.homes.counts ≡ counts_of others = ap (lowered (position k)) (sym are) ∙ lowered_raised (position k) (counts_of others) in
        let few : n ≤ 24 = omega (arith, ap total are, length_is_total (k ∷ others), t.homes.few) in
        record {
          every_group = from.groups_are ∙ ap (λ m. 2 ^ total m) fewer ∙ ap (λ (x : ℕ). 2 ^ x) (length_is_total others);
          shapley =
              ap (λ (x : ℤ). pos (factorial n) *ℤ x) from.share_is
              ∙ subst (λ counts. pos (factorial n) *ℤ share counts (position k) (cost_in t) ≡ pos (lcm_to n) *ℤ shapley_sum (λ s. cost_in t (counts_of s)) k others) are
              (share_is_shapley (cost_in t) k others few);
        }

-- entries of a draft's table, as another table has them
abbrev SameEntries : CostTable → List ℤ → Type 0
SameEntries t after = (p : ℕ) → p < size t.homes.counts → slice_index_or after p (pos 0) ≡ slice_index_or t.costs.now p (pos 0)

-- costs by the rule that a table was filled by are those in the table
costs_are : (terms : Terms) (f : Meaning) (a : Account) (before after : List ℤ) (d : Draft) (t : CostTable) → a.homes.counts ≡ t.homes.counts → Accepted terms f a before d after → SameEntries t after
    → (n : List ℕ) → Inside n t.homes.counts → cost_by f n ≡ cost_in t n
costs_are terms f a before after d t same accepted entries n inside =
    let within : Inside n a.homes.counts = subst (Inside n) (sym same) inside in
    ap cost_of (accepted.filled.costs n within (place_below a.homes.counts n within)) ∙ ap (λ counts. slice_index_or after (place counts n) (pos 0)) same
    ∙ entries (place t.homes.counts n) (place_below t.homes.counts n inside)

pub as_drafted :
    (t : CostTable) (k : DemandType) (r : ByGroups) → 0 < count (position k) t.homes.counts → FromAll t k r
    → (terms : Terms) (f : Meaning) (a : Account) (before after : List ℤ) (d : Draft)
    → a.homes.counts ≡ t.homes.counts
    → Accepted terms f a before d after
    → SameEntries t after
    → SameShare (Some r) (line_of d k)
as_drafted t k r some from terms f a before after d same accepted entries =
    go (line_of d k) (subst (λ counts. Line (count (position k) counts) (share counts (position k) (cost_by f)) (line_of d k)) same (accepted.billed.lines k))
  where
    go : (line : Option (ℤ × ℤ)) → Line (count (position k) t.homes.counts) (share t.homes.counts (position k) (cost_by f)) line → SameShare (Some r) line
    go None none = absurd (omega (arith, none, some))
    go (Some line) is =
        from.share_is
        ∙ share_cong t.homes.counts (position k) (cost_in t) (cost_by f) some (λ n inside. sym (costs_are terms f a before after d t same accepted entries n inside))
        ∙ sym is.1

-- what is said of a newcomer is said of the table and the type that it was made of
pub of_newcomer : (t : CostTable) (k : DemandType) (h : Newcomer) (r : ByGroups) → h.table ≡ t → h.of ≡ k → FromAll h.table h.of r
    → (0 < count (position k) t.homes.counts) × FromAll t k r
of_newcomer t k h r is_table is_type from =
    subst₂ (λ t k. (0 < count (position k) t.homes.counts) × FromAll t k r) is_table is_type (h.some, from)
