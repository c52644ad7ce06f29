use Rattle.std.proofs.Common.{◌≡◌, ℕ, ◌<◌, ◌-◌, List, take, get_or, ℤ, pos, Some, ap, subst, ◌∙◌, arith}
use Rattle.std.proofs.lemmas.List.{get_or-take}
use Rattle.std.specs.List.{slice_range}
use Rattle.cost_rules.specs.Filled.{FirstOutside}
use Rattle.cost_rules.specs.Limits.{Within}
use Rattle.shapley.proofs.cost_table.CostTable.new.Goals as goal

-- the entries that are looked at are the first of the costs
looked_at : (entries costs : List ℤ) (n : ℕ) → entries ≡ slice_range costs 0 n → entries ≡ take n costs
looked_at entries costs n e = e ∙ ap (λ m. take m costs) (omega arith)

pub returns-in-Some-first_outside : goal.returns-in-Some-first_outside
returns-in-Some-first_outside c =
    let (low, high, are, long) = c.in-Some.ensures.lookup.0 in
    let entries = looked_at c.in-Some.entries.now c.args.costs.now c.size.result are ∙ ap (λ n. take n c.args.costs.now) c.size.ensures in
    (omega (arith, high, c.size.ensures), subst (λ xs. FirstOutside xs (Some c.in-Some-first_outside.place)) entries c.in-Some-first_outside.ensures)

pub invariant_of-result : goal.invariant_of-result
invariant_of-result c =
    let (low, high, are, long) = c.in-Some.ensures.lookup.0 in
    let entries = looked_at c.in-Some.entries.now c.args.costs.now c.size.result are in
    let within = c.in_default-first_outside.ensures in
    let n = c.size.result in
    record {
      long = omega (arith, high, c.size.ensures);
      limits = λ p below.
          subst Within
          (ap (λ xs. get_or xs p (pos 0)) entries ∙ get_or-take n c.args.costs.now p (pos 0) (omega (arith, below, c.size.ensures)))
          (within p (omega (arith, below, long, c.size.ensures)));
    }
