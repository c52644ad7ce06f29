-- All homes lie inside themselves, so they have a place in the table.
use Rattle.std.proofs.Common.{◌≡◌, ℕ, ◌<◌, length, get_or, ℤ, pos, ap, ◌∙◌, arith, w32, w64, to_z, of_z, rules}
use Rattle.std.proofs.lemmas.Int.{ints}
use Rattle.composition.proofs.Places.{inside_self}
use Rattle.cost_rules.specs.Limits.{Within}
use Rattle.account.proofs.draft.billing_homes.cost_of_all.Goals as goal

pub bounds-costs-place : goal.bounds-costs-place
bounds-costs-place c = omega (arith, c.place.ensures.within (inside_self _), c.args.costs.now.long)

pub offset_bounds-costs-place : goal.offset_bounds-costs-place
offset_bounds-costs-place c =
    let below : c.place.result < length c.args.costs.now.costs.now = omega (arith, c.place.ensures.within (inside_self _), c.args.costs.now.long) in
    search rules

-- the cost there is within the limits
within : (c : goal.After-result-1) → Within (get_or c.args.costs.now.costs.now c.place.result (pos 0))
within c = c.args.costs.now.limits c.place.result (c.place.ensures.within (inside_self _))

pub overflow_cast-result : goal.overflow_cast-result
overflow_cast-result c = omega (arith, ints, (within c).0, (within c).1)

-- so it is the same in 32 bits as in 64
pub returns : goal.returns
returns c =
    narrowed _ (within c) ∙ ap (λ (p : ℕ). get_or c.args.costs.now.costs.now p (pos 0)) c.place.ensures.value
  where
    narrowed : (z : ℤ) → Within z → to_z w32 (of_z w32 (to_z w64 (of_z w64 z))) ≡ z
    narrowed z small = omega (arith, ints, small.0, small.1)
