use Rattle.std.proofs.Common.{rules, ◌≡◌, pos, ◌+ℤ◌, ◌*ℤ◌, ℤ, inl, inr, ⊎_elim, ap, ◌∙◌, w32, w64, SFits, to_z, of_z, arith, to_z-of_z}
use Rattle.std.proofs.lemmas.Int.{ints}
use Rattle.composition.proofs.Amounts.{one_added, all_added}
use Rattle.composition.proofs.composition.Composition.weighted.Goals as goal

pub loop-count-preserved : goal.loop-count-preserved
loop-count-preserved c =
    let fits : SFits w32 c.in-Some.amount.now = search rules in
    let is = c.product-sum.ensures.value ∙ ap (λ (x : ℤ). pos c.in-Some.count.now *ℤ x) (to_z-of_z fits) in
    let read : to_z w64 (of_z w64 (to_z w64 c.loop-count.sum-bits +ℤ to_z w64 (of_z w64 c.product-sum.result))) ≡ to_z w64 c.loop-count.sum-bits +ℤ c.product-sum.result =
    omega (arith, ints, c.loop-count.invariant.small, c.product-sum.ensures.size) in
    rw read
    (one_added c.in-Some.count.now c.in-Some.amount.now c.product-sum.result _ _ _ _ _ _ c.in-Some.ensures.steps.0 c.in-Some.ensures.steps.1 is c.product-sum.ensures.size c.loop-count.invariant)

pub returns-clause-value : goal.returns-clause-value
returns-clause-value c =
    all_added c.loop-count.count-iterator.a.rest.now c.loop-count.count-iterator.b.rest.now _ _
    (⊎_elim (λ first. inl first.1.0) (λ second. inr second.1.0) c.in-None.ensures.steps)
    c.loop-count.invariant
