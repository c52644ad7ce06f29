-- Both ways out cite the law of the quotient and the remainder, at the numbers that the calls were passed.
use Rattle.std.proofs.Common.{◌≡◌, pos, ◌+ℤ◌, ◌≤ℤ◌, sym, subst, arith, w64, to_z, of_z}
use Rattle.std.proofs.lemmas.Int.{ints}
use Rattle.rounding.specs.Rounding.{RoundedUp}
use Rattle.rounding.proofs.Euclid.{past_answered, exact_answered}
use Rattle.rounding.proofs.RoundingLaws.{up_no_larger}
use Rattle.rounding.proofs.round.round_up.Goals as goal

pub returns-then-left_over : goal.returns-then-left_over
returns-then-left_over c =
    let up : RoundedUp c.args.amount c.args.by.value (c.div_euclid-whole.result +ℤ pos 1) =
    past_answered _ _ _ _ c.rem_euclid-left_over.result _ c.args.by.positive (omega (arith, ints)) (omega (arith, ints)) c.div_euclid-whole.ensures c.rem_euclid-left_over.ensures.value (omega (arith, ints)) in
    let high : (c.div_euclid-whole.result +ℤ pos 1) ≤ℤ pos 9223372036854775807 = up_no_larger _ _ _ _ c.args.by.positive (omega (arith, ints)) up in
    let e : to_z w64 (of_z w64 (to_z w64 (of_z w64 c.div_euclid-whole.result) +ℤ pos 1)) ≡ c.div_euclid-whole.result +ℤ pos 1 = omega (arith, ints) in
    subst (RoundedUp c.args.amount c.args.by.value) (sym e) up

pub returns-else-left_over : goal.returns-else-left_over
returns-else-left_over c =
    let up : RoundedUp c.args.amount c.args.by.value c.div_euclid-whole.result =
    exact_answered _ _ _ _ c.rem_euclid-left_over.result _ c.args.by.positive (omega (arith, ints)) (omega (arith, ints)) c.div_euclid-whole.ensures c.rem_euclid-left_over.ensures.value (omega (arith, ints)) in
    let e : to_z w64 (of_z w64 c.div_euclid-whole.result) ≡ c.div_euclid-whole.result = omega (arith, ints) in
    subst (RoundedUp c.args.amount c.args.by.value) (sym e) up
