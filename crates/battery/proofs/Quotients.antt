-- Quotients, rounded down and up, as the greatest and the least number with a property.
use Rattle.std.proofs.Common.{ℕ, ◌+◌, ◌-◌, ◌*◌, ◌/◌, ◌<◌, ◌≤◌, min, mul-le-mul_right, add-mul, div-mul-le_self, arith}
use native.Mathlib.Nat.{lt-div-mul-add}
use Rattle.std.proofs.lemmas.Nat.{div_below, le-div}
use Rattle.battery.specs.Energy.{Greatest, Least}
use Rattle.battery.specs.Steps.{up}

-- a hundredth rounded down
pub down_greatest : (a : ℕ) → Greatest (λ r. 100 * r ≤ a) (a / 100)
down_greatest a = record { has = omega arith; most = λ y within. omega arith }

-- of the numbers up to l and up to m, the greatest whose multiple stays within r
pub clipped : (l m r k : ℕ) → 0 < k → Greatest (λ a. (a ≤ l) × (a ≤ m) × (a * k ≤ r)) (min l (min m (r / k)))
clipped l m r k p = record {
  has =
      let low : min l (min m (r / k)) ≤ r / k = omega arith in
      (omega arith, omega arith, omega (arith, mul-le-mul_right k low, div-mul-le_self r k));
  most = λ y can. omega (arith, can.0, can.1, le-div y r k p can.2);
}

-- a quotient rounded up reaches the dividend, and is the least that does
pub up_least : (a b : ℕ) → 0 < b → Least (λ f. a ≤ f * b) (up a b)
up_least a b p = record {
  has = omega (arith, lt-div-mul-add {a = a + (b - 1)} p);
  least = λ y reaches. omega (arith, div_below (a + (b - 1)) b (y + 1) p (omega (arith, add-mul y 1 b)));
}
