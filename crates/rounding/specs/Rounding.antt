-- What it means to divide an amount, which may be negative, and to round the quotient to a whole number.
use Rattle.std.specs.Prelude.{ℕ, ℤ, pos, ◌+ℤ◌, ◌-ℤ◌, ◌*ℤ◌, ◌≤ℤ◌, ◌<ℤ◌}

-- q is the least whole number not below amount / divisor
pub record RoundedUp (amount : ℤ) (divisor : ℕ) (q : ℤ) : Type 0 where
  pub below : (pos divisor *ℤ (q -ℤ pos 1)) <ℤ amount
  pub reaches : amount ≤ℤ (pos divisor *ℤ q)

-- q is the greatest whole number not above amount / divisor
pub record RoundedDown (amount : ℤ) (divisor : ℕ) (q : ℤ) : Type 0 where
  pub within : (pos divisor *ℤ q) ≤ℤ amount
  pub beyond : amount <ℤ (pos divisor *ℤ (q +ℤ pos 1))
