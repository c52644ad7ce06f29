-- The least common multiple of 1 to n, the number that all shares among n homes are fractions over.
use Rattle.std.specs.Prelude.{◌≡◌, ℕ, zero, suc, ◌*◌, ◌/◌, ◌%◌, ◌≤◌}

-- the first number divides the second
abbrev pub Divides : ℕ → ℕ → Type 0
Divides d n = (q : ℕ) × (q * d ≡ n)

-- what it is to be the least common multiple of 1 to n: each of them divides it, and it divides every number that each of them divides
pub record LeastCommonMultiple (n l : ℕ) : Type 0 where
  pub common : (k : ℕ) → 1 ≤ k → k ≤ n → Divides k l
  pub least : (m : ℕ) → ((k : ℕ) → 1 ≤ k → k ≤ n → Divides k m) → Divides l m

-- the greatest common divisor, by Euclid's steps, of which the first number allows enough
abbrev pub gcd_steps : ℕ → ℕ → ℕ → ℕ
gcd_steps zero a b = a
gcd_steps (suc steps) a zero = a
gcd_steps (suc steps) a (suc b) = gcd_steps steps (suc b) (a % suc b)

-- a remainder is below what it is left by, so b + 1 steps are enough
abbrev pub gcd : ℕ → ℕ → ℕ
gcd a b = gcd_steps (suc b) a b

-- the least common multiple of 1 to n
abbrev pub lcm_to : ℕ → ℕ
lcm_to zero = 1
lcm_to (suc n) = lcm_to n / gcd (lcm_to n) (suc n) * suc n
