-- Counting: factorials, binomial coefficients, and in how many ways a group can be picked.
use Rattle.std.specs.Prelude.{ℕ, zero, suc, ◌+◌, ◌*◌, List, [], ◌∷◌}

-- the number of orders of n things
abbrev pub factorial : ℕ → ℕ
factorial zero = 1
factorial (suc n) = suc n * factorial n

-- the number of ways to pick j of n things, by Pascal's rule
abbrev pub choose : ℕ → ℕ → ℕ
choose n zero = 1
choose zero (suc j) = 0
choose (suc n) (suc j) = choose n j + choose n (suc j)

-- the number of ways to pick a group with the second counts out of homes with the first
abbrev pub ways : List ℕ → List ℕ → ℕ
ways [] ns = 1
ways (m ∷ ms) [] = 1
ways (m ∷ ms) (n ∷ ns) = choose m n * ways ms ns
