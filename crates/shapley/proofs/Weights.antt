-- The weights leave nothing over, and what follows for factorials and along a row.
use Rattle.std.proofs.Common.{Option, Some, None, is_some, true, false, IfSome, refl, ◌≡◌, ℕ, suc, ◌+◌, ◌-◌, ◌*◌, ◌<◌, ◌≤◌, Bool, eqb, sym, ap, ◌∙◌, mul_assoc, mul_comm, mul-one, div-le_self, mul_left_comm, arith}
use Rattle.std.proofs.lemmas.Bool.{eqb-true}
use native.Mathlib.Nat.{eq_of_mul-eq-mul_right}
use Rattle.shapley.proofs.Combinatorics.{choose_factorials}
use Rattle.shapley.proofs.Tests.{each_below, at}
use Rattle.shapley.specs.Combinations.{factorial, choose}
use Rattle.shapley.specs.CommonMultiple.{lcm_to}
use Rattle.shapley.specs.Tables.{LookedUp}
use Rattle.shapley.specs.Weights.{weight, HasWeight, WeightsAreExact}

-- the weight of one entry times its divisor gives the least common multiple back
exact : ℕ → ℕ → Bool
exact n j = eqb (weight n j * (n * choose (n - 1) j)) (lcm_to n)

-- one test of all rows
all_exact : each_below 25 (λ n. each_below n (exact n)) ≡ true
unfolding exact
all_exact = refl

pub weights_are_exact : WeightsAreExact
unfolding exact
weights_are_exact n j has =
    eqb-true (weight n j * (n * choose (n - 1) j)) (lcm_to n)
    (at n (exact n) (at 25 (λ m. each_below m (exact m)) all_exact n (omega (arith, has.1))) j has.2)

-- what looking a weight up answers, where it answers exactly if there is one
pub looked_up : (n j : ℕ) (r : Option ℕ) → (is_some r ≡ true → HasWeight n j) → (HasWeight n j → is_some r ≡ true) → IfSome r (λ w. w ≡ weight n j) → LookedUp n j r
looked_up n j None only always e = λ has. (let h : false ≡ true = always has in absurd (cc))
looked_up n j (Some w) only always e = let has : HasWeight n j = only refl in (has, e, rw e (weights_are_exact n j has))

pub weight_le_lcm : (n j : ℕ) → weight n j ≤ lcm_to n
weight_le_lcm n j = div-le_self (lcm_to n) (n * choose (n - 1) j)

-- the weight of a group of k is its part of the orders: k! r! out of (k + r + 1)!
pub weight_factorials : (k r : ℕ) → suc (k + r) ≤ 24 → factorial (suc (k + r)) * weight (suc (k + r)) k ≡ lcm_to (suc (k + r)) * (factorial k * factorial r)
weight_factorials k r h =
    ap (λ (x : ℕ). suc (k + r) * x * weight (suc (k + r)) k) (sym (choose_factorials k r))
    ∙ regroup (suc (k + r)) (choose (k + r) k) (factorial k * factorial r) (weight (suc (k + r)) k)
    ∙ ap (λ (x : ℕ). x * (factorial k * factorial r)) (ap (λ (x : ℕ). weight (suc (k + r)) k * (suc (k + r) * choose x k)) one_less ∙ weights_are_exact (suc (k + r)) k (omega arith, h, omega arith))
  where
    regroup : (n c f w : ℕ) → n * (c * f) * w ≡ w * (n * c) * f
    regroup n c f w = simp (mul_assoc, mul_comm, mul_left_comm)

    one_less : k + r ≡ suc (k + r) - 1
    one_less = omega arith

-- the least common multiple is n times the weight of the empty group
pub lcm_from_row : (n : ℕ) → 1 ≤ n → n ≤ 24 → lcm_to n ≡ n * weight n 0
lcm_from_row n p q =
    sym (weights_are_exact n 0 (p, q, p)) ∙ ap (λ (x : ℕ). weight n 0 * x) (mul-one n) ∙ mul_comm (weight n 0) n

-- along a row, the weights of all groups of j together are the same for every j
pub row_starts : (n j : ℕ) → 1 ≤ n → n ≤ 24 → j < n → weight n 0 ≡ weight n j * choose (n - 1) j
row_starts n j p q r =
    eq_of_mul-eq-mul_right n p (weight n 0) (weight n j * choose (n - 1) j)
    (mul_comm (weight n 0) n ∙ sym (lcm_from_row n p q) ∙ sym (weights_are_exact n j (p, q, r)) ∙ regroup (weight n j) n (choose (n - 1) j))
  where
    regroup : (w n c : ℕ) → w * (n * c) ≡ w * c * n
    regroup w n c = simp (mul_assoc, mul_comm)
