-- Facts of factorials and of binomial coefficients, over ℕ.
-- A factorial of what is left over is stated by the rest r itself, where k + r is the whole, and never by a difference.
use Rattle.std.proofs.Common.{◌≡◌, ℕ, zero, suc, ◌+◌, ◌*◌, ◌^◌, ◌<◌, ◌≤◌, List, [], ◌∷◌, sym, refl, ap, ◌∙◌, subst, add-zero, add_assoc, mul_assoc, mul_comm, add-mul, mul-le-mul, add_comm, mul-pos, one-mul, zero-add, mul-one, mul-add, mul_left_comm, arith, pow-add}
use native.Mathlib.Nat.{add_left_comm, one-le-pow, two-pow-succ}
use Rattle.composition.specs.Counts.{total}
use Rattle.shapley.specs.Combinations.{factorial, choose, ways}

-- `simp ringℕ` brings both sides of an equation over plain variables to the same sum of products
pub ruleset ringℕ = (mul-add, add-mul, mul_assoc, mul_comm, mul_left_comm, add_assoc, add_comm, add_left_comm)

pub factorial_pos : (n : ℕ) → 0 < factorial n
factorial_pos zero = omega arith
factorial_pos (suc n) = mul-pos (omega arith) (factorial_pos n)

-- no way to pick more than there are
pub choose_above : (n j : ℕ) → n < j → choose n j ≡ 0
choose_above n zero h = absurd (omega arith)
choose_above zero (suc j) h = refl
choose_above (suc n) (suc j) h =
    let a : choose n j ≡ 0 = choose_above n j (omega arith) in
    let b : choose n (suc j) ≡ 0 = choose_above n (suc j) (omega arith) in
    omega arith

pub choose_pos : (n j : ℕ) → j ≤ n → 0 < choose n j
choose_pos n zero h = omega arith
choose_pos zero (suc j) h = absurd (omega arith)
choose_pos (suc n) (suc j) h = let a : 0 < choose n j = choose_pos n j (omega arith) in omega arith

-- one way to pick all
pub choose_self : (n : ℕ) → choose n n ≡ 1
choose_self zero = refl
choose_self (suc n) =
    let a : choose n n ≡ 1 = choose_self n in let b : choose n (suc n) ≡ 0 = choose_above n (suc n) (omega arith) in omega arith

all_picked : (s a b x : ℕ) → b ≡ 0 → (a + b) * (s * x * 1) ≡ s * (a * (x * 1))
all_picked s a b x z = simp (z, add-zero, mul-one, mul_left_comm)

two_parts : (a b s t x y : ℕ) → (a + b) * (s * x * (t * y)) ≡ s * (a * (x * (t * y))) + t * (b * (s * x * y))
two_parts a b s t x y = simp ringℕ

-- a pick of k out of n: the orders of the picked, of the rest, and the choice give each order of all once
choose_orders : (n k r : ℕ) → k + r ≡ n → choose n k * (factorial k * factorial r) ≡ factorial n
choose_orders n zero r e = one-mul (1 * factorial r) ∙ one-mul (factorial r) ∙ ap factorial (sym (zero-add r) ∙ e)
choose_orders zero (suc k) r e = absurd (omega arith)
choose_orders (suc n) (suc k) zero e =
    all_picked (suc k) (choose n k) (choose n (suc k)) (factorial k) (choose_above n (suc k) (omega arith))
    ∙ ap (λ (x : ℕ). suc k * x) (choose_orders n k zero (omega arith)) ∙ ap (λ (x : ℕ). suc x * factorial n) (omega arith)
choose_orders (suc n) (suc k) (suc r) e =
    two_parts (choose n k) (choose n (suc k)) (suc k) (suc r) (factorial k) (factorial r)
    ∙ ap (λ (x : ℕ). suc k * x + suc r * (choose n (suc k) * (suc k * factorial k * factorial r))) (choose_orders n k (suc r) (omega arith))
    ∙ ap (λ (x : ℕ). suc k * factorial n + suc r * x) (choose_orders n (suc k) r (omega arith))
    ∙ sym (add-mul (suc k) (suc r) (factorial n)) ∙ ap (λ (x : ℕ). x * factorial n) e

pub choose_factorials : (k r : ℕ) → choose (k + r) k * (factorial k * factorial r) ≡ factorial (k + r)
choose_factorials k r = choose_orders (k + r) k r refl

pub choose_le_power : (n j : ℕ) → choose n j ≤ 2 ^ n
choose_le_power n zero = one-le-pow n 2 (omega arith)
choose_le_power zero (suc j) = omega arith
choose_le_power (suc n) (suc j) =
    let a : choose n j ≤ 2 ^ n = choose_le_power n j in
    let b : choose n (suc j) ≤ 2 ^ n = choose_le_power n (suc j) in
    omega (arith, two-pow-succ n)

pub ways_le_power : (ms ns : List ℕ) → ways ms ns ≤ 2 ^ total ms
ways_le_power [] ns = omega arith
ways_le_power (m ∷ ms) [] = one-le-pow (m + total ms) 2 (omega arith)
ways_le_power (m ∷ ms) (n ∷ ns) =
    subst (λ (x : ℕ). choose m n * ways ms ns ≤ x) (sym (pow-add 2 m (total ms))) (mul-le-mul (choose_le_power m n) (ways_le_power ms ns))
