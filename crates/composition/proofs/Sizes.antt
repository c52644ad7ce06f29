-- At most 24 homes have at most 2,401 groups among them: of four numbers with a given sum the product is greatest where they are equal.
use Rattle.std.proofs.Common.{◌≡◌, ℕ, ◌+◌, ◌-◌, ◌*◌, ◌<◌, ◌≤◌, List, length, slice_index, ◌⊎◌, inl, inr, mul-le-mul, arith}
use Rattle.std.proofs.lemmas.Bool.{cases_lt}
use Rattle.composition.proofs.Four.{split4, total_four}
use Rattle.composition.specs.Counts.{most, total, size}

apart : (x d : ℕ) → 4 * (x * (x + d)) ≤ (x + (x + d)) * (x + (x + d))
apart x d = omega arith

-- four times a product of two is at most the square of their sum
product_of_two : (x y : ℕ) → 4 * (x * y) ≤ (x + y) * (x + y)
product_of_two x y = go (cases_lt x y)
  where
    go : (x < y) ⊎ (y ≤ x) → 4 * (x * y) ≤ (x + y) * (x + y)
    go (inl less) = let e : y ≡ x + (y - x) = omega (arith, less) in rw e (apart x (y - x))
    go (inr more) = let e : x ≡ y + (x - y) = omega (arith, more) in rw e (let t = apart y (x - y) in omega (arith, t))

product_of_four : (w x y z : ℕ) → w + x + (y + z) ≤ 28 → w * (x * (y * z)) ≤ 2401
product_of_four w x y z few =
    let p = w + x in
    let q = y + z in
    let all : (p + q) * (p + q) ≤ 28 * 28 = mul-le-mul few few in
    let pq : p * q ≤ 196 = let two = product_of_two p q in omega (arith, two, all) in
    let both : 4 * (w * x) * (4 * (y * z)) ≤ p * p * (q * q) = mul-le-mul (product_of_two w x) (product_of_two y z) in
    let square : p * q * (p * q) ≤ 196 * 196 = mul-le-mul pq pq in
    omega (arith, both, square)

pub size_at_most : (ns : List ℕ) → length ns ≡ 4 → total ns ≤ most → size ns ≤ 2401
size_at_most ns four few =
    let bound =
    product_of_four (slice_index ns 0 + 1) (slice_index ns 1 + 1) (slice_index ns 2 + 1) (slice_index ns 3 + 1) (omega (arith, total_four ns four, few)) in
    rw (split4 0 ns four) (omega (arith, bound))
