-- In how many orders a group and those who stay out of it can come.
use Rattle.std.proofs.Common.{le_refl, ◌≡◌, ℕ, suc, ◌+◌, ◌-◌, ◌*◌, ◌≤◌, List, ℤ, pos, ◌*ℤ◌, neg_ℤ, ◌≤ℤ◌, sym, refl, ap, ◌∙◌, subst, mul-le-mul, le_trans, mul_comm, arith, Ok, Err, Result}
use Rattle.std.specs.Result.{IsOk}
use Rattle.std.proofs.Math.Nat.{le-mul_of_pos_right}
use Rattle.std.proofs.lemmas.Int.{ints}
use Rattle.composition.specs.Amounts.{Between}
use Rattle.composition.specs.Counts.{most, total}
use Rattle.composition.specs.Made.{Made}
use Rattle.composition.specs.declared.composition.Composition.{Composition}
use Rattle.composition.specs.declared.refusals.TooManyHomes.{TooManyHomes}
use Rattle.cost_rules.specs.Limits.{limit}
use Rattle.rounding.proofs.Integers.{*ℤ_negℤ, scale_≤}
use Rattle.shapley.proofs.Combinatorics.{choose_factorials, choose_pos, factorial_pos}
use Rattle.shapley.specs.Combinations.{factorial, choose}

-- ---- orders

products_within : (a b : ℕ) → factorial a * factorial b ≤ factorial (a + b)
products_within a b =
    subst (λ y. factorial a * factorial b ≤ y) (mul_comm (factorial a * factorial b) (choose (a + b) a) ∙ choose_factorials a b)
    (le-mul_of_pos_right (factorial a * factorial b) (choose_pos (a + b) a (omega arith)))

pub factorial_mono : (a b : ℕ) → a ≤ b → factorial a ≤ factorial b
factorial_mono a b p =
    let whole : a + (b - a) ≡ b = omega (arith, p) in
    le_trans (le-mul_of_pos_right (factorial a) (factorial_pos (b - a))) (subst (λ x. factorial a * factorial (b - a) ≤ factorial x) whole (products_within a (b - a)))

pub few_orders : (a b : ℕ) → a + b ≤ most → factorial a * factorial b ≤ factorial most
few_orders a b p = le_trans (products_within a b) (factorial_mono (a + b) most p)

-- one home more before those who stay out
pub next_order : (f a o n : ℕ) → n ≡ suc a → f ≡ factorial a * o → f * n ≡ factorial n * o
next_order f a o n e g = rw (e, g) (regroup (factorial a) o (suc a))
  where
    regroup : (x y z : ℕ) → x * y * z ≡ z * x * y
    regroup x y z = omega arith

-- among 24 homes there is room for one
pub has_room : (ns : List ℕ) (r : Result Composition TooManyHomes) → Made ns r → total ns ≤ most → IsOk r
has_room ns (Ok c) made few = refl
has_room ns (Err e) made few = absurd (omega (arith, made, few))

-- what is made has the counts that were asked for
pub made_is : (ns : List ℕ) (r : Result Composition TooManyHomes) (c : Composition) → Made ns r → r ≡ Ok c → c.counts ≡ ns
made_is ns r c made e = subst (Made ns) e made

-- ---- behind one group

pub all_orders : (f a b others : ℕ) → f ≡ factorial a * factorial b → a + b ≡ others → f ≡ factorial a * factorial (others - a)
all_orders f a b others e whole = e ∙ ap (λ (x : ℕ). factorial a * factorial x) (omega (arith, whole))

-- what is added in few orders fits
pub added_fits : (f a b : ℕ) (z : ℤ) → f ≡ factorial a * factorial b → a + b ≤ most → Between (2 * limit) z → Between (2 * limit * factorial most) (pos f *ℤ z)
added_fits f a b z e few (low, high) =
    let most_orders : f * (2 * limit) ≤ factorial most * (2 * limit) = mul-le-mul (subst (λ (x : ℕ). x ≤ factorial most) (sym e) (few_orders a b few)) (le_refl (2 * limit)) in
    let s : (pos f *ℤ neg_ℤ (pos (2 * limit))) ≤ℤ (pos f *ℤ z) = scale_≤ f (neg_ℤ (pos (2 * limit))) z low in
    let t : (pos f *ℤ z) ≤ℤ pos (f * (2 * limit)) = scale_≤ f z (pos (2 * limit)) high in
    let u : pos f *ℤ neg_ℤ (pos (2 * limit)) ≡ neg_ℤ (pos (f * (2 * limit))) = *ℤ_negℤ (pos f) (pos (2 * limit)) in
    (omega (arith, ints, s, u, most_orders), omega (arith, ints, t, most_orders))
