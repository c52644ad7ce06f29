-- Sums and products of amounts over the homes of a group: what they come to, and that they fit.
use Rattle.std.proofs.Common.{◌≡◌, ℕ, suc, ◌+◌, ◌-◌, ◌*◌, ◌^◌, ◌<◌, ◌≤◌, List, [], ◌∷◌, length, get_or, ℤ, pos, negsuc, ◌+ℤ◌, ◌*ℤ◌, neg_ℤ, ◌≤ℤ◌, ◌⊎◌, inl, inr, sym, ◌∙◌, add-mul, mul-le-mul, arith, w32, w64, SFits, to_z, of_z}
use lib.IntN.{+ℤ_assoc, +ℤ_idr, zero-*ℤ}
use mir.Syntax.{Width}
use mir.Val.{hbits}
use Rattle.std.proofs.lemmas.Int.{ints}
use Rattle.rounding.proofs.Integers.{scale_≤, *ℤ_negℤ}
use Rattle.composition.specs.Amounts.{weighted, Between}
use Rattle.composition.specs.Counts.{total, nobody}
use Rattle.composition.proofs.Four.{split4}

-- a number as it is read again from its bits
abbrev pub Read : ℤ → ℤ
Read z = to_z w64 (of_z w64 z)

-- what is between a bound and its negation fits a width that the bound fits
pub between_fits : (w : Width) (b : ℕ) (z : ℤ) → b < 2 ^ hbits w → Between b z → SFits w z
between_fits w b (pos n) h k = record { sfits = omega (arith, ints) }
between_fits w b (negsuc n) h k = record { sfits = omega (arith, ints) }

-- two amounts together stay between the sum of their bounds and its negation
sum_between : (a b : ℤ) (p q s : ℕ) → Between p a → Between q b → s ≡ p + q → Between s (a +ℤ b)
sum_between a b p q s f g e = (omega (arith, ints, f.0, g.0, e), omega (arith, ints, f.1, g.1, e))

-- a count of at most a times an amount between -b and b stays between -(a × b) and a × b
pub product_bounds : (n : ℕ) (p : ℤ) (a b : ℕ) → n ≤ a → neg_ℤ (pos b) ≤ℤ p → p ≤ℤ pos b → Between (a * b) (pos n *ℤ p)
product_bounds n p a b k low high =
    (under (pos n *ℤ p) (rw (*ℤ_negℤ (pos n) (pos b)) at (scale_≤ n (neg_ℤ (pos b)) p low)), over (pos n *ℤ p) (scale_≤ n p (pos b) high))
  where
    more : n * b ≤ a * b
    more = mul-le-mul k (omega arith)

    under : (x : ℤ) → neg_ℤ (pos (n * b)) ≤ℤ x → neg_ℤ (pos (a * b)) ≤ℤ x
    under x h = omega (arith, ints, more)

    over : (x : ℤ) → x ≤ℤ pos (n * b) → x ≤ℤ pos (a * b)
    over x h = omega (arith, ints, more)

-- the product of two numbers that are read again: x is the count, and y the amount
pub product_read : (n : ℕ) (p x y : ℤ) → n ≤ 255 → SFits w32 p → x ≡ pos n → y ≡ p → (x *ℤ y ≡ pos n *ℤ p) × Between 547608330240 (x *ℤ y)
product_read n p x y k f ex ey =
    let e : x *ℤ y ≡ pos n *ℤ p = cc in
    (e, rw e (product_bounds n p 255 2147483648 k (omega (arith, ints)) (omega (arith, ints))))

-- what a group has of the types that were gone through, where these counts and amounts are left of four: no more, on either side, than 255 × 2 ^ 31 for each
pub record AddedUp (ns : List ℕ) (xs : List ℤ) (whole sum : ℤ) : Type 0 where
  pub makes : sum +ℤ weighted ns xs ≡ whole
  pub left : length ns ≤ 4
  pub small : Between ((4 - length ns) * 547608330240) sum

pub one_added :
    (n : ℕ) (x p whole sum : ℤ) (ns rest : List ℕ) (xs more : List ℤ)
    → ns ≡ n ∷ rest
    → xs ≡ x ∷ more
    → p ≡ pos n *ℤ x
    → Between 547608330240 p
    → AddedUp ns xs whole sum
    → AddedUp rest more whole (sum +ℤ p)
one_added n x p whole sum ns rest xs more en ex is b so_far =
    let before = rw (en, ex) at so_far in
    let k = length rest in
    record {
      makes = +ℤ_assoc sum p (weighted rest more) ∙ rw is before.makes;
      left = omega (arith, before.left);
      small = sum_between sum p ((4 - suc k) * 547608330240) 547608330240 ((4 - k) * 547608330240) before.small b (omega (arith, before.left));
    }

-- with none left, the sum is the whole
pub all_added : (ns : List ℕ) (xs : List ℤ) (whole sum : ℤ) → (length ns ≡ 0) ⊎ (length xs ≡ 0) → AddedUp ns xs whole sum → sum ≡ whole
all_added [] xs whole sum none s = sym (+ℤ_idr sum) ∙ s.makes
all_added (n ∷ ns) [] whole sum none s = sym (+ℤ_idr sum) ∙ s.makes
all_added (n ∷ ns) (x ∷ xs) whole sum (inl none) s = absurd (omega arith)
all_added (n ∷ ns) (x ∷ xs) whole sum (inr none) s = absurd (omega arith)

-- amounts of at most m, on either side, come to at most m for each home
pub weighted_between :
    (m : ℕ) (ns : List ℕ) (xs : List ℤ)
    → ((i : ℕ) → i < length xs → Between m (get_or xs i (pos 0)))
    → Between (total ns * m) (weighted ns xs)
weighted_between m [] xs h = (omega (arith, ints), omega (arith, ints))
weighted_between m (n ∷ ns) [] h = (omega (arith, ints), omega (arith, ints))
weighted_between m (n ∷ ns) (x ∷ xs) h =
    let here = h 0 (omega arith) in
    let first : Between (n * m) (pos n *ℤ x) = product_bounds n x n m (omega arith) here.0 here.1 in
    let rest : Between (total ns * m) (weighted ns xs) = weighted_between m ns xs (λ i k. h (suc i) (omega arith)) in
    sum_between (pos n *ℤ x) (weighted ns xs) (n * m) (total ns * m) ((n + total ns) * m) first rest (add-mul n (total ns) m)

-- no homes have no amount
pub weighted_nobody : (xs : List ℤ) → length xs ≡ 4 → weighted nobody xs ≡ pos 0
weighted_nobody xs e = rw (split4 (pos 0) xs e) (simp zero-*ℤ)
