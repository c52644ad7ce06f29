-- Euclid's steps give the greatest common divisor, and so `lcm_to` the least common multiple.
use Rattle.std.proofs.Common.{inl, inr, ◌≡◌, ℕ, zero, suc, ◌+◌, ◌*◌, ◌/◌, ◌%◌, ◌<◌, ◌≤◌, leb, ◌⊎◌, sym, refl, ap, ◌∙◌, subst, mod-lt, mul_assoc, mul_comm, add-mul, mul-pos, one-mul, mul-zero, zero-mul, div-add-mod', mul-add, mul_left_comm, mul-one, arith}
use Rattle.std.proofs.lemmas.Bool.{leb-true}
use native.Mathlib.Nat.{le-suc_iff, dvd_trans, dvd-mul_left, dvd-mul_right_of_dvd, dvd-add_iff_right, mul-dvd-mul_left, mul-dvd-mul_right, dvd_of_mul-dvd-mul_left, div-mul_cancel}
use Rattle.std.specs.Int.{◌∣◌, IsGcd}
use Rattle.std.proofs.lemmas.Nat.Gcd.{IsGcd-from_zero, IsGcd-from_mod}
use Rattle.shapley.proofs.Tests.{at}
use Rattle.shapley.specs.CommonMultiple.{Divides, LeastCommonMultiple, gcd_steps, gcd, lcm_to}

-- std's word for it says that there is a quotient, and ours which
to_dvd : (d n : ℕ) → Divides d n → d ∣ n
to_dvd d n (q, e) = subst (λ (x : ℕ). d ∣ x) e (dvd-mul_left d q)

from_dvd : (d n : ℕ) → d ∣ n → Divides d n
from_dvd d n h = (n / d, div-mul_cancel d h)

-- ---- the greatest common divisor

less : (a b steps : ℕ) → suc b < suc steps → a % suc b < steps
less a b steps h = let k : a % suc b < suc b = mod-lt a (omega arith) in omega arith

-- each remainder is below the one before, so more steps than b are enough
euclid : (steps a b : ℕ) → b < steps → IsGcd a b (gcd_steps steps a b)
euclid zero a b h = absurd (omega arith)
euclid (suc steps) a zero h = IsGcd-from_zero a 0 refl
euclid (suc steps) a (suc b) h =
    IsGcd-from_mod a (suc b) (gcd_steps steps (suc b) (a % suc b)) (euclid steps (suc b) (a % suc b) (less a b steps h))

pub divides_trans : (a b c : ℕ) → Divides a b → Divides b c → Divides a c
divides_trans a b c (p, h) (q, k) = (q * p, mul_assoc q p a ∙ ap (λ (x : ℕ). q * x) h ∙ k)

-- the number g divides a and b, and is a difference of multiples of them, one way round or the other
pub record GreatestCommonDivisor (a b g : ℕ) : Type 0 where
  pub left : Divides g a
  pub right : Divides g b
  pub s : ℕ
  pub t : ℕ
  pub combined : (s * a ≡ t * b + g) ⊎ (t * b ≡ s * a + g)

-- a step of Euclid's, taken back: what divides b and the rest of a divides a, and a combination of them is one of a and b
step_back : (a b q r g : ℕ) → q * b + r ≡ a → GreatestCommonDivisor b r g → GreatestCommonDivisor a b g
step_back a b q r g e c =
    record {
      left = whole c.left c.right;
      right = c.left;
      s = c.t;
      t = c.s + c.t * q;
      combined = turned c.s c.t c.combined;
    }
  where
    whole : Divides g b → Divides g r → Divides g a
    whole (u, h) (v, k) =
        (q * u + v, add-mul (q * u) v g ∙ ap (λ (x : ℕ). x + v * g) (mul_assoc q u g ∙ ap (λ (x : ℕ). q * x) h) ∙ ap (λ (x : ℕ). q * b + x) k ∙ e)

    more : (s t : ℕ) → (s + t * q) * b ≡ s * b + t * (q * b)
    more s t = add-mul s (t * q) b ∙ ap (λ (x : ℕ). s * b + x) (mul_assoc t q b)

    all : (t : ℕ) → t * a ≡ t * (q * b) + t * r
    all t = ap (λ (x : ℕ). t * x) (sym e) ∙ mul-add t (q * b) r

    turned : (s t : ℕ) → (s * b ≡ t * r + g) ⊎ (t * r ≡ s * b + g) → (t * a ≡ (s + t * q) * b + g) ⊎ ((s + t * q) * b ≡ t * a + g)
    turned s t (inl h) = inr (omega (arith, more s t, all t))
    turned s t (inr h) = inl (omega (arith, more s t, all t))

-- so Euclid's steps end in such a combination
combination : (steps a b : ℕ) → b < steps → GreatestCommonDivisor a b (gcd_steps steps a b)
combination zero a b h = absurd (omega arith)
combination (suc steps) a zero h = record { left = (1, one-mul a); right = (0, zero-mul a); s = 1; t = 0; combined = inl (omega arith) }
combination (suc steps) a (suc b) h =
    step_back a (suc b) (a / suc b) (a % suc b) (gcd_steps steps (suc b) (a % suc b)) (div-add-mod' a (suc b))
    (combination steps (suc b) (a % suc b) (less a b steps h))

pub gcd_is_greatest : (a b : ℕ) → GreatestCommonDivisor a b (gcd a b)
gcd_is_greatest a b = combination (suc b) a b (omega arith)

-- what divides m times a and m times b divides m times their greatest common divisor
scaled : (steps a b d m : ℕ) → b < steps → d ∣ m * a → d ∣ m * b → d ∣ m * gcd_steps steps a b
scaled zero a b d m h p q = absurd (omega arith)
scaled (suc steps) a zero d m h p q = p
scaled (suc steps) a (suc b) d m h p q = scaled steps (suc b) (a % suc b) d m (less a b steps h) q rest
  where
    parts : m * suc b * (a / suc b) + m * (a % suc b) ≡ m * a
    parts =
        ap (λ (x : ℕ). x + m * (a % suc b)) (mul_assoc m (suc b) (a / suc b))
        ∙ sym (mul-add m (suc b * (a / suc b)) (a % suc b))
        ∙ ap (λ (x : ℕ). m * (x + a % suc b)) (mul_comm (suc b) (a / suc b)) ∙ ap (λ (x : ℕ). m * x) (div-add-mod' a (suc b))

    rest : d ∣ m * (a % suc b)
    rest = (dvd-add_iff_right d (dvd-mul_right_of_dvd d q (a / suc b))).1 (subst (λ (x : ℕ). d ∣ x) (sym parts) p)

-- ---- a number, here the multiple so far, and the next one

module _ (a b : ℕ) (above : 0 < a) where
  common : IsGcd a b (gcd a b)
  common = euclid (suc b) a b (omega arith)

  left : a / gcd a b * gcd a b ≡ a
  left = div-mul_cancel (gcd a b) common.0

  right : b / gcd a b * gcd a b ≡ b
  right = div-mul_cancel (gcd a b) common.1

  positive : (0 < gcd a b) × (0 < a / gcd a b)
  positive = of_factors (a / gcd a b) (gcd a b) left
    where
      of_factors : (q d : ℕ) → q * d ≡ a → (0 < d) × (0 < q)
      of_factors zero d e = absurd (omega (arith, zero-mul d))
      of_factors (suc q) zero e = absurd (omega (arith, mul-zero (suc q)))
      of_factors (suc q) (suc d) e = (omega arith, omega arith)

  -- the product over the greatest common divisor is a multiple of both
  first_divides : a ∣ a / gcd a b * b
  first_divides =
      to_dvd a (a / gcd a b * b)
      (b / gcd a b, ap (λ (x : ℕ). b / gcd a b * x) (sym left) ∙ mul_left_comm (b / gcd a b) (a / gcd a b) (gcd a b) ∙ ap (λ (x : ℕ). a / gcd a b * x) right)

  second_divides : b ∣ a / gcd a b * b
  second_divides = dvd-mul_left b (a / gcd a b)

  -- and it divides every multiple of both
  divides_common : (m : ℕ) → a ∣ m → b ∣ m → (a / gcd a b * b) ∣ m
  divides_common m p q = dvd_of_mul-dvd-mul_left (a / gcd a b * b) positive.0 (rw (whole, mul_comm (gcd a b) m) product)
    where
      whole : gcd a b * (a / gcd a b * b) ≡ a * b
      whole = sym (mul_assoc (gcd a b) (a / gcd a b) b) ∙ ap (λ (x : ℕ). x * b) (mul_comm (gcd a b) (a / gcd a b) ∙ left)

      product : (a * b) ∣ (m * gcd a b)
      product = scaled (suc b) a b (a * b) m (omega arith) (rw (mul_comm m a) (mul-dvd-mul_left b a q)) (mul-dvd-mul_right a p b)

pub lcm_to_pos : (n : ℕ) → 0 < lcm_to n
lcm_to_pos zero = omega arith
lcm_to_pos (suc n) = mul-pos (positive (lcm_to n) (suc n) (lcm_to_pos n)).1 (omega arith)

-- what each number up to n divides, and n + 1 does
one_more : (n m l : ℕ) → ((k : ℕ) → 1 ≤ k → k ≤ n → Divides k m) → m ∣ l → suc n ∣ l → (k : ℕ) → 1 ≤ k → k ≤ suc n → Divides k l
one_more n m l each old new k p q =
    elim (le-suc_iff.0 q) [
      | inl h ↦ from_dvd k l (dvd_trans k (to_dvd k m (each k p h)) old)
      | inr e ↦ from_dvd k l (subst (λ (z : ℕ). z ∣ l) (sym e) new)
    ]

pub lcm_to_is_least : (n : ℕ) → LeastCommonMultiple n (lcm_to n)
lcm_to_is_least zero = record { common = λ k p q. absurd (omega arith); least = λ m h. (m, mul-one m) }
lcm_to_is_least (suc n) =
    let before : LeastCommonMultiple n (lcm_to n) = lcm_to_is_least n in
    let above : 0 < lcm_to n = lcm_to_pos n in
    record {
      common = one_more n (lcm_to n) (lcm_to (suc n)) before.common (first_divides (lcm_to n) (suc n) above) (second_divides (lcm_to n) (suc n) above);
      least = λ m h.
          from_dvd (lcm_to (suc n)) m
          (divides_common (lcm_to n) (suc n) above m
          (to_dvd (lcm_to n) m (before.least m (λ k p q. h k p (omega arith)))) (to_dvd (suc n) m (h (suc n) (omega arith) (omega arith))));
    }

-- the largest that is ever used, by computing all of them
pub lcm_to_small : (n : ℕ) → n ≤ 24 → lcm_to n ≤ 5354228880
lcm_to_small n h =
    leb-true (lcm_to n) 5354228880 (at 25 (λ k. leb (lcm_to k) 5354228880) refl n (omega arith))
