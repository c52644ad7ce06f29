-- The ring laws of ℤ, and how its order goes with sums and with products by a natural number.
-- Each law is stated once, over plain variables, so that a proof cites it and never opens the cases of the signs.
use Rattle.std.proofs.Common.{◌≡◌, ℕ, zero, suc, ◌*◌, ◌<◌, ℤ, pos, negsuc, ◌+ℤ◌, ◌-ℤ◌, ◌*ℤ◌, neg_ℤ, ◌≤ℤ◌, ◌<ℤ◌, ◌^◌, sym, ap, ◌∙◌, arith, to_z-of_z, to_z, of_z}
use lib.IntN.{+ℤ_assoc, +ℤ_comm, *ℤ_comm, neg_ℤ-+ℤ, neg_ℤ-neg_ℤ, zero-*ℤ, *ℤ-zero, *ℤ-negsuc, suc_ℤ-*ℤ, pred_ℤ-*ℤ}
use lib.Signed.{clash_ℤ, mag}
use mir.Syntax.{Width}
use mir.Val.{hbits}
use Rattle.std.proofs.lemmas.Int.{ints, by_lt_z}

-- ---- the ring

pub swap_inner : (x y b c : ℤ) → (x +ℤ y) +ℤ (b +ℤ c) ≡ (x +ℤ b) +ℤ (y +ℤ c)
swap_inner x y b c = omega (arith, ints)

pub swap_inner_minus : (x y b c : ℤ) → (x +ℤ y) -ℤ (b +ℤ c) ≡ (x -ℤ b) +ℤ (y -ℤ c)
swap_inner_minus x y b c = omega (arith, ints)

-- by steps of one in the left factor, up from 0 and down from 0
pub *ℤ_+ℤ : (a b c : ℤ) → a *ℤ (b +ℤ c) ≡ a *ℤ b +ℤ a *ℤ c
*ℤ_+ℤ (pos zero) b c = zero-*ℤ (b +ℤ c) ∙ sym (ap (λ (x : ℤ). x +ℤ pos zero *ℤ c) (zero-*ℤ b) ∙ ap (λ (x : ℤ). pos zero +ℤ x) (zero-*ℤ c))
*ℤ_+ℤ (pos (suc n)) b c =
    suc_ℤ-*ℤ (pos n) (b +ℤ c) ∙ ap (λ (x : ℤ). x +ℤ (b +ℤ c)) (*ℤ_+ℤ (pos n) b c) ∙ swap_inner (pos n *ℤ b) (pos n *ℤ c) b c
    ∙ sym (ap (λ (x : ℤ). x +ℤ pos (suc n) *ℤ c) (suc_ℤ-*ℤ (pos n) b) ∙ ap (λ (x : ℤ). (pos n *ℤ b +ℤ b) +ℤ x) (suc_ℤ-*ℤ (pos n) c))
*ℤ_+ℤ (negsuc zero) b c = omega (arith, ints)
*ℤ_+ℤ (negsuc (suc n)) b c =
    pred_ℤ-*ℤ (negsuc n) (b +ℤ c) ∙ ap (λ (x : ℤ). x -ℤ (b +ℤ c)) (*ℤ_+ℤ (negsuc n) b c) ∙ swap_inner_minus (negsuc n *ℤ b) (negsuc n *ℤ c) b c
    ∙ sym (ap (λ (x : ℤ). x +ℤ negsuc (suc n) *ℤ c) (pred_ℤ-*ℤ (negsuc n) b) ∙ ap (λ (x : ℤ). (negsuc n *ℤ b -ℤ b) +ℤ x) (pred_ℤ-*ℤ (negsuc n) c))

pub +ℤ_*ℤ : (a b c : ℤ) → (a +ℤ b) *ℤ c ≡ a *ℤ c +ℤ b *ℤ c
+ℤ_*ℤ a b c =
    *ℤ_comm (a +ℤ b) c ∙ *ℤ_+ℤ c a b ∙ ap (λ (x : ℤ). x +ℤ c *ℤ b) (*ℤ_comm c a) ∙ ap (λ (x : ℤ). a *ℤ c +ℤ x) (*ℤ_comm c b)

pub *ℤ_negℤ : (a b : ℤ) → a *ℤ neg_ℤ b ≡ neg_ℤ (a *ℤ b)
*ℤ_negℤ a (pos zero) = *ℤ-zero a ∙ sym (ap neg_ℤ (*ℤ-zero a))
*ℤ_negℤ a (pos (suc n)) = *ℤ-negsuc a n
*ℤ_negℤ a (negsuc n) = sym (ap neg_ℤ (*ℤ-negsuc a n) ∙ neg_ℤ-neg_ℤ (a *ℤ pos (suc n)))

pub negℤ_*ℤ : (a b : ℤ) → neg_ℤ a *ℤ b ≡ neg_ℤ (a *ℤ b)
negℤ_*ℤ a b = *ℤ_comm (neg_ℤ a) b ∙ *ℤ_negℤ b a ∙ ap neg_ℤ (*ℤ_comm b a)

pub *ℤ_-ℤ : (a b c : ℤ) → a *ℤ (b -ℤ c) ≡ a *ℤ b -ℤ a *ℤ c
*ℤ_-ℤ a b c = *ℤ_+ℤ a b (neg_ℤ c) ∙ ap (λ (x : ℤ). a *ℤ b +ℤ x) (*ℤ_negℤ a c)

pub -ℤ_*ℤ : (a b c : ℤ) → (a -ℤ b) *ℤ c ≡ a *ℤ c -ℤ b *ℤ c
-ℤ_*ℤ a b c = +ℤ_*ℤ a (neg_ℤ b) c ∙ ap (λ (x : ℤ). a *ℤ c +ℤ x) (negℤ_*ℤ b c)

pub *ℤ_assoc : (a b c : ℤ) → (a *ℤ b) *ℤ c ≡ a *ℤ (b *ℤ c)
*ℤ_assoc (pos zero) b c = ap (λ (x : ℤ). x *ℤ c) (zero-*ℤ b) ∙ zero-*ℤ c ∙ sym (zero-*ℤ (b *ℤ c))
*ℤ_assoc (pos (suc n)) b c =
    ap (λ (x : ℤ). x *ℤ c) (suc_ℤ-*ℤ (pos n) b) ∙ +ℤ_*ℤ (pos n *ℤ b) b c ∙ ap (λ (x : ℤ). x +ℤ b *ℤ c) (*ℤ_assoc (pos n) b c)
    ∙ sym (suc_ℤ-*ℤ (pos n) (b *ℤ c))
*ℤ_assoc (negsuc zero) b c =
    ap (λ (x : ℤ). x *ℤ c) (minus_one b) ∙ negℤ_*ℤ b c ∙ sym (minus_one (b *ℤ c))
  where
    minus_one : (b : ℤ) → negsuc zero *ℤ b ≡ neg_ℤ b
    minus_one b = omega (arith, ints)
*ℤ_assoc (negsuc (suc n)) b c =
    ap (λ (x : ℤ). x *ℤ c) (pred_ℤ-*ℤ (negsuc n) b) ∙ -ℤ_*ℤ (negsuc n *ℤ b) b c ∙ ap (λ (x : ℤ). x -ℤ b *ℤ c) (*ℤ_assoc (negsuc n) b c)
    ∙ sym (pred_ℤ-*ℤ (negsuc n) (b *ℤ c))

pub *ℤ_left_comm : (a b c : ℤ) → a *ℤ (b *ℤ c) ≡ b *ℤ (a *ℤ c)
*ℤ_left_comm a b c = sym (*ℤ_assoc a b c) ∙ ap (λ (x : ℤ). x *ℤ c) (*ℤ_comm a b) ∙ *ℤ_assoc b a c

pub +ℤ_left_comm : (a b c : ℤ) → a +ℤ (b +ℤ c) ≡ b +ℤ (a +ℤ c)
+ℤ_left_comm a b c = omega (arith, ints)

pub one_*ℤ : (a : ℤ) → pos 1 *ℤ a ≡ a
one_*ℤ a = omega (arith, ints)

pub *ℤ_one : (a : ℤ) → a *ℤ pos 1 ≡ a
*ℤ_one a = omega (arith, ints)

-- `simp ring` proves an equation of the ring over plain variables: it brings both sides to the same sum of products.
-- It does not cancel: where a product stands with both signs, name the products by variables and end with `omega (arith, ints)`.
pub ruleset ring = (*ℤ_+ℤ, +ℤ_*ℤ, *ℤ_negℤ, negℤ_*ℤ, neg_ℤ-+ℤ, neg_ℤ-neg_ℤ, *ℤ_assoc, *ℤ_comm, *ℤ_left_comm, +ℤ_assoc, +ℤ_comm, +ℤ_left_comm)

-- ---- the order

-- sums keep the order
pub add_≤ : (a b c d : ℤ) → a ≤ℤ b → c ≤ℤ d → (a +ℤ c) ≤ℤ (b +ℤ d)
add_≤ a b c d h k = omega (arith, ints)

pub ≤ℤ_trans : (a b c : ℤ) → a ≤ℤ b → b ≤ℤ c → a ≤ℤ c
≤ℤ_trans a b c h k = omega (arith, ints)

pub ≤ℤ_of_≡ : {a b : ℤ} → a ≡ b → a ≤ℤ b
≤ℤ_of_≡ {a} {b} e = omega (arith, ints)

pub ≤ℤ_antisym : (a b : ℤ) → a ≤ℤ b → b ≤ℤ a → a ≡ b
≤ℤ_antisym a b h k = omega (arith, ints)

-- what is not negative stays so under a factor that is not negative
scale_nonneg : (d : ℕ) (c : ℤ) → pos 0 ≤ℤ c → pos 0 ≤ℤ (pos d *ℤ c)
scale_nonneg d (pos n) h = omega (arith, ints)
scale_nonneg d (negsuc n) h = absurd h.le

-- a natural factor keeps the order: both sides differ by the factor times what is not negative
pub scale_≤ : (d : ℕ) (a b : ℤ) → a ≤ℤ b → (pos d *ℤ a) ≤ℤ (pos d *ℤ b)
scale_≤ d a b h =
    let apart : pos 0 ≤ℤ (b -ℤ a) = omega (arith, ints) in
    let k : pos 0 ≤ℤ (pos d *ℤ (b -ℤ a)) = scale_nonneg d (b -ℤ a) apart in
    up_again (pos d *ℤ a) (pos d *ℤ b) (pos d *ℤ (b -ℤ a)) k (*ℤ_-ℤ (pos d) b a)
  where
    up_again : (x y z : ℤ) → pos 0 ≤ℤ z → z ≡ y -ℤ x → x ≤ℤ y
    up_again x y z k e = omega (arith, ints)

-- and a factor above 0 can be taken away again
nonneg_cancels : (d : ℕ) (c : ℤ) → 0 < d → pos 0 ≤ℤ (pos d *ℤ c) → pos 0 ≤ℤ c
nonneg_cancels d (pos n) p h = omega (arith, ints)
nonneg_cancels zero (negsuc n) p h = absurd (omega arith)
nonneg_cancels (suc d) (negsuc n) p h = absurd (let k : 0 < suc d * suc n = omega arith in omega (arith, ints))

pub cancel_≤ : (d : ℕ) (a b : ℤ) → 0 < d → (pos d *ℤ a) ≤ℤ (pos d *ℤ b) → a ≤ℤ b
cancel_≤ d a b p h =
    let k : pos 0 ≤ℤ (b -ℤ a) = nonneg_cancels d (b -ℤ a) p (gap (pos d *ℤ a) (pos d *ℤ b) (pos d *ℤ (b -ℤ a)) h (*ℤ_-ℤ (pos d) b a)) in
    omega (arith, ints)
  where
    gap : (x y z : ℤ) → x ≤ℤ y → z ≡ y -ℤ x → pos 0 ≤ℤ z
    gap x y z k e = omega (arith, ints)

pub cancel_≡ : (d : ℕ) (a b : ℤ) → 0 < d → pos d *ℤ a ≡ pos d *ℤ b → a ≡ b
cancel_≡ d a b p e =
    ≤ℤ_antisym a b (cancel_≤ d a b p (≤ℤ_of_≡ e)) (cancel_≤ d b a p (≤ℤ_of_≡ (sym e)))

pub cancel_< : (d : ℕ) (a b : ℤ) → (pos d *ℤ a) <ℤ (pos d *ℤ b) → a <ℤ b
cancel_< d a b h = by_lt_z a b (λ k. k) (λ k. clash_ℤ h (scale_≤ d b a k))

pub scale_< : (d : ℕ) (a b : ℤ) → 0 < d → a <ℤ b → (pos d *ℤ a) <ℤ (pos d *ℤ b)
scale_< d a b p h = by_lt_z (pos d *ℤ a) (pos d *ℤ b) (λ k. k) (λ k. clash_ℤ h (cancel_≤ d b a p k))

-- ---- numbers in bits

-- a number that fits is the same once it is read again from its bits
pub read_back : (w : Width) {z : ℤ} → mag z < 2 ^ hbits w → to_z w (of_z w z) ≡ z
read_back w fits = to_z-of_z (record { sfits = fits })
