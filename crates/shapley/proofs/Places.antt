-- Sums over the places of a table are sums over the groups that stand there.
use Rattle.std.proofs.Common.{◌≡◌, ℕ, zero, suc, ◌+◌, ◌*◌, ◌/◌, ◌%◌, ◌<◌, List, [], ◌∷◌, ℤ, pos, ◌+ℤ◌, sym, refl, ap, ◌∙◌, ap₂, add-zero, add-suc, suc-mul, mul_comm, zero-mul, add-one, arith}
use lib.IntN.{+ℤ_assoc, +ℤ_idl, +ℤ_idr}
use Rattle.std.proofs.lemmas.Nat.{div-mul-add, mod-mul-add}
use Rattle.composition.specs.Counts.{size, at_place}
use Rattle.shapley.specs.Shares.{range_sum, box_sum}

-- g 0 + .. + g (n - 1)
abbrev pub place_sum : ℕ → (ℕ → ℤ) → ℤ
place_sum zero g = pos 0
place_sum (suc n) g = place_sum n g +ℤ g n

-- one place more, as a loop counts
place_sum_more : (n : ℕ) (g : ℕ → ℤ) → place_sum (n + 1) g ≡ place_sum n g +ℤ g n
place_sum_more n g = rw (add-one n)

-- a loop's turn: the sum so far and what stands at the place
pub place_sum_step : (n : ℕ) (g : ℕ → ℤ) (s t r : ℤ) → s ≡ place_sum n g → t ≡ g n → r ≡ s +ℤ t → r ≡ place_sum (n + 1) g
place_sum_step n g s t r e f h = h ∙ ap₂ (λ (x y : ℤ). x +ℤ y) e f ∙ sym (place_sum_more n g)

same_sum : (n : ℕ) (f g : ℕ → ℤ) → ((k : ℕ) → k < n → f k ≡ g k) → place_sum n f ≡ place_sum n g
same_sum zero f g e = refl
same_sum (suc n) f g e =
    ap (λ (x : ℤ). x +ℤ f n) (same_sum n f g (λ k h. e k (omega arith))) ∙ ap (λ (x : ℤ). place_sum n g +ℤ x) (e n (omega arith))

-- first some places, and then the places after them
in_two : (a b : ℕ) (g : ℕ → ℤ) → place_sum (a + b) g ≡ place_sum a g +ℤ place_sum b (λ k. g (a + k))
in_two a zero g = ap (λ (n : ℕ). place_sum n g) (add-zero a) ∙ sym (+ℤ_idr (place_sum a g))
in_two a (suc b) g =
    ap (λ (n : ℕ). place_sum n g) (add-suc a b) ∙ ap (λ (x : ℤ). x +ℤ g (a + b)) (in_two a b g)
    ∙ +ℤ_assoc (place_sum a g) (place_sum b (λ k. g (a + k))) (g (a + b))

-- rows of w places each: a place's row is its quotient, and its column what is left
rows : (w s : ℕ) (h : ℕ → ℕ → ℤ) → place_sum (s * w) (λ p. h (p % w) (p / w)) ≡ place_sum s (λ q. place_sum w (λ n. h n q))
rows w zero h = ap (λ (n : ℕ). place_sum n (λ p. h (p % w) (p / w))) (zero-mul w)
rows w (suc s) h =
    ap (λ (n : ℕ). place_sum n (λ p. h (p % w) (p / w))) (suc-mul s w) ∙ in_two (s * w) w (λ p. h (p % w) (p / w))
    ∙ ap (λ (x : ℤ). x +ℤ place_sum w (λ k. h ((s * w + k) % w) ((s * w + k) / w))) (rows w s h)
    ∙ ap (λ (x : ℤ). place_sum s (λ q. place_sum w (λ n. h n q)) +ℤ x)
    (same_sum w (λ k. h ((s * w + k) % w) ((s * w + k) / w)) (λ n. h n s)
    (λ k below. ap (λ (x : ℕ). h x ((s * w + k) / w)) (mod-mul-add s w k below) ∙ ap (h k) (div-mul-add s w k below)))

range_is_places : (m : ℕ) (f : ℕ → ℤ) → range_sum m f ≡ place_sum (suc m) f
range_is_places zero f = sym (+ℤ_idl (f zero))
range_is_places (suc m) f = ap (λ (x : ℤ). x +ℤ f (suc m)) (range_is_places m f)

-- the groups at all places are all groups
pub places_are_groups : (ms : List ℕ) (g : List ℕ → ℤ) → place_sum (size ms) (λ p. g (at_place ms p)) ≡ box_sum ms g
places_are_groups [] g = +ℤ_idl (g [])
places_are_groups (m ∷ ms) g =
    ap (λ (n : ℕ). place_sum n (λ p. g (at_place (m ∷ ms) p))) (mul_comm (m + 1) (size ms))
    ∙ rows (m + 1) (size ms) (λ n q. g (n ∷ at_place ms q))
    ∙ same_sum (size ms) (λ q. place_sum (m + 1) (λ n. g (n ∷ at_place ms q))) (λ q. range_sum m (λ n. g (n ∷ at_place ms q)))
    (λ q below. ap (λ (k : ℕ). place_sum k (λ n. g (n ∷ at_place ms q))) (add-one m) ∙ sym (range_is_places m (λ n. g (n ∷ at_place ms q))))
    ∙ places_are_groups ms (λ ns. range_sum m (λ n. g (n ∷ ns)))
