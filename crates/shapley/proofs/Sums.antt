-- The three kinds of sums: over a range, over the groups inside counts, and over the subsets of a list.
-- For each, one lemma: a relation that sums keep and that holds of every two summands holds of the sums.
-- As an equation it gives congruence, as an equation with a factor scaling, and as an order a bound.
use Rattle.std.proofs.Common.{◌≡◌, ℕ, zero, suc, ◌*◌, ◌≤◌, List, [], ◌∷◌, ℤ, pos, ◌+ℤ◌, ◌*ℤ◌, ◌≤ℤ◌, sym, refl, ap, ◌∙◌, ap₂, suc-mul, one-mul, arith}
use Rattle.composition.specs.Counts.{Inside}
use Rattle.rounding.proofs.Integers.{*ℤ_+ℤ, add_≤, swap_inner}
use Rattle.shapley.specs.Shares.{range_sum, box_sum}
use Rattle.shapley.specs.Subsets.{subset_sum}

-- sums keep the relation
abbrev pub Additive : (ℤ → ℤ → Type 0) → Type 0
Additive R = (a b c d : ℤ) → R a b → R c d → R (a +ℤ c) (b +ℤ d)

pub range_sum_rel : (R : ℤ → ℤ → Type 0) → Additive R → (n : ℕ) (f g : ℕ → ℤ) → ((j : ℕ) → j ≤ n → R (f j) (g j)) → R (range_sum n f) (range_sum n g)
range_sum_rel R add zero f g h = h zero (omega arith)
range_sum_rel R add (suc n) f g h =
    add (range_sum n f) (range_sum n g) (f (suc n)) (g (suc n)) (range_sum_rel R add n f g (λ j p. h j (omega arith))) (h (suc n) (omega arith))

pub box_sum_rel : (R : ℤ → ℤ → Type 0) → Additive R → (counts : List ℕ) (f g : List ℕ → ℤ) → ((n : List ℕ) → Inside n counts → R (f n) (g n)) → R (box_sum counts f) (box_sum counts g)
box_sum_rel R add [] f g h = h [] tt
box_sum_rel R add (m ∷ ms) f g h =
    box_sum_rel R add ms (λ ns. range_sum m (λ n. f (n ∷ ns))) (λ ns. range_sum m (λ n. g (n ∷ ns)))
    (λ ns i. range_sum_rel R add m (λ n. f (n ∷ ns)) (λ n. g (n ∷ ns)) (λ j p. h (j ∷ ns) (p, i)))

pub subset_sum_rel : {P : Type 0} (R : ℤ → ℤ → Type 0) → Additive R → (ps : List P) (f g : List P → ℤ) → ((s : List P) → R (f s) (g s)) → R (subset_sum ps f) (subset_sum ps g)
subset_sum_rel R add [] f g h = h []
subset_sum_rel R add (p ∷ ps) f g h =
    add (subset_sum ps f) (subset_sum ps g) (subset_sum ps (λ s. f (p ∷ s))) (subset_sum ps (λ s. g (p ∷ s)))
    (subset_sum_rel R add ps f g h) (subset_sum_rel R add ps (λ s. f (p ∷ s)) (λ s. g (p ∷ s)) (λ s. h (p ∷ s)))

-- ---- the relations

same : Additive (λ a b. a ≡ b)
same a b c d p q = ap₂ (λ (x y : ℤ). x +ℤ y) p q

scaled : (k : ℤ) → Additive (λ a b. k *ℤ a ≡ b)
scaled k a b c d p q = *ℤ_+ℤ k a c ∙ ap₂ (λ (x y : ℤ). x +ℤ y) p q

-- ---- equal summands

pub range_sum_cong : (n : ℕ) (f g : ℕ → ℤ) → ((j : ℕ) → j ≤ n → f j ≡ g j) → range_sum n f ≡ range_sum n g
range_sum_cong = range_sum_rel (λ a b. a ≡ b) same

pub box_sum_cong : (counts : List ℕ) (f g : List ℕ → ℤ) → ((n : List ℕ) → Inside n counts → f n ≡ g n) → box_sum counts f ≡ box_sum counts g
box_sum_cong = box_sum_rel (λ a b. a ≡ b) same

pub subset_sum_cong : {P : Type 0} (ps : List P) (f g : List P → ℤ) → ((s : List P) → f s ≡ g s) → subset_sum ps f ≡ subset_sum ps g
subset_sum_cong = subset_sum_rel (λ a b. a ≡ b) same

-- ---- a factor before the sum

pub range_sum_scale : (k : ℤ) (n : ℕ) (f : ℕ → ℤ) → k *ℤ range_sum n f ≡ range_sum n (λ j. k *ℤ f j)
range_sum_scale k n f = range_sum_rel (λ a b. k *ℤ a ≡ b) (scaled k) n f (λ j. k *ℤ f j) (λ j p. refl)

pub box_sum_scale : (k : ℤ) (counts : List ℕ) (f : List ℕ → ℤ) → k *ℤ box_sum counts f ≡ box_sum counts (λ n. k *ℤ f n)
box_sum_scale k counts f = box_sum_rel (λ a b. k *ℤ a ≡ b) (scaled k) counts f (λ n. k *ℤ f n) (λ n i. refl)

pub subset_sum_scale : {P : Type 0} (k : ℤ) (ps : List P) (f : List P → ℤ) → k *ℤ subset_sum ps f ≡ subset_sum ps (λ s. k *ℤ f s)
subset_sum_scale k ps f = subset_sum_rel (λ a b. k *ℤ a ≡ b) (scaled k) ps f (λ s. k *ℤ f s) (λ s. refl)

-- ---- summands in order

pub box_sum_mono : (counts : List ℕ) (f g : List ℕ → ℤ) → ((n : List ℕ) → Inside n counts → f n ≤ℤ g n) → box_sum counts f ≤ℤ box_sum counts g
box_sum_mono = box_sum_rel ◌≤ℤ◌ add_≤

-- ---- a sum of sums

pub range_sum_adds : (n : ℕ) (f g : ℕ → ℤ) → range_sum n (λ j. f j +ℤ g j) ≡ range_sum n f +ℤ range_sum n g
range_sum_adds zero f g = refl
range_sum_adds (suc n) f g =
    ap (λ (x : ℤ). x +ℤ (f (suc n) +ℤ g (suc n))) (range_sum_adds n f g) ∙ swap_inner (range_sum n f) (range_sum n g) (f (suc n)) (g (suc n))

pub box_sum_adds : (counts : List ℕ) (f g : List ℕ → ℤ) → box_sum counts (λ n. f n +ℤ g n) ≡ box_sum counts f +ℤ box_sum counts g
box_sum_adds [] f g = refl
box_sum_adds (m ∷ ms) f g =
    box_sum_cong ms (λ ns. range_sum m (λ n. f (n ∷ ns) +ℤ g (n ∷ ns))) (λ ns. range_sum m (λ n. f (n ∷ ns)) +ℤ range_sum m (λ n. g (n ∷ ns)))
    (λ ns i. range_sum_adds m (λ n. f (n ∷ ns)) (λ n. g (n ∷ ns)))
    ∙ box_sum_adds ms (λ ns. range_sum m (λ n. f (n ∷ ns))) (λ ns. range_sum m (λ n. g (n ∷ ns)))

-- ---- equal summands all along

pub range_sum_same : (n a : ℕ) → range_sum n (λ j. pos a) ≡ pos (suc n * a)
range_sum_same zero a = ap pos (sym (one-mul a))
range_sum_same (suc n) a = ap (λ (x : ℤ). x +ℤ pos a) (range_sum_same n a) ∙ ap pos (sym (suc-mul (suc n) a))
