-- A sum over subsets, where only the counts of a subset matter, is a sum over counts, each as often as it can be picked.
use Rattle.std.proofs.Common.{◌≡◌, ℕ, zero, suc, ◌+◌, ◌-◌, ◌*◌, ◌<◌, ◌≤◌, List, [], ◌∷◌, length, ℤ, pos, ◌+ℤ◌, ◌*ℤ◌, sym, refl, ap, ◌∙◌, subst, ap₂, add-one, arith}
use lib.IntN.{*ℤ_comm, zero-*ℤ, +ℤ_idr, +ℤ_assoc}
use Rattle.std.proofs.lemmas.Int.{ints}
use Rattle.composition.proofs.Changes.{position_below, length_raised, total_raised}
use Rattle.composition.specs.Counts.{total, raised}
use Rattle.composition.specs.Types.{position}
use Rattle.composition.specs.declared.demand_type.DemandType.{DemandType}
use Rattle.shapley.proofs.Combinatorics.{choose_above, choose_factorials}
use Rattle.rounding.proofs.Integers.{*ℤ_+ℤ, +ℤ_*ℤ, *ℤ_assoc, one_*ℤ}
use Rattle.shapley.proofs.Sums.{range_sum_cong, range_sum_scale, range_sum_adds, range_sum_same, box_sum_cong, box_sum_adds}
use Rattle.shapley.specs.Combinations.{factorial, choose, ways}
use Rattle.shapley.specs.Shares.{range_sum, box_sum}
use Rattle.shapley.specs.Subsets.{subset_sum, counts_of}

-- ---- counts of a list of homes

pub length_counts : (hs : List DemandType) → length (counts_of hs) ≡ 4
length_counts [] = refl
length_counts (k ∷ hs) = length_raised (position k) (counts_of hs) ∙ length_counts hs

pub position_inside : (k : DemandType) (hs : List DemandType) → position k < length (counts_of hs)
position_inside k hs = omega (arith, position_below k, length_counts hs)

pub length_is_total : (hs : List DemandType) → total (counts_of hs) ≡ length hs
length_is_total [] = refl
length_is_total (k ∷ hs) = omega (arith, total_raised (position k) (counts_of hs) (position_inside k hs), length_is_total hs)

-- ---- picking among n equal things

-- the sum of g over the sizes of picks among n, each size as often as there are such picks
abbrev picked : ℕ → (ℕ → ℤ) → ℤ
picked n g = range_sum n (λ j. pos (choose n j) *ℤ g j)

-- a sum by its first summand in place of its last
from_first : (n : ℕ) (f : ℕ → ℤ) → range_sum (suc n) f ≡ f 0 +ℤ range_sum n (λ j. f (suc j))
from_first zero f = refl
from_first (suc n) f =
    ap (λ (x : ℤ). x +ℤ f (suc (suc n))) (from_first n f) ∙ +ℤ_assoc (f 0) (range_sum n (λ j. f (suc j))) (f (suc (suc n)))

-- with one thing more, a pick leaves it or has it
picked_more : (n : ℕ) (g : ℕ → ℤ) → picked (suc n) g ≡ picked n g +ℤ picked n (λ j. g (suc j))
picked_more n g =
    from_first n (λ j. pos (choose (suc n) j) *ℤ g j)
    ∙ ap (λ (x : ℤ). pos 1 *ℤ g 0 +ℤ x) (range_sum_cong n (λ j. pos (choose n j + choose n (suc j)) *ℤ g (suc j)) (λ j. pos (choose n j) *ℤ g (suc j) +ℤ pos (choose n (suc j)) *ℤ g (suc j)) (λ j p. +ℤ_*ℤ (pos (choose n j)) (pos (choose n (suc j))) (g (suc j)))
    ∙ range_sum_adds n (λ j. pos (choose n j) *ℤ g (suc j)) (λ j. pos (choose n (suc j)) *ℤ g (suc j)))
    ∙ regroup (pos 1 *ℤ g 0) (picked n (λ j. g (suc j))) (range_sum n (λ j. pos (choose n (suc j)) *ℤ g (suc j)))
    ∙ ap (λ (x : ℤ). x +ℤ picked n (λ j. g (suc j))) (sym (from_first n (λ j. pos (choose n j) *ℤ g j)) ∙ ap (λ (x : ℤ). picked n g +ℤ x) none ∙ +ℤ_idr (picked n g))
  where
    regroup : (a b c : ℤ) → a +ℤ (b +ℤ c) ≡ (a +ℤ c) +ℤ b
    regroup a b c = omega (arith, ints)

    none : pos (choose n (suc n)) *ℤ g (suc n) ≡ pos 0
    none = ap (λ (x : ℕ). pos x *ℤ g (suc n)) (choose_above n (suc n) (omega arith)) ∙ zero-*ℤ (g (suc n))

pub subsets_by_size : {P : Type 0} (ps : List P) (g : ℕ → ℤ) → subset_sum ps (λ s. g (length s)) ≡ range_sum (length ps) (λ j. pos (choose (length ps) j) *ℤ g j)
subsets_by_size [] g = sym (one_*ℤ (g 0))
subsets_by_size (p ∷ ps) g =
    ap₂ (λ (x y : ℤ). x +ℤ y) (subsets_by_size ps g) (subsets_by_size ps (λ j. g (suc j))) ∙ sym (picked_more (length ps) g)

-- the orders of a subset before a player and of the rest behind it, over all subsets: every order of all, once
pub orders_add_up : {P : Type 0} (ps : List P) → subset_sum ps (λ s. pos (factorial (length s) * factorial (length ps - length s))) ≡ pos (factorial (suc (length ps)))
orders_add_up ps =
    subsets_by_size ps (λ j. pos (factorial j * factorial (length ps - j)))
    ∙ range_sum_cong (length ps) (λ j. pos (choose (length ps) j) *ℤ pos (factorial j * factorial (length ps - j))) (λ j. pos (factorial (length ps))) (λ j p. ap pos (of_size (length ps) j p))
    ∙ range_sum_same (length ps) (factorial (length ps))
  where
    of_size : (n j : ℕ) → j ≤ n → choose n j * (factorial j * factorial (n - j)) ≡ factorial n
    of_size n j p =
        let whole : j + (n - j) ≡ n = omega arith in
        subst (λ (x : ℕ). choose x j * (factorial j * factorial (n - j)) ≡ factorial x) whole (choose_factorials j (n - j))

-- ---- picking among homes of several types

-- the sum of g over the groups inside the counts, each as often as it can be picked
abbrev pub grouped : List ℕ → (List ℕ → ℤ) → ℤ
grouped counts g = box_sum counts (λ n. pos (ways counts n) *ℤ g n)

grouped_cong : (counts : List ℕ) (f g : List ℕ → ℤ) → ((n : List ℕ) → f n ≡ g n) → grouped counts f ≡ grouped counts g
grouped_cong counts f g h =
    box_sum_cong counts (λ n. pos (ways counts n) *ℤ f n) (λ n. pos (ways counts n) *ℤ g n) (λ n i. ap (λ (x : ℤ). pos (ways counts n) *ℤ x) (h n))

grouped_adds : (counts : List ℕ) (f g : List ℕ → ℤ) → grouped counts (λ n. f n +ℤ g n) ≡ grouped counts f +ℤ grouped counts g
grouped_adds counts f g =
    box_sum_cong counts (λ n. pos (ways counts n) *ℤ (f n +ℤ g n)) (λ n. pos (ways counts n) *ℤ f n +ℤ pos (ways counts n) *ℤ g n)
    (λ n i. *ℤ_+ℤ (pos (ways counts n)) (f n) (g n))
    ∙ box_sum_adds counts (λ n. pos (ways counts n) *ℤ f n) (λ n. pos (ways counts n) *ℤ g n)

-- the first type's picks go into what is summed over the others
grouped_first : (m : ℕ) (ms : List ℕ) (g : List ℕ → ℤ) → grouped (m ∷ ms) g ≡ grouped ms (λ ns. picked m (λ n. g (n ∷ ns)))
grouped_first m ms g =
    box_sum_cong ms (λ ns. range_sum m (λ n. pos (choose m n * ways ms ns) *ℤ g (n ∷ ns))) (λ ns. pos (ways ms ns) *ℤ picked m (λ n. g (n ∷ ns)))
    (λ ns i. range_sum_cong m (λ n. pos (choose m n * ways ms ns) *ℤ g (n ∷ ns)) (λ n. pos (ways ms ns) *ℤ (pos (choose m n) *ℤ g (n ∷ ns))) (λ n p. apart (pos (choose m n)) (pos (ways ms ns)) (g (n ∷ ns)))
    ∙ sym (range_sum_scale (pos (ways ms ns)) m (λ n. pos (choose m n) *ℤ g (n ∷ ns))))
  where
    apart : (a b x : ℤ) → (a *ℤ b) *ℤ x ≡ b *ℤ (a *ℤ x)
    apart a b x = ap (λ (y : ℤ). y *ℤ x) (*ℤ_comm a b) ∙ *ℤ_assoc b a x

-- with one home more of a type, a pick leaves it or has it
pub grouped_more : (counts : List ℕ) (i : ℕ) → i < length counts → (g : List ℕ → ℤ) → grouped (raised i counts) g ≡ grouped counts g +ℤ grouped counts (λ n. g (raised i n))
grouped_more [] i h g = absurd (omega arith)
grouped_more (m ∷ ms) zero h g =
    grouped_first (m + 1) ms g
    ∙ grouped_cong ms (λ ns. picked (m + 1) (λ n. g (n ∷ ns))) (λ ns. picked m (λ n. g (n ∷ ns)) +ℤ picked m (λ n. g ((n + 1) ∷ ns))) more
    ∙ grouped_adds ms (λ ns. picked m (λ n. g (n ∷ ns))) (λ ns. picked m (λ n. g ((n + 1) ∷ ns)))
    ∙ sym (ap₂ (λ (x y : ℤ). x +ℤ y) (grouped_first m ms g) (grouped_first m ms (λ n. g (raised zero n))))
  where
    more : (ns : List ℕ) → picked (m + 1) (λ n. g (n ∷ ns)) ≡ picked m (λ n. g (n ∷ ns)) +ℤ picked m (λ n. g ((n + 1) ∷ ns))
    more ns =
        ap (λ (x : ℕ). picked x (λ n. g (n ∷ ns))) (add-one m) ∙ picked_more m (λ n. g (n ∷ ns))
        ∙ ap (λ (x : ℤ). picked m (λ n. g (n ∷ ns)) +ℤ x) (range_sum_cong m (λ j. pos (choose m j) *ℤ g (suc j ∷ ns)) (λ j. pos (choose m j) *ℤ g ((j + 1) ∷ ns)) (λ j p. ap (λ (x : ℕ). pos (choose m j) *ℤ g (x ∷ ns)) (sym (add-one j))))
grouped_more (m ∷ ms) (suc i) h g =
    grouped_first m (raised i ms) g ∙ grouped_more ms i (omega arith) (λ ns. picked m (λ n. g (n ∷ ns)))
    ∙ sym (ap₂ (λ (x y : ℤ). x +ℤ y) (grouped_first m ms g) (grouped_first m ms (λ n. g (raised (suc i) n))))

pub subsets_by_counts : (hs : List DemandType) (g : List ℕ → ℤ) → subset_sum hs (λ s. g (counts_of s)) ≡ box_sum (counts_of hs) (λ n. pos (ways (counts_of hs) n) *ℤ g n)
subsets_by_counts [] g = sym (one_*ℤ (g (0 ∷ 0 ∷ 0 ∷ 0 ∷ [])))
subsets_by_counts (k ∷ hs) g =
    ap₂ (λ (x y : ℤ). x +ℤ y) (subsets_by_counts hs g) (subsets_by_counts hs (λ n. g (raised (position k) n)))
    ∙ sym (grouped_more (counts_of hs) (position k) (position_inside k hs) g)
