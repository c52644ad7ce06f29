-- Lists of four counts.
use Rattle.std.proofs.Common.{◌≡◌, ℕ, zero, suc, ◌+◌, ◌*◌, ◌/◌, ◌%◌, ◌<◌, List, [], ◌∷◌, length, get_or, refl, add-zero, mul-zero, arith}
use Rattle.composition.specs.Counts.{total, place, at_place, Inside, nobody}
use Rattle.composition.specs.Types.{position}
use Rattle.composition.specs.declared.demand_type.DemandType.{DemandType}
use Rattle.composition.specs.declared.demand_type.DemandType.TheVariants.{One, Two, Three, Four}

-- a list of four is its four entries
pub split4 : {A : Type 0} (d : A) (xs : List A) → length xs ≡ 4 → xs ≡ get_or xs 0 d ∷ get_or xs 1 d ∷ get_or xs 2 d ∷ get_or xs 3 d ∷ []
split4 d [] h = absurd (omega arith)
split4 d (a ∷ []) h = absurd (omega arith)
split4 d (a ∷ (b ∷ [])) h = absurd (omega arith)
split4 d (a ∷ (b ∷ (c ∷ []))) h = absurd (omega arith)
split4 d (a ∷ (b ∷ (c ∷ (e ∷ [])))) h = refl
split4 d (a ∷ (b ∷ (c ∷ (e ∷ (f ∷ xs))))) h = absurd (omega arith)

pub total_four : (ns : List ℕ) → length ns ≡ 4 → total ns ≡ get_or ns 0 0 + get_or ns 1 0 + get_or ns 2 0 + get_or ns 3 0
total_four ns h = rw (split4 0 ns h) (omega arith)

pub place_four :
    (ms ns : List ℕ)
    → length ms ≡ 4
    → length ns ≡ 4
    → place ms ns ≡ get_or ns 0 0 + (get_or ms 0 0 + 1) * (get_or ns 1 0 + (get_or ms 1 0 + 1) * (get_or ns 2 0 + (get_or ms 2 0 + 1) * get_or ns 3 0))
place_four ms ns h k = rw (split4 0 ms h, split4 0 ns k) (simp (mul-zero, add-zero))

-- four digits taken off a place one after the other are the group there
pub at_place_four :
    (ms : List ℕ) (p : ℕ) (w x y z : ℕ × ℕ)
    → length ms ≡ 4
    → w.0 ≡ p % (get_or ms 0 0 + 1)
    → w.1 ≡ p / (get_or ms 0 0 + 1)
    → x.0 ≡ w.1 % (get_or ms 1 0 + 1)
    → x.1 ≡ w.1 / (get_or ms 1 0 + 1)
    → y.0 ≡ x.1 % (get_or ms 2 0 + 1)
    → y.1 ≡ x.1 / (get_or ms 2 0 + 1)
    → z.0 ≡ y.1 % (get_or ms 3 0 + 1)
    → w.0 ∷ x.0 ∷ y.0 ∷ z.0 ∷ [] ≡ at_place ms p
at_place_four ms p w x y z h e e' f f' g g' i = rw (i, g', g, f', f, e', e, split4 0 ms h)

-- nobody lies inside every group, at the first place
pub nobody_inside : (ms : List ℕ) → length ms ≡ 4 → Inside nobody ms
nobody_inside ms h =
    let within : (a b c d : ℕ) → Inside nobody (a ∷ b ∷ c ∷ d ∷ []) = λ a b c d. (omega arith, (omega arith, (omega arith, (omega arith, tt)))) in
    rw (split4 0 ms h) (within _ _ _ _)

pub nobody_place : (ms : List ℕ) → length ms ≡ 4 → place ms nobody ≡ 0
nobody_place ms h = rw (split4 0 ms h) (simp (mul-zero, add-zero))

-- what holds at each of four positions
pub each_of_four : (P : ℕ → Type 0) → P 0 → P 1 → P 2 → P 3 → (i : ℕ) → i < 4 → P i
each_of_four P a b c d zero h = a
each_of_four P a b c d (suc zero) h = b
each_of_four P a b c d (suc (suc zero)) h = c
each_of_four P a b c d (suc (suc (suc zero))) h = d
each_of_four P a b c d (suc (suc (suc (suc i)))) h = absurd (omega arith)

-- the types stand in the order of their positions
pub in_order : (i : ℕ) (d : DemandType) → i < 4 → position (get_or (One ∷ Two ∷ Three ∷ Four ∷ []) i d) ≡ i
in_order i d = each_of_four (λ i. position (get_or (One ∷ Two ∷ Three ∷ Four ∷ []) i d) ≡ i) refl refl refl refl i
