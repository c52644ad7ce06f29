-- In how many ways a group can be picked, as a chain over the types multiplies it up.
use Rattle.std.proofs.Common.{le_refl, ◌≡◌, ℕ, zero, suc, ◌*◌, ◌^◌, ◌<◌, ◌≤◌, List, [], ◌∷◌, map, length, take, get_or, fold, sym, ◌∙◌, le_trans, le-mul_of_pos_right, mul_assoc, mul-one, mul-le-mul, pow-add, arith}
use native.Mathlib.Nat.{one-le-pow}
use Rattle.shapley.proofs.Combinatorics.{choose_le_power}
use Rattle.std.specs.Iterator.Adapters.{zip_first, zip_second}
use Rattle.std.specs.List.{zip}
use Rattle.std.specs.Slice.Iter.{iter_rest}
use Rattle.std.proofs.iter.Yields.{fronts}
use Rattle.std.proofs.lemmas.Iterator.{YieldsList, YieldsList-from_slice, YieldsList-from_zip, zips}
use Rattle.composition.specs.Counts.{most, total, Inside}
use Rattle.shapley.specs.Combinations.{choose, ways}

-- a chain over two slices, entry beside entry
pub paired : {s : _} (ms ns : List ℕ) → iter_rest (zip_first s) ≡ ms → iter_rest (zip_second s) ≡ ns → YieldsList (zips fronts fronts) (λ p. (p.0.now, p.1.now)) s (zip ms ns)
paired ms ns e f = YieldsList-from_zip (YieldsList-from_slice ms e) (YieldsList-from_slice ns f)

-- a type's others, and how many of them are picked
abbrev pub pick : ℕ × ℕ → ℕ
pick p = choose p.0 p.1

-- each pick may be looked up
pub picks_allowed : (ms ns : List ℕ) → total ms < most → Inside ns ms → (k : ℕ) (x : ℕ × ℕ) → k < length (zip ms ns) → x ≡ get_or (zip ms ns) k x → (x.0 < most) × (x.1 ≤ x.0)
picks_allowed [] ns few inside k x below e = absurd (omega arith)
picks_allowed (m ∷ ms) [] few inside k x below e = absurd (omega arith)
picks_allowed (m ∷ ms) (n ∷ ns) few inside zero x below e = rw e (omega arith, inside.0)
picks_allowed (m ∷ ms) (n ∷ ns) few inside (suc k) x below e = picks_allowed ms ns (omega arith) inside.1 k x (omega arith) e

-- all together are the ways, from a on
pub products : (a : ℕ) (ms ns : List ℕ) → length ms ≡ length ns → fold (λ b x. b * x) a (map pick (zip ms ns)) ≡ a * ways ms ns
products a [] ns e = sym (mul-one a)
products a (m ∷ ms) [] e = sym (mul-one a)
products a (m ∷ ms) (n ∷ ns) e = products (a * choose m n) ms ns (omega arith) ∙ mul_assoc a (choose m n) (ways ms ns)

-- and those of the first types are no more than the subsets of all
pub products_small : (a k : ℕ) (ms ns : List ℕ) → fold (λ b x. b * x) a (take k (map pick (zip ms ns))) ≤ a * 2 ^ total ms
products_small a zero ms ns = le-mul_of_pos_right a (one-le-pow (total ms) 2 (omega arith))
products_small a (suc k) [] ns = le-mul_of_pos_right a (one-le-pow (total []) 2 (omega arith))
products_small a (suc k) (m ∷ ms) [] = le-mul_of_pos_right a (one-le-pow (total (m ∷ ms)) 2 (omega arith))
products_small a (suc k) (m ∷ ms) (n ∷ ns) =
    le_trans (products_small (a * choose m n) k ms ns)
    (rw (pow-add 2 m (total ms), ← mul_assoc a (2 ^ m) (2 ^ total ms)) (mul-le-mul (mul-le-mul (le_refl a) (choose_le_power m n)) (le_refl (2 ^ total ms))))
