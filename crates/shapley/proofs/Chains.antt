-- What a chain over the places of a table sums up to, and that the sum fits.
use Rattle.std.proofs.Common.{◌≡◌, ℕ, zero, suc, ◌+◌, ◌*◌, ◌^◌, ◌<◌, ◌≤◌, List, [], ◌∷◌, map, fold, Option, ℤ, pos, ◌+ℤ◌, sym, refl, ap, ◌∙◌, suc-mul, mul-le-mul, add-one, arith, SFits}
use mir.Syntax.{w128}
use Rattle.std.specs.Bool.{⊤}
use Rattle.std.specs.Iterator.{Drains}
use Rattle.std.specs.Iterator.Runs.{EachRunFrom}
use Rattle.std.specs.List.{range_with_len}
use Rattle.std.proofs.lemmas.Int.{ints}
use Rattle.std.proofs.lemmas.Iterator.{YieldsList}
use Rattle.std.proofs.lemmas.Iterator.Adapters.{total_from_yields_List}
use Rattle.std.proofs.lemmas.List.FromFn.{length-map-range_with_len, map-range_with_len_more, take-map-range_with_len}
use Rattle.std.proofs.lemmas.List.Sums.{fold-append}
use Rattle.composition.proofs.Amounts.{between_fits}
use Rattle.composition.proofs.Chains.{each_front}
use Rattle.composition.specs.Amounts.{Between}
use Rattle.shapley.proofs.Places.{place_sum}

-- what the chain adds up is the sum over the places
folded : (n : ℕ) (g : ℕ → ℤ) → fold ◌+ℤ◌ (pos 0) (map g (range_with_len 0 n)) ≡ place_sum n g
folded zero g = refl
folded (suc n) g =
    ap (λ (k : ℕ). fold ◌+ℤ◌ (pos 0) (map g (range_with_len 0 k))) (sym (add-one n))
    ∙ ap (fold ◌+ℤ◌ (pos 0)) (map-range_with_len_more g 0 n n (omega arith))
    ∙ fold-append ◌+ℤ◌ (pos 0) (map g (range_with_len 0 n)) (g n ∷ [])
    ∙ ap (λ (x : ℤ). x +ℤ g n) (folded n g)

-- small summands have a small sum
place_sum_between : (b n : ℕ) (g : ℕ → ℤ) → ((p : ℕ) → Between b (g p)) → Between (n * b) (place_sum n g)
place_sum_between b zero g small = let none : 0 * b ≡ 0 = omega arith in (omega (arith, ints), omega (arith, ints))
place_sum_between b (suc n) g small =
    let so_far : Between (n * b) (place_sum n g) = place_sum_between b n g small in
    let last : Between b (g n) = small n in
    let more : suc n * b ≡ n * b + b = suc-mul n b in
    (omega (arith, ints), omega (arith, ints))

-- s is a chain that gives g of each place below n
module _ {S : Type 0} {steps : S → Option ℤ → S → Type 0} {s : S} (n : ℕ) (g : ℕ → ℤ) (road : YieldsList steps (λ x. x) s (map g (range_with_len 0 n))) where
  pub chain_sum : (r : ℤ) → ((xs : List ℤ) × (⊤ → Drains steps s xs) × (r ≡ fold ◌+ℤ◌ (pos 0) xs)) → r ≡ place_sum n g
  chain_sum r ran = total_from_yields_List ◌+ℤ◌ (pos 0) r ran road ∙ folded n g

  of_front : (b : ℕ) → ((p : ℕ) → Between b (g p)) → n * b < 2 ^ 127 → (k : ℕ) → k ≤ n → SFits w128 (place_sum k g)
  of_front b small top k below =
      let (low, high) = place_sum_between b k g small in
      let more : k * b ≤ n * b = mul-le-mul below (omega arith) in
      between_fits w128 (n * b) (place_sum k g) top (omega (arith, ints), omega (arith, ints))

  -- where each summand is small, the sum so far fits all along
  pub chain_fits : (b : ℕ) → ((p : ℕ) → Between b (g p)) → n * b < 2 ^ 127 → EachRunFrom steps s (λ p. SFits w128 (fold ◌+ℤ◌ (pos 0) p.items))
  chain_fits b small top =
      each_front road (λ xs. SFits w128 (fold ◌+ℤ◌ (pos 0) xs))
      (λ k below.
      let within : k ≤ n = omega (arith, below, length-map-range_with_len g 0 n) in
      rw (take-map-range_with_len g 0 n k within, folded k g) (of_front b small top k within))
