-- Chains over the counts of a group: what they come to, and that it fits all along.
use Rattle.std.proofs.Common.{◌≡◌, ℕ, zero, suc, ◌+◌, ◌*◌, ◌^◌, ◌<◌, ◌≤◌, List, [], ◌∷◌, map, length, take, fold, Option, sym, ap, ◌∙◌, subst, le-mul_of_pos_right, mul-one, one-mul, mul_assoc, arith, length-take}
use Rattle.std.specs.Bool.{⊤}
use Rattle.std.specs.Iterator.{Drains, Yields}
use Rattle.std.specs.Iterator.Runs.{EachRunFrom, YieldsRun}
use Rattle.std.proofs.lemmas.Iterator.{YieldsList}
use Rattle.std.proofs.lemmas.Iterator.Adapters.{total_from_yields_List}
use Rattle.std.proofs.lemmas.Iterator.Consumers.{YieldsList-so_far}
use Rattle.std.proofs.lemmas.List.{map-id}
use Rattle.composition.specs.Counts.{total, size}
use Rattle.composition.proofs.Places.{size_above_none, size_small}

-- what holds of each front of the list that a chain gives holds of what each run of it takes
pub each_front : {S A : Type 0} {steps : S → Option A → S → Type 0} {s : S} {all : List A} → YieldsList steps (λ x. x) s all
    → (P : List A → Type 0) → ((k : ℕ) → k ≤ length all → P (take k all)) → EachRunFrom steps s (λ p. P p.items)
unfolding YieldsRun
each_front {S} {A} {steps} {s} {all} road P holds = λ p _ from. of_run p.items p.gave.0.0 (subst (λ u. Yields steps u p.items p.gave.0.0) from p.gave.0.1)
  where
    of_run : (xs : List A) (t : S) → Yields steps s xs t → P xs
    of_run xs t y =
        let front : xs ≡ take (length xs) all = sym (map-id xs) ∙ YieldsList-so_far road xs t y in
        subst P (sym front) (holds (length xs) (omega (arith, ap length front, length-take (length xs) all)))

-- the choices of each count, multiplied up from a on
choices : (a : ℕ) (ns : List ℕ) → fold (λ b x. b * x) a (map (λ n. n + 1) ns) ≡ a * size ns
choices a [] = sym (mul-one a)
choices a (n ∷ ns) = choices (a * (n + 1)) ns ∙ mul_assoc a (n + 1) (size ns)

-- and those of the first counts are no more
choices_small : (a k : ℕ) (ns : List ℕ) → fold (λ b x. b * x) a (take k (map (λ n. n + 1) ns)) ≤ a * size ns
choices_small a zero ns = le-mul_of_pos_right a (size_above_none ns)
choices_small a (suc k) [] = le-mul_of_pos_right a (size_above_none [])
choices_small a (suc k) (n ∷ ns) = rw (← mul_assoc a (n + 1) (size ns)) (choices_small (a * (n + 1)) k ns)

-- s is a chain that gives the choices of each of these counts
module _ {S : Type 0} {steps : S → Option ℕ → S → Type 0} {s : S} (ns : List ℕ) (road : YieldsList steps (λ x. x) s (map (λ n. n + 1) ns)) where
  pub chain_product : (r : ℕ) → ((xs : List ℕ) × (⊤ → Drains steps s xs) × (r ≡ fold (λ b x. b * x) 1 xs)) → r ≡ size ns
  chain_product r ran = total_from_yields_List (λ b x. b * x) 1 r ran road ∙ choices 1 ns ∙ one-mul (size ns)

  -- of at most 24 homes their product fits all along
  pub product_fits : total ns ≤ 24 → EachRunFrom steps s (λ p. fold (λ b x. b * x) 1 p.items < 2 ^ 64)
  product_fits few =
      each_front road (λ xs. fold (λ b x. b * x) 1 xs < 2 ^ 64) (λ k below. omega (arith, choices_small 1 k ns, size_small ns few))
