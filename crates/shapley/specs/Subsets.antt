-- The Shapley value: over all subsets of the other players, what a player adds, averaged over the orders of arrival.
use Rattle.std.specs.Prelude.{◌≡◌, ℕ, ◌-◌, ◌*◌, List, [], ◌∷◌, length, ℤ, pos, ◌+ℤ◌, ◌-ℤ◌, ◌*ℤ◌}
use Rattle.composition.specs.Counts.{nobody, raised}
use Rattle.composition.specs.Types.{position}
use Rattle.composition.specs.declared.demand_type.DemandType.{DemandType}
use Rattle.shapley.specs.Combinations.{factorial}

-- the sum of f over all subsets of a list: those without its first entry, and those with it
abbrev pub subset_sum : {P : Type 0} → List P → (List P → ℤ) → ℤ
subset_sum [] f = f []
subset_sum (p ∷ ps) f = subset_sum ps f +ℤ subset_sum ps (λ s. f (p ∷ s))

-- the Shapley value of a player beside the others, times the number of orders of all: in (orders of the subset) × (orders
-- of the rest) of the orders, the player arrives right behind that subset and adds to its value
abbrev pub shapley_sum : {P : Type 0} → (List P → ℤ) → P → List P → ℤ
shapley_sum value player others =
    subset_sum others
    (λ s. pos (factorial (length s) * factorial (length others - length s)) *ℤ (value (player ∷ s) -ℤ value s))

-- how many homes of each type a list of homes has, one entry a home, its type
abbrev pub counts_of : List DemandType → List ℕ
counts_of [] = nobody
counts_of (k ∷ ks) = raised (position k) (counts_of ks)

-- h is the share of a home beside the others, over l, where homes together cost what their counts cost: its Shapley value is h / l, so that
-- (number of orders) × h = l × (the sum over all subsets of the others)
abbrev pub IsShapleyShare : (List ℕ → ℤ) → DemandType → List DemandType → ℕ → ℤ → Type 0
IsShapleyShare c home others l h = pos (factorial (length (home ∷ others))) *ℤ h ≡ pos l *ℤ shapley_sum (λ s. c (counts_of s)) home others
