-- Groups of homes as lists of counts, one count a type, and the places that they have in a table.
use Rattle.std.specs.Prelude.{ℕ, zero, suc, ◌+◌, ◌-◌, ◌*◌, ◌/◌, ◌%◌, ◌≤◌, Bool, true, false, ◌&&◌, List, [], ◌∷◌, nat_le, slice_index}

-- how many homes there are in all
abbrev pub total : List ℕ → ℕ
total [] = 0
total (n ∷ ns) = n + total ns

-- the most homes that a group can have
abbrev pub most : ℕ
most = 24

-- the group of no homes
abbrev pub nobody : List ℕ
nobody = 0 ∷ 0 ∷ 0 ∷ 0 ∷ []

-- how many groups there are inside: each count may be anything from 0 up to its own
abbrev pub size : List ℕ → ℕ
size [] = 1
size (n ∷ ns) = (n + 1) * size ns

-- the first group lies inside the second: no count is above the other's
abbrev pub Inside : List ℕ → List ℕ → Type 0
Inside [] [] = Unit {0}
Inside [] (m ∷ ms) = ⊥
Inside (n ∷ ns) [] = ⊥
Inside (n ∷ ns) (m ∷ ms) = (n ≤ m) × Inside ns ms

-- the test whether the first group lies inside the second
abbrev pub fits : List ℕ → List ℕ → Bool
fits [] [] = true
fits [] (m ∷ ms) = false
fits (n ∷ ns) [] = false
fits (n ∷ ns) (m ∷ ms) = nat_le n m && fits ns ms

-- the place of a group inside a larger one, the first count running fastest
abbrev pub place : List ℕ → List ℕ → ℕ
place [] ns = 0
place (m ∷ ms) [] = 0
place (m ∷ ms) (n ∷ ns) = n + (m + 1) * place ms ns

-- the group at a place inside a larger one: the counts back out of the place, by remainders
abbrev pub at_place : List ℕ → ℕ → List ℕ
at_place [] p = []
at_place (m ∷ ms) p = p % (m + 1) ∷ at_place ms (p / (m + 1))

-- how many places further on a group stands with one home more of the type at a position: one for each choice of the counts before it
abbrev pub step : ℕ → List ℕ → ℕ
step i [] = 1
step zero (m ∷ ms) = 1
step (suc i) (m ∷ ms) = (m + 1) * step i ms

-- how many homes there are of the type whose count stands at a position
abbrev pub count : ℕ → List ℕ → ℕ
count i ns = slice_index ns i

-- one home more of the type whose count stands at a position
abbrev pub raised : ℕ → List ℕ → List ℕ
raised i [] = []
raised zero (n ∷ ns) = (n + 1) ∷ ns
raised (suc i) (n ∷ ns) = n ∷ raised i ns

-- one home fewer of the type whose count stands at a position
abbrev pub lowered : ℕ → List ℕ → List ℕ
lowered i [] = []
lowered zero (n ∷ ns) = (n - 1) ∷ ns
lowered (suc i) (n ∷ ns) = n ∷ lowered i ns
