-- Places: every group inside another has one of its own, and every place below the size is some group's.
use Rattle.std.proofs.Common.{◌≡◌, ℕ, zero, suc, ◌+◌, ◌*◌, ◌/◌, ◌%◌, ◌^◌, ◌<◌, ◌≤◌, Bool, true, false, leb, List, [], ◌∷◌, length, slice_index, take, sym, refl, ap, mul_comm, mul-le-mul, mul-le-mul_left, mul-pos, mul-add, pow-add, pow_mono, le_trans, arith}
use native.Mathlib.Nat.{two-pow-succ}
use Rattle.std.proofs.lemmas.Nat.{mod_below, div_below, div-add-mod', div-mul-add, mod-mul-add}
use Rattle.std.proofs.lemmas.Bool.{and_parts, and_from, leb-true, le-leb}
use Rattle.composition.specs.Counts.{total, size, fits, place, at_place, step, Inside, count, raised, lowered}

pub inside_length : (ns ms : List ℕ) → Inside ns ms → length ns ≡ length ms
inside_length [] [] h = refl
inside_length [] (m ∷ ms) h = absurd h
inside_length (n ∷ ns) [] h = absurd h
inside_length (n ∷ ns) (m ∷ ms) h = ap suc (inside_length ns ms h.1)

pub inside_total : (ns ms : List ℕ) → Inside ns ms → total ns ≤ total ms
inside_total [] [] h = omega arith
inside_total [] (m ∷ ms) h = absurd h
inside_total (n ∷ ns) [] h = absurd h
inside_total (n ∷ ns) (m ∷ ms) h = let t : total ns ≤ total ms = inside_total ns ms h.1 in omega arith

-- a group lies inside itself
pub inside_self : (ns : List ℕ) → Inside ns ns
inside_self [] = tt
inside_self (n ∷ ns) = (omega arith, inside_self ns)

-- a group of the others is a group of all
pub inside_lowered : (i : ℕ) (ns ms : List ℕ) → Inside ns (lowered i ms) → Inside ns ms
inside_lowered i ns [] h = h
inside_lowered zero [] (m ∷ ms) h = absurd h
inside_lowered zero (n ∷ ns) (m ∷ ms) h = (omega (arith, h.0), h.1)
inside_lowered (suc i) [] (m ∷ ms) h = absurd h
inside_lowered (suc i) (n ∷ ns) (m ∷ ms) h = (h.0, inside_lowered i ns ms h.1)

-- and so it is with the home itself
pub raised_inside : (i : ℕ) (ns ms : List ℕ) → 0 < count i ms → Inside ns (lowered i ms) → Inside (raised i ns) ms
raised_inside i ns [] p h = absurd (omega arith)
raised_inside zero [] (m ∷ ms) p h = absurd h
raised_inside zero (n ∷ ns) (m ∷ ms) p h = (omega (arith, h.0), h.1)
raised_inside (suc i) [] (m ∷ ms) p h = absurd h
raised_inside (suc i) (n ∷ ns) (m ∷ ms) p h = (h.0, raised_inside i ns ms p h.1)

pub at_place_inside : (ms : List ℕ) (p : ℕ) → Inside (at_place ms p) ms
at_place_inside [] p = tt
at_place_inside (m ∷ ms) p =
    let b : p % (m + 1) < m + 1 = mod_below p (m + 1) (omega arith) in
    (omega arith, at_place_inside ms (p / (m + 1)))

pub place_below : (ms ns : List ℕ) → Inside ns ms → place ms ns < size ms
place_below [] [] h = omega arith
place_below [] (n ∷ ns) h = absurd h
place_below (m ∷ ms) [] h = absurd h
place_below (m ∷ ms) (n ∷ ns) h =
    let b : place ms ns + 1 ≤ size ms = omega (arith, place_below ms ns h.1) in
    let t : (m + 1) * (place ms ns + 1) ≤ (m + 1) * size ms = mul-le-mul_left (m + 1) b in
    omega (arith, h.0, t)

pub size_above_none : (ms : List ℕ) → 0 < size ms
size_above_none [] = omega arith
size_above_none (m ∷ ms) = mul-pos (omega arith) (size_above_none ms)

count_le_power : (n : ℕ) → n + 1 ≤ 2 ^ n
count_le_power zero = omega arith
count_le_power (suc n) = let h : n + 1 ≤ 2 ^ n = count_le_power n in omega (arith, two-pow-succ n)

-- there are no more groups than subsets of the homes
pub size_le_power : (ms : List ℕ) → size ms ≤ 2 ^ total ms
size_le_power [] = omega arith
size_le_power (m ∷ ms) = rw (pow-add 2 m (total ms)) (mul-le-mul (count_le_power m) (size_le_power ms))

-- so those of at most 24 homes are few enough for an index to be added to
pub size_small : (ms : List ℕ) → total ms ≤ 24 → size ms ≤ 2 ^ 24
size_small ms h = le_trans (size_le_power ms) (pow_mono h)

-- the group at a place has that place
pub place_at_place : (ms : List ℕ) (p : ℕ) → p < size ms → place ms (at_place ms p) ≡ p
place_at_place [] p h = omega arith
place_at_place (m ∷ ms) p h =
    let rest : place ms (at_place ms (p / (m + 1))) ≡ p / (m + 1) =
    place_at_place ms (p / (m + 1)) (div_below p (m + 1) (size ms) (omega arith) (rw (mul_comm (size ms) (m + 1)) h)) in
    let split : p / (m + 1) * (m + 1) + p % (m + 1) ≡ p = div-add-mod' p (m + 1) in
    rw rest (omega (arith, split, mul_comm (p / (m + 1)) (m + 1)))

-- and a group stands at its place
pub at_place_place : (ms ns : List ℕ) → Inside ns ms → at_place ms (place ms ns) ≡ ns
at_place_place [] [] h = refl
at_place_place [] (n ∷ ns) h = absurd h
at_place_place (m ∷ ms) [] h = absurd h
at_place_place (m ∷ ms) (n ∷ ns) h =
    let q = place ms ns in
    let turned : n + (m + 1) * q ≡ q * (m + 1) + n = omega (arith, mul_comm (m + 1) q) in
    let small : n < m + 1 = omega (arith, h.0) in
    let digit : (n + (m + 1) * q) % (m + 1) ≡ n = rw turned (mod-mul-add q (m + 1) n small) in
    let left : (n + (m + 1) * q) / (m + 1) ≡ q = rw turned (div-mul-add q (m + 1) n small) in
    rw (digit, left) (ap (λ ks. n ∷ ks) (at_place_place ms ns h.1))

-- one home more of a type stands one step further on
pub place_raised : (i : ℕ) (ms ns : List ℕ) → i < length ms → length ns ≡ length ms → place ms (raised i ns) ≡ place ms ns + step i ms
place_raised i [] ns h e = absurd (omega arith)
place_raised i (m ∷ ms) [] h e = absurd (omega arith)
place_raised zero (m ∷ ms) (n ∷ ns) h e = omega arith
place_raised (suc i) (m ∷ ms) (n ∷ ns) h e =
    rw (place_raised i ms ns (omega arith) (omega arith)) (omega (arith, mul-add (m + 1) (place ms ns) (step i ms)))

-- that step is the number of groups inside the counts before the type's own
pub step_is_size : (i : ℕ) (ms : List ℕ) → i < length ms → step i ms ≡ size (take i ms)
step_is_size i [] h = absurd (omega arith)
step_is_size zero (m ∷ ms) h = refl
step_is_size (suc i) (m ∷ ms) h = ap (λ (n : ℕ). (m + 1) * n) (step_is_size i ms (omega arith))

-- the test tells what it is for a group to lie inside another
pub fits_inside : (ns ms : List ℕ) → fits ns ms ≡ true → Inside ns ms
fits_inside [] [] h = tt
fits_inside [] (m ∷ ms) h = cc
fits_inside (n ∷ ns) [] h = cc
fits_inside (n ∷ ns) (m ∷ ms) h =
    let parts = and_parts (leb n m) (fits ns ms) h in
    (omega (arith, leb-true n m parts.0), fits_inside ns ms parts.1)

pub inside_fits : (ns ms : List ℕ) → Inside ns ms → fits ns ms ≡ true
inside_fits [] [] h = refl
inside_fits [] (m ∷ ms) h = absurd h
inside_fits (n ∷ ns) [] h = absurd h
inside_fits (n ∷ ns) (m ∷ ms) h = and_from (leb n m) (fits ns ms) (le-leb n m h.0) (inside_fits ns ms h.1)

-- so does any test of whether each count is within the other's
pub within_inside : (ns ms : List ℕ) → length ns ≡ length ms → ((i : ℕ) → i < length ns → slice_index ns i ≤ slice_index ms i) → Inside ns ms
within_inside [] [] e h = tt
within_inside [] (m ∷ ms) e h = absurd (omega arith)
within_inside (n ∷ ns) [] e h = absurd (omega arith)
within_inside (n ∷ ns) (m ∷ ms) e h = (h 0 (omega arith), within_inside ns ms (omega arith) (λ i below. h (suc i) (omega arith)))

pub inside_within : (ns ms : List ℕ) → Inside ns ms → (i : ℕ) → slice_index ns i ≤ slice_index ms i
inside_within [] [] h i = omega arith
inside_within [] (m ∷ ms) h i = absurd h
inside_within (n ∷ ns) [] h i = absurd h
inside_within (n ∷ ns) (m ∷ ms) h zero = h.0
inside_within (n ∷ ns) (m ∷ ms) h (suc i) = inside_within ns ms h.1 i

pub tests_fit :
    (b : Bool) (ns ms : List ℕ)
    → length ns ≡ length ms
    → (b ≡ true → (i : ℕ) → i < length ns → slice_index ns i ≤ slice_index ms i)
    → (((i : ℕ) → i < length ns → slice_index ns i ≤ slice_index ms i) → b ≡ true)
    → b ≡ fits ns ms
tests_fit true ns ms e all each = sym (inside_fits ns ms (within_inside ns ms e (all refl)))
tests_fit false ns ms e all each =
    let fitting : (b : Bool) → fits ns ms ≡ b → false ≡ b = elim [ true ↦ λ yes. each (λ i below. inside_within ns ms (fits_inside ns ms yes) i) | false ↦ λ no. refl ] in
    fitting (fits ns ms) refl
