-- Groups that some members and some of those left make up, and sums over them.
use Rattle.std.proofs.Common.{◌≡◌, ℕ, zero, suc, ◌+◌, ◌*◌, ◌<◌, List, [], ◌∷◌, length, get_or, ℤ, pos, ◌+ℤ◌, ◌*ℤ◌, neg_ℤ, ◌≤ℤ◌, sym, refl, ap, ◌∙◌, subst, add-zero, arith, ◌⊎◌, inl, inr}
use Rattle.std.proofs.Math.Nat.{eq-or-lt_of_le}
use Rattle.std.proofs.lemmas.Int.{ints}
use Rattle.composition.proofs.Four.{split4, total_four}
use Rattle.composition.proofs.Places.{inside_length}
use Rattle.composition.specs.Amounts.{Between}
use Rattle.composition.specs.Counts.{nobody, total, count, raised, Inside}
use Rattle.rounding.proofs.Integers.{*ℤ_+ℤ, *ℤ_negℤ, one_*ℤ, scale_≤}
use Rattle.shapley.proofs.SubsetsToCounts.{grouped_more}
use Rattle.shapley.proofs.Sums.{Additive, box_sum_cong, box_sum_rel}
use Rattle.shapley.specs.Combinations.{ways}
use Rattle.every_group.specs.Going.{together, over}

-- ---- the types, one after another

-- if the first few have no homes, nor has the next, so it is with one more
pub one_more_without : (counts : List ℕ) (j p : ℕ) → p ≡ j → count p counts ≡ 0 → ((i : ℕ) → i < j → get_or counts i 0 ≡ 0) → (i : ℕ) → i < j + 1 → get_or counts i 0 ≡ 0
one_more_without counts j p e none before i h = go (eq-or-lt_of_le (omega (arith, h)))
  where
    go : (i ≡ j) ⊎ (i < j) → get_or counts i 0 ≡ 0
    go (inl last) = ap (λ q. get_or counts q 0) (last ∙ sym e) ∙ none
    go (inr earlier) = before i earlier

-- ---- groups together

pub together_raised : (i : ℕ) (m n : List ℕ) → length m ≡ length n → together m (raised i n) ≡ together (raised i m) n
together_raised i [] [] e = refl
together_raised i [] (n ∷ ns) e = absurd (omega (arith, e))
together_raised i (m ∷ ms) [] e = absurd (omega (arith, e))
together_raised zero (m ∷ ms) (n ∷ ns) e = ap (λ (x : ℕ). x ∷ together ms ns) (omega arith)
together_raised (suc i) (m ∷ ms) (n ∷ ns) e = ap (λ xs. (m + n) ∷ xs) (together_raised i ms ns (omega (arith, e)))

pub nobody_left : (n : List ℕ) → length n ≡ 4 → total n ≡ 0 → n ≡ nobody
nobody_left n four none =
    let all = total_four n four in
    let a : get_or n 0 0 ≡ 0 = omega (arith, none, all) in
    let b : get_or n 1 0 ≡ 0 = omega (arith, none, all) in
    let c : get_or n 2 0 ≡ 0 = omega (arith, none, all) in
    let d : get_or n 3 0 ≡ 0 = omega (arith, none, all) in
    split4 0 n four ∙ rw (a, b, c, d) refl

pub with_nobody : (m : List ℕ) → length m ≡ 4 → together m nobody ≡ m
with_nobody m four = rw (split4 0 m four) (simp add-zero)

pub of_nobody : (n : List ℕ) → length n ≡ 4 → together nobody n ≡ n
of_nobody n four =
    let none : (x : ℕ) → 0 + x ≡ x = λ x. omega arith in
    rw (split4 0 n four) (rw (none (get_or n 0 0), none (get_or n 1 0), none (get_or n 2 0), none (get_or n 3 0)) refl)

-- fewer of those left, a smaller group
pub together_inside : (m n left others : List ℕ) → Inside n left → Inside (together m left) others → length m ≡ length left → Inside (together m n) others
together_inside [] [] [] others p q e = q
together_inside [] [] (l ∷ ls) others p q e = absurd p
together_inside [] (n ∷ ns) left others p q e = absurd (omega (arith, e, inside_length (n ∷ ns) left p))
together_inside (m ∷ ms) [] left others p q e = absurd (omega (arith, e, inside_length [] left p))
together_inside (m ∷ ms) (n ∷ ns) [] others p q e = absurd p
together_inside (m ∷ ms) (n ∷ ns) (l ∷ ls) [] p q e = absurd q
together_inside (m ∷ ms) (n ∷ ns) (l ∷ ls) (o ∷ os) p q e = (omega (arith, p.0, q.0), together_inside ms ns ls os p.1 q.1 (omega (arith, e)))

pub raised_around : (i : ℕ) (n : List ℕ) → Inside n (raised i n)
raised_around i [] = tt
raised_around zero (n ∷ ns) = (omega arith, same ns)
  where
    same : (ns : List ℕ) → Inside ns ns
    same [] = tt
    same (n ∷ ns) = (omega arith, same ns)
raised_around (suc i) (n ∷ ns) = (omega arith, raised_around i ns)

-- ---- sums over these groups

pub over_nobody : (m : List ℕ) (f : List ℕ → ℤ) → length m ≡ 4 → over nobody m f ≡ f m
over_nobody m f four = one_*ℤ (f (together m nobody)) ∙ ap f (with_nobody m four)

-- one of those left is out of the group, or in it
pub over_more : (i : ℕ) (rest m : List ℕ) (f : List ℕ → ℤ) → i < 4 → length rest ≡ 4 → length m ≡ 4
    → over (raised i rest) m f ≡ over rest m f +ℤ over rest (raised i m) f
over_more i rest m f below four four_m =
    grouped_more rest i (omega (arith, below, four)) (λ n. f (together m n))
    ∙ ap (λ (x : ℤ). over rest m f +ℤ x)
    (box_sum_cong rest (λ n. pos (ways rest n) *ℤ f (together m (raised i n))) (λ n. pos (ways rest n) *ℤ f (together (raised i m) n))
    (λ n inside. ap (λ l. pos (ways rest n) *ℤ f l) (together_raised i m n (omega (arith, four, four_m, inside_length n rest inside)))))

positive_adds : Additive (λ a b. pos 0 ≤ℤ b)
positive_adds a b c d p q = omega (arith, ints, p, q)

pub over_natural : (left m : List ℕ) (g : List ℕ → ℕ) → pos 0 ≤ℤ over left m (λ n. pos (g n))
over_natural left m g =
    box_sum_rel (λ a b. pos 0 ≤ℤ b) positive_adds left (λ n. pos 0) (λ n. pos (ways left n) *ℤ pos (g (together m n))) (λ n i. omega (arith, ints))

bounded_adds : (B : ℕ) → Additive (λ a b. (neg_ℤ (pos B *ℤ b) ≤ℤ a) × (a ≤ℤ (pos B *ℤ b)))
bounded_adds B a b c d p q =
    let e : pos B *ℤ (b +ℤ d) ≡ pos B *ℤ b +ℤ pos B *ℤ d = *ℤ_+ℤ (pos B) b d in
    rw e (omega (arith, ints, p.0, q.0), omega (arith, ints, p.1, q.1))

-- so many times what lies between the bounds
times_between : (k o B : ℕ) (y : ℤ) → Between B y → (neg_ℤ (pos B *ℤ (pos k *ℤ pos o)) ≤ℤ (pos k *ℤ (pos o *ℤ y))) × ((pos k *ℤ (pos o *ℤ y)) ≤ℤ (pos B *ℤ (pos k *ℤ pos o)))
times_between k o B y (low, high) =
    let down = scale_≤ k (pos o *ℤ neg_ℤ (pos B)) (pos o *ℤ y) (scale_≤ o (neg_ℤ (pos B)) y low) in
    let up = scale_≤ k (pos o *ℤ y) (pos o *ℤ pos B) (scale_≤ o y (pos B) high) in
    let negative : pos k *ℤ (pos o *ℤ neg_ℤ (pos B)) ≡ neg_ℤ (pos (k * (o * B))) = ap (λ (x : ℤ). pos k *ℤ x) (*ℤ_negℤ (pos o) (pos B)) ∙ *ℤ_negℤ (pos k) (pos (o * B)) in
    let same : k * (o * B) ≡ B * (k * o) = omega arith in
    (subst (λ (x : ℕ). neg_ℤ (pos x) ≤ℤ (pos k *ℤ (pos o *ℤ y))) same (subst (λ (x : ℤ). x ≤ℤ (pos k *ℤ (pos o *ℤ y))) negative down), subst (λ (x : ℕ). (pos k *ℤ (pos o *ℤ y)) ≤ℤ pos x) same up)

pub over_bounded : (B : ℕ) (left m : List ℕ) (o : List ℕ → ℕ) (y : List ℕ → ℤ) → ((n : List ℕ) → Inside n left → Between B (y (together m n)))
    → (neg_ℤ (pos B *ℤ over left m (λ n. pos (o n))) ≤ℤ over left m (λ n. pos (o n) *ℤ y n)) × (over left m (λ n. pos (o n) *ℤ y n) ≤ℤ (pos B *ℤ over left m (λ n. pos (o n))))
over_bounded B left m o y within =
    box_sum_rel (λ a b. (neg_ℤ (pos B *ℤ b) ≤ℤ a) × (a ≤ℤ (pos B *ℤ b))) (bounded_adds B) left
    (λ n. pos (ways left n) *ℤ (pos (o (together m n)) *ℤ y (together m n))) (λ n. pos (ways left n) *ℤ pos (o (together m n)))
    (λ n i. times_between (ways left n) (o (together m n)) B (y (together m n)) (within n i))
