-- What a settlement means for the homes and the purse: nothing is lost, and less than a penny for each home is kept.
use Rattle.std.proofs.Common.{◌≡◌, ℕ, ◌+◌, ◌*◌, ◌<◌, List, [], ◌∷◌, map, length, ℤ, pos, ◌+ℤ◌, ◌-ℤ◌, ◌*ℤ◌, nat_abs, ◌<ℤ◌, sym, ap, ◌∙◌, arith}
use lib.IntN.{zero-*ℤ}
use Rattle.std.proofs.lemmas.Int.{ints}
use Rattle.rounding.specs.Rounding.{RoundedDown}
use Rattle.rounding.proofs.Integers.{*ℤ_+ℤ, *ℤ_-ℤ, +ℤ_*ℤ, *ℤ_one, *ℤ_assoc}
use Rattle.rounding.proofs.RoundingLaws.{down_unique}
use Rattle.composition.specs.Amounts.{weighted}
use Rattle.composition.specs.Counts.{total}
use Rattle.billing.specs.Billing.{surplus, Settled}

-- what is left of an amount, once the quotient rounded down is taken, is below the divisor
rest_below : (a q : ℤ) (d n : ℕ) → RoundedDown a d q → pos n ≡ a -ℤ pos d *ℤ q → n < d
rest_below a q d n r e = under (pos d *ℤ q) (pos d *ℤ (q +ℤ pos 1)) e r.beyond (*ℤ_+ℤ (pos d) q (pos 1) ∙ ap (λ (x : ℤ). pos d *ℤ q +ℤ x) (*ℤ_one (pos d)))
  where
    under : (x y : ℤ) → pos n ≡ a -ℤ x → a <ℤ y → y ≡ x +ℤ pos d → n < d
    under x y e h f = omega (arith, ints)

-- the new purse would not pay for one more penny to every home
pub purse_below : (counts : List ℕ) (pence : List ℤ) (cost : ℤ) (purse : ℕ) (rebate : ℤ) (new_purse : ℕ) → Settled counts pence cost purse rebate new_purse → new_purse < 100 * total counts
purse_below counts pence cost purse rebate new_purse s =
    rest_below (pos purse +ℤ surplus counts pence cost) rebate (100 * total counts) new_purse s.rebate_is s.purse_is

-- where every home is charged less by the rebate, all are charged less by the homes times the rebate
pub weighted_less : (counts : List ℕ) (pence : List ℤ) (rebate : ℤ) → length counts ≡ length pence → weighted counts (map (λ u. u -ℤ rebate) pence) ≡ weighted counts pence -ℤ pos (total counts) *ℤ rebate
weighted_less [] pence rebate e = zero_less (zero-*ℤ rebate)
  where
    zero_less : {x : ℤ} → x ≡ pos 0 → pos 0 ≡ pos 0 -ℤ x
    zero_less {x} h = omega (arith, ints)
weighted_less (n ∷ ns) [] rebate e = absurd (omega arith)
weighted_less (n ∷ ns) (p ∷ ps) rebate e =
    joined (pos n *ℤ (p -ℤ rebate)) (pos n *ℤ p) (pos n *ℤ rebate) (weighted ns (map (λ u. u -ℤ rebate) ps)) (weighted ns ps) (pos (total ns) *ℤ rebate) (pos (n + total ns) *ℤ rebate)
    (*ℤ_-ℤ (pos n) p rebate) (weighted_less ns ps rebate (omega arith)) (+ℤ_*ℤ (pos n) (pos (total ns)) rebate)
  where
    joined : (a b c w v t s : ℤ) → a ≡ b -ℤ c → w ≡ v -ℤ t → s ≡ c +ℤ t → a +ℤ w ≡ (b +ℤ v) -ℤ s
    joined a b c w v t s p q r = omega (arith, ints)

-- all bills, which are the pence less the rebate, and the old purse together are the cost and the new purse
pub balance : (counts : List ℕ) (pence : List ℤ) (cost : ℤ) (purse : ℕ) (rebate : ℤ) (new_purse : ℕ) → length counts ≡ length pence → Settled counts pence cost purse rebate new_purse
    → pos 100 *ℤ weighted counts (map (λ u. u -ℤ rebate) pence) +ℤ pos purse ≡ cost +ℤ pos new_purse
balance counts pence cost purse rebate new_purse e s =
    even (pos 100 *ℤ weighted counts (map (λ u. u -ℤ rebate) pence)) (pos 100 *ℤ weighted counts pence) (pos (100 * total counts) *ℤ rebate) cost (pos purse) (pos new_purse)
    (ap (λ (x : ℤ). pos 100 *ℤ x) (weighted_less counts pence rebate e) ∙ *ℤ_-ℤ (pos 100) (weighted counts pence) (pos (total counts) *ℤ rebate)
    ∙ ap (λ (x : ℤ). pos 100 *ℤ weighted counts pence -ℤ x) (sym (*ℤ_assoc (pos 100) (pos (total counts)) rebate)))
    s.purse_is
  where
    even : (bills charges back cost purse new : ℤ) → bills ≡ charges -ℤ back → new ≡ (purse +ℤ (charges -ℤ cost)) -ℤ back → bills +ℤ purse ≡ cost +ℤ new
    even bills charges back cost purse new p q = omega (arith, ints)

-- the same charges have one settlement
pub settled_unique : (counts : List ℕ) (pence : List ℤ) (cost : ℤ) (purse : ℕ) (rebate rebate' : ℤ) (new_purse new_purse' : ℕ)
    → Settled counts pence cost purse rebate new_purse → Settled counts pence cost purse rebate' new_purse' → (rebate ≡ rebate') × (new_purse ≡ new_purse')
settled_unique counts pence cost purse rebate rebate' new_purse new_purse' s t = (same, ap nat_abs purses)
  where
    same : rebate ≡ rebate'
    same = down_unique (pos purse +ℤ surplus counts pence cost) (100 * total counts) rebate rebate' s.rebate_is t.rebate_is

    purses : pos new_purse ≡ pos new_purse'
    purses = s.purse_is ∙ ap (λ (x : ℤ). (pos purse +ℤ surplus counts pence cost) -ℤ pos (100 * total counts) *ℤ x) same ∙ sym t.purse_is
