-- What one billing comes to. Money is in hundredths of a penny, unless a name says pence.
use Rattle.std.specs.Prelude.{◌≡◌, ℕ, ◌*◌, ◌^◌, List, ℤ, pos, ◌+ℤ◌, ◌-ℤ◌, ◌*ℤ◌}
use Rattle.composition.specs.Amounts.{Between, weighted}
use Rattle.composition.specs.Counts.{total}
use Rattle.rounding.specs.Rounding.{RoundedDown}

-- an amount so far below what 64 bits hold that a few more can be added to it
abbrev pub Small : ℤ → Type 0
Small z = Between (2 ^ 48) z

-- what the whole-pence charges to homes with these counts bring in above the cost
abbrev pub surplus : List ℕ → List ℤ → ℤ → ℤ
surplus counts pence cost = pos 100 *ℤ weighted counts pence -ℤ cost

-- each home gets the most whole pence of rebate that the pot pays for, and the rest of the pot is the new purse
pub record Settled (counts : List ℕ) (pence : List ℤ) (cost : ℤ) (purse : ℕ) (rebate : ℤ) (new_purse : ℕ) : Type 0 where
  pub rebate_is : RoundedDown (pos purse +ℤ surplus counts pence cost) (100 * total counts) rebate
  pub purse_is : pos new_purse ≡ (pos purse +ℤ surplus counts pence cost) -ℤ pos (100 * total counts) *ℤ rebate
