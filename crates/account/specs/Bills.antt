-- What a draft says: shares, and how they become bills.
use Rattle.std.specs.Prelude.{◌≡◌, ℕ, ◌*◌, ◌<◌, List, length, ℤ, pos, ◌-ℤ◌, Some, None, Ok, Err, Option, Result, slice_index_or}
use Rattle.composition.specs.Counts.{total, count}
use Rattle.composition.specs.Types.{position}
use Rattle.composition.specs.declared.demand_type.DemandType.{DemandType}
use Rattle.cost_rules.specs.Meanings.{Meaning}
use Rattle.cost_rules.specs.declared.fault.Fault.{Fault}
use Rattle.rounding.specs.Rounding.{RoundedUp}
use Rattle.billing.specs.Billing.{Settled}
use Rattle.shapley.specs.CommonMultiple.{lcm_to}
use Rattle.shapley.specs.Shares.{share}
use Rattle.account.specs.declared.account.Account.{Account}
use Rattle.account.specs.declared.draft.Draft.{Draft}

-- the cost in a rule's answer; a fault has none, and reads as 0
abbrev pub cost_of : Result ℤ Fault → ℤ
cost_of (Ok c) = c
cost_of (Err fault) = pos 0

-- what compositions cost by a rule's meaning
abbrev pub cost_by : Meaning → List ℕ → ℤ
cost_by f n = cost_of (f n)

-- the counts of the homes that a draft bills
abbrev pub homes_in : Draft → List ℕ
homes_in d = d.account.homes.counts

-- the line of a type: its share and its bill in pence
abbrev pub line_of : Draft → DemandType → Option (ℤ × ℤ)
line_of d k = slice_index_or d.lines (position k) None

-- a line is absent without homes of the type, and else has the share h
abbrev pub Line : ℕ → ℤ → Option (ℤ × ℤ) → Type 0
Line homes h None = homes ≡ 0
Line homes h (Some line) = (0 < homes) × (line.0 ≡ h)

-- how bills are made of the shares in the lines, the cost of all homes and the purse
pub record MadeOfShares (c : List ℕ → ℤ) (d : Draft) : Type 0 where
  -- the pence charged to a home of each type before the rebate
  pub pence : List ℤ
  pub four : length pence ≡ 4
  -- they are the share rounded up to a whole penny
  pub rounded : (k : DemandType) (line : ℤ × ℤ) → line_of d k ≡ Some line → RoundedUp line.0 (100 * d.lcm) (slice_index_or pence (position k) (pos 0))
  -- a bill is that less the rebate
  pub rebated : (k : DemandType) (line : ℤ × ℤ) → line_of d k ≡ Some line → line.1 ≡ slice_index_or pence (position k) (pos 0) -ℤ d.rebate
  -- the rebate and the purse come of what all homes are charged above their cost
  pub settled : Settled (homes_in d) pence (c (homes_in d)) d.account.purse d.rebate d.purse

-- the draft for an account whose compositions cost c
pub record Billed (c : List ℕ → ℤ) (a : Account) (d : Draft) : Type 0 where
  pub holds : d.account ≡ a
  pub over : d.lcm ≡ lcm_to (total a.homes.counts)
  pub cost_is : d.cost ≡ c a.homes.counts
  pub lines : (k : DemandType) → Line (count (position k) a.homes.counts) (share a.homes.counts (position k) c) (line_of d k)
  pub made : MadeOfShares c d
