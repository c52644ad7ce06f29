-- What is promised of an account whose story is told.
use Rattle.std.specs.Prelude.{◌≡◌, ℕ, List, [], ◌∷◌, ℤ, Ok}
use Rattle.cost_rules.specs.Meanings.{Meaning}
use Rattle.cost_rules.specs.Sums.{sum_of}
use Rattle.account.specs.Calls.{Drafted, Posted}
use Rattle.account.specs.Terms.{today}
use Rattle.account.specs.declared.account.Account.{Account}
use Rattle.account.specs.declared.draft.Draft.{Draft}
use Rattle.figures.specs.WorkedCases.{three_homes}
use Rattle.metering.specs.Promise.{GridPromise, PeakPromise}

-- an account after a draft by a rule that means f, with a table before and after, came to this end
abbrev pub DraftEnded : (Draft → Account → Type 0) → Meaning → Account → List ℤ → List ℤ → Account → Type 0
DraftEnded End f a table after b = (d : Draft) × Drafted today f a table (Ok d) after × End d b

-- the account at the end of the story by lists and fees: who joined it, what four posted drafts left in its purse, and the number of the last bill
pub record EndOfLists (a : Account) : Type 0 where
  pub homes_are : a.homes.counts ≡ three_homes
  pub purse_is : a.purse ≡ 60
  pub last_is : a.last ≡ 4

-- the price of the story's peak, in hundredths of a penny for 1,000 watts
abbrev pub peak_price : ℕ
peak_price = 100

-- the words of the story's readings: two half-hours for two types, whose meaning docs/METERING.md works out
abbrev pub readings_words : List ℕ
readings_words =
    0x10000002 ∷ 0x20000002 ∷ 0x30000000 ∷ 0x310003E8 ∷ 0x320001F4 ∷ 0x3300005A ∷ 0x3400005A ∷ 0x40000BB8 ∷ 0x500001F4 ∷ 0x600000C8 ∷ 0x60000320 ∷ 0x700003E8 ∷ 0x60000384 ∷ 0x600002BC ∷ 0x70000000 ∷ 0xF000000F ∷ []

-- an account after a draft that was posted, by the sum of what the grid charges over the period that these words write down and what its highest half-hour costs
pub record PostedByMeter (a b : Account) : Type 0 where
  pub grid : Meaning
  pub peak : Meaning
  pub grid_charges : GridPromise readings_words grid
  pub peak_costs : PeakPromise readings_words peak_price peak
  pub table : List ℤ
  pub after : List ℤ
  pub posted : DraftEnded Posted (sum_of grid peak) a table after b
