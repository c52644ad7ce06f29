-- Making a price, and filling a peak rule.
use Rattle.std.specs.Prelude.{◌≡◌, ℤ, pos, ◌≤ℤ◌, Ok, Err, Result}
use Rattle.metering.specs.Limits.{most_price}
use Rattle.period.specs.Filled.{first_words}
use Rattle.period.specs.declared.period.Period.{Period}
use Rattle.metering.specs.declared.metered_rule.MeteredRule.{MeteredRule}
use Rattle.metering.specs.declared.peak_tally.PeakTally.{PeakTally}
use Rattle.metering.specs.declared.price.Price.{Price}
use Rattle.metering.specs.declared.refusals.PriceOutside.{PriceOutside}

-- a price within its limits
abbrev pub IsPrice : ℤ → Type 0
IsPrice z = (pos 0 ≤ℤ z) × (z ≤ℤ pos most_price)

-- the price with this value, or a refusal outside the limits
abbrev pub PriceMade : ℤ → Result Price PriceOutside → Type 0
PriceMade z (Ok price) = IsPrice z × (pos price.value ≡ z)
PriceMade z (Err e) = IsPrice z → ⊥

-- the rule stands on this period at this price
pub record Stands (rule : MeteredRule PeakTally) (period : Period) (price : ℤ) : Type 0 where
  pub period_is : rule.period ≡ period
  pub price_is : pos rule.tally.price.value ≡ price

-- the rule to begin with: the built-in period at the price 0
abbrev pub PeakBuiltIn : MeteredRule PeakTally → Type 0
PeakBuiltIn rule = (rule.period.words.now ≡ first_words) × (rule.tally.price.value ≡ 0)

-- filled, it stands on the period at the price, which lies within its limits; refused, the price lies outside its limits, and the rule is as it was
abbrev pub PeakFilled : Period → ℤ → MeteredRule PeakTally → Result (Unit {0}) PriceOutside → MeteredRule PeakTally → Type 0
PeakFilled period price old (Ok done) new = IsPrice price × Stands new period price
PeakFilled period price old (Err e) new = (IsPrice price → ⊥) × (new ≡ old)
