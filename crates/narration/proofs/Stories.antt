-- That the story's readings are taken, and that a filled peak rule is at its price.
use Rattle.std.proofs.Common.{◌≡◌, ℕ, pos, Ok, Err, Result, IfErr, true, false, refl, subst, arith}
use Rattle.std.proofs.lemmas.Int.{ints}
use Rattle.cost_rules.specs.Meanings.{Meaning}
use Rattle.metering.specs.Filled.{PeakFilled}
use Rattle.metering.specs.Promise.{PeakPromise}
use Rattle.metering.specs.declared.metered_rule.MeteredRule.{MeteredRule}
use Rattle.metering.specs.declared.peak_tally.PeakTally.{PeakTally}
use Rattle.metering.specs.declared.refusals.PriceOutside.{PriceOutside}
use Rattle.period.proofs.AcceptedPages.{accepted_writes}
use Rattle.period.specs.Filled.{Filled}
use Rattle.period.specs.Reader.{page_of}
use Rattle.period.specs.declared.period.Period.{Period}
use Rattle.period.specs.declared.refusals.PeriodRefusal.{PeriodRefusal}
use Rattle.narration.specs.Story.{readings_words}

-- the story's readings are a period, so that filling one by them is not refused
pub readings_taken : (old new : Period) (r : Result (Unit {0}) PeriodRefusal) → Filled readings_words old r new → new.words.now ≡ readings_words
readings_taken old new (Ok done) filled = filled.0
readings_taken old new (Err e) filled = absurd (filled.1.no_period (page_of readings_words) (accepted_writes readings_words refl))

-- a peak rule that was filled, and not refused, is the rule at that price
pub at_price :
    (price : ℕ) (period : Period) (old new : MeteredRule PeakTally) (f : Meaning) (r : Result (Unit {0}) PriceOutside)
    → PeakFilled period (pos price) old r new
    → IfErr r (λ e. false ≡ true)
    → PeakPromise new.period.words.now new.tally.price.value f
    → PeakPromise period.words.now price f
at_price price period old new f (Ok done) filled taken promise =
    let value : new.tally.price.value ≡ price = omega (arith, ints, filled.1.price_is) in
    subst (λ (p : Period). PeakPromise p.words.now price f) filled.1.period_is (subst (λ n. PeakPromise new.period.words.now n f) value promise)
at_price price period old new f (Err e) filled taken promise = cc
