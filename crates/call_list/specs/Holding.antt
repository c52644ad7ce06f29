-- What is held of each kind, and what making and asking it come to.
use Rattle.std.specs.Prelude.{◌≡◌, ℕ, List, [], ◌∷◌, ℤ, pos, Ok, Err, Result}
use Rattle.composition.specs.Made.{Made}
use Rattle.composition.specs.Refusals.{too_many_homes}
use Rattle.composition.specs.declared.composition.Composition.{Composition}
use Rattle.composition.specs.declared.refusals.TooManyHomes.{TooManyHomes}
use Rattle.cost_rules.specs.Filled.{Filled as ListedFilled, BuiltIn as ListedBuiltIn}
use Rattle.cost_rules.specs.Heads.{headed, HeadMade}
use Rattle.cost_rules.specs.Listed.{listed}
use Rattle.cost_rules.specs.Meanings.{Meaning}
use Rattle.cost_rules.specs.Refusals.{listed_number, fee_outside}
use Rattle.cost_rules.specs.declared.head.HeadRule.{HeadRule}
use Rattle.cost_rules.specs.declared.listed.ListedRule.{ListedRule}
use Rattle.cost_rules.specs.declared.refusals.FeeOutside.{FeeOutside}
use Rattle.cost_rules.specs.declared.refusals.ListedRefusal.{ListedRefusal}
use Rattle.metering.specs.Filled.{PeakFilled, PeakBuiltIn}
use Rattle.metering.specs.Grid.{grid_cost}
use Rattle.metering.specs.Metered.{metered}
use Rattle.metering.specs.Peak.{peak_cost}
use Rattle.metering.specs.Refusals.{price_outside}
use Rattle.metering.specs.declared.metered_rule.MeteredRule.{MeteredRule}
use Rattle.metering.specs.declared.peak_tally.PeakTally.{PeakTally}
use Rattle.metering.specs.declared.refusals.PriceOutside.{PriceOutside}
use Rattle.period.specs.Filled.{Filled as PeriodFilled, page, first_words}
use Rattle.period.specs.Refusals.{part_number}
use Rattle.period.specs.declared.period.Period.{Period}
use Rattle.period.specs.declared.refusals.PeriodRefusal.{PeriodRefusal}
use Rattle.answers.specs.Answers.{done, costed, refused, fee_known, listed_known, period_known}
use Rattle.answers.specs.declared.grounds.Known.TheVariants.{Nothing}
use Rattle.answers.specs.declared.answer.Answer.{Answer}
use Rattle.answers.specs.declared.answer.Answer.TheVariants.{Done}
use Rattle.ledger_lines.specs.declared.line.Listed.{Listed as Written}
use Rattle.ledger_lines.specs.declared.line.Making.{Making}
use Rattle.ledger_lines.specs.declared.line.Making.TheVariants.{Listed, Head, Peak, Check}
use Rattle.ledger_lines.specs.declared.line.Kind.{Kind}
use Rattle.ledger_lines.specs.declared.line.Kind.TheVariants.{Listed as AskListed, Head as AskHead, Peak as AskPeak, Check as AskCheck}
use Rattle.call_list.specs.declared.held.Held.{Held}

-- at first: what each kind has built in, and no fees
pub record BuiltIn (h : Held) : Type 0 where
  pub listed : ListedBuiltIn h.listed
  pub head : h.head.fees ≡ pos 0 ∷ pos 0 ∷ pos 0 ∷ pos 0 ∷ []
  pub peak : PeakBuiltIn h.peak
  pub period : h.period.words.now ≡ first_words

-- ---- making one of a kind

-- making a listed rule out of a box and costs, in place of the one held; or that stays as it was
abbrev pub ListedHeld : Written → ListedRule → Answer → ListedRule → Type 0
ListedHeld l old answer new =
    (result : Result (Unit {0}) ListedRefusal) × ListedFilled l.largest l.table.items old result new × (answer ≡ done listed_number listed_known result)

-- a head rule takes the place of the one held, or that stays as it was
abbrev pub InPlace : Result HeadRule FeeOutside → HeadRule → Answer → HeadRule → Type 0
InPlace (Ok rule) old answer new = (answer ≡ Done) × (new ≡ rule)
InPlace (Err e) old answer new = (answer ≡ refused (λ _. fee_outside) fee_known e) × (new ≡ old)

-- making a head rule out of fees
abbrev pub HeadHeld : List ℤ → HeadRule → Answer → HeadRule → Type 0
HeadHeld fees old answer new = (result : Result HeadRule FeeOutside) × HeadMade fees result × InPlace result old answer new

-- making a peak rule on words and at a price: the words are to be a period, and then the price within its limits
abbrev pub PeakOn : Result (Unit {0}) PeriodRefusal → Period → ℤ → MeteredRule PeakTally → Answer → MeteredRule PeakTally → Type 0
PeakOn (Err e) period price old answer new = (answer ≡ refused (λ r. part_number r.part) period_known e) × (new ≡ old)
PeakOn (Ok checked) period price old answer new =
    (result : Result (Unit {0}) PriceOutside) × PeakFilled period price old result new × (answer ≡ done (λ _. price_outside) (λ _. Nothing) result)

-- the period is the rule's own, and is not held
pub record PeakHeld (words : List ℕ) (price : ℤ) (old : MeteredRule PeakTally) (answer : Answer) (new : MeteredRule PeakTally) : Type 0 where
  pub before : Period
  pub checked : Result (Unit {0}) PeriodRefusal
  pub period : Period
  pub filled : PeriodFilled words before checked period
  pub made : PeakOn checked period price old answer new

-- checking words as a period, in place of the one held
abbrev pub PeriodHeld : List ℕ → Period → Answer → Period → Type 0
PeriodHeld words old answer new =
    (result : Result (Unit {0}) PeriodRefusal) × PeriodFilled words old result new × (answer ≡ done (λ r. part_number r.part) period_known result)

-- making fills the one held of its kind, and no other
abbrev pub Makes : Making → Held → Answer → Held → Type 0
Makes (Listed l) h answer new = ListedHeld l h.listed answer new.listed × (new.head ≡ h.head) × (new.peak ≡ h.peak) × (new.period ≡ h.period)
Makes (Head fees) h answer new = HeadHeld fees h.head answer new.head × (new.listed ≡ h.listed) × (new.peak ≡ h.peak) × (new.period ≡ h.period)
Makes (Peak words price) h answer new =
    PeakHeld words.items price h.peak answer new.peak × (new.listed ≡ h.listed) × (new.head ≡ h.head) × (new.period ≡ h.period)
Makes (Check words) h answer new =
    PeriodHeld words.items h.period answer new.period × (new.listed ≡ h.listed) × (new.head ≡ h.head) × (new.peak ≡ h.peak)

-- ---- asking

-- what the one held of a kind means; of a check, what the grid charges over the period held
abbrev pub held_meaning : Held → Kind → Meaning
held_meaning h AskListed = listed h.listed.largest.counts h.listed.table.now
held_meaning h AskHead = headed h.head.fees
held_meaning h AskPeak = metered (peak_cost h.peak.tally.price.value) (page h.peak.period)
held_meaning h AskCheck = metered grid_cost (page h.period)

-- the cost of a group by a rule that means f, or its fault; but first, why there is no such group
abbrev pub asked : Meaning → Result Composition TooManyHomes → Answer
asked f (Ok group) = costed (f group.counts)
asked f (Err e) = refused (λ _. too_many_homes) (λ _. Nothing) e

-- what is answered for a group of these counts
abbrev pub Asked : Meaning → List ℕ → Answer → Type 0
Asked f n answer = (group : Result Composition TooManyHomes) × Made n group × (answer ≡ asked f group)

-- whether there is such a group
abbrev pub composed : Result Composition TooManyHomes → Answer
composed (Ok group) = Done
composed (Err e) = refused (λ _. too_many_homes) (λ _. Nothing) e

-- what is answered for these counts
abbrev pub Composed : List ℕ → Answer → Type 0
Composed n answer = (group : Result Composition TooManyHomes) × Made n group × (answer ≡ composed group)
