-- Periods and rules are noted under the next number.
use Rattle.std.specs.Prelude.{◌≡◌, ◌≢◌, ◌⊎◌, ℕ, List, [], ◌∷◌, ◌++◌, length, ℤ, Some, None, Ok, Err, Option, slice_get}
use Rattle.cost_rules.specs.Filled.{Ground, Holds}
use Rattle.cost_rules.specs.Heads.{HeadMade}
use Rattle.cost_rules.specs.declared.head.HeadRule.{HeadRule}
use Rattle.cost_rules.specs.declared.listed.ListedRule.{ListedRule}
use Rattle.cost_rules.specs.declared.refusals.FeeOutside.{FeeOutside}
use Rattle.cost_rules.specs.declared.refusals.ListedRefusal.{ListedRefusal}
use Rattle.metering.specs.Filled.{IsPrice, Stands}
use Rattle.metering.specs.declared.grid_tally.GridTally.{GridTally}
use Rattle.metering.specs.declared.metered_rule.MeteredRule.{MeteredRule}
use Rattle.metering.specs.declared.peak_tally.PeakTally.{PeakTally}
use Rattle.period.specs.Filled.{Filled}
use Rattle.period.specs.Offences.{Refused}
use Rattle.period.specs.declared.period.Period.{Period}
use Rattle.period.specs.declared.refusals.PeriodRefusal.{PeriodRefusal}
use Rattle.answers.specs.declared.outcome.Outcome.{Outcome}
use Rattle.answers.specs.declared.outcome.Outcome.TheVariants.{Taken, Unreadable, Answered}
use Rattle.ledger_lines.specs.declared.line.Listed.{Listed as Written}
use Rattle.ledger_lines.specs.declared.line.WrittenRule.{WrittenRule}
use Rattle.ledger_lines.specs.declared.line.WrittenRule.TheVariants.{Listed, Head, Sum, Grid, Peak}
use Rattle.rule_book.specs.Added.{Added, Ground as NotTaken}
use Rattle.rule_book.specs.declared.definition.Definition.{Definition}
use Rattle.rule_book.specs.declared.definition.Definition.TheVariants.{Listed as ListedOne, Head as HeadOne, Sum as SumOf, Grid as GridOn, Peak as PeakOn}
use Rattle.rule_book.specs.declared.refusals.AddRefusal.{AddRefusal}
use Rattle.rule_book.specs.declared.refusals.AddRefusal.TheVariants.{NoMemory}
use Rattle.call_list.specs.declared.notes.Notes.{Notes}

-- a box and a table make a listed rule, or why they make none
abbrev pub ListedMade : Written → Option ListedRule → Type 0
ListedMade l (Some rule) = Holds rule l.largest l.table.items
ListedMade l None = (e : ListedRefusal) × Ground l.largest l.table.items e

-- a period and a price make a peak rule, unless the price lies outside its limits
abbrev pub PeakMade : Period → ℤ → Option (MeteredRule PeakTally) → Type 0
PeakMade period price (Some rule) = IsPrice price × Stands rule period price
PeakMade period price None = IsPrice price → ⊥

-- what a written rule defines, where these periods are noted; or why its making refuses
abbrev pub Defines : List Period → WrittenRule → Option Definition → Type 0
Defines ps (Listed l) (Some d) = (rule : ListedRule) × (d ≡ ListedOne rule) × ListedMade l (Some rule)
Defines ps (Listed l) None = ListedMade l None
Defines ps (Head fees) (Some d) = (rule : HeadRule) × (d ≡ HeadOne rule) × HeadMade fees (Ok rule)
Defines ps (Head fees) None = (e : FeeOutside) × HeadMade fees (Err e)
Defines ps (Sum left right) (Some d) = d ≡ SumOf left right
Defines ps (Sum left right) None = ⊥
Defines ps (Grid i) (Some d) = (rule : MeteredRule GridTally) × (d ≡ GridOn rule) × (slice_get ps i ≡ Some rule.period)
Defines ps (Grid i) None = slice_get ps i ≡ None
Defines ps (Peak i price) (Some d) = (rule : MeteredRule PeakTally) × (d ≡ PeakOn rule) × (period : Period) × (slice_get ps i ≡ Some period) × PeakMade period price (Some rule)
Defines ps (Peak i price) None = (slice_get ps i ≡ None) ⊎ (IsPrice price → ⊥)

-- a period is noted behind those before it, if its number is the next and its words are a period; else nothing changes
abbrev pub PeriodNoted : Notes → ℕ → List ℕ → Outcome → Notes → Type 0
PeriodNoted n number words Taken new =
    (number ≡ length n.periods.items) × (before : Period) × (period : Period) × (done : Unit {0}) × Filled words before (Ok done) period
    × (new.periods.items ≡ n.periods.items ++ period ∷ []) × (new.book ≡ n.book)
PeriodNoted n number words Unreadable new = (number ≡ length n.periods.items → (e : PeriodRefusal) × Refused words e) × (new ≡ n)
PeriodNoted n number words (Answered answer table account) new = ⊥

-- why a rule is not noted: its making refuses, or the book does not take its definition, and that not for want of memory
abbrev pub NotAdded : Notes → WrittenRule → Type 0
NotAdded n rule =
    Defines n.periods.items rule None
    ⊎ ((d : Definition) × Defines n.periods.items rule (Some d) × (e : AddRefusal) × (e ≢ NoMemory) × NotTaken (length n.book.definitions.items) d e)

-- a rule goes into the book under the next number, if it is that and the rule can be made and added; else nothing changes
abbrev pub RuleNoted : Notes → ℕ → WrittenRule → Outcome → Notes → Type 0
RuleNoted n number rule Taken new =
    (number ≡ length n.book.definitions.items) × (d : Definition) × Defines n.periods.items rule (Some d)
    × (done : Unit {0}) × Added n.book.definitions.items d (Ok done) new.book.definitions.items × (new.periods ≡ n.periods)
RuleNoted n number rule Unreadable new =
    (number ≡ length n.book.definitions.items → NotAdded n rule) × (new.periods ≡ n.periods) × (new.book.definitions.items ≡ n.book.definitions.items)
RuleNoted n number rule (Answered answer table account) new = ⊥
