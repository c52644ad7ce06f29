-- What a call is answered, by its result.
use Rattle.std.specs.Prelude.{ℕ, ℤ, Some, None, Ok, Err, Option, Result}
use Rattle.composition.specs.Counts.{total}
use Rattle.composition.specs.Refusals.{no_such_type}
use Rattle.composition.specs.Types.{number_of}
use Rattle.composition.specs.declared.refusals.NoSuchType.{NoSuchType}
use Rattle.cost_rules.specs.declared.fault.Fault.{Fault as RuleFault}
use Rattle.cost_rules.specs.declared.refusals.FeeOutside.{FeeOutside}
use Rattle.cost_rules.specs.declared.refusals.ListedRefusal.{ListedRefusal}
use Rattle.cost_rules.specs.declared.refusals.ListedRefusal.TheVariants.{BoxTooLarge, WrongLength, FirstNotZero, OutsideLimits}
use Rattle.period.specs.declared.refusals.PeriodRefusal.{PeriodRefusal}
use Rattle.account.specs.Bills.{homes_in}
use Rattle.account.specs.declared.account.Account.{Account}
use Rattle.account.specs.declared.draft.Draft.{Draft}
use Rattle.account.specs.declared.refusals.DraftRefusal.{DraftRefusal}
use Rattle.account.specs.declared.refusals.DraftRefusal.TheVariants.{NoHomes, TableTooShort, NumbersUsedUp, Faulty as FaultyDraft}
use Rattle.answers.specs.declared.answer.Answer.{Answer}
use Rattle.answers.specs.declared.answer.Answer.TheVariants.{Done, Cost, Line, Absent, Drafted, Refused, Faulty as NoCost}
use Rattle.answers.specs.declared.grounds.Known.{Known}
use Rattle.answers.specs.declared.grounds.Known.TheVariants.{Nothing, At, Faulty as FaultyAt}
use Rattle.answers.specs.declared.shown.Shown.{Shown}

-- what is known of a fee outside its limits: the number of the type that it is for
abbrev pub fee_known : FeeOutside → Known
fee_known e = At (number_of e.of)

-- of a box and a table that make no rule: the place of the first entry outside the limits, if that is the ground
abbrev pub listed_known : ListedRefusal → Known
listed_known BoxTooLarge = Nothing
listed_known WrongLength = Nothing
listed_known FirstNotZero = Nothing
listed_known (OutsideLimits p) = At p

-- of words that are no period: the place of the first that offends
abbrev pub period_known : PeriodRefusal → Known
period_known e = At e.place

-- of a refused draft: the place of the first composition that has a fault and this fault, if that is the ground
abbrev pub draft_known : DraftRefusal → Known
draft_known NoHomes = Nothing
draft_known TableTooShort = Nothing
draft_known NumbersUsedUp = Nothing
draft_known (FaultyDraft p fault) = FaultyAt p fault

-- a refusal: the number that it is known by, and what is known beside that
abbrev pub refused : {E : Type 0} → (E → ℕ) → (E → Known) → E → Answer
refused number known e = Refused (record { number = number e; known = known e })

-- a call that has nothing to tell, or its refusal
abbrev pub done : {E : Type 0} → (E → ℕ) → (E → Known) → Result (Unit {0}) E → Answer
done number known (Ok u) = Done
done number known (Err e) = refused number known e

-- the cost of a composition, or its fault
abbrev pub costed : Result ℤ RuleFault → Answer
costed (Ok c) = Cost c
costed (Err fault) = NoCost fault

-- share and bill of a type that has homes; or that it has none, or that there is no such type
abbrev pub lined : Result (Option (ℤ × ℤ)) NoSuchType → Answer
lined (Ok (Some line)) = Line line.0 line.1
lined (Ok None) = Absent
lined (Err e) = refused (λ _. no_such_type) (λ _. Nothing) e

-- how many homes a draft bills, L, the cost, the rebate and the purse
abbrev pub drafted : Draft → Answer
drafted d = Drafted (record { homes = total (homes_in d); lcm = d.lcm; cost = d.cost; rebate = d.rebate; purse = d.purse })

-- an account is shown by its homes' counts, its purse and the number of its last bill
abbrev pub shown : Account → Shown
shown a = record { counts = a.homes.counts; purse = a.purse; last = a.last }
