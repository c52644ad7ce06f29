-- Reading an input, and drafting bills for it.
use Rattle.std.specs.Prelude.{◌≡◌, ℕ, List, ℤ, Ok, Err, Result}
use Rattle.cost_rules.specs.Meanings.{Meaning, Lawful}
use Rattle.account.specs.Calls.{DraftGround, Drafted}
use Rattle.account.specs.Runs.{Been}
use Rattle.account.specs.Terms.{today}
use Rattle.account.specs.declared.account.Account.{Account}
use Rattle.account.specs.declared.draft.Draft.{Draft}
use Rattle.account.specs.declared.refusals.DraftRefusal.{DraftRefusal}
use Rattle.account.specs.declared.refusals.DraftRefusal.TheVariants.{NoHomes, TableTooShort, NumbersUsedUp, Faulty}
use Rattle.metering.specs.Promise.{GridPromise}
use Rattle.period.specs.Offences.{Refused}
use Rattle.listing.specs.Inputs.{Asks, AsksNothing}
use Rattle.listing.specs.declared.refusals.InputRefusal.{InputRefusal}
use Rattle.listing.specs.declared.refusals.InputRefusal.TheVariants.{Unreadable, Period, Draft as NoDraft}
use Rattle.listing.specs.declared.request.Request.{Request}

-- an account that was opened after the number 0, has homes with these counts, and has had no bills posted
pub record JoinedBy (counts : List ℕ) (a : Account) : Type 0 where
  pub been : Been 0 a
  pub homes_are : a.homes.counts ≡ counts
  pub purse_is : a.purse ≡ 0
  pub last_is : a.last ≡ 0

-- a request is for homes with these counts, over the period in these words
abbrev pub IsFor : Request → List ℕ → List ℕ → Type 0
IsFor r counts words = JoinedBy counts r.account × (r.period.words.now ≡ words)

-- why an input has no request: it asks for nothing, or for what is no period
abbrev pub NotRead : List ℕ → InputRefusal → Type 0
NotRead input Unreadable = AsksNothing input
NotRead input (Period e) = Asks input (λ counts words. Refused words e)
NotRead input (NoDraft e) = ⊥

-- read, a request is for what the input asks for
abbrev pub RequestRead : List ℕ → Result Request InputRefusal → Type 0
RequestRead input (Ok r) = Asks input (IsFor r)
RequestRead input (Err e) = NotRead input e

-- what drafting by a rule that means f answers, as `Drafted`, without the account that a refused draft gives back; and a table is never too short, nor are numbers used up
abbrev pub Answered : Meaning → Account → List ℤ → Result Draft DraftRefusal → List ℤ → Type 0
Answered f a table (Ok d) after = Drafted today f a table (Ok d) after
Answered f a table (Err NoHomes) after = DraftGround today f a table NoHomes after
Answered f a table (Err TableTooShort) after = ⊥
Answered f a table (Err NumbersUsedUp) after = ⊥
Answered f a table (Err (Faulty p fault)) after = DraftGround today f a table (Faulty p fault) after

-- a draft for a request is by what the grid charges over its period
pub record RequestDrafted (request : Request) (table : List ℤ) (answer : Result Draft DraftRefusal) (after : List ℤ) : Type 0 where
  pub grid : Meaning
  pub charges : GridPromise request.period.words.now grid
  pub lawful : Lawful grid
  pub answered : Answered grid request.account table answer after
