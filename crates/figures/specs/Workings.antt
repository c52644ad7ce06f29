-- How the figures are worked out. Only contracts inside the crate cite this, and nobody has to believe it.
use Rattle.std.specs.Prelude.{◌≡◌, ℕ, ◌<◌, ◌≤◌, List, ℤ, Ok, is_ok, true}
use Rattle.composition.specs.Counts.{total, size, Inside}
use Rattle.cost_rules.specs.Filled.{Ground}
use Rattle.cost_rules.specs.Meanings.{Meaning}
use Rattle.cost_rules.specs.declared.refusals.ListedRefusal.{ListedRefusal}
use Rattle.account.specs.Calls.{Drafted}
use Rattle.account.specs.Terms.{today}
use Rattle.account.specs.declared.account.Account.{Account}
use Rattle.account.specs.declared.draft.Draft.{Draft}
use Rattle.figures.specs.Bills.{bills_in}
use Rattle.figures.specs.declared.bills.Bills.{Bills}

-- a box and a table that make a rule
abbrev pub IsList : List ℕ → List ℤ → Type 0
IsList box table = (refusal : ListedRefusal) → Ground box table refusal → ⊥

-- an account for which a draft by a rule that means f, with a table of 6 costs, is accepted: it has homes, the table has room for all their groups, each group has a
-- cost, and there is a bill number left
pub record Billable (f : Meaning) (a : Account) : Type 0 where
  pub some_homes : 0 < total a.homes.counts
  pub long_enough : size a.homes.counts ≤ 6
  pub costed : (n : List ℕ) → Inside n a.homes.counts → is_ok (f n) ≡ true
  pub numbers_left : a.last < today.highest

-- an account after a draft by a rule that means f, which told these bills, came to this end
pub record BillsEnded (End : Draft → Account → Type 0) (f : Meaning) (a : Account) (bills : Bills) (b : Account) : Type 0 where
  pub draft : Draft
  pub table : List ℤ
  pub after : List ℤ
  pub drafted : Drafted today f a table (Ok draft) after
  pub told : bills_in draft ≡ bills
  pub ended : End draft b
