-- An account goes on by a join, and by a draft that is posted or withdrawn: whatever it has been through, these calls come after it.
use Rattle.std.proofs.Common.{ℕ, List, ℤ, Ok, Result}
use Rattle.cost_rules.specs.Meanings.{Meaning, Lawful}
use Rattle.account.specs.Calls.{Joined, Drafted, Posted, Withdrawn}
use Rattle.account.specs.Runs.{GoesOn, joins, drafts, posts, withdraws}
use Rattle.account.specs.Terms.{today}
use Rattle.account.specs.declared.account.Account.{Account}
use Rattle.account.specs.declared.draft.Draft.{Draft}
use Rattle.account.specs.declared.refusals.JoinRefusal.{JoinRefusal}

pub after_join : (a b : Account) (number : ℕ) (r : Result (Unit {0}) JoinRefusal) → Joined a number r b → GoesOn a b
after_join a b number r joined last been = joins been number r joined

pub after_posting :
    (f : Meaning) (a b : Account) (d : Draft) (table after : List ℤ) → Lawful f → Drafted today f a table (Ok d) after → Posted d b → GoesOn a b
after_posting f a b d table after lawful drafted posted last been = posts (drafts been f lawful table after drafted) posted

pub after_withdrawal :
    (f : Meaning) (a b : Account) (d : Draft) (table after : List ℤ) → Lawful f → Drafted today f a table (Ok d) after → Withdrawn d b → GoesOn a b
after_withdrawal f a b d table after lawful drafted withdrawn last been = withdraws (drafts been f lawful table after drafted) withdrawn
