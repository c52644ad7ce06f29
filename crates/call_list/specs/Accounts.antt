-- What a line asks of an account, and what comes of it: the relation of each call as the account's own contracts state it, and what is told.
use Rattle.std.specs.Prelude.{◌≡◌, ℕ, List, ℤ, Some, None, Ok, Err, Option, Result, Vec}
use Rattle.std.specs.declared.alloc.Global.{Global}
use Rattle.composition.specs.declared.refusals.NoSuchType.{NoSuchType}
use Rattle.cost_rules.specs.Meanings.{Meaning, Lawful}
use Rattle.account.specs.Calls.{Joined, Departed, Drafted, LineRead}
use Rattle.account.specs.Refusals.{join_number, leave_number, draft_number}
use Rattle.account.specs.Terms.{today}
use Rattle.account.specs.declared.account.Account.{Account}
use Rattle.account.specs.declared.draft.Draft.{Draft}
use Rattle.account.specs.declared.draft.Refused.{Refused}
use Rattle.account.specs.declared.refusals.JoinRefusal.{JoinRefusal}
use Rattle.account.specs.declared.refusals.LeaveRefusal.{LeaveRefusal}
use Rattle.answers.specs.Answers.{done, lined, drafted as told_of, refused, shown, draft_known}
use Rattle.answers.specs.declared.answer.Answer.{Answer}
use Rattle.answers.specs.declared.answer.Answer.TheVariants.{Done}
use Rattle.answers.specs.declared.grounds.Known.TheVariants.{Nothing}
use Rattle.answers.specs.declared.shown.Shown.{Shown}
use Rattle.answers.specs.declared.outcome.Outcome.{Outcome}
use Rattle.answers.specs.declared.outcome.Outcome.TheVariants.{Unreadable, Answered}
use Rattle.call_list.specs.declared.standing.Standing.{Standing}
use Rattle.call_list.specs.declared.standing.Standing.TheVariants.{Open, Drafted as Pending}

-- a call for which the account has to be open: while a draft stands, the line cannot be acted on
abbrev pub OnOpen : (Account → Outcome → Standing → Type 0) → Standing → Outcome → Standing → Type 0
OnOpen call (Open a) o t = call a o t
OnOpen call (Pending d) o t = (o ≡ Unreadable) × (t ≡ Pending d)

-- a call for which a draft has to stand
abbrev pub OnDraft : (Draft → Outcome → Standing → Type 0) → Standing → Outcome → Standing → Type 0
OnDraft call (Open a) o t = (o ≡ Unreadable) × (t ≡ Open a)
OnDraft call (Pending d) o t = call d o t

-- an answer with nothing behind it
abbrev pub answered : Answer → Outcome
answered answer = Answered answer None None

-- the account is open after the call, and is shown behind the answer
abbrev pub AfterCall : Account → Answer → Outcome → Standing → Type 0
AfterCall b answer o t = (o ≡ Answered answer None (Some (shown b))) × (t ≡ Open b)

-- a home joins, or is refused
pub record JoinTaken (number : ℕ) (a : Account) (o : Outcome) (t : Standing) : Type 0 where
  pub result : Result (Unit {0}) JoinRefusal
  pub left : Account
  pub joined : Joined a number result left
  pub told : AfterCall left (done join_number (λ _. Nothing) result) o t

-- a home leaves, or is refused
pub record LeaveTaken (number : ℕ) (a : Account) (o : Outcome) (t : Standing) : Type 0 where
  pub result : Result (Unit {0}) LeaveRefusal
  pub left : Account
  pub departed : Departed a number result left
  pub told : AfterCall left (done leave_number (λ _. Nothing) result) o t

-- the table is told as the draft left it
abbrev pub TableTold : List ℤ → Answer → Option Shown → Outcome → Type 0
TableTold after answer account o = (table : Vec ℤ Global) × (table.items ≡ after) × (o ≡ Answered answer (Some table) account)

-- a draft that is accepted stands; refused, the account is open, and is shown behind the table
abbrev pub DraftShown : Result Draft Refused → List ℤ → Outcome → Standing → Type 0
DraftShown (Ok d) after o t = TableTold after (told_of d) None o × (t ≡ Pending d)
DraftShown (Err e) after o t = TableTold after (refused draft_number draft_known e.refusal) (Some (shown e.account)) o × (t ≡ Open e.account)

-- bills are drafted by a rule that means f, which owes what a rule owes, into a table
pub record DraftTaken (f : Meaning) (table : List ℤ) (a : Account) (o : Outcome) (t : Standing) : Type 0 where
  pub lawful : Lawful f
  pub result : Result Draft Refused
  pub after : List ℤ
  pub drafted : Drafted today f a table result after
  pub told : DraftShown result after o t

-- a draft is posted, or withdrawn
pub record EndTaken (ended : Draft → Account → Type 0) (d : Draft) (o : Outcome) (t : Standing) : Type 0 where
  pub left : Account
  pub ends : ended d left
  pub told : AfterCall left Done o t

-- a line of the draft that stands is read
abbrev pub LineOf : ℕ → Standing → Outcome → Type 0
LineOf number (Open a) o = o ≡ Unreadable
LineOf number (Pending d) o = (result : Result (Option (ℤ × ℤ)) NoSuchType) × LineRead d number result × (o ≡ answered (lined result))
