-- What a line comes to inside a list of calls.
use Rattle.std.specs.Prelude.{◌≡◌, ℕ, ◌<◌, ◌≤◌, length, Some, None, Option, []}
use Rattle.cost_rules.specs.Meanings.{Meaning}
use Rattle.account.specs.Calls.{Opened, Posted, Withdrawn}
use Rattle.account.specs.declared.account.Account.{Account}
use Rattle.answers.specs.declared.answer.Answer.{Answer}
use Rattle.answers.specs.declared.outcome.Outcome.{Outcome}
use Rattle.answers.specs.declared.outcome.Outcome.TheVariants.{Taken, Unreadable}
use Rattle.ledger_lines.specs.declared.line.Line.{Line}
use Rattle.ledger_lines.specs.declared.line.Line.TheVariants.{List as Begin, End, Period, Rule, Join, Leave, Draft, Line as ReadLine, Post, Withdraw, Compose, Make, Ask, Cost}
use Rattle.rule_book.specs.Meanings.{means}
use Rattle.rule_book.specs.declared.book.RuleBook.{RuleBook}
use Rattle.call_list.specs.Accounts.{OnOpen, OnDraft, JoinTaken, LeaveTaken, DraftTaken, LineOf, EndTaken, answered}
use Rattle.call_list.specs.Holding.{BuiltIn, Makes, Asked, Composed, held_meaning}
use Rattle.call_list.specs.Noting.{PeriodNoted, RuleNoted}
use Rattle.call_list.specs.declared.session.Session.{Session}
use Rattle.call_list.specs.declared.standing.Standing.TheVariants.{Open}

-- a list begins: a new account, nothing noted, and what is built in is held
pub record Begun (last : ℕ) (s : Session) : Type 0 where
  pub account : Account
  pub stands : s.standing ≡ Open account
  pub opened : Opened last account
  pub no_periods : s.notes.periods.items ≡ []
  pub no_rules : s.notes.book.definitions.items ≡ []
  pub held : BuiltIn s.held

-- a line needs a rule of the book, and cannot be acted on if there is none with that number
pub record IfRule (book : RuleBook) (number : ℕ) (known : Meaning → Type 0) (unknown : Type 0) : Type 0 where
  pub there : number < length book.definitions.items → known (means book.definitions.items number)
  pub none : length book.definitions.items ≤ number → unknown

-- what the line leaves as it was
pub record NotesAndHeldStay (s t : Session) : Type 0 where
  pub notes_stay : t.notes ≡ s.notes
  pub held_stay : t.held ≡ s.held

-- it is an answer, with nothing behind it
abbrev pub Answers : (Answer → Type 0) → Outcome → Type 0
Answers P o = (answer : Answer) × P answer × (o ≡ answered answer)

-- a line inside a list: what comes of it, and how the list goes on. Only the line that ends the list is none of these
abbrev pub Inside : Line → Session → Outcome → Session → Type 0
Inside (Join number) s o t = OnOpen (JoinTaken number) s.standing o t.standing × NotesAndHeldStay s t
Inside (Leave number) s o t = OnOpen (LeaveTaken number) s.standing o t.standing × NotesAndHeldStay s t
Inside (Draft rule table) s o t =
    IfRule s.notes.book rule (λ f. OnOpen (DraftTaken f table.items) s.standing o t.standing) ((o ≡ Unreadable) × (t.standing ≡ s.standing)) × NotesAndHeldStay s t
Inside (ReadLine number) s o t = LineOf number s.standing o × (t ≡ s)
Inside Post s o t = OnDraft (EndTaken Posted) s.standing o t.standing × NotesAndHeldStay s t
Inside Withdraw s o t = OnDraft (EndTaken Withdrawn) s.standing o t.standing × NotesAndHeldStay s t
Inside (Period number words) s o t = PeriodNoted s.notes number words.items o t.notes × (t.standing ≡ s.standing) × (t.held ≡ s.held)
Inside (Rule number rule) s o t = RuleNoted s.notes number rule o t.notes × (t.standing ≡ s.standing) × (t.held ≡ s.held)
Inside (Compose n) s o t = Answers (Composed n) o × (t ≡ s)
Inside (Make making) s o t = Answers (λ answer. Makes making s.held answer t.held) o × (t.standing ≡ s.standing) × (t.notes ≡ s.notes)
Inside (Ask kind n) s o t = Answers (Asked (held_meaning s.held kind) n) o × (t ≡ s)
Inside (Cost rule n) s o t = IfRule s.notes.book rule (λ f. Answers (Asked f n) o) (o ≡ Unreadable) × (t ≡ s)
Inside (Begin name last) s o t = (o ≡ Unreadable) × (t ≡ s)
Inside End s o t = ⊥

-- a line inside a list: one that ends it, or any other
abbrev pub GoesOnWith : Line → Session → Outcome → Option Session → Type 0
GoesOnWith End s o t = (o ≡ Taken) × (t ≡ None)
GoesOnWith line s o t = (u : Session) × (t ≡ Some u) × Inside line s o u

-- lines that take memory, which may lack: a period or a rule is kept, and a draft fills a table of its own
abbrev pub TakesMemory : Line → Type 0
TakesMemory (Period number words) = Unit {0}
TakesMemory (Rule number rule) = Unit {0}
TakesMemory (Draft rule table) = Unit {0}
TakesMemory _ = ⊥
