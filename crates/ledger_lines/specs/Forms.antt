-- The forms of lines, one for each keyword. Only contracts inside the crate cite this.
use Rattle.std.specs.Prelude.{◌≡◌, ℕ, List, drop, codes, Result}
use Rattle.ledger_lines.specs.Reading.{Read}
use Rattle.ledger_lines.specs.Types.{InTypes}
use Rattle.ledger_lines.specs.Words.{words_of}
use Rattle.ledger_lines.specs.declared.keyword.Keyword.{Keyword}
use Rattle.ledger_lines.specs.declared.keyword.Keyword.TheVariants as keywords
use Rattle.ledger_lines.specs.declared.kinds.RuleKind.{RuleKind}
use Rattle.ledger_lines.specs.declared.kinds.RuleKind.TheVariants as rule_kinds
use Rattle.ledger_lines.specs.declared.line.Line.{Line}
use Rattle.ledger_lines.specs.declared.line.Line.TheVariants.{List as ListOf, Period, Rule, Join, Leave, Draft, Line as LineOf, Post, Withdraw, Compose, Make, Ask, Cost, End}
use Rattle.ledger_lines.specs.declared.unread.Unread.{Unread}

-- the word of a keyword
abbrev pub keyword_word : Keyword → List ℕ
keyword_word keywords.List = codes "list"
keyword_word keywords.Period = codes "period"
keyword_word keywords.Rule = codes "rule"
keyword_word keywords.Join = codes "join"
keyword_word keywords.Leave = codes "leave"
keyword_word keywords.Draft = codes "draft"
keyword_word keywords.Line = codes "line"
keyword_word keywords.Post = codes "post"
keyword_word keywords.Withdraw = codes "withdraw"
keyword_word keywords.Compose = codes "compose"
keyword_word keywords.Make = codes "make"
keyword_word keywords.Ask = codes "ask"
keyword_word keywords.Cost = codes "cost"
keyword_word keywords.End = codes "end"

-- the word of what a rule is
abbrev pub rule_kind_word : RuleKind → List ℕ
rule_kind_word rule_kinds.Listed = codes "listed"
rule_kind_word rule_kinds.Head = codes "head"
rule_kind_word rule_kinds.Sum = codes "sum"
rule_kind_word rule_kinds.Grid = codes "grid"
rule_kind_word rule_kinds.Peak = codes "peak"

-- the keyword of a line
abbrev pub keyword_of : Line → Keyword
keyword_of (ListOf name last) = keywords.List
keyword_of (Period number words) = keywords.Period
keyword_of (Rule number rule) = keywords.Rule
keyword_of (Join k) = keywords.Join
keyword_of (Leave k) = keywords.Leave
keyword_of (Draft rule table) = keywords.Draft
keyword_of (LineOf k) = keywords.Line
keyword_of Post = keywords.Post
keyword_of Withdraw = keywords.Withdraw
keyword_of (Compose counts) = keywords.Compose
keyword_of (Make making) = keywords.Make
keyword_of (Ask kind counts) = keywords.Ask
keyword_of (Cost rule counts) = keywords.Cost
keyword_of End = keywords.End

-- a line with a keyword, and with numbers within their types
abbrev pub HasForm : Keyword → Line → Type 0
HasForm keyword line = (keyword_of line ≡ keyword) × InTypes line

-- the words of a line behind its keyword
abbrev pub fields_of : Line → List (List ℕ)
fields_of line = drop 1 (words_of line)

-- a line with this keyword, and with these words behind it
abbrev pub LineWith : Keyword → List (List ℕ) → Result Line Unread → Type 0
LineWith keyword = Read (HasForm keyword) fields_of
