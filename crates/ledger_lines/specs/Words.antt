-- The words that a line is written in. Numbers are in plain decimal digits, after a `-` if they are below 0.
use Rattle.std.specs.Prelude.{ℕ, List, [], ◌∷◌, ◌++◌, length, map, codes}
use Rattle.std.specs.Fmt.{decimal, signed_decimal}
use Rattle.ledger_lines.specs.declared.line.Kind.{Kind}
use Rattle.ledger_lines.specs.declared.line.Kind.TheVariants as kinds
use Rattle.ledger_lines.specs.declared.line.Line.{Line}
use Rattle.ledger_lines.specs.declared.line.Line.TheVariants.{List as ListOf, Period, Rule, Join, Leave, Draft, Line as LineOf, Post, Withdraw, Compose, Make, Ask, Cost, End}
use Rattle.ledger_lines.specs.declared.line.Listed.{Listed}
use Rattle.ledger_lines.specs.declared.line.Making.{Making}
use Rattle.ledger_lines.specs.declared.line.Making.TheVariants as makings
use Rattle.ledger_lines.specs.declared.line.WrittenRule.{WrittenRule}
use Rattle.ledger_lines.specs.declared.line.WrittenRule.TheVariants as rules

-- a word for each of these
abbrev pub each : {A : Type 0} → (A → List ℕ) → List A → List (List ℕ)
each write xs = map write xs

-- how many there are, and then each of them
abbrev pub counted : {A : Type 0} → (A → List ℕ) → List A → List (List ℕ)
counted write xs = decimal (length xs) ∷ each write xs

-- the word for what is held
abbrev pub kind_word : Kind → List ℕ
kind_word kinds.Listed = codes "listed"
kind_word kinds.Head = codes "head"
kind_word kinds.Peak = codes "peak"
kind_word kinds.Check = codes "check"

-- the counts of the largest composition, and the costs
abbrev pub listed_words : Listed → List (List ℕ)
listed_words l = each decimal l.largest ++ counted signed_decimal l.table.items

-- what a rule is
abbrev pub rule_words : WrittenRule → List (List ℕ)
rule_words (rules.Listed l) = codes "listed" ∷ listed_words l
rule_words (rules.Head fees) = codes "head" ∷ each signed_decimal fees
rule_words (rules.Sum left right) = codes "sum" ∷ decimal left ∷ decimal right ∷ []
rule_words (rules.Grid period) = codes "grid" ∷ decimal period ∷ []
rule_words (rules.Peak period price) = codes "peak" ∷ decimal period ∷ signed_decimal price ∷ []

-- what is to be made
abbrev pub making_words : Making → List (List ℕ)
making_words (makings.Listed l) = codes "listed" ∷ listed_words l
making_words (makings.Head fees) = codes "head" ∷ each signed_decimal fees
making_words (makings.Peak words price) = codes "peak" ∷ (counted decimal words.items ++ signed_decimal price ∷ [])
making_words (makings.Check words) = codes "check" ∷ counted decimal words.items

-- the table of lines
abbrev pub words_of : Line → List (List ℕ)
words_of (ListOf name last) = codes "list" ∷ name.now ∷ decimal last ∷ []
words_of (Period number words) = codes "period" ∷ decimal number ∷ counted decimal words.items
words_of (Rule number rule) = codes "rule" ∷ decimal number ∷ rule_words rule
words_of (Join k) = codes "join" ∷ decimal k ∷ []
words_of (Leave k) = codes "leave" ∷ decimal k ∷ []
words_of (Draft rule table) = codes "draft" ∷ decimal rule ∷ counted signed_decimal table.items
words_of (LineOf k) = codes "line" ∷ decimal k ∷ []
words_of Post = codes "post" ∷ []
words_of Withdraw = codes "withdraw" ∷ []
words_of (Compose counts) = codes "compose" ∷ each decimal counts
words_of (Make making) = codes "make" ∷ making_words making
words_of (Ask kind counts) = codes "ask" ∷ kind_word kind ∷ each decimal counts
words_of (Cost rule counts) = codes "cost" ∷ decimal rule ∷ each decimal counts
words_of End = codes "end" ∷ []
