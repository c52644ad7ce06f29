-- Numbers within their types. In a clause a number has no bounds of its own, and an array is a list.
use Rattle.std.specs.Prelude.{◌≡◌, ◌≢◌, ℕ, [], ◌^◌, ◌<◌, List, length, All, FitsSigned}
use Rattle.std.specs.Int.{w32, w64}
use Rattle.ledger_lines.specs.declared.line.Line.{Line}
use Rattle.ledger_lines.specs.declared.line.Line.TheVariants.{List as ListOf, Period, Rule, Join, Leave, Draft, Line as LineOf, Post, Withdraw, Compose, Make, Ask, Cost, End}
use Rattle.ledger_lines.specs.declared.line.Listed.{Listed}
use Rattle.ledger_lines.specs.declared.line.Making.{Making}
use Rattle.ledger_lines.specs.declared.line.Making.TheVariants as makings
use Rattle.ledger_lines.specs.declared.line.WrittenRule.{WrittenRule}
use Rattle.ledger_lines.specs.declared.line.WrittenRule.TheVariants as rules

-- a number without a sign, of so many bits
abbrev pub Bits : ℕ → ℕ → Type 0
Bits k n = n < 2 ^ k

-- four numbers of a type
abbrev pub FourOf : {A : Type 0} → (A → Type 0) → List A → Type 0
FourOf ok ns = (length ns ≡ 4) × All ok ns

-- a box of bytes, and costs of 32 bits
abbrev pub ListedInTypes : Listed → Type 0
ListedInTypes l = FourOf (Bits 8) l.largest × All (FitsSigned w32) l.table.items

-- numbers of periods and rules have 64 bits, as prices do; fees 32
abbrev pub RuleInTypes : WrittenRule → Type 0
RuleInTypes (rules.Listed l) = ListedInTypes l
RuleInTypes (rules.Head fees) = FourOf (FitsSigned w32) fees
RuleInTypes (rules.Sum left right) = Bits 64 left × Bits 64 right
RuleInTypes (rules.Grid period) = Bits 64 period
RuleInTypes (rules.Peak period price) = Bits 64 period × FitsSigned w64 price

-- words of a period have 32 bits
abbrev pub MakingInTypes : Making → Type 0
MakingInTypes (makings.Listed l) = ListedInTypes l
MakingInTypes (makings.Head fees) = FourOf (FitsSigned w32) fees
MakingInTypes (makings.Peak words price) = All (Bits 32) words.items × FitsSigned w64 price
MakingInTypes (makings.Check words) = All (Bits 32) words.items

-- the numbers of a line are within their types; and a name is a word, so it is not empty
abbrev pub InTypes : Line → Type 0
InTypes (ListOf name last) = (name.now ≢ []) × Bits 16 last
InTypes (Period number words) = Bits 64 number × All (Bits 32) words.items
InTypes (Rule number rule) = Bits 64 number × RuleInTypes rule
InTypes (Join k) = Bits 8 k
InTypes (Leave k) = Bits 8 k
InTypes (Draft rule table) = Bits 64 rule × All (FitsSigned w64) table.items
InTypes (LineOf k) = Bits 8 k
InTypes Post = Unit {0}
InTypes Withdraw = Unit {0}
InTypes (Compose counts) = FourOf (Bits 8) counts
InTypes (Make making) = MakingInTypes making
InTypes (Ask kind counts) = FourOf (Bits 8) counts
InTypes (Cost rule counts) = Bits 64 rule × FourOf (Bits 8) counts
InTypes End = Unit {0}
