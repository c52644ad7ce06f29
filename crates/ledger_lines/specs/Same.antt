-- Lines that say the same. Two slices of the same bytes may lie in two places, and two vectors of the same numbers may have two capacities.
use Rattle.std.specs.Prelude.{◌≡◌}
use Rattle.ledger_lines.specs.declared.line.Line.{Line}
use Rattle.ledger_lines.specs.declared.line.Line.TheVariants.{List as ListOf, Period, Rule, Join, Leave, Draft, Line as LineOf, Post, Withdraw, Compose, Make, Ask, Cost, End}
use Rattle.ledger_lines.specs.declared.line.Listed.{Listed}
use Rattle.ledger_lines.specs.declared.line.Making.{Making}
use Rattle.ledger_lines.specs.declared.line.Making.TheVariants as makings
use Rattle.ledger_lines.specs.declared.line.WrittenRule.{WrittenRule}
use Rattle.ledger_lines.specs.declared.line.WrittenRule.TheVariants as rules

-- counts for counts, and cost for cost
abbrev pub SameListed : Listed → Listed → Type 0
SameListed l m = (l.largest ≡ m.largest) × (l.table.items ≡ m.table.items)

-- a rule of the same kind, with the same numbers
abbrev pub SameRule : WrittenRule → WrittenRule → Type 0
SameRule (rules.Listed l) (rules.Listed m) = SameListed l m
SameRule (rules.Head fees) (rules.Head others) = fees ≡ others
SameRule (rules.Sum left right) (rules.Sum other another) = (left ≡ other) × (right ≡ another)
SameRule (rules.Grid period) (rules.Grid other) = period ≡ other
SameRule (rules.Peak period price) (rules.Peak other another) = (period ≡ other) × (price ≡ another)
SameRule _ _ = ⊥

-- a making of the same kind, with the same numbers
abbrev pub SameMaking : Making → Making → Type 0
SameMaking (makings.Listed l) (makings.Listed m) = SameListed l m
SameMaking (makings.Head fees) (makings.Head others) = fees ≡ others
SameMaking (makings.Peak words price) (makings.Peak others another) = (words.items ≡ others.items) × (price ≡ another)
SameMaking (makings.Check words) (makings.Check others) = words.items ≡ others.items
SameMaking _ _ = ⊥

-- a line of the same form, with the same name, words and numbers
abbrev pub SameLine : Line → Line → Type 0
SameLine (ListOf name last) (ListOf other another) = (name.now ≡ other.now) × (last ≡ another)
SameLine (Period number words) (Period other others) = (number ≡ other) × (words.items ≡ others.items)
SameLine (Rule number rule) (Rule other another) = (number ≡ other) × SameRule rule another
SameLine (Join k) (Join j) = k ≡ j
SameLine (Leave k) (Leave j) = k ≡ j
SameLine (Draft rule table) (Draft other others) = (rule ≡ other) × (table.items ≡ others.items)
SameLine (LineOf k) (LineOf j) = k ≡ j
SameLine Post Post = Unit {0}
SameLine Withdraw Withdraw = Unit {0}
SameLine (Compose counts) (Compose others) = counts ≡ others
SameLine (Make making) (Make other) = SameMaking making other
SameLine (Ask kind counts) (Ask other others) = (kind ≡ other) × (counts ≡ others)
SameLine (Cost rule counts) (Cost other others) = (rule ≡ other) × (counts ≡ others)
SameLine End End = Unit {0}
SameLine _ _ = ⊥
