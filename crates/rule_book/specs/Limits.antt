-- How many rules a book can have.
use Rattle.std.specs.Prelude.{ℕ}

-- as many as there is room to keep the answers of while a sum is asked
abbrev pub most_rules : ℕ
most_rules = 4096
