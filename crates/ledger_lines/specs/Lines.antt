-- What is read of a text.
use Rattle.std.specs.Borrow.{Bor}
use Rattle.std.specs.Prelude.{◌≡◌, ◌≢◌, ◌==◌, ℕ, List, map, Ok, Err, Result}
use Rattle.std.specs.List.{slice_split}
use Rattle.ledger_lines.specs.Same.{SameLine}
use Rattle.ledger_lines.specs.Types.{InTypes}
use Rattle.ledger_lines.specs.Words.{words_of}
use Rattle.ledger_lines.specs.declared.line.Line.{Line}
use Rattle.ledger_lines.specs.declared.unread.Unread.{Unread}
use Rattle.ledger_lines.specs.declared.unread.Unread.TheVariants.{NoLine, NoMemory}

-- the words behind these references
abbrev pub seen : List (Bor (List ℕ)) → List (List ℕ)
seen words = map (λ w. w.now) words

-- what stands between the spaces of a text
abbrev pub words_in : List ℕ → List (List ℕ)
words_in text = slice_split (λ b. b == 32) text

-- the line that was read is written in the words of the text, and no line that says something else is; or no line is written in them; or there was no memory left
-- to read it
abbrev pub TextRead : List ℕ → Result Line Unread → Type 0
TextRead text (Ok line) = InTypes line × (words_in text ≡ words_of line) × ((other : Line) → InTypes other → words_in text ≡ words_of other → SameLine line other)
TextRead text (Err NoLine) = (line : Line) → InTypes line → words_in text ≢ words_of line
TextRead text (Err NoMemory) = Unit {0}
