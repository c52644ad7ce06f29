-- An input as its lines were read. Only contracts inside the crate cite this.
use Rattle.std.specs.Borrow.{Bor}
use Rattle.std.specs.Prelude.{◌≡◌, ℕ, List, Some, None, Option, map, All}
use Rattle.ledger_lines.specs.declared.line.Line.{Line}
use Rattle.replaying.specs.Ledgers.{ReadAs}
use Rattle.replaying.specs.declared.entries.Entry.{Entry}

-- the lines that entries came from
abbrev pub texts_of : List Entry → List (List ℕ)
texts_of entries = map (λ e. e.text.now) entries

-- each line of these entries is read as what its entry says
abbrev pub Entered : List Entry → Type 0
Entered entries = All (λ e. ReadAs e.text.now e.line) entries

-- the lines of an input, each as it came and as it was read
abbrev pub AllRead : List (List ℕ) → List Entry → Type 0
AllRead lines entries = (texts_of entries ≡ lines) × Entered entries

-- the line behind a reference, if there is one
abbrev pub read_line : Option (Bor Line) → Option Line
read_line None = None
read_line (Some line) = Some line.now
