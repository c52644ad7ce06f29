-- What a ledger says of all its lines.
use Rattle.std.specs.Prelude.{◌≡◌, ℕ, ◌+◌, List, [], ◌∷◌, ◌++◌, length, Some, None, Ok, Err, Option, cond, ◌==◌, ◌-◌, take, slice_index_or}
use Rattle.std.specs.List.{slice_split}
use Rattle.answers.specs.Texts.{outcome_text}
use Rattle.answers.specs.declared.outcome.Outcome.{Outcome}
use Rattle.answers.specs.declared.outcome.Outcome.TheVariants.{Taken, Unreadable}
use Rattle.ledger_lines.specs.Lines.{TextRead}
use Rattle.ledger_lines.specs.declared.line.Line.{Line}
use Rattle.ledger_lines.specs.declared.line.Line.TheVariants.{List as Begin}
use Rattle.ledger_lines.specs.declared.unread.Unread.TheVariants.{NoLine}
use Rattle.call_list.specs.Lists.{Begun, GoesOnWith}
use Rattle.call_list.specs.declared.session.Session.{Session}

-- all parts but the last one, if that is empty
abbrev pub but_empty_last : List (List ℕ) → List (List ℕ)
but_empty_last parts = cond (length (slice_index_or parts (length parts - 1) []) == 0) (take (length parts - 1) parts) parts

-- the lines of an input: each ends in a line feed, and what stands behind the last one is a line too, unless it is empty
abbrev pub lines_in : List ℕ → List (List ℕ)
lines_in input = but_empty_last (slice_split (λ b. b == 10) input)

-- a text as a line, if it is the text of one
abbrev pub ReadAs : List ℕ → Option Line → Type 0
ReadAs text (Some line) = TextRead text (Ok line)
ReadAs text None = TextRead text (Err NoLine)

-- a line outside of any list: only one that begins a list can be acted on
abbrev pub Outside : Line → Outcome → Option Session → Type 0
Outside (Begin name last) o t = (s : Session) × (t ≡ Some s) × Begun last s × (o ≡ Taken)
Outside _ o t = (o ≡ Unreadable) × (t ≡ None)

-- what comes of a line, in a list or outside of any
abbrev pub ComesOf : Option Session → Option Line → Outcome → Option Session → Type 0
ComesOf before None o after = (o ≡ Unreadable) × (after ≡ before)
ComesOf None (Some line) o after = Outside line o after
ComesOf (Some s) (Some line) o after = GoesOnWith line s o after

-- a ledger has told of these lines so far, which left it in this list, if any: each line as it came, and behind it what came of it
pub data Told : List (List ℕ) → Option Session → List ℕ → Type 0 where
  nothing_yet : Told [] None []
  and_then :
      {lines : List (List ℕ)} {before after : Option Session} {out : List ℕ}
      → Told lines before out
      → (text : List ℕ) (line : Option Line) → ReadAs text line
      → (o : Outcome) → ComesOf before line o after
      → Told (lines ++ text ∷ []) after (out ++ (text ++ outcome_text (length lines + 1) o))

-- a ledger has told of these lines
abbrev pub AllTold : List (List ℕ) → List ℕ → Type 0
AllTold lines out = (after : Option Session) × Told lines after out

-- a ledger tells of all lines of an input
abbrev pub Replayed : List ℕ → List ℕ → Type 0
Replayed input = AllTold (lines_in input)
