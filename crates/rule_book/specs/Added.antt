-- Adding a rule to a book.
use Rattle.std.specs.Prelude.{◌≡◌, ℕ, ◌<◌, ◌≤◌, List, [], ◌∷◌, ◌++◌, length, Ok, Err, Result}
use Rattle.rule_book.specs.Limits.{most_rules}
use Rattle.rule_book.specs.Meanings.{meaning_of, means}
use Rattle.rule_book.specs.Ordered.{NamesLater}
use Rattle.rule_book.specs.declared.definition.Definition.{Definition}
use Rattle.rule_book.specs.declared.refusals.AddRefusal.{AddRefusal}
use Rattle.rule_book.specs.declared.refusals.AddRefusal.TheVariants.{LaterRule, Full, NoMemory}

-- what allows a definition: it names earlier rules only, and there is room for it
abbrev pub Allowed : ℕ → Definition → Type 0
Allowed rules d = (NamesLater rules d → ⊥) × (rules < most_rules)

-- the ground of a refusal; none of those that go before it holds
abbrev pub Ground : ℕ → Definition → AddRefusal → Type 0
Ground rules d LaterRule = NamesLater rules d
Ground rules d Full = (NamesLater rules d → ⊥) × (most_rules ≤ rules)
Ground rules d NoMemory = Allowed rules d

-- there is one rule more: the older ones keep their numbers and meanings, and the new one means what its definition says
pub record Follows (old : List Definition) (d : Definition) (new : List Definition) : Type 0 where
  pub behind_all : new ≡ old ++ d ∷ []
  pub older_keep : (i : ℕ) → i < length old → means new i ≡ means old i
  pub newest_means : means new (length old) ≡ meaning_of (means old) d

-- added, it follows what there was; refused, there is what there was
abbrev pub Added : List Definition → Definition → Result (Unit {0}) AddRefusal → List Definition → Type 0
Added old d (Ok done) new = Allowed (length old) d × Follows old d new
Added old d (Err e) new = Ground (length old) d e × (new ≡ old)
