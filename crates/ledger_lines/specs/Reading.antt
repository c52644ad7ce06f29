-- What the readers of the parts of a line answer. Only contracts inside the crate cite this.
use Rattle.std.specs.Borrow.{Bor}
use Rattle.std.specs.Prelude.{◌≡◌, ◌≢◌, ℕ, List, [], ◌∷◌, ◌++◌, Ok, Err, Result}
use Rattle.ledger_lines.specs.Lines.{seen}
use Rattle.ledger_lines.specs.declared.unread.Unread.{Unread}
use Rattle.ledger_lines.specs.declared.unread.Unread.TheVariants.{NoLine, NoMemory}

-- what was read is one that is allowed and written like this; or nothing allowed is written like this
abbrev pub Read : {A W : Type 0} → (A → Type 0) → (A → W) → W → Result A Unread → Type 0
Read Allowed write w (Ok a) = Allowed a × (w ≡ write a)
Read {A = A} Allowed write w (Err NoLine) = (a : A) → Allowed a → w ≢ write a
Read Allowed write w (Err NoMemory) = Unit {0}

-- all are allowed
abbrev pub Anything : {A : Type 0} → A → Type 0
Anything a = Unit {0}

-- the one word that a thing is written as
abbrev pub single : {A : Type 0} → (A → List ℕ) → A → List (List ℕ)
single write a = write a ∷ []

-- no words at all
abbrev pub NoneRead : List (List ℕ) → Result (Unit {0}) Unread → Type 0
NoneRead ws (Ok done) = ws ≡ []
NoneRead ws (Err NoLine) = ws ≢ []
NoneRead ws (Err NoMemory) = Unit {0}

-- a first word, and the words behind it
abbrev pub FirstRead : {A : Type 0} → (A → Type 0) → (A → List ℕ) → List (List ℕ) → Result (A × Bor (List (Bor (List ℕ)))) Unread → Type 0
FirstRead Allowed write ws (Ok p) = Allowed p.0 × (ws ≡ write p.0 ∷ seen p.1.now)
FirstRead {A = A} Allowed write ws (Err NoLine) = (a : A) (rest : List (List ℕ)) → Allowed a → ws ≢ write a ∷ rest
FirstRead Allowed write ws (Err NoMemory) = Unit {0}

-- a last word, and the words before it
abbrev pub LastRead : {A : Type 0} → (A → Type 0) → (A → List ℕ) → List (List ℕ) → Result (Bor (List (Bor (List ℕ))) × A) Unread → Type 0
LastRead Allowed write ws (Ok p) = Allowed p.1 × (ws ≡ seen p.0.now ++ write p.1 ∷ [])
LastRead {A = A} Allowed write ws (Err NoLine) = (a : A) (rest : List (List ℕ)) → Allowed a → ws ≢ rest ++ write a ∷ []
LastRead Allowed write ws (Err NoMemory) = Unit {0}
