-- How the functions of the check read along with the reader: what is left to read, at the cursor, gives the whole. Only contracts inside the
-- crate cite this.
use Rattle.std.specs.Prelude.{◌≡◌, ℕ, ◌+◌, ◌<◌, ◌≤◌, ◌⊎◌, List, Some, None, Ok, Err, Option, Result}
use Rattle.period.specs.Labels.{base}
use Rattle.period.specs.Pages.{Page}
use Rattle.period.specs.Reader.{Reader, one, maybe, value, demands, close, read}
use Rattle.period.specs.Words.{generation_kind}
use Rattle.period.specs.declared.cursor.Cursor.{Cursor}
use Rattle.period.specs.declared.refusals.PeriodRefusal.{PeriodRefusal}
use Rattle.period.specs.declared.slot.Slot.{Slot}

-- the cursor has these words left, the first of them at this place
pub record At (cursor : Cursor) (ws : List ℕ) (place : ℕ) : Type 0 where
  pub words_are : cursor.rest.now ≡ ws
  pub place_is : cursor.place ≡ place

-- what a reader answers where the cursor stands
abbrev pub from : Reader → Cursor → Result Page PeriodRefusal
from reader cursor = reader cursor.rest.now cursor.place

-- the reader of a word that may stand there
abbrev pub maybe_in : Slot → (Option ℕ → Reader) → Reader
maybe_in s = maybe (base s.label) s.least s.most

-- the reader of a word that must stand there
abbrev pub wanted : Slot → (ℕ → Reader) → Reader
wanted s = one s.part (base s.label) s.least s.most

-- the value of a word that a slot takes; else it lies before or behind those that it takes
abbrev pub SlotRead : Slot → ℕ → Option ℕ → Type 0
SlotRead s w (Some v) = (w ≡ base s.label + v) × (s.least ≤ v) × (v ≤ s.most)
SlotRead s w None = (w < base s.label + s.least) ⊎ (base s.label + s.most < w)

-- a value that is answered is one that the slot takes
abbrev pub TakenInSlot : Slot → Option ℕ → Type 0
TakenInSlot s (Some v) = (s.least ≤ v) × (v ≤ s.most)
TakenInSlot s None = Unit {0}

-- and so where a word must stand
abbrev pub ReadInSlot : Slot → Result ℕ PeriodRefusal → Type 0
ReadInSlot s (Ok v) = (s.least ≤ v) × (v ≤ s.most)
ReadInSlot s (Err e) = Unit {0}

-- the reader of a half-hour's demands and its generation
abbrev pub amounts : ℕ → (List ℕ × ℕ → Reader) → Reader
amounts types next = demands types (λ ds. value generation_kind (λ g. next (ds, g)))

-- a reader went over to what is read next, with the value that was answered
abbrev pub Hands : {A : Type 0} → ((A → Reader) → Reader) → Cursor → A → Cursor → Type 0
Hands {A} reader old v new = (next : A → Reader) → from (reader next) old ≡ from (next v) new

-- a reader refused, whatever would have been read next
abbrev pub Refuses : {A : Type 0} → ((A → Reader) → Reader) → Cursor → PeriodRefusal → Type 0
Refuses {A} reader old e = (next : A → Reader) → from (reader next) old ≡ Err e

-- it went over with the value answered, or refused as answered
abbrev pub Answers : {A : Type 0} → ((A → Reader) → Reader) → Cursor → Result A PeriodRefusal → Cursor → Type 0
Answers reader old (Ok v) new = Hands reader old v new
Answers reader old (Err e) new = Refuses reader old e

-- it went over with some value, or refused as answered
abbrev pub Passes : {A : Type 0} → ((A → Reader) → Reader) → Cursor → Result (Unit {0}) PeriodRefusal → Cursor → Type 0
Passes {A} reader old (Ok done) new = (v : A) × Hands reader old v new
Passes reader old (Err e) new = Refuses reader old e

-- the closing word is read, and nothing is behind it, or the refusal is as answered: whatever the page was
abbrev pub Closes : Cursor → Result (Unit {0}) PeriodRefusal → Type 0
Closes old (Ok done) = (p : Page) → from (close p) old ≡ Ok p
Closes old (Err e) = (p : Page) → from (close p) old ≡ Err e

-- the words are read to their end, or the refusal is as answered
abbrev pub Checked : List ℕ → Result (Unit {0}) PeriodRefusal → Type 0
Checked ws (Ok done) = (p : Page) × (read ws ≡ Ok p)
Checked ws (Err e) = read ws ≡ Err e
