-- Taking one word where the reader reads one.
use Rattle.std.proofs.Common.{◌≡◌, ℕ, List, [], ◌∷◌, Some, None, Option, refl, ◌∙◌}
use Rattle.std.specs.Option.{ok_or}
use Rattle.period.specs.Along.{maybe_in, wanted, Hands, Answers}
use Rattle.period.specs.Reader.{Reader, offends}
use Rattle.period.specs.declared.cursor.Cursor.{Cursor}
use Rattle.period.specs.declared.refusals.Part.{Part}
use Rattle.period.specs.declared.slot.Slot.{Slot}

-- what follows a word that must stand there
abbrev pub or_offends : Part → (ℕ → Reader) → Option ℕ → Reader
or_offends part next (Some v) ws place = next v ws place
or_offends part next None ws place = offends part place

-- a word that must stand there is one that may, and offends if it does not
pub must_is_may : (s : Slot) (next : ℕ → Reader) (ws : List ℕ) (place : ℕ) → wanted s next ws place ≡ maybe_in s (or_offends s.part next) ws place
must_is_may s next [] place = refl
must_is_may s next (w ∷ ws) place = refl

pub must_answer :
    (s : Slot) (old new : Cursor) (r : Option ℕ)
    → Hands (maybe_in s) old r new
    → Answers (wanted s) old (ok_or r (record { part = s.part; place = new.place })) new
must_answer s old new (Some v) hands = λ next. must_is_may s next old.rest.now old.place ∙ hands (or_offends s.part next)
must_answer s old new None hands = λ next. must_is_may s next old.rest.now old.place ∙ hands (or_offends s.part next)
