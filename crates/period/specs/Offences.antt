-- The first offending word of words that write no period down.
use Rattle.std.specs.Prelude.{◌≡◌, ℕ, ◌+◌, ◌<◌, ◌≤◌, ◌⊎◌, List, ◌++◌, length, take}
use Rattle.period.specs.Pages.{Page, WithinLimits, Writes, body}
use Rattle.period.specs.Words.{battery_words}
use Rattle.period.specs.declared.refusals.Part.{Part}
use Rattle.period.specs.declared.refusals.Part.TheVariants.{Length, Types, Battery, HalfHour, Closing}
use Rattle.period.specs.declared.refusals.PeriodRefusal.{PeriodRefusal}

-- the words before the place can still become a period, but not with the word there; past the last word, one is missing
pub record FirstOffending (ws : List ℕ) (place : ℕ) : Type 0 where
  pub within : place ≤ length ws
  pub before : (rest : List ℕ) × (p : Page) × Writes p (take place ws ++ rest)
  pub there : place < length ws → (rest : List ℕ) (p : Page) → Writes p (take (place + 1) ws ++ rest) → ⊥

-- the words are a whole period, or one that only lacks its closing word
abbrev pub Complete : List ℕ → Type 0
Complete ws = (p : Page) × WithinLimits p × ((ws ≡ body p) ⊎ Writes p ws)

-- which part of a period a place belongs to, after the words before it
abbrev pub Belongs : Part → List ℕ → ℕ → Type 0
Belongs Length before place = place ≡ 0
Belongs Types before place = place ≡ 1
Belongs Battery before place = (2 ≤ place) × (place < 2 + battery_words)
Belongs HalfHour before place = (2 + battery_words ≤ place) × (Complete before → ⊥)
Belongs Closing before place = Complete before

-- what a refusal says: the words are no period, which of them offends first, and what it belongs to
pub record Refused (ws : List ℕ) (e : PeriodRefusal) : Type 0 where
  pub no_period : (p : Page) → Writes p ws → ⊥
  pub first : FirstOffending ws e.place
  pub of_part : Belongs e.part (take e.place ws) e.place
