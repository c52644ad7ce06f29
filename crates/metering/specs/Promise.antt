-- What the metered rules promise, for every page that a period's words write down.
use Rattle.std.specs.Prelude.{◌≡◌, ℕ, ◌*◌, ◌<◌, ◌≤◌, List, length, ℤ, pos, Err}
use Rattle.battery.specs.Energy.{InBounds}
use Rattle.composition.specs.Counts.{count}
use Rattle.cost_rules.specs.Meanings.{Meaning}
use Rattle.cost_rules.specs.Prices.{priced}
use Rattle.period.specs.InForce.{readings}
use Rattle.period.specs.Pages.{Page, Says}
use Rattle.rounding.specs.Rounding.{RoundedDown}
use Rattle.metering.specs.Demands.{Group, group_of}
use Rattle.metering.specs.Faults.{no_readings}
use Rattle.metering.specs.Grid.{grid_sum, grid_cost}
use Rattle.metering.specs.Limits.{unit}
use Rattle.metering.specs.Peak.{peak, peak_cost, AtLeastAll, OneOfThem}
use Rattle.metering.specs.Walks.{start, half_hours_of, AllSound}
use Rattle.metering.specs.declared.half_hour.HalfHour.{HalfHour}

-- a group with a home of a type without readings has that fault, whatever it would cost; any other has the cost of its half-hours, or the fault of one outside the limits.
-- Position i of its counts has the homes of type i + 1, so that there are readings for the positions before `types`.
pub record MeteredBy (cost : List HalfHour → ℤ) (p : Page) (f : Meaning) : Type 0 where
  pub without_readings : (n : List ℕ) (i : ℕ) → p.types ≤ i → 0 < count i n → f n ≡ Err no_readings
  pub with_readings : (n : List ℕ) → ((i : ℕ) → p.types ≤ i → count i n ≡ 0) → f n ≡ priced (cost (half_hours_of p (group_of n)))

-- every walk of every group, from n × lowest on through all half-hours of a page, is balanced in each of them
pub record Balances (p : Page) : Type 0 where
  pub all_half_hours : (g : Group) → length (half_hours_of p g) ≡ length p.entries
  pub starts_in_bounds : (g : Group) → InBounds p.rating g.homes (start p.rating g)
  pub each_is_sound : (g : Group) → AllSound p.rating g (start p.rating g) (readings p) (half_hours_of p g)

-- a meaning that stands on words: groups pay for the half-hours that these say, and every walk through them is balanced
abbrev pub OnWords : (List HalfHour → ℤ) → List ℕ → Meaning → Type 0
OnWords cost ws f = Says ws (λ p. MeteredBy cost p f × Balances p)

-- the grid rule: the cost is the sum of all half-hours, divided once and rounded down
pub record GridPromise (ws : List ℕ) (f : Meaning) : Type 0 where
  pub on_words : OnWords grid_cost ws f
  pub divided_once : (hs : List HalfHour) → RoundedDown (grid_sum hs) unit (grid_cost hs)

-- the peak rule: p is the highest lack of all, or 0, and the cost is 2 × p × price / 1000, rounded down
pub record PeakPromise (ws : List ℕ) (price : ℕ) (f : Meaning) : Type 0 where
  pub on_words : OnWords (peak_cost price) ws f
  pub no_half_hour_lacks_more : (hs : List HalfHour) → AtLeastAll (peak hs) hs
  pub some_half_hour_lacks_it : (hs : List HalfHour) → OneOfThem (peak hs) hs
  pub rounded_down : (hs : List HalfHour) → RoundedDown (pos (2 * peak hs * price)) unit (peak_cost price hs)
