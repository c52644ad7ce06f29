-- The promises of the metered rules.
use Rattle.std.proofs.Common.{◌≡◌, ℕ, zero, suc, ◌-◌, ◌*◌, ◌/◌, ◌<◌, ◌≤◌, ◌⊎◌, List, [], ◌∷◌, length, true, false, ℤ, pos, refl, ap, ◌∙◌, subst, inl, inr, arith}
use Rattle.std.proofs.lemmas.Nat.{mul-le}
use Rattle.std.proofs.lemmas.Grind.{common_steps}
use Rattle.std.proofs.lemmas.Int.{ints}
use Rattle.std.proofs.lemmas.Bool.{cases_lt}
use Rattle.battery.proofs.Balances.{step_balanced}
use Rattle.battery.specs.Energy.{InBounds}
use Rattle.battery.specs.Ratings.{Rated}
use Rattle.battery.specs.declared.rating.Rating.{Rating}
use Rattle.composition.specs.Counts.{count}
use Rattle.period.proofs.AcceptedPages.{begins, says}
use Rattle.period.specs.InForce.{readings, no_tariffs}
use Rattle.period.specs.Pages.{Page}
use Rattle.period.specs.Reader.{accepts, page_of}
use Rattle.period.specs.declared.reading.Reading.{Reading}
use Rattle.rounding.proofs.Euclid.{floor_is}
use Rattle.rounding.specs.Rounding.{RoundedDown}
use Rattle.metering.proofs.Walking.{as_many}
use Rattle.metering.specs.Demands.{Group}
use Rattle.metering.specs.Grid.{grid_sum, grid_cost}
use Rattle.metering.specs.Limits.{unit}
use Rattle.metering.specs.Metered.{covers, metered}
use Rattle.metering.specs.Peak.{peak, peak_cost, AtLeastAll, OneOfThem}
use Rattle.metering.specs.Promise.{MeteredBy, Balances, OnWords, GridPromise, PeakPromise}
use Rattle.metering.specs.Walks.{walked, start, charge_after, AllSound}
use Rattle.metering.specs.declared.half_hour.HalfHour.{HalfHour}

-- ---- readings for all homes, or for some not

beyond_some : (k i : ℕ) (ns : List ℕ) → k ≤ i → 0 < count i ns → covers k ns ≡ false
beyond_some k i [] within some = absurd (omega (arith, some))
beyond_some zero zero (n ∷ ns) within some = grind (arith, common_steps)
beyond_some zero (suc i) (n ∷ ns) within some = let rest = beyond_some zero i ns (omega arith) some in grind (arith, common_steps)
beyond_some (suc k) zero (n ∷ ns) within some = absurd (omega (arith, within))
beyond_some (suc k) (suc i) (n ∷ ns) within some = beyond_some k i ns (omega (arith, within)) some

beyond_none : (k : ℕ) (ns : List ℕ) → ((i : ℕ) → k ≤ i → count i ns ≡ 0) → covers k ns ≡ true
beyond_none zero [] none = refl
beyond_none zero (n ∷ ns) none = let here = none 0 (omega arith) in let rest = beyond_none zero ns (λ i h. none (suc i) (omega arith)) in grind (arith, common_steps)
beyond_none (suc k) [] none = refl
beyond_none (suc k) (n ∷ ns) none = beyond_none k ns (λ i h. none (suc i) (omega (arith, h)))

metered_by : (cost : List HalfHour → ℤ) (p : Page) → MeteredBy cost p (metered cost p)
metered_by cost p =
    record {
      without_readings = λ n i beyond some. rw (beyond_some p.types i n beyond some) refl;
      with_readings = λ n none. rw (beyond_none p.types n none) refl;
    }

-- ---- walks

as_long : (b : Rating) (g : Group) (charge : ℕ) (rs : List Reading) → length (walked b g charge rs) ≡ length rs
as_long b g charge [] = refl
as_long b g charge (r ∷ rs) = ap suc (as_long b g (charge_after b g charge r) rs)

all_sound : (b : Rating) (g : Group) (charge : ℕ) (rs : List Reading) → Rated b → InBounds b g.homes charge → AllSound b g charge rs (walked b g charge rs)
all_sound b g charge [] rated bounds = tt
all_sound b g charge (r ∷ rs) rated bounds =
    let step = step_balanced b g.homes charge (g.demand r.demands) (g.homes * r.generation) rated in
    let ends = step.bounds bounds in (
      charge_after b g charge r,
      record { demand_is = refl; generation_is = refl; tariffs_are = refl; balanced = step; bounded = ends },
      all_sound b g (charge_after b g charge r) rs rated ends,
    )

balances : (p : Page) → Rated p.rating → Balances p
balances p rated =
    let starts : (g : Group) → InBounds p.rating g.homes (start p.rating g) =
    λ g. (omega arith, mul-le g.homes p.rating.lowest g.homes p.rating.highest (omega arith) rated.ordered) in
    record {
      all_half_hours = λ g. as_long p.rating g (start p.rating g) (readings p) ∙ as_many no_tariffs p.entries;
      starts_in_bounds = starts;
      each_is_sound = λ g. all_sound p.rating g (start p.rating g) (readings p) rated (starts g);
    }

-- accepted words say that groups pay the cost of their half-hours, whatever that is, and that all walks are balanced
pub on_words : (cost : List HalfHour → ℤ) (ws : List ℕ) → accepts ws ≡ true → OnWords cost ws (metered cost (page_of ws))
on_words cost ws ok =
    let f = metered cost (page_of ws) in
    says ws ok (λ p. MeteredBy cost p f × Balances p) (metered_by cost (page_of ws), balances (page_of ws) (begins ws ok).within.rated)

-- ---- the grid rule

pub grid_promise : (ws : List ℕ) → accepts ws ≡ true → GridPromise ws (metered grid_cost (page_of ws))
grid_promise ws ok = record { on_words = on_words grid_cost ws ok; divided_once = λ hs. floor_is (grid_sum hs) unit (omega arith) }

-- ---- the peak rule

still_at_least : (p q : ℕ) (hs : List HalfHour) → p ≤ q → AtLeastAll p hs → AtLeastAll q hs
still_at_least p q [] less all = tt
still_at_least p q (h ∷ hs) less all = (omega (arith, ints, all.0), still_at_least p q hs less all.1)

at_least_all : (hs : List HalfHour) → AtLeastAll (peak hs) hs
at_least_all [] = tt
at_least_all (h ∷ hs) = (omega (arith, ints), still_at_least (peak hs) (peak (h ∷ hs)) hs (omega arith) (at_least_all hs))

one_of_them : (hs : List HalfHour) → OneOfThem (peak hs) hs
one_of_them [] = refl
one_of_them (h ∷ hs) = go (cases_lt (peak hs) (h.demand - h.generation)) (one_of_them hs)
  where
    go : (peak hs < h.demand - h.generation) ⊎ (h.demand - h.generation ≤ peak hs) → OneOfThem (peak hs) hs → OneOfThem (peak (h ∷ hs)) (h ∷ hs)
    go (inl more) before = inl (omega (arith, ints))
    go (inr less) before = inr (let same : peak hs ≡ peak (h ∷ hs) = omega arith in subst (λ p. OneOfThem p hs) same before)

rounded : (m : ℕ) → RoundedDown (pos m) unit (pos (m / unit))
rounded m = record { within = omega (arith, ints); beyond = omega (arith, ints) }

pub peak_promise : (ws : List ℕ) (price : ℕ) → accepts ws ≡ true → PeakPromise ws price (metered (peak_cost price) (page_of ws))
peak_promise ws price ok =
    record {
      on_words = on_words (peak_cost price) ws ok;
      no_half_hour_lacks_more = at_least_all;
      some_half_hour_lacks_it = one_of_them;
      rounded_down = λ hs. rounded (2 * peak hs * price);
    }
