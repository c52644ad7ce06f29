-- That the metered rules owe what every rule owes. These are proofs, and nobody has to read them: they stand here and not in proofs/ since an
-- implementation of the interface can name only what stands in specs/.
use Rattle.std.specs.Prelude.{◌≡◌, ℕ, zero, suc, ◌*◌, Bool, true, false, cond, List, [], ◌∷◌, drop, ◌==◌, ℤ, pos, Ok, Err, refl}
use Rattle.std.proofs.Common.{arith}
use Rattle.std.proofs.lemmas.Int.{ints}
use Rattle.std.proofs.lemmas.List.Elements.{All-drop}
use Rattle.std.proofs.lemmas.List.Sums.{AllPass-from_list_all, list_all-from_AllPass, sum_by-cons}
use Rattle.std.specs.List.{zip}
use Rattle.battery.proofs.Balances.{step_nobody}
use Rattle.battery.specs.Ratings.{Rated}
use Rattle.battery.specs.Steps.{after, imported, exported}
use Rattle.battery.specs.declared.rating.Rating.{Rating}
use Rattle.composition.specs.Counts.{nobody, total}
use Rattle.cost_rules.specs.Limits.{Within}
use Rattle.cost_rules.specs.Meanings.{Free, Limited}
use Rattle.cost_rules.specs.Owed.{priced_within}
use Rattle.cost_rules.specs.Prices.{priced}
use Rattle.period.proofs.AcceptedPages.{begins}
use Rattle.period.specs.Filled.{page}
use Rattle.period.specs.InForce.{readings}
use Rattle.period.specs.Pages.{Page}
use Rattle.period.specs.declared.period.Period.{Period}
use Rattle.period.specs.declared.reading.Reading.{Reading}
use Rattle.metering.specs.Demands.{demand_of, group_of}
use Rattle.metering.specs.Faults.{no_readings}
use Rattle.metering.specs.Grid.{grid_sum, grid_cost}
use Rattle.metering.specs.Metered.{covers, metered}
use Rattle.metering.specs.Peak.{peak, peak_cost}
use Rattle.metering.specs.Tallies.{Idle}
use Rattle.metering.specs.Walks.{walked, half_hours_of}
use Rattle.metering.specs.declared.half_hour.HalfHour.{HalfHour}

-- ---- nobody's half-hours

none_demanded : (ns ds : List ℕ) → total ns ≡ 0 → demand_of ns ds ≡ 0
none_demanded [] ds none = refl
none_demanded (n ∷ ns) [] none = refl
none_demanded (n ∷ ns) (d ∷ ds) none =
    let first : n * d ≡ 0 = let zero : n ≡ 0 = omega (arith, none) in rw zero (omega arith) in
    rw (sum_by-cons (λ (p : ℕ × ℕ). p.0 * p.1) (n, d) (zip ns ds)) (omega (arith, first, none_demanded ns ds (omega (arith, none))))

idle_step : (b : Rating) → Rated b → (d g : ℕ) → d ≡ 0 → g ≡ 0 → (after b 0 0 d g ≡ 0) × (imported b 0 0 d g ≡ 0) × (exported b 0 0 d g ≡ 0)
idle_step b rated d g e f = rw (e, f) (step_nobody b rated)

nobody_idle : (b : Rating) → Rated b → (rs : List Reading) → Idle (walked b (group_of nobody) 0 rs)
nobody_idle b rated [] = tt
nobody_idle b rated (r ∷ rs) =
    let d : demand_of nobody r.demands ≡ 0 = none_demanded nobody r.demands refl in
    let g : 0 * r.generation ≡ 0 = omega arith in
    let s = step_nobody b rated in
    rw (d, g, s.0, s.1, s.2) (record { demand_none = refl; generation_none = refl; import_none = refl; export_none = refl }, nobody_idle b rated rs)

-- ---- what any metered rule owes

none_beyond : (k : ℕ) (ns : List ℕ) → total ns ≡ 0 → total (drop k ns) ≡ 0
none_beyond zero ns none = none
none_beyond (suc k) [] none = refl
none_beyond (suc k) (n ∷ ns) none = none_beyond k ns (omega (arith, none))

-- there are readings for all of nobody
nobody_covered : (types : ℕ) → covers types nobody ≡ true
nobody_covered types = list_all-from_AllPass (λ n. n == 0) (drop types nobody) (All-drop (λ n. (n == 0) ≡ true) types nobody (AllPass-from_list_all (λ n. n == 0) nobody refl))

-- if half-hours in which nothing moves cost nothing, so does nobody
pub metered_free : (cost : List HalfHour → ℤ) (p : Page) → Rated p.rating → ((hs : List HalfHour) → Idle hs → cost hs ≡ pos 0) → Free (metered cost p)
metered_free cost p rated idle =
    let empty : 0 * p.rating.lowest ≡ 0 = omega arith in
    let still : Idle (half_hours_of p (group_of nobody)) = rw empty (nobody_idle p.rating rated (readings p)) in
    rw (nobody_covered p.types, idle _ still) refl

pub metered_limited : (cost : List HalfHour → ℤ) (p : Page) → Limited (metered cost p)
metered_limited cost p n four few c = go (covers p.types n)
  where
    go : (b : Bool) → cond b (priced (cost (half_hours_of p (group_of n)))) (Err no_readings) ≡ Ok c → Within c
    go true e = priced_within (cost (half_hours_of p (group_of n))) c e
    go false e = cc

-- ---- the two tallies, and the rules by them

pub rated_page : (p : Period) → Rated (page p).rating
rated_page p = (begins p.words.now p.accepted).within.rated

idle_sum : (hs : List HalfHour) → Idle hs → grid_sum hs ≡ pos 0
idle_sum [] idle = refl
idle_sum (h ∷ hs) idle = rw (idle.0.import_none, idle.0.export_none, idle_sum hs idle.1) (omega (arith, ints))

pub idle_grid : (hs : List HalfHour) → Idle hs → grid_cost hs ≡ pos 0
idle_grid hs idle = rw (idle_sum hs idle) refl

pub grid_free : (p : Period) → Free (metered grid_cost (page p))
grid_free p = metered_free grid_cost (page p) (rated_page p) idle_grid

idle_peak : (hs : List HalfHour) → Idle hs → peak hs ≡ 0
idle_peak [] idle = refl
idle_peak (h ∷ hs) idle = let rest = idle_peak hs idle.1 in let still = idle.0 in omega arith

pub idle_peak_cost : (price : ℕ) (hs : List HalfHour) → Idle hs → peak_cost price hs ≡ pos 0
idle_peak_cost price hs idle = rw (idle_peak hs idle) (omega (arith, ints))

pub peak_free : (p : Period) (price : ℕ) → Free (metered (peak_cost price) (page p))
peak_free p price = metered_free (peak_cost price) (page p) (rated_page p) (idle_peak_cost price)
