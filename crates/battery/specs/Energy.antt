-- The energy of one half-hour, by equations and comparisons, without a division: what is said here fixes charge, import and export, and does not say
-- how they are worked out.
use Rattle.std.specs.Prelude.{◌≡◌, ℕ, ◌+◌, ◌-◌, ◌*◌, ◌≤◌, ◌⊎◌}
use Rattle.battery.specs.declared.rating.Rating.{Rating}

-- the greatest number that has a property
pub record Greatest (P : ℕ → Type 0) (x : ℕ) : Type 0 where
  pub has : P x
  pub most : (y : ℕ) → P y → y ≤ x

-- the least number that has a property
pub record Least (P : ℕ → Type 0) (x : ℕ) : Type 0 where
  pub has : P x
  pub least : (y : ℕ) → P y → x ≤ y

-- a charge that the battery of n homes may have
abbrev pub InBounds : Rating → ℕ → ℕ → Type 0
InBounds b n charge = (n * b.lowest ≤ charge) × (charge ≤ n * b.highest)

-- what can go into the battery: of what is left over, at the speed it has, and stored it fits
abbrev pub CanPutIn : Rating → ℕ → ℕ → ℕ → ℕ → ℕ → Type 0
CanPutIn b n charge d g a = (a ≤ g - d) × (a ≤ n * b.most) × (a * b.charging ≤ 100 * (n * b.highest - charge))

-- what can come out of it: of what is lacking, at the speed it has, out of what it holds
abbrev pub CanTakeOut : Rating → ℕ → ℕ → ℕ → ℕ → ℕ → Type 0
CanTakeOut b n charge d g t = (t ≤ d - g) × (t ≤ n * b.most) × (100 * t ≤ (charge - n * b.lowest) * b.discharging)

-- one half-hour of n homes with a charge, a demand d and a generation g: the charge after it, the import and the export
pub record Balanced (b : Rating) (n charge d g after import export : ℕ) : Type 0 where
  pub put_in : ℕ
  pub taken_out : ℕ
  pub rise : ℕ
  pub fall : ℕ
  -- nothing is lost between homes, turbine, battery and grid
  pub energy : d + put_in + export ≡ g + taken_out + import
  pub one_way : (import ≡ 0) ⊎ (export ≡ 0)
  -- the battery moves all that it can
  pub put_in_is : Greatest (CanPutIn b n charge d g) put_in
  pub taken_out_is : Greatest (CanTakeOut b n charge d g) taken_out
  -- of what is put in it stores the charging part, rounded down; for what is taken out it is drawn so far that the discharging part suffices
  pub rise_is : Greatest (λ r. 100 * r ≤ put_in * b.charging) rise
  pub fall_is : Least (λ f. 100 * taken_out ≤ f * b.discharging) fall
  pub charge_is : after + fall ≡ charge + rise
  -- so that the charge keeps to its bounds
  pub bounds : InBounds b n charge → InBounds b n after
