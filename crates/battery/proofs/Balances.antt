-- Every step of a battery within its limits keeps the balance of energy.
use Rattle.std.proofs.Common.{◌≡◌, ℕ, ◌-◌, ◌*◌, ◌≤◌, inl, inr, ⊎_elim, mul-le-mul_left, arith}
use Rattle.std.proofs.lemmas.Bool.{cases_lt}
use Rattle.battery.specs.Energy.{Balanced, CanPutIn, CanTakeOut, Greatest}
use Rattle.battery.specs.Ratings.{Rated}
use Rattle.battery.specs.Steps.{put_in, rise, taken_out, fall, after, imported, exported}
use Rattle.battery.specs.declared.battery.Battery.{Battery}
use Rattle.battery.specs.declared.rating.Rating.{Rating}
use Rattle.battery.proofs.Quotients.{down_greatest, clipped, up_least}

-- ---- the battery moves all that it can

put_in_is : (b : Rating) (n charge d g : ℕ) → Rated b → Greatest (CanPutIn b n charge d g) (put_in b n charge d g)
put_in_is b n charge d g r = clipped (g - d) (n * b.most) (100 * (n * b.highest - charge)) b.charging r.charges

taken_out_is : (b : Rating) (n charge d g : ℕ) → Greatest (CanTakeOut b n charge d g) (taken_out b n charge d g)
taken_out_is b n charge d g =
    let found = clipped (d - g) (n * b.most) ((charge - n * b.lowest) * b.discharging) 100 (omega arith) in
    record {
      has = (found.has.0, found.has.1, omega (arith, found.has.2));
      most = λ y can. found.most y (can.0, can.1, omega (arith, can.2));
    }

-- ---- how far the charge moves

-- no further than there is room and charge for, and not at all where nothing is left over or nothing is lacking
pub record Moves (b : Rating) (n charge d g : ℕ) : Type 0 where
  pub rise_fits : rise b n charge d g ≤ n * b.highest - charge
  pub rise_left_over : rise b n charge d g ≤ g - d
  pub fall_held : fall b n charge d g ≤ charge - n * b.lowest
  pub fall_lacking : fall b n charge d g ≤ 100 * (d - g)

pub step_moves : (b : Rating) (n charge d g : ℕ) → Rated b → Moves b n charge d g
step_moves b n charge d g r =
    let goes_in = (put_in_is b n charge d g r).has in
    let comes_out = (taken_out_is b n charge d g).has in
    let drawn = up_least (100 * taken_out b n charge d g) b.discharging r.discharges in
    record {
      rise_fits = omega (arith, goes_in.2);
      rise_left_over = omega (arith, goes_in.0, mul-le-mul_left (put_in b n charge d g) r.stores);
      fall_held = drawn.least (charge - n * b.lowest) comes_out.2;
      fall_lacking = drawn.least (100 * (d - g)) (omega (arith, comes_out.0, mul-le-mul_left (100 * (d - g)) r.discharges));
    }

-- ---- the balance

pub step_balanced : (b : Rating) (n charge d g : ℕ) → Rated b → Balanced b n charge d g (after b n charge d g) (imported b n charge d g) (exported b n charge d g)
step_balanced b n charge d g r =
    let moves = step_moves b n charge d g r in
    record {
      put_in = put_in b n charge d g;
      taken_out = taken_out b n charge d g;
      rise = rise b n charge d g;
      fall = fall b n charge d g;
      energy = omega arith;
      one_way = ⊎_elim (λ lacking. inr (omega arith)) (λ enough. inl (omega arith)) (cases_lt g d);
      put_in_is = put_in_is b n charge d g r;
      taken_out_is = taken_out_is b n charge d g;
      rise_is = down_greatest (put_in b n charge d g * b.charging);
      fall_is = up_least (100 * taken_out b n charge d g) b.discharging r.discharges;
      charge_is = omega (arith, moves.fall_held);
      bounds = λ within. (omega (arith, within.0, moves.fall_held), omega (arith, within.1, moves.rise_fits));
    }

-- and so do numbers that are the step's
pub answer_balanced :
    (b : Battery) (n charge d g x y z : ℕ)
    → x ≡ after b.rating n charge d g
    → y ≡ imported b.rating n charge d g
    → z ≡ exported b.rating n charge d g
    → Balanced b.rating n charge d g x y z
answer_balanced b n charge d g x y z ex ey ez = rw (ex, ey, ez) (step_balanced b.rating n charge d g b.rated)

-- without homes, charge, demand and generation nothing happens
pub step_nobody : (b : Rating) → Rated b → (after b 0 0 0 0 ≡ 0) × (imported b 0 0 0 0 ≡ 0) × (exported b 0 0 0 0 ≡ 0)
step_nobody b r =
    let moves = step_moves b 0 0 0 0 r in (omega (arith, moves.rise_left_over, moves.fall_lacking), omega arith, omega arith)
