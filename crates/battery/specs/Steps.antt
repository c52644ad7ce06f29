-- What the battery of n homes does in one half-hour, whose charge, demand and generation are in watt-hours. `-` stops at 0, so that g - d is what is left
-- over and d - g what is lacking: one of the two is 0, and so is what the battery moves that way.
use Rattle.std.specs.Prelude.{ℕ, ◌+◌, ◌-◌, ◌*◌, ◌/◌, min}
use Rattle.battery.specs.declared.rating.Rating.{Rating}

-- a quotient rounded up
abbrev pub up : ℕ → ℕ → ℕ
up a b = (a + (b - 1)) / b

-- the most that goes into the battery: no more than it takes in a half-hour, and no more than it has room for
abbrev pub most_in : Rating → ℕ → ℕ → ℕ
most_in b n charge = min (n * b.most) (100 * (n * b.highest - charge) / b.charging)

-- what of all that is left over goes in
abbrev pub put_in : Rating → ℕ → ℕ → ℕ → ℕ → ℕ
put_in b n charge d g = min (g - d) (most_in b n charge)

-- and what of it is stored
abbrev pub rise : Rating → ℕ → ℕ → ℕ → ℕ → ℕ
rise b n charge d g = put_in b n charge d g * b.charging / 100

-- the most that comes out of the battery: no more than it gives in a half-hour, and no more than it holds
abbrev pub most_out : Rating → ℕ → ℕ → ℕ
most_out b n charge = min (n * b.most) ((charge - n * b.lowest) * b.discharging / 100)

-- what of all that is lacking comes out
abbrev pub taken_out : Rating → ℕ → ℕ → ℕ → ℕ → ℕ
taken_out b n charge d g = min (d - g) (most_out b n charge)

-- and what is drawn for it
abbrev pub fall : Rating → ℕ → ℕ → ℕ → ℕ → ℕ
fall b n charge d g = up (100 * taken_out b n charge d g) b.discharging

-- the charge at the end of the half-hour
abbrev pub after : Rating → ℕ → ℕ → ℕ → ℕ → ℕ
after b n charge d g = charge + rise b n charge d g - fall b n charge d g

-- what the grid gives: what is lacking still
abbrev pub imported : Rating → ℕ → ℕ → ℕ → ℕ → ℕ
imported b n charge d g = (d - g) - taken_out b n charge d g

-- what the grid takes: what is left over still
abbrev pub exported : Rating → ℕ → ℕ → ℕ → ℕ → ℕ
exported b n charge d g = (g - d) - put_in b n charge d g
