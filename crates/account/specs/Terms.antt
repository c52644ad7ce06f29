-- The terms that an account is kept under.
use Rattle.std.specs.Prelude.{ℕ}

pub record Terms : Type 0 where
  -- the highest number that a bill can have
  pub highest : ℕ

-- the terms of today: a bill number has 16 bits
abbrev pub today : Terms
today = record { highest = 65535 }
