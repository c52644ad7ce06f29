-- The number of this crate's refusal, as the world outside knows it.
use Rattle.std.specs.Prelude.{ℕ}

-- a price outside its limits
abbrev pub price_outside : ℕ
price_outside = 42
