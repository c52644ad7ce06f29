-- A rule from outside the crate of rules: nobody costs nothing, and every other group has the same fault.
use Rattle.std.specs.Prelude.{◌≡◌, Bool, true, false, cond, pos, Ok, Err, ◌==◌, refl}
use Rattle.std.proofs.Common.{arith}
use Rattle.std.proofs.lemmas.Int.{ints}
use Rattle.composition.specs.Counts.{total}
use Rattle.cost_rules.specs.Limits.{Within}
use Rattle.cost_rules.specs.Meanings.{Meaning, Free, Limited}
use Rattle.cost_rules.specs.declared.fault.Fault.{Fault}

-- what such a rule means
abbrev pub broken : Fault → Meaning
broken fault n = cond (total n == 0) (Ok (pos 0)) (Err fault)

pub broken_free : (fault : Fault) → Free (broken fault)
broken_free fault = refl

-- the one cost that it has is 0
pub broken_limited : (fault : Fault) → Limited (broken fault)
broken_limited fault n four few c = go (total n == 0)
  where
    go : (b : Bool) → cond b (Ok (pos 0)) (Err fault) ≡ Ok c → Within c
    go true e = let same : pos 0 ≡ c = cc in (omega (arith, ints), omega (arith, ints))
    go false e = cc
