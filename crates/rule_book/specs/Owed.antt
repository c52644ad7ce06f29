-- That every rule of a book owes what every rule owes. These are proofs, and nobody has to read them: they stand here and not in proofs/ since an
-- implementation of the interface can name only what stands in specs/.
use Rattle.std.specs.Prelude.{◌≡◌, ℕ, zero, suc, List, [], ◌∷◌, ◌++◌, pos, refl}
use Rattle.std.proofs.Common.{subst, arith}
use Rattle.std.proofs.lemmas.Int.{ints}
use Rattle.cost_rules.specs.Limits.{Within}
use Rattle.cost_rules.specs.Meanings.{Meaning, Free, Limited, Lawful}
use Rattle.cost_rules.specs.Owed.{headed_free, headed_limited, listed_free, listed_limited, sum_lawful}
use Rattle.metering.specs.Grid.{grid_cost}
use Rattle.metering.specs.Owed.{grid_free, peak_free, metered_limited}
use Rattle.metering.specs.Peak.{peak_cost}
use Rattle.period.specs.Filled.{page}
use Rattle.rule_book.specs.Meanings.{meaning_of, costless, numbered, continued, means}
use Rattle.rule_book.specs.declared.definition.Definition.{Definition}
use Rattle.rule_book.specs.declared.definition.Definition.TheVariants.{Listed, Head, Grid, Peak, Sum}

costless_lawful : Lawful costless
costless_lawful =
    record {
      free = refl;
      limited = λ n four few c e. let same : pos 0 ≡ c = cc in subst Within same (omega (arith, ints), omega (arith, ints));
    }

definition_lawful : (by : ℕ → Meaning) → ((i : ℕ) → Lawful (by i)) → (d : Definition) → Lawful (meaning_of by d)
definition_lawful by each (Listed r) =
    record {
      free = listed_free r.largest.counts r.table.now r.largest.four r.free;
      limited = listed_limited r.largest.counts r.table.now r.whole r.limited;
    }
definition_lawful by each (Head r) = record { free = headed_free r.fees r.four; limited = headed_limited r.fees r.small r.four }
definition_lawful by each (Grid r) = record { free = grid_free r.period; limited = metered_limited grid_cost (page r.period) }
definition_lawful by each (Peak r) =
    record { free = peak_free r.period r.tally.price.value; limited = metered_limited (peak_cost r.tally.price.value) (page r.period) }
definition_lawful by each (Sum left right) = sum_lawful (by left) (by right) (each left) (each right)

pushed_lawful : (fs : List Meaning) → ((i : ℕ) → Lawful (numbered fs i)) → (f : Meaning) → Lawful f → (i : ℕ) → Lawful (numbered (fs ++ f ∷ []) i)
pushed_lawful [] each f law zero = law
pushed_lawful [] each f law (suc i) = costless_lawful
pushed_lawful (g ∷ fs) each f law zero = each 0
pushed_lawful (g ∷ fs) each f law (suc i) = pushed_lawful fs (λ k. each (suc k)) f law i

continued_lawful : (fs : List Meaning) → ((i : ℕ) → Lawful (numbered fs i)) → (ds : List Definition) (i : ℕ) → Lawful (numbered (continued fs ds) i)
continued_lawful fs each [] i = each i
continued_lawful fs each (d ∷ ds) i =
    let new = meaning_of (numbered fs) d in
    continued_lawful (fs ++ new ∷ []) (pushed_lawful fs each new (definition_lawful (numbered fs) each d)) ds i

pub means_lawful : (ds : List Definition) (i : ℕ) → Lawful (means ds i)
means_lawful ds i = continued_lawful [] (λ k. costless_lawful) ds i

pub means_free : (ds : List Definition) (i : ℕ) → Free (means ds i)
means_free ds i = (means_lawful ds i).free

pub means_limited : (ds : List Definition) (i : ℕ) → Limited (means ds i)
means_limited ds i = (means_lawful ds i).limited
