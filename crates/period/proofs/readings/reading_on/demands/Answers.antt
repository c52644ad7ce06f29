use Rattle.std.proofs.Common.{◌≡◌, ◌+◌, ◌<◌, ◌≤◌, min, refl, arith, rules}
use Rattle.std.proofs.lemmas.List.{drop-drop, set-get_or}
use Rattle.period.proofs.Unreading.{one_more_given}
use Rattle.period.specs.Limits.{most_types}
use Rattle.period.specs.Unread.{demands_in}
use Rattle.period.proofs.readings.reading_on.demands.Goals as goal
use Rattle.period.proofs.readings.reading_on.demands.Goals.{then-place-from, else-place-from}

pub loop-place-preserved : goal.loop-place-preserved
loop-place-preserved c =
    let i = c.loop-place.place in
    let types = c.args.types in
    let ws = c.args.words.now.now in
    let before = c.loop-place.invariant in
    elim c.if-place-from.branch [
      | then-place-from w ↦
          let below : i < types = search rules in
          let few : i < most_types = omega (arith, below, c.requires) in
          let here : min i types ≡ i = omega (arith, below) in
          let next : min (i + 1) types ≡ i + 1 = omega (arith, below) in
          record {
            given = rw (w.demand-items-is, w.first.ensures.value, before.left, before.given, here, next) (one_more_given most_types i ws few);
            left = rw (w.words-is, w.first.ensures.left, before.left, here, next) (drop-drop 1 i ws);
          }
      | else-place-from w ↦
          let above : types ≤ i = search rules in
          let here : min i types ≡ types = omega (arith, above) in
          let next : min (i + 1) types ≡ types = omega (arith, above) in
          record {
            given = rw (w.demand-items-is, before.given, here, next) (set-get_or (demands_in most_types types ws) i 0);
            left = rw (w.words-is, before.left, here, next) refl;
          }
    ]
