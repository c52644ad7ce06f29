use Rattle.std.proofs.Common.{◌*◌, ◌≤◌, ◌<◌, ◌^◌, ℕ, length, arith, rules, refl}
use Rattle.std.proofs.lemmas.Iterator.{YieldsList-from_slice, YieldsList-from_zip, YieldsList-from_map}
use Rattle.std.proofs.lemmas.Iterator.Consumers.{fits_by_from_yields_list}
use Rattle.std.proofs.lemmas.Slice.Zip.{zip_turn}
use Rattle.std.specs.List.{zip}
use Rattle.period.specs.Limits.{most_value}
use Rattle.metering.proofs.Demanding.{demand_small}
use Rattle.metering.specs.Demands.{demand_of}
use Rattle.metering.proofs.metered_rule.walking.demand.Goals as goal

pub sum-requires-clause-can : goal.sum-requires-clause-can
sum-requires-clause-can c = (
  (tt, tt),
  record {
    at = λ xs t q x u ys folds step.
        let turn = zip_turn c.counts.result c.args.each.now xs c.map.result.iter t u _ (cc) (cc) ys x refl step in
        let small : x.1.now ≤ most_value = rw (turn.3 0) (c.requires (length xs) 0 turn.1) in
        search rules;
  },
)

pub sum-requires-clause-fits : goal.sum-requires-clause-fits
sum-requires-clause-fits c =
    let small : demand_of c.counts.result c.args.each.now < 2 ^ 32 =
    rw c.counts.ensures (omega (arith, demand_small c.args.group.now.counts c.args.each.now c.requires, c.args.group.now.few)) in
    fits_by_from_yields_list (λ (p : ℕ × ℕ). p.0 * p.1) (zip c.counts.result c.args.each.now) c.map.result _
    (YieldsList-from_map _ (λ (p : ℕ × ℕ). p.0 * p.1) (YieldsList-from_zip (YieldsList-from_slice c.counts.result (cc)) (YieldsList-from_slice c.args.each.now (cc))) (cc) (λ x r q k. search rules))
    small
