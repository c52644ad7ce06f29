use Rattle.std.proofs.Common.{◌≡◌, ◌<◌, ◌++◌, length, drop, Ok, sym, ap, ◌∙◌, subst, arith, to_z-of_z, w64, SFits, rules, ◌+◌}
use Rattle.std.proofs.lemmas.List.{set-append_left, length-append}
use Rattle.composition.specs.Counts.{at_place}
use Rattle.account.specs.Filling.{FilledTo}
use Rattle.account.proofs.FilledTables.{filled_more}
use Rattle.account.proofs.account.filling.fill.Goals as goal

pub loop-place-preserved : goal.loop-place-preserved
loop-place-preserved g c =
    let f = g.R.CostRule.meaning c.args.rule.now in
    let counts = c.args.homes.now.counts in
    let p = c.loop-place.place-counter in
    let rest = drop c.size-size.result c.args.table.now in
    let within : p < length c.loop-place.entry-items = search rules in
    let longer : p < length (c.loop-place.entry-items ++ rest) = omega (arith, length-append c.loop-place.entry-items rest, within) in
    let fits : SFits w64 c.in_ok-entry.field-0 = search rules in
    let met : c.cost.result ≡ Ok c.in_ok-entry.field-0 = search rules in
    let here : f (at_place counts p) ≡ c.cost.result = ap f (sym c.at.ensures.value) ∙ sym c.cost.ensures in
    subst (λ t. FilledTo f counts (p + 1) c.args.table.now t) (set-append_left c.loop-place.entry-items rest p _ within)
    (filled_more f counts p c.args.table.now _ _ longer c.loop-place.invariant (here ∙ met ∙ ap Ok (sym (to_z-of_z fits))))
