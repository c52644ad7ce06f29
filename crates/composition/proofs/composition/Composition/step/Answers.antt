use Rattle.std.proofs.Common.{ℕ, take, sym, ap, ◌∙◌, arith}
use Rattle.composition.specs.Counts.{size}
use Rattle.composition.specs.Types.{position}
use Rattle.composition.proofs.Changes.{type_counted}
use Rattle.composition.proofs.Places.{place_raised, step_is_size}
use Rattle.composition.proofs.composition.Composition.step.Goals as goal

pub returns-clause-value : goal.returns-clause-value
returns-clause-value c =
    let homes = c.args.self.now in
    c.choices.ensures ∙ ap (λ (i : ℕ). size (take i homes.counts)) c.position.ensures ∙ sym (step_is_size (position c.args.of) homes.counts (type_counted c.args.of homes))

pub returns-clause-further : goal.returns-clause-further
returns-clause-further c = λ n four.
    let homes = c.args.self.now in
    omega (arith, place_raised (position c.args.of) homes.counts n (type_counted c.args.of homes) (four ∙ sym homes.four), returns-clause-value c)
