use Rattle.std.proofs.Common.{◌≡◌, [], ◌∷◌, ap, ◌∙◌, rules}
use Rattle.composition.specs.Counts.{place, at_place}
use Rattle.composition.proofs.Four.{at_place_four}
use Rattle.composition.proofs.Places.{place_at_place}
use Rattle.composition.proofs.composition.Composition.at.Goals as goal

pub returns-clause-stands : goal.returns-clause-stands
returns-clause-stands c =
    let counts = c.args.self.now.counts in
    let digits : c.digit-w.result.0 ∷ c.digit-x.result.0 ∷ c.digit-y.result.0 ∷ c.digit-z.result.0 ∷ [] ≡ at_place counts c.args.index = search (rules, at_place_four) in
    λ within. ap (place counts) digits ∙ place_at_place counts c.args.index within
