use Rattle.std.proofs.Common.{rules, sym, ◌∙◌, ℕ, ◌<◌, ◌≤◌, length, IsTrue, ◌↔◌, slice_index}
use Rattle.std.proofs.iter.runs.Made.{chains}
use Rattle.composition.proofs.Places.{fits_inside, inside_fits, tests_fit}
use Rattle.composition.proofs.composition.Composition.fits.Goals as goal

pub returns : goal.returns
returns c =
    let a = c.args.self.now in
    let b = c.args.inside.now in
    let each : IsTrue c.all.result ↔ ((i : ℕ) → i < length a.counts → slice_index a.counts i ≤ slice_index b.counts i) = search (rules, chains, a.four, b.four) in
    let value = tests_fit c.all.result a.counts b.counts (a.four ∙ sym b.four) each.0 each.1 in
    record {
      value = value;
      only = λ yes_it_fits. fits_inside a.counts b.counts (sym value ∙ yes_it_fits);
      always = λ within. value ∙ inside_fits a.counts b.counts within;
    }
