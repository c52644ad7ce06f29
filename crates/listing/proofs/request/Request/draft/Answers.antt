use Rattle.std.proofs.Common.{◌≡◌, Ok, Err, subst, rules}
use Rattle.std.specs.Result.{MatchResult}
use Rattle.metering.specs.Grid.{grid_cost}
use Rattle.metering.specs.Metered.{metered}
use Rattle.metering.specs.Owed.{grid_free, metered_limited}
use Rattle.metering.specs.Promise.{GridPromise}
use Rattle.period.specs.Filled.{page}
use Rattle.period.specs.declared.period.Period.{Period}
use Rattle.listing.proofs.FirstDrafts.{answered}
use Rattle.listing.proofs.request.Request.draft.Goals as goal

pub returns : goal.returns
returns c =
    let period = c.on-rule.result.period in
    let grid = metered grid_cost (page period) in
    let refusal_alone : MatchResult c.draft.result (λ d. c.map_err.result ≡ Ok d) (λ e. c.map_err.result ≡ Err e.refusal) = search rules in
    record {
      grid = grid;
      charges = subst (λ (p : Period). GridPromise p.words.now grid) c.on-rule.ensures.holds c.on-rule.ensures.promise;
      lawful = record { free = grid_free period; limited = metered_limited grid_cost (page period) };
      answered = answered grid c.args.self.account c.args.table.now c.draft.new.table c.draft.result c.map_err.result c.args.self.first c.told-table refusal_alone c.draft.ensures;
    }
