use Rattle.std.proofs.Common.{◌≡◌, List, ℕ, ap, subst, ◌∙◌}
use Rattle.std.proofs.lemmas.Result.{IfOk-weaker}
use Rattle.metering.specs.Grid.{grid_cost}
use Rattle.metering.specs.Metered.{metered}
use Rattle.metering.specs.Peak.{peak_cost}
use Rattle.metering.specs.Promise.{GridPromise, PeakPromise}
use Rattle.period.specs.Filled.{page}
use Rattle.period.specs.declared.period.Period.{Period}
use Rattle.narration.specs.Story.{PostedByMeter, peak_price, readings_words}
use Rattle.narration.proofs.Stories.{readings_taken}
use Rattle.narration.proofs.meter.by_the_meter.Goals as goal

pub returns-clause-posted : goal.returns-clause-posted
returns-clause-posted g c =
    let period = c.check-2.new.period in
    let taken : period.words.now ≡ readings_words = readings_taken _ period c.check-2.ensures.0 c.check-2.ensures.1 in
    let on_them : c.on.result.period.words.now ≡ readings_words = ap (λ (p : Period). p.words.now) c.on.ensures.holds ∙ taken in
    let grid = metered grid_cost (page c.on.result.period) in
    let right = c.in_ok-peak_rule.field-0 in
    let peak = metered (peak_cost right.tally.price.value) (page right.period) in
    IfOk-weaker c.draft_and_post.result _ (PostedByMeter c.args.account)
    (λ b posted. record {
      grid = grid;
      peak = peak;
      grid_charges = subst (λ (ws : List ℕ). GridPromise ws grid) on_them c.on.ensures.promise;
      peak_costs = subst (λ (ws : List ℕ). PeakPromise ws peak_price peak) taken c.in_ok-peak_rule.ensures;
      table = _;
      after = _;
      posted = posted;
    }) c.draft_and_post.ensures.posted
