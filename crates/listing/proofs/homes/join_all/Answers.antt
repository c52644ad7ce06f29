use Rattle.std.proofs.Common.{◌≡◌, ◌+◌, sym, ◌∙◌, arith}
use Rattle.composition.specs.Counts.{most, total}
use Rattle.listing.proofs.JoiningHomes.{none_joined, one_joined, one_too_many, said_once}
use Rattle.listing.proofs.homes.join_all.Goals as goal

pub returns-in_err-end : goal.returns-in_err-end
returns-in_err-end c = rw c.from_residual.ensures (λ n small is. absurd (c.in_err-end.ensures n small is))

pub loop-init : goal.loop-init
loop-init c = none_joined c.args.account.now c.args.of

pub returns-in_err-ok : goal.returns-in_err-ok
returns-in_err-ok c =
    let full : total c.args.account.now.homes.counts + c.loop.counter ≡ most =
    one_too_many c.args.account.now c.loop.account c.join.new.self c.args.of c.loop.counter _ _ c.from.ensures c.loop.invariant (sym c.ok.ensures.value ∙ c.in_err-ok.was) c.join.ensures in
    rw c.from_residual-in_err-ok.ensures
    (λ n small is. let same : c.in_ok-end.end ≡ n = said_once c.args.of c.in_ok-end.end n (sym c.in_ok-end.ensures.0 ∙ is) in omega (arith, full, same, c.loop-test.true))

pub loop-preserved : goal.loop-preserved
loop-preserved c =
    one_joined c.args.account.now c.loop.account c.join.new.self c.args.of c.loop.counter _ _ c.from.ensures c.loop.invariant (sym c.ok.ensures.value ∙ c.in_ok-ok.was) c.join.ensures
