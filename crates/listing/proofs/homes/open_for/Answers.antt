use Rattle.std.proofs.Common.{◌≡◌, length, subst, rules, arith}
use Rattle.composition.proofs.Four.{in_order}
use Rattle.listing.proofs.JoiningHomes.{NamedTo, none_named, one_more_named, all_named, not_named}
use Rattle.listing.proofs.homes.open_for.Goals as goal

pub loop-of-init : goal.loop-of-init
loop-of-init c = none_named c.args.words c.open_after-account.result c.open_after-account.ensures.opened

pub returns-in_err-join_all : goal.returns-in_err-join_all
returns-in_err-join_all c =
    let i = c.loop-of.of-index in
    rw c.from_residual.ensures
    (not_named c.args.words i _ c.loop-of.account c.join_all.new.account _ (in_order i _ c.loop-of-test.true) c.position.ensures c.loop-of.invariant
    c.in_err-join_all.ensures)

pub loop-of-preserved : goal.loop-of-preserved
loop-of-preserved c =
    let i = c.loop-of.of-index in
    one_more_named c.args.words i _ c.loop-of.account c.join_all.new.account _ (in_order i _ c.loop-of-test.true) c.position.ensures c.loop-of.invariant
    c.in_ok-join_all.ensures

pub returns : goal.returns
returns c =
    let four : length c.args.words ≡ 4 = search rules in
    let end : c.loop-of.of-index ≡ 4 = omega (arith, c.loop-of-test.false, c.loop-of.auto.of-index-end) in
    all_named c.args.words c.loop-of.account four (subst (λ i. NamedTo c.args.words i c.loop-of.account) end c.loop-of.invariant)
