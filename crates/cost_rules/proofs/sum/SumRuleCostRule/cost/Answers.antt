use Rattle.std.proofs.Common.{◌≡◌, Ok, rules}
use Rattle.cost_rules.proofs.Passing.{passed_within}
use Rattle.cost_rules.proofs.sum.SumRuleCostRule.cost.Goals as goal

pub add-requires : goal.add-requires
add-requires g c =
    let n = c.args.of.now in
    let left = g.A.CostRule in
    let right = g.B.CostRule in
    let left_is : c.cost.result ≡ Ok c.in_ok-left.left = search rules in
    let right_is : c.cost-2.result ≡ Ok c.in_ok-right.right = search rules in
    record {
      left_within = passed_within (left.meaning c.args.self.now.left) n.counts c.cost.result c.in_ok-left.left (left.limited c.args.self.now.left) n.four n.few c.cost.ensures left_is;
      right_within = passed_within (right.meaning c.args.self.now.right) n.counts c.cost-2.result c.in_ok-right.right (right.limited c.args.self.now.right) n.four n.few c.cost-2.ensures right_is;
    }
