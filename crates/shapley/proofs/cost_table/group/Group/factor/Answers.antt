use Rattle.std.proofs.Common.{◌*◌, ◌^◌, ◌≤◌, arith}
use Rattle.shapley.proofs.Terms.{members_fewer, counts_small}
use Rattle.shapley.proofs.cost_table.group.Group.factor.Goals as goal

pub entry-requires : goal.entry-requires
entry-requires c =
    let group = c.args.self.now in
    let fewer = members_fewer group.home.now group.members.counts group.inside in
    (omega arith, omega arith, omega arith)

pub overflow_mul-result : goal.overflow_mul-result
overflow_mul-result c =
    let group = c.args.self.now in
    let small : c.entry.result * c.ways.result ≤ 2 ^ 56 =
    rw (c.entry.ensures, c.homes.ensures, c.homes-2.ensures, c.ways.ensures) (counts_small group.home.now group.members.counts group.inside) in
    record { fits = omega arith }
