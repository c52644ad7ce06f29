use Rattle.std.proofs.Common.{◌+◌, arith}
use Rattle.shapley.proofs.Rows.{weight_pos, row_quotient}
use Rattle.shapley.proofs.weight_table.choose.Goals as goal

pub nonzero_div-result : goal.nonzero_div-result
nonzero_div-result c = rw c.entry-2.ensures (weight_pos (c.args.of + 1) c.args.picked (omega arith, omega arith, omega arith))

pub returns : goal.returns
returns c = rw (c.entry.ensures, c.entry-2.ensures) (row_quotient c.args.of c.args.picked c.requires.few c.requires.within)
