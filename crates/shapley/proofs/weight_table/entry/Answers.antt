use Rattle.shapley.proofs.Rows.{table, entry_is_weight}
use Rattle.shapley.proofs.weight_table.entry.Goals as goal

pub returns : goal.returns
unfolding table
returns c = rw (c.from-homes.ensures, c.from.ensures) (entry_is_weight c.args.homes c.args.others c.requires)
