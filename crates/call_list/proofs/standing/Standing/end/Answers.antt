use Rattle.call_list.proofs.standing.Standing.end.Goals as goal

pub returns : goal.returns
returns g c = rw (c.in-Drafted.is) (record { left = c.end.result; ends = c.end.ensures; told = c.after_call.ensures })
