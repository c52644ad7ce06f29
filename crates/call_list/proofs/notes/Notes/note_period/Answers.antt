use Rattle.std.proofs.Common.{refl, rules}
use Rattle.call_list.proofs.notes.Notes.note_period.Goals as goal

pub returns : goal.returns
returns c = (search rules, c.built_in-period.result, c.fill.new.self, tt, search rules, c.in_ok-push.ensures.items, refl)
