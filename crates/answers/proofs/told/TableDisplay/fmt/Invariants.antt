use Rattle.std.specs.Fmt.{HasWritten, IsPlainFormatter}
use Rattle.listing.proofs.RowsWritten.{so_far}
use Rattle.answers.specs.Texts.{count_told, spaced_signed}
use Rattle.answers.proofs.told.TableDisplay.fmt.Given as goal

abbrev pub invariant-loop-entry : goal.invariant-loop-entry
invariant-loop-entry g l =
    IsPlainFormatter l.fn.f → HasWritten g.W.Write.write_str_gives l.fn.f (so_far spaced_signed (count_told l.self.entries.now) l.self.entries.now l.entry-index) l.f
