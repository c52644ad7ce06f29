use Rattle.std.specs.Fmt.{HasWritten, IsPlainFormatter}
use Rattle.listing.proofs.RowsWritten.{so_far}
use Rattle.recounting.specs.Texts.{head_text, row_text, rows_of}
use Rattle.recounting.proofs.recount.RecountDisplay.fmt.Given as goal

abbrev pub invariant-loop-row : goal.invariant-loop-row
invariant-loop-row g l =
    IsPlainFormatter l.fn.f → HasWritten g.W.Write.write_str_gives l.fn.f (so_far row_text (head_text l.self.draft) (rows_of l.self.draft l.self.by_groups) l.row-index) l.f
