use Rattle.listing.proofs.WritingWords.{WrittenTo}
use Rattle.listing.proofs.words.words_in.Given as goal

abbrev pub invariant-loop-place : goal.invariant-loop-place
invariant-loop-place l = WrittenTo l.input l.place l.words
