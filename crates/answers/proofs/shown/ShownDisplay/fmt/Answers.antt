use Rattle.std.proofs.Common.{◌++◌, refl, rules}
use Rattle.std.proofs.lemmas.Grind.{put_two}
use Rattle.std.specs.Fmt.{HasWritten}
use Rattle.listing.specs.Texts.{spaced, line_end}
use Rattle.answers.specs.Texts.{homes_told}
use Rattle.answers.proofs.shown.ShownDisplay.fmt.Goals as goal

pub returns-clause-writes : goal.returns-clause-writes
returns-clause-writes g c plain done =
    let s = c.args.self.now in
    let head : HasWritten g.W.Write.write_str_gives c.args.f.now (homes_told s.counts) c.write.new.self = search rules in
    let foot : HasWritten g.W.Write.write_str_gives c.write.new.self (spaced s.purse ++ (spaced s.last ++ line_end)) c.writeln.new.self = search (rules, c.writeln.ensures.writes head.plain done) in
    put_two g.W.Write.write_str_gives _ _ _ _ _ _ head foot refl
