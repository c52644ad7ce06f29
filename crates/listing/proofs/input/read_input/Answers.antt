use Rattle.std.proofs.Common.{◌≡◌, ◌++◌, take, IfSome, subst}
use Rattle.std.specs.Option.{option_map}
use Rattle.listing.proofs.KnownBytes.{up_to}
use Rattle.listing.proofs.input.read_input.Goals as goal

pub returns : goal.returns
returns g c =
    let limit = c.take.result.limit in
    let start = c.new-input.result.items in
    let read = c.read_to_end.new.buf.items in
    up_to (g.R.Read.remaining c.args.reader) limit 65537 start read c.take.ensures.limit c.new-input.ensures.items
    (subst (λ r. IfSome (option_map (take limit) (g.R.Read.remaining r)) (λ bytes. read ≡ start ++ bytes)) c.take.ensures.inner c.in_ok-read_to_end.ensures.bytes)
