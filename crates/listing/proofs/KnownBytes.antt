-- What is read of bytes that are known, up to a limit.
use Rattle.std.proofs.Common.{◌≡◌, ℕ, List, [], ◌++◌, take, Some, None, Option, IfSome, ap, ◌∙◌}
use Rattle.std.specs.Option.{option_map}

pub up_to :
    (known : Option (List ℕ)) (limit most : ℕ) (before read : List ℕ)
    → limit ≡ most
    → before ≡ []
    → IfSome (option_map (take limit) known) (λ bytes. read ≡ before ++ bytes)
    → IfSome known (λ bytes. read ≡ take most bytes)
up_to None limit most before read is none has = tt
up_to (Some bytes) limit most before read is none has = has ∙ ap (λ b. b ++ take limit bytes) none ∙ ap (λ n. take n bytes) is
