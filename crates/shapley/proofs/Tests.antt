-- One computed test of every number below a bound, and how it is carried to each of them.
use Rattle.std.proofs.Common.{◌≡◌, ℕ, ◌<◌, Bool, true, ap, ◌∙◌, sym, zero-add, arith}
use Rattle.std.specs.List.{list_all, range_with_len}
use Rattle.std.proofs.lemmas.List.FromFn.{get_or-range_with_len, length-range_with_len}
use Rattle.std.proofs.lemmas.List.Sums.{AllPass-from_list_all}

-- the test f passes at each number below n
abbrev pub each_below : ℕ → (ℕ → Bool) → Bool
each_below n f = list_all f (range_with_len 0 n)

pub at : (n : ℕ) (f : ℕ → Bool) → each_below n f ≡ true → (k : ℕ) → k < n → f k ≡ true
at n f passed k h =
    ap f (sym (get_or-range_with_len 0 n k 0 h ∙ zero-add k))
    ∙ AllPass-from_list_all f (range_with_len 0 n) passed k 0 (omega (arith, length-range_with_len 0 n))
