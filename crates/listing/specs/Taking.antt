-- How an input is taken apart. Only contracts inside the crate cite this.
use Rattle.std.specs.Borrow.{Bor}
use Rattle.std.specs.Prelude.{◌≡◌, ℕ, zero, suc, ◌+◌, ◌<◌, ◌≤◌, List, [], ◌∷◌, length, Some, None, Option}
use Rattle.composition.specs.Counts.{most, total}
use Rattle.composition.specs.Types.{position}
use Rattle.composition.specs.declared.demand_type.DemandType.{DemandType}
use Rattle.account.specs.Calls.{WithHomes}
use Rattle.account.specs.Runs.{GoesOn}
use Rattle.account.specs.declared.account.Account.{Account}
use Rattle.period.specs.Words.{field_values}
use Rattle.listing.specs.Inputs.{Of32Bits, WritesDown, AsksNothing, most_bytes, bytes_of, homes_word, homes_words}
use Rattle.listing.specs.Requests.{JoinedBy}

-- the words whose bytes an input is; or it is no whole words, or too long
abbrev pub WordsRead : List ℕ → Option (Bor (List ℕ)) → Type 0
WordsRead input (Some words) = Of32Bits words.now × (input ≡ bytes_of words.now) × (length input ≤ most_bytes)
WordsRead input None = (words : List ℕ) → input ≡ bytes_of words → length input ≤ most_bytes → ⊥

-- how many homes of a type a word says there are, if it says that
abbrev pub CountRead : DemandType → ℕ → Option ℕ → Type 0
CountRead k w (Some n) = (w ≡ homes_word k n) × (n < field_values)
CountRead k w None = (n : ℕ) → n < field_values → w ≡ homes_word k n → ⊥

-- so many homes more of the type whose count stands at a position
abbrev pub added : ℕ → ℕ → List ℕ → List ℕ
added n i [] = []
added n zero (m ∷ ms) = (m + n) ∷ ms
added n (suc i) (m ∷ ms) = m ∷ added n i ms

-- as many homes of a type join as a word says; or it is no word for homes of that type, or there are too many
abbrev pub JoinedAll : Account → DemandType → ℕ → Option (Unit {0}) → Account → Type 0
JoinedAll a k w (Some done) b = (n : ℕ) × (w ≡ homes_word k n) × WithHomes (added n (position k) a.homes.counts) a b × GoesOn a b
JoinedAll a k w None b = (n : ℕ) → n < field_values → w ≡ homes_word k n → most < total a.homes.counts + n

-- four words open an account, joined by the homes that they name; or they name no counts of at most 24 homes
abbrev pub OpenedFor : List ℕ → Option Account → Type 0
OpenedFor words (Some a) = (counts : List ℕ) × (length counts ≡ 4) × (words ≡ homes_words counts) × JoinedBy counts a
OpenedFor words None = (counts : List ℕ) → length counts ≡ 4 → total counts ≤ most → words ≡ homes_words counts → ⊥

-- the account for the homes that an input writes down, and the words behind them; or it asks for nothing
abbrev pub TakenApart : List ℕ → Option (Account × Bor (List ℕ)) → Type 0
TakenApart input (Some p) = (counts : List ℕ) × WritesDown counts p.1.now input × JoinedBy counts p.0
TakenApart input None = AsksNothing input
