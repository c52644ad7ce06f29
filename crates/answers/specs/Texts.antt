-- What a ledger prints behind a line, byte for byte. Numbers are in plain decimal digits, after a `-` if they are below 0.
use Rattle.std.specs.Prelude.{ℕ, List, [], ◌++◌, length, ℤ, Some, None, Option, codes}
use Rattle.std.specs.Fmt.{signed_decimal}
use Rattle.std.specs.List.{flat_map}
use Rattle.composition.specs.Counts.{count}
use Rattle.composition.specs.Types.{position}
use Rattle.composition.specs.declared.demand_type.DemandType.{DemandType}
use Rattle.composition.specs.declared.demand_type.DemandType.TheVariants.{One, Two, Three, Four}
use Rattle.listing.specs.Texts.{spaced, line_end}
use Rattle.answers.specs.declared.answer.Answer.{Answer}
use Rattle.answers.specs.declared.answer.Answer.TheVariants.{Done, Cost, Line, Absent, Drafted, Refused, Faulty as NoCost}
use Rattle.answers.specs.declared.answer.DraftTold.{DraftTold}
use Rattle.answers.specs.declared.grounds.Ground.{Ground}
use Rattle.answers.specs.declared.grounds.Known.{Known}
use Rattle.answers.specs.declared.grounds.Known.TheVariants.{Nothing, At, Faulty as FaultyAt}
use Rattle.answers.specs.declared.outcome.Outcome.{Outcome}
use Rattle.answers.specs.declared.outcome.Outcome.TheVariants.{Taken, Unreadable, Answered}
use Rattle.answers.specs.declared.shown.Shown.{Shown}

-- a signed number after a space
abbrev pub spaced_signed : ℤ → List ℕ
spaced_signed z = codes " " ++ signed_decimal z

-- behind the number of a refusal: nothing, a place or the number of a type, or the place, the number and the rung of a fault
abbrev pub known_text : Known → List ℕ
known_text Nothing = []
known_text (At p) = spaced p
known_text (FaultyAt p fault) = spaced p ++ (spaced fault.number ++ spaced fault.rung)

-- `refused NUMBER`, and what is known beside that
abbrev pub ground_text : Ground → List ℕ
ground_text g = codes "refused" ++ (spaced g.number ++ known_text g.known)

-- `ok HOMES L COST REBATE PURSE`
abbrev pub draft_text : DraftTold → List ℕ
draft_text d = codes "ok" ++ (spaced d.homes ++ (spaced d.lcm ++ (spaced_signed d.cost ++ (spaced_signed d.rebate ++ spaced d.purse))))

-- `ok`, `ok COST`, `ok SHARE BILL`, `absent`, a draft, a refusal, or `fault NUMBER RUNG`
abbrev pub answer_text : Answer → List ℕ
answer_text Done = codes "ok"
answer_text (Cost c) = codes "ok" ++ spaced_signed c
answer_text (Line share bill) = codes "ok" ++ (spaced_signed share ++ spaced_signed bill)
answer_text Absent = codes "absent"
answer_text (Drafted d) = draft_text d
answer_text (Refused g) = ground_text g
answer_text (NoCost fault) = codes "fault" ++ (spaced fault.number ++ spaced fault.rung)

-- `table n`, the number of entries
abbrev pub count_told : List ℤ → List ℕ
count_told entries = codes "table" ++ spaced (length entries)

-- `table n t...`, and behind it each entry
abbrev pub table_text : List ℤ → List ℕ
table_text entries = count_told entries ++ (flat_map spaced_signed entries ++ line_end)

-- how many homes of a type are among counts, after a space
abbrev pub count_text : DemandType → List ℕ → List ℕ
count_text k counts = spaced (count (position k) counts)

-- `account n1 n2 n3 n4`
abbrev pub homes_told : List ℕ → List ℕ
homes_told counts = codes "account" ++ (count_text One counts ++ (count_text Two counts ++ (count_text Three counts ++ count_text Four counts)))

-- `account n1 n2 n3 n4 PURSE LAST`
abbrev pub shown_text : Shown → List ℕ
shown_text s = homes_told s.counts ++ (spaced s.purse ++ (spaced s.last ++ line_end))

-- a text, or none without what it is of
abbrev pub if_there : {A : Type 0} → (A → List ℕ) → Option A → List ℕ
if_there text None = []
if_there text (Some x) = text x

-- behind the line with a number: nothing, that it is unreadable, or its answer; then the table and the account, if they are told
abbrev pub outcome_text : ℕ → Outcome → List ℕ
outcome_text number Taken = line_end
outcome_text number Unreadable = codes " = unreadable" ++ (spaced number ++ line_end)
outcome_text number (Answered answer table account) =
    (codes " = " ++ (answer_text answer ++ line_end)) ++ (if_there (λ t. table_text t.items) table ++ if_there shown_text account)
