-- What a caller sees of a queue, and how the calls change it.
use Rattle.std.specs.Prelude.{◌≡◌, ◌≤◌, ◌+◌, ◌-◌, ◌^◌, ◌++◌, ℕ, List, [], length}
use Rattle.std.specs.Prelude.{nat_eq, min, if◌then◌else◌}
use Rattle.std.specs.Fmt.{decimal}
use Rattle.relay_log.specs.declared.format.Format.{Format}
use Rattle.relay_log.specs.Format.{before_lost, behind_lost}

-- how its lines are written, the bytes that wait, and how many lines were lost since the last one that
-- was taken in
pub record Queue : Type 0 where
  pub format : Format
  pub bytes : List ℕ
  pub lost : ℕ

-- what is said of so many lost lines: a line of the format with their number, and nothing where there
-- are none
abbrev pub lost_text : Format → ℕ → List ℕ
lost_text format n = if nat_eq n 0 then [] else (before_lost format ++ (decimal n ++ behind_lost format))

-- a line, behind what is said of the lines that were lost before it
abbrev pub entry_text : Format → ℕ → List ℕ → List ℕ
entry_text format lost line = lost_text format lost ++ line

-- with the line, and what is to be said ahead of it, at most 65,536 bytes wait
abbrev pub HasRoom : Queue → List ℕ → Type 0
HasRoom queue line = length queue.bytes + length (entry_text queue.format queue.lost line) ≤ 65536

-- the line stands whole behind what waited, with what is said of lost lines between
abbrev pub TakesIn : Queue → Queue → List ℕ → Type 0
TakesIn old new line =
    new ≡ record old { bytes = old.bytes ++ entry_text old.format old.lost line; lost = 0 }

-- one more, but never more than the greatest `u64`
abbrev pub one_more : ℕ → ℕ
one_more n = min (n + 1) (2 ^ 64 - 1)

-- one line more was lost
abbrev pub Loses : Queue → Queue → Type 0
Loses old new = new ≡ record old { lost = one_more old.lost }

-- nothing waits any more, and as many lines are to be said to be lost as before
abbrev pub Takes : Queue → Queue → Type 0
Takes old new = new ≡ record old { bytes = [] }

-- what waits, and how many lines were lost since
abbrev pub all_text : Queue → List ℕ
all_text queue = queue.bytes ++ lost_text queue.format queue.lost

-- nothing waits, and nothing is to be said of lost lines
abbrev pub IsEmpty : Queue → Type 0
IsEmpty queue = (queue.bytes ≡ []) × (queue.lost ≡ 0)
