-- Runs of pushes and takes, and what they leave.
use Rattle.std.specs.Prelude.{◌≡◌, ◌+◌, ◌<◌, ◌^◌, ℕ, List, [], ◌∷◌, ◌++◌, length, replicate, sum_by}
use Rattle.std.specs.Prelude.{flat_map}
use Rattle.relay_log.specs.declared.format.Format.{Format}
use Rattle.relay_log.specs.Queue.{Queue, TakesIn, Loses, Takes, entry_text}

-- how a push went: its line was taken in, or lost
pub data Push : Type 0 where
  queued : List ℕ → Push
  lost : Push

-- a queue, how its pushes went, in order, and all that was taken out of it, in order
pub data HasRun : Queue → List Push → List ℕ → Type 0 where
  begins : {queue : Queue} → queue.bytes ≡ [] → queue.lost ≡ 0 → HasRun queue [] []
  queues : {old new : Queue} {pushes : List Push} {out : List ℕ} (line : List ℕ) →
      HasRun old pushes out → TakesIn old new line → HasRun new (pushes ++ queued line ∷ []) out
  loses : {old new : Queue} {pushes : List Push} {out : List ℕ} →
      HasRun old pushes out → Loses old new → HasRun new (pushes ++ lost ∷ []) out
  takes : {old new : Queue} {pushes : List Push} {out : List ℕ} →
      HasRun old pushes out → Takes old new → HasRun new pushes (out ++ old.bytes)

-- a line that was taken in, and how many were lost between the line before it and this one
pub record Entry : Type 0 where
  pub lost_before : ℕ
  pub line : List ℕ

-- the pushes that an entry stands for
abbrev pub pushes_of : Entry → List Push
pushes_of entry = replicate entry.lost_before lost ++ queued entry.line ∷ []

-- the bytes of an entry of a queue in a format
abbrev pub text_of : Format → Entry → List ℕ
text_of format entry = entry_text format entry.lost_before entry.line

-- how many lines were lost, as an entry says
abbrev pub said_lost : Entry → ℕ
said_lost entry = entry.lost_before

-- what was taken and what waits are these entries; they, and the lines lost since, are all pushes
pub record AreEntriesOf (queue : Queue) (pushes : List Push) (out : List ℕ) (entries : List Entry)
    : Type 0 where
  pub text : out ++ queue.bytes ≡ flat_map (text_of queue.format) entries
  pub pushed : pushes ≡ flat_map pushes_of entries ++ replicate queue.lost lost
  pub count : length entries + sum_by said_lost entries + queue.lost ≡ length pushes

-- of fewer than 2^64 pushes each line that was taken in comes out once, whole and in order; where
-- lines were lost between two of them it is said how many; and no push goes uncounted
abbrev pub EachPushIsTold : Type 0
EachPushIsTold = (queue : Queue) (pushes : List Push) (out : List ℕ) →
    HasRun queue pushes out → length pushes < 2 ^ 64 →
    (entries : List Entry) × AreEntriesOf queue pushes out entries
