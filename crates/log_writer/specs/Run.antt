-- Runs of a log's steps, and what they leave.
use Rattle.std.specs.Prelude.{◌≡◌, ◌<◌, ◌^◌, ℕ, List, [], ◌∷◌, ◌++◌, length, flat_map}
use Rattle.relay_log.specs.Queue.{Queue, TakesIn, Loses, all_text, lost_text}
use Rattle.relay_log.specs.Conservation.{Push, queued, lost, AreEntriesOf, Entry, text_of}
use Rattle.log_writer.specs.Batch.{Refills}

-- what waits, what the thread is writing, and what the device took
pub record LogState : Type 0 where
  pub queue : Queue
  pub batch : List ℕ
  pub written : List ℕ

-- a log, and how its pushes went, in order; a batch is filled and written however often
pub data HasLogRun : LogState → List Push → Type 0 where
  begins : {log : LogState} → log.queue.bytes ≡ [] → log.queue.lost ≡ 0 → log.batch ≡ [] →
      log.written ≡ [] → HasLogRun log []
  queues : {old new : LogState} {pushes : List Push} (line : List ℕ) → HasLogRun old pushes →
      TakesIn old.queue new.queue line → new.batch ≡ old.batch → new.written ≡ old.written →
      HasLogRun new (pushes ++ queued line ∷ [])
  loses : {old new : LogState} {pushes : List Push} → HasLogRun old pushes →
      Loses old.queue new.queue → new.batch ≡ old.batch → new.written ≡ old.written →
      HasLogRun new (pushes ++ lost ∷ [])
  refills : {old new : LogState} {pushes : List Push} → HasLogRun old pushes →
      Refills old.queue new.queue old.batch new.batch → new.written ≡ old.written →
      HasLogRun new pushes
  writes : {old new : LogState} {pushes : List Push} (front : List ℕ) → HasLogRun old pushes →
      old.batch ≡ front ++ new.batch → new.written ≡ old.written ++ front →
      new.queue ≡ old.queue → HasLogRun new pushes

-- what the device took and what is left of the batch
abbrev pub passed_on : LogState → List ℕ
passed_on log = log.written ++ log.batch

-- of fewer than 2^64 pushes: what the device took, what is left of the batch and what waits are the
-- lines that were taken in, whole, in order and each once, with how many were lost between two of
-- them; and no push goes uncounted
abbrev pub EachLineIsWrittenOrTold : Type 0
EachLineIsWrittenOrTold = (log : LogState) (pushes : List Push) → HasLogRun log pushes →
    length pushes < 2 ^ 64 →
    (entries : List Entry) × AreEntriesOf log.queue pushes (passed_on log) entries

-- with the last batch behind it, a device holds all entries, and how many lines were lost since
abbrev pub TheLastBatchTellsTheRest : Type 0
TheLastBatchTellsTheRest = (log : LogState) (pushes : List Push) (entries : List Entry) →
    log.batch ≡ [] → AreEntriesOf log.queue pushes (passed_on log) entries →
    log.written ++ all_text log.queue
    ≡ flat_map (text_of log.queue.format) entries ++ lost_text log.queue.format log.queue.lost
