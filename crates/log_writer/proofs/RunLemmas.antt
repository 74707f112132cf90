-- Runs of a log, as runs of its queue.
use Rattle.std.proofs.Common.{◌≡◌, ◌∙◌, sym, ap, subst, ℕ, List, [], ◌∷◌, ◌++◌, arith}
use Rattle.std.proofs.lemmas.Grind.{common_steps}
use Rattle.relay_log.specs.Queue.{Queue, lost_text}
use Rattle.relay_log.specs.Conservation as queue_run
use Rattle.relay_log.specs.Conservation.{Push, HasRun, text_of}
use Rattle.relay_log.proofs.RunLemmas.{each_push_is_told}
use Rattle.log_writer.specs.Batch.{Refills}
use Rattle.log_writer.specs.Run.{LogState, HasLogRun, begins, queues, loses, refills, writes, passed_on}
use Rattle.log_writer.specs.Run.{EachLineIsWrittenOrTold, TheLastBatchTellsTheRest}

append-assoc : {A : Type 0} (xs ys zs : List A) → (xs ++ ys) ++ zs ≡ xs ++ (ys ++ zs)
append-assoc xs ys zs = grind (arith, common_steps)

append-nil : {A : Type 0} (xs : List A) → xs ++ [] ≡ xs
append-nil xs = grind (arith, common_steps)

-- the bytes that a run took out, under another name
out_is : (queue : Queue) (pushes : List Push) (out out' : List ℕ) → out ≡ out' → HasRun queue pushes out
    → HasRun queue pushes out'
out_is queue pushes out out' same run = subst (λ (o : List ℕ). HasRun queue pushes o) same run

-- a queue under another name
queue_is : (queue queue' : Queue) (pushes : List Push) (out : List ℕ) → queue ≡ queue' → HasRun queue pushes out
    → HasRun queue' pushes out
queue_is queue queue' pushes out same run = subst (λ (q : Queue). HasRun q pushes out) same run

-- neither the batch nor what was written has changed
passed-same : (old new : LogState) → new.batch ≡ old.batch → new.written ≡ old.written → passed_on old ≡ passed_on new
passed-same old new batch written =
    ap (λ (b : List ℕ). old.written ++ b) (sym batch) ∙ ap (λ (w : List ℕ). w ++ new.batch) (sym written)

-- a batch is empty and gets all that waits, or it stays, and so does the queue
refilled : (queue queue' : Queue) (batch batch' written : List ℕ) (pushes : List Push)
    → HasRun queue pushes (written ++ batch) → Refills queue queue' batch batch' → HasRun queue' pushes (written ++ batch')
refilled queue queue' [] batch' written pushes run refill =
    out_is queue' pushes ((written ++ []) ++ queue.bytes) (written ++ batch')
    (ap (λ (w : List ℕ). w ++ queue.bytes) (append-nil written)
    ∙ ap (λ (b : List ℕ). written ++ b) (sym refill.0))
    (queue_run.takes run refill.1)
refilled queue queue' (b ∷ rest) batch' written pushes run refill =
    queue_is queue queue' pushes (written ++ batch') (sym refill.1)
    (out_is queue pushes (written ++ b ∷ rest) (written ++ batch') (ap (λ (t : List ℕ). written ++ t) (sym refill.0)) run)

-- a run of a log is one of its queue, out of which came what was passed on
queue_run_of : (log : LogState) (pushes : List Push) → HasLogRun log pushes → HasRun log.queue pushes (passed_on log)
queue_run_of log [] (begins empty none batch written) =
    out_is log.queue [] [] (passed_on log)
    (ap (λ (b : List ℕ). [] ++ b) (sym batch) ∙ ap (λ (w : List ℕ). w ++ log.batch) (sym written))
    (queue_run.begins empty none)
queue_run_of log _ (queues {old} {new} {pushes} line run is batch written) =
    out_is log.queue _ (passed_on old) (passed_on log) (passed-same old log batch written)
    (queue_run.queues line (queue_run_of old pushes run) is)
queue_run_of log _ (loses {old} {new} {pushes} run is batch written) =
    out_is log.queue _ (passed_on old) (passed_on log) (passed-same old log batch written)
    (queue_run.loses (queue_run_of old pushes run) is)
queue_run_of log pushes (refills {old} run refill written) =
    out_is log.queue pushes (old.written ++ log.batch) (passed_on log)
    (ap (λ (w : List ℕ). w ++ log.batch) (sym written))
    (refilled old.queue log.queue old.batch log.batch old.written pushes (queue_run_of old pushes run) refill)
queue_run_of log pushes (writes {old} front run split written same) =
    queue_is old.queue log.queue pushes (passed_on log) (sym same)
    (out_is old.queue pushes (passed_on old) (passed_on log)
    (ap (λ (b : List ℕ). old.written ++ b) split ∙ sym (append-assoc old.written front log.batch)
    ∙ ap (λ (w : List ℕ). w ++ log.batch) (sym written))
    (queue_run_of old pushes run))

pub each_line_is_written_or_told : EachLineIsWrittenOrTold
each_line_is_written_or_told log pushes run few =
    each_push_is_told log.queue pushes (passed_on log) (queue_run_of log pushes run) few

pub the_last_batch_tells_the_rest : TheLastBatchTellsTheRest
the_last_batch_tells_the_rest log pushes entries empty told =
    sym (append-assoc log.written log.queue.bytes (lost_text log.queue.format log.queue.lost))
    ∙ ap (λ (t : List ℕ). t ++ lost_text log.queue.format log.queue.lost)
    (ap (λ (w : List ℕ). w ++ log.queue.bytes)
    (sym (append-nil log.written) ∙ ap (λ (b : List ℕ). log.written ++ b) (sym empty)) ∙ told.text)
