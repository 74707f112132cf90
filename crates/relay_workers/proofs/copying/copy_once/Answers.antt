use Rattle.std.proofs.Common.{rules, arith, [], ◌∷◌, Ok, Err, take}
use Rattle.relay_core.specs.CopyTrace.{Read}
use Rattle.relay_workers.specs.CopyTrace.{AtRead, AtWrite, AtCredit}
use Rattle.relay_workers.proofs.RoundLemmas.{one_round, ends_with, at_end, at_close}
use Rattle.relay_workers.proofs.copying.copy_once.Goals as goal

-- the reader's end came, and the writer was told
pub returns-in-Ok-close_write-clause-copied : goal.returns-in-Ok-close_write-clause-copied
returns-in-Ok-close_write-clause-copied g c = ends_with _
    (λ calls h. c.in-Ok-close_write.ensures.told _ (c.in-Err-EndOfFile.ensures.told _ h))
    (at_end c.in-Ok-close_write.field-0 _ c.in-Err-EndOfFile.field-0-is)
    (omega (arith))

-- the reader's end came, and the writer couldn't be told
pub returns-in-Err-close_write-clause-copied : goal.returns-in-Err-close_write-clause-copied
returns-in-Err-close_write-clause-copied g c = ends_with _
    (λ calls h. c.in-Err-close_write.ensures.told _ (c.in-Err-EndOfFile.ensures.told _ h))
    (at_close c.in-Err-close_write.fault _ c.in-Err-EndOfFile.field-0-is)
    (omega (arith))

-- a read failed
pub returns-in-Err : goal.returns-in-Err
returns-in-Err g c = record {
  so_far = tt;
  copied = ends_with (Read (Err c.in-Err.fault) ∷ [])
      (λ calls h. c.in-Err.ensures.told _ h) (AtRead _ (search rules)) (omega (arith));
}

-- a round that went well
pub returns-in-Ok-credited-clause-so_far : goal.returns-in-Ok-credited-clause-so_far
returns-in-Ok-credited-clause-so_far g c = one_round (take c.in-Ok.count c.read.new.buf)
    (λ calls h. rw (← c.in-Ok-write.ensures.whole)
    (c.in-Ok-write.ensures.told _ (c.in-Ok.ensures.told _ h)))
    (omega (arith, c.in-Ok-credited.ensures.amount, c.in-Ok-write.ensures.whole))

-- what a whole write reported is not credited
pub returns-in-Err-credited-clause-copied : goal.returns-in-Err-credited-clause-copied
returns-in-Err-credited-clause-copied g c = ends_with _
    (λ calls h. c.in-Ok-write.ensures.told _ (c.in-Ok.ensures.told _ h))
    (AtCredit (take c.in-Ok.count c.read.new.buf) (Ok c.in-Ok-write.written) c.in-Ok-write.ensures.whole)
    (omega (arith, c.in-Err-credited.ensures.kept))

-- a write failed, and what it reported is credited
pub returns-in-Ok-credited-2-clause-copied : goal.returns-in-Ok-credited-2-clause-copied
returns-in-Ok-credited-2-clause-copied g c = ends_with _
    (λ calls h. c.in-Err-write.ensures.told _ (c.in-Ok.ensures.told _ h))
    (AtWrite (take c.in-Ok.count c.read.new.buf) c.in-Err-write.failed c.in-Err-write.ensures.part)
    (omega (arith, c.in-Ok-credited-2.ensures.amount))

-- a write failed, and what it reported is not credited
pub returns-in-Err-credited-2-clause-copied : goal.returns-in-Err-credited-2-clause-copied
returns-in-Err-credited-2-clause-copied g c = ends_with _
    (λ calls h. c.in-Err-write.ensures.told _ (c.in-Ok.ensures.told _ h))
    (AtCredit (take c.in-Ok.count c.read.new.buf) (Err c.in-Err-write.failed) c.in-Err-write.ensures.part)
    (omega (arith, c.in-Err-credited-2.ensures.kept))
