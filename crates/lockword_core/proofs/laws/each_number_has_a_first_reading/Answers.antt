use Rattle.std.proofs.Common.{◌≡◌, ◌+◌, ◌/◌, ◌%◌}
use Rattle.std.specs.Prelude.{◌==◌}
use Rattle.lockword_core.proofs.Words.{ℕ, arith, not, Read, Write, Word, CLOSED, DRAIN, bit}
use Rattle.lockword_core.specs.declared.word.TheConstants.{READ_LOCK, REFERENCE}
use Rattle.lockword_core.specs.declared.layout_one.TheConstants as one
use Rattle.lockword_core.specs.Word.{lock_in}
use Rattle.lockword_core.proofs.WordFields.{bit_of, flag_of}
use Rattle.lockword_core.proofs.laws.each_number_has_a_first_reading.Goals as goal

-- the fields that the number has in the first layout
abbrev fields_of : ℕ → Word
fields_of n =
    record {
      closed = n % READ_LOCK == CLOSED;
      rlock = not (lock_in Read n == 0);
      wlock = not (lock_in Write n == 0);
      refs = n / REFERENCE % (one.MAX_REFERENCES + 1);
      rwait = n / one.READ_WAITER % (one.MAX_WAITERS + 1);
      wwait = n / one.WRITE_WAITER % (one.MAX_WAITERS + 1);
      drain = n / DRAIN == 1;
    }

pub returns : goal.returns
returns c n small =
    let a : bit (n % READ_LOCK == CLOSED) ≡ n % READ_LOCK = flag_of (n % READ_LOCK) (omega arith) in
    let b : bit (not (lock_in Read n == 0)) ≡ lock_in Read n = bit_of (lock_in Read n) (omega arith) in
    let w : bit (not (lock_in Write n == 0)) ≡ lock_in Write n = bit_of (lock_in Write n) (omega arith) in
    let t : bit (n / DRAIN == 1) ≡ n / DRAIN = flag_of (n / DRAIN) (omega arith) in
    (fields_of n, record { fit = omega arith; sum = omega arith })
