-- What the rule says of all seats: the lock bits and counts, and who closes, drains and waits.
use Rattle.std.proofs.Common.{◌≡◌, ◌≤◌}
use Rattle.lockword.proofs.Words.{ℕ, true, ap, arith, get_or, Read, Write, Word, bit}
use Rattle.lockword_core.specs.LockState.{closers, drainers}
use Rattle.lockword_core.proofs.BalanceLemmas.{reads_as}
use Rattle.lockword_core.proofs.WordFields.{reads_fields}
use Rattle.lockword.specs.Moment.{Moment, IsRead}
use Rattle.lockword.specs.Laws.{over_seats}
use Rattle.lockword.proofs.Representation.{present, fits}
use Rattle.lockword.proofs.laws.the_word_counts_the_seats.Goals as goal

module _ {R W : Type 0} where
  -- at most one seat owes the signals of a drain, and only of a word that is draining
  one_drainer : (s : Moment R W) (fields : Word) → IsRead s fields → over_seats drainers s ≤ bit fields.drain
  one_drainer s fields read =
      let f = fits s read.rule.represents in
      let n : ℕ = get_or s.words 0 0 in
      let told = (reads_fields fields n read.is_word read.same).drain in
      let have = (reads_as (present s read.rule.represents) n f.balance).drain in
      let one = f.balance.one_drainer in
      omega arith

  -- nobody is left to be signalled in a word that is draining
  none_waits : (s : Moment R W) (fields : Word) → IsRead s fields → fields.drain ≡ true
      → (fields.rwait ≡ 0) × (fields.wwait ≡ 0)
  none_waits s fields read drained =
      let f = fits s read.rule.represents in
      let n : ℕ = get_or s.words 0 0 in
      let told = reads_fields fields n read.is_word read.same in
      let have = reads_as (present s read.rule.represents) n f.balance in
      let set_bit : bit fields.drain ≡ 1 = ap bit drained in
      let flag = told.drain in
      let is = have.drain in
      let readers = told.rwait in
      let writers = told.wwait in
      let pending_readers = have.waiters Read in
      let pending_writers = have.waiters Write in
      let no_reader = f.balance.reading.none_drained (omega arith) in
      let no_writer = f.balance.writing.none_drained (omega arith) in
      (omega arith, omega arith)

  -- nobody is left to be signalled in a word that is closed
  none_waits_closed : (s : Moment R W) (fields : Word) → IsRead s fields → fields.closed ≡ true
      → (fields.rwait ≡ 0) × (fields.wwait ≡ 0)
  none_waits_closed s fields read shut =
      let f = fits s read.rule.represents in
      let n : ℕ = get_or s.words 0 0 in
      let told = reads_fields fields n read.is_word read.same in
      let have = reads_as (present s read.rule.represents) n f.balance in
      let flag : bit fields.closed ≡ 1 = ap bit shut in
      let closed_is = told.flag in
      let closed_has = have.flag in
      let readers = told.rwait in
      let writers = told.wwait in
      let pending_readers = have.waiters Read in
      let pending_writers = have.waiters Write in
      let no_reader = f.balance.reading.none_pending (omega arith) in
      let no_writer = f.balance.writing.none_pending (omega arith) in
      (omega arith, omega arith)

  -- at most one seat is closing, and only in a word that is closed
  one_closer : (s : Moment R W) (fields : Word) → IsRead s fields → over_seats closers s ≤ bit fields.closed
  one_closer s fields read =
      let f = fits s read.rule.represents in
      let n : ℕ = get_or s.words 0 0 in
      let told = (reads_fields fields n read.is_word read.same).flag in
      let have = (reads_as (present s read.rule.represents) n f.balance).flag in
      let one = f.balance.one_closer in
      omega arith

pub returns-clause-one_drainer : goal.returns-clause-one_drainer
returns-clause-one_drainer g c s fields read = one_drainer s fields read

pub returns-clause-one_closer : goal.returns-clause-one_closer
returns-clause-one_closer g c s fields read = one_closer s fields read

pub returns-clause-no_reader_waits_closed : goal.returns-clause-no_reader_waits_closed
returns-clause-no_reader_waits_closed g c s fields read shut = (none_waits_closed s fields read shut).0

pub returns-clause-no_writer_waits_closed : goal.returns-clause-no_writer_waits_closed
returns-clause-no_writer_waits_closed g c s fields read shut = (none_waits_closed s fields read shut).1

pub returns-clause-no_reader_waits : goal.returns-clause-no_reader_waits
returns-clause-no_reader_waits g c s fields read drained = (none_waits s fields read drained).0

pub returns-clause-no_writer_waits : goal.returns-clause-no_writer_waits
returns-clause-no_writer_waits g c s fields read drained = (none_waits s fields read drained).1
