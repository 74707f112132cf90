use Rattle.std.proofs.Common.{◌≡◌, ◌<◌, ◌≤◌, ◌++◌, length, length-take, take, drop, sym, arith, rules}
use Rattle.std.proofs.lemmas.List.{take-append-le}
use Rattle.relay_core.specs.Passing.{NoCall, Reads, Ends, AtRead, ToWait, AtItsEnd}
use Rattle.relay_core.proofs.PassingLemmas.{no_call, one_call, last_call}
use Rattle.relay_core.proofs.passing.read_once.Goals as goal

-- not yet
pub returns-in-None-clause-stopped : goal.returns-in-None-clause-stopped
returns-in-None-clause-stopped g c =
    ToWait c.in-None.ensures.not_yet (λ amount. no_call amount c.in-None.ensures.silent)

-- some bytes, which stand at the front of the buffer
pub returns-in-Some-Ok-clause-bytes : goal.returns-in-Some-Ok-clause-bytes
returns-in-Some-Ok-clause-bytes g c =
    let count = c.in-Some-Ok.count in
    let part = c.poll_read.new.buf in
    let whole = part ++ drop c.args.most c.args.buf.now in
    let within : count ≤ length part = rw c.in-Some-Ok.field-0-is at c.in-Some-Ok.ensures.within in
    let some : 0 < count = rw c.in-Some-Ok.field-0-is at c.in-Some-Ok.ensures.some in
    let front : take count part ≡ take count whole = sym (take-append-le _ part _ within) in
    let positive : 0 < length (take count part) = simp length-take (omega (arith, within, some)) in
    λ amount. one_call (Reads NoCall (take count whole) (rw front at positive))
    (λ calls h. rw (c.in-Some-Ok.field-0-is, front) at (c.in-Some-Ok.ensures.told calls h)) (omega arith)

-- the reader's end
pub returns-in-Some-Err-EndOfFile-clause-end : goal.returns-in-Some-Err-EndOfFile-clause-end
returns-in-Some-Err-EndOfFile-clause-end g c = λ amount. one_call (Ends NoCall)
    (λ calls h. rw (c.in-Some-Err-EndOfFile.field-0-is, c.in-Some-Err-EndOfFile.field-0-0-is)
    at (c.in-Some-Err-EndOfFile.ensures.told calls h)) (omega arith)

-- a read failed
pub returns-in-Some-Err : goal.returns-in-Some-Err
returns-in-Some-Err g c = record {
  within = tt;
  some = tt;
  bytes = tt;
  end = tt;
  stopped = AtItsEnd _ (λ amount. last_call (AtRead _ (search rules))
      (λ calls h. rw c.in-Some-Err.field-0-is at (c.in-Some-Err.ensures.told calls h)) (omega arith));
}
