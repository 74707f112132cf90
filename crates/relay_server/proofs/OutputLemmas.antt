-- Two lines that are written one after the other.
use Rattle.std.proofs.Common.{ℕ, List, Option, Result, Ok, Err, OnOk}
use Rattle.std.specs.Io.KnownBytes.{Appends}
use Rattle.stream_base.proofs.KnownBytesLemmas.{appends_then_appends}
use Rattle.relay_facts.specs.declared.totals.Totals.{Totals}
use Rattle.relay_server.specs.Output.{WritesBothLines, listening_line, totals_line}
use Rattle.relay_server.specs.Threads.{AreSumsOf}

pub both_lines : {T E : Type 0} (loops : ℕ) (old mid new : Option (List ℕ)) (totals : Totals) (said : Result T E)
    → AreSumsOf totals loops → ((rules : ℕ) × Appends old mid (listening_line rules))
    → OnOk said (Appends mid new (totals_line totals.up.bytes totals.down.bytes))
    → OnOk said (WritesBothLines loops old new)
both_lines loops old mid new totals (Ok t) sums first second = (
  first.0,
  totals,
  sums,
  appends_then_appends old mid new (listening_line first.0)
      (totals_line totals.up.bytes totals.down.bytes) first.1 second,
)
both_lines loops old mid new totals (Err e) sums first second = tt
