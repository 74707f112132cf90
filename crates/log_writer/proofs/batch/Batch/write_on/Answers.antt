use Rattle.std.proofs.Common.{◌≡◌, subst, ℕ, ◌+◌, ◌-◌, List, take, drop, length, Option}
use Rattle.std.specs.Io.KnownBytes.{Appends}
use Rattle.stream_base.proofs.KnownBytesLemmas.{appends_then_keeps}
use Rattle.log_writer.specs.Batch.{WritesFront}
use Rattle.log_writer.proofs.BatchLemmas.{front_of_rest}
use Rattle.log_writer.proofs.batch.Batch.write_on.Goals as goal

-- a front was written, and the sink took no more
pub returns-in_err-wrote-clause-front : goal.returns-in_err-wrote-clause-front
returns-in_err-wrote-clause-front g c =
    let taken : List ℕ = c.self.inside.taken.items in
    let written : ℕ = c.self.inside.written in
    let count : ℕ = c.write_front-count.result.0 in
    let held : Option (List ℕ) = g.K.Sink.contents c.args.sink.now in
    let held' : Option (List ℕ) = g.K.Sink.contents c.write_front-count.new.sink in
    let slice_is : c.as_slice.result.now ≡ taken = c.as_slice.ensures.value in
    let P : List ℕ → Type 0 = λ text. Appends held held' (take count (take (length text - written) (drop written text))) in
    let Q : List ℕ → Type 0 = λ rest. WritesFront rest (drop (written + count) taken) held held' in
    subst Q c.self.view_is (front_of_rest taken written count held held' (subst P slice_is c.write_front-count.ensures.bytes))

-- all of it was written, and a flush keeps what the sink holds
pub returns-clause-front : goal.returns-clause-front
returns-clause-front g c =
    let taken : List ℕ = c.self.inside.taken.items in
    let written : ℕ = c.self.inside.written in
    let count : ℕ = c.write_front-count.result.0 in
    let held : Option (List ℕ) = g.K.Sink.contents c.args.sink.now in
    let held' : Option (List ℕ) = g.K.Sink.contents c.write_front-count.new.sink in
    let flushed : Option (List ℕ) = g.K.Sink.contents c.try_flush.new.self in
    let slice_is : c.as_slice.result.now ≡ taken = c.as_slice.ensures.value in
    let P : List ℕ → Type 0 = λ text. Appends held flushed (take count (take (length text - written) (drop written text))) in
    let Q : List ℕ → Type 0 = λ rest. WritesFront rest (drop (written + count) taken) held flushed in
    let kept = appends_then_keeps held held' flushed _ c.write_front-count.ensures.bytes c.try_flush.ensures.kept in
    subst Q c.self.view_is (front_of_rest taken written count held flushed (subst P slice_is kept))
