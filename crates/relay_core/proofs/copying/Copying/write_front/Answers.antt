use Rattle.std.proofs.Common.{◌≡◌, ◌∙◌, ◌<◌, length, sym, ap}
use Rattle.relay_core.specs.Passing.{Bytes, rest_of, unwritten}
use Rattle.relay_core.proofs.PassingLemmas.{left_of, writes_next, stop_after}
use Rattle.relay_core.proofs.copying.Copying.write_front.Goals as goal

-- nothing more of what is kept was taken
pub returns-in-Err-clause-stopped : goal.returns-in-Err-clause-stopped
returns-in-Err-clause-stopped g c =
    let kept : 0 < length (unwritten (rest_of c.self.inside.at_end c.self.inside.kept.bytes)) =
    rw c.self.view_is c.requires.some in
    let bytes : c.args.self.now ≡ Bytes c.as_slice.result.now =
    sym c.self.view_is ∙ left_of _ _ kept ∙ ap Bytes (sym c.as_slice.ensures) in
    let some : 0 < length c.as_slice.result.now = rw bytes at c.requires.some in
    rw bytes (stop_after (writes_next _ some) (λ stays. stays) (λ ended over. over) c.in-Err.ensures.stopped)
