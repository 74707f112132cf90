use Rattle.std.proofs.Common.{◌≡◌, ◌∙◌, ◌<◌, length, length-take, false, arith}
use Rattle.relay_core.proofs.PassingLemmas.{not_at_end, writes_next, stop_after}
use Rattle.relay_core.proofs.copying.Copying.pass.Goals as goal

-- some bytes were taken, and the others are kept
pub returns-in-Ok-clause-passing : goal.returns-in-Ok-clause-passing
returns-in-Ok-clause-passing g c =
    let more : c.self.inside.at_end ≡ false = not_at_end _ _ _ (c.self.view_is ∙ c.requires.nothing) in
    rw (more, c.keep.ensures.kept, ← c.first.ensures) c.in-Ok.ensures.rest

-- nothing was taken, and all is kept
pub returns-in-Err-clause-stopped : goal.returns-in-Err-clause-stopped
returns-in-Err-clause-stopped g c =
    let more : c.self.inside.at_end ≡ false = not_at_end _ _ _ (c.self.view_is ∙ c.requires.nothing) in
    let some : 0 < length c.first.result.now = rw c.first.ensures (simp length-take (omega (arith, c.requires.some, c.requires.within))) in
    rw (more, c.keep-in-Err.ensures.kept, ← c.first.ensures)
    (stop_after (writes_next _ some) (λ stays. stays) (λ ended over. over) c.in-Err.ensures.stopped)
