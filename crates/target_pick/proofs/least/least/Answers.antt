use Rattle.std.proofs.Common.{◌+◌, ◌<◌, ◌≡◌, List, ℕ, Option, length, subst, sym, arith}
use Rattle.std.specs.Prelude.{map, slice_index}
use Rattle.target_pick.specs.Pick.{loads_of}
use Rattle.target_pick.specs.Seen.{share_of}
use Rattle.target_pick.proofs.Loads.{Kept, keeps_before, keeps_without_share, takes_new}
use Rattle.target_pick.proofs.least.least.Goals.{then-share_at-gt0+then-goes_before, else-share_at-gt0, else-share_at-gt0-via-then-share_at-gt0+else-goes_before, else-share_at-gt0-via-else-share_at-gt0}
use Rattle.target_pick.proofs.least.least.Goals as goal

pub loop-at-preserved : goal.loop-at-preserved
loop-at-preserved c =
    let shares : List ℕ = map (share_of c.args.backups) c.args.targets.now in
    let loads : List ℕ = loads_of c.args.targets.now in
    let len : ℕ = length c.args.targets.now in
    let at : ℕ = c.loop-at.at in
    let share : c.share_at.result ≡ slice_index shares at = c.share_at.ensures.share in
    let P : Option ℕ → Type 0 = λ (best : Option ℕ). Kept shares loads len (at + 1) best in
    elim c.if-share_at-gt0.branch [
      | then-share_at-gt0+then-goes_before w ↦
          let has : 0 < slice_index shares at = omega arith in
          subst P (sym w.best-is) (takes_new shares loads len at c.loop-at.best c.loop-at.invariant c.loop-at-test.true has
          (w.goes_before.ensures.before w.if-goes_before.true))
      | else-share_at-gt0 w ↦ subst P (sym w.best-is) (elim w.else-share_at-gt0.branch [
        | else-share_at-gt0-via-then-share_at-gt0+else-goes_before v ↦
            keeps_before shares loads len at c.loop-at.best c.loop-at.invariant (v.goes_before.ensures.behind v.if-goes_before.false)
        | else-share_at-gt0-via-else-share_at-gt0 v ↦
            let none : slice_index shares at ≡ 0 = omega arith in
            keeps_without_share shares loads len at c.loop-at.best c.loop-at.invariant none
      ])
    ]
