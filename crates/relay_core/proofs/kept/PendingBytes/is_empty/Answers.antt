use Rattle.std.proofs.Common.{◌≡◌, ◌≤◌, length, drop, sym, ◌∙◌, ap, arith}
use Rattle.std.proofs.lemmas.Bool.{eqb-true, eq-eqb}
use Rattle.std.proofs.lemmas.List.{drop_all, length-drop}
use Rattle.relay_core.proofs.kept.PendingBytes.is_empty.Goals as goal

-- all bytes are written, and none is left
pub returns : goal.returns
returns g c =
    let bytes = c.self.inside.bytes in
    let kept : drop c.self.inside.written bytes.items ≡ c.args.self.now.bytes = ap (λ k. k.bytes) c.self.view_is in (
      λ e. let all : c.self.inside.written ≡ c.len.result = eqb-true _ _ e in
          let past : length bytes.items ≤ c.self.inside.written = omega (arith, all, c.len.ensures, bytes.ok.0) in
          sym kept ∙ drop_all _ _ past,
      λ e. let none = simp length-drop at (ap length (kept ∙ e)) in
          eq-eqb _ _ (omega (arith, none, c.len.ensures, bytes.ok.0, c.self.invariant)),
    )
