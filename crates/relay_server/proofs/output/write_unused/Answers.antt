use Rattle.std.proofs.Common.{◌≡◌, ◌∙◌, ap, ℕ, List, [], ◌∷◌, ◌++◌}
use Rattle.std.specs.Prelude.{codes}
use Rattle.relay_admin.specs.rules.Addr.{address_of, address_text}
use Rattle.relay_server.proofs.LineLemmas.{line_is, same_said}
use Rattle.relay_server.proofs.output.write_unused.Goals as goal

pub returns : goal.returns
returns g c =
    let text = address_text (address_of c.args.given.now.addr) in
    let named : c.as_str.result.now ≡ text = c.as_str.ensures.value ∙ c.text-text.ensures in
    let second : c.push_str-2.new.self.bytes ≡ c.push_str.new.self.bytes ++ text =
    c.push_str-2.ensures.bytes ∙ ap (λ (t : List ℕ). c.push_str.new.self.bytes ++ t) named in
    record {
      said = same_said _ _ _ _ _ (line_is (codes "unused socket ") text (10 ∷ []) _ _ _ _ c.new-line.ensures
          c.push_str.ensures.bytes second c.push_str-3.ensures.bytes) c.write_line.ensures.said;
    }
