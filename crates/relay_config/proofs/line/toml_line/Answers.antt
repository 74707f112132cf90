use Rattle.relay_config.proofs.Said.{toml_said}
use Rattle.relay_config.proofs.line.toml_line.Goals.{in-Ok, in-Err}
use Rattle.relay_config.proofs.line.toml_line.Goals as goal

pub returns : goal.returns
returns c = elim c.match-table_from_slice.branch [
  | in-Ok w ↦ rw w.result-is tt
  | in-Err w ↦ rw w.result-is (toml_said w.format.result c.args.line c.args.column w.message-why.result.now w.format.ensures.ok)
]
