-- What is said of a text, by what is said of its table.
use Rattle.std.proofs.Common.{◌≢◌, sym, subst, ℕ, ◌≤◌, List, length, Result, Ok, Err}
use Rattle.std.specs.Prelude.{IfErr}
use Rattle.toml.specs.Data.{Members}
use Rattle.relay_config.specs.Config.{IsToml, SaysFault, config_in, no_toml, of_table}
use Rattle.relay_config.specs.Entries.{config_entry}
use Rattle.relay_config.specs.Fault.{Answers, IsNoToml}
use Rattle.relay_config.specs.declared.config.Config.{Config}
use Rattle.relay_config.specs.declared.config.TheConstants.{MAX_BYTES}
use Rattle.relay_config.specs.declared.fault.Fault.{Fault}
use Rattle.relay_config.specs.declared.fault.Fault.TheVariants.{Memory}

pub of_answer : (text : List ℕ) (table : Members) (r : Result Config Fault) → IsToml text table
    → Answers config_entry r (config_in table) → IfErr r (λ fault. fault ≢ Memory → SaysFault text fault)
of_answer text table (Ok config) is answer = tt
of_answer text table (Err fault) is answer = λ other. of_table is (answer other)

pub of_no_toml : (text : List ℕ) (fault : Fault) → length text ≤ MAX_BYTES → IsNoToml text fault
    → fault ≢ Memory → SaysFault text fault
of_no_toml text fault short none other =
    let n = none other in
    subst (SaysFault text) (sym n.2) (no_toml {line = n.0} {column = n.1} short n.3)
