use Rattle.std.proofs.Common.{refl}
use Rattle.relay_facts.proofs.SourceLemmas.{of_file}
use Rattle.relay_facts.proofs.config.Config.read.Goals as goal

pub returns-clause-served : goal.returns-clause-served
returns-clause-served g c =
    of_file c.config_of.result c.args.asked.source c.in_ok-settings.field-0
    (record { asked = c.args.asked; file = c.in_ok-settings.field-0.settings }) c.as_slice.result.now c.in_ok-settings.ensures.said
    c.as_slice.ensures.value refl c.config_of.ensures.start c.config_of.ensures.served
    c.config_of.ensures.further
