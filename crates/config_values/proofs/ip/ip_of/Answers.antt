use Rattle.config_values.proofs.IpLemmas.{ip_complete, ip_none}
use Rattle.config_values.proofs.ip.ip_of.Goals as goal

pub returns-in-Ok-clause-value : goal.returns-in-Ok-clause-value
returns-in-Ok-clause-value c = ip_complete c.args.text.now _ c.in-Ok.ensures

pub returns-in-Err-clause-value : goal.returns-in-Err-clause-value
returns-in-Err-clause-value c = ip_none c.args.text.now c.in-Err.ensures
