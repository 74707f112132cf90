use Rattle.config_values.proofs.IpLemmas.{ipv4_complete, ipv4_sound, none_at}
use Rattle.config_values.specs.Ip.{ipv4_at}
use Rattle.config_values.proofs.ip.ipv4_of.Goals as goal

pub returns-in-Ok : goal.returns-in-Ok
returns-in-Ok c = ipv4_complete _ _ c.in-Ok.ensures

pub returns-in-Err : goal.returns-in-Err
returns-in-Err c = none_at (ipv4_at c.args.text.now) (λ octets e. c.in-Err.ensures (record { octets = octets }) (ipv4_sound c.args.text.now octets e))
