use Rattle.config_values.proofs.IpLemmas.{ipv6_complete, ipv6_sound, none_at}
use Rattle.config_values.specs.Ip.{ipv6_at}
use Rattle.config_values.proofs.ip.ipv6_of.Goals as goal

pub returns-in-Ok : goal.returns-in-Ok
returns-in-Ok c = ipv6_complete _ _ c.in-Ok.ensures

pub returns-in-Err : goal.returns-in-Err
returns-in-Err c = none_at (ipv6_at c.args.text.now) (λ segments e. c.in-Err.ensures (record { segments = segments }) (ipv6_sound c.args.text.now segments e))
