use Rattle.config_values.proofs.IpLemmas.{ipv4_complete, ipv4_sound, ipv6_complete, ipv6_sound}
use Rattle.config_values.proofs.laws.ip_addresses_are_read_by_the_grammar.Goals as goal

pub returns : goal.returns
returns c = record {
  dotted = λ text octets. (ipv4_sound text octets, ipv4_complete text octets);
  colon_hex = λ text segments. (ipv6_sound text segments, ipv6_complete text segments);
}
