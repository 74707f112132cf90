use Rattle.std.proofs.Common.{List, ℕ, subst}
use Rattle.std.specs.Net.Grammar.{IsIpv4Text}
use Rattle.proxy_header.proofs.Ends.{not_read, parts_are, words_sound}
use Rattle.proxy_header.proofs.line.ipv4.Goals as goal

pub returns-in_default : goal.returns-in_default
returns-in_default c = λ ends h. not_read c.args.text.now _ _ ends.source_port ends.destination_port c.in_default.ensures h

pub returns-in_default-parse_ascii : goal.returns-in_default-parse_ascii
returns-in_default-parse_ascii c = λ ends h.
    let parts = parts_are c.args.text.now _ _ _ ends.source_port ends.destination_port c.in-Some.ensures h in
    c.in_default-parse_ascii.ensures ends.source (subst (λ (t : List ℕ). IsIpv4Text t ends.source) parts.0 h.is_source)

pub returns-in_default-parse_ascii-2 : goal.returns-in_default-parse_ascii-2
returns-in_default-parse_ascii-2 c = λ ends h.
    let parts = parts_are c.args.text.now _ _ _ ends.source_port ends.destination_port c.in-Some.ensures h in
    c.in_default-parse_ascii-2.ensures ends.destination
    (subst (λ (t : List ℕ). IsIpv4Text t ends.destination) parts.1 h.is_destination)

pub returns : goal.returns
returns c =
    let read = words_sound c.args.text.now _ c.in-Some.ensures in
    record {
      source = c.in-Some.words.source.now;
      destination = c.in-Some.words.destination.now;
      spelled = read.0;
      is_source = c.in-Ok.ensures;
      is_destination = c.in-Ok-parse_ascii.ensures;
      source_is_a_word = read.1;
      destination_is_a_word = read.2;
      ports = (read.3, read.4);
    }
