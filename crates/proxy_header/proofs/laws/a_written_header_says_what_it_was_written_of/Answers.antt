use Rattle.proxy_header.proofs.WrittenBlocks.{version2_says}
use Rattle.proxy_header.proofs.WrittenLines.{version1_says}
use Rattle.proxy_header.proofs.laws.a_written_header_says_what_it_was_written_of.Goals as goal

pub returns : goal.returns
returns c = record { version2 = version2_says; version1 = version1_says }
