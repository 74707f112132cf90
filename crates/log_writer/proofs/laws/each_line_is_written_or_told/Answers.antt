use Rattle.log_writer.proofs.RunLemmas.{each_line_is_written_or_told}
use Rattle.log_writer.proofs.laws.each_line_is_written_or_told.Goals as goal

pub returns : goal.returns
returns c = each_line_is_written_or_told
