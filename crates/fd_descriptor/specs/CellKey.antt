-- The key of a cell. Of what its lock guards nothing is known, so the key is what tells one cell
-- from another.
use Rattle.std.specs.Prelude.{ℕ}
use Rattle.fd_descriptor.specs.declared.poll_cell.PollCell.{PollCell}

-- the key that a cell has for its alarms
abbrev pub key_of_cell : PollCell → ℕ
key_of_cell c = c.key
