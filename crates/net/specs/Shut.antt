-- What the close of an entry leaves.
use Rattle.fd_descriptor.specs.FdHandle.{marks_of}
use Rattle.fd_descriptor.specs.Marks.{Marks}
use Rattle.net.specs.declared.entry.Closer.{Closer}
use Rattle.net.specs.declared.entry.Closer.TheVariants as closer

-- what the handle has seen by which an entry closes its descriptor
abbrev pub closer_marks : Closer → Marks
closer_marks (closer.Conn handle) = marks_of handle
closer_marks (closer.Listener handle path) = marks_of handle
