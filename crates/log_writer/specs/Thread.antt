-- Whose thread a log's thread is.
use Rattle.std.specs.declared.alloc.Global.{Global}
use Rattle.std.specs.declared.sync.Arc.{Arc}
use Rattle.log_writer.specs.declared.log.Log.{Log}
use Rattle.log_writer.specs.declared.thread.LogThread.{LogThread}

-- the log that it writes, and whose end it awaits: this very one, in the same place in memory
abbrev pub log_of : LogThread → Arc (Log Global) Global
log_of thread = thread.log
