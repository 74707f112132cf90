-- What a log is written to.
use Rattle.log_writer.specs.declared.log_file.LogFile.{LogFile}
use Rattle.log_writer.specs.declared.log_file.LogFile.TheVariants as file

-- it is standard error
abbrev pub IsErrors : {F R : Type 0} → LogFile F R → Type 0
IsErrors (file.File f) = ⊥
IsErrors (file.Errors rt) = Unit {0}
