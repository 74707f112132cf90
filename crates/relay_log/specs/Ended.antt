-- How a connection's end is spelled, and where it is counted.
use Rattle.std.specs.Prelude.{ℕ, List, ◌++◌, codes, map}
use Rattle.relay_log.specs.declared.ended.TheConstants.{CAUSE_WORDS, END_LABELS}
use Rattle.relay_log.specs.declared.ended.Cause.{Cause}
use Rattle.relay_log.specs.declared.ended.Cause.TheVariants as cause
use Rattle.relay_log.specs.declared.ended.Reason.{Reason}
use Rattle.relay_log.specs.declared.ended.Reason.TheVariants as reason
use Rattle.relay_log.specs.declared.ended.Ended.{Ended}
use Rattle.relay_log.specs.declared.ended.Ended.TheVariants as ended

-- the word of a reason
abbrev pub reason_text : Reason → List ℕ
reason_text reason.Reset = codes "reset"
reason_text reason.Aborted = codes "aborted"
reason_text reason.BrokenPipe = codes "broken-pipe"
reason_text reason.Refused = codes "refused"
reason_text reason.Other = codes "other"

-- the word of a cause for which a target wasn't reached
abbrev pub cause_text : Cause → List ℕ
cause_text cause.Refused = codes "refused"
cause_text cause.Unreachable = codes "unreachable"
cause_text cause.Timeout = codes "timeout"
cause_text cause.Descriptors = codes "descriptors"
cause_text cause.Down = codes "down"

-- the words of an end, with its reason or its cause where it has one
abbrev pub ended_text : Ended → List ℕ
ended_text ended.Eof = codes "eof"
ended_text ended.Idle = codes "idle"
ended_text ended.Closed = codes "closed"
ended_text ended.Drained = codes "drained"
ended_text (ended.Read why) = codes "read " ++ reason_text why
ended_text (ended.Write why) = codes "write " ++ reason_text why
ended_text ended.Denied = codes "denied"
ended_text ended.Full = codes "full"
ended_text ended.RuleFull = codes "rule full"
ended_text ended.SourceFull = codes "source full"
ended_text ended.SourceRate = codes "source rate"
ended_text ended.NoMemory = codes "no memory"
ended_text ended.Descriptors = codes "descriptors"
ended_text ended.NoHeader = codes "no header"
ended_text ended.BadHeader = codes "bad header"
ended_text (ended.NoTarget why) = codes "no target " ++ cause_text why
ended_text (ended.Accept why) = codes "accept " ++ reason_text why
ended_text ended.TargetDown = codes "target down"
ended_text ended.TargetUp = codes "target up"

-- the place of a cause among the counts of causes
abbrev pub cause_place : Cause → ℕ
cause_place cause.Refused = 0
cause_place cause.Unreachable = 1
cause_place cause.Timeout = 2
cause_place cause.Descriptors = 3
cause_place cause.Down = 4

-- the place of an end among the counts of connections that ended; one that was set up never ends as
-- denied or full, and is no failed accept and no target
abbrev pub end_place : Ended → ℕ
end_place ended.Eof = 0
end_place ended.Idle = 1
end_place ended.Closed = 2
end_place ended.Drained = 3
end_place (ended.Read why) = 4
end_place (ended.Write why) = 5
end_place (ended.NoTarget why) = 6
end_place other = 2

-- what figures call an end
abbrev pub end_label : Ended → List ℕ
end_label ended.Eof = codes "eof"
end_label ended.Idle = codes "idle"
end_label ended.Closed = codes "closed"
end_label ended.Drained = codes "drained"
end_label (ended.Read why) = codes "read"
end_label (ended.Write why) = codes "write"
end_label (ended.NoTarget why) = codes "no_target"
end_label other = codes "closed"

-- what figures call the ends, by their places
abbrev pub end_labels : List (List ℕ)
end_labels = map (λ label. label.now) END_LABELS

-- the words of the causes, by their places
abbrev pub cause_words : List (List ℕ)
cause_words = map (λ word. word.now) CAUSE_WORDS
