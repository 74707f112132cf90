-- What the deadlines of calls are, of which it is known what each list of events says.
use Rattle.std.proofs.Common.{◌≡◌, ◌∙◌, Bool, true, false, List, [], ◌∷◌, None, refl, sym}
use Rattle.base_types.specs.declared.direction.Dir.{Dir}
use Rattle.base_types.specs.declared.direction.Dir.TheVariants.{Read, Write}
use Rattle.deadline_core.specs.CallHistory.{CallEvent, Begun, Told, HasHistory, limit_of}
use Rattle.deadline_core.specs.declared.call_deadlines.CallDeadlines.{CallDeadlines}
use Rattle.deadline_core.specs.declared.deadline.Deadline.{Deadline}
use Rattle.relay_conn.specs.Deadlines.{limit_in}

-- a call of this direction is under way, or not, before these events
marked : Bool → Dir → List CallEvent → List CallEvent
marked true of events = Begun of None ∷ events
marked false of events = events

-- events by which calls of both directions are under way or not, and have these deadlines
history : (reads writes : Bool) → (read write : Deadline) → List CallEvent
history reads writes read write =
    marked reads Read (marked writes Write (Told Read read ∷ Told Write write ∷ []))

-- what is kept is what they say
has_history : (reads writes : Bool) (read write : Deadline)
    → HasHistory (record {
      read = record { deadline = read; is_under_way = reads };
      write = record { deadline = write; is_under_way = writes };
    }) (history reads writes read write)
unfolding history marked
has_history true true read write = record {
  read = record { deadline = refl; is_under_way = refl };
  write = record { deadline = refl; is_under_way = refl };
}
has_history true false read write = record {
  read = record { deadline = refl; is_under_way = refl };
  write = record { deadline = refl; is_under_way = refl };
}
has_history false true read write = record {
  read = record { deadline = refl; is_under_way = refl };
  write = record { deadline = refl; is_under_way = refl };
}
has_history false false read write = record {
  read = record { deadline = refl; is_under_way = refl };
  write = record { deadline = refl; is_under_way = refl };
}

-- what every list of events says of a direction is what is kept of it
pub said : (deadlines : CallDeadlines) (of : Dir) (limit : Deadline)
    → ((events : List CallEvent) → HasHistory deadlines events → limit ≡ limit_of of events)
    → limit ≡ limit_in deadlines of
said deadlines Read limit told =
    let has = has_history deadlines.read.is_under_way deadlines.write.is_under_way
    deadlines.read.deadline deadlines.write.deadline in
    told _ has ∙ sym has.read.deadline
said deadlines Write limit told =
    let has = has_history deadlines.read.is_under_way deadlines.write.is_under_way
    deadlines.read.deadline deadlines.write.deadline in
    told _ has ∙ sym has.write.deadline
