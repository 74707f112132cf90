-- What a client of a server of lines does, one thing after the other.
use Rattle.std.specs.Prelude.{◌≡◌, ◌≢◌, ◌⊎◌, ◌++◌, ℕ, List, [], Bool, true, false}
use Rattle.std.specs.Prelude.{Option, Some, None, Result, Ok, Err}
use Rattle.std.specs.declared.io.Error.{Error}
use Rattle.std.specs.declared.time.Duration.{Duration}
use Rattle.net.specs.Lines.{HasLooked, begun, line_in}
use Rattle.net.specs.Task.{idle_of, within_of}
use Rattle.net.specs.declared.line_handler.AfterLine.{AfterLine}
use Rattle.net.specs.declared.line_handler.AfterLine.TheVariants as after
use Rattle.net.specs.declared.line_task.LineTask.{LineTask}
use Rattle.net.specs.declared.line_task.Stage.{Stage}
use Rattle.net.specs.declared.line_task.Stage.TheVariants as stage
use Rattle.net.specs.declared.gentle.GentleClose.{GentleClose}
use Rattle.net.specs.declared.lines.Heard.{Heard}
use Rattle.net.specs.declared.lines.Heard.TheVariants as heard
use Rattle.net.specs.declared.lines.Lines.{Lines}
use Rattle.net.specs.declared.task.Cause.{Cause}
use Rattle.net.specs.declared.task.Next.{Next}
use Rattle.net.specs.declared.task.Next.TheVariants as next
use Rattle.net.specs.declared.task.Waits.{Waits}
use Rattle.net.specs.declared.task.Waits.TheVariants as wait

-- it hears no more, and its close hasn't begun
abbrev pub leaving : Duration → Stage
leaving idle = stage.Leaves (record { within = idle; begun = false })

-- what a client comes to after an answer that this follows
abbrev pub stage_after : AfterLine → Duration → Stage
stage_after after.Listen idle = stage.Listens
stage_after after.Leave idle = leaving idle
stage_after (after.Shutdown within) idle = stage.Ends within

-- how a client goes on that sends: where all is sent at once; else it waits for a write, or is over
abbrev pub SendsOn : Cause → Duration → Option Next → List ℕ → Type 0
SendsOn cause idle None left = left ≡ []
SendsOn cause idle (Some said) left =
    (said ≡ next.Over) ⊎ (said ≡ next.Write (within_of cause idle)) × (left ≢ [])

-- what a handler does with a line
abbrev pub Answers : Type 0 → Type 1
Answers H = H → List ℕ → List ℕ → AfterLine → H → Type 0

module _ {H : Type 0} {LIMIT : ℕ} where
  -- a client of whom nothing was heard yet, begun of a first one, whose idle time it has
  pub record IsBegun (begins : H → H → Type 0) (first made : LineTask H LIMIT) : Type 0 where
    pub handler : begins first.handler made.handler
    pub idle : made.idle ≡ first.idle
    pub none : made.out ≡ []
    pub listens : made.stage ≡ stage.Listens
    pub unread : begun made.lines ≡ record { held = []; ahead = [] }

  -- the same client, but for its answer and its stage
  pub record Keeps (old new : LineTask H LIMIT) : Type 0 where
    pub handler : new.handler ≡ old.handler
    pub idle : new.idle ≡ old.idle
    pub alloc : new.alloc ≡ old.alloc
    pub lines : new.lines ≡ old.lines

  -- the same client, who hears no more
  pub record IsLeft (old new : LineTask H LIMIT) : Type 0 where
    pub keeps : Keeps old new
    pub left : new.out ≡ old.out
    pub stage : new.stage ≡ leaving old.idle

  -- a front of what was left of its answer was sent
  pub record IsSent (cause : Cause) (old : LineTask H LIMIT) (said : Option Next) (new : LineTask H LIMIT)
      : Type 0 where
    pub part : List ℕ
    pub cut : old.out ≡ part ++ new.out
    pub keeps : Keeps old new
    pub stage : new.stage ≡ old.stage
    pub next : SendsOn cause old.idle said new.out

  -- a client who goes on with its close
  pub record IsLeaving (close : GentleClose) (old new : LineTask H LIMIT) : Type 0 where
    pub keeps : Keeps old new
    pub left : new.out ≡ old.out
    pub stage : new.stage ≡ stage.Leaves (record { within = close.within; begun = true })

  -- the client, who has read so far
  abbrev pub with_lines : LineTask H LIMIT → Lines LIMIT → LineTask H LIMIT
  with_lines task lines = record {
    handler = task.handler;
    idle = task.idle;
    alloc = task.alloc;
    lines = lines;
    out = task.out;
    stage = task.stage;
  }

  -- the line that is told was answered so, by its handler alone; a client whose line was too long leaves
  abbrev pub SaidBy : Answers H → Bool → H → Lines LIMIT → List ℕ → AfterLine → H → Type 0
  SaidBy answers false old lines out following new = answers old (line_in lines) out following new
  SaidBy answers true old lines out following new = following ≡ after.Leave

  -- the answer is left to send, and what follows it is what the handler says
  abbrev pub AnswersSo : Answers H → Bool → LineTask H LIMIT → LineTask H LIMIT → Type 0
  AnswersSo answers too_long old new = (following : AfterLine)
      × SaidBy answers too_long old.handler old.lines new.out following new.handler
      × (new.stage ≡ stage_after following old.idle)

  -- the same, where the handler doesn't fail; where it does, the client is over
  abbrev pub GivesAnswer : Answers H → Bool → LineTask H LIMIT → Option Next → LineTask H LIMIT → Type 0
  GivesAnswer answers too_long old None new = AnswersSo answers too_long old new
  GivesAnswer answers too_long old (Some said) new =
      (said ≡ next.Over) × (new.out ≡ []) × (new.stage ≡ old.stage)

  pub record IsAnswered (answers : Answers H) (too_long : Bool) (old : LineTask H LIMIT) (said : Option Next)
      (new : LineTask H LIMIT) : Type 0 where
    pub idle : new.idle ≡ old.idle
    pub alloc : new.alloc ≡ old.alloc
    pub lines : new.lines ≡ old.lines
    pub gives : GivesAnswer answers too_long old said new

  -- a client without a whole line waits for more, and leaves where it doesn't wait
  abbrev pub WaitsSo : Waits → LineTask H LIMIT → Option Next → LineTask H LIMIT → Type 0
  WaitsSo wait.NoLonger old said new = (said ≡ None) × IsLeft old new
  WaitsSo waits old said new = (said ≡ Some (next.Read waits)) × (new ≡ old)

  -- what a client does who heard this
  abbrev pub HearsSo : Answers H → Cause → Option (Result Heard Error) → LineTask H LIMIT → Option Next
      → LineTask H LIMIT → Type 0
  HearsSo answers cause (Some (Ok heard.Line)) old said new = IsAnswered answers false old said new
  HearsSo answers cause (Some (Ok heard.TooLong)) old said new = IsAnswered answers true old said new
  HearsSo answers cause (Some (Ok heard.End)) old said new = (said ≡ Some next.Over) × (new ≡ old)
  HearsSo answers cause (Some (Err error)) old said new = (said ≡ Some next.Over) × (new ≡ old)
  HearsSo answers cause None old said new = WaitsSo (idle_of cause old.idle) old said new

  -- the client looked for its next line, and did with it what is to be done
  pub record IsHeard (answers : Answers H) (cause : Cause) (old : LineTask H LIMIT) (said : Option Next)
      (new : LineTask H LIMIT) : Type 0 where
    pub heard : Option (Result Heard Error)
    pub lines : Lines LIMIT
    pub looked : HasLooked heard old.lines lines None None
    pub does : HearsSo answers cause heard (with_lines old lines) said new

  -- what is done where no answer is left to send
  abbrev pub GoesOn : Answers H → Cause → Stage → LineTask H LIMIT → Option Next → LineTask H LIMIT → Type 0
  GoesOn answers cause stage.Listens old said new = IsHeard answers cause old said new
  GoesOn answers cause (stage.Ends within) old said new = (said ≡ None) × IsLeft old new
  GoesOn answers cause (stage.Leaves close) old said new = (said ≢ None) × IsLeaving close old new

  -- one thing is done: as long as something is left of an answer, that is sent
  pub record IsRound (answers : Answers H) (cause : Cause) (old : LineTask H LIMIT) (said : Option Next)
      (new : LineTask H LIMIT) : Type 0 where
    pub sends : old.out ≢ [] → IsSent cause old said new
    pub goes_on : old.out ≡ [] → GoesOn answers cause old.stage old said new

  -- one thing after the other is done
  pub data Rounds (answers : Answers H) (cause : Cause) : LineTask H LIMIT → LineTask H LIMIT → Type 0 where
    none : {t : LineTask H LIMIT} → Rounds answers cause t t
    more : {t u v : LineTask H LIMIT} →
        Rounds answers cause t u → IsRound answers cause u None v → Rounds answers cause t v

  -- a step does one thing after the other, until one says how the client goes on, or others have their turn
  pub record Steps (answers : Answers H) (cause : Cause) (old : LineTask H LIMIT) (said : Next)
      (new : LineTask H LIMIT) : Type 0 where
    pub last : LineTask H LIMIT
    pub rounds : Rounds answers cause old last
    pub ends : IsRound answers cause last (Some said) new ⊎ (said ≡ next.Again) × (new ≡ last)
