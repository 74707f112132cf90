-- What the grammars and the transcripts have to be.
use Rattle.std.specs.Prelude.{◌≡◌, ◌↔◌, ℕ, List, [], ◌∷◌, ◌++◌, Some}
use Rattle.stream_base.specs.Lines.{Lacks, line_feed}
use Rattle.relay_admin.specs.declared.admin.command.Command.{Command}
use Rattle.relay_admin.specs.declared.admin.end.AdminEnd.{AdminEnd}
use Rattle.relay_admin.specs.declared.rules.file.RulesFault.{RulesFault}
use Rattle.relay_admin.specs.rules.Addr.{Address, IsAddress, address_text}
use Rattle.relay_admin.specs.rules.Grammar.{Entry, SpellsRule}
use Rattle.relay_admin.specs.rules.Fault.{SaysRules, SaysFault}
use Rattle.relay_admin.specs.rules.Reading.{address_at}
use Rattle.relay_admin.specs.admin.Command.{SpellsCommand}
use Rattle.relay_admin.specs.admin.Reply.{Exchange, questions_of}
use Rattle.relay_admin.specs.admin.Shown.{Particulars, AreParticulars, shown_text}
use Rattle.relay_admin.specs.admin.ShownTarget.{AreTargetFacts, TargetFacts, shown_target_text}
use Rattle.relay_admin.specs.admin.Transcript.{IsTranscriptOf, ended}

-- addresses of one text are one address, and one address has one text
abbrev pub OneTextAnAddress : Type 0
OneTextAnAddress = (one other : Address) → IsAddress one → IsAddress other
    → (address_text one ≡ address_text other) ↔ (one ≡ other)

-- an address is read where its text stands alone, and nowhere else
abbrev pub ReadsItsText : Type 0
ReadsItsText = (text : List ℕ) (address : Address)
    → (address_at text ≡ Some address) ↔ (text ≡ address_text address) × IsAddress address

-- a line spells one rule at most
abbrev pub OneRuleALine : Type 0
OneRuleALine = (line : List ℕ) (one other : Entry) → SpellsRule line one → SpellsRule line other
    → one ≡ other

-- a text that says rules says these alone
abbrev pub OneListOfRules : Type 0
OneListOfRules = (text : List ℕ) (one other : List Entry) → SaysRules text one
    → SaysRules text other → one ≡ other

-- a text that has a fault has this alone
abbrev pub OneFault : Type 0
OneFault = (text : List ℕ) (one other : RulesFault) → SaysFault text one → SaysFault text other
    → one ≡ other

-- no text says rules and has a fault
abbrev pub NoRulesWithFault : Type 0
NoRulesWithFault = (text : List ℕ) (entries : List Entry) (fault : RulesFault)
    → SaysRules text entries → SaysFault text fault → ⊥

-- a line spells one command at most
abbrev pub OneCommandALine : Type 0
OneCommandALine = (line : List ℕ) (one other : Command) → SpellsCommand line one
    → SpellsCommand line other → one ≡ other

-- whatever the desk answers, a text of commands asks the same questions and ends in the same way
abbrev pub OneDialogueAText : Type 0
OneDialogueAText =
    (text : List ℕ) (exchanges exchanges' : List Exchange) (replies replies' : List ℕ)
    (end end' : AdminEnd)
    → IsTranscriptOf text exchanges replies (ended end)
    → IsTranscriptOf text exchanges' replies' (ended end')
    → (questions_of exchanges ≡ questions_of exchanges') × (end ≡ end')

-- what is shown is one line, whatever path a peer has
abbrev pub OneLineAShow : Type 0
OneLineAShow = (p : Particulars) → AreParticulars p
    → (line : List ℕ) × Lacks line_feed line × (shown_text p ≡ line ++ line_feed ∷ [])

-- what is shown of a target is one line
abbrev pub OneLineATarget : Type 0
OneLineATarget = (t : TargetFacts) → AreTargetFacts t
    → (line : List ℕ) × Lacks line_feed line × (shown_target_text t ≡ line ++ line_feed ∷ [])
