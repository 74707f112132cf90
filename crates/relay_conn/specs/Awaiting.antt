-- A client that is to say by a header who it is: how its bytes are judged, and until when.
use Rattle.std.specs.Prelude.{◌≡◌, ℕ, Bool, true, false, List, Some}
use Rattle.proxy_header.specs.HeaderReading.{BeginsWith, IsBegun, IsFaulty}
use Rattle.proxy_header.specs.declared.fault.HeaderFault.{HeaderFault}
use Rattle.proxy_header.specs.declared.header.Header.{Header}
use Rattle.readiness.specs.declared.agenda.Why.{Why}
use Rattle.relay_conn.specs.Heard.{IsTime}
use Rattle.relay_conn.specs.declared.awaiting.AwaitStep.{AwaitStep}
use Rattle.relay_conn.specs.declared.awaiting.AwaitStep.TheVariants as step
use Rattle.relay_conn.specs.declared.awaited.Awaiting.{Awaiting}
use Rattle.relay_conn.specs.declared.judged.Judged.{Judged}
use Rattle.relay_conn.specs.declared.judged.SentHeader.{SentHeader}
use Rattle.relay_conn.specs.declared.judged.Judged.TheVariants as judged
use Rattle.relay_conn.specs.declared.refused.Unheard.{Unheard}
use Rattle.relay_conn.specs.declared.refused.Unheard.TheVariants.{Missing, Bad, Memory}
use Rattle.relay_facts.specs.declared.connection_facts.Acceptance.{Acceptance}
use Rattle.relay_shared.specs.declared.inbox.Counted.{Counted}

-- what a client has sent so far, and whether nothing more comes, is judged so: it says who it is exactly
-- where a whole header begins its bytes; it is waited for where they may begin one, and more may come
abbrev pub IsJudged : List ℕ → (ends : Bool) → Judged → Type 0
IsJudged sent ends (judged.Says found) = BeginsWith sent found.size found.header
IsJudged sent ends judged.Waits = IsBegun sent × (ends ≡ false)
IsJudged sent ends (judged.Fails Missing) = IsBegun sent × (ends ≡ true)
IsJudged sent ends (judged.Fails Bad) = (fault : HeaderFault) × IsFaulty sent fault
IsJudged sent ends (judged.Fails Memory) = ⊥

-- what the header that a client sent says
abbrev pub sent_header : SentHeader → Header
sent_header found = found.header

-- the client that is awaited
abbrev pub client_awaited : Awaiting → Acceptance
client_awaited awaiting = awaiting.acceptance

-- what counts it
abbrev pub counted_awaited : Awaiting → Counted
counted_awaited awaiting = awaiting.counted

-- the moment that it awaits
abbrev pub awaited_until : Awaiting → ℕ
awaited_until awaiting = awaiting.until

-- the token under which the poller tells of it
abbrev pub awaited_token : Awaiting → ℕ
awaited_token awaiting = awaiting.token

-- how it ends, where it ends by itself
abbrev pub awaited_failure : Awaiting → Unheard
awaited_failure awaiting = awaiting.failure

-- it goes on to wait only before its moment
abbrev pub AwaitsInTime : Awaiting → Why → AwaitStep → Type 0
AwaitsInTime awaiting why step.Waits = IsTime why (Some (awaited_until awaiting)) → ⊥
AwaitsInTime awaiting why other = Unit {0}
