-- What the names of hosts were looked up as.
use Rattle.std.specs.Prelude.{◌≡◌, ◌||◌, ℕ, Bool, false, not, List, [], ◌∷◌, ◌++◌, Option}
use Rattle.std.specs.Prelude.{filter, find}
use Rattle.std.specs.List.{list_any}
use Rattle.std.specs.Option.{option_map_or}
use Rattle.std.specs.Str.{bytes_eq}
use Rattle.relay_admin.specs.declared.rules.addr.Addr.{Addr}
use Rattle.relay_admin.specs.rules.Addr.{address_of, same_address}
use Rattle.relay_facts.specs.declared.host_answers.Answer.{Answer}
use Rattle.relay_facts.specs.declared.host_answers.WantedName.{WantedName}

-- the answer is of this host
abbrev pub is_of : List ℕ → Answer → Bool
is_of host answer = bytes_eq answer.host.bytes host

-- what a host was looked up as, if it was
abbrev pub answer_about : List Answer → List ℕ → Option Answer
answer_about answers host = find (is_of host) answers

-- its addresses; none where it has no answer
abbrev pub addresses_at : List Answer → List ℕ → List Addr
addresses_at answers host = option_map_or (λ (answer : Answer). answer.addresses.items) (answer_about answers host) []

-- an address is one of these
abbrev pub is_among : Addr → List Addr → Bool
is_among at all = list_any (λ (one : Addr). same_address (address_of one) (address_of at)) all

-- one of these isn't among those that are known
abbrev pub has_other : (known all : List Addr) → Bool
has_other known all = list_any (λ (one : Addr). not (is_among one known)) all

-- those that were known and were found again, in their order
abbrev pub staying : (known found : List Addr) → List Addr
staying known found = filter (λ (one : Addr). is_among one found) known

-- those that were found and weren't known
abbrev pub coming : (known found : List Addr) → List Addr
coming known found = filter (λ (one : Addr). not (is_among one known)) found

-- what a host has from now on: a look-up that found nothing changes nothing
abbrev pub noted : (known found : List Addr) → List Addr
noted known [] = known
noted known (first ∷ others) = staying known (first ∷ others) ++ coming known (first ∷ others)

-- it found something: an address that wasn't known, or no more one that was
abbrev pub is_news : (known found : List Addr) → Bool
is_news known [] = false
is_news known (first ∷ others) = has_other known (first ∷ others) || has_other (first ∷ others) known

-- the answers of other hosts
abbrev pub without_host : List ℕ → List Answer → List Answer
without_host host answers = filter (λ (one : Answer). not (is_of host one)) answers

-- after a look-up of a host that found these: its answer, and those of other hosts as they were
pub record IsNoted (host : List ℕ) (found : List Addr) (old new : List Answer) : Type 0 where
  pub answer : Answer
  pub all : new ≡ without_host host old ++ answer ∷ []
  pub is_its : answer.host.bytes ≡ host
  pub addresses : answer.addresses.items ≡ noted (addresses_at old host) found

-- one of these names the host
abbrev pub is_named : List WantedName → List ℕ → Bool
is_named names host = list_any (λ (name : WantedName). bytes_eq name.host.bytes host) names

-- the answers of hosts that one of these names
abbrev pub of_names : List WantedName → List Answer → List Answer
of_names names answers = filter (λ (one : Answer). is_named names one.host.bytes) answers
