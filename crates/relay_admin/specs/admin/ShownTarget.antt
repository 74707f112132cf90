-- What is shown of a target of a rule, and the line that says it.
use Rattle.std.specs.Prelude.{◌≡◌, ◌<◌, ◌^◌, ℕ, Bool, true, List, [], ◌∷◌, ◌++◌, Some, codes, if◌then◌else◌}
use Rattle.std.specs.Fmt.{decimal}
use Rattle.relay_admin.specs.rules.Addr.{Address, tcp, tcp6, unix, address_text, address_of, is_path}
use Rattle.relay_admin.specs.rules.Grammar.{is_name}
use Rattle.relay_admin.specs.admin.Shown.{FitsPeer}
use Rattle.relay_admin.specs.admin.TargetOrder.{order_word}
use Rattle.relay_admin.specs.declared.admin.shown_target.LastFailure.{LastFailure}
use Rattle.relay_admin.specs.declared.admin.shown_target.LastFailure.TheVariants as failure
use Rattle.relay_admin.specs.declared.admin.shown_target.ShownTarget.{ShownTarget}
use Rattle.relay_admin.specs.declared.admin.shown_target.TargetState.{TargetState}
use Rattle.relay_admin.specs.declared.admin.shown_target.TargetState.TheVariants as state
use Rattle.relay_admin.specs.declared.admin.target_order.Order.{Order}

-- what is known of a target
pub record TargetFacts : Type 0 where
  pub number : ℕ
  pub rule : List ℕ
  pub place : ℕ
  pub at : Address
  pub state : TargetState
  pub since : ℕ
  pub set : Order
  pub connections : ℕ
  pub connects : ℕ
  pub failures : ℕ
  pub is_checked : Bool
  pub passed : ℕ
  pub failed : ℕ
  pub last_failure : LastFailure

-- what a value of the program shows
abbrev pub facts_of : ShownTarget → TargetFacts
facts_of shown =
    record {
      number = shown.number;
      rule = shown.rule.bytes;
      place = shown.place;
      at = address_of shown.at;
      state = shown.state;
      since = shown.since_ms;
      set = shown.set;
      connections = shown.connections;
      connects = shown.connects;
      failures = shown.failures;
      is_checked = shown.is_checked;
      passed = shown.passed;
      failed = shown.failed;
      last_failure = shown.last_failure;
    }

-- the word of a state
abbrev pub state_word : TargetState → List ℕ
state_word state.Up = codes "up"
state_word state.Drained = codes "drained"
state_word state.Down = codes "down"

-- the word for why the last connect or check failed that did
abbrev pub failure_word : LastFailure → List ℕ
failure_word failure.Never = codes "none"
failure_word failure.Refused = codes "refused"
failure_word failure.Unreachable = codes "unreachable"
failure_word failure.Timeout = codes "timeout"

-- the word for whether it is checked
abbrev pub checks_word : Bool → List ℕ
checks_word is_checked = if is_checked then codes "on" else codes "off"

-- which target, of which rule, and its address
unfoldable pub which_text : TargetFacts → List ℕ
which_text t =
    (codes "target " ++ decimal t.place) ++ ((codes " rule " ++ t.rule)
    ++ (codes " at " ++ address_text t.at))

-- its state, for how long, and what an operator has set
unfoldable pub state_text : TargetFacts → List ℕ
state_text t =
    (codes " state " ++ state_word t.state) ++ ((codes " since " ++ decimal t.since)
    ++ (codes " set " ++ order_word t.set))

-- the connections that stand, and the connects that were made and that failed
unfoldable pub load_text : TargetFacts → List ℕ
load_text t =
    (codes " connections " ++ decimal t.connections) ++ ((codes " connects " ++ decimal t.connects)
    ++ (codes " failures " ++ decimal t.failures))

-- whether it is checked, the checks that passed and that failed, and why the last failed that did
unfoldable pub checks_text : TargetFacts → List ℕ
checks_text t =
    (codes " checks " ++ checks_word t.is_checked) ++ ((codes " passed " ++ decimal t.passed)
    ++ ((codes " failed " ++ decimal t.failed) ++ (codes " last " ++ failure_word t.last_failure)))

-- the line that shows it, with its line feed
abbrev pub shown_target_text : TargetFacts → List ℕ
shown_target_text t = which_text t ++ (state_text t ++ (load_text t ++ (checks_text t ++ 10 ∷ [])))

-- where it is a path, it is one of the grammar
abbrev pub HasGoodPath : Address → Type 0
HasGoodPath (tcp a b c d port) = Unit {0}
HasGoodPath (tcp6 ip scope port) = Unit {0}
HasGoodPath (unix path) = is_path path ≡ true

-- the rule has a name of the grammar, the target such an address, and the numbers fit
pub record AreTargetFacts (t : TargetFacts) : Type 0 where
  pub rule : is_name t.rule ≡ true
  pub at : FitsPeer (Some t.at)
  pub path : HasGoodPath t.at
  pub place : t.place < 2 ^ 64
  pub since : t.since < 2 ^ 64
  pub connections : t.connections < 2 ^ 64
  pub connects : t.connects < 2 ^ 64
  pub failures : t.failures < 2 ^ 64
  pub passed : t.passed < 2 ^ 64
  pub failed : t.failed < 2 ^ 64
