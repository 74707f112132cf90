-- A relay, as its callers see it.
use Rattle.std.specs.Prelude.{◌≡◌, ◌⊎◌, ℕ, Bool, List, [], length}
use Rattle.std.specs.Option.{option_map_or}
use Rattle.std.specs.String.{string_bytes}
use Rattle.relay_admin.specs.declared.serve_fault.ServeFault.{ServeFault}
use Rattle.relay_main.specs.Binding.{IsBindFault}
use Rattle.relay_main.specs.Opening.{IsAdminFault}
use Rattle.relay_main.specs.declared.listening.GivenListener.{GivenListener}
use Rattle.relay_server.specs.declared.server.Server.{Server}
use Rattle.relay_settings.specs.declared.settings.Settings.{Settings}

-- why its sockets aren't opened: the rules, or the admin socket
abbrev pub IsSocketsFault : ServeFault → Type 0
IsSocketsFault fault = IsBindFault fault ⊎ IsAdminFault fault

-- the path of the admin socket that settings name; no byte where they name none
abbrev pub admin_path : Settings → List ℕ
admin_path settings = option_map_or string_bytes settings.admin []

module _ {R : Type 0} where
  -- the listeners that it was given and that nobody has taken
  abbrev pub given_in : Server R → List GivenListener
  given_in server = server.main.listeners.given.items

  -- whether a Unix socket at which nobody listens any more gives way to a listener
  abbrev pub replaces_stale_in : Server R → Bool
  replaces_stale_in server = server.main.listeners.replaces_stale

  -- how many loops' threads it has started, and how many it is still to start
  abbrev pub started_in : Server R → ℕ
  started_in server = length server.threads.loops.items

  abbrev pub unstarted_in : Server R → ℕ
  unstarted_in server = length server.loops.items

  -- it has started the same threads, and is to start the same
  abbrev pub SameLoops : Server R → Server R → Type 0
  SameLoops old new = (started_in new ≡ started_in old) × (unstarted_in new ≡ unstarted_in old)
