-- The listeners of rules, as the main thread knows them.
use Rattle.std.specs.Prelude.{◌==◌, ℕ, List, Option, filter, find, is_some, not}
use Rattle.std.specs.Option.{option_map}
use Rattle.readiness.specs.Tasks.{task_in}
use Rattle.readiness.specs.declared.tasks.Tasks.{Tasks}
use Rattle.relay_main.specs.WantedListeners.{is_wanted_at}
use Rattle.relay_main.specs.declared.wanted_listeners.WantedListener.{WantedListener}
use Rattle.relay_main.specs.declared.rule_listeners.Listening.{Listening}

-- the token of the task whose listener has this id
abbrev pub token_with : ℕ → List Listening → Option ℕ
token_with id all = option_map (λ one. one.token) (find (λ one. one.id == id) all)

-- those whose tasks stand
abbrev pub standing_in : {T A : Type 0} → Tasks T A → List Listening → List Listening
standing_in tasks all = filter (λ one. is_some (task_in tasks one.token)) all

-- those at whose addresses none is wanted
abbrev pub to_close : List WantedListener → List Listening → List Listening
to_close wanted all = filter (λ one. not (is_wanted_at one.listen wanted)) all
