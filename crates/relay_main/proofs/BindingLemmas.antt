-- What stands through a bind, and through its undoing.
use Rattle.std.proofs.Common.{◌≡◌, ◌≢◌, ◌∙◌, sym, ap, refl, subst, ℕ, true, List, [], ◌∷◌, Option, Some, None, arith, rules}
use Rattle.std.specs.Prelude.{All}
use Rattle.std.proofs.lemmas.List.Elements.{All-append}
use Rattle.std.specs.Arc.{arc_value}
use Rattle.std.specs.declared.alloc.Global.{Global}
use Rattle.std.specs.declared.sync.Arc.{Arc}
use Rattle.readiness.specs.LoopToken.{place_in, token_of}
use Rattle.readiness.specs.Tasks.{task_in, SameTasks, IsPut, next_place}
use Rattle.readiness.specs.declared.tasks.Tasks.{Tasks}
use Rattle.readiness.specs.declared.loop_token.Place.{Place}
use Rattle.relay_admin.specs.declared.rules.addr.Addr.{Addr}
use Rattle.relay_admin.specs.rules.Addr.{address_of, same_address}
use Rattle.relay_facts.specs.declared.served_rule.ServedRule.{ServedRule}
use Rattle.relay_main.specs.Accounts.{is_account_of}
use Rattle.relay_main.specs.Binding.{StillStand, HasCome, IsListenedFor, account_in, listening_in}
use Rattle.relay_main.specs.declared.main_task.MainTask.{MainTask}
use Rattle.relay_main.specs.declared.wanted_listeners.WantedListener.{WantedListener}

-- both tokens of a place are of it
same_place : (place serial : ℕ) → place_in (token_of 1 place serial) ≡ place_in (token_of 0 place serial)
same_place place serial = omega arith

module _ {T A : Type 0} where
  -- what stands still after one step and after the next
  pub stand_on : (old mid new : Tasks T A) → StillStand old mid → StillStand mid new → StillStand old new
  stand_on old mid new before after token task is = after token task (before token task is)

  -- what is named as before stands
  pub stand_same : (old new : Tasks T A) → SameTasks old new → StillStand old new
  stand_same old new same token task is = same token ∙ is

  -- what stood stands where one was put at a place that named nothing
  pub stand_beside : (old new : Tasks T A) (task : T)
      → ((token : ℕ) → place_in token ≡ place_in (next_place old).first → task_in old token ≡ None)
      → IsPut old new (next_place old) task → StillStand old new
  stand_beside old new task unused put token other is =
      put.others token
      (λ e. absurd (let none = unused token (ap place_in e) in cc))
      (λ e. absurd (let none = unused token (ap place_in e ∙ same_place _ _) in cc))
      ∙ is

  -- the same from before a place was looked for until its task goes on
  pub stand_put : (old mid placed new : Tasks T A) (place given : Place) (task : T) → SameTasks old mid → place ≡ next_place mid
      → ((token : ℕ) → place_in token ≡ place_in place.first → task_in mid token ≡ None)
      → given ≡ next_place mid → IsPut mid placed given task → SameTasks placed new → StillStand old new
  stand_put old mid placed new place given task kept is unused given_is put again =
      let none : (token : ℕ) → place_in token ≡ place_in (next_place mid).first → task_in mid token ≡ None = rw is at unused in
      let here : IsPut mid placed (next_place mid) task = rw given_is at put in
      stand_on old placed new (stand_on old mid placed (stand_same old mid kept) (stand_beside mid placed task none here))
      (stand_same placed new again)

  -- and where that place has been emptied again
  pub stand_undone : (old mid new : Tasks T A) (token : ℕ)
      → ((other : ℕ) → place_in other ≡ place_in token → task_in old other ≡ None)
      → StillStand old mid
      → ((other : ℕ) → place_in other ≢ place_in token → task_in new other ≡ task_in mid other)
      → StillStand old new
  stand_undone old mid new token fresh still others other task is =
      others other (λ e. absurd (let none = fresh other e in cc)) ∙ still other task is

module _ {R A : Type 0} (mid new : Tasks (MainTask R) A) (token : ℕ) (held : Arc ServedRule Global) where
  -- a task that accepts by an account still does
  accepts_on : (found : Option (MainTask R)) → task_in mid token ≡ found → account_in found ≡ Some held
      → StillStand mid new → account_in (task_in new token) ≡ Some held
  accepts_on None is e still = absurd (cc)
  accepts_on (Some task) is e still = ap account_in (still token task is) ∙ e

  -- and where it did
  listens_on : (listen : Addr) (found : Option (MainTask R)) → task_in mid token ≡ found → listening_in found ≡ Some listen
      → StillStand mid new → listening_in (task_in new token) ≡ Some listen
  listens_on listen None is e still = absurd (cc)
  listens_on listen (Some task) is e still = ap listening_in (still token task is) ∙ e

  -- a listener that came is listened for from then on
  pub listened_on : (wanted : WantedListener) (account : Arc ServedRule Global)
      → account_in (task_in mid token) ≡ Some held → arc_value held ≡ arc_value account
      → is_account_of wanted.rule.listen account ≡ true → listening_in (task_in mid token) ≡ Some wanted.listen
      → StillStand mid new → IsListenedFor wanted new
  listened_on wanted account accepts same own listens still = (
    token,
    held,
    accepts_on (task_in mid token) refl accepts still,
    ap (λ (served : ServedRule). same_address (address_of served.listen) (address_of wanted.rule.listen)) same ∙ own,
    listens_on wanted.listen (task_in mid token) refl listens still,
  )

-- a task that was put at a place that named nothing has come there
pub has_come : {R A : Type 0} (old mid placed new : Tasks (MainTask R) A) (first : ℕ) (found : Option (MainTask R))
    (held : Arc ServedRule Global) (account : ServedRule) (listen : Addr) → SameTasks old mid
    → ((token : ℕ) → place_in token ≡ place_in first → task_in mid token ≡ None)
    → task_in placed first ≡ found → account_in found ≡ Some held → listening_in found ≡ Some listen
    → SameTasks placed new → arc_value held ≡ account → HasCome account listen old new first
has_come old mid placed new first found held account listen kept unused put accepts listens again same = record {
  accepts = (held, ap account_in (again first ∙ put) ∙ accepts, same);
  listens = ap listening_in (again first ∙ put) ∙ listens;
  fresh = λ other at. sym (kept other) ∙ unused other at;
}

-- what holds of the first and of the rest holds of all
pub each_of : {X : Type 0} (P : X → Type 0) (xs rest : List X) (x : X) → xs ≡ x ∷ rest → P x → All P rest → All P xs
each_of P xs rest x is first others = subst (λ all. All P all) (sym is) (All-append P (x ∷ []) rest (search rules) others)
