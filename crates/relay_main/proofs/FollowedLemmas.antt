-- Tasks that follow the accounts of their rules.
use Rattle.std.proofs.Common.{◌≡◌, ◌∙◌, ◌<◌, ◌+◌, ◌++◌, ◌∷◌, [], List, length, get_or, map, sym, ap, ℕ, Option, Some, None, take}
use Rattle.std.specs.List.{cons_option, filter_map, slice_index_or}
use Rattle.std.specs.Prelude.{option_map}
use Rattle.std.specs.Arc.{arc_value}
use Rattle.std.specs.Option.{option_and_then}
use Rattle.std.proofs.lemmas.List.{append-nil, map-append, take_more}
use Rattle.std.proofs.lemmas.List.Elements.{filter_map-append}
use Rattle.std.specs.declared.alloc.Global.{Global}
use Rattle.std.specs.declared.sync.Arc.{Arc}
use Rattle.readiness.specs.Lends.{with_task}
use Rattle.readiness.specs.Tasks.{task_in}
use Rattle.readiness.specs.declared.tasks.Tasks.{Tasks}
use Rattle.relay_facts.specs.declared.served_rule.ServedRule.{ServedRule}
use Rattle.relay_main.specs.Accounts.{account_at}
use Rattle.relay_main.specs.Followed.{follow_task, followed_by, following, follows, token_for}
use Rattle.relay_main.specs.declared.followed.Followed.{Followed}
use Rattle.relay_main.specs.declared.main_task.MainTask.{MainTask}
use Rattle.relay_main.specs.declared.rule_listeners.Listening.{Listening}
use Rattle.relay_main.specs.declared.wanted_listeners.WantedListener.{WantedListener}

module _ {R A : Type 0} where
  -- the task that a token names follows
  pub follows_task : (tasks : Tasks (MainTask R) A) (token : ℕ) (account : Arc ServedRule Global) (old new : MainTask R)
      → task_in tasks token ≡ Some old → new ≡ following account old
      → with_task tasks token new ≡ follow_task token account (task_in tasks token) tasks
  follows_task tasks token account old new is follows =
      ap (with_task tasks token) follows
      ∙ ap (λ (found : Option (MainTask R)). follow_task token account found tasks) (sym is)

  -- where it names none all stay
  pub follows_none : (tasks : Tasks (MainTask R) A) (token : ℕ) (account : Arc ServedRule Global)
      → task_in tasks token ≡ None → tasks ≡ follow_task token account (task_in tasks token) tasks
  follows_none tasks token account none =
      ap (λ (found : Option (MainTask R)). follow_task token account found tasks) (sym none)

module _ (standing : List Listening) (accounts : List (Arc ServedRule Global)) where
  -- a listener that doesn't stand follows no account
  pub no_token : (one : WantedListener) → token_for one.listen standing ≡ None → follows standing accounts one ≡ None
  no_token one none =
      ap (option_and_then (λ (token : ℕ). option_map (λ (account : Arc ServedRule Global). (token, arc_value account))
      (account_at one.rule.listen accounts))) none

  -- nor does one of whose rule there is none
  pub no_account : (one : WantedListener) (token : ℕ) → token_for one.listen standing ≡ Some token
      → account_at one.rule.listen accounts ≡ None → follows standing accounts one ≡ None
  no_account one token stands none =
      ap (option_and_then (λ (token : ℕ). option_map (λ (account : Arc ServedRule Global). (token, arc_value account))
      (account_at one.rule.listen accounts))) stands
      ∙ ap (option_map (λ (account : Arc ServedRule Global). (token, arc_value account))) none

  -- any other follows the account of its rule
  pub by_account : (one : WantedListener) (token : ℕ) (account : Arc ServedRule Global)
      → token_for one.listen standing ≡ Some token → account_at one.rule.listen accounts ≡ Some account
      → follows standing accounts one ≡ Some (token, arc_value account)
  by_account one token account stands is =
      ap (option_and_then (λ (token : ℕ). option_map (λ (account : Arc ServedRule Global). (token, arc_value account))
      (account_at one.rule.listen accounts))) stands
      ∙ ap (option_map (λ (account : Arc ServedRule Global). (token, arc_value account))) is

module _ (standing : List Listening) (accounts : List (Arc ServedRule Global)) (keep : List WantedListener) (at : ℕ)
    (one : WantedListener) (within : at < length keep) (is : one ≡ slice_index_or keep at one) where
  -- what one more comes to
  one_more : (found : Option (ℕ × ServedRule)) → follows standing accounts one ≡ found
      → filter_map (follows standing accounts) (take (at + 1) keep)
      ≡ filter_map (follows standing accounts) (take at keep) ++ cons_option found []
  one_more found so =
      ap (filter_map (follows standing accounts)) (take_more keep at one within)
      ∙ filter_map-append (follows standing accounts) (take at keep) (get_or keep at one ∷ [])
      ∙ ap (λ (it : Option (ℕ × ServedRule)). filter_map (follows standing accounts) (take at keep) ++ cons_option it [])
      (ap (follows standing accounts) (sym is) ∙ so)

  -- one that follows no account is passed over
  pub passed_over : follows standing accounts one ≡ None
      → filter_map (follows standing accounts) (take (at + 1) keep) ≡ filter_map (follows standing accounts) (take at keep)
  passed_over none = one_more None none ∙ append-nil (filter_map (follows standing accounts) (take at keep))

  -- one that follows an account comes behind the others
  pub comes_behind : (all more : List Followed) (last : Followed) (told : ℕ × ServedRule) → more ≡ all ++ last ∷ []
      → map followed_by all ≡ filter_map (follows standing accounts) (take at keep) → followed_by last ≡ told
      → follows standing accounts one ≡ Some told
      → map followed_by more ≡ filter_map (follows standing accounts) (take (at + 1) keep)
  comes_behind all more last told behind known same so =
      ap (map followed_by) behind ∙ map-append followed_by all (last ∷ [])
      ∙ ap (λ (them : List (ℕ × ServedRule)). them ++ followed_by last ∷ []) known
      ∙ ap (λ (it : ℕ × ServedRule). filter_map (follows standing accounts) (take at keep) ++ it ∷ []) same
      ∙ sym (one_more (Some told) so)
