-- The targets beside the one that is dialled.
use Rattle.std.specs.Prelude.{◌≡◌, ◌++◌, ◌∷◌, [], ℕ, zero, suc, List, Option, Some, None, IsSomeAnd}
use Rattle.std.specs.Option.{option_and_then}
use Rattle.relay_conn.specs.declared.others.Dials.{Dials}
use Rattle.relay_conn.specs.declared.others.Others.{Others}
use Rattle.relay_facts.specs.declared.target_list.Picked.{Picked}
use Rattle.target_pick.specs.TurnTime.{moves_on_at}

-- those beside a target that is dialled now, for a client that has until a moment for all; none
-- where it is the last
abbrev pub others_by : ℕ → Picked → ℕ → ℕ → Option ℕ → Option Others
others_by zero picked token now until = None
others_by (suc count) picked token now until = Some (record {
  token = token;
  tried = picked.tried;
  moves_on_at = moves_on_at now until (suc count);
})

abbrev pub others_of : Picked → ℕ → ℕ → Option ℕ → Option Others
others_of picked token now until = others_by picked.others picked token now until

-- the moment at which the next one is tried
abbrev pub moves_on_in : Option Others → Option ℕ
moves_on_in others = option_and_then (λ (others : Others). others.moves_on_at) others

-- the tokens of those that seek
abbrev pub seekers_in : {R : Type 0} → Dials R → List ℕ
seekers_in dials = dials.seekers.items

-- the connection with these targets left is noted as one that seeks
abbrev pub IsNoted : {R : Type 0} → Option Others → Dials R → Dials R → Type 0
IsNoted others old new =
    IsSomeAnd others (λ (others : Others). seekers_in new ≡ seekers_in old ++ others.token ∷ [])
