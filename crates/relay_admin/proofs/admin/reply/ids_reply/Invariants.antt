use Rattle.std.proofs.Common.{◌≡◌, ◌++◌, ◌∷◌, take, codes}
use Rattle.std.specs.List.{flat_map}
use Rattle.std.specs.Fmt.{decimal}
use Rattle.relay_admin.specs.rules.Grammar.{space}
use Rattle.relay_admin.proofs.admin.reply.ids_reply.Given as goal

abbrev pub invariant-loop-id : goal.invariant-loop-id
invariant-loop-id g l = l.text.items ≡ codes "ids" ++ flat_map (λ id. space ∷ decimal id) (take l.id-index l.ids)
