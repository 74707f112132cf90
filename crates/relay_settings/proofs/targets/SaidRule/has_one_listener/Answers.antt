use Rattle.std.proofs.Common.{◌≡◌, ◌∷◌, [], ◌≤◌, ◌<◌, Some, List, length, slice_get, refl, subst, arith}
use Rattle.relay_admin.specs.declared.rules.addr.Addr.{Addr}
use Rattle.relay_settings.proofs.targets.SaidRule.has_one_listener.Goals as goal

-- of one address alone, which is the first
only : (all : List Addr) (own : Addr) → slice_get all 0 ≡ Some own → 1 ≤ length all → length all < 2 → all ≡ own ∷ []
only [] own first some few = absurd (omega (arith, some))
only (x ∷ []) own first some few = cc
only (x ∷ y ∷ others) own first some few = absurd (omega (arith, few))

pub returns-in-len1 : goal.returns-in-len1
returns-in-len1 c = (
  λ it. only c.args.self.now.listens.items c.args.self.now.rule.listen c.args.self.now.own
      (subst (λ xs. 1 ≤ length {A = Addr} xs) c.as_slice.ensures.value c.in-len1.len_at_least)
      (subst (λ xs. length {A = Addr} xs < 2) c.as_slice.ensures.value c.in-len1.len_below),
  λ it. refl,
)
