-- What a list of entries says of the map that it stands for.
use Rattle.std.proofs.Common.{sym, ap, ◌∙◌}
use Rattle.std.specs.Ordering.{nat_cmp}
use Rattle.std.specs.Cmp.{IsTotalOrder, nat_cmp_total}
use Rattle.std.proofs.lemmas.Cmp.{on_total, then_total}
use Rattle.std.proofs.lemmas.Map.Lookups.{CmpEqualImpliesEq, exact_pairs, exact_unsigned}
use Rattle.base_types.specs.declared.direction.Dir.{Dir}
use Rattle.deadline_core.specs.DueOrder.{Slot, slot_cmp, rank, dir_of, dir_of-rank}

-- the order of slots is total
pub slots_total : IsTotalOrder slot_cmp
slots_total = then_total (on_total (λ (slot : Slot). slot.0) nat_cmp_total)
    (on_total (λ (slot : Slot). rank slot.1) nat_cmp_total)

exact_dirs : CmpEqualImpliesEq (λ (one other : Dir). nat_cmp (rank one) (rank other))
exact_dirs one other same = sym (dir_of-rank one) ∙ ap dir_of (exact_unsigned (rank one) (rank other) same) ∙
    dir_of-rank other

-- the order of slots tells all slots apart
pub exact_slots : CmpEqualImpliesEq slot_cmp
exact_slots = exact_pairs nat_cmp (λ (one other : Dir). nat_cmp (rank one) (rank other)) exact_unsigned exact_dirs
