use Rattle.std.proofs.Common.{◌≡◌, ◌≤◌, ◌+◌, ◌-◌, ap, ◌∙◌, refl, sym, subst, length, take, Some, arith}
use Rattle.std.specs.Vec.{vec_len, vec_capacity}
use Rattle.slab.specs.Slab.{Updates}
use Rattle.conntable.specs.Slots.{held, entries_at}
use Rattle.conntable.proofs.SlotLemmas.{length-Holds}
use Rattle.conntable.proofs.StepLemmas.{inserted, roomier, on_ok}
use Rattle.conntable.proofs.table.ConnTable.insert.Goals.{then-is_err-via-then-is_err}
use Rattle.conntable.proofs.table.ConnTable.insert.Goals.{then-is_err-via-else-is_err+then-is_err-2}
use Rattle.conntable.proofs.table.ConnTable.insert.Goals as goal

pub invariant_of-self : goal.invariant_of-self
invariant_of-self g c = roomier c.self.inside.slots c.reserve.new.self c.self.inside.index.entries
    c.self.inside.index.entries c.self.inside.free.items c.self.inside.free.items (vec_capacity c.self.inside.free)
    (vec_capacity c.self.inside.free) c.self.inside.next_id c.reserve.ensures.rest_kept refl refl (omega arith)
    c.self.invariant

pub invariant_of-self-then-is_err-2 : goal.invariant_of-self-then-is_err-2
invariant_of-self-then-is_err-2 g c = roomier c.self.inside.slots c.reserve.new.self c.self.inside.index.entries
    c.self.inside.index.entries c.self.inside.free.items c.reserve-else-is_err.new.self.items
    (vec_capacity c.self.inside.free) (vec_capacity c.reserve-else-is_err.new.self) c.self.inside.next_id
    c.reserve.ensures.rest_kept refl c.reserve-else-is_err.ensures.items c.reserve-else-is_err.ensures.capacity
    c.self.invariant

pub returns-then-is_err-clause-kept : goal.returns-then-is_err-clause-kept
returns-then-is_err-clause-kept g c = elim c.then-is_err.branch [
  | then-is_err-via-then-is_err w ↦ (w.self-is
      ∙ ap (λ s. held s c.self.inside.index.entries c.self.inside.free.items c.self.inside.next_id)
      c.reserve.ensures.rest_kept
      ∙ c.self.view_is)
  | then-is_err-via-else-is_err+then-is_err-2 w ↦ (w.self-is
      ∙ ap (λ f. held c.reserve.new.self c.self.inside.index.entries f c.self.inside.next_id)
      w.reserve-else-is_err.ensures.items
      ∙ ap (λ s. held s c.self.inside.index.entries c.self.inside.free.items c.self.inside.next_id)
      c.reserve.ensures.rest_kept
      ∙ c.self.view_is)
]

pub invariant_of-self-in-Err-insert : goal.invariant_of-self-in-Err-insert
invariant_of-self-in-Err-insert g c = roomier c.self.inside.slots c.reserve.new.self c.self.inside.index.entries
    c.insert.new.self.entries c.self.inside.free.items c.reserve-else-is_err.new.self.items
    (vec_capacity c.self.inside.free) (vec_capacity c.reserve-else-is_err.new.self) c.self.inside.next_id
    c.reserve.ensures.rest_kept c.in-Err-insert.ensures.err c.reserve-else-is_err.ensures.items
    c.reserve-else-is_err.ensures.capacity c.self.invariant

pub invariant_of-self-2 : goal.invariant_of-self-2
invariant_of-self-2 g c =
    let free = c.self.inside.free in
    let list = c.reserve-else-is_err.new.self in
    let long : vec_len list ≡ length free.items = list.ok.0 ∙ ap length c.reserve-else-is_err.ensures.items in
    let less : c.pop.new.self.items ≡ take (length free.items - 1) free.items =
    c.pop.ensures.rest ∙ ap (λ n. take (n - 1) list.items) long
    ∙ ap (take (length free.items - 1)) c.reserve-else-is_err.ensures.items in
    let made = length-Holds c.self.inside.slots c.self.inside.index.entries
    (entries_at c.self.inside.slots c.self.inside.index.entries) c.self.invariant.1 in
    let room : length (entries_at c.self.inside.slots c.self.inside.index.entries) + length free.items
    + (1 - length free.items) ≤ vec_capacity c.pop.new.self =
    (let fits = on_ok c.reserve-else-is_err.result (sym c.is_err-else-is_err.ensures.value ∙ c.if-is_err-2.false)
    c.reserve-else-is_err.ensures.ok in let was = free.ok.0 in omega (
      arith,
      fits,
      made,
      was,
      c.pop.ensures.capacity,
      c.saturating_sub.ensures,
      c.len.ensures.len,
      c.len-2.ensures,
    )) in
    (inserted c.self.inside.slots c.reserve.new.self c.insert_reserved.new.self
    c.self.inside.index.entries c.insert.new.self.entries c.self.inside.free.items c.pop.new.self.items
    (vec_capacity c.self.inside.free) (vec_capacity c.pop.new.self) c.self.inside.next_id c.vacant_key.result
    c.args.self.now (record { id = c.in-Ok.given.0; token = c.in-Ok.given.1; value = c.args.value })
    c.self.view_is c.in-Ok.ensures.room c.in-Ok.ensures.id c.in-Ok.ensures.token c.self.invariant
    (ap (λ s. s.slots) c.reserve.ensures.rest_kept) c.vacant_key.ensures.vacant c.in-Ok-insert.ensures.entries
    (subst (λ k. Updates c.reserve.new.self c.insert_reserved.new.self k
    (Some (record { id = c.in-Ok.given.0; token = c.in-Ok.given.1; value = c.args.value })))
    (c.insert_reserved.ensures.key ∙ sym c.vacant_key.ensures.value) c.insert_reserved.ensures.updates)
    less room).0

pub returns-clause-added : goal.returns-clause-added
returns-clause-added g c =
    let free = c.self.inside.free in
    let list = c.reserve-else-is_err.new.self in
    let long : vec_len list ≡ length free.items = list.ok.0 ∙ ap length c.reserve-else-is_err.ensures.items in
    let less : c.pop.new.self.items ≡ take (length free.items - 1) free.items =
    c.pop.ensures.rest ∙ ap (λ n. take (n - 1) list.items) long
    ∙ ap (take (length free.items - 1)) c.reserve-else-is_err.ensures.items in
    let made = length-Holds c.self.inside.slots c.self.inside.index.entries
    (entries_at c.self.inside.slots c.self.inside.index.entries) c.self.invariant.1 in
    let room : length (entries_at c.self.inside.slots c.self.inside.index.entries) + length free.items
    + (1 - length free.items) ≤ vec_capacity c.pop.new.self =
    (let fits = on_ok c.reserve-else-is_err.result (sym c.is_err-else-is_err.ensures.value ∙ c.if-is_err-2.false)
    c.reserve-else-is_err.ensures.ok in let was = free.ok.0 in omega (
      arith,
      fits,
      made,
      was,
      c.pop.ensures.capacity,
      c.saturating_sub.ensures,
      c.len.ensures.len,
      c.len-2.ensures,
    )) in
    (inserted c.self.inside.slots c.reserve.new.self c.insert_reserved.new.self
    c.self.inside.index.entries c.insert.new.self.entries c.self.inside.free.items c.pop.new.self.items
    (vec_capacity c.self.inside.free) (vec_capacity c.pop.new.self) c.self.inside.next_id c.vacant_key.result
    c.args.self.now (record { id = c.in-Ok.given.0; token = c.in-Ok.given.1; value = c.args.value })
    c.self.view_is c.in-Ok.ensures.room c.in-Ok.ensures.id c.in-Ok.ensures.token c.self.invariant
    (ap (λ s. s.slots) c.reserve.ensures.rest_kept) c.vacant_key.ensures.vacant c.in-Ok-insert.ensures.entries
    (subst (λ k. Updates c.reserve.new.self c.insert_reserved.new.self k
    (Some (record { id = c.in-Ok.given.0; token = c.in-Ok.given.1; value = c.args.value })))
    (c.insert_reserved.ensures.key ∙ sym c.vacant_key.ensures.value) c.insert_reserved.ensures.updates)
    less room).1
