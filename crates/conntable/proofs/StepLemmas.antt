-- What the steps of a table leave.
use Rattle.std.proofs.Common.{◌≡◌, ◌∙◌, sym, ap, subst, refl, ℕ, ◌+◌, ◌-◌, ◌≤◌, ◌<◌, List, [], ◌∷◌, ◌++◌}
use Rattle.std.proofs.Common.{length, get_or, take, All, Some, None, nat_cmp, Result, Ok, Err, OnOk, is_err, true≢false, false, arith}
use Rattle.std.specs.List.{remove}
use Rattle.std.specs.Map.{lookup, remove_entry}
use Rattle.std.specs.BTreeMap.{insert_entry, is_at}
use Rattle.slab.specs.Slab.{Slab, get, Updates}
use Rattle.conntable.specs.declared.table.Entry.{Entry}
use Rattle.conntable.specs.Token.{token_of, key_of}
use Rattle.conntable.specs.ConnTable.{Table, next_token, Inserts, Removes}
use Rattle.conntable.specs.Refusals.{HasRoom}
use Rattle.conntable.specs.Slots.{entries_at, held, Holds, HasKeys, IsSound}
use Rattle.conntable.proofs.TokenLemmas.{key_of-token_of}
use Rattle.conntable.proofs.ConnTableLemmas.{IsConsistent-push, IsConsistent-remove, Removes-remove}
use Rattle.conntable.proofs.KeyLemmas.{next_is_free, HasKeys-push, HasKeys-remove}
use Rattle.conntable.proofs.SlotLemmas.{entries_at-Holds, Holds-push, Holds-remove, Holds-same, gone, kept_at}

-- what a call that wasn't refused gives
pub on_ok : {A E P : Type 0} (r : Result A E) → is_err r ≡ false → OnOk r P → P
on_ok (Ok x) h p = p
on_ok (Err e) h p = absurd (true≢false h)

module _ {T : Type 0} where
  -- a table with no entry
  pub empty : (slots : Slab (Entry T)) (index : List (ℕ × ℕ)) (free : List ℕ) (capacity next_id : ℕ) →
      slots.slots ≡ [] → index ≡ [] → free ≡ [] → 1 ≤ next_id → IsSound slots index free capacity next_id
  empty slots index free capacity next_id no_slot no_line no_key first =
      subst (λ l. IsSound slots l free capacity next_id) (sym no_line)
      (subst (λ l. IsSound slots [] l capacity next_id) (sym no_key) (
        record {
          room = omega arith;
          first = first;
          ids = λ k d within. absurd (omega (arith, within));
          rising = λ i j d before within. absurd (omega (arith, within));
          tokens = λ k d within. absurd (omega (arith, within));
          keys = λ i j d before within. absurd (omega (arith, within));
          next_key = λ k d within. absurd (omega (arith, within));
        },
        record {
          place = λ n. n;
          indexed = refl;
          kept = λ k d within. absurd (omega (arith, within));
          no_others = λ at e is. absurd (let no : None ≡ Some e = sym (ap (λ l. get_or l at None) no_slot) ∙ is in cc);
        },
        record {
          few = omega arith;
          room = omega arith;
          taken = λ k d within. absurd (omega (arith, within));
          below = λ k d within. absurd (omega (arith, within));
          apart = λ k d within. absurd (omega (arith, within));
          distinct = λ i j d before within. absurd (omega (arith, within));
        },
      ))

  -- what an insert leaves, where the table was seen as `seen`
  pub inserted : (slots grown new : Slab (Entry T)) (index after : List (ℕ × ℕ)) (free less : List ℕ)
      (capacity room next_id at : ℕ) (seen : Table T) (e : Entry T) →
      held slots index free next_id ≡ seen → HasRoom seen → e.id ≡ seen.next_id → e.token ≡ next_token seen →
      IsSound slots index free capacity next_id → grown.slots ≡ slots.slots → get grown at ≡ None →
      after ≡ insert_entry nat_cmp index e.id at → Updates grown new at (Some e) →
      less ≡ take (length free - 1) free →
      length (entries_at slots index) + length free + (1 - length free) ≤ room →
      IsSound new after less room (next_id + 1)
      × Inserts seen (held new after less (next_id + 1)) e.id e.token e.value
  inserted slots grown new index after free less capacity room next_id at seen e same fits id token was kept vacant
      after_is up less_is enough =
      let es = entries_at slots index in
      let old : Table T = held slots index free next_id in
      let has_room : HasRoom old = subst HasRoom (sym same) fits in
      let id_is : e.id ≡ next_id = id ∙ sym (ap (λ t. t.next_id) same) in
      let token_is : e.token ≡ token_of old.next_key next_id = token ∙
      sym (ap (λ t. token_of t.next_key t.next_id) same) in
      let its : key_of e.token ≡ old.next_key = ap key_of token_is ∙
      key_of-token_of old.next_key next_id has_room.2 in
      let below : All (λ f. f.id < e.id) es = λ k d within. (let l = (was.0.ids k d within).1 in rw id_is l) in
      let now : Holds new after (es ++ e ∷ []) = subst (λ l. Holds new l (es ++ e ∷ [])) (sym after_is)
      (Holds-push grown new index es e at (Holds-same slots grown index es kept was.1) below vacant up) in
      let is : entries_at new after ≡ es ++ e ∷ [] = entries_at-Holds new after (es ++ e ∷ []) now in
      let holds : Holds new after (entries_at new after) = subst (Holds new after) (sym is) now in
      let keys : HasKeys less room (entries_at new after) = subst (HasKeys less room) (sym is)
      (HasKeys-push free less capacity room es e was.2 has_room.0 its less_is enough) in (
        (
          IsConsistent-push old (held new after less (next_id + 1)) e was.0 has_room.0
              has_room.1 has_room.2 id_is token_is is refl (next_is_free less room (entries_at new after) keys),
          holds,
          keys,
        ),
        record { entries = is ∙ ap (λ t. t.entries ++ e ∷ []) same; next_id = ap (λ t. t.next_id + 1) same },
      )

  -- what a removal leaves
  pub removed : (slots new : Slab (Entry T)) (index after : List (ℕ × ℕ)) (free more : List ℕ)
      (capacity next_id id at : ℕ) (seen : Table T) (e : Entry T) →
      held slots index free next_id ≡ seen → IsSound slots index free capacity next_id →
      lookup (is_at (nat_cmp id)) index ≡ Some at → after ≡ remove_entry (is_at (nat_cmp id)) index →
      get slots at ≡ Some e → Updates slots new at None → more ≡ free ++ key_of e.token ∷ [] →
      (IsSound new after more capacity next_id × Removes seen (held new after more next_id) id e.value)
      × (length free < capacity)
  removed slots new index after free more capacity next_id id at seen e same was line after_is there up more_is =
      let es = entries_at slots index in
      let h = was.1 in
      let g = gone h.place id at es (sym (ap (lookup (is_at (nat_cmp id))) h.indexed) ∙ line) in
      let now : Holds new after (remove es g.nth) = subst (λ l. Holds new l (remove es g.nth)) (sym after_is)
      (Holds-remove slots new index es id at h g was.0.rising up) in
      let is : entries_at new after ≡ remove es g.nth = entries_at-Holds new after (remove es g.nth) now in
      let holds : Holds new after (entries_at new after) = subst (Holds new after) (sym is) now in
      let its : Some g.entry ≡ Some e = sym (kept_at slots index es h g.entry (g.nth, g.within, sym g.is)) ∙
      ap (get slots) g.its_place ∙ there in
      let one : g.entry ≡ e = cc its in
      let keys : HasKeys more capacity (entries_at new after) = subst (HasKeys more capacity) (sym is)
      (HasKeys-remove free more capacity es g.nth g.entry was.2 was.0.keys g.within g.is
      (more_is ∙ ap (λ f. free ++ key_of f.token ∷ []) (sym one))) in
      let old : Table T = held slots index free next_id in
      let left : Table T = held new after more next_id in
      let fits = was.2.room in
      let within = g.within in (
        (
          (
            IsConsistent-remove old left g.nth was.0 within is refl
                (next_is_free more capacity (entries_at new after) keys),
            holds,
            keys,
          ),
          subst (λ x. Removes seen left id x.value) one
              (Removes-remove old seen left id g.nth g.entry same within g.is g.named is refl),
        ),
        omega (arith, fits, within),
      )

  -- a table with more room holds what it held, whatever is added to the index in vain
  pub roomier : (slots new : Slab (Entry T)) (index after : List (ℕ × ℕ)) (free list : List ℕ)
      (capacity room next_id : ℕ) → new ≡ record slots { capacity = new.capacity } → after ≡ index → list ≡ free →
      capacity ≤ room → IsSound slots index free capacity next_id → IsSound new after list room next_id
  roomier slots new index after free list capacity room next_id kept same keys more was =
      subst (λ l. IsSound new l list room next_id) (sym same)
      (subst (λ f. IsSound new index f room next_id) (sym keys)
      (subst (λ s. IsSound s index free room next_id) (sym kept) (
        was.0,
        Holds-same slots (record slots { capacity = new.capacity }) index (entries_at slots index) refl was.1,
        record {
          few = was.2.few;
          room = let fits = was.2.room in omega (arith, fits, more);
          taken = was.2.taken;
          below = was.2.below;
          apart = was.2.apart;
          distinct = was.2.distinct;
        },
      )))
