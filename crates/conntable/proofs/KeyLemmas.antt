-- Keys that are free, and the next one.
use Rattle.std.proofs.Common.{◌≡◌, ◌≢◌, ◌∙◌, sym, ap, subst, ℕ, ◌+◌, ◌-◌, ◌≤◌, ◌<◌, List, [], ◌∷◌, ◌++◌, length, get_or}
use Rattle.std.proofs.Common.{take, arith, length-append}
use Rattle.std.specs.Prelude.{AllPairs}
use Rattle.std.specs.List.{remove}
use Rattle.std.proofs.lemmas.List.Elements.{All-nil, All-push, All-take, All-weaker}
use Rattle.std.proofs.lemmas.List.{get_or-take, get_or_default, length-take-le}
use Rattle.std.proofs.lemmas.List.Quantifiers.{all_pairs_push}
use Rattle.std.proofs.lemmas.List.Edits.{length-remove}
use Rattle.conntable.specs.declared.table.Entry.{Entry}
use Rattle.conntable.specs.Token.{key_of}
use Rattle.conntable.specs.ConnTable.{IsFreeKey}
use Rattle.conntable.specs.Slots.{next_key_of, HasKeys}
use Rattle.conntable.proofs.ConnTableLemmas.{All-remove, removed_has_no}

length-push : {X : Type 0} (xs : List X) (x : X) → length (xs ++ x ∷ []) ≡ length xs + 1
length-push xs x = grind (arith, length-append)

module _ {T : Type 0} where
  pub next_is_free : (free : List ℕ) (capacity : ℕ) (es : List (Entry T)) → HasKeys free capacity es →
      IsFreeKey (next_key_of free (length es)) es
  next_is_free [] capacity es h = λ k d within same. let t = h.taken k d within in absurd (omega (arith, t, same))
  next_is_free (x ∷ xs) capacity es h = h.apart (length (x ∷ xs) - 1) (length es) (omega arith)

  pub next_is_below : (free : List ℕ) (capacity : ℕ) (es : List (Entry T)) → HasKeys free capacity es →
      length es < 4096 → next_key_of free (length es) < 4096
  next_is_below [] capacity es h room = room
  next_is_below (x ∷ xs) capacity es h room =
      let b = h.below (length (x ∷ xs) - 1) (length es) (omega arith) in
      let few = h.few in omega (arith, b, few)

  -- one entry more, with the next key
  pub HasKeys-push : (free less : List ℕ) (capacity room : ℕ) (es : List (Entry T)) (e : Entry T) →
      HasKeys free capacity es → length es < 4096 → key_of e.token ≡ next_key_of free (length es) →
      less ≡ take (length free - 1) free → length es + length free + (1 - length free) ≤ room →
      HasKeys less room (es ++ e ∷ [])
  HasKeys-push [] less capacity room es e h below its is fits =
      let l = length-push es e in
      let made = length (es ++ e ∷ []) in
      subst (λ f. HasKeys f room (es ++ e ∷ [])) (sym is) (record {
        few = omega (arith, l, below);
        room = omega (arith, l, fits);
        taken = All-push (λ f. key_of f.token < made + 0) es e
            (All-weaker (λ f. key_of f.token < length es + 0) (λ f. key_of f.token < made + 0)
            (λ f t. omega (arith, l, t)) es h.taken)
            (omega (arith, l, its));
        below = All-nil (λ key. key < made + 0);
        apart = All-nil (λ key. IsFreeKey key (es ++ e ∷ []));
        distinct = λ i j d before within. absurd (omega (arith, within));
      })
  HasKeys-push (x ∷ xs) less capacity room es e h below its is fits =
      subst (λ f. HasKeys f room (es ++ e ∷ [])) (sym is) (record {
        few = omega (arith, l, m, few);
        room = omega (arith, l, m, fits);
        taken = All-push (λ f. key_of f.token < made) es e
            (All-weaker (λ f. key_of f.token < was) (λ f. key_of f.token < made) (λ f t. omega (arith, l, m, t)) es h.taken)
            (let b = h.below last (length es) inside in omega (arith, l, m, b, its));
        below = All-weaker (λ key. key < was) (λ key. key < made) (λ key t. omega (arith, l, m, t)) (take last free)
            (All-take (λ key. key < was) last free h.below);
        apart = λ k d within.
            let before : k < last = omega (arith, m, within) in
            All-push (λ f. key_of f.token ≢ get_or (take last free) k d) es e
            (All-take (λ key. IsFreeKey key es) last free h.apart k d within)
            (λ same. h.distinct k last d before inside (sym (get_or-take last free k d before) ∙ sym same ∙ its ∙
            get_or_default free last (length es) d inside));
        distinct = λ i j d before within.
            let j_before : j < last = omega (arith, m, within) in
            let i_before : i < last = omega (arith, before, j_before) in
            λ same. h.distinct i j d before (omega (arith, j_before, inside))
            (sym (get_or-take last free i d i_before) ∙ same ∙ get_or-take last free j d j_before);
      })
    where
      free : List ℕ
      free = x ∷ xs

      last : ℕ
      last = length free - 1

      inside : last < length free
      inside = omega arith

      was : ℕ
      was = length es + length free

      made : ℕ
      made = length (es ++ e ∷ []) + length (take last free)

      few : length es + length free ≤ 4096
      few = h.few

      l : length (es ++ e ∷ []) ≡ length es + 1
      l = length-push es e

      m : length (take last free) ≡ last
      m = length-take-le last free (omega arith)

  -- one entry less, whose key comes back
  pub HasKeys-remove : (free more : List ℕ) (capacity : ℕ) (es : List (Entry T)) (i : ℕ) (e : Entry T) →
      HasKeys free capacity es → AllPairs (λ f g. key_of f.token ≢ key_of g.token) es → i < length es →
      e ≡ get_or es i e → more ≡ free ++ key_of e.token ∷ [] → HasKeys more capacity (remove es i)
  HasKeys-remove free more capacity es i e h keys within its is =
      let few = h.few in
      let fits = h.room in
      let key : ℕ = key_of e.token in
      let l = length-remove es i within in
      let m = length-push free key in
      let was : ℕ = length es + length free in
      let made : ℕ = length (remove es i) + length (free ++ key ∷ []) in
      subst (λ f. HasKeys f capacity (remove es i)) (sym is) (record {
        few = omega (arith, l, m, few);
        room = omega (arith, l, m, fits);
        taken = All-weaker (λ f. key_of f.token < was) (λ f. key_of f.token < made) (λ f t. omega (arith, l, m, t))
            (remove es i) (All-remove (λ f. key_of f.token < was) es i h.taken);
        below = All-push (λ k. k < made) free key
            (All-weaker (λ k. k < was) (λ k. k < made) (λ k t. omega (arith, l, m, t)) free h.below)
            (let t = subst (λ f. key_of f.token < was) (sym its) (h.taken i e within) in omega (arith, l, m, t));
        apart = All-push (λ k. IsFreeKey k (remove es i)) free key
            (All-weaker (λ k. IsFreeKey k es) (λ k. IsFreeKey k (remove es i))
            (λ k a. All-remove (λ f. key_of f.token ≢ k) es i a) free h.apart)
            (removed_has_no (λ f. key_of f.token) es i e within its keys);
        distinct = all_pairs_push (λ a b. a ≢ b) free key h.distinct
            (λ k d inside same. h.apart k d inside i e within (ap (λ f. key_of f.token) (sym its) ∙ sym same));
      })
