-- Entries that come and go.
use Rattle.std.proofs.Common.{◌≡◌, ◌≢◌, ◌∙◌, sym, ap, subst, ℕ, suc, ◌+◌, ◌≤◌, ◌<◌, List, [], ◌∷◌, ◌++◌, length, get_or}
use Rattle.std.proofs.Common.{take, drop, arith, length-append, length-drop, length-take, drop-cons}
use Rattle.std.specs.Prelude.{All, AllPairs}
use Rattle.std.specs.List.{remove}
use Rattle.std.proofs.lemmas.List.Elements.{All-push, All-append, All-take, All-drop, All-weaker}
use Rattle.std.proofs.lemmas.List.{get_or-take, get_or-drop, get_or_default, take-append-drop}
use Rattle.std.proofs.lemmas.List.Quantifiers.{all_pairs_push, all_pairs_remove}
use Rattle.std.proofs.lemmas.List.Edits.{length-remove}
use Rattle.conntable.specs.declared.table.Entry.{Entry}
use Rattle.conntable.specs.Token.{token_of, key_of}
use Rattle.conntable.specs.ConnTable.{Table, HasGivenId, IsFreeKey, IsConsistent, Removes}
use Rattle.conntable.proofs.TokenLemmas.{key_of-token_of}

module _ {T : Type 0} where
  pub All-remove : (P : Entry T → Type 0) (es : List (Entry T)) (i : ℕ) → All P es → All P (remove es i)
  All-remove P es i h = All-append P (take i es) (drop (suc i) es) (All-take P i es h) (All-drop P (suc i) es h)

  -- without the entry at a place, no entry has its number, where no two have one number
  pub removed_has_no : (number : Entry T → ℕ) (es : List (Entry T)) (i : ℕ) (e : Entry T) → i < length es →
      e ≡ get_or es i e → AllPairs (λ f h. number f ≢ number h) es → All (λ f. number f ≢ number e) (remove es i)
  removed_has_no number es i e within is apart = All-append (λ f. number f ≢ number e) (take i es) (drop (suc i) es)
      front back
    where
      front : All (λ f. number f ≢ number e) (take i es)
      front = λ k d h same. let below : k < i = (let l = length-take i es in omega (arith, l)) in
          apart k i d below within (ap number (sym (get_or-take i es k d below)) ∙ same ∙
          ap number (is ∙ get_or_default es i e d within))

      back : All (λ f. number f ≢ number e) (drop (suc i) es)
      back = λ k d h same. let above : i < suc i + k = omega arith in
          let inside : suc i + k < length es = (let l = length-drop (suc i) es in omega (arith, l)) in
          apart i (suc i + k) d above inside (ap number (sym (is ∙ get_or_default es i e d within)) ∙ sym same ∙
          ap number (get_or-drop (suc i) es k d))

  -- no two entries whose ids rise have one id
  pub ids_differ : (es : List (Entry T)) → AllPairs (λ e f. e.id < f.id) es → AllPairs (λ e f. e.id ≢ f.id) es
  ids_differ es rising = λ i j d below within same. let rises = rising i j d below within in absurd (omega arith)

  -- a consistent table with one entry more
  pub IsConsistent-push : (old new : Table T) (e : Entry T) → IsConsistent old → length old.entries < 4096 →
      old.next_id ≤ 4503599627370494 → old.next_key < 4096 → e.id ≡ old.next_id →
      e.token ≡ token_of old.next_key old.next_id → new.entries ≡ old.entries ++ e ∷ [] →
      new.next_id ≡ old.next_id + 1 → IsFreeKey new.next_key new.entries → IsConsistent new
  IsConsistent-push old new e was room last small id token now next free =
      let key : key_of e.token ≡ old.next_key = ap key_of token ∙ key_of-token_of old.next_key old.next_id small in
      let given : HasGivenId (old.next_id + 1) e = given_now in
      let next_id : old.next_id + 1 ≡ new.next_id = sym next in
      let pushed = old.entries ++ e ∷ [] in
      record {
        room = let l = length-push old.entries e in rw now (omega (arith, l));
        first = omega arith;
        ids = rw now (rw next (All-push (HasGivenId (old.next_id + 1)) old.entries e
            (All-weaker (HasGivenId old.next_id) (HasGivenId (old.next_id + 1))
            (λ f h. (h.0, omega arith, h.2)) old.entries was.ids) given));
        rising = rw now (all_pairs_push (λ f h. f.id < h.id) old.entries e was.rising
            (λ k d h. let below = (was.ids k d h).1 in omega arith));
        tokens = rw now (All-push (λ f. f.token ≡ token_of (key_of f.token) f.id) old.entries e was.tokens
            (token ∙ ap (λ k. token_of k old.next_id) (sym key) ∙ ap (token_of (key_of e.token)) (sym id)));
        keys = rw now (all_pairs_push (λ f h. key_of f.token ≢ key_of h.token) old.entries e was.keys
            (λ k d h same. was.next_key k d h (same ∙ key)));
        next_key = free;
      }
    where
      given_now : HasGivenId (old.next_id + 1) e
      given_now = (omega (arith, was.first), omega arith, omega arith)

      length-push : (xs : List (Entry T)) (x : Entry T) → length (xs ++ x ∷ []) ≡ length xs + 1
      length-push xs x = grind (arith, length-append)

  -- a consistent table with one entry less
  pub IsConsistent-remove : (old new : Table T) (i : ℕ) → IsConsistent old → i < length old.entries →
      new.entries ≡ remove old.entries i → new.next_id ≡ old.next_id → IsFreeKey new.next_key new.entries →
      IsConsistent new
  IsConsistent-remove old new i was within now next free = record {
    room = rw now (let l = length-remove old.entries i within in omega (arith, l, was.room));
    first = rw next was.first;
    ids = rw now (rw next (All-remove (HasGivenId old.next_id) old.entries i was.ids));
    rising = rw now (all_pairs_remove (λ f h. f.id < h.id) old.entries i within was.rising);
    tokens = rw now (All-remove (λ f. f.token ≡ token_of (key_of f.token) f.id) old.entries i was.tokens);
    keys = rw now (all_pairs_remove (λ f h. key_of f.token ≢ key_of h.token) old.entries i within was.keys);
    next_key = free;
  }

  -- the entry at a place is the one that is taken out of it
  pub Removes-remove : (old seen new : Table T) (id i : ℕ) (e : Entry T) → old ≡ seen → i < length old.entries →
      e ≡ get_or old.entries i e → e.id ≡ id → new.entries ≡ remove old.entries i → new.next_id ≡ old.next_id →
      Removes seen new id e.value
  Removes-remove old seen new id i e same within is named now next =
      subst (λ t. Removes t new id e.value) same (record {
        before = take i old.entries;
        token = e.token;
        after = drop (suc i) old.entries;
        was = sym (take-append-drop i old.entries) ∙
            ap (λ t. take i old.entries ++ t) (drop-cons old.entries i e within ∙
            ap (λ f. f ∷ drop (suc i) old.entries) (sym is ∙
            ap (λ n. record { id = n; token = e.token; value = e.value }) named));
        is = now;
        next_id = next;
      })
