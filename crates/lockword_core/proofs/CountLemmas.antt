-- Counts over a list of stakes: what one stake's change does to them.
use Rattle.std.proofs.Common.{◌≡◌, ◌+◌, ◌-◌, ◌≤◌, ◌<◌, [], ◌∷◌, ◌++◌, length}
use Rattle.std.specs.Prelude.{sum_by, slice_set}
use Rattle.std.specs.Option.{option_map}
use Rattle.std.specs.Cmp.{nat_cmp_total}
use Rattle.std.proofs.lemmas.List.Sums.{sum_by-set, sum_by_push, sum_by-cons, get_or-le-sum_by}
use Rattle.std.proofs.lemmas.Map.Entries.{sum_by-insert_entry}
use Rattle.lockword_core.proofs.Words.{ℕ, List, refl, sym, arith, get_or, None, Some, Option, unwrap_or, nat_cmp}
use Rattle.lockword_core.proofs.Words.{lookup, keys_of, values_of, insert_entry, is_at, IsStrictlySortedBy, Read, Write}
use Rattle.lockword_core.proofs.Words.{Stake, references, locks, queued, owed, closers, drainers, lasts, part}
use Rattle.lockword_core.proofs.Words.{ChangesOneStake}
use Rattle.lockword_core.specs.declared.stake.Stake.TheVariants as stake
use Rattle.lockword_core.specs.LockState.{Counted, count}

pub count-nil : (what : Counted) → count what [] ≡ 0
unfolding count
count-nil what = refl

pub part-free : (what : Counted) → part what stake.Free ≡ 0
part-free references = refl
part-free (locks d) = refl
part-free (queued d) = refl
part-free (owed d) = refl
part-free closers = refl
part-free drainers = refl
part-free lasts = refl

-- a list of stakes of which one is set
pub count-set : (what : Counted) (stakes : List Stake) (i : ℕ) (new : Stake) → i < length stakes
    → count what (slice_set stakes i new) + part what (get_or stakes i new) ≡ count what stakes + part what new
unfolding count
count-set what stakes i new inside = sum_by-set (part what) stakes i new new inside

part-le-count : (what : Counted) (stakes : List Stake) (i : ℕ) (d : Stake) → i < length stakes
    → part what (get_or stakes i d) ≤ count what stakes
unfolding count
part-le-count what stakes i d inside = get_or-le-sum_by (part what) stakes i d inside

pub changes-set : (stakes : List Stake) (i : ℕ) (new : Stake) → i < length stakes
    → ChangesOneStake stakes (get_or stakes i new) (slice_set stakes i new) new
changes-set stakes i new inside =
    record {
      others = λ what. count what stakes - part what (get_or stakes i new);
      counted_before = λ what. let le : part what (get_or stakes i new) ≤ count what stakes =
          part-le-count what stakes i new inside in omega arith;
      counted_after = λ what. let le : part what (get_or stakes i new) ≤ count what stakes =
          part-le-count what stakes i new inside in
          let sums : count what (slice_set stakes i new) + part what (get_or stakes i new) ≡ count what stakes
          + part what new = count-set what stakes i new inside in omega arith;
    }

-- a map of stakes of which one is put in
found-part : (what : Counted) (o : Option Stake)
    → unwrap_or (option_map (part what) o) 0 ≡ part what (unwrap_or o stake.Free)
found-part what None = sym (part-free what)
found-part what (Some s) = refl

count-insert : (what : Counted) (entries : List (ℕ × Stake)) (holder : ℕ) (new : Stake)
    → IsStrictlySortedBy nat_cmp (keys_of entries)
    → count what (values_of (insert_entry nat_cmp entries holder new))
    + part what (unwrap_or (lookup (is_at (nat_cmp holder)) entries) stake.Free) ≡ count what (values_of entries)
    + part what new
unfolding count
count-insert what entries holder new sorted =
    rw (← found-part what (lookup (is_at (nat_cmp holder)) entries))
    (sum_by-insert_entry (part what) nat_cmp_total entries holder new sorted)

pub changes-insert : (entries : List (ℕ × Stake)) (holder : ℕ) (new : Stake)
    → IsStrictlySortedBy nat_cmp (keys_of entries)
    → ChangesOneStake (values_of entries) (unwrap_or (lookup (is_at (nat_cmp holder)) entries) stake.Free)
    (values_of (insert_entry nat_cmp entries holder new)) new
changes-insert entries holder new sorted =
    record {
      others = λ what. count what (values_of (insert_entry nat_cmp entries holder stake.Free));
      counted_before = λ what. omega (arith, count-insert what entries holder stake.Free sorted, part-free what);
      counted_after =
          λ what. omega (
            arith,
            count-insert what entries holder stake.Free sorted,
            count-insert what entries holder new sorted,
            part-free what,
          );
    }

-- a new holder counts nothing
pub count-push : (what : Counted) (stakes : List Stake) → count what (stakes ++ stake.Free ∷ []) ≡ count what stakes
unfolding count
count-push what stakes =
    let sums : sum_by (part what) (stakes ++ stake.Free ∷ []) ≡ sum_by (part what) stakes + part what stake.Free =
    sum_by_push (part what) stakes stake.Free in omega (arith, part-free what)

pub count-cons : (what : Counted) (own : Stake) (rest : List Stake)
    → count what (own ∷ rest) ≡ part what own + count what rest
unfolding count
count-cons what own rest = sum_by-cons (part what) own rest

part-within : (own : Stake) → part (locks Read) own + part (locks Write) own + part closers own ≤ part references own
part-within stake.Free = omega arith
part-within stake.Ref = omega arith
part-within stake.Read = omega arith
part-within stake.Write = omega arith
part-within (stake.Waits d) = omega arith
part-within (stake.Owes d) = omega arith
part-within (stake.Closing r w) = omega arith
part-within (stake.Drains r w) = omega arith
part-within stake.Last = omega arith

-- the holders of locks and the closer hold references
pub count-within : (stakes : List Stake)
    → count (locks Read) stakes + count (locks Write) stakes + count closers stakes ≤ count references stakes
count-within [] =
    omega (arith, count-nil (locks Read), count-nil (locks Write), count-nil closers, count-nil references)
count-within (own ∷ rest) =
    omega (
      arith,
      count-within rest,
      part-within own,
      count-cons (locks Read) own rest,
      count-cons (locks Write) own rest,
      count-cons closers own rest,
      count-cons references own rest,
    )

-- each count moves from the old stake's part to the new one's
pub moves : (xs ys : List Stake) (old new : Stake) → ChangesOneStake xs old ys new
    → (what : Counted) → count what ys + part what old ≡ count what xs + part what new
moves xs ys old new one what = let before = one.counted_before what in let after = one.counted_after what in omega arith
