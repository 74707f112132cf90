-- An index and an ordered set that stand for timers.
use Rattle.std.proofs.Common.{◌≡◌, ℕ, ◌⊎◌, inl, inr, Bool, true, false, cond, ◌&&◌, List, [], ◌∷◌, length, refl, sym}
use Rattle.std.proofs.Common.{ap, ◌∙◌, subst, Option, Some, None, T, btree_map_len, BTreeMap, Result, Ok, Err, OnOk}
use Rattle.std.proofs.Common.{OnErr, IfNone, IfSome}
use Rattle.std.specs.BTreeMap.{is_at}
use Rattle.std.specs.BTreeMap as tree
use Rattle.std.specs.BTreeSet.{BTreeSet, contains}
use Rattle.std.specs.Map.{lookup, keys_of}
use Rattle.std.specs.List.Sorted.{IsStrictlySortedBy}
use Rattle.std.specs.declared.cmp.Ordering.{Ordering}
use Rattle.std.specs.declared.cmp.Ordering.TheVariants.{Less}
use Rattle.std.specs.Ordering.{nat_cmp, eq_by_cmp, is_lt, ordering_then}
use Rattle.std.specs.Cmp.{IsTotalOrder, nat_cmp_total, eq_by_cmp_equiv}
use Rattle.std.proofs.lemmas.Cmp.{on_total, then_total}
use Rattle.std.proofs.lemmas.Map.Lookups.{CmpEqualImpliesEq, exact_pairs, exact_unsigned}
use Rattle.std.proofs.lemmas.Map.Views.{tells_apart}
use Rattle.std.specs.FinMap.{get, insert, remove, len, from_sorted, find, get-from_entries, get-from_sorted, get-insert}
use Rattle.std.specs.FinMap.{get-remove, same_map, len-entries, entries-from_sorted}
use Rattle.std.specs.FinMap.Entries.{below_all, is_sorted}
use Rattle.base_types.specs.contracts.direction.DirOrd.TheImpl as dir_ord
use Rattle.base_types.specs.declared.direction.Dir.{Dir}
use Rattle.base_types.specs.declared.direction.Dir.TheVariants.{Read, Write}
use Rattle.deadline_core.specs.DueOrder.{Slot, slot_cmp, rank}
use Rattle.deadline_core.specs.TimerOrder.{moment_cmp, armed_in, moment_in, IsStored, IsMore, Sets, SameMoments}
use Rattle.deadline_core.proofs.TimersLemmas.{slots_total, exact_slots}

-- the order of moments is total, and tells all entries apart
pub moments_total : IsTotalOrder moment_cmp
moments_total = then_total (on_total (λ (e : ℕ × Slot). e.0) nat_cmp_total)
    (on_total (λ (e : ℕ × Slot). e.1) slots_total)

pub exact_moments : CmpEqualImpliesEq moment_cmp
exact_moments = exact_pairs nat_cmp slot_cmp exact_unsigned exact_slots

-- The order that the kit's trees go by is the same

use_dir : (one other : Dir) → (dir_ord.ghosts).cmp one other ≡ nat_cmp (rank one) (rank other)
use_dir Read Read = refl
use_dir Read Write = refl
use_dir Write Read = refl
use_dir Write Write = refl

abbrev pub tree_slot_cmp : Slot → Slot → Ordering
tree_slot_cmp one other = ordering_then (nat_cmp one.0 other.0) ((dir_ord.ghosts).cmp one.1 other.1)

abbrev pub tree_moment_cmp : ℕ × Slot → ℕ × Slot → Ordering
tree_moment_cmp one other = ordering_then (nat_cmp one.0 other.0) (tree_slot_cmp one.1 other.1)

pub slot_cmp_is : tree_slot_cmp ≡ slot_cmp
slot_cmp_is = λ i one other. ordering_then (nat_cmp one.0 other.0) (use_dir one.1 other.1 i)

pub moment_cmp_is : tree_moment_cmp ≡ moment_cmp
moment_cmp_is = λ i one other. ordering_then (nat_cmp one.0 other.0) (slot_cmp_is i one.1 other.1)

-- What the index says of the map

pub find_is : (es : List (Slot × ℕ)) (q : Slot) → find slot_cmp q es ≡ lookup (is_at (slot_cmp q)) es
find_is [] q = refl
find_is (e ∷ es) q = ap (cond (eq_by_cmp slot_cmp q e.0) (Some e.1)) (find_is es q)

pub armed_gives : (m : BTreeMap Slot ℕ) (q : Slot) → get (armed_in m) q ≡ moment_in m q
armed_gives m q = get-from_entries slots_total m.entries q ∙ find_is m.entries q

pub sets_from : (m n : BTreeMap Slot ℕ) (slot : Slot) (w : Option ℕ) →
    ((q : Slot) → tree.get tree_slot_cmp n q ≡ cond (is_at (tree_slot_cmp slot) q) w (tree.get tree_slot_cmp m q)) →
    Sets m n slot w
sets_from m n slot w updates = λ q. subst (λ R. tree.get R n q ≡ cond (is_at (R slot) q) w (tree.get R m q)) slot_cmp_is
    (updates q) ∙ ap (λ b. cond b w (moment_in m q)) ((eq_by_cmp_equiv slots_total).symm slot q)

pub armed_named : (m n : BTreeMap Slot ℕ) (slot : Slot) (at : ℕ) → Sets m n slot (Some at) → armed_in
    n ≡ insert (armed_in m) slot at
armed_named m n slot at sets = same_map slots_total exact_slots _ _ (λ q.
    armed_gives n q ∙ sets q ∙ sym (get-insert slots_total (armed_in m) slot at q ∙
    ap (cond (eq_by_cmp slot_cmp q slot) (Some at)) (armed_gives m q)))

pub armed_taken : (m n : BTreeMap Slot ℕ) (slot : Slot) → Sets m n slot None → armed_in n ≡ remove (armed_in m) slot
armed_taken m n slot sets = same_map slots_total exact_slots _ _ (λ q.
    armed_gives n q ∙ sets q ∙ sym (get-remove slots_total (armed_in m) slot q ∙
    ap (cond (eq_by_cmp slot_cmp q slot) None) (armed_gives m q)))

pub armed_same : (m n : BTreeMap Slot ℕ) → SameMoments m n → armed_in n ≡ armed_in m
armed_same m n same = same_map slots_total exact_slots _ _ (λ q. armed_gives n q ∙ same q ∙ sym (armed_gives m q))

covered : {A : Type 0} (b : Bool) (x y z : A) → cond b x (cond b y z) ≡ cond b x z
covered true x y z = refl
covered false x y z = refl

itself : (b : Bool) (o w : Option ℕ) → o ≡ w → cond b w o ≡ o
itself true o w e = sym e
itself false o w e = refl

-- a slot that is given what it had
pub put_back_same : (m n o : BTreeMap Slot ℕ) (slot : Slot) (at : ℕ) (before : Option ℕ) → before ≡ moment_in m slot →
    Sets m n slot (Some at) → Sets n o slot before → SameMoments m o
put_back_same m n o slot at before was named back = λ q.
    back q ∙ ap (cond (eq_by_cmp slot_cmp q slot) before) (named q) ∙
    covered (eq_by_cmp slot_cmp q slot) before (Some at) (moment_in m q) ∙
    by_case q (eq_by_cmp slot_cmp q slot) refl
  where
    by_case : (q : Slot) (b : Bool) → eq_by_cmp slot_cmp q slot ≡ b → cond b before (moment_in m q) ≡ moment_in m q
    by_case q true is = was ∙ ap (moment_in m) (sym (tells_apart exact_slots q slot is))
    by_case q false is = refl

-- How many timers are armed

below_from : (k : Slot) (es : List (Slot × ℕ)) → IsStrictlySortedBy slot_cmp (k ∷ keys_of es) →
    T (below_all slot_cmp k es)
unfolding IsStrictlySortedBy
below_from k [] h = tt
below_from k (e ∷ es) h = both_hold (is_lt (slot_cmp k e.0)) (below_all slot_cmp k es) (less_is (slot_cmp k e.0) h.0.0)
    (below_from k es (h.0.1, h.1.1))
  where
    both_hold : (a b : Bool) → T a → T b → T (a && b)
    both_hold true b p q = q
    both_hold false b p q = p

    less_is : (o : Ordering) → o ≡ Less → T (is_lt o)
    less_is o e = subst (λ o. T (is_lt o)) (sym e) tt

sorted_from : (es : List (Slot × ℕ)) → IsStrictlySortedBy slot_cmp (keys_of es) → T (is_sorted slot_cmp es)
unfolding IsStrictlySortedBy
sorted_from [] h = tt
sorted_from (e ∷ es) h = both_hold (below_all slot_cmp e.0 es) (is_sorted slot_cmp es) (below_from e.0 es h)
    (sorted_from es h.1)
  where
    both_hold : (a b : Bool) → T a → T b → T (a && b)
    both_hold true b p q = q
    both_hold false b p q = p

pub armed_len : (m : BTreeMap Slot ℕ) → tree.IsOrdered slot_cmp m → len (armed_in m) ≡ btree_map_len m
armed_len m ordered =
    let rise = sorted_from m.entries ordered in
    let same : armed_in m ≡ from_sorted m.entries =
    same_map slots_total exact_slots (armed_in m) (from_sorted m.entries)
    (λ q. get-from_entries slots_total m.entries q ∙ sym (get-from_sorted slot_cmp m.entries q rise)) in
    ap len same ∙ len-entries (from_sorted {R = slot_cmp} m.entries) ∙
    ap length (entries-from_sorted slot_cmp m.entries rise)

-- What an index and an order keep

pub stored_same : (m n : BTreeMap Slot ℕ) (order : BTreeSet (ℕ × Slot)) → SameMoments m n → IsStored m order →
    IsStored n order
stored_same m n order same stored = λ slot at armed. stored slot at (sym (same slot) ∙ armed)

named_cases : (b : Bool) (o : Option ℕ) (at a : ℕ) → cond b (Some at) o ≡ Some a →
    ((b ≡ true) × (at ≡ a)) ⊎ (o ≡ Some a)
named_cases true o at a h = inl (refl, cc h)
named_cases false o at a h = inr h

-- what is named is stored, where its entry is
pub stored_named : (m n : BTreeMap Slot ℕ) (order : BTreeSet (ℕ × Slot)) (slot : Slot) (at : ℕ) →
    Sets m n slot (Some at) → contains moment_cmp order (at, slot) ≡ true → IsStored m order → IsStored n order
stored_named m n order slot at sets there stored =
    λ q a armed. elim (named_cases (eq_by_cmp slot_cmp q slot) (moment_in m q) at a (sym (sets q) ∙ armed)) [
      | inl now ↦ (let same : slot ≡ q = sym (tells_apart exact_slots q slot now.0) in let when : at ≡ a = now.1 in
          subst (λ (e : ℕ × Slot). contains moment_cmp order e ≡ true) (λ i. (when i, same i)) there)
      | inr was ↦ stored q a was
    ]

pub stored_more : (m : BTreeMap Slot ℕ) (old new : BTreeSet (ℕ × Slot)) → IsMore old new → IsStored m old →
    IsStored m new
stored_more m old new more stored = λ slot at armed. more (at, slot) (stored slot at armed)

true_stays : (b c : Bool) → c ≡ true → cond b true c ≡ true
true_stays true c h = refl
true_stays false c h = h

pub more_from : (old new : BTreeSet (ℕ × Slot)) (k : ℕ × Slot) →
    ((q : ℕ × Slot) → contains tree_moment_cmp new q ≡
    cond (is_at (tree_moment_cmp k) q) true (contains tree_moment_cmp old q)) → IsMore old new
more_from old new k updates = λ q was. subst (λ R. contains R new q ≡ cond (is_at (R k) q) true (contains R old q))
    moment_cmp_is (updates q) ∙ true_stays (is_at (moment_cmp k) q) (contains moment_cmp old q) was

-- Facts that hang on an answer

pub ok_then : {A B : Type 0} (r : Result A B) (P Q : Type 0) → (P → Q) → OnOk r P → OnOk r Q
ok_then (Ok x) P Q f p = f p
ok_then (Err x) P Q f p = tt

pub err_then : {A B : Type 0} (r : Result A B) (P Q : Type 0) → (P → Q) → OnErr r P → OnErr r Q
err_then (Ok x) P Q f p = tt
err_then (Err x) P Q f p = f p

pub none_then : {A : Type 0} (o : Option A) (P Q : Type 0) → (P → Q) → IfNone o P → IfNone o Q
none_then None P Q f p = f p
none_then (Some x) P Q f p = tt

pub some_then : {A : Type 0} (o : Option A) (P Q : A → Type 0) → ((x : A) → P x → Q x) → IfSome o P → IfSome o Q
some_then None P Q f p = tt
some_then (Some x) P Q f p = f x p
