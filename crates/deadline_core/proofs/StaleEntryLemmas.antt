-- Which entries of the order may go, which one is first, and that each timer has one.
use Rattle.std.proofs.Common.{◌≡◌, ℕ, ◌<◌, ◌≤◌, ◌⊎◌, inl, inr, Bool, true, false, cond, ◌&&◌, ◌||◌, List, [], ◌∷◌, map}
use Rattle.std.proofs.Common.{filter, length, refl, sym, ap, ◌∙◌, subst, Option, Some, None, arith, btree_map_len}
use Rattle.std.proofs.Common.{btree_set_len, BTreeMap, true≢false, is_some}
use Rattle.std.specs.Prelude.{◌==◌}
use Rattle.std.specs.BTreeMap.{is_at}
use Rattle.std.specs.BTreeMap as tree
use Rattle.std.specs.BTreeSet.{BTreeSet, contains, IsLowerBound}
use Rattle.std.specs.BTreeSet as sorted
use Rattle.std.specs.Map.{lookup, keys_of}
use Rattle.std.specs.List.{Contains, list_any}
use Rattle.std.specs.List.Sorted.{IsStrictlySortedBy}
use Rattle.std.specs.declared.cmp.Ordering.{Ordering}
use Rattle.std.specs.declared.cmp.Ordering.TheVariants.{Less, Equal, Greater}
use Rattle.std.specs.Ordering.{nat_cmp, eq_by_cmp, is_eq, is_gt, ordering_then}
use Rattle.std.specs.Cmp.{eq_by_cmp_equiv}
use Rattle.std.proofs.lemmas.Bool.Decides.{nat_tests, leb_tells, eqb_tells}
use Rattle.std.proofs.lemmas.Map.Views.{tells_apart, any-filter_same, btree_set_contains_iff, All-after_first}
use Rattle.std.proofs.lemmas.List.Elements.{All-contains, All-weaker, Contains-append_cases, Contains-push_cases}
use Rattle.std.proofs.lemmas.Map.Keys.{IsDistinct-from_sorted}
use Rattle.std.proofs.lemmas.Map.Made.{length-le_from_is_member}
use Rattle.std.proofs.lemmas.List.{length-map}
use Rattle.std.specs.FinMap.{get, empty, find, get-empty, same_map}
use Rattle.std.specs.FinMap.Entries.{is_some-find}
use Rattle.deadline_core.specs.DueOrder.{Slot, slot_cmp}
use Rattle.deadline_core.specs.Timers.{Armed, IsLeastMoment}
use Rattle.deadline_core.specs.TimerOrder.{moment_cmp, armed_in, moment_in, IsStored, is_now, is_current_in, Sets}
use Rattle.deadline_core.specs.TimerOrder.{IsFirstOf}
use Rattle.deadline_core.proofs.TimersLemmas.{slots_total, exact_slots}
use Rattle.deadline_core.proofs.TimerOrderLemmas.{armed_gives, exact_moments, find_is, moment_cmp_is, moments_total}
use Rattle.deadline_core.proofs.TimerOrderLemmas.{tree_moment_cmp}

-- Dropping the stale entries

is_itself : (a b : ℕ) → a ≡ b → (a == b) ≡ true
is_itself a b h = grind (arith, nat_tests)

current_is : (o : Option ℕ) (at : ℕ) → o ≡ Some at → is_now o at ≡ true
current_is o at is = subst (λ o. is_now o at ≡ true) (sym is) (is_itself at at refl)

current_gives : (o : Option ℕ) (at : ℕ) → is_now o at ≡ true → o ≡ Some at
current_gives None at h = absurd (true≢false (sym h))
current_gives (Some moment) at h = ap Some (same moment at h)
  where
    same : (a b : ℕ) → (a == b) ≡ true → a ≡ b
    same a b h = grind (arith, nat_tests)

pub dropped_contains : (m : BTreeMap Slot ℕ) (old new : BTreeSet (ℕ × Slot)) (q : ℕ × Slot) →
    new.keys ≡ filter (is_current_in m) old.keys →
    contains moment_cmp new q ≡ (is_current_in m q && contains moment_cmp old q)
dropped_contains m old new q is = ap (list_any (is_at (moment_cmp q))) is
    ∙ any-filter_same (is_at (moment_cmp q)) (is_current_in m) (is_current_in m q)
    (λ k tie. ap (is_current_in m) (sym (tells_apart exact_moments q k tie))) old.keys

pub dropped_stored : (m : BTreeMap Slot ℕ) (old new : BTreeSet (ℕ × Slot)) →
    new.keys ≡ filter (is_current_in m) old.keys → IsStored m old → IsStored m new
dropped_stored m old new is stored = λ slot at armed.
    dropped_contains m old new (at, slot) is ∙ ap (λ b. b && contains moment_cmp old (at, slot))
    (current_is (moment_in m slot) at armed) ∙ stored slot at armed

abbrev turned : Slot × ℕ → ℕ × Slot
turned e = (e.1, e.0)

first_true : (a b : Bool) → (a && b) ≡ true → a ≡ true
first_true true b h = refl
first_true false b h = h

or_left : (a b : Bool) → a ≡ true → (a || b) ≡ true
or_left a b h = ap (λ c. c || b) h

or_right : (a b : Bool) → b ≡ true → (a || b) ≡ true
or_right true b h = refl
or_right false b h = h

-- an armed slot's entry is among the index's entries, turned round
listed : (es : List (Slot × ℕ)) (slot : Slot) (at : ℕ) → lookup (is_at (slot_cmp slot)) es ≡ Some at →
    list_any (eq_by_cmp moment_cmp (at, slot)) (map turned es) ≡ true
listed [] slot at found = absurd (let no : None ≡ Some at = found in cc)
listed (e ∷ es) slot at found = by_case (listed es slot at) (is_eq (slot_cmp slot e.0)) refl found
  where
    same_moment : (a b : ℕ) → a ≡ b → nat_cmp a b ≡ Equal
    same_moment a b h = grind (arith)

    by_case : (lookup (is_at (slot_cmp slot)) es ≡ Some at →
        list_any (eq_by_cmp moment_cmp (at, slot)) (map turned es) ≡ true) → (b : Bool) →
        is_eq (slot_cmp slot e.0) ≡ b → cond b (Some e.1) (lookup (is_at (slot_cmp slot)) es) ≡ Some at →
        list_any (eq_by_cmp moment_cmp (at, slot)) (map turned (e ∷ es)) ≡ true
    by_case more true is found =
        let when : e.1 ≡ at = cc found in
        or_left (eq_by_cmp moment_cmp (at, slot) (e.1, e.0))
        (list_any (eq_by_cmp moment_cmp (at, slot)) (map turned es))
        (ap (λ o. is_eq (ordering_then o (slot_cmp slot e.0))) (same_moment at e.1 (sym when)) ∙ is)
    by_case more false is found = or_right (eq_by_cmp moment_cmp (at, slot) (e.1, e.0))
        (list_any (eq_by_cmp moment_cmp (at, slot)) (map turned es)) (more found)

pub dropped_len : (m : BTreeMap Slot ℕ) (old new : BTreeSet (ℕ × Slot)) → new.keys ≡ filter (is_current_in m) old.keys →
    sorted.IsOrdered moment_cmp new → btree_set_len new ≤ btree_map_len m
dropped_len m old new is ordered =
    let fits : length new.keys ≤ length (map turned m.entries) =
    length-le_from_is_member (eq_by_cmp_equiv moments_total) new.keys (map turned m.entries)
    (IsDistinct-from_sorted moment_cmp new.keys ordered)
    (λ q there. listed m.entries q.1 q.0 (current_gives (moment_in m q.1) q.0
    (first_true (is_current_in m q) (contains moment_cmp old q) (sym (dropped_contains m old new q is) ∙ there))))
    in
    subst (λ n. length new.keys ≤ n) (length-map m.entries turned) fits

-- The first entry

not_above : (a b : ℕ) (o : Ordering) → is_gt (ordering_then (nat_cmp a b) o) ≡ false → a ≤ b
not_above a b o h = elim (leb_tells a b) [
  | inl below ↦ below.1
  | inr above ↦ (let less = above.1 in let greater : nat_cmp a b ≡ Greater = greater_is a b less in
      absurd (true≢false (sym (ap (λ r. is_gt (ordering_then r o)) greater) ∙ h)))
]
  where
    greater_is : (a b : ℕ) → b < a → nat_cmp a b ≡ Greater
    greater_is a b h = grind (arith)

pub first_late : (m : BTreeMap Slot ℕ) (order : BTreeSet (ℕ × Slot)) (now : ℕ) (k : ℕ × Slot) → IsStored m order →
    IsLowerBound moment_cmp order k → now < k.0 → IsFirstOf (armed_in m) now None
first_late m order now k stored low late = λ slot at armed.
    let there = stored slot at (sym (armed_gives m slot) ∙ armed) in
    let above : k.0 ≤ at = not_above k.0 at (slot_cmp k.1 slot) (low (at, slot) there) in
    omega (arith, above, late)

ordered_by : (o : Ordering) → is_gt o ≡ false → (o ≡ Equal) ⊎ (o ≡ Less)
ordered_by Less h = inr refl
ordered_by Equal h = inl refl
ordered_by Greater h = absurd (true≢false h)

pub first_due_is : (m : BTreeMap Slot ℕ) (order : BTreeSet (ℕ × Slot)) (now : ℕ) (k : ℕ × Slot) → IsStored m order →
    IsLowerBound moment_cmp order k → is_current_in m k ≡ true → k.0 ≤ now →
    IsFirstOf (armed_in m) now (Some (k.1, k.0))
first_due_is m order now k stored low current due = (
  armed_gives m k.1 ∙ current_gives (moment_in m k.1) k.0 current,
  due,
  λ slot at armed come. elim (ordered_by (moment_cmp k (at, slot))
      (low (at, slot) (stored slot at (sym (armed_gives m slot) ∙ armed)))) [
        | inl tie ↦ inl (let same : k ≡ (at, slot) = exact_moments k (at, slot) tie in
            λ i. ((sym same i).1, (sym same i).0))
        | inr less ↦ inr less
      ],
)

none_there : (ks : List (ℕ × Slot)) (q : ℕ × Slot) → length ks ≡ 0 → list_any (is_at (moment_cmp q)) ks ≡ true → ⊥
none_there [] q empty h = true≢false (sym h)
none_there (k ∷ ks) q empty h = omega (arith, empty)

pub nothing_armed : (m : BTreeMap Slot ℕ) (order : BTreeSet (ℕ × Slot)) (now : ℕ) → IsStored m order →
    btree_set_len order ≡ 0 → IsFirstOf (armed_in m) now None
nothing_armed m order now stored empty = λ slot at armed. absurd
    (none_there order.keys (at, slot) empty (stored slot at (sym (armed_gives m slot) ∙ armed)))

-- the order without an entry
abbrev pub Without : BTreeSet (ℕ × Slot) → BTreeSet (ℕ × Slot) → ℕ × Slot → Type 0
Without old new k = (q : ℕ × Slot) → contains moment_cmp new q ≡
    cond (is_at (moment_cmp k) q) false (contains moment_cmp old q)

pub without_from : (old new : BTreeSet (ℕ × Slot)) (k : ℕ × Slot) →
    ((q : ℕ × Slot) → contains tree_moment_cmp new q ≡
    cond (is_at (tree_moment_cmp k) q) false (contains tree_moment_cmp old q)) → Without old new k
without_from old new k updates = λ q. subst (λ R. contains R new q ≡ cond (is_at (R k) q) false (contains R old q))
    moment_cmp_is (updates q)

-- a stale entry can go
pub stale_gone : (m : BTreeMap Slot ℕ) (old new : BTreeSet (ℕ × Slot)) (k : ℕ × Slot) → Without old new k →
    is_current_in m k ≡ false → IsStored m old → IsStored m new
stale_gone m old new k without stale stored = λ slot at armed. by_case slot at armed
    (is_at (moment_cmp k) (at, slot)) refl
  where
    by_case : (slot : Slot) (at : ℕ) → moment_in m slot ≡ Some at → (b : Bool) → is_at (moment_cmp k) (at, slot) ≡ b →
        contains moment_cmp new (at, slot) ≡ true
    by_case slot at armed true is = absurd (true≢false
        (sym (current_is (moment_in m slot) at armed) ∙
        ap (is_current_in m) (sym (tells_apart exact_moments k (at, slot) is)) ∙ stale))
    by_case slot at armed false is = without (at, slot) ∙
        ap (λ b. cond b false (contains moment_cmp old (at, slot))) is ∙ stored slot at armed

taken_cases : (b : Bool) (o : Option ℕ) (a : ℕ) → cond b None o ≡ Some a → (b ≡ false) × (o ≡ Some a)
taken_cases true o a h = absurd (let no : None ≡ Some a = h in cc)
taken_cases false o a h = (refl, h)

-- the entry of a slot that is taken out can go
pub taken_gone : (m n : BTreeMap Slot ℕ) (old new : BTreeSet (ℕ × Slot)) (k : ℕ × Slot) → Without old new k →
    Sets m n k.1 None → IsStored m old → IsStored n new
taken_gone m n old new k without sets stored = λ slot at armed. let was =
    taken_cases (eq_by_cmp slot_cmp slot k.1) (moment_in m slot) at (sym (sets slot) ∙ armed) in
    by_case slot at was.0 was.1 (is_at (moment_cmp k) (at, slot)) refl
  where
    by_case : (slot : Slot) (at : ℕ) → eq_by_cmp slot_cmp slot k.1 ≡ false → moment_in m slot ≡ Some at → (b : Bool) →
        is_at (moment_cmp k) (at, slot) ≡ b → contains moment_cmp new (at, slot) ≡ true
    by_case slot at apart armed true is =
        let same : k.1 ≡ slot = ap (λ (e : ℕ × Slot). e.1) (tells_apart exact_moments k (at, slot) is) in
        absurd (true≢false (sym ((eq_by_cmp_equiv slots_total).refl slot) ∙
        ap (λ s. eq_by_cmp slot_cmp slot s) (sym same) ∙ apart))
    by_case slot at apart armed false is = without (at, slot) ∙
        ap (λ b. cond b false (contains moment_cmp old (at, slot))) is ∙ stored slot at armed

pub zero_is : (n : ℕ) → (0 < n → false ≡ true) → n ≡ 0
zero_is n h = elim (eqb_tells n 0) [
  | inl same ↦ same.1
  | inr apart ↦ (let other = apart.1 in absurd (true≢false (sym (h (omega (arith, other))))))
]

-- Going through the order

pub ahead_first : (m : BTreeMap Slot ℕ) (order : BTreeSet (ℕ × Slot)) → IsStored m order → (slot : Slot) (at : ℕ) →
    get (armed_in m) slot ≡ Some at → Contains order.keys (at, slot)
ahead_first m order stored slot at armed = (btree_set_contains_iff moments_total exact_moments order (at, slot)).0
    (stored slot at (sym (armed_gives m slot) ∙ armed))

-- each armed timer is in what is left of the order, and this rises
pub record Ahead (armed : Armed) (rest : List (ℕ × Slot)) : Type 0 where
  pub each : (slot : Slot) (at : ℕ) → get armed slot ≡ Some at → Contains rest (at, slot)
  pub rising : IsStrictlySortedBy moment_cmp rest

pub ahead_from : (m : BTreeMap Slot ℕ) (order : BTreeSet (ℕ × Slot)) (rest : List (ℕ × Slot)) → IsStored m order →
    sorted.IsOrdered tree_moment_cmp order → rest ≡ order.keys → Ahead (armed_in m) rest
ahead_from m order rest stored ordered is = record {
  each = λ slot at armed. subst (λ l. Contains l (at, slot)) (sym is) (ahead_first m order stored slot at armed);
  rising = subst (IsStrictlySortedBy moment_cmp) (sym is) (subst (λ R. sorted.IsOrdered R order) moment_cmp_is ordered);
}

rest_rises : (k : ℕ × Slot) (rest : List (ℕ × Slot)) → IsStrictlySortedBy moment_cmp (k ∷ rest) →
    IsStrictlySortedBy moment_cmp rest
unfolding IsStrictlySortedBy
rest_rises k rest h = h.1

-- a stale entry is passed
pub ahead_next : (m : BTreeMap Slot ℕ) (k : ℕ × Slot) (rest : List (ℕ × Slot)) → is_current_in m k ≡ false →
    Ahead (armed_in m) (k ∷ rest) → Ahead (armed_in m) rest
ahead_next m k rest stale h = record {
  each = λ slot at armed. elim (Contains-append_cases (k ∷ []) rest (at, slot) (h.each slot at armed)) [
    | inl here ↦ elim (Contains-push_cases [] k (at, slot) here) [
      | inl nowhere ↦ (let n = nowhere.1 in absurd (omega (arith, n)))
      | inr same ↦ absurd (true≢false (sym (current_is (moment_in m slot) at (sym (armed_gives m slot) ∙ armed)) ∙
          ap (is_current_in m) (sym same) ∙ stale))
    ]
    | inr later ↦ later
  ];
  rising = rest_rises k rest h.rising;
}

-- the first current entry has the least moment
pub least_here : (m : BTreeMap Slot ℕ) (k : ℕ × Slot) (rest : List (ℕ × Slot)) → is_current_in m k ≡ true →
    Ahead (armed_in m) (k ∷ rest) → IsLeastMoment (armed_in m) k.0
least_here m k rest current h = record {
  taken = (k.1, armed_gives m k.1 ∙ current_gives (moment_in m k.1) k.0 current);
  least = λ slot at armed. elim (Contains-append_cases (k ∷ []) rest (at, slot) (h.each slot at armed)) [
    | inl here ↦ elim (Contains-push_cases [] k (at, slot) here) [
      | inl nowhere ↦ (let n = nowhere.1 in absurd (omega (arith, n)))
      | inr same ↦ (let when : k.0 ≡ at = ap (λ (e : ℕ × Slot). e.0) same in omega (arith, when))
    ]
    | inr later ↦ not_above k.0 at (slot_cmp k.1 slot)
        (All-contains (λ q. is_gt (moment_cmp k q) ≡ false) rest (at, slot)
        (All-weaker (λ q. moment_cmp k q ≡ Less) (λ q. is_gt (moment_cmp k q) ≡ false) (λ q less. ap is_gt less) rest
        (All-after_first moment_cmp k rest h.rising)) later)
  ];
}

-- where nothing is ahead, nothing is armed
pub none_ahead : (m : BTreeMap Slot ℕ) → Ahead (armed_in m) [] → armed_in m ≡ empty
none_ahead m h = same_map slots_total exact_slots (armed_in m) empty
    (λ q. by_case q (get (armed_in m) q) refl ∙ sym (get-empty slot_cmp q))
  where
    by_case : (q : Slot) (o : Option ℕ) → get (armed_in m) q ≡ o → get (armed_in m) q ≡ None
    by_case q None is = is
    by_case q (Some at) is = (let n = (h.each q at is).1 in absurd (omega (arith, n)))

-- No timer is without an entry

second_equal : (o p : Ordering) → is_eq (ordering_then o p) ≡ true → is_eq p ≡ true
second_equal Less p h = absurd (true≢false (sym h))
second_equal Equal p h = h
second_equal Greater p h = absurd (true≢false (sym h))

any_slot : (at : ℕ) (slot : Slot) (ks : List (ℕ × Slot)) → list_any (is_at (moment_cmp (at, slot))) ks ≡ true →
    list_any (eq_by_cmp slot_cmp slot) (map (λ (k : ℕ × Slot). k.1) ks) ≡ true
any_slot at slot [] h = h
any_slot at slot (k ∷ ks) h = by_case (any_slot at slot ks) (is_at (moment_cmp (at, slot)) k) refl h
  where
    by_case : (list_any (is_at (moment_cmp (at, slot))) ks ≡ true →
        list_any (eq_by_cmp slot_cmp slot) (map (λ (k : ℕ × Slot). k.1) ks) ≡ true) → (b : Bool) →
        is_at (moment_cmp (at, slot)) k ≡ b → (b || list_any (is_at (moment_cmp (at, slot))) ks) ≡ true →
        list_any (eq_by_cmp slot_cmp slot) (map (λ (k : ℕ × Slot). k.1) (k ∷ ks)) ≡ true
    by_case more true is h = or_left (eq_by_cmp slot_cmp slot k.1)
        (list_any (eq_by_cmp slot_cmp slot) (map (λ (k : ℕ × Slot). k.1) ks))
        (second_equal (nat_cmp at k.0) (slot_cmp slot k.1) is)
    by_case more false is h = or_right (eq_by_cmp slot_cmp slot k.1)
        (list_any (eq_by_cmp slot_cmp slot) (map (λ (k : ℕ × Slot). k.1) ks)) (more h)

pub stored_len : (m : BTreeMap Slot ℕ) (order : BTreeSet (ℕ × Slot)) → IsStored m order → tree.IsOrdered slot_cmp m →
    btree_map_len m ≤ btree_set_len order
stored_len m order stored ordered =
    let fits : length (map (λ (e : Slot × ℕ). e.0) m.entries) ≤ length (map (λ (k : ℕ × Slot). k.1) order.keys) =
    length-le_from_is_member (eq_by_cmp_equiv slots_total) (keys_of m.entries)
    (map (λ (k : ℕ × Slot). k.1) order.keys) (IsDistinct-from_sorted slot_cmp (keys_of m.entries) ordered)
    (λ q there. by_case q (find slot_cmp q m.entries) refl (is_some-find slot_cmp q m.entries ∙ there)) in
    subst (λ n. btree_map_len m ≤ n) (length-map order.keys (λ (k : ℕ × Slot). k.1))
    (subst (λ n. n ≤ length (map (λ (k : ℕ × Slot). k.1) order.keys))
    (length-map m.entries (λ (e : Slot × ℕ). e.0)) fits)
  where
    by_case : (q : Slot) (o : Option ℕ) → find slot_cmp q m.entries ≡ o → is_some (find slot_cmp q m.entries) ≡ true →
        list_any (eq_by_cmp slot_cmp q) (map (λ (k : ℕ × Slot). k.1) order.keys) ≡ true
    by_case q None is h = absurd (true≢false (sym h ∙ ap is_some is))
    by_case q (Some at) is h = any_slot at q order.keys (stored q at (sym (find_is m.entries q) ∙ is))
