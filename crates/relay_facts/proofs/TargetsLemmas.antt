-- What is seen of targets says which are left, and what a pick says of its place.
use Rattle.std.proofs.Common.{◌≡◌, ◌∙◌, ◌<◌, ◌&&◌, ℕ, zero, suc, Bool, true, false, not, nat_lt, List, [], ◌∷◌, ◌++◌, Option, Some, None, All, refl, sym, ap, subst, inl, inr, length, arith}
use Rattle.std.specs.Prelude.{◌+◌, IsSomeAnd, map, option_map, slice_get}
use Rattle.std.specs.List.{list_any}
use Rattle.std.proofs.lemmas.Bool.{cases_eq}
use Rattle.std.proofs.lemmas.List.{length-map}
use Rattle.std.proofs.lemmas.List.Elements.{All-cons, All-nil}
use Rattle.std.proofs.lemmas.Option.{slice_get-map}
use Rattle.relay_admin.specs.declared.admin.target_order.Order.TheVariants.{Auto}
use Rattle.relay_facts.specs.Targets.{AreSeen, IsNoneLeft, IsSeenAs, is_seen_down, target_of}
use Rattle.relay_facts.specs.declared.target_list.CountedTarget.{CountedTarget}
use Rattle.relay_settings.specs.declared.targets.Target.{Target}
use Rattle.target_pick.specs.Pick.{MayTakeAt}
use Rattle.target_pick.specs.Seen.{may_take}
use Rattle.target_pick.specs.Tried.{was_tried}
use Rattle.target_pick.specs.declared.seen.Seen.{Seen}
use Rattle.target_pick.specs.declared.tried.Tried.{Tried}

module _ {X : Type 0} where
  one_at : (xs : List X) (place : ℕ) → place < length xs → (x : X) × (slice_get xs place ≡ Some x)
  one_at [] place within = absurd (omega (arith, within))
  one_at (x ∷ xs) zero within = (x, refl)
  one_at (x ∷ xs) (suc place) within = one_at xs place (omega (arith, within))

  pub within_of : (xs : List X) (place : ℕ) (x : X) → slice_get xs place ≡ Some x → place < length xs
  within_of [] place x is = absurd (cc)
  within_of (y ∷ xs) zero x is = omega arith
  within_of (y ∷ xs) (suc place) x is = let rest = within_of xs place x is in omega (arith, rest)

  before_end : (xs : List X) (x : X) (place : ℕ) → place < length xs → slice_get (xs ++ x ∷ []) place ≡ slice_get xs place
  before_end [] x place within = absurd (omega (arith, within))
  before_end (y ∷ xs) x zero within = refl
  before_end (y ∷ xs) x (suc place) within = before_end xs x place (omega (arith, within))

  at_end : (xs : List X) (x : X) → slice_get (xs ++ x ∷ []) (length xs) ≡ Some x
  at_end [] x = refl
  at_end (y ∷ xs) x = at_end xs x

  behind_map : {Y : Type 0} (f : X → Y) (xs : List X) (place : ℕ) (y : Y) → slice_get (map f xs) place ≡ Some y
      → (x : X) × (slice_get xs place ≡ Some x) × (f x ≡ y)
  behind_map f [] place y is = absurd (cc)
  behind_map f (x ∷ xs) zero y is = (x, refl, cc)
  behind_map f (x ∷ xs) (suc place) y is = behind_map f xs place y is

  some_of : (P : X → Type 0) (found : Option X) → IsSomeAnd found P → (x : X) × (found ≡ Some x) × P x
  some_of P None has = absurd has
  some_of P (Some x) has = (x, refl, has)

takes_untried : (up drained tried : Bool) (weight : ℕ) → (up && (not drained && (not tried && nat_lt 0 weight))) ≡ true
    → tried ≡ false
takes_untried true false false weight takes = refl
takes_untried true false true weight takes = absurd (cc)
takes_untried true true tried weight takes = absurd (cc)
takes_untried false drained tried weight takes = absurd (cc)

-- the targets of the first places are seen
abbrev AreSeenBelow : Bool → List CountedTarget → Tried → List Seen → ℕ → Type 0
AreSeenBelow checked targets tried seen count = (place : ℕ) (counted : CountedTarget) (one : Seen) → place < count
    → slice_get targets place ≡ Some counted → slice_get seen place ≡ Some one
    → IsSeenAs checked (was_tried tried place) counted.target one

-- one more is
pub one_more : (checked : Bool) (targets : List CountedTarget) (tried : Tried) (seen new : List Seen) (count : ℕ) (counted : CountedTarget)
    (one : Seen) → length seen ≡ count → AreSeenBelow checked targets tried seen count → new ≡ seen ++ one ∷ []
    → slice_get targets count ≡ Some counted → IsSeenAs checked (was_tried tried count) counted.target one
    → AreSeenBelow checked targets tried new (count + 1)
one_more checked targets tried seen new count counted one many below is at_count told = λ place other last within there here.
    elim (cases_eq place count) as (λ found. IsSeenAs checked (was_tried tried place) other.target last) [
      | inl same ↦
          let its : Some other ≡ Some counted = sym there ∙ ap (slice_get targets) same ∙ at_count in
          let other_is : other ≡ counted = cc in
          let has : Some last ≡ Some one =
          sym here ∙ ap (λ (l : List Seen). slice_get l place) is ∙ ap (slice_get (seen ++ one ∷ [])) (same ∙ sym many) ∙ at_end seen one in
          let last_is : last ≡ one = cc in
          subst (λ (p : ℕ). IsSeenAs checked (was_tried tried p) other.target last) (sym same)
          (subst (λ (t : CountedTarget). IsSeenAs checked (was_tried tried count) t.target last) (sym other_is)
          (subst (λ (s : Seen). IsSeenAs checked (was_tried tried count) counted.target s) (sym last_is) told))
      | inr apart ↦
          below place other last (omega (arith, within, apart)) there
          (sym (before_end seen one place (omega (arith, within, apart, many)))
          ∙ ap (λ (l : List Seen). slice_get l place) (sym is) ∙ here)
    ]

-- all are
pub all_seen : (checked : Bool) (targets : List CountedTarget) (tried : Tried) (seen : List Seen) (count : ℕ) → length seen ≡ count
    → AreSeenBelow checked targets tried seen count → count ≡ length targets → AreSeen checked (map target_of targets) tried seen
all_seen checked targets tried seen count many below all = record {
  count = many ∙ all ∙ sym (length-map targets target_of);
  each = λ place target one there here.
      let counted = behind_map target_of targets place target there in
      let within = within_of targets place counted.0 counted.1 in
      subst (λ (t : Target). IsSeenAs checked (was_tried tried place) t one) counted.2
      (below place counted.0 one (omega (arith, within, all)) counted.1 here);
}

-- where none of those that are seen may take the client, none is left
pub none_left : (checked : Bool) (targets : List Target) (tried : Tried) (seen : List Seen) (down : Bool)
    → AreSeen checked targets tried seen → All (λ (one : Seen). may_take one ≡ false) seen
    → down ≡ list_any is_seen_down seen → IsNoneLeft checked targets tried down
none_left checked targets tried seen down are none told =
    record { seen = seen; are_seen = are; none_takes = none; told = told }

-- what is known of a rule's only target that was tried
abbrev seen_tried : Target → Seen
seen_tried target = record {
  weight = target.weight;
  is_backup = target.is_backup;
  is_up = true;
  is_drained = false;
  was_tried = true;
  connections = 0;
}

only_seen : (target : Target) (tried : Tried) → was_tried tried 0 ≡ true → (place : ℕ) (other : Target) (one : Seen)
    → slice_get (target ∷ []) place ≡ Some other → slice_get (seen_tried target ∷ []) place ≡ Some one
    → IsSeenAs false (was_tried tried place) other one
only_seen target tried is zero other one there here =
    let same : target ≡ other = cc in
    let its : seen_tried target ≡ one = cc in
    subst (λ (t : Target). IsSeenAs false (was_tried tried 0) t one) same
    (subst (λ (s : Seen). IsSeenAs false (was_tried tried 0) target s) its
    (record {
      order = Auto;
      is_healthy = true;
      unchecked = λ _. refl;
      weight = refl;
      is_backup = refl;
      is_up = refl;
      is_drained = refl;
      was_tried = sym is;
    }))
only_seen target tried is (suc place) other one there here = absurd (cc)

-- where a rule's only target was tried, none is left, and none was down
pub only_tried : (target : Target) (tried : Tried) → was_tried tried 0 ≡ true → IsNoneLeft false (target ∷ []) tried false
only_tried target tried is = record {
  seen = seen_tried target ∷ [];
  are_seen = record { count = refl; each = only_seen target tried is };
  none_takes = All-cons (λ (one : Seen). may_take one ≡ false) (seen_tried target) [] refl (All-nil (λ (one : Seen). may_take one ≡ false));
  told = refl;
}

module _ (checked : Bool) (targets : List CountedTarget) (tried : Tried) (seen : List Seen)
    (are : AreSeen checked (map target_of targets) tried seen) where
  -- a place that may take the client is one of the targets'
  pub taken_within : (place : ℕ) → MayTakeAt seen place → place < length targets
  taken_within place takes =
      let one = some_of (λ (target : Seen). may_take target ≡ true) (slice_get seen place) takes in
      let within = within_of seen place one.0 one.1 in
      let count : length seen ≡ length targets = are.count ∙ length-map targets target_of in
      omega (arith, within, count)

  -- and wasn't tried
  pub taken_untried : (place : ℕ) → MayTakeAt seen place → was_tried tried place ≡ false
  taken_untried place takes =
      let one = some_of (λ (target : Seen). may_take target ≡ true) (slice_get seen place) takes in
      let counted = one_at targets place (taken_within place takes) in
      let told = are.each place (target_of counted.0) one.0 (slice_get-map target_of targets place ∙ ap (option_map target_of) counted.1) one.1 in
      sym told.was_tried ∙ takes_untried one.0.is_up one.0.is_drained one.0.was_tried one.0.weight one.2
