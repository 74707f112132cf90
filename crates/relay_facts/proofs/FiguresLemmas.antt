-- What is told of the targets at a list's first places.
use Rattle.std.proofs.Common.{◌≡◌, ◌∙◌, ◌+◌, ◌++◌, ◌||◌, Bor, ℕ, zero, suc, Bool, true, false, List, [], ◌∷◌, Option, Some, None, append-nil, append_assoc, arith, length, map, nat_lt, refl, sym, ap, take}
use Rattle.std.specs.Prelude.{if◌then◌else◌, option_map, slice_get}
use Rattle.std.specs.List.{list_any}
use Rattle.std.specs.Slice.{IsItemAt}
use Rattle.std.specs.Option.{option_copied, option_map_or, option_to_list}
use Rattle.std.proofs.lemmas.List.{map-append, take-map}
use Rattle.std.proofs.lemmas.Option.{slice_get-map, slice_get_read}
use Rattle.relay_admin.specs.declared.rules.addr.Addr.{Addr}
use Rattle.relay_admin.specs.rules.Addr.{address_of, address_text, same_address}
use Rattle.relay_facts.specs.TargetFigures.{TellsFirst, each_once, of_target, own_at, whose}
use Rattle.relay_facts.specs.Targets.{has_address_of, has_weight, is_repeated, target_of}
use Rattle.relay_facts.specs.declared.target_list.CountedTarget.{CountedTarget}
use Rattle.relay_metrics.specs.declared.figures.TargetFigures.{TargetFigures}
use Rattle.relay_settings.specs.declared.targets.Target.{Target}

any-map : {X Y : Type 0} (p : X → Bool) (h : Y → X) (ys : List Y) → list_any p (map h ys) ≡ list_any (λ y. p (h y)) ys
any-map p h [] = refl
any-map p h (y ∷ ys) = ap (λ b. p (h y) || b) (any-map p h ys)

-- one of the counted targets has an address where one of the targets has it
some_at : (all : List CountedTarget) (at : Addr)
    → list_any (λ (one : CountedTarget). same_address (address_of one.target.at) (address_of at)) all
    ≡ list_any (λ (one : Target). same_address (address_of one.at) (address_of at)) (map target_of all)
some_at all at = sym (any-map (λ (one : Target). same_address (address_of one.at) (address_of at)) target_of all)

module _ (rule : List ℕ) (targets : List Target) (old : List TargetFigures) where
  pub none_told : TellsFirst rule targets 0 old old
  none_told = ([], sym (append-nil old), refl)

  -- a target whose address stands ahead of it is told of there
  pub passed_over : (now : List TargetFigures) (count : ℕ) → TellsFirst rule targets count old now → is_repeated targets count ≡ true
      → TellsFirst rule targets (count + 1) old now
  passed_over now count told again =
      let on : count + 1 ≡ suc count = omega arith in
      let none : own_at targets count ≡ [] = ap (λ b. if b then [] else option_to_list (slice_get targets count)) again in (
        told.0,
        told.1,
        told.2 ∙ ap (map (of_target rule)) (sym (append-nil (each_once targets count)) ∙ ap (λ l. each_once targets count ++ l) (sym none) ∙ ap (each_once targets) (sym on)),
      )

  -- any other is told of behind
  pub one_more : (now new : List TargetFigures) (count : ℕ) (one : TargetFigures) (target : Target) → TellsFirst rule targets count old now
      → is_repeated targets count ≡ false → slice_get targets count ≡ Some target → one.rule.bytes ≡ rule
      → one.target.bytes ≡ address_text (address_of target.at) → new ≡ now ++ one ∷ [] → TellsFirst rule targets (count + 1) old new
  one_more now new count one target told fresh there named its is =
      let on : count + 1 ≡ suc count = omega arith in
      let own : own_at targets count ≡ target ∷ [] =
      ap (λ b. if b then [] else option_to_list (slice_get targets count)) fresh ∙ ap option_to_list there in
      let same : whose one ≡ of_target rule target = ap (λ r. (r, one.target.bytes)) named ∙ ap (λ t. (rule, t)) its in (
        told.0 ++ one ∷ [],
        is ∙ ap (λ l. l ++ one ∷ []) told.1 ∙ append_assoc old told.0 (one ∷ []),
        map-append whose told.0 (one ∷ []) ∙ ap (λ l. l ++ whose one ∷ []) told.2
            ∙ ap (λ w. map (of_target rule) (each_once targets count) ++ w ∷ []) same
            ∙ sym (map-append (of_target rule) (each_once targets count) (target ∷ []))
            ∙ ap (map (of_target rule)) (ap (λ l. each_once targets count ++ l) (sym own) ∙ ap (each_once targets) (sym on)),
      )

-- what is got at a place stands there
pub found_at : {X : Type 0} (xs : List X) (place : ℕ) (found : Option (Bor X)) (one : Bor X) → IsItemAt xs place found
    → found ≡ Some one → slice_get xs place ≡ Some one.now
found_at xs place None one none is = absurd (cc)
found_at xs place (Some item) one some is =
    slice_get_read xs (length xs) place item.now refl some.3.0 some.1 ∙ ap option_copied is

-- the address at a place is repeated where one of the targets ahead has it
pub repeated : (all ahead : List CountedTarget) (place : ℕ) (counted : CountedTarget) (found : Bool)
    → found ≡ list_any (λ (one : CountedTarget). same_address (address_of one.target.at) (address_of counted.target.at)) ahead
    → ahead ≡ take place all → slice_get all place ≡ Some counted → found ≡ is_repeated (map target_of all) place
repeated all ahead place counted found is first there =
    let at : slice_get (map target_of all) place ≡ Some counted.target =
    slice_get-map target_of all place ∙ ap (option_map target_of) there in
    is ∙ some_at ahead counted.target.at ∙ ap (λ l. has_address_of (map target_of l) counted.target) first
    ∙ ap (λ l. has_address_of l counted.target) (sym (take-map target_of place all))
    ∙ sym (ap (λ t. option_map_or (has_address_of (take place (map target_of all))) t false) at)

-- a target with a weight stands among them
pub weighs : (all : List CountedTarget) (place : ℕ) (counted : CountedTarget) → slice_get all place ≡ Some counted
    → nat_lt 0 counted.target.weight ≡ true → list_any has_weight (map target_of all) ≡ true
weighs [] place counted there has = absurd (cc)
weighs (one ∷ rest) zero counted there has =
    let same : one ≡ counted = cc in
    ap (λ b. b || list_any has_weight (map target_of rest)) (ap (λ (c : CountedTarget). nat_lt 0 c.target.weight) same ∙ has)
weighs (one ∷ rest) (suc place) counted there has =
    let more = weighs rest place counted there has in
    ap (λ b. has_weight (target_of one) || b) more ∙ or_true (has_weight (target_of one))
  where
    or_true : (b : Bool) → (b || true) ≡ true
    or_true true = refl
    or_true false = refl
