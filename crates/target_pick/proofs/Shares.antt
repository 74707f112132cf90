-- What a share says of its target.
use Rattle.std.proofs.Common.{◌≡◌, ◌∙◌, sym, ap, refl, ℕ, zero, suc, ◌*◌, ◌≤◌, ◌<◌, Bool, true, false, ◌&&◌, not, List, []}
use Rattle.std.proofs.Common.{◌∷◌, get_or, set, All, arith}
use Rattle.std.specs.Prelude.{◌||◌, map, slice_get, slice_index, nat_lt, IsSomeAnd, if◌then◌else◌}
use Rattle.std.specs.List.{list_any}
use Rattle.std.proofs.Math.Nat.{le_of_mul-le-mul_right, mul-le-mul_right, mul_assoc, mul_comm}
use Rattle.std.proofs.lemmas.List.Elements.{All-cons, All-nil}
use Rattle.target_pick.specs.Pick.{MayTakeAt, MustBeBackup, tried, tried_at}
use Rattle.target_pick.specs.Seen.{asks_backups, may_take, same, share_of, shares_of, takes_before_backups, total}
use Rattle.target_pick.specs.declared.seen.Seen.{Seen}

-- ---- One share

share_is : (takes backup backups : Bool) (weight : ℕ) → 0 < (if takes && same backup backups then weight else 0)
    → (takes ≡ true) × (backup ≡ backups)
share_is true true true weight h = (refl, refl)
share_is true false false weight h = (refl, refl)
share_is true true false weight h = absurd (omega arith)
share_is true false true weight h = absurd (omega arith)
share_is false backup backups weight h = absurd (omega arith)

-- what a target with a share is
abbrev IsAsked : Bool → Seen → Type 0
IsAsked backups target = (may_take target ≡ true) × (target.is_backup ≡ backups)

asked : (backups : Bool) (targets : List Seen) (at : ℕ) → 0 < slice_index (map (share_of backups) targets) at
    → IsSomeAnd (slice_get targets at) (IsAsked backups)
asked backups [] at h = absurd (omega arith)
asked backups (target ∷ targets) zero h = share_is (may_take target) target.is_backup backups target.weight h
asked backups (target ∷ targets) (suc at) h = asked backups targets at h

weaker : (P Q : Seen → Type 0) (targets : List Seen) (at : ℕ) → ((target : Seen) → P target → Q target)
    → IsSomeAnd (slice_get targets at) P → IsSomeAnd (slice_get targets at) Q
weaker P Q [] at f h = h
weaker P Q (target ∷ targets) zero f h = f target h
weaker P Q (target ∷ targets) (suc at) f h = weaker P Q targets at f h

-- ---- Backups

no_others : (targets : List Seen) → list_any takes_before_backups targets ≡ false
    → All (λ (other : Seen). takes_before_backups other ≡ false) targets
no_others [] e = All-nil (λ (other : Seen). takes_before_backups other ≡ false)
no_others (target ∷ targets) e =
    let parts = neither (takes_before_backups target) (list_any takes_before_backups targets) e in
    All-cons (λ (other : Seen). takes_before_backups other ≡ false) target targets parts.0 (no_others targets parts.1)
  where
    neither : (b c : Bool) → (b || c) ≡ false → (b ≡ false) × (c ≡ false)
    neither true c e = absurd (cc)
    neither false c e = (refl, e)

not_true : (b : Bool) → not b ≡ true → b ≡ false
not_true true e = absurd (cc)
not_true false e = refl

not_false : (b : Bool) → not b ≡ false → b ≡ true
not_false true e = refl
not_false false e = absurd (cc)

pub takes_at : (targets : List Seen) (at : ℕ) → 0 < slice_index (shares_of targets) at → MayTakeAt targets at
takes_at targets at h =
    weaker (IsAsked (asks_backups targets)) (λ (target : Seen). may_take target ≡ true) targets at (λ target is. is.0)
    (asked (asks_backups targets) targets at h)

pub must_be_backup : (targets : List Seen) (at : ℕ) → 0 < slice_index (shares_of targets) at → MustBeBackup targets at
must_be_backup targets at h =
    weaker (IsAsked (asks_backups targets))
    (λ (target : Seen). target.is_backup ≡ true → All (λ (other : Seen). takes_before_backups other ≡ false) targets)
    targets at (λ target is backup. no_others targets (not_true (list_any takes_before_backups targets) (sym is.1 ∙ backup)))
    (asked (asks_backups targets) targets at h)

-- ---- None

and_parts : (b c : Bool) → (b && c) ≡ true → (b ≡ true) × (c ≡ true)
and_parts true c e = (refl, e)
and_parts false c e = absurd (cc)

has_weight : (b c d : Bool) (weight : ℕ) → (b && (c && (d && nat_lt 0 weight))) ≡ true → 0 < weight
has_weight b c d zero e =
    let one = and_parts b (c && (d && nat_lt 0 0)) e in
    let two = and_parts c (d && nat_lt 0 0) one.1 in
    let three = and_parts d (nat_lt 0 0) two.1 in
    absurd (let h : false ≡ true = three.1 in cc)
has_weight b c d (suc weight) e = omega arith

weighs : (target : Seen) → may_take target ≡ true → 0 < target.weight
weighs target e = has_weight target.is_up (not target.is_drained) (not target.was_tried) target.weight e

share_here : (backups : Bool) (target : Seen) → may_take target ≡ true → target.is_backup ≡ backups
    → share_of backups target ≡ target.weight
share_here backups target takes is = by_case (may_take target) target.is_backup backups takes is
  where
    by_case : (t b c : Bool) → t ≡ true → b ≡ c → (if t && same b c then target.weight else 0) ≡ target.weight
    by_case true true true e f = refl
    by_case true false false e f = refl
    by_case true true false e f = absurd (cc)
    by_case true false true e f = absurd (cc)
    by_case false b c e f = absurd (cc)

-- where another target may take the client, the shares of those that are no backups aren't all 0
some_share : (targets : List Seen) → list_any takes_before_backups targets ≡ true → 0 < total (map (share_of false) targets)
some_share [] e = absurd (cc)
some_share (target ∷ targets) e = by_case (λ rest. some_share targets rest) (takes_before_backups target) refl
  where
    later : (b c : Bool) → b ≡ false → (b || c) ≡ true → c ≡ true
    later true c e f = absurd (cc)
    later false c e f = f

    by_case : (list_any takes_before_backups targets ≡ true → 0 < total (map (share_of false) targets))
        → (b : Bool) → takes_before_backups target ≡ b → 0 < total (map (share_of false) (target ∷ targets))
    by_case others true is =
        let parts = and_parts (may_take target) (not target.is_backup) is in
        let share = share_here false target parts.0 (not_true target.is_backup parts.1) in
        let weight = weighs target parts.0 in
        omega arith
    by_case others false is =
        let some = others (later (takes_before_backups target) (list_any takes_before_backups targets) is e) in
        omega arith

none_of_backups : (targets : List Seen) → list_any takes_before_backups targets ≡ false
    → total (map (share_of true) targets) ≡ 0 → All (λ (target : Seen). may_take target ≡ false) targets
none_of_backups [] e h = All-nil (λ (target : Seen). may_take target ≡ false)
none_of_backups (target ∷ targets) e h =
    All-cons (λ (target : Seen). may_take target ≡ false) target targets (by_case (may_take target) target.is_backup refl refl)
    (none_of_backups targets parts.1 (omega arith))
  where
    neither : (b c : Bool) → (b || c) ≡ false → (b ≡ false) × (c ≡ false)
    neither true c e = absurd (cc)
    neither false c e = (refl, e)

    parts : (takes_before_backups target ≡ false) × (list_any takes_before_backups targets ≡ false)
    parts = neither (takes_before_backups target) (list_any takes_before_backups targets) e

    by_case : (t b : Bool) → may_take target ≡ t → target.is_backup ≡ b → may_take target ≡ false
    by_case false b is backup = is
    by_case true true is backup =
        let share = share_here true target is backup in
        let weight = weighs target is in
        absurd (omega arith)
    by_case true false is backup =
        let takes : takes_before_backups target ≡ true =
        ap (λ (x : Bool). x && not target.is_backup) is ∙ ap (λ (x : Bool). not x) backup in
        absurd (let h : true ≡ false = sym takes ∙ parts.0 in cc)

pub none_takes : (targets : List Seen) → total (shares_of targets) ≡ 0 → All (λ (target : Seen). may_take target ≡ false) targets
none_takes targets h = by_case (asks_backups targets) refl
  where
    by_case : (b : Bool) → asks_backups targets ≡ b → All (λ (target : Seen). may_take target ≡ false) targets
    by_case true is =
        none_of_backups targets (not_true (list_any takes_before_backups targets) is)
        (ap (λ (b : Bool). total (map (share_of b) targets)) (sym is) ∙ h)
    by_case false is =
        let some = some_share targets (not_false (list_any takes_before_backups targets) is) in
        let same_total : total (map (share_of false) targets) ≡ 0 = ap (λ (b : Bool). total (map (share_of b) targets)) (sym is) ∙ h in
        absurd (omega arith)

-- all shares 0 come to 0
pub total_of_none : (shares : List ℕ) → ((k : ℕ) → slice_index shares k ≡ 0) → total shares ≡ 0
total_of_none [] h = refl
total_of_none (share ∷ shares) h =
    let head = h 0 in
    let later = total_of_none shares (λ k. h (suc k)) in
    omega arith

-- ---- Tries

pub tried_once : (targets : List Seen) (at : ℕ) → MayTakeAt (tried_at targets at) at → ⊥
tried_once [] at h = h
tried_once (target ∷ targets) zero h = no_more target.is_up (not target.is_drained) (nat_lt 0 target.weight) h
  where
    no_more : (b c d : Bool) → (b && (c && (false && d))) ≡ true → ⊥
    no_more b c d e =
        let one = and_parts b (c && false) e in
        let two = and_parts c false one.1 in
        absurd (let h : false ≡ true = two.1 in cc)
tried_once (target ∷ targets) (suc at) h = tried_once targets at h

pub tries_allow_nothing : (targets : List Seen) (at other : ℕ) → MayTakeAt (tried_at targets other) at → MayTakeAt targets at
tries_allow_nothing [] at other h = h
tries_allow_nothing (target ∷ targets) zero zero h = absurd (tried_once (target ∷ targets) zero h)
tries_allow_nothing (target ∷ targets) zero (suc other) h = h
tries_allow_nothing (target ∷ targets) (suc at) zero h = h
tries_allow_nothing (target ∷ targets) (suc at) (suc other) h = tries_allow_nothing targets at other h

-- ---- Fewest connections

-- one has no more for each of its turns than two, and two no more than three, so one no more than three
swap : (a b d : ℕ) → a * b * d ≡ a * d * b
swap a b d = mul_assoc a b d ∙ ap (λ (n : ℕ). a * n) (mul_comm b d) ∙ sym (mul_assoc a d b)

pub crosses : (c c' c'' w w' w'' : ℕ) → 0 < w' → c * w' ≤ c' * w → c' * w'' ≤ c'' * w' → c * w'' ≤ c'' * w
crosses c c' c'' w w' w'' some h k =
    let one : c * w' * w'' ≤ c' * w * w'' = mul-le-mul_right w'' h in
    let two : c' * w'' * w ≤ c'' * w' * w = mul-le-mul_right w k in
    let e = swap c w'' w' in
    let f = swap c' w w'' in
    let g = swap c'' w' w in
    let chain : c * w'' * w' ≤ c'' * w * w' = omega arith in
    le_of_mul-le-mul_right {m = c * w''} {n = c'' * w} {k = w'} chain some

-- ---- What a change of one target is

pub set_tried : (targets : List Seen) (at : ℕ) (d : Seen) → set targets at (tried (get_or targets at d)) ≡ tried_at targets at
set_tried [] at d = refl
set_tried (target ∷ targets) zero d = refl
set_tried (target ∷ targets) (suc at) d = ap (λ (rest : List Seen). target ∷ rest) (set_tried targets at d)
