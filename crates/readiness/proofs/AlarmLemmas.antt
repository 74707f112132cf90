-- The alarms of a loop's tasks, where one place is changed or none is.
use Rattle.std.proofs.Common.{◌≡◌, ◌≢◌, ℕ, ◌<◌, ◌≤◌, inl, inr, refl, sym, ap, subst, ◌∙◌, Option, Some, None, arith, length}
use Rattle.std.specs.Prelude.{List, option_and_then, OnSome, IfNone, OnErr, Result, Ok, Err}
use Rattle.std.specs.Option.{option_map}
use Rattle.std.proofs.lemmas.Bool.{cases_eq, cases_lt}
use Rattle.std.proofs.lemmas.List.{get_or_past}
use Rattle.slab.specs.Slab.{get}
use Rattle.deadline_core.specs.Moments.{IsCovered}
use Rattle.deadline_core.specs.PlaceAlarms.{alarm_of}
use Rattle.readiness.specs.TaskAlarms.{serial_at, task_at, alarm_by_place, awaited_at, IsPlacedBy, IsPlaced, IsArmed, AreArmedBut, AreArmed, KeepsArmed, StandStill, StandApart, NoneComes}
use Rattle.readiness.specs.declared.tasks.Slot.{Slot}
use Rattle.readiness.specs.declared.tasks.Tasks.{Tasks}

more_room : (place room more : ℕ) (serial alarm : Option ℕ) → room ≤ more → IsPlacedBy room place serial alarm →
    IsPlacedBy more place serial alarm
more_room place room more None alarm fits placed = placed
more_room place room more (Some serial) alarm fits placed = (omega (arith, placed.0), placed.1, placed.2)

still_placed : {T A : Type 0} (old new : Tasks T A) (place : ℕ) → serial_at new place ≡ serial_at old place →
    alarm_by_place new place ≡ alarm_by_place old place → length old.alarms ≤ length new.alarms → IsPlaced old place →
    IsPlaced new place
still_placed old new place serial alarm room placed =
    subst (λ (s : Option ℕ). IsPlacedBy (length new.alarms) place s (alarm_by_place new place)) (sym serial)
    (subst (λ (m : Option ℕ). IsPlacedBy (length new.alarms) place (serial_at old place) m) (sym alarm)
    (more_room place (length old.alarms) (length new.alarms) (serial_at old place) (alarm_by_place old place) room placed))

still_armed_at : {T A : Type 0} (awaited : T → Option ℕ) (old new : Tasks T A) (place : ℕ) →
    task_at new place ≡ task_at old place → alarm_by_place new place ≡ alarm_by_place old place → IsArmed awaited old place →
    IsArmed awaited new place
still_armed_at awaited old new place task alarm armed =
    let asked : awaited_at awaited new place ≡ awaited_at awaited old place =
    ap (λ t. option_and_then awaited t) task in
    subst (λ (m : Option ℕ). IsCovered m (alarm_by_place new place)) (sym asked)
    (subst (λ (m : Option ℕ). IsCovered (awaited_at awaited old place) m) (sym alarm) armed)

-- where nothing changes but the room for alarms, what was armed is
pub kept_armed : {T A : Type 0} (old new : Tasks T A) → ((place : ℕ) → serial_at new place ≡ serial_at old place) →
    ((place : ℕ) → task_at new place ≡ task_at old place) → ((place : ℕ) → alarm_by_place new place ≡ alarm_by_place old place) →
    length old.alarms ≤ length new.alarms → KeepsArmed old new
kept_armed old new serials tasks alarms room awaited but armed = record {
  placed = λ place. still_placed old new place (serials place) (alarms place) room (armed.placed place);
  armed = λ place away. still_armed_at awaited old new place (tasks place) (alarms place) (armed.armed place away);
}

-- where nothing changes, what was armed is
pub still_armed : {T A : Type 0} (old new : Tasks T A) → StandStill old new → KeepsArmed old new
still_armed old new still = kept_armed old new still.serials still.tasks still.alarms (omega (arith, still.room))

-- where one place changes, all others are armed as they were
pub moved : {T A : Type 0} (old new : Tasks T A) (at : ℕ) → StandApart old new at → IsPlaced new at →
    (awaited : T → Option ℕ) (before after : Option ℕ) →
    ((place : ℕ) → place ≢ at → after ≢ Some place → before ≢ Some place) →
    (after ≢ Some at → IsArmed awaited new at) → AreArmedBut awaited before old → AreArmedBut awaited after new
moved old new at apart here awaited before after others one armed = record {
  placed = λ place. elim (cases_eq place at) [
    | inl same ↦ subst (λ n. IsPlaced new n) (sym same) here
    | inr other ↦ still_placed old new place (apart.serials place other) (apart.alarms place other) (omega (arith, apart.room))
        (armed.placed place)
  ];
  armed = λ place away. elim (cases_eq place at) [
    | inl same ↦ subst (λ n. IsArmed awaited new n) (sym same)
        (one (λ but. away (but ∙ ap Some (sym same))))
    | inr other ↦ still_armed_at awaited old new place (apart.tasks place other) (apart.alarms place other)
        (armed.armed place (others place other away))
  ];
}

some_is : (one other : ℕ) → Some one ≡ Some other → one ≡ other
some_is one other same = cc

none_is_some : (place : ℕ) → let none : Option ℕ = None in none ≢ Some place
none_is_some place same = cc

-- one place is open after a change at it
pub open_at : {T A : Type 0} (old new : Tasks T A) (at : ℕ) → StandApart old new at → IsPlaced new at →
    (awaited : T → Option ℕ) → AreArmed awaited old → AreArmedBut awaited (Some at) new
open_at old new at apart here awaited armed =
    moved old new at apart here awaited None (Some at) (λ place other away. none_is_some place)
    (λ away. absurd (away refl)) armed

-- it stays open
pub stays_open : {T A : Type 0} (old new : Tasks T A) (at : ℕ) → StandApart old new at → IsPlaced new at →
    (awaited : T → Option ℕ) → AreArmedBut awaited (Some at) old → AreArmedBut awaited (Some at) new
stays_open old new at apart here awaited armed =
    moved old new at apart here awaited (Some at) (Some at) (λ place other away. away)
    (λ away. absurd (away refl)) armed

-- it is closed once its task has an alarm
pub closed_at : {T A : Type 0} (old new : Tasks T A) (at : ℕ) → StandApart old new at → IsPlaced new at →
    (awaited : T → Option ℕ) → IsArmed awaited new at → AreArmedBut awaited (Some at) old → AreArmed awaited new
closed_at old new at apart here awaited one armed =
    moved old new at apart here awaited (Some at) None
    (λ place other away same. other (sym (some_is at place same))) (λ away. one) armed

-- where the one place has an alarm, whatever was armed is
pub kept_at : {T A : Type 0} (old new : Tasks T A) (at : ℕ) → StandApart old new at → IsPlaced new at →
    ((awaited : T → Option ℕ) → IsArmed awaited new at) → KeepsArmed old new
kept_at old new at apart here one awaited but armed =
    moved old new at apart here awaited but but (λ place other away. away) (λ away. one awaited) armed

-- a place without a task and an alarm is placed
pub empty_placed : {T A : Type 0} (tasks : Tasks T A) (place : ℕ) → serial_at tasks place ≡ None →
    alarm_by_place tasks place ≡ None → IsPlaced tasks place
empty_placed tasks place none alarm = subst (λ (s : Option ℕ). IsPlacedBy (length tasks.alarms) place s
    (alarm_by_place tasks place)) (sym none) alarm

-- one place changes after another time that it did
pub apart_then : {T A : Type 0} (old mid new : Tasks T A) (at : ℕ) → StandApart old mid at → StandApart mid new at →
    StandApart old new at
apart_then old mid new at first then = record {
  serials = λ place away. then.serials place away ∙ first.serials place away;
  tasks = λ place away. then.tasks place away ∙ first.tasks place away;
  alarms = λ place away. then.alarms place away ∙ first.alarms place away;
  room = then.room ∙ first.room;
}

-- where nothing changes, no other place does
pub still_apart : {T A : Type 0} (old new : Tasks T A) (at : ℕ) → StandStill old new → StandApart old new at
still_apart old new at still = record {
  serials = λ place away. still.serials place;
  tasks = λ place away. still.tasks place;
  alarms = λ place away. still.alarms place;
  room = still.room;
}

-- ---- no task comes

pub none_then : {T A : Type 0} (old mid new : Tasks T A) → NoneComes old mid → NoneComes mid new → NoneComes old new
none_then old mid new first then place serial stands = first place serial (then place serial stands)

pub same_serials : {T A : Type 0} (old new : Tasks T A) → ((place : ℕ) → serial_at new place ≡ serial_at old place) →
    NoneComes old new
same_serials old new same place serial stands = sym (same place) ∙ stands

-- a task that went on may await another moment
pub gone_on : {T A : Type 0} (old come gone : Tasks T A) (at : ℕ) → StandStill old come → StandApart come gone at →
    ((place : ℕ) → serial_at gone place ≡ serial_at come place) → gone.alarms ≡ come.alarms →
    (awaited : T → Option ℕ) → AreArmed awaited old → AreArmedBut awaited (Some at) gone
gone_on old come gone at still apart serials same awaited armed =
    let came : AreArmed awaited come = still_armed old come still awaited None armed in
    open_at come gone at apart (still_placed come gone at (serials at) (ap (λ (m : List (Option ℕ)). alarm_of m at) same)
    (omega (arith, apart.room)) (came.placed at)) awaited came

-- the place that stood open has an alarm by then already
pub closed_here : {T A : Type 0} (tasks : Tasks T A) (at : ℕ) (awaited : T → Option ℕ) → IsArmed awaited tasks at →
    AreArmedBut awaited (Some at) tasks → AreArmed awaited tasks
closed_here tasks at awaited one armed = record {
  placed = armed.placed;
  armed = λ place away. elim (cases_eq place at) [
    | inl same ↦ subst (λ n. IsArmed awaited tasks n) (sym same) one
    | inr other ↦ armed.armed place (λ same. other (sym (some_is at place same)))
  ];
}

-- ---- a place whose alarm is set to what is awaited

-- the moment that the task in a slot awaits
abbrev pub awaited_in : {T : Type 0} → (T → Option ℕ) → Option (Slot T) → Option ℕ
awaited_in awaited slot = option_and_then awaited (option_map (λ one. one.task) slot)

abbrev pub serial_in_slot : {T : Type 0} → Option (Slot T) → Option ℕ
serial_in_slot slot = option_map (λ one. one.serial) slot

covers_itself : (moment : Option ℕ) → IsCovered moment moment
covers_itself None = tt
covers_itself (Some at) = omega arith

covered_by_own : {T : Type 0} (awaited : T → Option ℕ) (slot : Option (Slot T)) (place room : ℕ) (alarm : Option ℕ) →
    (before : Option ℕ) → IsPlacedBy room place (serial_in_slot slot) before →
    (place < room → alarm ≡ awaited_in awaited slot) → IsCovered (awaited_in awaited slot) alarm
covered_by_own awaited None place room alarm before placed set = tt
covered_by_own awaited (Some slot) place room alarm before placed set =
    subst (λ (m : Option ℕ). IsCovered (awaited slot.task) m) (sym (set placed.0)) (covers_itself (awaited slot.task))

-- its task has an alarm by then
pub set_covers : {T A : Type 0} (old new : Tasks T A) (at : ℕ) (awaited : T → Option ℕ) →
    new ≡ record old { alarms = new.alarms } → IsPlaced old at →
    (at < length old.alarms → alarm_by_place new at ≡ awaited_at awaited old at) → IsArmed awaited new at
set_covers old new at awaited kept placed set =
    subst (λ (m : Option ℕ). IsCovered m (alarm_by_place new at)) (sym (ap (λ t. awaited_at awaited t at) kept))
    (covered_by_own awaited (get old.slots at) at (length old.alarms) (alarm_by_place new at) (alarm_by_place old at) placed set)

exactly_own : {T : Type 0} (awaited : T → Option ℕ) (slot : Option (Slot T)) (place room : ℕ)
    (alarms : List (Option ℕ)) (before : Option ℕ) → length alarms ≡ room →
    IsPlacedBy room place (serial_in_slot slot) before →
    (place < room → alarm_of alarms place ≡ awaited_in awaited slot) → alarm_of alarms place ≡ awaited_in awaited slot
exactly_own awaited None place room alarms before long placed set = elim (cases_lt place room) [
  | inl below ↦ set below
  | inr past ↦ get_or_past alarms place None (omega (arith, long))
]
exactly_own awaited (Some slot) place room alarms before long placed set = set placed.0

placed_own : {T : Type 0} (awaited : T → Option ℕ) (slot : Option (Slot T)) (place room : ℕ) (before alarm : Option ℕ) →
    IsPlacedBy room place (serial_in_slot slot) before → alarm ≡ awaited_in awaited slot →
    IsPlacedBy room place (serial_in_slot slot) alarm
placed_own awaited None place room before alarm placed own = own
placed_own awaited (Some slot) place room before alarm placed own = placed

-- its alarm is at that moment, and there is none where none is awaited
pub set_exactly : {T A : Type 0} (old new : Tasks T A) (at : ℕ) (awaited : T → Option ℕ) →
    length new.alarms ≡ length old.alarms → IsPlaced old at →
    (at < length old.alarms → alarm_by_place new at ≡ awaited_at awaited old at) →
    alarm_by_place new at ≡ awaited_at awaited old at
set_exactly old new at awaited long placed set =
    exactly_own awaited (get old.slots at) at (length old.alarms) new.alarms (alarm_by_place old at) long placed set

-- it is placed as it was
pub set_placed : {T A : Type 0} (old new : Tasks T A) (at : ℕ) (awaited : T → Option ℕ) →
    new ≡ record old { alarms = new.alarms } → length new.alarms ≡ length old.alarms → IsPlaced old at →
    (at < length old.alarms → alarm_by_place new at ≡ awaited_at awaited old at) → IsPlaced new at
set_placed old new at awaited kept long placed set =
    subst (λ (s : Option ℕ). IsPlacedBy (length new.alarms) at s (alarm_by_place new at)) (sym (ap (λ t. serial_at t at) kept))
    (subst (λ (n : ℕ). IsPlacedBy n at (serial_at old at) (alarm_by_place new at)) (sym long)
    (placed_own awaited (get old.slots at) at (length old.alarms) (alarm_by_place old at) (alarm_by_place new at) placed
    (set_exactly old new at awaited long placed set)))

covered_nobody : {T : Type 0} (awaited : T → Option ℕ) (slot : Option (Slot T)) (alarm : Option ℕ) →
    serial_in_slot slot ≡ None → IsCovered (awaited_in awaited slot) alarm
covered_nobody awaited None alarm none = tt
covered_nobody awaited (Some slot) alarm none = cc

-- a task that is taken out leaves the others armed as they were
pub taken : {T A : Type 0} (old new : Tasks T A) (at : ℕ) (result : Option T) → StandApart old new at →
    OnSome result ((serial_at new at ≡ None) × (alarm_by_place new at ≡ None)) → IfNone result (new ≡ old) →
    KeepsArmed old new
taken old new at None apart empty same = subst (λ t. KeepsArmed old t) (sym same) (λ awaited but armed. armed)
taken old new at (Some task) apart empty same = kept_at old new at apart (empty_placed new at empty.0 empty.1)
    (λ awaited. covered_nobody awaited (get new.slots at) (alarm_by_place new at) empty.0)

-- a task that is handed back leaves all armed as they were
pub handed_back : {T A P : Type 0} (old new : Tasks T A) (result : Result P T) → OnErr result (new ≡ old) →
    OnErr result (KeepsArmed old new)
handed_back old new (Ok place) same = tt
handed_back old new (Err task) same = subst (λ t. KeepsArmed old t) (sym same) (λ awaited but armed. armed)
