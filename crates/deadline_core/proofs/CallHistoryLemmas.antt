-- When the calls of an owner give up, once more happens to them.
use Rattle.std.proofs.Common.{◌≡◌, ℕ, ◌≤◌, ◌⊎◌, inl, inr, Bool, true, false, List, [], ◌∷◌, ◌++◌, refl, sym, ap, subst}
use Rattle.std.proofs.Common.{◌∙◌, Option, Some, None, find, cond, ◌||◌}
use Rattle.std.specs.List.{list_any}
use Rattle.base_types.specs.declared.direction.Dir.{Dir}
use Rattle.base_types.specs.declared.direction.Dir.TheVariants.{Read, Write}
use Rattle.deadline_core.specs.declared.deadline.Deadline.{Deadline}
use Rattle.deadline_core.specs.declared.deadline.Deadline.TheVariants.{At}
use Rattle.deadline_core.specs.PollHistory.{same_dir}
use Rattle.deadline_core.specs.CallHistory.{CallEvent, Begun, Answered, Told, limits, moves_call, limit_in, limit_of}
use Rattle.deadline_core.specs.CallHistory.{is_begun, is_under_way, awaited, IsNext}
use Rattle.deadline_core.specs.Moments.{earlier_of}
use Rattle.deadline_core.proofs.MomentLemmas.{earlier_is_one, earlier_covers_one, earlier_covers_other}
use Rattle.deadline_core.specs.Moments.{IsCovered}

-- ---- the earliest moment

some_of : (events : List CallEvent) (at : ℕ) → (awaited Read events ≡ Some at) ⊎ (awaited Write events ≡ Some at) →
    (dir : Dir) × (awaited dir events ≡ Some at)
some_of events at (inl read) = (Read, read)
some_of events at (inr write) = (Write, write)

least_of : (events : List CallEvent) (at : ℕ) → IsCovered (awaited Read events) (Some at) →
    IsCovered (awaited Write events) (Some at) → (dir : Dir) (other : ℕ) →
    awaited dir events ≡ Some other → at ≤ other
least_of events at first second Read other is = subst (λ (m : Option ℕ). IsCovered m (Some at)) is first
least_of events at first second Write other is = subst (λ (m : Option ℕ). IsCovered m (Some at)) is second

none_of : (one other : Option ℕ) → None ≡ earlier_of one other → (one ≡ None) × (other ≡ None)
none_of None None is = (refl, refl)
none_of None (Some at) is = cc
none_of (Some at) None is = cc
none_of (Some at) (Some moment) is = cc

none_awaited : (events : List CallEvent) → (awaited Read events ≡ None) × (awaited Write events ≡ None) →
    (dir : Dir) → awaited dir events ≡ None
none_awaited events both Read = both.0
none_awaited events both Write = both.1

pub next_of : (events : List CallEvent) (found : Option ℕ) →
    found ≡ earlier_of (awaited Read events) (awaited Write events) → IsNext events found
next_of events None is = none_awaited events (none_of (awaited Read events) (awaited Write events) is)
next_of events (Some at) is = (
  some_of events at (subst (λ m. (awaited Read events ≡ m) ⊎ (awaited Write events ≡ m)) (sym is)
      (earlier_is_one (awaited Read events) (awaited Write events))),
  least_of events at
      (subst (λ m. IsCovered (awaited Read events) m) (sym is) (earlier_covers_one (awaited Read events) (awaited Write events)))
      (subst (λ m. IsCovered (awaited Write events) m) (sym is) (earlier_covers_other (awaited Read events) (awaited Write events))),
)

-- ---- what was said last

neither : (a b : Bool) → (a || b) ≡ false → (a ≡ false) × (b ≡ false)
neither true b h = absurd (let no : true ≡ false = h in cc)
neither false b h = (refl, h)

-- what no added event is, is found where it was
find_skip : (p : CallEvent → Bool) (later events : List CallEvent) → list_any p later ≡ false →
    find p (later ++ events) ≡ find p events
find_skip p [] events none = refl
find_skip p (event ∷ later) events none =
    let split = neither (p event) (list_any p later) none in
    rw split.0 (find_skip p later events split.1)

find_here : (p : CallEvent → Bool) (event : CallEvent) (events : List CallEvent) → p event ≡ true →
    find p (event ∷ events) ≡ Some event
find_here p event events picked = rw picked refl

find_without : (p : CallEvent → Bool) (event : CallEvent) (later events : List CallEvent) → p event ≡ false →
    find p (later ++ event ∷ events) ≡ find p (later ++ events)
find_without p event [] events unpicked = rw unpicked refl
find_without p event (one ∷ later) events unpicked =
    ap (cond (p one) (Some one)) (find_without p event later events unpicked)

same_is : (dir : Dir) → same_dir dir dir ≡ true
same_is Read = refl
same_is Write = refl

pub own_moment_decides : (dir : Dir) (at : ℕ) (later earlier : List CallEvent) → list_any (limits dir) later ≡ false →
    limit_of dir (later ++ Begun dir (Some at) ∷ earlier) ≡ At at
own_moment_decides dir at later earlier none =
    ap limit_in (find_skip (limits dir) later (Begun dir (Some at) ∷ earlier) none
    ∙ find_here (limits dir) (Begun dir (Some at)) earlier (same_is dir))

pub told_deadline_decides : (dir : Dir) (deadline : Deadline) (later earlier : List CallEvent) →
    list_any (limits dir) later ≡ false → limit_of dir (later ++ Told dir deadline ∷ earlier) ≡ deadline
told_deadline_decides dir deadline later earlier none =
    ap limit_in (find_skip (limits dir) later (Told dir deadline ∷ earlier) none
    ∙ find_here (limits dir) (Told dir deadline) earlier (same_is dir))

pub limit_without : (dir : Dir) (event : CallEvent) (later events : List CallEvent) → limits dir event ≡ false →
    limit_of dir (later ++ event ∷ events) ≡ limit_of dir (later ++ events)
limit_without dir event later events other = ap limit_in (find_without (limits dir) event later events other)

pub answered_awaits_nothing : (dir : Dir) (later earlier : List CallEvent) → list_any (moves_call dir) later ≡ false →
    awaited dir (later ++ Answered dir ∷ earlier) ≡ None
answered_awaits_nothing dir later earlier none =
    let over : is_under_way dir (later ++ Answered dir ∷ earlier) ≡ false =
    ap is_begun (find_skip (moves_call dir) later (Answered dir ∷ earlier) none
    ∙ find_here (moves_call dir) (Answered dir) earlier (same_is dir)) in
    rw over refl
