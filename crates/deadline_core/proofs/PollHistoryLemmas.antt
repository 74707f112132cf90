-- What a list of calls says once calls are added to it, or one is left out of it.
use Rattle.std.proofs.Common.{◌+◌, take, add_comm, add-one, ◌≡◌, ℕ, Bool, true, false, cond, not, ◌||◌, ◌&&◌, List, []}
use Rattle.std.proofs.Common.{◌∷◌, ◌++◌, refl, sym, ap, ◌∙◌, Option, Some, None, Result, Ok, Err, find, append-nil}
use Rattle.std.proofs.Common.{append_assoc}
use Rattle.std.specs.Prelude.{take_while, nat_le, if◌then◌else◌}
use Rattle.std.specs.List.{prefix_len, list_any, filter_map, cons_option}
use Rattle.std.proofs.lemmas.List.Folds.{list_any-append}
use Rattle.std.proofs.lemmas.List.Elements.{filter_map-append}
use Rattle.base_types.specs.declared.direction.Dir.{Dir}
use Rattle.base_types.specs.declared.direction.Dir.TheVariants.{Read, Write}
use Rattle.deadline_core.specs.declared.deadline.Deadline.{Deadline}
use Rattle.deadline_core.specs.declared.deadline.Deadline.TheVariants.{Never, At}
use Rattle.deadline_core.specs.declared.deadline.Dirs.{Dirs}
use Rattle.deadline_core.specs.declared.refusal.Refusal.{Refusal}
use Rattle.deadline_core.specs.declared.refusal.Refusal.TheVariants.{Closed, DeadlineExceeded}
use Rattle.deadline_core.specs.declared.poll_state.Look.TheVariants.{Go}
use Rattle.deadline_core.specs.PollHistory.{covers, Call, Prepared, Looked, Readied, DeadlineSet, Ticked, Evicted, sets}
use Rattle.deadline_core.specs.PollHistory.{readies, moves_notice, is_evicted, tick_moment, deadline_in, moment_in}
use Rattle.deadline_core.specs.PollHistory.{is_readied, closing, last_set, since_set, deadline_of, moments_of, passed}
use Rattle.deadline_core.specs.PollHistory.{expired, notice, why_refused, refusal_of, look_at, look_answer, is_go}

-- ---- tests over lists

neither : (a b : Bool) → (a || b) ≡ false → (a ≡ false) × (b ≡ false)
neither true b h = absurd (let no : true ≡ false = h in cc)
neither false b h = (refl, h)

or_true : (a : Bool) → (a || true) ≡ true
or_true true = refl
or_true false = refl

and_false : (a : Bool) → (a && false) ≡ false
and_false true = refl
and_false false = refl

-- what no added call is, is found where it was
find_skip : (p : Call → Bool) (later calls : List Call) → list_any p later ≡ false →
    find p (later ++ calls) ≡ find p calls
find_skip p [] calls none = refl
find_skip p (call ∷ later) calls none =
    let split = neither (p call) (list_any p later) none in
    rw split.0 (find_skip p later calls split.1)

find_none : (p : Call → Bool) (calls : List Call) → list_any p calls ≡ false → find p calls ≡ None
find_none p [] none = refl
find_none p (call ∷ calls) none =
    let split = neither (p call) (list_any p calls) none in
    rw split.0 (find_none p calls split.1)

find_here : (p : Call → Bool) (call : Call) (calls : List Call) → p call ≡ true → find p (call ∷ calls) ≡ Some call
find_here p call calls picked = rw picked refl

-- a call that isn't looked for may be left out
find_without : (p : Call → Bool) (call : Call) (later calls : List Call) → p call ≡ false →
    find p (later ++ call ∷ calls) ≡ find p (later ++ calls)
find_without p call [] calls unpicked = rw unpicked refl
find_without p call (one ∷ later) calls unpicked =
    ap (cond (p one) (Some one)) (find_without p call later calls unpicked)

take_kept : (n : ℕ) (call : Call) (calls : List Call) → take (1 + n) (call ∷ calls) ≡ call ∷ take n calls
take_kept n call calls = ap (λ m. take m (call ∷ calls)) (add_comm 1 n ∙ add-one n)

-- a call that doesn't end the stretch belongs to it
since_more : (p : Call → Bool) (call : Call) (calls : List Call) → p call ≡ false →
    take_while (λ call. not (p call)) (call ∷ calls) ≡ call ∷ take_while (λ call. not (p call)) calls
since_more p call calls unpicked =
    ap (λ b. take (cond (not b) (1 + prefix_len (λ call. not (p call)) calls) 0) (call ∷ calls)) unpicked
    ∙ take_kept (prefix_len (λ call. not (p call)) calls) call calls

since_skip : (p : Call → Bool) (later calls : List Call) → list_any p later ≡ false →
    take_while (λ call. not (p call)) (later ++ calls) ≡ later ++ take_while (λ call. not (p call)) calls
since_skip p [] calls none = refl
since_skip p (call ∷ later) calls none =
    let split = neither (p call) (list_any p later) none in
    since_more p call (later ++ calls) split.0 ∙ ap (λ rest. call ∷ rest) (since_skip p later calls split.1)

since_here : (p : Call → Bool) (call : Call) (calls : List Call) → p call ≡ true →
    take_while (λ call. not (p call)) (call ∷ calls) ≡ []
since_here p call calls picked = rw picked refl

abbrev ticks_since : (Call → Bool) → List Call → List ℕ
ticks_since p calls = filter_map tick_moment (take_while (λ call. not (p call)) calls)

ticks_more : (p : Call → Bool) (call : Call) (calls : List Call) → p call ≡ false →
    ticks_since p (call ∷ calls) ≡ cons_option (tick_moment call) (ticks_since p calls)
ticks_more p call calls unpicked = ap (filter_map tick_moment) (since_more p call calls unpicked)

-- a call that is no tick and no set may be left out of the ticks since a set
ticks_without : (p : Call → Bool) (call : Call) (later calls : List Call) → p call ≡ false → tick_moment call ≡ None →
    ticks_since p (later ++ call ∷ calls) ≡ ticks_since p (later ++ calls)
ticks_without p call [] calls unpicked no_tick = ticks_more p call calls unpicked ∙
    ap (λ o. cons_option o (ticks_since p calls)) no_tick
ticks_without p call (one ∷ later) calls unpicked no_tick =
    let shorter = ticks_without p call later calls unpicked no_tick in
    elim (p one) as (λ b. p one ≡ b → ticks_since p (one ∷ (later ++ call ∷ calls)) ≡
    ticks_since p (one ∷ (later ++ calls))) [
      | true ↦ λ is. ap (filter_map tick_moment)
          (since_here p one (later ++ call ∷ calls) is ∙ sym (since_here p one (later ++ calls) is))
      | false ↦ λ is. ticks_more p one (later ++ call ∷ calls) is ∙ ap (cons_option (tick_moment one)) shorter ∙
          sym (ticks_more p one (later ++ calls) is)
    ] refl

-- ---- expiry

passed-append : (deadline : Deadline) (moments others : List ℕ) →
    passed deadline (moments ++ others) ≡ (passed deadline moments || passed deadline others)
passed-append Never moments others = refl
passed-append (At moment) moments others = list_any-append (nat_le moment) moments others

-- calls that don't set the deadline add their ticks
expired_later : (dir : Dir) (later calls : List Call) → list_any (sets dir) later ≡ false
    → expired dir (later ++ calls) ≡ (passed (deadline_of dir calls)
    (filter_map tick_moment later) || expired dir calls)
expired_later dir later calls none =
    let ticks = filter_map tick_moment in
    ap (λ o. passed (deadline_in o) (ticks (since_set dir (later ++ calls)) ++ moment_in o))
    (find_skip (sets dir) later calls none)
    ∙ ap (λ since. passed (deadline_of dir calls) (ticks since ++ moment_in (last_set dir calls)))
    (since_skip (sets dir) later calls none)
    ∙ ap (λ moments. passed (deadline_of dir calls) (moments ++ moment_in (last_set dir calls)))
    (filter_map-append tick_moment later (since_set dir calls))
    ∙ ap (passed (deadline_of dir calls)) (append_assoc (ticks later) (ticks (since_set dir calls))
    (moment_in (last_set dir calls)))
    ∙ passed-append (deadline_of dir calls) (ticks later) (moments_of dir calls)

pub stays_expired : (dir : Dir) (later calls : List Call) → list_any (sets dir) later ≡ false →
    expired dir calls ≡ true → expired dir (later ++ calls) ≡ true
stays_expired dir later calls none was =
    expired_later dir later calls none
    ∙ ap (λ b. passed (deadline_of dir calls) (filter_map tick_moment later) || b) was
    ∙ or_true (passed (deadline_of dir calls) (filter_map tick_moment later))

pub expired_by_set : (dir : Dir) (dirs : Dirs) (deadline : Deadline) (now : ℕ) (later earlier : List Call)
    → covers dirs dir ≡ true → list_any (sets dir) later ≡ false
    → expired dir (later ++ DeadlineSet dirs deadline now (Ok tt) ∷ earlier) ≡
    passed deadline (filter_map tick_moment later ++ now ∷ [])
expired_by_set dir dirs deadline now later earlier covered none =
    let set = DeadlineSet dirs deadline now (Ok tt) in
    let calls = later ++ set ∷ earlier in
    let setting : sets dir set ≡ true = rw covered refl in
    let found : last_set dir calls ≡ Some set = find_skip (sets dir) later (set ∷ earlier) none ∙
    find_here (sets dir) set earlier setting in
    let since : since_set dir calls ≡ later = since_skip (sets dir) later (set ∷ earlier) none ∙
    ap (λ rest. later ++ rest) (since_here (sets dir) set earlier setting) ∙ append-nil later in
    ap (λ o. passed (deadline_in o) (filter_map tick_moment (since_set dir calls) ++ moment_in o)) found
    ∙ ap (λ since. passed deadline (filter_map tick_moment since ++ now ∷ [])) since

pub deadline_by_set : (dir : Dir) (dirs : Dirs) (deadline : Deadline) (now : ℕ) (later earlier : List Call)
    → covers dirs dir ≡ true → list_any (sets dir) later ≡ false
    → deadline_of dir (later ++ DeadlineSet dirs deadline now (Ok tt) ∷ earlier) ≡ deadline
deadline_by_set dir dirs deadline now later earlier covered none =
    let set = DeadlineSet dirs deadline now (Ok tt) in
    let setting : sets dir set ≡ true = rw covered refl in
    ap deadline_in (find_skip (sets dir) later (set ∷ earlier) none ∙ find_here (sets dir) set earlier setting)

pub never_expired : (dir : Dir) (calls : List Call) → list_any (sets dir) calls ≡ false → expired dir calls ≡ false
never_expired dir calls none = ap (λ o. passed (deadline_in o)
    (filter_map tick_moment (since_set dir calls) ++ moment_in o)) (find_none (sets dir) calls none)

-- ---- a call left out

deadline_without : (dir : Dir) (call : Call) (later calls : List Call) → sets dir call ≡ false →
    deadline_of dir (later ++ call ∷ calls) ≡ deadline_of dir (later ++ calls)
deadline_without dir call later calls unpicked = ap deadline_in (find_without (sets dir) call later calls unpicked)

expired_without : (dir : Dir) (call : Call) (later calls : List Call) → sets dir call ≡ false →
    tick_moment call ≡ None → expired dir (later ++ call ∷ calls) ≡ expired dir (later ++ calls)
expired_without dir call later calls unpicked no_tick =
    ap (λ o. passed (deadline_in o) (filter_map tick_moment (since_set dir (later ++ call ∷ calls)) ++ moment_in o))
    (find_without (sets dir) call later calls unpicked)
    ∙ ap (λ ticks. passed (deadline_of dir (later ++ calls)) (ticks ++ moment_in (last_set dir (later ++ calls))))
    (ticks_without (sets dir) call later calls unpicked no_tick)

closing_without : (call : Call) (later calls : List Call) → is_evicted call ≡ false →
    closing (later ++ call ∷ calls) ≡ closing (later ++ calls)
closing_without call [] calls unpicked = rw unpicked refl
closing_without call (one ∷ later) calls unpicked =
    ap (λ b. is_evicted one || b) (closing_without call later calls unpicked)

pub notice_without : (dir : Dir) (call : Call) (later calls : List Call) → moves_notice dir call ≡ false →
    notice dir (later ++ call ∷ calls) ≡ notice dir (later ++ calls)
notice_without dir call later calls unpicked = ap is_readied (find_without (moves_notice dir) call later calls unpicked)

refusal_without : (dir : Dir) (call : Call) (later calls : List Call) → sets dir call ≡ false →
    tick_moment call ≡ None → is_evicted call ≡ false
    → refusal_of dir (later ++ call ∷ calls) ≡ refusal_of dir (later ++ calls)
refusal_without dir call later calls unpicked no_tick no_evict =
    ap (λ b. why_refused b (expired dir (later ++ call ∷ calls))) (closing_without call later calls no_evict)
    ∙ ap (why_refused (closing (later ++ calls))) (expired_without dir call later calls unpicked no_tick)

other_set : (dir : Dir) (dirs : Dirs) (deadline : Deadline) (now : ℕ) (answer : Result (Unit {0}) Refusal) →
    covers dirs dir ≡ false → sets dir (DeadlineSet dirs deadline now answer) ≡ false
other_set dir dirs deadline now answer apart = rw apart refl

pub deadline_apart : (dir : Dir) (dirs : Dirs) (deadline : Deadline) (now : ℕ) (answer : Result (Unit {0}) Refusal)
    (later calls : List Call) → covers dirs dir ≡ false
    → deadline_of dir (later ++ DeadlineSet dirs deadline now answer ∷ calls) ≡ deadline_of dir (later ++ calls)
deadline_apart dir dirs deadline now answer later calls apart =
    deadline_without dir _ later calls (other_set dir dirs deadline now answer apart)

pub refusal_apart : (dir : Dir) (dirs : Dirs) (deadline : Deadline) (now : ℕ) (answer : Result (Unit {0}) Refusal)
    (later calls : List Call) → covers dirs dir ≡ false
    → refusal_of dir (later ++ DeadlineSet dirs deadline now answer ∷ calls) ≡ refusal_of dir (later ++ calls)
refusal_apart dir dirs deadline now answer later calls apart =
    refusal_without dir _ later calls (other_set dir dirs deadline now answer apart) refl refl

pub expired_apart : (dir : Dir) (dirs : Dirs) (deadline : Deadline) (now : ℕ) (answer : Result (Unit {0}) Refusal)
    (later calls : List Call) → covers dirs dir ≡ false
    → expired dir (later ++ DeadlineSet dirs deadline now answer ∷ calls) ≡ expired dir (later ++ calls)
expired_apart dir dirs deadline now answer later calls apart =
    expired_without dir _ later calls (other_set dir dirs deadline now answer apart) refl

pub deadline_refused : (dir : Dir) (dirs : Dirs) (deadline : Deadline) (now : ℕ) (refusal : Refusal)
    (later calls : List Call)
    → deadline_of dir (later ++ DeadlineSet dirs deadline now (Err refusal) ∷ calls) ≡ deadline_of dir (later ++ calls)
deadline_refused dir dirs deadline now refusal later calls =
    deadline_without dir _ later calls (and_false (covers dirs dir))

pub refusal_refused : (dir : Dir) (dirs : Dirs) (deadline : Deadline) (now : ℕ) (refusal : Refusal)
    (later calls : List Call)
    → refusal_of dir (later ++ DeadlineSet dirs deadline now (Err refusal) ∷ calls) ≡ refusal_of dir (later ++ calls)
refusal_refused dir dirs deadline now refusal later calls =
    refusal_without dir _ later calls (and_false (covers dirs dir)) refl refl

-- ---- closing

pub closing_stays : (later calls : List Call) → closing calls ≡ true → closing (later ++ calls) ≡ true
closing_stays [] calls was = was
closing_stays (call ∷ later) calls was = ap (λ b. is_evicted call || b) (closing_stays later calls was) ∙
    or_true (is_evicted call)

pub closing_evicted : (later calls : List Call) → closing (later ++ Evicted ∷ calls) ≡ true
closing_evicted later calls = closing_stays later (Evicted ∷ calls) refl

pub closing_refuses : (dir : Dir) (calls : List Call) → closing calls ≡ true → refusal_of dir calls ≡ Some Closed
closing_refuses dir calls was = ap (λ b. why_refused b (expired dir calls)) was

pub open_refuses : (dir : Dir) (calls : List Call) → list_any is_evicted calls ≡ false →
    refusal_of dir calls ≡ (if expired dir calls then Some DeadlineExceeded else None)
open_refuses dir calls none = ap (λ b. why_refused b (expired dir calls)) none

-- ---- notices

pub notice_given : (dir : Dir) (later earlier : List Call) → list_any (moves_notice dir) later ≡ false →
    notice dir (later ++ Readied dir ∷ earlier) ≡ true
notice_given Read later earlier none = ap is_readied (find_skip (moves_notice Read) later (Readied Read ∷ earlier) none)
notice_given Write later earlier none = ap is_readied
    (find_skip (moves_notice Write) later (Readied Write ∷ earlier) none)

none_or : (b : Bool) (call : Call) (rest : Option Call) → is_readied (Some call) ≡ false → is_readied rest ≡ false →
    is_readied (cond b (Some call) rest) ≡ false
none_or true call rest unpicked was = unpicked
none_or false call rest unpicked was = was

not_readied : (dir : Dir) (call : Call) (rest : Option Call) → readies dir call ≡ false → is_readied rest ≡ false →
    is_readied (cond (moves_notice dir call) (Some call) rest) ≡ false
not_readied dir (Readied of) rest unpicked was = rw unpicked was
not_readied dir (Prepared of answer) rest unpicked was = none_or (moves_notice dir (Prepared of answer)) _ rest refl was
not_readied dir (Looked of answer) rest unpicked was = none_or (moves_notice dir (Looked of answer)) _ rest refl was
not_readied dir (DeadlineSet dirs deadline now answer) rest unpicked was = was
not_readied dir (Ticked now) rest unpicked was = was
not_readied dir Evicted rest unpicked was = was

-- with no word that the direction is ready, no notice comes
pub no_notice_later : (dir : Dir) (later calls : List Call) → list_any (readies dir) later ≡ false →
    notice dir calls ≡ false → notice dir (later ++ calls) ≡ false
no_notice_later dir [] calls none was = was
no_notice_later dir (call ∷ later) calls none was =
    let split = neither (readies dir call) (list_any (readies dir) later) none in
    not_readied dir call (find (moves_notice dir) (later ++ calls)) split.0
    (no_notice_later dir later calls split.1 was)

after_go : (dir : Dir) (earlier : List Call) → notice dir (Looked dir Go ∷ earlier) ≡ false
after_go Read earlier = refl
after_go Write earlier = refl

after_prepare : (dir : Dir) (earlier : List Call) → notice dir (Prepared dir (Ok tt) ∷ earlier) ≡ false
after_prepare Read earlier = refl
after_prepare Write earlier = refl

pub notice_used_up : (dir : Dir) (later earlier : List Call) → list_any (readies dir) later ≡ false →
    notice dir (later ++ Looked dir Go ∷ earlier) ≡ false
notice_used_up dir later earlier none = no_notice_later dir later (Looked dir Go ∷ earlier) none (after_go dir earlier)

pub notice_forgotten : (dir : Dir) (later earlier : List Call) → list_any (readies dir) later ≡ false →
    notice dir (later ++ Prepared dir (Ok tt) ∷ earlier) ≡ false
notice_forgotten dir later earlier none = no_notice_later dir later (Prepared dir (Ok tt) ∷ earlier) none
    (after_prepare dir earlier)

pub notice_never : (dir : Dir) (calls : List Call) → list_any (readies dir) calls ≡ false → notice dir calls ≡ false
notice_never dir calls none = sym (ap (notice dir) (append-nil calls)) ∙ no_notice_later dir calls [] none refl

no_go : (refusal : Option Refusal) (noticed : Bool) → noticed ≡ false → is_go (look_at refusal noticed) ≡ false
no_go None noticed none = rw none refl
no_go (Some refusal) noticed none = refl

-- without another word that the direction is ready, no look answers `Go` again
pub no_second_go : (dir : Dir) (later earlier : List Call) → list_any (readies dir) later ≡ false →
    is_go (look_answer dir (later ++ Looked dir Go ∷ earlier)) ≡ false
no_second_go dir later earlier none = no_go (refusal_of dir (later ++ Looked dir Go ∷ earlier))
    (notice dir (later ++ Looked dir Go ∷ earlier)) (notice_used_up dir later earlier none)
