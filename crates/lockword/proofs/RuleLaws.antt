-- What the rule says of all seats.
use Rattle.std.proofs.Common.{◌≡◌, ◌+◌, ◌<◌, ◌∙◌, [], ◌∷◌}
use Rattle.std.specs.Prelude.{◌==◌, ◌&&◌, sum_by, count_by}
use Rattle.std.proofs.lemmas.List.Sums.{sum_by-cons, sum_by-set}
use Rattle.lockword.proofs.Words.{ℕ, zero, suc, Bool, true, false, List, length, set, refl, sym, ap, subst, arith}
use Rattle.lockword.proofs.Words.{get_or, get_or-set_same, get_or-set_other, dite, ℕ_discrete, some, get_elem?, Dir}
use Rattle.lockword.proofs.Words.{Read, Write, Op, Event, Word, bit, signals_in, empty, census, references}
use Rattle.lockword.proofs.Words.{locks, lasts, number, state_after, count-within, always_consistent, LocalView}
use Rattle.lockword.proofs.Words.{stakes_of, deeds_of, IsReached}
use Rattle.lockword_core.specs.LockState.{queued, count}
use Rattle.lockword_core.specs.OperationCounts.{is_taking, is_returning, is_signal, is_wake, is_close, is_drain}
use Rattle.lockword_core.specs.OperationCounts.{is_destroy, made_in, operations_of, AddsUp}
use Rattle.lockword_core.proofs.BalanceLemmas.{reads_as}
use Rattle.lockword_core.proofs.InvariantPreserved.{bit-le, bit-true}
use Rattle.lockword_core.proofs.WordFields.{reads_fields, bit-same}
use Rattle.lockword_core.proofs.WordLaws.{counts_stakes}
use Rattle.lockword_core.proofs.NameLemmas.{counts_by_seats}
use Rattle.lockword_core.proofs.WordRefines.{pick_then, pick_else}
use Rattle.lockword_core.proofs.OperationLemmas.{count_by-cons, adds_up}
use Rattle.lockword.specs.LocalView.{made_by_seats}
use Rattle.lockword.specs.TransitionOutcomes.{IsOnlyClosed}
use Rattle.lockword.specs.Steps.{IsJustClosed}
use Rattle.lockword.specs.Moment.{Moment, IsRead}
use Rattle.lockword.specs.Laws.{seats_census, over_seats, ComesOfDeeds}
use Rattle.lockword.proofs.Representation.{both, present, fits}
use Rattle.lockword.proofs.LookSteps.{IsOver, is_over}
use Rattle.lockword.proofs.HistorySteps.{same_number, other_number}

no_bit : (b : Bool) → bit b ≡ 0 → b ≡ false
no_bit true e = absurd (omega arith)
no_bit false e = refl

-- ---- What all seats did

none_made : (what : Op → Bool) (ds : List (List Op)) → ((i : ℕ) → get_or ds i [] ≡ []) → sum_by (count_by what) ds ≡ 0
none_made what [] none = refl
none_made what (d ∷ ds) none =
    let sum = sum_by-cons (count_by what) d ds in
    let first : count_by what d ≡ 0 = ap (count_by what) (none zero) in
    let rest = none_made what ds (λ i. none (suc i)) in
    omega arith

is_inside : (ds : List (List Op)) (i : ℕ) (o : Op) (ops : List Op) → get_or ds i [] ≡ o ∷ ops → i < length ds
is_inside [] zero o ops e = absurd (cc)
is_inside [] (suc i) o ops e = absurd (cc)
is_inside (d ∷ ds) zero o ops e = omega arith
is_inside (d ∷ ds) (suc i) o ops e = let rest = is_inside ds i o ops e in omega arith

seats_made : (h : List Event) (ds : List (List Op)) (what : Op → Bool)
    → ((i : ℕ) → get_or ds i [] ≡ operations_of i h) → sum_by (count_by what) ds ≡ made_in h what
seats_made [] ds what same = none_made what ds same
seats_made (e ∷ h) ds what same =
    let k : ℕ = e.holder in
    let rest : List Op = operations_of k h in
    let here : get_or ds k [] ≡ e.op ∷ rest = same k ∙ pick_then (k == k) (e.op ∷ rest) rest (same_number k) in
    let inside : k < length ds = is_inside ds k e.op rest here in
    let others = seats_made h (set ds k rest) what
    (λ i. dite (ℕ_discrete i k)
    (λ is. subst (λ (q : ℕ). get_or (set ds k rest) q [] ≡ operations_of q h) (sym is)
    (get_or-set_same ds k rest [] inside))
    (λ ne. get_or-set_other ds k i rest [] ne ∙ same i
    ∙ pick_else (k == i) (e.op ∷ operations_of i h) (operations_of i h) (other_number k i ne))) in
    let sum : sum_by (count_by what) (set ds k rest) + count_by what (get_or ds k []) ≡ sum_by (count_by what) ds
    + count_by what rest = sum_by-set (count_by what) ds k rest [] inside in
    let first : count_by what (get_or ds k []) ≡ bit (what e.op) + count_by what rest =
    ap (count_by what) here ∙ count_by-cons what e.op rest in
    let more : made_in (e ∷ h) what ≡ bit (what e.op) + made_in h what = count_by-cons (λ (x : Event). what x.op) e h in
    omega arith

done_bit : (n : ℕ) (b : Bool) → n ≡ bit b → n ≡ bit (n == 1)
done_bit n true e = rw e refl
done_bit n false e = rw e refl

-- ---- The rule

module _ {R W : Type 0} where
  pub comes_of_deeds : (s : Moment R W) (fields : Word) → IsRead s fields → ComesOfDeeds s fields
  comes_of_deeds s fields read =
      let reached = read.rule in
      record {
        history = reached.history;
        interleaves = reached.interleaves;
        none_refused = reached.none_refused;
        matches = reached.leads;
        counts = counts_stakes fields (state_after empty reached.history)
            (always_consistent reached.history) read.is_word (read.same ∙ reached.leads.state_word);
      }

  pub one_last : (s : Moment R W) (fields : Word) → IsRead s fields
      → over_seats lasts s + get_or s.words 3 0 ≡ bit (fields.closed && (fields.refs == 0))
  one_last s fields read =
      let r = read.rule.represents in
      let c = r.census in
      let f = fits s r in
      let n : ℕ = get_or s.words 0 0 in
      let told = reads_fields fields n read.is_word read.same in
      let have = reads_as (present s r) n f.balance in
      let flag : c.closed ≡ fields.closed = bit-same _ _ (sym have.flag ∙ told.flag) in
      let used : number references c ≡ fields.refs = ap (count references) r.stakes ∙ sym have.refs ∙ told.refs in
      let last : number lasts c ≡ over_seats lasts s = ap (count lasts) r.stakes in
      let same : bit (c.closed && (number references c == 0)) ≡ bit (fields.closed && (fields.refs == 0)) =
      λ i. bit (flag i && (used i == 0)) in
      let one = r.consistent.one_last in
      let done = r.done_word in
      omega arith

  -- what is so once the word is done
  over : (s : Moment R W) (reached : IsReached s) → get_or s.words 3 0 ≡ 1
      → IsOver (present s reached.represents) (get_or s.words 0 0)
  over s reached done =
      let mark = reached.represents.done_word in
      is_over (present s reached.represents) (get_or s.words 0 0) (fits s reached.represents).balance (omega arith)

  pub no_last : (s : Moment R W) → IsReached s → get_or s.words 3 0 ≡ 1 → over_seats lasts s ≡ 0
  no_last s reached done = let one = (over s reached done).one in let mark = reached.represents.done_word in omega arith

  pub no_reference : (s : Moment R W) → IsReached s → get_or s.words 3 0 ≡ 1 → over_seats references s ≡ 0
  no_reference s reached done = (over s reached done).unused

  pub no_lock : (s : Moment R W) (d : Dir) → IsReached s → get_or s.words 3 0 ≡ 1 → over_seats (locks d) s ≡ 0
  no_lock s Read reached done =
      let none = (over s reached done).unused in let held = count-within (stakes_of s.views) in omega arith
  no_lock s Write reached done =
      let none = (over s reached done).unused in let held = count-within (stakes_of s.views) in omega arith

  pub only_closed : (s : Moment R W) (fields : Word) → IsRead s fields → get_or s.words 3 0 ≡ 1 → IsOnlyClosed fields
  only_closed s fields read done =
      let n : ℕ = get_or s.words 0 0 in
      let is : IsJustClosed n = (over s read.rule done).word in
      let same = read.same in
      let a = bit-le fields.closed in
      let b = bit-le fields.rlock in
      let c = bit-le fields.wlock in
      let d = bit-le fields.drain in (
        bit-true fields.closed (omega arith),
        no_bit fields.rlock (omega arith),
        no_bit fields.wlock (omega arith),
        omega arith,
        omega arith,
        omega arith,
      )

  pub saw_closed : (s : Moment R W) (fields : Word) (seat : ℕ) (v : LocalView) → IsRead s fields
      → get_elem? s.views seat ≡ some v → v.saw.closed ≡ true → fields.closed ≡ true
  saw_closed s fields seat v read at saw =
      let f = fits s read.rule.represents in
      let n : ℕ = get_or s.words 0 0 in
      let told = reads_fields fields n read.is_word read.same in
      let have = reads_as (present s read.rule.represents) n f.balance in
      bit-same _ _ (sym told.flag ∙ have.flag) ∙ (f.seen seat v at).closed saw

  pub saw_draining : (s : Moment R W) (fields : Word) (seat : ℕ) (v : LocalView) → IsRead s fields
      → get_elem? s.views seat ≡ some v → v.saw.draining ≡ true → fields.drain ≡ true
  saw_draining s fields seat v read at saw =
      let f = fits s read.rule.represents in
      let n : ℕ = get_or s.words 0 0 in
      let told = reads_fields fields n read.is_word read.same in
      let have = reads_as (present s read.rule.represents) n f.balance in
      bit-same _ _ (sym told.drain ∙ have.drain) ∙ (f.seen seat v at).draining saw

  pub saw_done : (s : Moment R W) (seat : ℕ) (v : LocalView) → IsReached s → get_elem? s.views seat ≡ some v
      → v.saw.done ≡ true → get_or s.words 3 0 ≡ 1
  saw_done s seat v reached at saw =
      let f = fits s reached.represents in f.done ∙ ap bit ((f.seen seat v at).done saw)

  -- how many operations of a sort all seats have made is how many there are in the history
  pub made_is : (s : Moment R W) (reached : IsReached s) (what : Op → Bool)
      → made_by_seats s.views what ≡ made_in reached.history what
  made_is s reached what = seats_made reached.history (deeds_of s.views) what reached.interleaves.deeds

  history_adds_up : (s : Moment R W) (reached : IsReached s)
      → AddsUp (made_by_seats s.views) (census (state_after empty reached.history))
  history_adds_up s reached =
      let all = adds_up reached.history reached.none_refused in
      let is = made_is s reached in
      record {
        taken = let a = all.taken in let b = is is_taking in let c = is is_returning in omega arith;
        signalled = λ d. let a = all.signalled d in let b = is (is_signal d) in let c = is (is_wake d) in omega arith;
        closed = is is_close ∙ all.closed;
        drained = is is_drain ∙ all.drained;
        destroyed = is is_destroy ∙ all.destroyed;
      }

  closes_are : (s : Moment R W) (fields : Word) → IsRead s fields → made_by_seats s.views is_close
      ≡ bit fields.closed
  closes_are s fields read =
      let reached = read.rule in
      let counts = counts_stakes fields (state_after empty reached.history)
      (always_consistent reached.history) read.is_word (read.same ∙ reached.leads.state_word) in
      (history_adds_up s reached).closed ∙ sym (ap bit counts.flag)

  drains_are : (s : Moment R W) (fields : Word) → IsRead s fields → made_by_seats s.views is_drain
      ≡ bit fields.drain
  drains_are s fields read =
      let reached = read.rule in
      let counts = counts_stakes fields (state_after empty reached.history)
      (always_consistent reached.history) read.is_word (read.same ∙ reached.leads.state_word) in
      (history_adds_up s reached).drained ∙ sym (ap bit counts.drain)

  destroys_are : (s : Moment R W) → IsReached s → made_by_seats s.views is_destroy ≡ get_or s.words 3 0
  destroys_are s reached = (history_adds_up s reached).destroyed ∙ sym reached.leads.done_word

  pub seats_add_up : (s : Moment R W) (fields : Word) → IsRead s fields
      → AddsUp (made_by_seats s.views) (seats_census s fields)
  seats_add_up s fields read =
      let reached = read.rule in
      let all = history_adds_up s reached in
      let leads = reached.leads in
      let counted = counts_by_seats (state_after empty reached.history) (stakes_of s.views)
      (always_consistent reached.history) leads.stakes in
      record {
        taken = let a = all.taken in let refs = counted references in let readers = counted (queued Read) in
            let writers = counted (queued Write) in omega arith;
        signalled = both
            (λ d. made_by_seats s.views (is_signal d) ≡ signals_in d (seats_census s fields).signals
            + made_by_seats s.views (is_wake d)) (let a = all.signalled Read in let b = leads.semaphores Read in
            omega arith) (let a = all.signalled Write in let b = leads.semaphores Write in omega arith);
        closed = closes_are s fields read;
        drained = drains_are s fields read;
        destroyed = destroys_are s reached ∙ done_bit (get_or s.words 3 0) _ leads.done_word;
      }
