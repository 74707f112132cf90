-- Runs of pushes and takes, step by step.
use Rattle.std.proofs.Common.{◌≡◌, ◌∙◌, sym, ap, ℕ, ◌+◌, ◌<◌, ◌^◌, List, [], ◌∷◌, ◌++◌, arith, length-append, replicate}
use Rattle.std.specs.Prelude.{sum_by, flat_map}
use Rattle.std.proofs.lemmas.Grind.{common_steps}
use Rattle.relay_log.specs.declared.format.Format.{Format}
use Rattle.relay_log.specs.Queue.{Queue, one_more, entry_text}
use Rattle.relay_log.specs.Conservation.{Push, Entry, pushes_of, text_of, said_lost}
use Rattle.relay_log.specs.Conservation.{EachPushIsTold}
use Rattle.relay_log.specs.Conservation.{queued, lost, begins, queues, loses, takes}

-- one element more of the same
replicate-push : {A : Type 0} (n : ℕ) (a : A) → replicate (n + 1) a ≡ replicate n a ++ a ∷ []
replicate-push n a = grind (arith, common_steps)

-- one entry more at the end adds its own
flat_map-push : {A B : Type 0} (f : A → List B) (xs : List A) (a : A)
    → flat_map f (xs ++ a ∷ []) ≡ flat_map f xs ++ f a
flat_map-push f xs a = grind (arith, common_steps)

sum_by-push : {A : Type 0} (f : A → ℕ) (xs : List A) (a : A)
    → sum_by f (xs ++ a ∷ []) ≡ sum_by f xs + f a
sum_by-push f xs a = grind (arith, common_steps)

-- a count that is below the greatest grows by one
one_more-below : (n : ℕ) → n + 1 < 2 ^ 64 → one_more n ≡ n + 1
one_more-below n small = omega arith

append-assoc : {A : Type 0} (xs ys zs : List A) → (xs ++ ys) ++ zs ≡ xs ++ (ys ++ zs)
append-assoc xs ys zs = grind (arith, common_steps)

append-nil : {A : Type 0} (xs : List A) → xs ++ [] ≡ xs
append-nil xs = grind (arith, common_steps)

pub each_push_is_told : EachPushIsTold
each_push_is_told queue [] [] (begins empty none) small = (
  [],
  record {
    text = empty;
    pushed = ap (λ n. replicate n lost) (sym none);
    count = omega (arith, none);
  },
)
each_push_is_told queue _ out (queues {old} {new} {pushes} line run is) small =
    let longer = length-append pushes (queued line ∷ []) in
    let before = each_push_is_told old pushes out run (omega (arith, small, longer)) in
    let entries = before.0 in
    let told = before.1 in
    let entry : Entry = record { lost_before = old.lost; line = line } in (
      entries ++ entry ∷ [],
      record {
        text =
            ap (λ (q : Queue). out ++ q.bytes) is
            ∙ sym (append-assoc out old.bytes (entry_text old.format old.lost line))
            ∙ ap (λ (t : List ℕ). t ++ entry_text old.format old.lost line) told.text
            ∙ sym (flat_map-push (text_of old.format) entries entry)
            ∙ ap (λ (f : Format). flat_map (text_of f) (entries ++ entry ∷ [])) (sym (ap (λ (q : Queue). q.format) is));
        pushed =
            ap (λ (p : List Push). p ++ queued line ∷ []) told.pushed
            ∙ append-assoc (flat_map pushes_of entries) (replicate old.lost lost) (queued line ∷ [])
            ∙ sym (flat_map-push pushes_of entries entry)
            ∙ sym (append-nil (flat_map pushes_of (entries ++ entry ∷ [])))
            ∙ ap (λ (n : ℕ). flat_map pushes_of (entries ++ entry ∷ []) ++ replicate n lost) (sym (ap (λ (q : Queue). q.lost) is));
        count =
            omega (
              arith,
              told.count,
              longer,
              length-append entries (entry ∷ []),
              sum_by-push said_lost entries entry,
              ap (λ (q : Queue). q.lost) is,
            );
      },
    )
each_push_is_told queue _ out (loses {old} {new} {pushes} run is) small =
    let longer = length-append pushes (lost ∷ []) in
    let before = each_push_is_told old pushes out run (omega (arith, small, longer)) in
    let entries = before.0 in
    let told = before.1 in
    let grown : queue.lost ≡ old.lost + 1 =
    ap (λ (q : Queue). q.lost) is ∙ one_more-below old.lost (omega (arith, told.count, longer, small)) in (
      entries,
      record {
        text =
            ap (λ (q : Queue). out ++ q.bytes) is ∙ told.text
            ∙ ap (λ (f : Format). flat_map (text_of f) entries) (sym (ap (λ (q : Queue). q.format) is));
        pushed =
            ap (λ (p : List Push). p ++ lost ∷ []) told.pushed
            ∙ append-assoc (flat_map pushes_of entries) (replicate old.lost lost) (lost ∷ [])
            ∙ ap (λ (l : List Push). flat_map pushes_of entries ++ l) (sym (replicate-push old.lost lost))
            ∙ ap (λ (n : ℕ). flat_map pushes_of entries ++ replicate n lost) (sym grown);
        count = omega (arith, told.count, longer, grown);
      },
    )
each_push_is_told queue pushes _ (takes {old} {new} {out} run is) small =
    let before = each_push_is_told old pushes out run small in
    let told = before.1 in (
      before.0,
      record {
        text =
            ap (λ (q : Queue). (out ++ old.bytes) ++ q.bytes) is ∙ append-nil (out ++ old.bytes) ∙ told.text
            ∙ ap (λ (f : Format). flat_map (text_of f) before.0) (sym (ap (λ (q : Queue). q.format) is));
        pushed =
            told.pushed ∙ ap (λ (n : ℕ). flat_map pushes_of before.0 ++ replicate n lost)
            (sym (ap (λ (q : Queue). q.lost) is));
        count = omega (arith, told.count, ap (λ (q : Queue). q.lost) is);
      },
    )
