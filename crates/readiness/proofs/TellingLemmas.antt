-- What is told of each in turn. Lists of what is told are newest first.
use Rattle.std.proofs.Common.{◌≡◌, ℕ, ◌+◌, ◌<◌, suc, List, [], ◌∷◌, ◌++◌, length, get_or, drop, sym, subst, ◌∙◌, append_assoc, append-nil, add-one}
use Rattle.std.proofs.Math.Seq.{drop-cons}
use Rattle.rwloops.specs.Waits.{Tells}
use Rattle.readiness.specs.Telling.{told_in_turn}

-- of all these everything is told but for the rest
pub record IsToldSoFar {A C : Type 0} (told_of : A → List C) (before now : List C → Type 0)
    (all rest : List A) : Type 0 where
  pub done : List C
  pub told : Tells before now done
  pub whole : told_in_turn told_of all ≡ told_in_turn told_of rest ++ done

pub nothing_told_yet : {A C : Type 0} (told_of : A → List C) (before : List C → Type 0) (all : List A) →
    IsToldSoFar told_of before before all all
nothing_told_yet told_of before all = record {
  done = [];
  told = λ earlier tells. tells;
  whole = sym (append-nil (told_in_turn told_of all));
}

pub one_more_told : {A C : Type 0} {told_of : A → List C} {before now after : List C → Type 0} {all : List A}
    (one : A) (rest : List A) → IsToldSoFar told_of before now all (one ∷ rest) → Tells now after (told_of one) →
    IsToldSoFar told_of before after all rest
one_more_told {told_of = told_of} {after = after} one rest so tells = record {
  done = told_of one ++ so.done;
  told = λ earlier h. subst after (sym (append_assoc (told_of one) so.done earlier))
      (tells (so.done ++ earlier) (so.told earlier h));
  whole = so.whole ∙ append_assoc (told_in_turn told_of rest) (told_of one) so.done;
}

pub all_told : {A C : Type 0} {told_of : A → List C} {before after : List C → Type 0} {all : List A} →
    IsToldSoFar told_of before after all [] → Tells before after (told_in_turn told_of all)
all_told {before = before} {after = after} so = subst (λ calls. Tells before after calls) (sym so.whole) so.told

-- the same of the one at an index
pub one_more_told_at : {A C : Type 0} (told_of : A → List C) (before now after : List C → Type 0) (all : List A)
    (at : ℕ) (d : A) → at < length all → IsToldSoFar told_of before now all (drop at all) →
    Tells now after (told_of (get_or all at d)) → IsToldSoFar told_of before after all (drop (at + 1) all)
one_more_told_at told_of before now after all at d within so tells =
    rw add-one (one_more_told (get_or all at d) (drop (suc at) all)
    (subst (λ rest. IsToldSoFar told_of before now all rest) (drop-cons all at d within) so) tells)
