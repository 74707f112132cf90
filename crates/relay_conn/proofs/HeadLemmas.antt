-- A header of which nothing is left.
use Rattle.std.proofs.Common.{◌≡◌, ◌∙◌, ◌<◌, ◌↔◌, ℕ, Bool, true, false, List, [], ◌∷◌, length, refl, sym, arith, true≢false}
use Rattle.relay_core.specs.Passing.{unwritten}
use Rattle.relay_core.specs.declared.passing.Step.TheVariants.{Again}
use Rattle.relay_conn.specs.Flow.{Heads, IsOver}
use Rattle.relay_conn.specs.declared.flow.Flow.{Flow}

none_left : (bytes : List ℕ) → (0 < length bytes → ⊥) → bytes ≡ []
none_left [] none = refl
none_left (byte ∷ bytes) none = absurd (none (omega arith))

-- a way of whose header nothing was left goes over
pub is_over : {L R : Type 0} (old new : Flow L R) (some : Bool) → (some ≡ true ↔ 0 < length (unwritten old.copying)) → some ≡ false
    → new.copying ≡ old.copying → new.heading ≡ false → Heads old new Again
is_over old new some left none same heading =
    IsOver (none_left (unwritten old.copying) (λ more. true≢false (sym (left.1 more) ∙ none))) same heading
