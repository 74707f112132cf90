-- What stands behind what was there.
use Rattle.std.proofs.Common.{◌≡◌, ◌∙◌, ap, sym, List, [], ◌∷◌, ◌++◌, Bool, true, false, append_assoc, append-nil}
use Rattle.std.specs.Prelude.{if◌then◌else◌}
use Rattle.metrics_server.specs.Desk.{StandsBehind}

-- nothing came
pub stands_as_before : {A : Type 0} (old : List A) → StandsBehind old old
stands_as_before old = ([], sym (append-nil old))

-- one more came, or didn't
pub stands_pushed : {A : Type 0} (is_pushed : Bool) (old before after : List A) (x : A) → StandsBehind old before
    → after ≡ (if is_pushed then before ++ x ∷ [] else before) → StandsBehind old after
stands_pushed true old before after x behind is =
    (behind.0 ++ x ∷ [], is ∙ ap (λ all. all ++ x ∷ []) behind.1 ∙ append_assoc old behind.0 (x ∷ []))
stands_pushed false old before after x behind is = (behind.0, is ∙ behind.1)
