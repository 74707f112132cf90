-- What a session asked and wrote, where its desk tells all that it was asked.
use Rattle.std.proofs.Common.{◌≡◌, sym, subst, ℕ, Bool, true, List, [], Some, Result, Ok, Err, rules}
use Rattle.std.specs.Prelude.{IfOk}
use Rattle.relay_admin.specs.admin.Transcript.{Ending, IsTranscriptOf}
use Rattle.relay_workers.specs.Serving.{Serves}
use Rattle.workers_tests.specs.Recorded.{exchanges_of, told_where}

-- from nothing asked and nothing written before
follows : (kept : List (Bool × ℕ)) (after text : List ℕ) (ending : Ending) →
    Serves (Some text) (told_where true []) (told_where true kept) (Some []) (Some after) ending →
    IsTranscriptOf text (exchanges_of kept) after ending
follows kept after text ending s = subst (λ asked. IsTranscriptOf text asked after ending) (sym s.told)
    (subst (λ replies. IsTranscriptOf text s.exchanges replies ending) (sym s.written) s.are)

pub served : (asked kept : List (Bool × ℕ)) (first whole : Bool) (before after text : List ℕ) (ending : Ending) →
    asked ≡ [] → first ≡ true → whole ≡ true → before ≡ [] →
    Serves (Some text) (told_where first asked) (told_where whole kept) (Some before) (Some after) ending →
    IsTranscriptOf text (exchanges_of kept) after ending
served asked kept first whole before after text ending a f w b s = follows kept after text ending
    (subst (λ x. Serves (Some text) (told_where true []) (told_where true kept) (Some x) (Some after) ending) b
    (subst (λ x. Serves (Some text) (told_where true []) (told_where x kept) (Some before) (Some after) ending) w
    (subst (λ x. Serves (Some text) (told_where x []) (told_where whole kept) (Some before) (Some after) ending) f
    (subst (λ x. Serves (Some text) (told_where first x) (told_where whole kept) (Some before) (Some after) ending) a
    s))))

-- what follows of each answer follows where there is one
pub where_ok : {A E : Type 0} (P Q : A → Type 0) → ((answer : A) → P answer → Q answer) → (result : Result A E) →
    IfOk result P → IfOk result Q
where_ok P Q implied (Ok answer) holds = implied answer holds
where_ok P Q implied (Err fault) holds = search rules
