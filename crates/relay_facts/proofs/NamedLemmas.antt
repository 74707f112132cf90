-- The targets of a rule that names hosts, taken one by one.
use Rattle.std.proofs.Common.{◌≡◌, ◌∙◌, sym, ap, subst, refl, ℕ, ◌+◌, ◌≤◌, ◌<◌, List, [], ◌∷◌, ◌++◌, Option, Some, None, length, get_or, drop, append_assoc, append-nil, arith}
use Rattle.std.specs.Prelude.{find, map, take}
use Rattle.std.proofs.lemmas.List.{drop_all, at_drop_more}
use Rattle.relay_admin.specs.declared.rules.addr.Addr.{Addr}
use Rattle.relay_settings.specs.declared.targets.Named.{Named}
use Rattle.relay_settings.specs.declared.targets.Target.{Target}
use Rattle.relay_facts.specs.HostAnswers.{addresses_at}
use Rattle.relay_facts.specs.NamedTargets.{by_answers, found_at, looked_up, named_at, found_target, targets_at, targets_by, targets_from}
use Rattle.relay_facts.specs.declared.host_answers.Answer.{Answer}

-- a host without an address, and one with some
pub none_at : (named : Named) (target : Target) (found : List Addr) (old new : List Target) → found ≡ []
    → new ≡ old ++ target ∷ [] → new ≡ old ++ found_at named target found
none_at named target found old new none grown = grown ∙ ap (λ it. old ++ found_at named target it) (sym none)

pub some_at : (named : Named) (target : Target) (found : List Addr) (old new : List Target) → (found ≡ [] → ⊥)
    → new ≡ old ++ map (found_target named) found → new ≡ old ++ found_at named target found
some_at named target [] old new some grown = absurd (some refl)
some_at named target (first ∷ others) old new some grown = grown

-- one place more
pub one_more : (answers : List Answer) (names : List Named) (xs : List Target) (i : ℕ) (x : Target) (found : List Target)
    (new : List Target) → i < length xs → x ≡ get_or xs i x
    → targets_from answers names 0 xs ≡ found ++ targets_from answers names i (drop i xs)
    → new ≡ found ++ targets_at answers names i x
    → targets_from answers names 0 xs ≡ new ++ targets_from answers names (i + 1) (drop (i + 1) xs)
one_more answers names xs i x found new within is before grown =
    let rest = targets_from answers names (i + 1) (drop (i + 1) xs) in
    before
    ∙ ap (λ it. found ++ it)
    (at_drop_more (λ (it : List Target). targets_from answers names i it) xs i x within
    ∙ ap (λ (one : Target). targets_at answers names i one ++ rest) (sym is))
    ∙ sym (append_assoc found (targets_at answers names i x) rest)
    ∙ ap (λ it. it ++ rest) (sym grown)

-- all of them
pub all_found : (answers : List Answer) (names : List Named) (xs : List Target) (i : ℕ) (found : List Target)
    → length xs ≤ i → targets_from answers names 0 xs ≡ found ++ targets_from answers names i (drop i xs)
    → take 64 found ≡ looked_up answers names xs
all_found answers names xs i found past before =
    ap (take 64) (sym (before ∙ ap (λ it. found ++ targets_from answers names i it) (drop_all i xs past) ∙ append-nil found))

some_at_found : (named : Named) (target : Target) (found : List Addr) → 0 < length (found_at named target found)
some_at_found named target [] = omega arith
some_at_found named target (first ∷ others) = omega arith

some_by : (answers : List Answer) (named : Option Named) (target : Target) → 0 < length (targets_by answers named target)
some_by answers None target = omega arith
some_by answers (Some named) target = some_at_found named target (addresses_at answers named.host.bytes)

some_front : (A : Type 0) (xs ys : List A) → 0 < length xs → 0 < length (take 64 (xs ++ ys))
some_front A [] ys some = absurd (omega (arith, some))
some_front A (x ∷ xs) ys some = omega arith

-- there is one at least
pub some_found : (answers : List Answer) (names : List Named) (xs : List Target) → 0 < length xs
    → 0 < length (looked_up answers names xs)
some_found answers names [] some = absurd (omega (arith, some))
some_found answers names (x ∷ xs) some =
    some_front Target (targets_at answers names 0 x) (targets_from answers names 1 xs) (some_by answers (named_at names 0) x)

-- a rule that names no host
pub no_names : (answers : List Answer) (names : List Named) (targets : List Target) → names ≡ []
    → targets ≡ by_answers answers names targets
no_names answers names targets none = ap (λ it. by_answers answers it targets) (sym none)

-- one that does
pub some_names : (answers : List Answer) (names : List Named) (targets : List Target) → (names ≡ [] → ⊥)
    → looked_up answers names targets ≡ by_answers answers names targets
some_names answers [] targets some = absurd (some refl)
some_names answers (first ∷ others) targets some = refl
