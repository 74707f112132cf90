-- What a join has come to, thread by thread.
use Rattle.std.proofs.Common.{◌≡◌, ◌∙◌, ◌↔◌, ◌+◌, sym, ap, refl, subst, ℕ, suc, true, List, [], ◌∷◌, ◌++◌, Some, IsOk, length, length-append, arith}
use Rattle.std.proofs.lemmas.List.Elements.{All-pop, All-push}
use Rattle.std.proofs.lemmas.List.Sums.{fold-append}
use Rattle.relay_facts.specs.declared.totals.Totals.{Totals}
use Rattle.relay_server.specs.Threads.{AreSumsOf, IsJoinOf, LoopEnd, told_by, told_by_all, told_with}
use Rattle.relay_server.specs.declared.threads.Joined.{Joined}

-- one thread more was joined
pub joined_more : (old new : Joined) (ends : List LoopEnd) (one : LoopEnd)
    → ((new.turned ≡ true) ↔ ((old.turned ≡ true) × IsOk one))
    → told_by new.totals ≡ told_with one (told_by old.totals)
    → IsJoinOf old ends → IsJoinOf new (ends ++ one ∷ [])
joined_more old new ends one turned totals join = record {
  turned = (
    λ is. (let both = turned.0 is in All-push (λ one. IsOk one) ends one (join.turned.0 both.0) both.1),
    λ all. (let parts = All-pop (λ one. IsOk one) (ends ++ one ∷ []) ends (Some one) refl all in
        turned.1 (join.turned.1 parts.0, parts.1)),
  );
  totals = totals ∙ ap (told_with one) join.totals
      ∙ sym (fold-append (λ all one. told_with one all) (Some (0, 0)) ends (one ∷ []));
}

-- each handle is one that was joined or one that is left
pub joined_each : {H : Type 0} (ends : List LoopEnd) (one : LoopEnd) (old new : List H) (handle : H) (all : ℕ)
    → old ≡ handle ∷ new → length ends + length old ≡ all → length (ends ++ one ∷ []) + length new ≡ all
joined_each ends one old new handle all next before =
    let long = length-append ends (one ∷ []) in
    let shorter : length old ≡ suc (length new) = ap length next in
    omega arith

-- the sums of as many loops as there are to be
pub sums_of_all : (totals : Totals) (started all : ℕ) → AreSumsOf totals started → started ≡ all → AreSumsOf totals all
sums_of_all totals started all sums each = subst (AreSumsOf totals) each sums
