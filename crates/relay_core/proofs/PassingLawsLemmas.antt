-- What the calls of a copy carried, call by call.
use Rattle.std.proofs.Common.{◌≡◌, ◌∙◌, sym, ap, refl, ℕ, List, [], ◌++◌, take, drop, take-append-drop}
use Rattle.std.proofs.Common.{append_assoc, append-nil}
use Rattle.relay_core.specs.CopyTrace.{GateCall, reported}
use Rattle.relay_core.specs.Passing.{Rest, Bytes, Close, unwritten, Passing, NoCall, Reads, Writes, Ends}
use Rattle.relay_core.specs.Passing.{AtEnd, AtClose, AtRead, AtWrite, AtCredit}
use Rattle.relay_core.specs.Laws.{read_bytes, taken_bytes, NothingIsLost, BytesPassInParts, PartsJoin, LastPartJoins}
use Rattle.relay_core.proofs.PassingLemmas.{then_passing, then_passed}

-- what was left and read is what was taken and is left
pub nothing_is_lost : (Takes : ℕ → ℕ → Type 0) → NothingIsLost Takes
nothing_is_lost Takes from _ _ NoCall = append-nil (unwritten from)
nothing_is_lost Takes from _ _ (Reads {calls = calls} before bytes some) =
    let so = nothing_is_lost Takes from _ _ before ∙ append-nil (taken_bytes calls) in
    sym (append_assoc (unwritten from) (read_bytes calls) bytes) ∙ ap (λ front. front ++ bytes) so
nothing_is_lost Takes from _ _ (Writes {calls = calls} {left = left} before some count takes) =
    let so = nothing_is_lost Takes from _ _ before in
    so ∙ ap (λ whole. taken_bytes calls ++ whole) (sym (take-append-drop count left))
    ∙ sym (append_assoc (taken_bytes calls) (take count left) (drop count left))
nothing_is_lost Takes from _ _ (Ends before) = nothing_is_lost Takes from _ _ before

-- a last call that carried nothing
all_is_taken : (Takes : ℕ → ℕ → Type 0) (rest : Rest) (calls : List GateCall) → Passing Takes (Bytes []) calls rest
    → unwritten rest ≡ [] → taken_bytes calls ≡ read_bytes calls
all_is_taken Takes rest calls passing none =
    sym (nothing_is_lost Takes (Bytes []) rest calls passing ∙ ap
    (λ left. taken_bytes calls ++ left) none ∙ append-nil (taken_bytes calls))

-- a last call that was offered what is left
front_is_taken : (Takes : ℕ → ℕ → Type 0) (left : List ℕ) (calls : List GateCall)
    → Passing Takes (Bytes []) calls (Bytes left)
    → (count : ℕ) → read_bytes calls ≡ (taken_bytes calls ++ take count left) ++ drop count left
front_is_taken Takes left calls passing count =
    nothing_is_lost Takes (Bytes []) (Bytes left) calls passing
    ∙ ap (λ whole. taken_bytes calls ++ whole) (sym (take-append-drop count left))
    ∙ sym (append_assoc (taken_bytes calls) (take count left) (drop count left))

pub bytes_pass_in_parts : (Takes : ℕ → ℕ → Type 0) → BytesPassInParts Takes
bytes_pass_in_parts Takes _ calls _ _ passing AtEnd = let all = all_is_taken Takes Close calls passing refl in
    (([], sym all ∙ sym (append-nil _)), λ _. all)
bytes_pass_in_parts Takes _ calls _ _ passing (AtClose fault) =
    let all = all_is_taken Takes Close calls passing refl in (([], sym all ∙ sym (append-nil _)), λ _. all)
bytes_pass_in_parts Takes _ calls _ _ passing (AtRead fault other) =
    let all = all_is_taken Takes (Bytes []) calls passing refl in (([], sym all ∙ sym (append-nil _)), λ _. all)
bytes_pass_in_parts Takes _ calls _ _ passing (AtWrite left some failed most) =
    ((drop failed.count left, front_is_taken Takes left calls passing failed.count), λ eof. absurd (cc))
bytes_pass_in_parts Takes _ calls _ _ passing (AtCredit left some answer may) =
    ((drop (reported answer) left, front_is_taken Takes left calls passing (reported answer)), λ eof. absurd (cc))

pub parts_join : (G : Type 0) (tells : G → List GateCall → Type 0) (Takes : ℕ → ℕ → Type 0) → PartsJoin G tells Takes
parts_join G tells Takes first second third old share new from between rest some more reads later one next =
    then_passing one next

pub last_part_joins : (G : Type 0) (tells : G → List GateCall → Type 0) (Takes : ℕ → ℕ → Type 0)
    → LastPartJoins G tells Takes
last_part_joins G tells Takes first second third old share new from between ended some reads later one next =
    then_passed one next
