-- What a send leaves.
use Rattle.std.proofs.Common.{◌≡◌, ◌++◌, ◌+◌, ◌-◌, ◌<◌, ◌∙◌, ℕ, List, [], drop, take, length, ap, sym, subst, arith, Option, Result, Ok}
use Rattle.std.proofs.lemmas.List.{take-append-drop, drop-drop, take_all, length-drop}
use Rattle.std.specs.Io.KnownBytes.{Appends, WriteAppends}
use Rattle.std.specs.declared.io.Error.{Error}
use Rattle.net.specs.Outgoing.{HasSent, Says}

-- bytes of which not all are sent are left
pub some_left : (items : List ℕ) (sent : ℕ) → sent < length items → drop sent items ≡ [] → ⊥
some_left items sent below none =
    let counted : length (drop sent items) ≡ length items - sent = length-drop sent items in
    let empty : length (drop sent items) ≡ 0 = ap (λ (l : List ℕ). length l) none in
    absurd (omega (arith, counted, empty, below))

-- all that is left is offered
all_offered : (items : List ℕ) (sent : ℕ) → take (length items - sent) (drop sent items) ≡ drop sent items
all_offered items sent =
    let counted : length (drop sent items) ≡ length items - sent = length-drop sent items in
    take_all (length items - sent) (drop sent items) (omega (arith, counted))

-- a write took so many of the bytes that were left, and the others are left
pub sends : (answer : Option (Result (Unit {0}) Error)) (items slice left : List ℕ) (sent count : ℕ)
    (wrote : Result ℕ Error) (before after : Option (List ℕ))
    → slice ≡ items → drop sent items ≡ left → wrote ≡ Ok count
    → WriteAppends before after wrote (take (length slice - sent) (drop sent slice))
    → Says answer (take count (drop sent items)) (drop (sent + count) items)
    → HasSent answer left (drop (sent + count) items) before after
sends answer items slice left sent count wrote before after same is_left is_ok appends says =
    let of_items : WriteAppends before after wrote (take (length items - sent) (drop sent items)) =
    subst (λ (l : List ℕ). WriteAppends before after wrote (take (length l - sent) (drop sent l))) same appends in
    let of_ok : Appends before after (take count (take (length items - sent) (drop sent items))) =
    subst (λ (r : Result ℕ Error). WriteAppends before after r (take (length items - sent) (drop sent items)))
    is_ok of_items in
    record {
      part = take count (drop sent items);
      cut =
          sym is_left ∙ sym (take-append-drop count (drop sent items))
          ∙ ap (λ (l : List ℕ). take count (drop sent items) ++ l) (drop-drop count sent items);
      written = subst (λ (l : List ℕ). Appends before after (take count l)) (all_offered items sent) of_ok;
      said = says;
    }
