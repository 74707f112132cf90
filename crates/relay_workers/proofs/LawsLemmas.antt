-- What the calls of a worker carried, by its rounds and its last calls.
use Rattle.std.proofs.Math.Seq.{take-length}
use Rattle.std.proofs.Common.{◌≡◌, ◌∙◌, sym, ap, refl, ℕ, List, [], ◌∷◌, ◌++◌, length, take, drop}
use Rattle.std.proofs.Common.{take-append-drop}
use Rattle.std.proofs.Common.{append_assoc, append-nil, Result, Ok}
use Rattle.rwloops.specs.declared.fault.WriteFault.{WriteFault}
use Rattle.relay_core.specs.declared.copying.Ended.{Ended}
use Rattle.relay_core.specs.declared.copying.Ended.TheVariants.{Eof, BookFull}
use Rattle.relay_core.specs.CopyTrace.{GateCall, Read, Wrote, MayAnswer, reported}
use Rattle.relay_core.specs.Laws.{read_bytes, taken_bytes}
use Rattle.relay_workers.specs.CopyTrace.{Whole, round_calls, EndsBy, AtEnd, AtClose, AtRead, AtWrite, AtCredit}
use Rattle.relay_workers.specs.Laws.{offered_bytes, BytesPassInOrder, FullBookTellsTheLastWrite}

rounds_offer : (rounds : List (List ℕ)) → offered_bytes (round_calls rounds) ≡ read_bytes (round_calls rounds)
rounds_offer [] = refl
rounds_offer (bytes ∷ earlier) = ap (λ front. front ++ bytes) (rounds_offer earlier)

rounds_are_taken : (rounds : List (List ℕ)) → taken_bytes (round_calls rounds) ≡ read_bytes (round_calls rounds)
rounds_are_taken [] = refl
rounds_are_taken (bytes ∷ earlier) = rw take-length (ap (λ front. front ++ bytes) (rounds_are_taken earlier))

-- all of a front are these bytes, with nothing left
nothing_left : (front bytes : List ℕ) → bytes ≡ front → bytes ≡ front ++ []
nothing_left front bytes same = same ∙ sym (append-nil front)

-- what is left of a write that took some bytes
some_left : (taken read bytes : List ℕ) (count : ℕ) → taken ≡ read
    → read ++ bytes ≡ taken ++ take count bytes ++ drop count bytes
some_left taken read bytes count same =
    ap (λ front. front ++ bytes) (sym same)
    ∙ ap (λ whole. taken ++ whole) (sym (take-append-drop count bytes))
    ∙ sym (append_assoc taken (take count bytes) (drop count bytes))

-- what the law says of the calls of one run
abbrev Passes : List GateCall → Ended → Type 0
Passes calls ended =
    (offered_bytes calls ≡ read_bytes calls)
    × ((rest : List ℕ) × (read_bytes calls ≡ taken_bytes calls ++ rest))
    × (ended ≡ Eof → taken_bytes calls ≡ read_bytes calls)

-- of rounds, and last calls that carried nothing
nothing_more : (rounds : List (List ℕ)) →
    (offered_bytes (round_calls rounds) ≡ read_bytes (round_calls rounds))
    × ((rest : List ℕ) × (read_bytes (round_calls rounds) ≡ taken_bytes (round_calls rounds) ++ rest))
    × (taken_bytes (round_calls rounds) ≡ read_bytes (round_calls rounds))
nothing_more rounds =
    (rounds_offer rounds, ([], nothing_left _ _ (sym (rounds_are_taken rounds))), rounds_are_taken rounds)

passes_at : (rounds : List (List ℕ)) (last : List GateCall) (ended : Ended) → EndsBy last ended
    → Passes (last ++ round_calls rounds) ended
passes_at rounds _ _ AtEnd = let all = nothing_more rounds in (all.0, all.1, λ _. all.2)
passes_at rounds _ _ (AtClose fault) = let all = nothing_more rounds in (all.0, all.1, λ _. all.2)
passes_at rounds _ _ (AtRead fault other) = let all = nothing_more rounds in (all.0, all.1, λ _. all.2)
passes_at rounds _ _ (AtWrite bytes failed most) = (
  ap (λ front. front ++ bytes) (rounds_offer rounds),
  (drop failed.count bytes, some_left _ _ bytes failed.count (rounds_are_taken rounds)),
  λ eof. absurd (cc),
)
passes_at rounds _ _ (AtCredit bytes answer may) = (
  ap (λ front. front ++ bytes) (rounds_offer rounds),
  (drop (reported answer) bytes, some_left _ _ bytes (reported answer) (rounds_are_taken rounds)),
  λ eof. absurd (cc),
)

pub bytes_pass_in_order : BytesPassInOrder
bytes_pass_in_order calls ended trace = rw trace.in_order (passes_at trace.rounds trace.last ended trace.ends)

last_write : (rounds : List (List ℕ)) (last : List GateCall) (n : ℕ) → EndsBy last (BookFull n)
    → (bytes : List ℕ) × (answer : Result ℕ WriteFault) × (earlier : List GateCall)
    × (last ++ round_calls rounds ≡ Wrote bytes answer ∷ Read (Ok bytes) ∷ earlier)
    × MayAnswer Whole (length bytes) answer × (n ≡ reported answer)
last_write rounds _ _ (AtCredit bytes answer may) = (bytes, answer, round_calls rounds, refl, may, refl)

pub full_book_tells_the_last_write : FullBookTellsTheLastWrite
full_book_tells_the_last_write calls n trace = rw trace.in_order (last_write trace.rounds trace.last n trace.ends)
