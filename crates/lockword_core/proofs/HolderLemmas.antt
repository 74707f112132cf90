-- The stakes of the holders, and the word, once one of them made a move.
use Rattle.std.proofs.Common.{◌≡◌, ◌∙◌}
use Rattle.lockword_core.proofs.Words.{ℕ, true, List, sym, ap, subst, Option, unwrap_or, nat_cmp, lookup}
use Rattle.lockword_core.proofs.Words.{values_of, insert_entry, is_at, Stake, Op, Answer, LockState, census, stake_of}
use Rattle.lockword_core.proofs.Words.{encoded, IsConsistent, Change, Outcome, moved, allows, outcome, changed}
use Rattle.lockword_core.proofs.Words.{with_stake, with_change}
use Rattle.lockword_core.specs.declared.stake.Stake.TheVariants as stake
use Rattle.lockword_core.proofs.CountLemmas.{changes-insert}
use Rattle.lockword_core.proofs.InvariantPreserved.{balance_of, encoded_of}
use Rattle.lockword_core.proofs.StateLemmas.{IsBeside, Keeps, beside_keeps, census-change, names-change}
use Rattle.lockword_core.proofs.EndHolders.{other_key, lookup-at, lookup-other}

-- the holder that moved has its new stake
pub stake-own : (s : LockState) (holder : ℕ) (new : Stake) (change : Change)
    → stake_of (with_change (with_stake s holder new) holder change) holder ≡ new
stake-own s holder new change =
    ap (λ (es : List (ℕ × Stake)). unwrap_or (lookup (is_at (nat_cmp holder)) es) stake.Free)
    (names-change (with_stake s holder new) holder change)
    ∙ ap (λ (found : Option Stake). unwrap_or found stake.Free) (lookup-at holder new s.holders)

-- each other holder has what it had
pub stake-other : (s : LockState) (holder q : ℕ) (new : Stake) (change : Change) → (q ≡ holder → ⊥)
    → stake_of (with_change (with_stake s holder new) holder change) q ≡ stake_of s q
stake-other s holder q new change ne =
    ap (λ (es : List (ℕ × Stake)). unwrap_or (lookup (is_at (nat_cmp q)) es) stake.Free)
    (names-change (with_stake s holder new) holder change)
    ∙ ap (λ (found : Option Stake). unwrap_or found stake.Free)
    (lookup-other holder q new s.holders (other_key q holder ne))

-- an operation beside the state word leaves it as it is
pub beside_word : (s : LockState) (holder : ℕ) (o : Op) (a : Answer) (new : Stake) (change : Change) → IsConsistent s
    → IsBeside o → allows (stake_of s holder) o ≡ true
    → outcome (census s) (stake_of s holder) o ≡ moved a new change
    → encoded (census (with_change (with_stake s holder new) holder change)) ≡ encoded (census s)
beside_word s holder o a new change good beside may out =
    let n : ℕ = encoded (census s) in
    let stakes : List Stake = values_of (insert_entry nat_cmp s.holders holder new) in
    let keeps : Keeps (census s) (stake_of s holder) n (moved a new change) =
    subst (λ (x : Outcome). Keeps (census s) (stake_of s holder) n x) out
    (beside_keeps (census s) (stake_of s holder) o n beside (balance_of (census s) good.counts) may) in
    ap encoded (census-change s holder new change)
    ∙ sym (encoded_of (changed (census s) stakes change) n
    (keeps stakes (changes-insert s.holders holder new good.names)))
