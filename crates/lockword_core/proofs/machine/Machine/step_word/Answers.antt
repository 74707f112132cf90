use Rattle.std.proofs.Common.{◌≡◌, ◌∙◌}
use Rattle.lockword_core.proofs.Words.{true, sym, ap, subst, refl, nat_cmp, insert_entry, Stake, Answer, LockState}
use Rattle.lockword_core.proofs.Words.{census, stake_of, allows, transition, op_of, gained}
use Rattle.lockword_core.specs.WordStep.{refusal_of}
use Rattle.lockword_core.specs.Machine.{state_in}
use Rattle.lockword_core.proofs.StateLemmas.{counted_in}
use Rattle.lockword_core.proofs.MachineLemmas.{HasMade, word_made}
use Rattle.lockword_core.proofs.machine.Machine.step_word.Goals as goal

made : (c : goal.After-self-1)
    → HasMade (record {
      word = c.in-Ok.word;
      signals = c.self.inside.signals;
      destroyed_by = c.self.inside.destroyed_by;
      holders = c.put.new.holders;
    })
    (state_in c.self.inside) c.args.holder (op_of c.args.kind) (gained c.args.kind c.in-Ok.after).0
made c =
    let may : allows (stake_of (state_in c.self.inside) c.args.holder) (op_of c.args.kind) ≡ true =
    subst (λ (s : LockState). allows (stake_of s c.args.holder) (op_of c.args.kind) ≡ true)
    (sym c.self.view_is) c.requires in
    word_made c.self.inside _ c.args.holder c.args.kind c.in-Ok.after c.self.invariant may
    (c.in-Ok.ensures.census (census (state_in c.self.inside))
    (stake_of (state_in c.self.inside) c.args.holder) c.self.invariant.consistent.counts
    (counted_in (state_in c.self.inside) c.args.holder c.self.invariant.consistent) c.self.invariant.word may)
    (c.in_ok-put-in-Ok.ensures.ok
    ∙ ap (λ (p : Answer
    × Stake). insert_entry nat_cmp c.self.inside.holders.entries c.args.holder p.1) c.gained-answer.ensures)
    refl refl

pub invariant_of-self-in-Ok : goal.invariant_of-self-in-Ok
invariant_of-self-in-Ok c = (made c).sound

pub returns-in_ok-put-in-Ok-clause-ok : goal.returns-in_ok-put-in-Ok-clause-ok
returns-in_ok-put-in-Ok-clause-ok c =
    let next : LockState =
    state_in (record {
      word = c.in-Ok.word;
      signals = c.self.inside.signals;
      destroyed_by = c.self.inside.destroyed_by;
      holders = c.put.new.holders;
    }) in
    ap (λ (p : Answer × Stake). (next, p.0)) c.gained-answer.ensures ∙ (made c).made
    ∙ ap (λ (s : LockState). transition s c.args.holder (op_of c.args.kind)) c.self.view_is

pub returns-in-Err-clause-ok : goal.returns-in-Err-clause-ok
returns-in-Err-clause-ok c =
    let s : LockState = state_in c.self.inside in
    let may : allows (stake_of s c.args.holder) (op_of c.args.kind) ≡ true =
    subst (λ (s : LockState). allows (stake_of s c.args.holder) (op_of c.args.kind) ≡ true)
    (sym c.self.view_is) c.requires in
    let same : transition s c.args.holder (op_of c.args.kind) ≡ (s, refusal_of c.in-Err.refused) =
    c.in-Err.ensures.state s c.args.holder c.self.invariant.consistent c.self.invariant.word may in
    ap (λ (a : Answer). (c.args.self.now, a)) c.refusal_of.ensures
    ∙ ap (λ (s : LockState). (s, refusal_of c.in-Err.refused)) (sym c.self.view_is) ∙ sym same
    ∙ ap (λ (s : LockState). transition s c.args.holder (op_of c.args.kind)) c.self.view_is
