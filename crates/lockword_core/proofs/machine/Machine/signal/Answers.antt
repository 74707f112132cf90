use Rattle.std.proofs.Common.{◌≡◌, ◌<◌, ◌+◌, ◌∙◌}
use Rattle.lockword_core.proofs.Words.{ℕ, true, sym, ap, subst, refl, MAX_SIGNALS, Stake, LockState, stake_of, allows}
use Rattle.lockword_core.proofs.Words.{stake_after_signal}
use Rattle.lockword_core.specs.declared.stake.Op.TheVariants as op
use Rattle.lockword_core.proofs.MachineLemmas.{signal_made}
use Rattle.lockword_core.proofs.machine.Machine.signal.Goals as goal

pub invariant_of-self-2 : goal.invariant_of-self-2
invariant_of-self-2 c =
    (signal_made c.self.inside _ c.args.holder c.args.dir c.stake_after_signal-left.result c.in-Some.signals
    c.self.invariant
    (subst (λ (s : LockState). allows (stake_of s c.args.holder) (op.Signal c.args.dir) ≡ true)
    (sym c.self.view_is) c.requires)
    (subst (λ (n : ℕ). n < MAX_SIGNALS) c.of.ensures c.in-Some.ensures.room)
    (c.in-Some.ensures.adds_one ∙ ap (λ (n : ℕ). n + 1) c.of.ensures)
    (c.stake_after_signal-left.ensures ∙ ap (λ (own : Stake). stake_after_signal c.args.dir own)
    (c.stake.ensures ∙ ap (λ (s : LockState). stake_of s c.args.holder) (sym c.self.view_is)))
    c.in_ok-put.ensures.ok refl c.with-self-inside.ensures refl).sound
