use Rattle.std.proofs.Common.{◌≡◌, ◌<◌, ◌-◌, ◌∙◌}
use Rattle.lockword_core.proofs.Words.{ℕ, true, sym, ap, subst, refl, LockState, stake_of, allows}
use Rattle.lockword_core.specs.declared.stake.Op.TheVariants as op
use Rattle.lockword_core.proofs.MachineLemmas.{wake_made}
use Rattle.lockword_core.proofs.machine.Machine.wake.Goals as goal

pub invariant_of-self-2 : goal.invariant_of-self-2
invariant_of-self-2 c =
    (wake_made c.self.inside _ c.args.holder c.args.dir c.in-Some.signals c.self.invariant
    (subst (λ (s : LockState). allows (stake_of s c.args.holder) (op.Wake c.args.dir) ≡ true)
    (sym c.self.view_is) c.requires)
    (subst (λ (n : ℕ). 0 < n) c.of.ensures c.in-Some.ensures.some)
    (c.in-Some.ensures.takes_one ∙ ap (λ (n : ℕ). n - 1) c.of.ensures)
    c.in_ok-put.ensures.ok refl c.with-self-inside.ensures refl).sound
