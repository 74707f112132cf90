use Rattle.std.proofs.Common.{◌≡◌}
use Rattle.lockword_core.proofs.Words.{true, sym, subst, refl, LockState, stake_of, allows}
use Rattle.lockword_core.specs.declared.stake.Op.TheVariants as op
use Rattle.lockword_core.proofs.MachineLemmas.{destroy_made}
use Rattle.lockword_core.proofs.machine.Machine.destroy.Goals as goal

pub invariant_of-self-2 : goal.invariant_of-self-2
invariant_of-self-2 c =
    (destroy_made c.self.inside _ c.args.holder c.self.invariant
    (subst (λ (s : LockState). allows (stake_of s c.args.holder) op.Destroy ≡ true) (sym c.self.view_is) c.requires)
    c.in_ok-put.ensures.ok refl refl refl).sound
