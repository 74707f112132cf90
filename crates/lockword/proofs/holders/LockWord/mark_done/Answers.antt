use Rattle.std.proofs.Common.{rules, ap, ◌∙◌}
use Rattle.lockword.specs.Slots.{slots_of}
use Rattle.lockword.proofs.DestroySteps.{marks}
use Rattle.lockword.proofs.holders.LockWord.mark_done.Goals as goal

pub store-requires : goal.store-requires
store-requires g c = (
  search rules,
  search rules,
  marks _ _ _ _ _ c.args.last.stake c.requires.taken c.args.last.saw
      (c.args.last.slots ∙ ap slots_of c.requires.taken),
)
