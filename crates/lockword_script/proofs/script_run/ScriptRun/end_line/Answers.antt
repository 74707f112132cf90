use Rattle.std.proofs.Common.{inl, inr, refl, subst}
use Rattle.lockword_script.specs.Script.{IsBadLine}
use Rattle.lockword_script.proofs.script_run.ScriptRun.end_line.Goals as goal

-- a line too many
pub returns-in-Ok-clause-bad : goal.returns-in-Ok-clause-bad
returns-in-Ok-clause-bad c = (refl, inl c.if-self-gt-MAX_LINES.true, c.in-Ok.ensures.ok)

-- a line that says nothing
pub returns-in-Ok-refuse-clause-bad : goal.returns-in-Ok-refuse-clause-bad
returns-in-Ok-refuse-clause-bad c =
    (refl, inr (subst IsBadLine c.line.ensures.bytes c.in-None.ensures.none), c.in-Ok-refuse.ensures.ok)
