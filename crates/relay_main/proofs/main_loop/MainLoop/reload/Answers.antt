use Rattle.std.proofs.Common.{refl}
use Rattle.relay_main.proofs.main_loop.MainLoop.reload.Goals as goal

-- rules that were counted are told
pub returns-in-Ok-serve_rules-clause-refused : goal.returns-in-Ok-serve_rules-clause-refused
returns-in-Ok-serve_rules-clause-refused g c = λ untold. absurd (untold c.rule_count.result refl)
