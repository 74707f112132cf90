use Rattle.std.proofs.Common.{◌≡◌, ◌-◌, [], vec_len}
use Rattle.relay_main.proofs.main_loop.MainLoop.end_others.Given as goal

abbrev pub decreases-loop-at : goal.decreases-loop-at
decreases-loop-at g l = vec_len l.self.checking - l.at

-- where none is wanted each check ends
abbrev pub invariant-loop-at : goal.invariant-loop-at
invariant-loop-at g l = record {
  first : l.initial.wanted.items ≡ [] → l.at ≡ 0;
  none : l.initial.wanted.items ≡ [] → l.wanted.items ≡ [];
  listening : l.self.listening ≡ l.initial.self.listening;
  paths : l.self.paths ≡ l.initial.self.paths;
}
