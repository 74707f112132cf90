use Rattle.relay_loops.proofs.loops.LoopContext.begins.Goals as goal

-- no target was tried for it before
pub begins_with-requires : goal.begins_with-requires
begins_with-requires g c = record {
  none = c.none.result;
  untried = c.none.ensures;
  begun = c.in-Ok.ensures.trial;
}

pub returns-in-Err-clause-refused : goal.returns-in-Err-clause-refused
returns-in-Err-clause-refused g c = (c.in-Err.none, c.in-Err.ensures.none, c.last.ensures)
