use Rattle.lockword.proofs.HeadlineLemmas.{stood}
use Rattle.lockword.proofs.holders.LockWord.look.Goals as goal

pub returns-clause-headline : goal.returns-clause-headline
returns-clause-headline g c = stood _ _ c.look_in.ensures.looks.shown
