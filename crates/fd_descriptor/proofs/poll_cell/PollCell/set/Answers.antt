use Rattle.fd_descriptor.proofs.poll_cell.PollCell.set.Goals as goal

pub returns-clause-set : goal.returns-clause-set
returns-clause-set g c =
    record {
      asked = c.in_ok-parked.ensures.asked;
      before = c.deref_mut.result.now;
      after = c.set_in.new.watched;
      open_before = λ calls stands. c.in_ok-parked.ensures.was_open calls stands;
      set = λ calls stands. c.in_ok-parked.ensures.set calls stands;
    }
