use Rattle.fd_descriptor.proofs.poll_cell.PollCell.evict.Goals as goal

pub returns : goal.returns
returns g c =
    record {
      before = c.deref_mut.result.now;
      after = c.evict-parked.new.self;
      evicted = c.evict-parked.ensures.after;
      nobody = c.evict-parked.ensures.parked;
    }
