use Rattle.rwloops.specs.ReadTrace.{read_try_rules}
use Rattle.rwloops.specs.WriteTrace.{write_try_rules}
use Rattle.rwloops.specs.AcceptTrace.{accept_rules}
use Rattle.rwloops.proofs.TurnLemmas.{one_wait_each}
use Rattle.rwloops.proofs.laws.each_block_has_one_wait.Goals as goal

pub returns : goal.returns
returns g c = record {
  read = one_wait_each read_try_rules;
  write = λ len. one_wait_each (write_try_rules len);
  accept = one_wait_each (accept_rules _);
}
