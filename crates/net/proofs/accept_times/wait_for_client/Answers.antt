use Rattle.net.proofs.Accepts.{refused_so}
use Rattle.net.proofs.accept_times.wait_for_client.Goals as goal

-- the fault that tells why the wait was refused
pub returns-in-Err : goal.returns-in-Err
returns-in-Err g c =
    record { faults = refused_so c.in-Err.refusal c.from.result c.from.ensures }
