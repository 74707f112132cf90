use Rattle.proxy_header.proofs.Stays.{faults_stay, headers_stay}
use Rattle.proxy_header.proofs.laws.what_follows_changes_nothing.Goals as goal

pub returns : goal.returns
returns c = record { headers = λ bytes other size said. headers_stay bytes other size said; faults = faults_stay }
