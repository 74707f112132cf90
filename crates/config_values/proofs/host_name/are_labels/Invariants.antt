use Rattle.std.proofs.Common.{◌≡◌, length}
use Rattle.config_values.specs.HostName.{are_labels, labels_of}
use Rattle.config_values.proofs.host_name.are_labels.Given as goal

abbrev pub decreases-loop-label : goal.decreases-loop-label
decreases-loop-label l = length l.rest

abbrev pub invariant-loop-label : goal.invariant-loop-label
invariant-loop-label l = are_labels (labels_of l.text) ≡ are_labels (labels_of l.rest)
