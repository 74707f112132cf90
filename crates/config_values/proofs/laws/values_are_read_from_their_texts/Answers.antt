use Rattle.config_values.proofs.ModeLemmas.{mode_complete, mode_sound}
use Rattle.config_values.proofs.RateLemmas.{rate_complete, rate_sound}
use Rattle.config_values.proofs.TimeLemmas.{time_complete, time_sound}
use Rattle.config_values.proofs.laws.values_are_read_from_their_texts.Goals as goal

pub returns : goal.returns
returns c = record {
  times = λ text ms. (time_sound text ms, time_complete text ms);
  rates = λ text rate. (rate_sound text rate, rate_complete text rate);
  modes = λ text mode. (mode_sound text mode, mode_complete text mode);
}
