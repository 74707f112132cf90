use Rattle.std.proofs.Common.{◌∙◌, ap, not, rules}
use Rattle.std.proofs.lemmas.Fn.{filter_same}
use Rattle.std.specs.Prelude.{filter}
use Rattle.relay_admin.specs.declared.rules.addr.Addr.{Addr}
use Rattle.relay_facts.specs.HostAnswers.{is_among}
use Rattle.relay_facts.proofs.host_answers.coming.Goals as goal

pub returns : goal.returns
returns c =
    filter_same _ (λ (one : Addr). not (is_among one c.args.known.now)) _ (λ x b f' k. search rules) _ _ c.retain.ensures.filtered
    ∙ ap (filter (λ (one : Addr). not (is_among one c.args.known.now))) c.in_ok-all.ensures.items
